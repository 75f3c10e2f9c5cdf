use Rattle.std.proofs.Common.{◌≡◌, ◌++◌, ◌∙◌, List, subst, string_bytes, OnOk}
use Rattle.pl_model.specs.declared.history.Entry.{Entry}
use Rattle.pl_recording.specs.Record.{made_in, recorded}
use Rattle.pl_locked.proofs.journal.Journal.push_script.Goals as goal

pub returns-clause-done : goal.returns-clause-done
returns-clause-done g c =
    subst (λ (es : List (Entry g.row.A.Denot)). OnOk c.push_record.result (string_bytes c.push_record.new.text ≡ string_bytes c.args.text.now ++ recorded c.args.limits (made_in es)))
    (c.deref.ensures.value ∙ c.self.view_is) c.push_record.ensures.done
