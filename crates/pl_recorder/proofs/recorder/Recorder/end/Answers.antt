use Rattle.std.proofs.Common.{◌≡◌, ◌++◌, List, Option, ℕ, drop, string_bytes, subst, sym, MatchOption}
use Rattle.std.specs.Prelude.{⊤}
use Rattle.pl_recording.specs.Record.{ended, comment_text}
use Rattle.pl_recorder.specs.Unread.{unread, line_of, text_before}
use Rattle.pl_recorder.proofs.Entries.{ends}
use Rattle.pl_recorder.proofs.recorder.Recorder.end.Goals as goal

pub returns-then-is_some-clause-made : goal.returns-then-is_some-clause-made
returns-then-is_some-clause-made g c =
    let old = c.args.self.now in
    let front = drop old.read (string_bytes old.reading) in
    let comment = ended (comment_text c.args.reply) in
    subst (λ (all : List ℕ). MatchOption (line_of old) ⊤ (λ line. all ≡ unread old ++ (line ++ comment))) (sym c.settle-written.ensures.unread)
    (subst (λ (z : Option ℕ). MatchOption (line_of old) ⊤ (λ line. front ++ (text_before z (string_bytes old.text) ++ comment) ≡ unread old ++ (line ++ comment))) (sym c.take.ensures.after)
    (ends front (string_bytes old.text) old.line old.last comment old.kept.begun))
