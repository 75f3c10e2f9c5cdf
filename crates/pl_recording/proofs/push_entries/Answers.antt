use Rattle.std.proofs.Common.{◌≡◌, ◌∷◌, ◌+◌, ◌<◌, suc, [], drop, length, refl, sym, ap, subst, ◌∙◌, string_bytes, rules, arith}
use Rattle.std.proofs.Math.Seq.{drop-cons}
use Rattle.std.proofs.lemmas.List.{drop_all}
use Rattle.std.specs.List.{flat_map}
use Rattle.std.proofs.lemmas.List.{append-nil}
use Rattle.std.proofs.lemmas.Result.{err_from_is_err_and}
use Rattle.pl_lines.proofs.Pushing.{IsSoFar, one_more, stopped, all_put}
use Rattle.pl_recording.specs.Record.{entry_text, made_in}
use Rattle.pl_recording.proofs.push_entries.Goals as goal

pub loop-entry-init : goal.loop-entry-init
loop-entry-init g c = record { put = []; added = sym (append-nil _); left = refl }

pub returns-in_err-push_front_of_entry : goal.returns-in_err-push_front_of_entry
returns-in_err-push_front_of_entry g c =
    let is = err_from_is_err_and c.from_residual.result c.from_residual.ensures.1 in
    stopped c.loop-entry.invariant _ is.1 c.push_front_of_entry.ensures

pub loop-entry-preserved : goal.loop-entry-preserved
loop-entry-preserved g c =
    let entries = c.args.entries.now in
    let i = c.loop-entry.entry-index in
    let e = c.entry-item.result in
    let less : i < length entries = search rules in
    let more : suc i ≡ i + 1 = omega arith in
    let next : drop i entries ≡ e ∷ drop (i + 1) entries = drop-cons entries i e less ∙ ap (λ x. x ∷ drop (suc i) entries) (sym c.entry-item.is) ∙ ap (λ n. e ∷ drop n entries) more in
    one_more c.loop-entry.invariant _ _ c.in_ok-push_front_of_entry.was c.push_front_of_entry.ensures (ap (λ l. flat_map entry_text (made_in l)) next)

pub returns : goal.returns
returns g c =
    let entries = c.args.entries.now in
    let none : drop c.loop-entry.entry-index entries ≡ [] = drop_all c.loop-entry.entry-index entries (search rules) in
    all_put tt (subst (λ l. IsSoFar (flat_map entry_text (made_in entries)) (string_bytes c.args.text.now) (string_bytes c.loop-entry.text) (flat_map entry_text (made_in l))) none c.loop-entry.invariant)
