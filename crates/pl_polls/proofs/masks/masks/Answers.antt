use Rattle.std.proofs.Common.{◌≡◌, ◌++◌, ◌∷◌, [], ◌+◌, ℤ, pos, List, drop, get_or, sym, ap, ◌∙◌, rules, append_assoc, w32, to_z, of_z}
use Rattle.std.proofs.lemmas.List.{drop_more}
use Rattle.pl_model.specs.declared.flags.PollMask.{PollMask}
use Rattle.pl_polls.specs.Masks.{masks_from}
use Rattle.pl_polls.proofs.masks.masks.Goals as goal

pub loop-fd-preserved : goal.loop-fd-preserved
loop-fd-preserved g c =
    let k = c.args.kernel.now in
    let by = c.args.descriptions in
    let before = c.loop-fd.before in
    let entries : List (ℤ × PollMask) = c.args.entries.now in
    let none : ℤ × PollMask = (pos 0, record { 0 = 0 }) in
    let entry = get_or entries c.loop-fd.fd-index none in
    let rest = drop (c.loop-fd.fd-index + 1) entries in
    let left = c.loop-fd.found.items in
    let same : to_z w32 (of_z w32 entry.0) ≡ entry.0 = search rules in
    record {
      found =
          ap (λ xs. xs ++ masks_from k by c.next_mask-mask.new.before rest) c.push_reserved.ensures.items
          ∙ append_assoc left (c.next_mask-mask.result ∷ []) (masks_from k by c.next_mask-mask.new.before rest)
          ∙ ap (λ xs. left ++ xs) (sym (c.next_mask-mask.ensures.mask rest))
          ∙ ap (λ z. left ++ masks_from k by before ((z, entry.1) ∷ rest)) same
          ∙ ap (λ es. left ++ masks_from k by before es) (sym (drop_more entries c.loop-fd.fd-index none c.loop-fd-test.true))
          ∙ c.loop-fd.invariant.found;
      few = search rules;
      long = search rules;
      room = search rules;
    }
