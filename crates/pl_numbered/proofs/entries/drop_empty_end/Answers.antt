use Rattle.std.proofs.Common.{◌≡◌, ◌++◌, [], ◌∷◌, ◌+◌, None, Some, ap, sym, ◌∙◌, subst, slice_index_or, arith}
use Rattle.std.specs.Option.{option_to_list}
use Rattle.pl_numbered.specs.Entries.{values_in, empties}
use Rattle.pl_numbered.specs.Rising.{Rise}
use Rattle.pl_numbered.proofs.Changing.{none-of, drop-values, drop-count, drop-rise}
use Rattle.pl_numbered.proofs.entries.drop_empty_end.Goals as goal

-- the last entry is dropped, which is empty
pub loop-end-preserved-else-is_some-2 : goal.loop-end-preserved-else-is_some-2
loop-end-preserved-else-is_some-2 g c =
    let es = c.loop-end.entries.items in
    let new = c.pop-ended.new.self.items in
    let e = c.index.result.now in
    let len = c.len.ensures in
    let end = c.in-Some.ensures in
    let ok = c.loop-end.entries.ok.0 in
    let split : es ≡ new ++ e ∷ [] =
    c.pop-ended.ensures.items
    ∙ ap (λ o. new ++ option_to_list o)
    (c.pop-ended.ensures.value e (omega (arith, len, end, ok))
    ∙ ap (λ k. Some (slice_index_or es k e)) (omega (arith, len, end, ok))
    ∙ ap (λ z. Some z) (sym c.index.ensures)) in
    let empty : e.1 ≡ None = none-of e.1 (sym c.is_some.ensures ∙ c.if-is_some.false) in
    let count : empties es ≡ empties new + 1 = ap empties split ∙ drop-count new e empty in
    let was = c.loop-end.invariant.0 in (
      omega (arith, count, was),
      drop-values new e empty ∙ ap values_in (sym split) ∙ c.loop-end.invariant.1,
      λ next rise. drop-rise new e empty next (subst (λ z. Rise 0 next z) split (c.loop-end.invariant.2 next rise)),
    )
