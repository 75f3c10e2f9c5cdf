use Rattle.std.proofs.Common.{◌≡◌, ◌^◌, None, ap, sym, ◌∙◌, subst, slice_set, arith}
use Rattle.pl_numbered.specs.Entries.{values_in, empties}
use Rattle.pl_numbered.specs.Numbered.{values}
use Rattle.pl_numbered.specs.Rising.{Rise}
use Rattle.pl_numbered.proofs.Changing.{Found, found-in, entry-value, still-empty, leaves, emptied-rise, emptied-count}
use Rattle.pl_numbered.proofs.Rising.{at-within, without-absent}
use Rattle.pl_numbered.proofs.numbered.Numbered.take.Given.{Over}
use Rattle.pl_numbered.proofs.numbered.Numbered.take.Goals.{After-take, After-drop_empty_end-self}
use Rattle.pl_numbered.proofs.numbered.Numbered.take.Goals as goal

-- there is no entry of the number
pub returns-in_err-place-clause-rest : goal.returns-in_err-place-clause-rest
returns-in_err-place-clause-rest g c = sym (without-absent c.args.number (values c.args.self.now) c.in_err-place.ensures.none)

pub index_mut-requires : goal.index_mut-requires
index_mut-requires g c =
    let l = at-within c.args.number c.in_ok-place.place c.args.self.now.entries.items c.in_ok-place.ensures.here in
    omega (arith, l, c.args.self.now.entries.ok.0)

-- the entry of the number
module _ (g : Over) (c : After-take g) where
  abbrev found : Found g.row.T.Denot
  found = found-in c.args.self.now c.args.number c.in_ok-place.place c.index_mut.result.now c.in_ok-place.ensures.here c.index_mut.ensures.value

pub returns-in_err-value-clause-value : goal.returns-in_err-value-clause-value
returns-in_err-value-clause-value g c =
    let w = (goal.at.returns-in_err-value-clause-value g c).After-take in
    c.from_residual-in_err-value.ensures ∙ sym (entry-value (found g w) ∙ sym c.in_err-value.ensures.value)

pub returns-in_err-value-clause-rest : goal.returns-in_err-value-clause-rest
returns-in_err-value-clause-rest g c =
    let w = (goal.at.returns-in_err-value-clause-rest g c).After-take in
    let none = sym c.in_err-value.ensures.value in
    ap (λ o. values_in (slice_set c.args.self.now.entries.items c.in_ok-place.place (c.index_mut.result.now.0, o))) c.take.ensures.after
    ∙ ap values_in (still-empty (found g w) none)
    ∙ sym (without-absent c.args.number (values c.args.self.now) (entry-value (found g w) ∙ none))

-- what it leaves once its value is taken
module _ (g : Over) (c : After-drop_empty_end-self g) where
  emptied : slice_set c.args.self.now.entries.items c.in_ok-place.place (c.index_mut.result.now.0, c.take.new.self) ≡ slice_set c.args.self.now.entries.items c.in_ok-place.place (c.index_mut.result.now.0, None)
  emptied = ap (λ o. slice_set c.args.self.now.entries.items c.in_ok-place.place (c.index_mut.result.now.0, o)) c.take.ensures.after

pub drop_empty_end-self-requires : goal.drop_empty_end-self-requires
drop_empty_end-self-requires g c =
    let w = (goal.at.drop_empty_end-self-requires g c).After-take in
    emptied-count (found g w) c.in_ok-value.value (sym c.in_ok-value.ensures.value) ∙ ap (λ o. empties (slice_set c.args.self.now.entries.items c.in_ok-place.place (c.index_mut.result.now.0, o))) (sym c.take.ensures.after)

pub invariant_of-self-2 : goal.invariant_of-self-2
invariant_of-self-2 g c =
    let w = goal.at.invariant_of-self-2 g c in
    record {
      kept = record {
        rise = c.drop_empty_end-self.ensures.rise (2 ^ 64) (subst (λ es. Rise 0 (2 ^ 64) es) (sym (emptied g w.After-drop_empty_end-self)) (emptied-rise (found g w.After-take) c.in_ok-value.value (sym c.in_ok-value.ensures.value)));
        count = c.drop_empty_end-self.ensures.count;
        full = c.drop_empty_end-self.ensures.full;
      };
    }

pub returns-clause-value : goal.returns-clause-value
returns-clause-value g c = let w = (goal.at.returns-clause-value g c).After-take in c.in_ok-value.ensures.value ∙ sym (entry-value (found g w))

pub returns-clause-rest : goal.returns-clause-rest
returns-clause-rest g c =
    let w = (goal.at.returns-clause-rest g c).After-take in
    c.close_gaps.ensures
    ∙ c.drop_empty_end-self.ensures.same
    ∙ ap (λ o. values_in (slice_set c.args.self.now.entries.items c.in_ok-place.place (c.index_mut.result.now.0, o))) c.take.ensures.after
    ∙ leaves (found g w) c.in_ok-value.value (sym c.in_ok-value.ensures.value)
