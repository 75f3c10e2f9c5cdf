use Rattle.std.proofs.Common.{IsSome, sym, ap, subst, ◌∙◌, slice_index_or}
use Rattle.pl_desc.specs.Rows.{at, count_at}
use Rattle.pl_desc.specs.Descs.{Descs}
use Rattle.pl_state.proofs.holders.EachHeld.{next_member, next_few, held_next}
use Rattle.pl_state.proofs.holding.hold_all.Goals as goal

pub hold-requires-clause-here : goal.hold-requires-clause-here
hold-requires-clause-here g c =
    let keys = c.args.keys.now in
    let key = slice_index_or keys c.loop-place.place 0 in
    let was = c.loop-place.invariant in
    subst (λ (d : Descs). IsSome (at d.opened key)) (sym was.rest) (c.requires.here key (next_member keys c.loop-place.place c.loop-place-test.true (count_at c.args.descs.now.loose) (count_at c.loop-place.descs.loose) was.loose))

pub hold-requires-clause-few : goal.hold-requires-clause-few
hold-requires-clause-few g c =
    next_few c.args.keys.now c.loop-place.place c.loop-place-test.true (count_at c.args.descs.now.loose) (count_at c.loop-place.descs.loose) c.loop-place.invariant.loose c.requires.few

pub loop-place-preserved : goal.loop-place-preserved
loop-place-preserved g c =
    let was = c.loop-place.invariant in
    let told = c.hold.ensures in
    record {
      loose = held_next c.args.keys.now c.loop-place.place c.loop-place-test.true (count_at c.args.descs.now.loose) (count_at c.loop-place.descs.loose) was.loose (count_at c.hold.new.self.loose) told.loose;
      rest = told.rest ∙ ap (λ (d : Descs). record d { loose = c.hold.new.self.loose }) was.rest;
      tidy = told.tidy;
    }
