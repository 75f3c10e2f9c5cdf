use Rattle.std.proofs.Common.{ap}
use Rattle.pl_state.specs.Contents.{nodes_of}
use Rattle.pl_state.specs.LastHold.{Releases}
use Rattle.pl_state.proofs.holders.EachInTurn.{released_next, held_next, there_next}
use Rattle.pl_state.proofs.last_hold.release_all.Goals as goal

pub loop-place-preserved : goal.loop-place-preserved
loop-place-preserved g c =
    let old = c.args.descs.now in
    let mid = c.loop-place.descs in
    let new = c.release.new.descs in
    let before = nodes_of c.args.nodes.now in
    let between = nodes_of c.loop-place.nodes in
    let after = nodes_of c.release.new.nodes in
    let keys = c.args.keys.now in
    let place = c.loop-place.place in
    let was = c.loop-place.invariant in
    let told = c.release.ensures in
    let one : Releases mid new between after _ = record { opened = told.opened; loose = told.loose; tables = told.tables; limits = told.limits; tidy = told.tidy; shrinks = told.shrinks; stays = λ last. ap nodes_of (told.stays last); leaves = told.leaves } in
    record {
      released = released_next keys place c.loop-place-test.true old mid new before between after was.released was.held was.there was.tidy one;
      held = held_next keys place c.loop-place-test.true old mid new before between after was.released was.held was.there was.tidy one;
      there = there_next keys place c.loop-place-test.true old mid new before between after was.released was.held was.there was.tidy one;
      tidy = told.tidy;
    }
