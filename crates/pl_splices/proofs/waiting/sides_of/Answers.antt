use Rattle.std.proofs.Common.{◌≡◌, Some, sym, subst, nat_eq, IsSome}
use Rattle.pl_model.specs.Map.{get}
use Rattle.pl_desc.specs.Rows.{at}
use Rattle.pl_state.specs.Contents.{Contents}
use Rattle.pl_state.specs.Sound.{IsSound}
use Rattle.pl_state.proofs.Known.{Parts, known, parts_of}
use Rattle.pl_splices.proofs.by_call.Retrying.{first_there, second_there, waits_to_move}
use Rattle.pl_splices.proofs.waiting.sides_of.Given.{Over}
use Rattle.pl_splices.proofs.waiting.sides_of.Goals.{After-kernel}
use Rattle.pl_splices.proofs.waiting.sides_of.Goals as goal

module _ (g : Over) (c : After-kernel g) where
  abbrev A : Type 0
  A = g.row.A.Denot

  abbrev parts : Parts A
  parts = parts_of (known c.kernel.inside c.kernel.invariant)

  here : get nat_eq c.kernel.inside.parked.calls c.args.number ≡ Some c.requires.call
  here = subst (λ (z : Contents A). get nat_eq z.calls.calls c.args.number ≡ Some c.requires.call) (sym c.kernel.view_is) c.requires.here

pub kept_side-requires : goal.kept_side-requires
kept_side-requires g c =
    let v = (goal.at.kept_side-requires g c).After-kernel in
    let w = c.requires in
    subst (λ (z : Contents g.row.A.Denot). IsSome (at z.opened c.args.waiting.from)) c.kernel.view_is (first_there (parts g v) c.args.number w.call (here g v) c.args.waiting.from c.args.waiting.to w.kept)

pub kept_side-requires-2 : goal.kept_side-requires-2
kept_side-requires-2 g c =
    let v = (goal.at.kept_side-requires-2 g c).After-kernel in
    let w = c.requires in
    subst (λ (z : Contents g.row.A.Denot). IsSome (at z.opened c.args.waiting.to)) c.kernel.view_is (second_there (parts g v) c.args.number w.call (here g v) c.args.waiting.from c.args.waiting.to w.kept)

pub returns : goal.returns
returns g c =
    let k = c.args.kernel.now in
    let sound = subst (λ z. IsSound g.row.A.Denot z) c.kernel.view_is c.kernel.invariant.0 in
    waits_to_move k sound c.args.number c.args.waiting c.requires (record { from = c.kept_side.result; to = c.kept_side-2.result })
    c.kept_side.ensures.key c.kept_side-2.ensures.key c.kept_side.ensures.given c.kept_side-2.ensures.given c.kept_side.ensures.on c.kept_side-2.ensures.on
