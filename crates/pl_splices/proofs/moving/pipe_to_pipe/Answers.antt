use Rattle.std.proofs.Common.{◌≡◌, ◌≤◌, true, false, Some, IfSome, length, take, sym, subst, ◌∙◌, ap, None}
use Rattle.pl_model.specs.Packets.{lose, gain}
use Rattle.pl_model.specs.declared.node.Node.TheVariants as node
use Rattle.pl_model.specs.Map.{change_at}
use Rattle.pl_model.specs.Transfer.{room as pipe_room}
use Rattle.pl_model.specs.State.{Pipe}
use Rattle.pl_desc.specs.Rows.{at}
use Rattle.pl_nodes.specs.Nodes.{bytes_of, memory_of}
use Rattle.pl_nodes.specs.Moving.{HoldsBytes, HasRoom, SharesSlots}
use Rattle.pl_splices.proofs.by_call.Asking.{holds_bytes, has_room}
use Rattle.pl_state.specs.KernelView.{view_of}
use Rattle.pl_state.specs.Contents.{Contents, nodes_of}
use Rattle.pl_state.specs.Opens.{OpenOn}
use Rattle.pl_state.specs.Sound.{IsSound}
use Rattle.pl_state.proofs.Known.{moved_view}
use Rattle.pl_state.proofs.by_call.Begun.{pipe_there}
use Rattle.pl_splices.specs.Moves.{GoesOver}
use Rattle.pl_splices.proofs.by_call.Moving.{copied, copied_sound, moved_over, moved_sound}
use Rattle.pl_splices.proofs.moving.pipe_to_pipe.Given.{Over}
use Rattle.pl_splices.proofs.moving.pipe_to_pipe.Goals.{After-kernel}
use Rattle.pl_splices.proofs.moving.pipe_to_pipe.Goals as goal

-- the two pipes
module _ (g : Over) (c : After-kernel g) where
  abbrev k : Contents g.row.A.Denot
  k = view_of c.kernel.inside

  on_p : OpenOn k c.args.from.key (node.Pipe c.args.source)
  on_p = subst (λ z. OpenOn z c.args.from.key (node.Pipe c.args.source)) (sym c.kernel.view_is) c.requires.source

  on_q : OpenOn k c.args.to.key (node.Pipe c.args.target)
  on_q = subst (λ z. OpenOn z c.args.to.key (node.Pipe c.args.target)) (sym c.kernel.view_is) c.requires.target

  abbrev p : (x : Pipe) × (at k.nodes.pipes c.args.source ≡ Some x)
  p = pipe_there k c.kernel.invariant.0.whole c.args.from.key c.args.source on_p

  abbrev q : (x : Pipe) × (at k.nodes.pipes c.args.target ≡ Some x)
  q = pipe_there k c.kernel.invariant.0.whole c.args.to.key c.args.target on_q

  held : c.args.count ≤ length p.0.bytes
  held = subst (λ z. IfSome z (λ x. c.args.count ≤ length x.bytes)) p.1 (subst (λ (z : Contents g.row.A.Denot). IfSome (at z.nodes.pipes c.args.source) (λ x. c.args.count ≤ length x.bytes)) (sym c.kernel.view_is) c.requires.held)

  source_holds : HoldsBytes (at k.nodes.pipes c.args.source) c.args.count
  source_holds =
      holds_bytes (at k.nodes.pipes c.args.source) p.0 p.1 (subst (λ (z : Contents g.row.A.Denot). IfSome (at z.nodes.pipes c.args.source) (λ x. x.packets ≡ None)) (sym c.kernel.view_is) c.requires.from_bytes) c.args.count
      (subst (λ (z : Contents g.row.A.Denot). IfSome (at z.nodes.pipes c.args.source) (λ x. c.args.count ≤ length x.bytes)) (sym c.kernel.view_is) c.requires.held)

  target_has_room : HasRoom (at k.nodes.pipes c.args.target) c.args.count
  target_has_room =
      has_room (at k.nodes.pipes c.args.target) q.0 q.1 (subst (λ (z : Contents g.row.A.Denot). IfSome (at z.nodes.pipes c.args.target) (λ x. x.packets ≡ None)) (sym c.kernel.view_is) c.requires.to_bytes) c.args.count
      (subst (λ (z : Contents g.row.A.Denot). IfSome (at z.nodes.pipes c.args.target) (λ x. c.args.count ≤ pipe_room x)) (sym c.kernel.view_is) c.requires.room)

  -- the bytes that go over
  front : take c.args.count (bytes_of (at k.nodes.pipes c.args.source)) ≡ take c.args.count p.0.bytes
  front = ap (λ z. take c.args.count (bytes_of z)) p.1

pub invariant_of-kernel : goal.invariant_of-kernel
invariant_of-kernel g c =
    let w = (goal.at.invariant_of-kernel g c).After-kernel in
    let after = c.in_ok-copy_pipe_pipe.ensures.ok ∙ ap (λ z. change_at c.args.target (gain z) (at (k g w).nodes.pipes)) (front g w) in
    (subst (IsSound g.row.A.Denot) (moved_view c.kernel.inside c.copy_pipe_pipe.new.self c.in_ok-copy_pipe_pipe.ensures.files) (copied_sound (k g w) c.kernel.invariant.0 c.args.from c.args.to c.args.source c.args.target (on_p g w) (on_q g w) c.requires.apart (p g w).0 (q g w).0 (p g w).1 (q g w).1 c.args.count (held g w) (nodes_of c.copy_pipe_pipe.new.self) after), c.kernel.invariant.1)

pub invariant_of-kernel-in-Continue-branch-2 : goal.invariant_of-kernel-in-Continue-branch-2
invariant_of-kernel-in-Continue-branch-2 g c =
    let w = (goal.at.invariant_of-kernel-in-Continue-branch-2 g c).After-kernel in
    let after = c.in_ok-move_pipe_pipe.ensures.ok ∙ ap (λ z. change_at c.args.target (gain z) (change_at c.args.source (lose c.args.count) (at (k g w).nodes.pipes))) (front g w) in
    (subst (IsSound g.row.A.Denot) (moved_view c.kernel.inside c.move_pipe_pipe.new.self c.in_ok-move_pipe_pipe.ensures.files) (moved_sound (k g w) c.kernel.invariant.0 c.args.from c.args.to c.args.source c.args.target (on_p g w) (on_q g w) c.requires.apart (p g w).0 (q g w).0 (p g w).1 (q g w).1 c.args.count (held g w) (nodes_of c.move_pipe_pipe.new.self) after), c.kernel.invariant.1)

pub returns-in_ok-copy_pipe_pipe-clause-done : goal.returns-in_ok-copy_pipe_pipe-clause-done
returns-in_ok-copy_pipe_pipe-clause-done g c =
    let w = (goal.at.returns-in_ok-copy_pipe_pipe-clause-done g c).After-kernel in
    let after = c.in_ok-copy_pipe_pipe.ensures.ok ∙ ap (λ z. change_at c.args.target (gain z) (at (k g w).nodes.pipes)) (front g w) in
    let new = view_of (record c.kernel.inside { nodes = c.copy_pipe_pipe.new.self }) in
    let over = subst (GoesOver (k g w) c.args.from c.args.to true c.args.count) (moved_view c.kernel.inside c.copy_pipe_pipe.new.self c.in_ok-copy_pipe_pipe.ensures.files) (copied (k g w) c.kernel.invariant.0 c.args.from c.args.to c.args.source c.args.target (on_p g w) (on_q g w) c.requires.apart (p g w).0 (q g w).0 (p g w).1 (q g w).1 c.args.count (held g w) (nodes_of c.copy_pipe_pipe.new.self) after) in
    subst (λ z. GoesOver z c.args.from c.args.to c.args.is_tee c.args.count new) c.kernel.view_is (subst (λ b. GoesOver (k g w) c.args.from c.args.to b c.args.count new) (sym c.if-is_tee.true) over)

pub returns-in_ok-move_pipe_pipe-clause-done : goal.returns-in_ok-move_pipe_pipe-clause-done
returns-in_ok-move_pipe_pipe-clause-done g c =
    let w = (goal.at.returns-in_ok-move_pipe_pipe-clause-done g c).After-kernel in
    let after = c.in_ok-move_pipe_pipe.ensures.ok ∙ ap (λ z. change_at c.args.target (gain z) (change_at c.args.source (lose c.args.count) (at (k g w).nodes.pipes))) (front g w) in
    let new = view_of (record c.kernel.inside { nodes = c.move_pipe_pipe.new.self }) in
    let over = subst (GoesOver (k g w) c.args.from c.args.to false c.args.count) (moved_view c.kernel.inside c.move_pipe_pipe.new.self c.in_ok-move_pipe_pipe.ensures.files) (moved_over (k g w) c.kernel.invariant.0 c.args.from c.args.to c.args.source c.args.target (on_p g w) (on_q g w) c.requires.apart (p g w).0 (q g w).0 (p g w).1 (q g w).1 c.args.count (held g w) (nodes_of c.move_pipe_pipe.new.self) after) in
    subst (λ z. GoesOver z c.args.from c.args.to c.args.is_tee c.args.count new) c.kernel.view_is (subst (λ b. GoesOver (k g w) c.args.from c.args.to b c.args.count new) (sym c.if-is_tee.false) over)

pub returns-in_ok-copy_pipe_pipe-clause-shares : goal.returns-in_ok-copy_pipe_pipe-clause-shares
returns-in_ok-copy_pipe_pipe-clause-shares g c =
    subst (λ (z : Contents g.row.A.Denot). SharesSlots z.nodes.memory (memory_of c.copy_pipe_pipe.new.self) c.args.source c.args.target) c.kernel.view_is
    c.in_ok-copy_pipe_pipe.ensures.shares

pub returns-in_ok-move_pipe_pipe-clause-shares : goal.returns-in_ok-move_pipe_pipe-clause-shares
returns-in_ok-move_pipe_pipe-clause-shares g c =
    subst (λ (z : Contents g.row.A.Denot). SharesSlots z.nodes.memory (memory_of c.move_pipe_pipe.new.self) c.args.source c.args.target) c.kernel.view_is
    c.in_ok-move_pipe_pipe.ensures.shares

pub copy_pipe_pipe-requires-clause-from : goal.copy_pipe_pipe-requires-clause-from
copy_pipe_pipe-requires-clause-from g c = source_holds g (goal.at.copy_pipe_pipe-requires-clause-from g c).After-kernel

pub copy_pipe_pipe-requires-clause-to : goal.copy_pipe_pipe-requires-clause-to
copy_pipe_pipe-requires-clause-to g c = target_has_room g (goal.at.copy_pipe_pipe-requires-clause-to g c).After-kernel

pub move_pipe_pipe-requires-clause-from : goal.move_pipe_pipe-requires-clause-from
move_pipe_pipe-requires-clause-from g c = source_holds g (goal.at.move_pipe_pipe-requires-clause-from g c).After-kernel

pub move_pipe_pipe-requires-clause-to : goal.move_pipe_pipe-requires-clause-to
move_pipe_pipe-requires-clause-to g c = target_has_room g (goal.at.move_pipe_pipe-requires-clause-to g c).After-kernel
