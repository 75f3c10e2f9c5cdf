use Rattle.std.proofs.Common.{◌≡◌, ◌≤◌, ℕ, ◌+◌, ◌-◌, false, List, [], Some, IfSome, length, take, drop, sym, subst, ◌∙◌, ap, None}
use Rattle.std.specs.Prelude.{is_some, unwrap_or, if◌then◌else◌}
use Rattle.pl_model.specs.Packets.{gain}
use Rattle.pl_model.specs.declared.node.Node.TheVariants as node
use Rattle.pl_model.specs.Map.{change_at}
use Rattle.pl_model.specs.Transfer.{room}
use Rattle.pl_model.specs.State.{Pipe}
use Rattle.pl_desc.specs.Rows.{at, count_at}
use Rattle.pl_desc.specs.Descs.{Opened, Descs}
use Rattle.pl_nodes.specs.Nodes.{part_of}
use Rattle.pl_splices.proofs.by_call.Asking.{has_room}
use Rattle.pl_state.specs.KernelView.{view_of}
use Rattle.pl_state.specs.Contents.{Contents, contents, nodes_of, with_pipes}
use Rattle.pl_state.specs.Opens.{OpenOn}
use Rattle.pl_state.specs.Sound.{IsSound}
use Rattle.pl_state.proofs.Known.{moved_view}
use Rattle.pl_state.proofs.by_call.Begun.{pipe_there, file_there}
use Rattle.pl_splices.specs.Moves.{GoesOver}
use Rattle.pl_splices.proofs.by_call.Trying.{of_one}
use Rattle.pl_splices.proofs.by_call.Moving.{from_file, from_file_sound}
use Rattle.pl_splices.proofs.moving.file_to_pipe.Given.{Over}
use Rattle.pl_splices.proofs.moving.file_to_pipe.Goals.{After-advance}
use Rattle.pl_splices.proofs.moving.file_to_pipe.Goals as goal

module _ (g : Over) (c : After-advance g) where
  abbrev k : Contents g.row.A.Denot
  k = view_of c.kernel.inside

  on_f : OpenOn k c.args.from.key (node.File c.args.source)
  on_f = subst (λ z. OpenOn z c.args.from.key (node.File c.args.source)) (sym c.kernel.view_is) c.requires.source

  on_q : OpenOn k c.args.to.key (node.Pipe c.args.target)
  on_q = subst (λ z. OpenOn z c.args.to.key (node.Pipe c.args.target)) (sym c.kernel.view_is) c.requires.target

  abbrev file : (x : List ℕ) × (at k.nodes.files c.args.source ≡ Some x)
  file = file_there k c.kernel.invariant.0.whole c.args.from.key c.args.source on_f

  abbrev pipe : (x : Pipe) × (at k.nodes.pipes c.args.target ≡ Some x)
  pipe = pipe_there k c.kernel.invariant.0.whole c.args.to.key c.args.target on_q

  abbrev start : ℕ
  start = unwrap_or c.args.from.given on_f.opened.offset

  left : c.args.count ≤ length file.0 - start
  left =
      let said = subst (λ (z : Contents g.row.A.Denot). IfSome (at z.opened c.args.from.key) (λ o. IfSome (at z.nodes.files c.args.source) (λ bytes. c.args.count ≤ length bytes - unwrap_or c.args.from.given o.offset))) (sym c.kernel.view_is) c.requires.left in
      of_one (at k.nodes.files c.args.source) file.0 (λ bytes. c.args.count ≤ length bytes - start) file.1
      (of_one (at k.opened c.args.from.key) on_f.opened (λ o. IfSome (at k.nodes.files c.args.source) (λ bytes. c.args.count ≤ length bytes - unwrap_or c.args.from.given o.offset)) on_f.here said)

  start_is : c.start_of-start.result ≡ start
  start_is = of_one (at k.opened c.args.from.key) on_f.opened (λ o. c.start_of-start.result ≡ unwrap_or c.args.from.given o.offset) on_f.here
      (subst (λ (z : Contents g.row.A.Denot). IfSome (at z.opened c.args.from.key) (λ o. c.start_of-start.result ≡ unwrap_or c.args.from.given o.offset)) (sym c.kernel.view_is) c.start_of-start.ensures)

  part_is : part_of c.start_of-start.result c.args.count (at k.nodes.files c.args.source) ≡ take c.args.count (drop start file.0)
  part_is = ap (λ z. take c.args.count (drop c.start_of-start.result (unwrap_or z []))) file.1 ∙ ap (λ n. take c.args.count (drop n file.0)) start_is

  after : at c.move_file_pipe.new.self.pipes ≡ change_at c.args.target (gain (take c.args.count (drop start file.0))) (at k.nodes.pipes)
  after = c.in_ok-move_file_pipe.ensures.ok ∙ ap (λ z. change_at c.args.target (gain z) (at k.nodes.pipes)) part_is

  moves : at c.advance.new.descs.opened ≡ (if is_some c.args.from.given then at k.opened else change_at c.args.from.key (λ x. record x { offset = start + c.args.count }) (at k.opened))
  moves = c.advance.ensures.opened ∙ ap (λ n. if is_some c.args.from.given then at k.opened else change_at c.args.from.key (λ (x : Opened). record x { offset = n + c.args.count }) (at k.opened)) start_is

  new_is : record (with_pipes k (nodes_of c.move_file_pipe.new.self)) { opened = c.advance.new.descs.opened } ≡ contents c.advance.new.descs (nodes_of c.move_file_pipe.new.self) c.kernel.inside.parked c.kernel.inside.limits
  new_is =
      ap (λ (z : Contents g.row.A.Denot). record z { opened = c.advance.new.descs.opened }) (moved_view c.kernel.inside c.move_file_pipe.new.self c.in_ok-move_file_pipe.ensures.files)
      ∙ ap (λ (d : Descs). contents d (nodes_of c.move_file_pipe.new.self) c.kernel.inside.parked c.kernel.inside.limits) (sym c.advance.ensures.rest)

pub invariant_of-kernel-2 : goal.invariant_of-kernel-2
invariant_of-kernel-2 g c = (
  subst (IsSound g.row.A.Denot) (new_is g c) (from_file_sound (k g c) c.kernel.invariant.0 c.args.from c.args.to c.args.source c.args.target (on_f g c) (on_q g c) (file g c).0 (pipe g c).0 (file g c).1 (pipe g c).1 c.args.count (left g c) (nodes_of c.move_file_pipe.new.self) (after g c) c.advance.new.descs.opened (moves g c)),
  record { tidy = c.advance.ensures.tidy; bounds = ap (λ (d : Descs). d.limits) c.advance.ensures.rest ∙ c.kernel.invariant.1.bounds; counted = λ q. ap (λ (d : Descs). count_at d.loose q) c.advance.ensures.rest ∙ c.kernel.invariant.1.counted q },
)

pub returns-clause-done : goal.returns-clause-done
returns-clause-done g c =
    let new = contents c.advance.new.descs (nodes_of c.move_file_pipe.new.self) c.kernel.inside.parked c.kernel.inside.limits in
    subst (λ z. GoesOver z c.args.from c.args.to false c.args.count new) c.kernel.view_is
    (subst (GoesOver (k g c) c.args.from c.args.to false c.args.count) (new_is g c) (from_file (k g c) c.kernel.invariant.0 c.args.from c.args.to c.args.source c.args.target (on_f g c) (on_q g c) (file g c).0 (pipe g c).0 (file g c).1 (pipe g c).1 c.args.count (left g c) (nodes_of c.move_file_pipe.new.self) (after g c) c.advance.new.descs.opened (moves g c)))

pub move_file_pipe-requires-clause-to : goal.move_file_pipe-requires-clause-to
move_file_pipe-requires-clause-to g c =
    let of = at (view_of c.kernel.inside).nodes.pipes c.args.target in
    let there = pipe_there (view_of c.kernel.inside) c.kernel.invariant.0.whole c.args.to.key c.args.target (subst (λ z. OpenOn z c.args.to.key (node.Pipe c.args.target)) (sym c.kernel.view_is) c.requires.target) in
    has_room of there.0 there.1 (subst (λ (z : Contents g.row.A.Denot). IfSome (at z.nodes.pipes c.args.target) (λ x. x.packets ≡ None)) (sym c.kernel.view_is) c.requires.to_bytes) c.args.count
    (subst (λ (z : Contents g.row.A.Denot). IfSome (at z.nodes.pipes c.args.target) (λ x. c.args.count ≤ room x)) (sym c.kernel.view_is) c.requires.room)
