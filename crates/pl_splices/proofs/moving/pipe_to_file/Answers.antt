use Rattle.std.proofs.Common.{◌≡◌, ◌≤◌, ℕ, ◌+◌, ◌-◌, false, List, Some, IfSome, length, take, sym, subst, ◌∙◌, ap, arith, None}
use Rattle.std.specs.Prelude.{is_some, unwrap_or, if◌then◌else◌}
use Rattle.pl_model.specs.Packets.{lose}
use Rattle.pl_model.specs.declared.node.Node.TheVariants as node
use Rattle.pl_model.specs.Map.{change_at}
use Rattle.pl_model.specs.State.{Pipe}
use Rattle.pl_desc.specs.Rows.{at, count_at}
use Rattle.pl_desc.specs.Descs.{Opened, Descs}
use Rattle.pl_file.specs.File.{written, fitting}
use Rattle.pl_nodes.specs.declared.nodes.NodeLimits.{NodeLimits}
use Rattle.pl_nodes.specs.Nodes.{bytes_of, memory_of}
use Rattle.pl_nodes.specs.Moving.{AddsNone}
use Rattle.pl_splices.proofs.by_call.Asking.{holds_bytes}
use Rattle.pl_state.specs.KernelView.{view_of}
use Rattle.pl_state.specs.Contents.{Contents, contents, nodes_of}
use Rattle.pl_state.specs.Opens.{OpenOn}
use Rattle.pl_state.specs.Sound.{IsSound}
use Rattle.pl_state.proofs.by_call.Begun.{pipe_there, file_there}
use Rattle.pl_splices.specs.Shares.{place_in}
use Rattle.pl_splices.specs.Moves.{GoesOver}
use Rattle.pl_splices.proofs.by_call.Trying.{of_one}
use Rattle.pl_splices.proofs.by_call.Moving.{to_file, to_file_sound}
use Rattle.pl_splices.proofs.moving.pipe_to_file.Given.{Over}
use Rattle.pl_splices.proofs.moving.pipe_to_file.Goals.{After-advance}
use Rattle.pl_splices.proofs.moving.pipe_to_file.Goals as goal

all_fit : (count place most : ℕ) → count ≤ most - place → fitting count place most ≡ count
all_fit count place most fits = grind (arith, fits)

module _ (g : Over) (c : After-advance g) where
  abbrev k : Contents g.row.A.Denot
  k = view_of c.kernel.inside

  on_p : OpenOn k c.args.from.key (node.Pipe c.args.source)
  on_p = subst (λ z. OpenOn z c.args.from.key (node.Pipe c.args.source)) (sym c.kernel.view_is) c.requires.source

  on_g : OpenOn k c.args.to.key (node.File c.args.target)
  on_g = subst (λ z. OpenOn z c.args.to.key (node.File c.args.target)) (sym c.kernel.view_is) c.requires.target

  abbrev pipe : (x : Pipe) × (at k.nodes.pipes c.args.source ≡ Some x)
  pipe = pipe_there k c.kernel.invariant.0.whole c.args.from.key c.args.source on_p

  abbrev file : (x : List ℕ) × (at k.nodes.files c.args.target ≡ Some x)
  file = file_there k c.kernel.invariant.0.whole c.args.to.key c.args.target on_g

  abbrev start : ℕ
  start = unwrap_or c.args.to.given on_g.opened.offset

  held : c.args.count ≤ length pipe.0.bytes
  held = of_one (at k.nodes.pipes c.args.source) pipe.0 (λ x. c.args.count ≤ length x.bytes) pipe.1
      (subst (λ (z : Contents g.row.A.Denot). IfSome (at z.nodes.pipes c.args.source) (λ x. c.args.count ≤ length x.bytes)) (sym c.kernel.view_is) c.requires.held)

  start_is : c.start_of-start.result ≡ start
  start_is = of_one (at k.opened c.args.to.key) on_g.opened (λ o. c.start_of-start.result ≡ unwrap_or c.args.to.given o.offset) on_g.here
      (subst (λ (z : Contents g.row.A.Denot). IfSome (at z.opened c.args.to.key) (λ o. c.start_of-start.result ≡ unwrap_or c.args.to.given o.offset)) (sym c.kernel.view_is) c.start_of-start.ensures)

  abbrev most : ℕ
  most = c.kernel.inside.nodes.limits.file_max

  room : c.args.count ≤ most - c.start_of-start.result
  room =
      let said : c.args.count ≤ k.limits.file_max - start = of_one (at k.opened c.args.to.key) on_g.opened (λ o. c.args.count ≤ k.limits.file_max - unwrap_or c.args.to.given o.offset) on_g.here
      (subst (λ (z : Contents g.row.A.Denot). IfSome (at z.opened c.args.to.key) (λ o. c.args.count ≤ z.limits.file_max - unwrap_or c.args.to.given o.offset)) (sym c.kernel.view_is) c.requires.room) in
      let limit : most ≡ k.limits.file_max = ap (λ (l : NodeLimits). l.file_max) c.kernel.invariant.0.limit in
      subst (λ n. c.args.count ≤ most - n) (sym start_is) (subst (λ n. c.args.count ≤ n - start) (sym limit) said)

  fits : fitting c.args.count c.start_of-start.result most ≡ c.args.count
  fits = all_fit c.args.count c.start_of-start.result most room

  after : at c.move_pipe_file.new.self.pipes ≡ change_at c.args.source (lose c.args.count) (at k.nodes.pipes)
  after = c.in-Ok.ensures.pipes ∙ ap (λ n. change_at c.args.source (lose n) (at k.nodes.pipes)) fits

  wrote : at c.move_pipe_file.new.self.files ≡ change_at c.args.target (written start (take c.args.count pipe.0.bytes)) (at k.nodes.files)
  wrote = c.in-Ok.ensures.files
      ∙ ap (λ n. change_at c.args.target (written c.start_of-start.result (take n (bytes_of (at k.nodes.pipes c.args.source)))) (at k.nodes.files)) fits
      ∙ ap (λ z. change_at c.args.target (written c.start_of-start.result (take c.args.count (bytes_of z))) (at k.nodes.files)) pipe.1
      ∙ ap (λ n. change_at c.args.target (written n (take c.args.count pipe.0.bytes)) (at k.nodes.files)) start_is

  moves : at c.advance.new.descs.opened ≡ (if is_some c.args.to.given then at k.opened else change_at c.args.to.key (λ x. record x { offset = start + c.args.count }) (at k.opened))
  moves = c.advance.ensures.opened ∙ ap (λ n. if is_some c.args.to.given then at k.opened else change_at c.args.to.key (λ (x : Opened). record x { offset = n + c.args.count }) (at k.opened)) start_is

  abbrev new : Contents g.row.A.Denot
  new = contents c.advance.new.descs (nodes_of c.move_pipe_file.new.self) c.kernel.inside.parked c.kernel.inside.limits

  new_is : record k { opened = c.advance.new.descs.opened; nodes = record k.nodes { pipes = c.move_pipe_file.new.self.pipes; files = c.move_pipe_file.new.self.files; memory = memory_of c.move_pipe_file.new.self } } ≡ new
  new_is =
      (λ i. record k { opened = c.advance.new.descs.opened; nodes = record { pipes = c.move_pipe_file.new.self.pipes; files = c.move_pipe_file.new.self.files; names = sym c.move_pipe_file.ensures.names i; limits = sym c.move_pipe_file.ensures.limits i; memory = memory_of c.move_pipe_file.new.self } })
      ∙ ap (λ (d : Descs). contents d (nodes_of c.move_pipe_file.new.self) c.kernel.inside.parked c.kernel.inside.limits) (sym c.advance.ensures.rest)

pub invariant_of-kernel-2 : goal.invariant_of-kernel-2
invariant_of-kernel-2 g c = (
  subst (IsSound g.row.A.Denot) (new_is g c) (to_file_sound (k g c) c.kernel.invariant.0 c.args.from c.args.to c.args.source c.args.target (on_p g c) (on_g g c) (pipe g c).0 (file g c).0 (pipe g c).1 (file g c).1 c.args.count c.requires.some (held g c) (nodes_of c.move_pipe_file.new.self) (after g c) c.move_pipe_file.new.self.files (wrote g c) c.advance.new.descs.opened (moves g c)),
  record { tidy = c.advance.ensures.tidy; bounds = ap (λ (d : Descs). d.limits) c.advance.ensures.rest ∙ c.kernel.invariant.1.bounds; counted = λ q. ap (λ (d : Descs). count_at d.loose q) c.advance.ensures.rest ∙ c.kernel.invariant.1.counted q },
)

pub returns-clause-done : goal.returns-clause-done
returns-clause-done g c =
    subst (λ z. GoesOver z c.args.from c.args.to false c.args.count (new g c)) c.kernel.view_is
    (subst (GoesOver (k g c) c.args.from c.args.to false c.args.count) (new_is g c) (to_file (k g c) c.kernel.invariant.0 c.args.from c.args.to c.args.source c.args.target (on_p g c) (on_g g c) (pipe g c).0 (file g c).0 (pipe g c).1 (file g c).1 c.args.count c.requires.some (held g c) (nodes_of c.move_pipe_file.new.self) (after g c) c.move_pipe_file.new.self.files (wrote g c) c.advance.new.descs.opened (moves g c)))

pub returns-clause-shares : goal.returns-clause-shares
returns-clause-shares g c =
    let begins : c.start_of-start.result ≡ place_in (at (k g c).opened c.args.to.key) c.args.to.given = start_is g c ∙ ap (λ o. place_in o c.args.to.given) (sym (on_g g c).here) in
    subst (λ (z : Contents g.row.A.Denot). IfSome (at z.nodes.files c.args.target) (λ bytes. place_in (at z.opened c.args.to.key) c.args.to.given ≤ length bytes) → AddsNone z.nodes.memory (new g c).nodes.memory) c.kernel.view_is
    (λ within.
    c.in-Ok.ensures.none_added (subst (λ n. IfSome (at (k g c).nodes.files c.args.target) (λ (bytes : List ℕ). n ≤ length bytes)) (sym begins) within))

pub move_pipe_file-requires-clause-from : goal.move_pipe_file-requires-clause-from
move_pipe_file-requires-clause-from g c =
    let of = at (view_of c.kernel.inside).nodes.pipes c.args.source in
    let there = pipe_there (view_of c.kernel.inside) c.kernel.invariant.0.whole c.args.from.key c.args.source (subst (λ z. OpenOn z c.args.from.key (node.Pipe c.args.source)) (sym c.kernel.view_is) c.requires.source) in
    holds_bytes of there.0 there.1 (subst (λ (z : Contents g.row.A.Denot). IfSome (at z.nodes.pipes c.args.source) (λ x. x.packets ≡ None)) (sym c.kernel.view_is) c.requires.from_bytes) c.args.count
    (subst (λ (z : Contents g.row.A.Denot). IfSome (at z.nodes.pipes c.args.source) (λ x. c.args.count ≤ length x.bytes)) (sym c.kernel.view_is) c.requires.held)
