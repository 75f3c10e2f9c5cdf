use Rattle.std.proofs.Common.{◌≡◌, ◌<◌, ◌≤◌, ◌∙◌, List, Some, refl, sym, ap, subst, length}
use Rattle.std.specs.Prelude.{is_some}
use Rattle.std.proofs.lemmas.Result.{on_ok_weaker, on_err_weaker}
use Rattle.pl_model.specs.Packets.{used, used_of}
use Rattle.pl_model.specs.Numbers.{most_file_bytes}
use Rattle.pl_model.proofs.capacities.Rounding.{capacity-pages}
use Rattle.pl_segments.specs.declared.slice.Slice.{Slice}
use Rattle.pl_segments.specs.Segments.{segment_at, at}
use Rattle.pl_segments.specs.Slices.{all_read}
use Rattle.pl_segments.specs.Turns.{Turns}
use Rattle.pl_segments.proofs.Turning.{turns-same}
use Rattle.pl_nodes.specs.declared.content.Content.TheVariants.{Pipe}
use Rattle.pl_nodes.specs.Queue.{slots_of, packets_of}
use Rattle.pl_nodes.proofs.AtKey.{pipe-there, held, still-sound, still-memory, slots-short, refused-seen}
use Rattle.pl_nodes.proofs.Pipes.{pipe-total, pipe-said, pipe-told, pipe-done, pipe-files}
use Rattle.pl_nodes.proofs.nodes.Nodes.set_capacity.Given.{Over}
use Rattle.pl_nodes.proofs.nodes.Nodes.set_capacity.Goals.{After-set_capacity}
use Rattle.pl_nodes.proofs.nodes.Nodes.set_capacity.Goals as goal

module _ (g : Over) (c : After-set_capacity g) where
  there : at c.self.inside.contents.slots c.args.key ≡ Some (Pipe c.in-Some.node.now)
  there = pipe-there c.self.inside.contents.slots c.args.key c.index_mut.result.now c.in-Some.node.now c.index_mut.ensures.value c.in-Some.ensures.value

  same : slots_of c.set_capacity.new.self ≡ slots_of c.in-Some.node.now.queue
  same = c.set_capacity.ensures.slots

  turns : Turns (segment_at c.self.inside.store) (slots_of c.in-Some.node.now.queue) (segment_at c.self.inside.store) (slots_of c.set_capacity.new.self)
  turns =
      let m = segment_at c.self.inside.store in
      let slots = slots_of c.in-Some.node.now.queue in
      subst (Turns m slots m) (sym same) (turns-same m slots (held c.self.inside c.args.key (Pipe c.in-Some.node.now) there c.self.invariant).lie)

pub set_capacity-requires : goal.set_capacity-requires
set_capacity-requires g c = record { whole = capacity-pages c.args.capacity c.requires.capacity; least = c.requires.capacity.least; most = c.requires.capacity.most }

pub invariant_of-self : goal.invariant_of-self
invariant_of-self g c =
    let at_call = (goal.at.invariant_of-self g c).After-set_capacity in
    let k = c.self.inside in
    let node = c.in-Some.node.now in
    still-sound k c.args.key (Pipe node) (there g at_call) c.self.invariant k.store (Pipe (record node { queue = c.set_capacity.new.self })) (turns g at_call)
    (subst (λ (xs : List Slice). length xs ≤ most_file_bytes) (sym (same g at_call)) (slots-short k c.args.key (Pipe node) (there g at_call) c.self.invariant)) (refl, refl) (ap is_some c.set_capacity.ensures.packets) c.self.invariant.spare

pub returns-clause-ok : goal.returns-clause-ok
returns-clause-ok g c =
    let at_call = (goal.at.returns-clause-ok g c).After-set_capacity in
    let k = c.self.inside in
    let node = c.in-Some.node.now in
    on_ok_weaker c.set_capacity.result
    (λ is.
    pipe-done k c.args.key node (there g at_call) c.self.invariant c.args.self.now c.self.view_is k.store (record node { queue = c.set_capacity.new.self }) (turns g at_call)
    (λ x. record x { capacity = c.args.capacity }) (λ i. record { bytes = all_read (segment_at k.store) (c.set_capacity.ensures.slots i); packets = c.set_capacity.ensures.packets i; capacity = is i; hung = node.hung }))
    c.set_capacity.ensures.ok

pub returns-clause-busy : goal.returns-clause-busy
returns-clause-busy g c =
    let at_call = (goal.at.returns-clause-busy g c).After-set_capacity in
    let k = c.self.inside in
    let node = c.in-Some.node.now in
    let total = pipe-total k c.args.key node (there g at_call) c.self.invariant c.args.self.now c.self.view_is in (
      λ busy. pipe-said k c.args.key node (there g at_call) c.self.invariant c.args.self.now c.self.view_is (λ x. c.args.capacity < used x)
          (subst (λ n. c.args.capacity < used_of (packets_of node.queue) n) total (c.set_capacity.ensures.busy.0 busy)),
      λ more. c.set_capacity.ensures.busy.1
          (subst (λ n. c.args.capacity < used_of (packets_of node.queue) n) (sym total) (pipe-told k c.args.key node (there g at_call) c.self.invariant c.args.self.now c.self.view_is (λ x. c.args.capacity < used x) more)),
    )

pub returns-clause-files : goal.returns-clause-files
returns-clause-files g c =
    let at_call = (goal.at.returns-clause-files g c).After-set_capacity in
    let k = c.self.inside in
    let node = c.in-Some.node.now in
    pipe-files k c.args.key node (there g at_call) c.self.invariant c.args.self.now c.self.view_is k.store (record node { queue = c.set_capacity.new.self }) (turns g at_call)

pub returns-clause-memory : goal.returns-clause-memory
returns-clause-memory g c =
    let at_call = (goal.at.returns-clause-memory g c).After-set_capacity in
    let k = c.self.inside in
    let node = c.in-Some.node.now in
    still-memory k c.args.key (Pipe node) (there g at_call) c.self.invariant (Pipe (record node { queue = c.set_capacity.new.self })) (same g at_call) c.args.self.now c.self.view_is

pub returns-clause-unchanged : goal.returns-clause-unchanged
returns-clause-unchanged g c =
    let at_call = (goal.at.returns-clause-unchanged g c).After-set_capacity in
    let k = c.self.inside in
    let node = c.in-Some.node.now in
    on_err_weaker c.set_capacity.result
    (λ is. refused-seen k c.args.key (Pipe node) (there g at_call) c.self.invariant k.store refl (Pipe (record node { queue = c.set_capacity.new.self })) (λ i. Pipe (record node { queue = is i })) ∙ c.self.view_is)
    c.set_capacity.ensures.unchanged
