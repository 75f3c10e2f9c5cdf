use Rattle.std.proofs.Common.{◌≡◌, ◌≤◌, ℕ, [], None, Some, ◌++◌, sym, ◌∙◌, ap, List, length, slice_set, arith}
use Rattle.std.specs.Prelude.{option_map}
use Rattle.std.proofs.lemmas.List.{at_drop_all}
use Rattle.pl_model.specs.Packets.{lose, gain, without_front, piece_lengths}
use Rattle.pl_segments.specs.Segments.{at, segment_at}
use Rattle.pl_segments.specs.Slices.{all_read}
use Rattle.pl_segments.specs.Slots.{total}
use Rattle.pl_segments.specs.Turns.{Holds, Turns}
use Rattle.pl_nodes.specs.declared.content.PipeNode.{PipeNode}
use Rattle.pl_nodes.specs.declared.content.Content.TheVariants.{Pipe}
use Rattle.pl_ring.specs.Ring.{Ring}
use Rattle.pl_nodes.specs.Nodes.{bytes_of}
use Rattle.pl_nodes.specs.NodesView.{pipe_of}
use Rattle.pl_nodes.specs.Queue.{slots_of}
use Rattle.pl_nodes.proofs.AtKey.{pipe-there, slots-flat, slots-short, held}
use Rattle.pl_nodes.proofs.Pipes.{pipe-flat, pipe-told, pipe-total}
use Rattle.pl_nodes.proofs.TwoChanged.{AreSet, both-set, exchange-turns, second-there, both-sound, both-files, both-pipes, both-slots}
use Rattle.pl_nodes.proofs.nodes.Nodes.hand_over.Given.{Over}
use Rattle.pl_nodes.proofs.nodes.Nodes.hand_over.Goals.{Joined-ring}
use Rattle.pl_nodes.proofs.nodes.Nodes.hand_over.Goals as goal

pub exchange-requires-2-clause-fits : goal.exchange-requires-2-clause-fits
exchange-requires-2-clause-fits g c =
    let k = c.self.inside in
    let there = pipe-there k.contents.slots c.args.from c.index_mut.result.now c.in-Some.source.now c.index_mut.ensures.value c.in-Some.ensures.value in
    let beside = second-there k.contents.slots c.args.from c.args.to c.requires.other _ c.index_mut-2.result.now c.in-Some-as_pipe_mut.target.now c.index_mut-2.ensures.value c.in-Some-as_pipe_mut.ensures.value in
    let room = pipe-told k c.args.to c.in-Some-as_pipe_mut.target.now beside c.self.invariant c.args.self.now c.self.view_is (λ x. length (bytes_of (at c.args.self.now.pipes c.args.from)) ≤ x.capacity) c.requires.room in
    let bytes = ap (λ o. length (bytes_of o)) (pipe-flat k c.args.from c.in-Some.source.now there c.self.invariant c.args.self.now c.self.view_is) in
    let all = pipe-total k c.args.from c.in-Some.source.now there c.self.invariant c.args.self.now c.self.view_is in
    let same = ap total c.exchange.ensures.other_slots in
    omega (arith, room, bytes, all, same)

module _ (g : Over) (c : Joined-ring g) where
  there : at c.self.inside.contents.slots c.args.from ≡ Some (Pipe c.in-Some.source.now)
  there = pipe-there c.self.inside.contents.slots c.args.from c.index_mut.result.now c.in-Some.source.now c.index_mut.ensures.value c.in-Some.ensures.value

  beside : at c.self.inside.contents.slots c.args.to ≡ Some (Pipe c.in-Some-as_pipe_mut.target.now)
  beside = second-there c.self.inside.contents.slots c.args.from c.args.to c.requires.other _ c.index_mut-2.result.now c.in-Some-as_pipe_mut.target.now c.index_mut-2.ensures.value c.in-Some-as_pipe_mut.ensures.value

  -- the one that gets the slots has none
  none : slots_of c.in-Some-as_pipe_mut.target.now.queue ≡ []
  none = sym (slots-flat c.self.inside c.args.to (Pipe c.in-Some-as_pipe_mut.target.now) beside c.self.invariant c.args.self.now c.self.view_is) ∙ c.requires.empty

  fresh : slots_of c.exchange.new.self ≡ []
  fresh = c.exchange.ensures.slots ∙ ap (λ (r : Ring). r.slots) c.in_ok-ring.ensures

  gave : slots_of c.exchange.new.self ≡ slots_of c.in-Some-as_pipe_mut.target.now.queue
  gave = fresh ∙ sym none

  got : slots_of c.exchange-2.new.self ≡ slots_of c.in-Some.source.now.queue
  got = c.exchange-2.ensures.slots ∙ c.exchange.ensures.other_slots

  -- the bytes that go
  bytes : bytes_of (at c.args.self.now.pipes c.args.from) ≡ all_read (segment_at c.self.inside.store) (slots_of c.in-Some.source.now.queue)
  bytes = ap bytes_of (pipe-flat c.self.inside c.args.from c.in-Some.source.now there c.self.invariant c.args.self.now c.self.view_is)

  emptied : pipe_of (segment_at c.self.inside.store) (record c.in-Some.source.now { queue = c.exchange.new.self })
      ≡ lose (length (bytes_of (at c.args.self.now.pipes c.args.from))) (pipe_of (segment_at c.self.inside.store) c.in-Some.source.now)
  emptied = (λ i. record {
    bytes =
        (ap (all_read (segment_at c.self.inside.store)) fresh
        ∙ sym (at_drop_all (λ (ys : List ℕ). ys) (all_read (segment_at c.self.inside.store) (slots_of c.in-Some.source.now.queue)) (length (bytes_of (at c.args.self.now.pipes c.args.from))) (let e = ap length bytes in omega (arith, e)))) i;
    packets =
        (c.exchange.ensures.bytes
        ∙ sym (ap (option_map (without_front (length (bytes_of (at c.args.self.now.pipes c.args.from))))) (pipe-told c.self.inside c.args.from c.in-Some.source.now there c.self.invariant c.args.self.now c.self.view_is (λ x. x.packets ≡ None) c.requires.from.bytes))) i;
    capacity = c.exchange.ensures.capacity i;
    hung = c.in-Some.source.now.hung;
  })

  filled : pipe_of (segment_at c.self.inside.store) (record c.in-Some-as_pipe_mut.target.now { queue = c.exchange-2.new.self })
      ≡ gain (bytes_of (at c.args.self.now.pipes c.args.from)) (pipe_of (segment_at c.self.inside.store) c.in-Some-as_pipe_mut.target.now)
  filled =
      let plain = pipe-told c.self.inside c.args.to c.in-Some-as_pipe_mut.target.now beside c.self.invariant c.args.self.now c.self.view_is (λ x. x.packets ≡ None) c.requires.to.bytes in
      (λ i. record {
        bytes =
            (ap (all_read (segment_at c.self.inside.store)) got ∙ sym bytes
            ∙ sym (ap (λ xs. all_read (segment_at c.self.inside.store) xs ++ bytes_of (at c.args.self.now.pipes c.args.from)) none)) i;
        packets = (c.exchange-2.ensures.bytes ∙ sym (ap (option_map (λ lengths. lengths ++ piece_lengths (length (bytes_of (at c.args.self.now.pipes c.args.from))))) plain)) i;
        capacity = c.exchange-2.ensures.capacity i;
        hung = c.in-Some-as_pipe_mut.target.now.hung;
      })

  lies : (key : ℕ) (x : PipeNode g.row.A.Denot) → at c.self.inside.contents.slots key ≡ Some (Pipe x) → Holds (segment_at c.self.inside.store) (slots_of x.queue)
  lies key x is = held c.self.inside key (Pipe x) is c.self.invariant

  turned : Turns (segment_at c.self.inside.store) (slots_of c.in-Some-as_pipe_mut.target.now.queue ++ slots_of c.in-Some.source.now.queue) (segment_at c.self.inside.store) (slots_of c.exchange-2.new.self ++ slots_of c.exchange.new.self)
  turned = exchange-turns (segment_at c.self.inside.store) (slots_of c.in-Some-as_pipe_mut.target.now.queue) (slots_of c.in-Some.source.now.queue) (slots_of c.exchange-2.new.self) (slots_of c.exchange.new.self) got gave
      (lies c.args.to c.in-Some-as_pipe_mut.target.now beside).lie (lies c.args.from c.in-Some.source.now there).lie

  are_set : AreSet c.self.inside.contents.slots (slice_set (slice_set c.self.inside.contents.slots c.args.from (Some (Pipe (record c.in-Some.source.now { queue = c.exchange.new.self })))) c.args.to (Some (Pipe (record c.in-Some-as_pipe_mut.target.now { queue = c.exchange-2.new.self }))))
      c.args.from c.args.to (Pipe (record c.in-Some.source.now { queue = c.exchange.new.self })) (Pipe (record c.in-Some-as_pipe_mut.target.now { queue = c.exchange-2.new.self }))
  are_set = both-set c.self.inside.contents.slots c.args.from c.args.to c.requires.other (Pipe c.in-Some.source.now) (Pipe c.in-Some-as_pipe_mut.target.now) (Pipe (record c.in-Some.source.now { queue = c.exchange.new.self })) (Pipe (record c.in-Some-as_pipe_mut.target.now { queue = c.exchange-2.new.self })) there beside

pub invariant_of-self : goal.invariant_of-self
invariant_of-self g c =
    let short = slots-short c.self.inside c.args.from (Pipe c.in-Some.source.now) (there g c) c.self.invariant in
    let few = ap length (fresh g c) in
    let all = ap length (got g c) in
    both-sound c.self.inside c.self.invariant c.args.self.now c.self.view_is c.args.from c.args.to c.requires.other c.in-Some.source.now c.in-Some-as_pipe_mut.target.now c.exchange.new.self c.exchange-2.new.self
    (there g c) (beside g c) _ (are_set g c) c.self.inside.store (turned g c) c.exchange.ensures.bytes c.exchange-2.ensures.bytes (omega (arith, few)) (omega (arith, all, short)) c.self.invariant.spare

pub returns-clause-ok : goal.returns-clause-ok
returns-clause-ok g c =
    both-pipes c.self.inside c.self.invariant c.args.self.now c.self.view_is c.args.from c.args.to c.requires.other c.in-Some.source.now c.in-Some-as_pipe_mut.target.now c.exchange.new.self c.exchange-2.new.self
    (there g c) (beside g c) _ (are_set g c) c.self.inside.store (turned g c) (lose (length (bytes_of (at c.args.self.now.pipes c.args.from)))) (gain (bytes_of (at c.args.self.now.pipes c.args.from))) (emptied g c) (filled g c)

pub returns-clause-files : goal.returns-clause-files
returns-clause-files g c =
    both-files c.self.inside c.self.invariant c.args.self.now c.self.view_is c.args.from c.args.to c.requires.other c.in-Some.source.now c.in-Some-as_pipe_mut.target.now c.exchange.new.self c.exchange-2.new.self
    (there g c) (beside g c) _ (are_set g c) c.self.inside.store (turned g c)

pub returns-clause-slots : goal.returns-clause-slots
returns-clause-slots g c =
    both-slots c.self.inside c.self.invariant c.args.self.now c.self.view_is c.args.from c.args.to c.requires.other c.in-Some.source.now c.in-Some-as_pipe_mut.target.now c.exchange.new.self c.exchange-2.new.self
    (there g c) (beside g c) _ (are_set g c) c.self.inside.store (turned g c) ∙ got g c ∙ sym (slots-flat c.self.inside c.args.from (Pipe c.in-Some.source.now) (there g c) c.self.invariant c.args.self.now c.self.view_is)
