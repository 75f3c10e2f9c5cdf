use Rattle.std.proofs.Common.{◌≡◌, ◌≤◌, [], ◌++◌, Option, Some, None, List, OnOk, OnErr, refl, sym, ◌∙◌, ap, subst, length, slice_set, take, drop, arith}
use Rattle.std.proofs.Math.Path.{fun_ext}
use Rattle.std.specs.Prelude.{option_map}
use Rattle.pl_model.specs.Packets.{lose, gain, without_front, piece_lengths, used_of}
use Rattle.pl_model.specs.Map.{change_at}
use Rattle.pl_model.specs.Numbers.{most_file_bytes}
use Rattle.pl_model.specs.Transfer.{room}
use Rattle.pl_segments.specs.Segments.{Map, Segments, at, segment_at, live_count, trimmed}
use Rattle.pl_segments.specs.Slices.{all_read}
use Rattle.pl_segments.specs.Turns.{Holds, Turns}
use Rattle.pl_segments.specs.Slots.{total, front_of}
use Rattle.pl_segments.specs.Sharing.{slots_at}
use Rattle.pl_ring.specs.Ring.{Ring}
use Rattle.pl_ring.specs.Parts.{fresh, strange}
use Rattle.pl_ring.specs.Pushed.{Passed}
use Rattle.pl_nodes.specs.declared.content.PipeNode.{PipeNode}
use Rattle.pl_nodes.specs.declared.content.Content.{Content}
use Rattle.pl_nodes.specs.declared.content.Content.TheVariants.{Pipe, File}
use Rattle.pl_nodes.specs.declared.queue.Queue.{Queue}
use Rattle.pl_nodes.specs.Nodes.{Nodes, SameFiles, bytes_of, memory_of}
use Rattle.pl_nodes.specs.Moving.{SharesSlots}
use Rattle.pl_nodes.specs.NodesView.{pipe_of, slots_in, lists, view_of, IsSound}
use Rattle.pl_nodes.specs.Contents.{as_pipe}
use Rattle.pl_nodes.specs.Queue.{slots_of, capacity_of, packets_of}
use Rattle.pl_nodes.proofs.Keyed.{within, on_ok, same-list}
use Rattle.pl_nodes.proofs.AtKey.{pipe-there, slots-flat, few-holders}
use Rattle.pl_nodes.proofs.Lists.{lists-at, lists-length}
use Rattle.pl_nodes.proofs.Pipes.{pipe-flat, pipe-told, pipe-total}
use Rattle.pl_nodes.proofs.Slices.{strange-front}
use Rattle.pl_nodes.proofs.Moved.{two-held, both-turned, left-few, on_fail, plain-same, same-pipe-node}
use Rattle.pl_nodes.proofs.TwoChanged.{AreSet, both-set, set-again, each, second-there, both-sound, both-files, both-pipes, both-slots}
use Rattle.pl_nodes.proofs.nodes.Nodes.move_front.Given.{Over}
use Rattle.pl_nodes.proofs.nodes.Nodes.move_front.Goals.{After-len-held-2, After-take_front-moved}
use Rattle.pl_nodes.proofs.nodes.Nodes.move_front.Goals as goal

-- both pipes, the ring of the first of which stands by itself
module _ (g : Over) (c : After-len-held-2 g) where
  abbrev m : Map
  m = segment_at c.self.inside.store

  abbrev source : PipeNode g.row.A.Denot
  source = c.in-Some.source.now

  abbrev target : PipeNode g.row.A.Denot
  target = c.in-Some-as_pipe_mut.target.now

  there : at c.self.inside.contents.slots c.args.from ≡ Some (Pipe source)
  there = pipe-there c.self.inside.contents.slots c.args.from c.index_mut.result.now source c.index_mut.ensures.value c.in-Some.ensures.value

  beside : at c.self.inside.contents.slots c.args.to ≡ Some (Pipe target)
  beside = second-there c.self.inside.contents.slots c.args.from c.args.to c.requires.other _ c.index_mut-2.result.now target c.index_mut-2.ensures.value c.in-Some-as_pipe_mut.ensures.value

  ring_slots : c.exchange.new.other.slots ≡ slots_of source.queue
  ring_slots = c.exchange.ensures.other_slots

  fresh_slots : slots_of c.exchange.new.self ≡ []
  fresh_slots = c.exchange.ensures.slots ∙ ap (λ (r : Ring). r.slots) c.in_ok-ring.ensures

  held_both : Holds m (slots_of target.queue ++ c.exchange.new.other.slots)
  held_both =
      let all = lists c.self.inside.contents.slots in
      let long = lists-length c.self.inside.contents.slots in
      let in_to = within c.self.inside.contents.slots c.args.to (Pipe target) beside in
      let in_from = within c.self.inside.contents.slots c.args.from (Pipe source) there in
      let first : slots_at all c.args.to ≡ slots_of target.queue = lists-at c.self.inside.contents.slots c.args.to ∙ ap slots_in beside in
      let second : slots_at all c.args.from ≡ c.exchange.new.other.slots = lists-at c.self.inside.contents.slots c.args.from ∙ ap slots_in there ∙ sym ring_slots in
      subst (Holds m) (λ i. first i ++ second i)
      (two-held m all c.args.to c.args.from (λ e. c.requires.other (sym e)) (omega (arith, in_to, long)) (omega (arith, in_from, long)) c.self.invariant.shared)

  has : c.args.count ≤ total c.exchange.new.other.slots
  has =
      let bytes = pipe-told c.self.inside c.args.from source there c.self.invariant c.args.self.now c.self.view_is (λ x. c.args.count ≤ length x.bytes) c.requires.from.held in
      let all = pipe-total c.self.inside c.args.from source there c.self.invariant c.args.self.now c.self.view_is in
      let same = ap total ring_slots in
      omega (arith, bytes, all, same)

  source_plain : packets_of source.queue ≡ None
  source_plain = pipe-told c.self.inside c.args.from source there c.self.invariant c.args.self.now c.self.view_is (λ x. x.packets ≡ None) c.requires.from.plain.bytes

  target_plain : packets_of target.queue ≡ None
  target_plain = pipe-told c.self.inside c.args.to target beside c.self.invariant c.args.self.now c.self.view_is (λ x. x.packets ≡ None) c.requires.to.plain.bytes

  -- the bytes that the ring reads are those of the pipe
  source_bytes : bytes_of (at c.args.self.now.pipes c.args.from) ≡ all_read m c.exchange.new.other.slots
  source_bytes = ap bytes_of (pipe-flat c.self.inside c.args.from source there c.self.invariant c.args.self.now c.self.view_is) ∙ sym (ap (all_read m) ring_slots)

  abbrev emptied : Content g.row.A.Denot
  emptied = Pipe (record source { queue = c.exchange.new.self })

pub take_front-moved-requires-clause-held : goal.take_front-moved-requires-clause-held
take_front-moved-requires-clause-held g c = held_both g (goal.at.take_front-moved-requires-clause-held g c).After-len-held-2

pub take_front-moved-requires-clause-few : goal.take_front-moved-requires-clause-few
take_front-moved-requires-clause-few g c = few-holders c.self.inside c.self.invariant (omega (arith, c.capacity-most.ensures.value, c.capacity-most.ensures.slots))

pub take_front-moved-requires-clause-count : goal.take_front-moved-requires-clause-count
take_front-moved-requires-clause-count g c = has g (goal.at.take_front-moved-requires-clause-count g c).After-len-held-2

pub take_front-moved-requires-clause-fits : goal.take_front-moved-requires-clause-fits
take_front-moved-requires-clause-fits g c =
    let w = (goal.at.take_front-moved-requires-clause-fits g c).After-len-held-2 in
    let left = pipe-told c.self.inside c.args.to (target g w) (beside g w) c.self.invariant c.args.self.now c.self.view_is (λ x. c.args.count ≤ room x) c.requires.to.room in
    let all = pipe-total c.self.inside c.args.to (target g w) (beside g w) c.self.invariant c.args.self.now c.self.view_is in
    let used : used_of (packets_of (target g w).queue) (length (all_read (segment_at c.self.inside.store) (slots_of (target g w).queue))) ≡ length (all_read (segment_at c.self.inside.store) (slots_of (target g w).queue)) =
    ap (λ o. used_of o (length (all_read (segment_at c.self.inside.store) (slots_of (target g w).queue)))) (target_plain g w) in
    omega (arith, left, all, used, c.len-held-2.ensures.value, c.len-held-2.ensures.fits)

-- the first pipe once more
module _ (g : Over) (c : After-take_front-moved g) where
  abbrev w : After-len-held-2 g
  w = c.before.before.before.before

  abbrev both : List (Option (Content g.row.A.Denot))
  both = slice_set (slice_set c.self.inside.contents.slots c.args.from (Some (emptied g c.before.before.before.before))) c.args.to (Some (Pipe (record c.in-Some-as_pipe_mut.target.now { queue = c.take_front-moved.new.self })))

  both_are_set : AreSet c.self.inside.contents.slots both c.args.from c.args.to (emptied g w) (Pipe (record c.in-Some-as_pipe_mut.target.now { queue = c.take_front-moved.new.self }))
  both_are_set = both-set c.self.inside.contents.slots c.args.from c.args.to c.requires.other (Pipe (source g w)) (Pipe (target g w)) (emptied g w) (Pipe (record c.in-Some-as_pipe_mut.target.now { queue = c.take_front-moved.new.self })) (there g w) (beside g w)

  same : OnErr c.take_front-moved.result ((slots_of c.take_front-moved.new.self ≡ slots_of (target g w).queue) × (c.take_front-moved.new.other.slots ≡ c.exchange.new.other.slots) × (segment_at c.take_front-moved.new.store ≡ m g w))
  same = on_fail c.take_front-moved.result (λ u. (ap slots_of u.0, ap (λ (r : Ring). r.slots) u.1, ap (λ (s : Segments). segment_at s) u.2)) c.take_front-moved.ensures.unchanged

  turned : Turns (m g w) (slots_of (target g w).queue ++ c.exchange.new.other.slots) (segment_at c.take_front-moved.new.store) (slots_of c.take_front-moved.new.self ++ c.take_front-moved.new.other.slots)
  turned = both-turned c.args.count (m g w) c.exchange.new.other.slots (slots_of (target g w).queue) (segment_at c.take_front-moved.new.store) c.take_front-moved.new.other.slots (slots_of c.take_front-moved.new.self) (held_both g w)
      c.take_front-moved.result c.take_front-moved.ensures.passed same

  few_left : total c.take_front-moved.new.other.slots ≤ total c.exchange.new.other.slots
  few_left = left-few c.args.count (m g w) c.exchange.new.other.slots (slots_of (target g w).queue) (segment_at c.take_front-moved.new.store) c.take_front-moved.new.other.slots (slots_of c.take_front-moved.new.self) (held_both g w)
      c.take_front-moved.result (has g w) c.take_front-moved.ensures.passed same

  third : (x : Content g.row.A.Denot) (p : PipeNode g.row.A.Denot) → at both c.args.from ≡ Some x → Some p ≡ as_pipe x → p ≡ record (source g w) { queue = c.exchange.new.self }
  third x p is of = same-pipe-node p (record (source g w) { queue = c.exchange.new.self }) (at both c.args.from) (pipe-there both c.args.from x p is of) both_are_set.first

no_pipe : {A : Type 0} (x : Content A) (p : PipeNode A) (o : Option (Content A)) → o ≡ Some (Pipe p) → o ≡ Some x → as_pipe x ≡ None → ⊥
no_pipe (Pipe y) p o a b none = absurd (cc)
no_pipe (File f) p o a b none = let e : Some (Pipe p) ≡ Some (File f) = sym a ∙ b in absurd (cc)

pub unreachable-requires-in_default-as_pipe_mut-2 : goal.unreachable-requires-in_default-as_pipe_mut-2
unreachable-requires-in_default-as_pipe_mut-2 g c =
    let w = (goal.at.unreachable-requires-in_default-as_pipe_mut-2 g c).After-take_front-moved in
    no_pipe c.index_mut-3.result.now (record (source g w.before.before.before.before) { queue = c.exchange.new.self }) (at (both g w) c.args.from) (both_are_set g w).first c.index_mut-3.ensures.value
    (sym c.as_pipe_mut-3.ensures.value ∙ ap (option_map (λ b. b.now)) c.in_default-as_pipe_mut-2.is)

pub exchange-requires-2-clause-bytes : goal.exchange-requires-2-clause-bytes
exchange-requires-2-clause-bytes g c =
    let w = (goal.at.exchange-requires-2-clause-bytes g c).After-take_front-moved in
    ap (λ (p : PipeNode g.row.A.Denot). packets_of p.queue) (third g w c.index_mut-3.result.now c.in-Some-as_pipe_mut-2.source.now c.index_mut-3.ensures.value c.in-Some-as_pipe_mut-2.ensures.value) ∙ c.exchange.ensures.bytes

pub exchange-requires-2-clause-fits : goal.exchange-requires-2-clause-fits
exchange-requires-2-clause-fits g c =
    let w = (goal.at.exchange-requires-2-clause-fits g c).After-take_front-moved in
    let same : capacity_of c.in-Some-as_pipe_mut-2.source.now.queue ≡ capacity_of c.exchange.new.self =
    ap (λ (p : PipeNode g.row.A.Denot). capacity_of p.queue) (third g w c.index_mut-3.result.now c.in-Some-as_pipe_mut-2.source.now c.index_mut-3.ensures.value c.in-Some-as_pipe_mut-2.ensures.value) in
    let less = few_left g w in
    let all = ap total (ring_slots g w.before.before.before.before) in
    let has : total (slots_of c.in-Some.source.now.queue) ≤ capacity_of c.in-Some.source.now.queue =
    let e = pipe-total c.self.inside c.args.from c.in-Some.source.now (there g w.before.before.before.before) c.self.invariant c.args.self.now c.self.view_is in
    omega (arith, e, c.len-held.ensures.value, c.len-held.ensures.fits) in
    omega (arith, same, c.exchange.ensures.capacity, less, all, has)

pub exchange-requires-2-clause-other_fits : goal.exchange-requires-2-clause-other_fits
exchange-requires-2-clause-other_fits g c =
    let w = (goal.at.exchange-requires-2-clause-other_fits g c).After-take_front-moved in
    let same : total (slots_of c.in-Some-as_pipe_mut-2.source.now.queue) ≡ 0 =
    ap (λ (p : PipeNode g.row.A.Denot). total (slots_of p.queue)) (third g w c.index_mut-3.result.now c.in-Some-as_pipe_mut-2.source.now c.index_mut-3.ensures.value c.in-Some-as_pipe_mut-2.ensures.value)
    ∙ ap total (fresh_slots g w.before.before.before.before) in
    omega (arith, same)

-- it gets the ring back
module _ (g : Over) (c : After-take_front-moved g) (now : PipeNode g.row.A.Denot) (was : now ≡ record c.in-Some.source.now { queue = c.exchange.new.self }) (p : Queue g.row.A.Denot) (slots : slots_of p ≡ c.take_front-moved.new.other.slots)
    (store : Segments) (trim : store ≡ trimmed c.self.inside.limits.spare_max c.take_front-moved.new.store) where
  abbrev q : Queue g.row.A.Denot
  q = c.take_front-moved.new.self

  abbrev source_now : PipeNode g.row.A.Denot
  source_now = c.in-Some.source.now

  abbrev target_now : PipeNode g.row.A.Denot
  target_now = c.in-Some-as_pipe_mut.target.now

  abbrev after : List (Option (Content g.row.A.Denot))
  after = slice_set (both g c) c.args.from (Some (Pipe (record now { queue = p })))

  are_set : AreSet c.self.inside.contents.slots after c.args.from c.args.to (Pipe (record source_now { queue = p })) (Pipe (record target_now { queue = q }))
  are_set =
      subst (λ (x : PipeNode g.row.A.Denot). AreSet c.self.inside.contents.slots after c.args.from c.args.to (Pipe (record x { queue = p })) (Pipe (record target_now { queue = q }))) was
      (set-again c.self.inside.contents.slots (both g c) c.args.from c.args.to c.requires.other (emptied g (w g c)) (Pipe (record target_now { queue = q })) (Pipe (record now { queue = p })) (both_are_set g c))

  turns : Turns (segment_at c.self.inside.store) (slots_of target_now.queue ++ slots_of source_now.queue) (segment_at store) (slots_of q ++ slots_of p)
  turns =
      subst (λ (s : Segments). Turns (segment_at c.self.inside.store) (slots_of target_now.queue ++ slots_of source_now.queue) (segment_at s) (slots_of q ++ slots_of p)) (sym trim)
      (subst (λ zs. Turns (segment_at c.self.inside.store) (slots_of target_now.queue ++ slots_of source_now.queue) (segment_at c.take_front-moved.new.store) (slots_of q ++ zs)) (sym slots)
      (subst (λ zs. Turns (segment_at c.self.inside.store) (slots_of target_now.queue ++ zs) (segment_at c.take_front-moved.new.store) (slots_of q ++ c.take_front-moved.new.other.slots)) (ring_slots g (w g c)) (turned g c)))

  module _ (plain : packets_of p ≡ None) where
    pub back-sound : length (slots_of p) ≤ most_file_bytes → length (slots_of q) ≤ most_file_bytes → IsSound (record c.self.inside { store = store; contents = record c.self.inside.contents { slots = after } })
    back-sound short short_too =
        both-sound c.self.inside c.self.invariant c.args.self.now c.self.view_is c.args.from c.args.to c.requires.other source_now target_now p q (there g (w g c)) (beside g (w g c)) after are_set store turns
        plain c.take_front-moved.ensures.plain short short_too (subst (λ (s : Segments). s.room ≤ c.self.inside.limits.spare_max) (sym trim) (omega arith))

    module _ (capacity : capacity_of p ≡ capacity_of source_now.queue) where
      lost : Passed c.args.count (segment_at c.self.inside.store) c.exchange.new.other.slots (slots_of target_now.queue) (segment_at c.take_front-moved.new.store) c.take_front-moved.new.other.slots (slots_of q)
          → pipe_of (segment_at store) (record source_now { queue = p }) ≡ lose c.args.count (pipe_of (segment_at c.self.inside.store) source_now)
      lost passed = (λ i. record {
        bytes = (
            (λ j. all_read (segment_at (trim j)) (slots j)) ∙ passed.rest
            ∙ ap (λ xs. drop c.args.count (all_read (segment_at c.self.inside.store) xs)) (ring_slots g (w g c))
            ) i;
        packets = (plain ∙ sym (ap (option_map (without_front c.args.count)) (source_plain g (w g c)))) i;
        capacity = capacity i;
        hung = source_now.hung;
      })

      gained : Passed c.args.count (segment_at c.self.inside.store) c.exchange.new.other.slots (slots_of target_now.queue) (segment_at c.take_front-moved.new.store) c.take_front-moved.new.other.slots (slots_of q)
          → pipe_of (segment_at store) (record target_now { queue = q }) ≡ gain (take c.args.count (bytes_of (at c.args.self.now.pipes c.args.from))) (pipe_of (segment_at c.self.inside.store) target_now)
      gained passed = (λ i. record {
        bytes = (
            ap (λ (s : Segments). all_read (segment_at s) (slots_of q)) trim ∙ passed.read
            ∙ ap (λ bs. all_read (segment_at c.self.inside.store) (slots_of target_now.queue) ++ take c.args.count bs) (sym (source_bytes g (w g c)))
            ) i;
        packets = (c.take_front-moved.ensures.plain ∙ sym (ap (option_map (λ lengths. lengths ++ piece_lengths (length (take c.args.count (bytes_of (at c.args.self.now.pipes c.args.from)))))) (target_plain g (w g c)))) i;
        capacity = c.take_front-moved.ensures.capacity.0 i;
        hung = target_now.hung;
      })

      pub back-ok : OnOk c.take_front-moved.result (at (view_of (record c.self.inside { store = store; contents = record c.self.inside.contents { slots = after } })).pipes
          ≡ change_at c.args.to (gain (take c.args.count (bytes_of (at c.args.self.now.pipes c.args.from)))) (change_at c.args.from (lose c.args.count) (at c.args.self.now.pipes)))
      back-ok = on_ok c.take_front-moved.result
          (λ passed. both-pipes c.self.inside c.self.invariant c.args.self.now c.self.view_is c.args.from c.args.to c.requires.other source_now target_now p q (there g (w g c)) (beside g (w g c)) after are_set store turns
          (lose c.args.count) (gain (take c.args.count (bytes_of (at c.args.self.now.pipes c.args.from)))) (lost passed) (gained passed))
          c.take_front-moved.ensures.passed

      pub back-err : OnErr c.take_front-moved.result (view_of (record c.self.inside { store = store; contents = record c.self.inside.contents { slots = after } }) ≡ c.args.self.now)
      back-err = on_fail c.take_front-moved.result
          (λ u.
          let ring : p ≡ source_now.queue = plain-same p source_now.queue plain (source_plain g (w g c)) (slots ∙ ap (λ (r : Ring). r.slots) u.1 ∙ ring_slots g (w g c)) capacity in
          let all : after ≡ c.self.inside.contents.slots =
          same-list after c.self.inside.contents.slots are_set.long
          (fun_ext (each c.self.inside.contents.slots after c.args.from c.args.to c.requires.other source_now target_now p q (there g (w g c)) (beside g (w g c)) are_set (λ old new. new ≡ old)
          (λ i. Some (Pipe (record source_now { queue = ring i }))) (λ i. Some (Pipe (record target_now { queue = u.0 i }))) (λ j d e. refl))) in
          let kept = trim ∙ ap (trimmed c.self.inside.limits.spare_max) u.2 in
          (λ i. view_of (record c.self.inside { store = kept i; contents = record c.self.inside.contents { slots = all i } })) ∙ c.self.view_is)
          c.take_front-moved.ensures.unchanged

  pub back-files : SameFiles c.args.self.now (view_of (record c.self.inside { store = store; contents = record c.self.inside.contents { slots = after } }))
  back-files = both-files c.self.inside c.self.invariant c.args.self.now c.self.view_is c.args.from c.args.to c.requires.other source_now target_now p q (there g (w g c)) (beside g (w g c)) after are_set store turns

  pub back-shares : OnOk c.take_front-moved.result (SharesSlots (memory_of c.args.self.now) (memory_of (view_of (record c.self.inside { store = store; contents = record c.self.inside.contents { slots = after } }))) c.args.from c.args.to)
  back-shares = on_ok c.take_front-moved.result
      (λ makes. record {
        few =
            let seen : live_count c.self.inside.store.held ≡ c.args.self.now.segments = ap (λ (v : Nodes). v.segments) c.self.view_is in
            let kept = ap (λ (s : Segments). live_count s.held) trim in
            omega (arith, makes.segments, seen, kept);
        parts =
            let to_was = slots-flat c.self.inside c.args.to (Pipe target_now) (beside g (w g c)) c.self.invariant c.args.self.now c.self.view_is in
            let from_was = slots-flat c.self.inside c.args.from (Pipe source_now) (there g (w g c)) c.self.invariant c.args.self.now c.self.view_is in
            let to_now = both-slots c.self.inside c.self.invariant c.args.self.now c.self.view_is c.args.from c.args.to c.requires.other source_now target_now p q (there g (w g c)) (beside g (w g c)) after are_set store turns in
            let e : strange (slots_at c.args.self.now.slots c.args.to) (slots_at c.args.self.now.slots c.args.from) (slots_at (lists after) c.args.to) ≡ strange (slots_of target_now.queue) (slots_of source_now.queue) (slots_of q) =
            (λ i. strange (to_was i) (from_was i) (to_now i)) in
            let less = strange-front (slots_of target_now.queue) (slots_of source_now.queue) c.args.count (slots_of q) in
            let f : fresh (slots_of target_now.queue ++ front_of c.args.count c.exchange.new.other.slots) (slots_of q) ≡ fresh (slots_of target_now.queue ++ front_of c.args.count (slots_of source_now.queue)) (slots_of q) =
            ap (λ ys. fresh (slots_of target_now.queue ++ front_of c.args.count ys) (slots_of q)) (ring_slots g (w g c)) in
            omega (arith, e, less, f, makes.slots);
      })
      c.take_front-moved.ensures.makes

pub invariant_of-self : goal.invariant_of-self
invariant_of-self g c =
    let k = (goal.at.invariant_of-self g c).After-take_front-moved in
    let was = third g k c.index_mut-3.result.now c.in-Some-as_pipe_mut-2.source.now c.index_mut-3.ensures.value c.in-Some-as_pipe_mut-2.ensures.value in
    back-sound g k c.in-Some-as_pipe_mut-2.source.now was c.exchange-2.new.self c.exchange-2.ensures.slots c.trim.new.self c.trim.ensures c.exchange-2.ensures.bytes
    (omega (arith, c.slots-few-2.ensures.value, c.slots-few-2.ensures.few)) (omega (arith, c.slots-few.ensures.value, c.slots-few.ensures.few))

pub returns-clause-files : goal.returns-clause-files
returns-clause-files g c =
    let k = (goal.at.returns-clause-files g c).After-take_front-moved in
    let was = third g k c.index_mut-3.result.now c.in-Some-as_pipe_mut-2.source.now c.index_mut-3.ensures.value c.in-Some-as_pipe_mut-2.ensures.value in
    back-files g k c.in-Some-as_pipe_mut-2.source.now was c.exchange-2.new.self c.exchange-2.ensures.slots c.trim.new.self c.trim.ensures

pub returns-clause-shares : goal.returns-clause-shares
returns-clause-shares g c =
    let k = (goal.at.returns-clause-shares g c).After-take_front-moved in
    let was = third g k c.index_mut-3.result.now c.in-Some-as_pipe_mut-2.source.now c.index_mut-3.ensures.value c.in-Some-as_pipe_mut-2.ensures.value in
    back-shares g k c.in-Some-as_pipe_mut-2.source.now was c.exchange-2.new.self c.exchange-2.ensures.slots c.trim.new.self c.trim.ensures

pub returns-clause-ok : goal.returns-clause-ok
returns-clause-ok g c =
    let k = (goal.at.returns-clause-ok g c).After-take_front-moved in
    let was = third g k c.index_mut-3.result.now c.in-Some-as_pipe_mut-2.source.now c.index_mut-3.ensures.value c.in-Some-as_pipe_mut-2.ensures.value in
    back-ok g k c.in-Some-as_pipe_mut-2.source.now was c.exchange-2.new.self c.exchange-2.ensures.slots c.trim.new.self c.trim.ensures c.exchange-2.ensures.bytes
    (c.exchange-2.ensures.capacity ∙ ap (λ (x : PipeNode g.row.A.Denot). capacity_of x.queue) was ∙ c.exchange.ensures.capacity)

pub returns-clause-unchanged : goal.returns-clause-unchanged
returns-clause-unchanged g c =
    let k = (goal.at.returns-clause-unchanged g c).After-take_front-moved in
    let was = third g k c.index_mut-3.result.now c.in-Some-as_pipe_mut-2.source.now c.index_mut-3.ensures.value c.in-Some-as_pipe_mut-2.ensures.value in
    back-err g k c.in-Some-as_pipe_mut-2.source.now was c.exchange-2.new.self c.exchange-2.ensures.slots c.trim.new.self c.trim.ensures c.exchange-2.ensures.bytes
    (c.exchange-2.ensures.capacity ∙ ap (λ (x : PipeNode g.row.A.Denot). capacity_of x.queue) was ∙ c.exchange.ensures.capacity)
