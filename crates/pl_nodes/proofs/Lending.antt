-- Slices of one pipe or file that are pushed on a pipe.
use Rattle.std.proofs.Common.{◌≡◌, ℕ, ◌+◌, ◌-◌, ◌≤◌, ◌++◌, List, [], ◌∷◌, Some, None, sym, ◌∙◌, ap, subst, inl, inr, take, length, slice_set, arith}
use Rattle.std.specs.Prelude.{IfSome, option_map}
use Rattle.std.proofs.lemmas.Bool.{cases_lt}
use Rattle.std.proofs.lemmas.Bool.Decides.{eqb_tells}
use Rattle.std.proofs.lemmas.List.{get_or-set_same}
use Rattle.pl_model.specs.Map.{change_at}
use Rattle.pl_model.specs.Packets.{piece_lengths, used_of, gain}
use Rattle.pl_model.specs.Transfer.{room}
use Rattle.pl_segments.specs.declared.slice.Slice.{Slice}
use Rattle.pl_segments.specs.Segments.{Segments, segment_at, at}
use Rattle.pl_segments.specs.Slices.{AllLie, all_read}
use Rattle.pl_segments.specs.Turns.{Turns}
use Rattle.pl_segments.specs.Slots.{total, drop_bytes, front_of}
use Rattle.pl_segments.specs.Sharing.{slots_at}
use Rattle.pl_segments.proofs.Fronting.{front-whole, front-part, front-none, front-lie, front-read, front-total}
use Rattle.pl_ring.specs.Parts.{fresh, strange}
use Rattle.pl_file.proofs.Editing.{lie-drop, drop-read}
use Rattle.pl_nodes.specs.declared.queue.Queue.{Queue}
use Rattle.pl_nodes.specs.declared.content.PipeNode.{PipeNode}
use Rattle.pl_nodes.specs.declared.content.FileNode.{FileNode}
use Rattle.pl_nodes.specs.declared.content.Content.TheVariants.{Pipe, File}
use Rattle.pl_nodes.specs.declared.nodes.Nodes.TheInside.{Inside}
use Rattle.pl_nodes.specs.Nodes.{Nodes, bytes_of, part_of}
use Rattle.pl_nodes.specs.NodesView.{slots_in, lists, view_of, IsSound}
use Rattle.pl_nodes.specs.Queue.{slots_of, capacity_of, packets_of}
use Rattle.pl_nodes.proofs.Keyed.{within}
use Rattle.pl_nodes.proofs.Lists.{lists-at}
use Rattle.pl_nodes.proofs.Slices.{strange-front}
use Rattle.pl_nodes.proofs.AtKey.{held, with_content, slots-flat}
use Rattle.pl_nodes.proofs.Pipes.{pipe-total, pipe-flat, pipe-told, pipe-done}
use Rattle.pl_nodes.proofs.Files.{file-flat}

-- the slices of so many bytes have no more
front-most : (n : ℕ) (xs : List Slice) → total (front_of n xs) ≤ n
front-most n [] = omega arith
front-most n (x ∷ xs) = elim (cases_lt x.len n) as (λ _. total (front_of n (x ∷ xs)) ≤ n) [
  | inl l ↦ let e = ap total (front-whole n x xs l) in let rest = front-most (n - x.len) xs in omega (arith, e, rest, l)
  | inr l ↦ elim (eqb_tells n 0) as (λ _. total (front_of n (x ∷ xs)) ≤ n) [
    | inl z ↦ let e = ap total (ap (λ k. front_of k (x ∷ xs)) z.1 ∙ front-none (x ∷ xs)) in omega (arith, e)
    | inr z ↦ let e = ap total (front-part n x xs l z.1) in omega (arith, e)
  ]
]

module _ {A : Type 0} (k : Inside A) (sound : IsSound k) (flat : Nodes) (is : view_of k ≡ flat) where
  -- the first bytes of a pipe
  module _ (from : ℕ) (s : PipeNode A) (there : at k.contents.slots from ≡ Some (Pipe s)) (count : ℕ) (slices : List Slice) (front : slices ≡ front_of count (slots_of s.queue)) where
    pub front-lies : AllLie (segment_at k.store) slices
    front-lies = subst (AllLie (segment_at k.store)) (sym front) (front-lie (segment_at k.store) (slots_of s.queue) count (held k from (Pipe s) there sound).lie)

    pub front-bytes : all_read (segment_at k.store) slices ≡ take count (bytes_of (at flat.pipes from))
    front-bytes =
        ap (all_read (segment_at k.store)) front
        ∙ front-read (segment_at k.store) (slots_of s.queue) count (held k from (Pipe s) there sound).lie
        ∙ ap (λ o. take count (bytes_of o)) (sym (pipe-flat k from s there sound flat is))

    pub front-few : total slices ≤ count
    front-few = subst (λ ys. total ys ≤ count) (sym front) (front-most count (slots_of s.queue))

    pub front-exact : IfSome (at flat.pipes from) (λ x. count ≤ length x.bytes) → total slices ≡ count
    front-exact asked =
        let told = pipe-told k from s there sound flat is (λ x. count ≤ length x.bytes) asked in
        let sum = pipe-total k from s there sound flat is in
        ap total front ∙ front-total (slots_of s.queue) count (omega (arith, told, sum))

  -- the bytes of a file from a place on
  module _ (from : ℕ) (f : FileNode A) (there : at k.contents.slots from ≡ Some (File f)) (place count : ℕ) (slices : List Slice) (part : slices ≡ front_of count (drop_bytes place f.file)) where
    pub part-lies : AllLie (segment_at k.store) slices
    part-lies =
        subst (AllLie (segment_at k.store)) (sym part)
        (front-lie (segment_at k.store) (drop_bytes place f.file) count (lie-drop (segment_at k.store) f.file place (held k from (File f) there sound).lie))

    pub part-bytes : all_read (segment_at k.store) slices ≡ part_of place count (at flat.files from)
    part-bytes =
        let lie = (held k from (File f) there sound).lie in
        ap (all_read (segment_at k.store)) part
        ∙ front-read (segment_at k.store) (drop_bytes place f.file) count (lie-drop (segment_at k.store) f.file place lie)
        ∙ ap (take count) (drop-read (segment_at k.store) f.file place lie)
        ∙ ap (part_of place count) (sym (file-flat k from f there sound flat is))

    pub part-few : total slices ≤ count
    part-few = subst (λ ys. total ys ≤ count) (sym part) (front-most count (drop_bytes place f.file))

  -- they are pushed
  module _ (to : ℕ) (t : PipeNode A) (there : at k.contents.slots to ≡ Some (Pipe t)) (slices : List Slice) where
    pub push-fits : (count : ℕ) → total slices ≤ count → IfSome (at flat.pipes to) (λ x. count ≤ room x) → total (slots_of t.queue) ≤ capacity_of t.queue
        → packets_of t.queue ≡ None → total (slots_of t.queue) + total slices ≤ capacity_of t.queue
    push-fits count few asked fits bytes =
        let told : count ≤ capacity_of t.queue - length (all_read (segment_at k.store) (slots_of t.queue)) =
        subst (λ o. count ≤ capacity_of t.queue - used_of o (length (all_read (segment_at k.store) (slots_of t.queue)))) bytes (pipe-told k to t there sound flat is (λ x. count ≤ room x) asked) in
        let sum = pipe-total k to t there sound flat is in
        omega (arith, few, told, sum, fits)

    module _ (store : Segments) (q : Queue A) where
      pub pushed-ok : (bytes : List ℕ) → all_read (segment_at k.store) slices ≡ bytes → Turns (segment_at k.store) (slots_of t.queue) (segment_at store) (slots_of q)
          → all_read (segment_at store) (slots_of q) ≡ all_read (segment_at k.store) (slots_of t.queue) ++ all_read (segment_at k.store) slices → capacity_of q ≡ capacity_of t.queue → packets_of t.queue ≡ None → packets_of q ≡ None
          → at (view_of (with_content k to (Pipe t) there sound store (Pipe (record t { queue = q })))).pipes ≡ change_at to (gain bytes) (at flat.pipes)
      pushed-ok bytes reads turns read capacity was now =
          pipe-done k to t there sound flat is store (record t { queue = q }) turns (gain bytes)
          (λ i. record { bytes = (read ∙ ap (λ bs. all_read (segment_at k.store) (slots_of t.queue) ++ bs) reads) i; packets = (now ∙ sym (ap (option_map (λ lengths. lengths ++ piece_lengths (length bytes))) was)) i; capacity = capacity i; hung = t.hung })

      pub pushed-parts : (from : ℕ) (s : PipeNode A) → at k.contents.slots from ≡ Some (Pipe s) → (count : ℕ) → slices ≡ front_of count (slots_of s.queue)
          → fresh (slots_of t.queue ++ slices) (slots_of q) ≤ 3
          → strange (slots_at flat.slots to) (slots_at flat.slots from) (slots_at (lists (slice_set k.contents.slots to (Some (Pipe (record t { queue = q }))))) to) ≤ 3
      pushed-parts from s source count front few =
          let was = slots-flat k to (Pipe t) there sound flat is in
          let lent = slots-flat k from (Pipe s) source sound flat is in
          let now = lists-at (slice_set k.contents.slots to (Some (Pipe (record t { queue = q })))) to
          ∙ ap slots_in (get_or-set_same k.contents.slots to (Some (Pipe (record t { queue = q }))) None (within k.contents.slots to (Pipe t) there)) in
          let e : strange (slots_at flat.slots to) (slots_at flat.slots from) (slots_at (lists (slice_set k.contents.slots to (Some (Pipe (record t { queue = q }))))) to) ≡ strange (slots_of t.queue) (slots_of s.queue) (slots_of q) = (λ i. strange (was i) (lent i) (now i)) in
          let less = strange-front (slots_of t.queue) (slots_of s.queue) count (slots_of q) in
          let f : fresh (slots_of t.queue ++ slices) (slots_of q) ≡ fresh (slots_of t.queue ++ front_of count (slots_of s.queue)) (slots_of q) = ap (λ ys. fresh (slots_of t.queue ++ ys) (slots_of q)) front in
          omega (arith, e, less, f, few)
