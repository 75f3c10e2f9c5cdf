-- The first bytes of a ring that stands by itself go to a byte queue, or don't.
use Rattle.std.proofs.Common.{◌≡◌, ◌≢◌, ◌≤◌, ◌<◌, ℕ, List, [], ◌++◌, Option, Some, None, Result, Ok, Err, OnOk, OnErr, sym, ◌∙◌, ap, subst, length, set, arith}
use Rattle.std.proofs.lemmas.List.{get_or-set_other, length-set}
use Rattle.pl_segments.specs.declared.slice.Slice.{Slice}
use Rattle.pl_segments.specs.Segments.{Map}
use Rattle.pl_segments.specs.Slices.{naming}
use Rattle.pl_segments.specs.Turns.{Holds, Turns}
use Rattle.pl_segments.specs.Slots.{total}
use Rattle.pl_segments.specs.Sharing.{slots_at, AreShared}
use Rattle.pl_segments.proofs.Fronting.{total-drop}
use Rattle.pl_segments.proofs.Turning.{naming-append, lie-append, turns-same}
use Rattle.pl_segments.proofs.Shared.{named-set}
use Rattle.pl_ring.specs.Pushed.{Passed}
use Rattle.pl_nodes.specs.declared.content.PipeNode.{PipeNode}
use Rattle.pl_nodes.specs.declared.content.Content.{Content}
use Rattle.pl_nodes.specs.declared.content.Content.TheVariants.{Pipe, File}
use Rattle.pl_nodes.specs.declared.queue.Queue.{Queue}
use Rattle.pl_nodes.specs.declared.queue.Queue.TheVariants.{Bytes, Packets}
use Rattle.pl_nodes.specs.Queue.{slots_of, capacity_of, packets_of}

-- the slots of two lists are held
pub two-held : (m : Map) (all : List (List Slice)) (p q : ℕ) → p ≢ q → p < length all → q < length all → AreShared m all → Holds m (slots_at all p ++ slots_at all q)
two-held m all p q apart in_p in_q shared = record {
  lie = lie-append m (slots_at all p) (slots_at all q) (shared.lie p) (shared.lie q);
  few = λ key.
      let a = naming-append (slots_at all p) (slots_at all q) key in
      let b = named-set all p [] key in_p in
      let l = length-set all p [] in
      let c = named-set (set all p []) q [] key (omega (arith, in_q, l)) in
      let d : naming (slots_at (set all p []) q) key ≡ naming (slots_at all q) key = ap (λ zs. naming zs key) (get_or-set_other all p q [] [] (λ e. apart (sym e))) in
      let e = shared.counted key in
      omega (arith, a, b, c, d, e);
}

-- what became of the slots of both
module _ {T E : Type 0} (count : ℕ) (m : Map) (from to : List Slice) (n : Map) (left got : List Slice) (held : Holds m (to ++ from)) where
  pub both-turned : (r : Result T E) → OnOk r (Passed count m from to n left got) → OnErr r ((got ≡ to) × (left ≡ from) × (n ≡ m)) → Turns m (to ++ from) n (got ++ left)
  both-turned (Ok x) passed same = passed.turns
  both-turned (Err e) passed same =
      subst (λ o. Turns m (to ++ from) o (got ++ left)) (sym same.2)
      (subst (Turns m (to ++ from) m) (sym (λ i. same.0 i ++ same.1 i)) (turns-same m (to ++ from) held.lie))

  pub left-few : (r : Result T E) → count ≤ total from → OnOk r (Passed count m from to n left got) → OnErr r ((got ≡ to) × (left ≡ from) × (n ≡ m)) → total left ≤ total from
  left-few (Ok x) few passed same = let e = ap total passed.slots in let d = total-drop from count few in omega (arith, e, d)
  left-few (Err e) few passed same = let d = ap total same.1 in omega (arith, d)

pub on_fail : {T E P Q : Type 0} (r : Result T E) → (P → Q) → OnErr r P → OnErr r Q
on_fail (Ok x) f h = tt
on_fail (Err e) f h = f h

-- byte queues with the same slots and capacity are the same
pub plain-same : {A : Type 0} (p q : Queue A) → packets_of p ≡ None → packets_of q ≡ None → slots_of p ≡ slots_of q → capacity_of p ≡ capacity_of q → p ≡ q
plain-same (Bytes x) (Bytes y) a b slots capacity = (λ i. Bytes (record { slots = slots i; capacity = capacity i }))
plain-same (Bytes x) (Packets y) a b slots capacity = absurd (cc)
plain-same (Packets x) q a b slots capacity = absurd (cc)

-- which pipe stands under a key
pub same-pipe-node : {A : Type 0} (x y : PipeNode A) (o : Option (Content A)) → o ≡ Some (Pipe x) → o ≡ Some (Pipe y) → x ≡ y
same-pipe-node {A} x y o a b = ap (one x) (sym a ∙ b)
  where
    one : PipeNode A → Option (Content A) → PipeNode A
    one d None = d
    one d (Some (Pipe p)) = p
    one d (Some (File f)) = d
