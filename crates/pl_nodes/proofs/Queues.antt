-- The packets of a queue.
use Rattle.std.proofs.Common.{◌≡◌, ℕ, zero, suc, ◌-◌, ◌/◌, ◌≤◌, List, [], ◌∷◌, Option, Some, None, refl, sym, ◌∙◌, ap, length, take, drop, arith}
use Rattle.std.specs.Prelude.{if◌then◌else◌, is_some, option_map, IsSome, IfSome}
use Rattle.std.proofs.lemmas.Bool.{le-leb, lt-leb}
use Rattle.pl_model.specs.Packets.{without_front, used_of, front_of, spent_of}
use Rattle.pl_segments.specs.declared.slice.Slice.{Slice}
use Rattle.pl_segments.specs.Segments.{Map}
use Rattle.pl_segments.specs.Slices.{all_read}
use Rattle.pl_segments.specs.Slots.{total, AllSolid}
use Rattle.pl_ring.specs.Merging.{lens}
use Rattle.pl_packets.specs.Packets.{first_len}
use Rattle.pl_nodes.specs.declared.queue.Queue.{Queue}
use Rattle.pl_nodes.specs.declared.queue.Queue.TheVariants.{Bytes, Packets}
use Rattle.pl_nodes.specs.Queue.{slots_of, front_by}

-- what changes in a list changes in no other sense
pub mapped : {V W : Type 0} (f : V → W) (o : Option V) → is_some (option_map f o) ≡ is_some o
mapped f None = refl
mapped f (Some x) = refl

-- solid packets stay whole where no bytes go
without-none : (xs : List Slice) → AllSolid xs → without_front 0 (lens xs) ≡ lens xs
without-none [] solid = refl
without-none (x ∷ xs) solid =
    let some = solid.0 in
    let all : x.len - 0 ≡ x.len = omega arith in
    ap (λ b. if b then without_front (0 - x.len) (lens xs) else (x.len - 0) ∷ lens xs) (lt-leb x.len 0 (omega (arith, some)))
    ∙ ap (λ n. n ∷ lens xs) all

-- a read takes the first packet
pub packets-front : (xs : List Slice) (held : ℕ) → front_of (Some (lens xs)) held ≡ first_len xs
packets-front [] held = refl
packets-front (x ∷ xs) held = refl

-- which has no more bytes than all have
pub first-within : (xs : List Slice) → first_len xs ≤ total xs
first-within [] = omega arith
first-within (x ∷ xs) = omega arith

pub front-within : {A : Type 0} (q : Queue A) → front_by q ≤ total (slots_of q)
front-within (Bytes ring) = omega arith
front-within (Packets ring) =
    let first = first-within ring.slots in
    let e = packets-front ring.slots (total ring.slots) in
    omega (arith, first, e)

pub packets-spent : (xs : List Slice) (n : ℕ) → 1 ≤ length xs → spent_of (Some (lens xs)) n ≡ first_len xs
packets-spent [] n some = absurd (omega (arith, some))
packets-spent (x ∷ xs) n some = refl

pub packets-left : (xs : List Slice) (n : ℕ) → AllSolid xs → 1 ≤ length xs → lens (drop 1 xs) ≡ without_front (spent_of (Some (lens xs)) n) (lens xs)
packets-left [] n solid some = absurd (omega (arith, some))
packets-left (x ∷ xs) n solid some =
    let none : x.len - x.len ≡ 0 = omega arith in
    sym (
    ap (λ b. if b then without_front (x.len - x.len) (lens xs) else (x.len - x.len) ∷ lens xs) (le-leb x.len x.len (omega arith))
    ∙ ap (λ k. without_front k (lens xs)) none
    ∙ without-none xs solid.1
    )

-- where there is none, it takes nothing
pub none-spent : (xs : List Slice) (n : ℕ) → length xs ≡ 0 → lens xs ≡ without_front (spent_of (Some (lens xs)) n) (lens xs)
none-spent [] n none = refl
none-spent (x ∷ xs) n none = absurd (omega (arith, none))

pub none-left : (m : Map) (xs : List Slice) (n : ℕ) → length xs ≡ 0 → n ≤ first_len xs → all_read m xs ≡ drop (spent_of (Some (lens xs)) n) (all_read m xs)
none-left m [] zero none few = refl
none-left m [] (suc n) none few = absurd (omega (arith, few))
none-left m (x ∷ xs) n none few = absurd (omega (arith, none))

pub none-read : (m : Map) (xs : List Slice) (n : ℕ) → length xs ≡ 0 → n ≤ first_len xs → [] ≡ take n (all_read m xs)
none-read m [] zero none few = refl
none-read m [] (suc n) none few = absurd (omega (arith, few))
none-read m (x ∷ xs) n none few = absurd (omega (arith, none))

-- of a packet pipe that holds a packet, a read takes as much as it can get
pub spent-front : (o : Option (List ℕ)) (held n : ℕ) → IsSome o → IfSome o (λ lengths. 1 ≤ length lengths) → spent_of o n ≡ front_of o held
spent-front None held n is some = absurd (cc)
spent-front (Some []) held n is some = absurd (omega (arith, some))
spent-front (Some (l ∷ ls)) held n is some = refl

-- the places that are left, by the room
pub places-left : (o : Option (List ℕ)) (capacity held n : ℕ) → n ≡ capacity - used_of o held → IfSome o (λ lengths. n / 4096 ≡ capacity / 4096 - length lengths)
places-left None capacity held n e = tt
places-left (Some lengths) capacity held n e = omega (arith, e)
