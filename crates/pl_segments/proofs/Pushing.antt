-- Slots that are pushed, and a last slot that grows.
use Rattle.std.proofs.Common.{◌≡◌, ◌≢◌, ℕ, zero, suc, ◌+◌, ◌<◌, ◌≤◌, Bool, true, false, List, [], ◌∷◌, ◌++◌, Ok, refl, sym, ◌∙◌, ap, subst, inl, inr, nat_eq, length, take, drop, get_or, arith}
use Rattle.std.specs.Prelude.{if◌then◌else◌}
use Rattle.std.proofs.lemmas.Bool.{eq-eqb, ne_eqb}
use Rattle.std.proofs.lemmas.Bool.Decides.{eqb_tells}
use Rattle.std.proofs.lemmas.List.{append-nil, append_assoc, take_more, length-append}
use Rattle.pl_segments.specs.declared.slice.Slice.{Slice}
use Rattle.pl_segments.specs.Segments.{Map, filled, holders}
use Rattle.pl_segments.specs.Slices.{Lies, reads, all_read, AllLie, naming, one_if, appended, longer_by, room_after}
use Rattle.pl_segments.specs.Turns.{Holds, Turns}
use Rattle.pl_segments.proofs.Changing.{reads-begun, lies-begun, appended-fits}
use Rattle.pl_segments.proofs.Turning.{lie-right, read-append, turns-then, holds-turned, turns-behind, read-behind}
use Rattle.pl_segments.specs.Slots.{total, AllSolid, solid_of, tail_room}
use Rattle.pl_segments.proofs.SlotLemmas.{solid-append, solid-left, room-last, total-read}

-- one of some slices
pub lie-at : (m : Map) (xs : List Slice) (i : ℕ) (d : Slice) → i < length xs → AllLie m xs → Lies m (get_or xs i d)
lie-at m [] i d l lie = absurd (omega arith)
lie-at m (x ∷ xs) zero d l lie = lie.0
lie-at m (x ∷ xs) (suc i) d l lie = lie-at m xs i d (omega arith) lie.1

-- the last slot grows
module _ (m n : Map) (xs front : List Slice) (x y : Slice) (bytes : List ℕ) (shape : xs ≡ front ++ x ∷ []) (held : Holds m xs) where
  split : Holds m (front ++ x ∷ [])
  split = subst (Holds m) shape held

  pub tail-lies : Lies m x
  tail-lies = (lie-right m front (x ∷ []) split.lie).0

  pub tail-fits : 1 ≤ length bytes → length bytes ≤ tail_room m xs → appended m x (length bytes) ≡ Ok (longer_by (length bytes) x)
  tail-fits some fits = appended-fits m x (length bytes) some (let r : tail_room m xs ≡ room_after m x = ap (tail_room m) shape ∙ room-last m front x in omega (arith, r, fits))

  module _ (t : Turns m (x ∷ []) n (y ∷ [])) where
    pub tail-turns : Turns m xs n (front ++ y ∷ [])
    tail-turns = subst (λ zs. Turns m zs n (front ++ y ∷ [])) (sym shape) (turns-behind m n front (x ∷ []) (y ∷ []) split t)

    pub tail-read : reads n y ≡ reads m x ++ bytes → all_read n (front ++ y ∷ []) ≡ all_read m xs ++ bytes
    tail-read r =
        read-behind m n front (x ∷ []) (y ∷ []) split t
        ∙ ap (λ bs. all_read m front ++ bs) (append-nil (reads n y) ∙ r)
        ∙ sym (append_assoc (all_read m front) (reads m x) bytes)
        ∙ ap (λ bs. (all_read m front ++ bs) ++ bytes) (sym (append-nil (reads m x)))
        ∙ ap (λ bs. bs ++ bytes) (sym (read-append m front (x ∷ [])))
        ∙ ap (λ zs. all_read m zs ++ bytes) (sym shape)

  pub tail-solid : AllSolid xs → 1 ≤ y.len → AllSolid (front ++ y ∷ [])
  tail-solid s l = solid-append front (y ∷ []) (solid-left front (x ∷ []) (subst AllSolid shape s)) (l, tt)

-- a slot is pushed
module _ (m n : Map) (ys : List Slice) (x : Slice) (bytes : List ℕ) (held : Holds m ys) (t : Turns m [] n (x ∷ [])) where
  before : Holds m (ys ++ [])
  before = subst (Holds m) (sym (append-nil ys)) held

  pub push-turns : Turns m ys n (ys ++ x ∷ [])
  push-turns = subst (λ zs. Turns m zs n (ys ++ x ∷ [])) (append-nil ys) (turns-behind m n ys [] (x ∷ []) before t)

  pub push-read : reads n x ≡ bytes → all_read n (ys ++ x ∷ []) ≡ all_read m ys ++ bytes
  push-read r = read-behind m n ys [] (x ∷ []) before t ∙ ap (λ bs. all_read m ys ++ bs) (append-nil (reads n x) ∙ r)

-- slices are pushed
module _ (m n : Map) (xs ys : List Slice) (held : Holds m xs) (t : Turns m [] n ys) where
  pub pushes-turns : Turns m xs n (xs ++ ys)
  pushes-turns = subst (λ zs. Turns m zs n (xs ++ ys)) (append-nil xs) (turns-behind m n xs [] ys (subst (Holds m) (sym (append-nil xs)) held) t)

  pub pushes-read : all_read n (xs ++ ys) ≡ all_read m xs ++ all_read n ys
  pushes-read = read-behind m n xs [] ys (subst (Holds m) (sym (append-nil xs)) held) t

-- what lies in a held segment stays, where nothing is let go
module _ (m n : Map) (ys : List Slice) (t : Turns m [] n ys) where
  pub lies-still : (x : Slice) → Lies m x → Lies n x
  lies-still x p = let c = t.counted x.segment in let h = p.here in lies-begun m n x (t.kept x.segment (omega arith)) (omega arith) p.within

  pub reads-still : (x : Slice) → Lies m x → reads n x ≡ reads m x
  reads-still x p = let h = p.here in reads-begun m n x (t.kept x.segment (omega arith)) p.within

pub naming-le : (xs : List Slice) (key : ℕ) → naming xs key ≤ length xs
naming-le [] key = omega arith
naming-le (x ∷ xs) key =
    let r = naming-le xs key in
    let b : one_if (nat_eq x.segment key) ≤ 1 = one-le (nat_eq x.segment key) in
    omega (arith, r, b)
  where
    one-le : (b : Bool) → one_if b ≤ 1
    one-le true = omega arith
    one-le false = omega arith

solid-le : (xs : List Slice) → length (solid_of xs) ≤ length xs
solid-le [] = omega arith
solid-le (x ∷ xs) =
    let r = solid-le xs in
    elim (eqb_tells x.len 0) as (λ _. length (solid_of (x ∷ xs)) ≤ suc (length xs)) [
      | inl e ↦ let a : length (solid_of (x ∷ xs)) ≡ length (solid_of xs) = ap (λ b. length (if b then solid_of xs else x ∷ solid_of xs)) e.0 in omega (arith, a, r)
      | inr e ↦ let a : length (solid_of (x ∷ xs)) ≡ suc (length (solid_of xs)) = ap (λ b. length (if b then solid_of xs else x ∷ solid_of xs)) e.0 in omega (arith, a, r)
    ]

-- no count has risen by more than the slices so far
pub holders-le : (m n : Map) (xs : List Slice) → Turns m [] n (solid_of xs) → (key : ℕ) → holders n key ≤ holders m key + length xs
holders-le m n xs t key =
    let c = t.counted key in
    let a = naming-le (solid_of xs) key in
    let b = solid-le xs in
    omega (arith, c, a, b)

solid_of-append : (xs ys : List Slice) → solid_of (xs ++ ys) ≡ solid_of xs ++ solid_of ys
solid_of-append [] ys = refl
solid_of-append (x ∷ xs) ys =
    let r = solid_of-append xs ys in
    elim (nat_eq x.len 0) as (λ b. (if b then solid_of (xs ++ ys) else x ∷ solid_of (xs ++ ys)) ≡ (if b then solid_of xs else x ∷ solid_of xs) ++ solid_of ys) [
      | true ↦ r
      | false ↦ ap (λ zs. x ∷ zs) r
    ]

-- one slice more
module _ (xs : List Slice) (i : ℕ) (d : Slice) (l : i < length xs) where
  abbrev it : Slice
  it = get_or xs i d

  pub solid-more : it.len ≢ 0 → solid_of (take (i + 1) xs) ≡ solid_of (take i xs) ++ it ∷ []
  solid-more n = ap solid_of (take_more xs i d l) ∙ solid_of-append (take i xs) (it ∷ []) ∙ ap (λ b. solid_of (take i xs) ++ (if b then [] else it ∷ [])) (ne_eqb it.len 0 n)

  pub solid-same : it.len ≡ 0 → solid_of (take (i + 1) xs) ≡ solid_of (take i xs)
  solid-same e = ap solid_of (take_more xs i d l) ∙ solid_of-append (take i xs) (it ∷ []) ∙ ap (λ b. solid_of (take i xs) ++ (if b then [] else it ∷ [])) (eq-eqb it.len 0 e) ∙ append-nil (solid_of (take i xs))

  pub read-more : (m : Map) → all_read m (take (i + 1) xs) ≡ all_read m (take i xs) ++ reads m it
  read-more m = ap (all_read m) (take_more xs i d l) ∙ read-append m (take i xs) (it ∷ []) ∙ ap (λ bs. all_read m (take i xs) ++ bs) (append-nil (reads m it))

pub reads-empty : (m : Map) (x : Slice) → x.len ≡ 0 → reads m x ≡ []
unfolding reads
reads-empty m x e = ap (λ n. take n (drop x.from (filled m x.segment))) e

-- a slice is held, or passed over
module _ (m0 m n : Map) (xs : List Slice) (i : ℕ) (d : Slice) (l : i < length xs) (lies0 : Lies m0 (get_or xs i d))
    (t : Turns m0 [] m (solid_of (take i xs))) (r : all_read m (solid_of (take i xs)) ≡ all_read m0 (take i xs)) where
  abbrev x : Slice
  x = get_or xs i d

  held : Holds m (solid_of (take i xs))
  held = holds-turned m0 m [] (solid_of (take i xs)) (record { lie = tt; few = λ key. omega arith }) t

  module _ (some : x.len ≢ 0) (u : Turns m [] n (x ∷ [])) where
    pub held-turns : Turns m0 [] n (solid_of (take (i + 1) xs))
    held-turns = subst (Turns m0 [] n) (sym (solid-more xs i d l some)) (turns-then m0 m n [] (solid_of (take i xs)) (solid_of (take i xs) ++ x ∷ []) t (push-turns m n (solid_of (take i xs)) x (reads m0 x) held u))

    pub held-read : reads n x ≡ reads m x → all_read n (solid_of (take (i + 1) xs)) ≡ all_read m0 (take (i + 1) xs)
    held-read s =
        ap (all_read n) (solid-more xs i d l some)
        ∙ push-read m n (solid_of (take i xs)) x (reads m0 x) held u (s ∙ reads-still m0 m (solid_of (take i xs)) t x lies0)
        ∙ ap (λ bs. bs ++ reads m0 x) r
        ∙ sym (read-more xs i d l m0)

  module _ (none : x.len ≡ 0) where
    pub passed-turns : Turns m0 [] m (solid_of (take (i + 1) xs))
    passed-turns = subst (Turns m0 [] m) (sym (solid-same xs i d l none)) t

    pub passed-read : all_read m (solid_of (take (i + 1) xs)) ≡ all_read m0 (take (i + 1) xs)
    passed-read =
        ap (all_read m) (solid-same xs i d l none) ∙ r ∙ sym (append-nil (all_read m0 (take i xs)))
        ∙ ap (λ bs. all_read m0 (take i xs) ++ bs) (sym (reads-empty m0 x none)) ∙ sym (read-more xs i d l m0)

pub solid-solid_of : (xs : List Slice) → AllSolid (solid_of xs)
solid-solid_of [] = tt
solid-solid_of (x ∷ xs) =
    let r = solid-solid_of xs in
    elim (eqb_tells x.len 0) as (λ _. AllSolid (solid_of (x ∷ xs))) [
      | inl e ↦ subst AllSolid (ap (λ b. if b then solid_of xs else x ∷ solid_of xs) (sym e.0)) r
      | inr e ↦ let n = e.1 in let s : AllSolid (x ∷ solid_of xs) = (omega (arith, n), r) in subst AllSolid (ap (λ b. if b then solid_of xs else x ∷ solid_of xs) (sym e.0)) s
    ]

-- how many bytes there are after a push
pub total-pushed : (m n : Map) (xs ys : List Slice) (bytes : List ℕ) → AllLie m xs → AllLie n ys → all_read n ys ≡ all_read m xs ++ bytes → total ys ≡ total xs + length bytes
total-pushed m n xs ys bytes p q r = sym (total-read n ys q) ∙ ap length r ∙ length-append (all_read m xs) bytes ∙ ap (λ k. k + length bytes) (total-read m xs p)
