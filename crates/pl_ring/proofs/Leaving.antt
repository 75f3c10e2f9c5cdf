-- The first slots of a ring leave it with their holds.
use Rattle.std.proofs.Common.{◌≡◌, ℕ, ◌-◌, ◌<◌, ◌≤◌, List, [], ◌∷◌, ◌++◌, refl, sym, ◌∙◌, ap, inl, inr, length, take, drop, arith}
use Rattle.std.proofs.lemmas.Bool.{cases_lt}
use Rattle.std.proofs.lemmas.List.{append-nil, append_assoc, take-append-drop, take_at, drop_at}
use Rattle.pl_segments.specs.declared.slice.Slice.{Slice}
use Rattle.pl_segments.specs.Segments.{Map}
use Rattle.pl_segments.specs.Slices.{AllLie, reads, all_read}
use Rattle.pl_segments.specs.Turns.{Holds, Turns}
use Rattle.pl_segments.specs.Slots.{total, cut_front, cut_end, front_of}
use Rattle.pl_segments.proofs.Changing.{begins-same}
use Rattle.pl_segments.proofs.Turning.{naming-append, lie-append, lie-left, lie-right, read-append, turns-then, others-read}
use Rattle.pl_segments.proofs.Fronting.{front-whole, front-part, front-none}
use Rattle.pl_segments.proofs.Pushing.{pushes-turns}
use Rattle.pl_segments.proofs.SlotLemmas.{lies-cut_front, lies-cut_end, reads-cut_front, reads-cut_end, total-read}

-- Of slots, these are left, of which so many bytes still go; what went before begins the slices of all the bytes that go.
pub record Left (count rest : ℕ) (all now : List Slice) : Type 0 where
  pub gone : List Slice
  pub slots : all ≡ gone ++ now
  pub front : front_of count all ≡ gone ++ front_of rest now

pub none-left : (count : ℕ) (all : List Slice) → Left count count all all
none-left count all = record { gone = []; slots = refl; front = refl }

-- a slot that goes whole is one of the slices
pub front-gone : (k : ℕ) (x : Slice) (rest : List Slice) → x.len ≤ k → 1 ≤ k → front_of k (x ∷ rest) ≡ x ∷ front_of (k - x.len) rest
front-gone k x rest l some = elim (cases_lt x.len k) as (λ _. front_of k (x ∷ rest) ≡ x ∷ front_of (k - x.len) rest) [
  | inl h ↦ front-whole k x rest h
  | inr h ↦
      let same : k ≡ x.len = omega (arith, l, h) in
      let none : k - x.len ≡ 0 = omega (arith, same) in
      front-part k x rest h (λ e. absurd (omega (arith, some, e)))
      ∙ (λ i. record x { len = same i } ∷ [])
      ∙ ap (λ zs. x ∷ zs) (sym (ap (λ j. front_of j rest) none ∙ front-none rest))
]

pub left-whole : (count k : ℕ) (all : List Slice) (x : Slice) (rest now : List Slice) → now ≡ x ∷ rest → x.len ≤ k → 1 ≤ k → Left count k all now → Left count (k - x.len) all rest
left-whole count k all x rest now is l some left = record {
  gone = left.gone ++ x ∷ [];
  slots = left.slots ∙ ap (λ zs. left.gone ++ zs) is ∙ sym (append_assoc left.gone (x ∷ []) rest);
  front = left.front ∙ ap (λ zs. left.gone ++ zs) (ap (front_of k) is ∙ front-gone k x rest l some) ∙ sym (append_assoc left.gone (x ∷ []) (front_of (k - x.len) rest));
}

pub all-left : (count k : ℕ) (all now : List Slice) → Left count k all now → k ≡ 0 → all ≡ front_of count all ++ now
all-left count k all now left none =
    let front : front_of count all ≡ left.gone = left.front ∙ ap (λ j. left.gone ++ front_of j now) none ∙ ap (λ zs. left.gone ++ zs) (front-none now) ∙ append-nil left.gone in
    left.slots ∙ ap (λ zs. zs ++ now) (sym front)

-- one that goes in part is held twice
module _ (m n : Map) (gone : List Slice) (x : Slice) (rest : List Slice) (k : ℕ) (part : k < x.len) (held : Holds m (gone ++ x ∷ rest)) (t : Turns m [] n (cut_front k x ∷ [])) where
  all_held : Turns m (gone ++ x ∷ rest) n ((gone ++ x ∷ rest) ++ cut_front k x ∷ [])
  all_held = pushes-turns m n (gone ++ x ∷ rest) (cut_front k x ∷ []) held t

  still : AllLie n (gone ++ x ∷ rest)
  still = lie-left n (gone ++ x ∷ rest) (cut_front k x ∷ []) all_held.lie

  here : AllLie n (x ∷ rest)
  here = lie-right n gone (x ∷ rest) still

  cut : Turns n ((gone ++ x ∷ rest) ++ cut_front k x ∷ []) n ((gone ++ cut_end k x ∷ []) ++ cut_front k x ∷ rest)
  cut = record {
    counted = λ key.
        let a = naming-append (gone ++ x ∷ rest) (cut_front k x ∷ []) key in
        let b = naming-append gone (x ∷ rest) key in
        let c = naming-append (gone ++ cut_end k x ∷ []) (cut_front k x ∷ rest) key in
        let d = naming-append gone (cut_end k x ∷ []) key in
        omega (arith, a, b, c, d);
    kept = λ key l. begins-same _ _ refl;
    lie = lie-append n (gone ++ cut_end k x ∷ []) (cut_front k x ∷ rest)
        (lie-append n gone (cut_end k x ∷ []) (lie-left n gone (x ∷ rest) still) (lies-cut_end n x k (omega (arith, part)) here.0, tt))
        (lies-cut_front n x k (omega (arith, part)) here.0, here.1);
  }

  pub cut-turns : Turns m (gone ++ x ∷ rest) n ((gone ++ cut_end k x ∷ []) ++ cut_front k x ∷ rest)
  cut-turns = turns-then m n n (gone ++ x ∷ rest) ((gone ++ x ∷ rest) ++ cut_front k x ∷ []) ((gone ++ cut_end k x ∷ []) ++ cut_front k x ∷ rest) all_held cut

  joined : reads n (cut_end k x) ++ reads n (cut_front k x) ≡ reads n x
  joined = (λ i. reads-cut_end n x k (omega (arith, part)) i ++ reads-cut_front n x k (omega (arith, part)) i) ∙ take-append-drop k (reads n x)

  pub cut-read : all_read n ((gone ++ cut_end k x ∷ []) ++ cut_front k x ∷ rest) ≡ all_read m (gone ++ x ∷ rest)
  cut-read =
      ap (all_read n) (append_assoc gone (cut_end k x ∷ []) (cut_front k x ∷ rest))
      ∙ read-append n gone (cut_end k x ∷ cut_front k x ∷ rest)
      ∙ ap (λ bs. all_read n gone ++ bs) (sym (append_assoc (reads n (cut_end k x)) (reads n (cut_front k x)) (all_read n rest)) ∙ ap (λ bs. bs ++ all_read n rest) joined)
      ∙ sym (read-append n gone (x ∷ rest))
      ∙ others-read m n [] (cut_front k x ∷ []) t (gone ++ x ∷ rest) (λ key. let f = held.few key in omega (arith, f)) held.lie

-- what goes and what is left, of what both read
pub parts-read : (m : Map) (bytes : List ℕ) (count : ℕ) (front left : List Slice) → AllLie m (front ++ left) → total front ≡ count → all_read m (front ++ left) ≡ bytes
    → (all_read m front ≡ take count bytes) × (all_read m left ≡ drop count bytes)
parts-read m bytes count front left lie is read =
    let len : length (all_read m front) ≡ count = total-read m front (lie-left m front left lie) ∙ is in
    let both : all_read m front ++ all_read m left ≡ bytes = sym (read-append m front left) ∙ read in (
      sym (take_at (all_read m front) (all_read m left) count len) ∙ ap (take count) both,
      sym (drop_at (all_read m front) (all_read m left) count len) ∙ ap (drop count) both,
    )
