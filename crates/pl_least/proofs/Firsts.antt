-- Where the least number of a row stands, as a number at a place.
use Rattle.std.proofs.Common.{◌≡◌, ℕ, zero, suc, ◌+◌, ◌-◌, ◌*◌, ◌≤◌, ◌<◌, List, [], ◌∷◌, length, Some, None, ap, subst, arith, slice_index_or, ◌^◌, ◌⊎◌, inl, inr}
use Rattle.std.proofs.lemmas.List.{get_or_past}
use Rattle.std.proofs.lemmas.Bool.{cases_lt}
use Rattle.pl_least.specs.None.{none}
use Rattle.pl_least.specs.Tournament.{entry}
use Rattle.pl_least.specs.Numbers.{number_of}

-- an entry is a number of 64 bits
pub most-of : (entries : List ℕ) (place : ℕ) → slice_index_or entries place 0 < 2 ^ 64 → entry entries place ≤ none
most-of [] place h = omega arith
most-of (x ∷ xs) zero h = omega (arith, h)
most-of (x ∷ xs) (suc place) h = most-of xs place h

-- nothing stands where the entry is as great as none
pub nothing : (n : ℕ) → none ≤ n → n ≤ none → number_of n ≡ None
nothing n l m = ap number_of (let e : n ≡ none = omega arith in e)

-- else a number does
pub something : (n : ℕ) → (n ≡ none → ⊥) → number_of n ≡ Some n
something n h = grind (arith, h)

pub is_entry : (n m : ℕ) → number_of n ≡ Some m → n ≡ m
is_entry n m h = grind (arith, h)

-- What is known of the least entry of the second half.
pub record IsLeast (entries : List ℕ) (places least : ℕ) : Type 0 where
  pub halves : length entries ≡ 2 * places
  pub second : places ≤ least
  pub least_of : (other : ℕ) → places ≤ other → other < 2 * places → entry entries least ≤ entry entries other
  pub most : (other : ℕ) → entry entries other ≤ none

module _ (entries : List ℕ) (places least : ℕ) (h : IsLeast entries places least) where
  -- past the row stands none
  below : (j : ℕ) → places ≤ j → entry entries least ≤ entry entries j
  below j l = by (cases_lt j (2 * places))
    where
      by : (j < 2 * places) ⊎ (2 * places ≤ j) → entry entries least ≤ entry entries j
      by (inl m) = h.least_of j l m
      by (inr m) = let past = get_or_past entries j none (let halves = h.halves in omega (arith, halves, m)) in let most = h.most least in omega (arith, past, most)

  pub all_none : entry entries least ≡ none → (place : ℕ) → number_of (entry entries (places + place)) ≡ None
  all_none e place = let l = below (places + place) (omega arith) in nothing (entry entries (places + place)) (omega (arith, e, l)) (h.most (places + place))

  pub here : (entry entries least ≡ none → ⊥) → number_of (entry entries (places + (least - places))) ≡ Some (entry entries least)
  here e = subst (λ i. number_of (entry entries i) ≡ Some (entry entries least)) (let s = h.second in let eq : least ≡ places + (least - places) = omega (arith, s) in eq) (something (entry entries least) e)

  pub no_lesser : (other n : ℕ) → number_of (entry entries (places + other)) ≡ Some n → entry entries least ≤ n
  no_lesser other n e = subst (λ i. entry entries least ≤ i) (is_entry (entry entries (places + other)) n e) (below (places + other) (omega arith))
