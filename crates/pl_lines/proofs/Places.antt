-- What stands at the places of a list and of its parts.
use Rattle.std.proofs.Common.{◌≡◌, ℕ, ◌+◌, ◌-◌, ◌<◌, ◌≤◌, List, length, take, drop, slice_index, slice_set, sym, ap, ◌∙◌, inl, inr, arith}
use Rattle.std.proofs.lemmas.Bool.{cases_eq, cases_lt}
use Rattle.std.proofs.lemmas.List.{get_or-take, get_or-drop, get_or-set_same, get_or-set_other, length-take-le, length-drop}
use Rattle.pl_lines.specs.Runs.{ThreeBegin, FourBegin}

-- at one place
same : (bytes : List ℕ) (a b : ℕ) → a ≡ b → slice_index bytes a ≡ slice_index bytes b
same bytes a b is = ap (λ place. slice_index bytes place) is

-- behind the first ones
behind : (bytes : List ℕ) (from k : ℕ) → slice_index (drop from bytes) k ≡ slice_index bytes (from + k)
behind bytes from k = get_or-drop from bytes k 0

-- in a part
in_part : (bytes : List ℕ) (from n k : ℕ) → k < n → slice_index (take n (drop from bytes)) k ≡ slice_index bytes (from + k)
in_part bytes from n k few = get_or-take n (drop from bytes) k 0 few ∙ behind bytes from k

-- one more is written into a row
pub row_more : (row : List ℕ) (i x : ℕ) (f : ℕ → ℕ) → i < length row → x ≡ f i → ((k : ℕ) → k < i → slice_index row k ≡ f k) → (k : ℕ) → k < i + 1 → slice_index (slice_set row i x) k ≡ f k
row_more row i x f fits is before k lt = elim (cases_eq k i) [
  | inl e ↦ rw e (get_or-set_same row i x 0 fits ∙ is)
  | inr ne ↦ get_or-set_other row i k x 0 ne ∙ before k (omega (arith, ne, lt))
]

-- ---- equal bytes

-- where three begin at one of the first 32 places, the rows that begin with the first, the second and the third have them there
module _ (bytes : List ℕ) (k : ℕ) (few : k < 32) (three : ThreeBegin bytes k) where
  pub first_is_second : slice_index (take 32 bytes) k ≡ slice_index (take 32 (drop 1 bytes)) k
  first_is_second = get_or-take 32 bytes k 0 few ∙ sym three.second ∙ same bytes (k + 1) (1 + k) (omega arith) ∙ sym (in_part bytes 1 32 k few)

  pub second_is_third : slice_index (take 32 (drop 1 bytes)) k ≡ slice_index (take 32 (drop 2 bytes)) k
  second_is_third =
      in_part bytes 1 32 k few ∙ same bytes (1 + k) (k + 1) (omega arith) ∙ three.second ∙ sym three.third ∙ same bytes (k + 2) (2 + k) (omega arith)
      ∙ sym (in_part bytes 2 32 k few)

-- where four begin, three do, also in what is behind the first ones
three_behind : (bytes : List ℕ) (from k : ℕ) → FourBegin bytes (from + k) → ThreeBegin (drop from bytes) k
three_behind bytes from k four = record {
  second = behind bytes from (k + 1) ∙ same bytes (from + (k + 1)) (from + k + 1) (omega arith) ∙ four.second ∙ sym (behind bytes from k);
  third = behind bytes from (k + 2) ∙ same bytes (from + (k + 2)) (from + k + 2) (omega arith) ∙ four.third ∙ sym (behind bytes from k);
}

-- in the first ones
three_in_front : (bytes : List ℕ) (n k : ℕ) → k + 2 < n → ThreeBegin bytes k → ThreeBegin (take n bytes) k
three_in_front bytes n k lt three = record {
  second = get_or-take n bytes (k + 1) 0 (omega (arith, lt)) ∙ three.second ∙ sym (get_or-take n bytes k 0 (omega (arith, lt)));
  third = get_or-take n bytes (k + 2) 0 lt ∙ three.third ∙ sym (get_or-take n bytes k 0 (omega (arith, lt)));
}

module _ (bytes : List ℕ) (len : ℕ) (before : (k : ℕ) → k < len → FourBegin bytes k → ⊥) where
  -- where no three begin in the part that is next, no four begin before its end
  pub none_next : (n : ℕ) → 34 ≤ n → ((k : ℕ) → k < 32 → ThreeBegin (take n (drop len bytes)) k → ⊥) → (k : ℕ) → k < len + 32 → FourBegin bytes k → ⊥
  none_next n fits none k lt four = elim (cases_lt k len) [
    | inl below ↦ before k below four
    | inr above ↦
        let place : len + (k - len) ≡ k = omega (arith, above) in
        let three : ThreeBegin (drop len bytes) (k - len) = three_behind bytes len (k - len) (rw place four) in
        none (k - len) (omega (arith, above, lt)) (three_in_front (drop len bytes) n (k - len) (omega (arith, above, lt, fits)) three)
  ]

  -- where no three begin in the last part, no four begin at all
  pub none_last : (from n : ℕ) → from ≤ len → from + 34 ≡ length bytes → 34 ≤ n → ((k : ℕ) → k < 32 → ThreeBegin (take n (drop from bytes)) k → ⊥) → (k : ℕ) → FourBegin bytes k → ⊥
  none_last from n few is fits none k four = elim (cases_lt k len) [
    | inl below ↦ before k below four
    | inr above ↦
        let place : from + (k - from) ≡ k = omega (arith, above, few) in
        let lt : k - from < 32 = omega (arith, above, few, is, four.within) in
        let three : ThreeBegin (drop from bytes) (k - from) = three_behind bytes from (k - from) (rw place four) in
        none (k - from) lt (three_in_front (drop from bytes) n (k - from) (omega (arith, lt, fits)) three)
  ]

-- where those in front are one byte, and those of the next part too
pub more_alike : (bytes : List ℕ) (len n byte : ℕ) → n ≡ 32 → len + 32 ≤ length bytes → ((k : ℕ) → k < len → slice_index bytes k ≡ byte)
    → ((k : ℕ) → k < length (take n (drop len bytes)) → slice_index (take n (drop len bytes)) k ≡ byte) → (k : ℕ) → k < len + 32 → slice_index bytes k ≡ byte
more_alike bytes len n byte is fits before next k lt = elim (cases_lt k len) [
  | inl below ↦ before k below
  | inr above ↦
      let place : len + (k - len) ≡ k = omega (arith, above) in
      let few : k - len < n = omega (arith, above, lt, is) in
      let long : length (take n (drop len bytes)) ≡ n = length-take-le n (drop len bytes) (rw (length-drop len bytes) (omega (arith, is, fits))) in
      same bytes k (len + (k - len)) (sym place) ∙ sym (in_part bytes len n (k - len) few) ∙ next (k - len) (rw long few)
]
