-- Bytes cut into packets.
use Rattle.std.proofs.Common.{◌≡◌, ℕ, zero, suc, ◌+◌, ◌-◌, ◌*◌, ◌/◌, ◌%◌, ◌≤◌, List, [], ◌∷◌, ◌++◌, min, Option, None, Some, Bor, refl, sym, ◌∙◌, ap, subst, inl, inr, length, take, drop, arith}
use Rattle.std.specs.Prelude.{replicate, slice_get}
use Rattle.std.specs.Option.{IsSome, option_copied}
use Rattle.std.proofs.lemmas.Bool.{cases_lt}
use Rattle.std.proofs.lemmas.List.{length-append, length-replicate, take-append-le}
use Rattle.pl_model.specs.Packets.{one_length, piece_lengths}
use Rattle.pl_segments.specs.declared.slice.Slice.{Slice}
use Rattle.pl_segments.specs.Segments.{segment_size, Map}
use Rattle.pl_segments.specs.Slices.{Lies, reads, all_read}
use Rattle.pl_segments.specs.Slots.{total}
use Rattle.pl_segments.specs.Turns.{Holds, Turns}
use Rattle.pl_segments.proofs.Changing.{length-reads}
use Rattle.pl_segments.proofs.Fronting.{gone-turns, gone-read}
use Rattle.pl_packets.specs.Packets.{packet_size, first_len, AllFit}

one-length : (n : ℕ) → 1 ≤ n → one_length n ≡ n ∷ []
one-length zero l = absurd (omega (arith, l))
one-length (suc n) l = refl

length-one : (n : ℕ) → length (one_length n) ≡ min 1 n
length-one zero = refl
length-one (suc n) = omega arith

-- how many packets there are
pub many-pieces : (n : ℕ) → length (piece_lengths n) ≡ n / packet_size + min 1 (n % packet_size)
many-pieces n =
    let a = length-append (replicate (n / packet_size) packet_size) (one_length (n % packet_size)) in
    let r = length-replicate (n / packet_size) packet_size in
    let o = length-one (n % packet_size) in
    omega (arith, a, r, o)

-- the first packet, and those of the bytes behind it
pub next-piece : (n count : ℕ) → 1 ≤ n → count ≡ min n packet_size → piece_lengths n ≡ count ∷ piece_lengths (n - count)
next-piece n count some is = elim (cases_lt n packet_size) as (λ _. piece_lengths n ≡ count ∷ piece_lengths (n - count)) [
  | inl l ↦
      let whole : n / packet_size ≡ 0 = omega (arith, l) in
      let rest : n % packet_size ≡ n = omega (arith, l) in
      let all : n ≡ count = omega (arith, l, is) in
      let none : n - count ≡ 0 = omega (arith, l, is) in
      (λ i. replicate (whole i) packet_size ++ one_length (rest i)) ∙ one-length n some ∙ (λ i. all i ∷ piece_lengths (sym none i))
  | inr l ↦
      let full : packet_size ≡ count = omega (arith, l, is) in
      let whole : n / packet_size ≡ suc ((n - count) / packet_size) = omega (arith, l, is) in
      let rest : n % packet_size ≡ (n - count) % packet_size = omega (arith, l, is) in
      (λ i. replicate (whole i) packet_size ++ one_length (rest i)) ∙ ap (λ k. k ∷ piece_lengths (n - count)) full
]

pub fit-push : (xs : List Slice) (x : Slice) → AllFit xs → x.len ≤ segment_size → AllFit (xs ++ x ∷ [])
fit-push [] x fit l = (l, tt)
fit-push (y ∷ ys) x fit l = (fit.0, fit-push ys x fit.1 l)

-- the first of some packets
pub first-of : (xs : List Slice) (x : Slice) → slice_get xs 0 ≡ Some x → xs ≡ x ∷ drop 1 xs
first-of [] x e = absurd (cc)
first-of (y ∷ ys) x e = (let q : y ≡ x = cc in λ i. q i ∷ ys)

pub first-len : (xs : List Slice) (x : Slice) → slice_get xs 0 ≡ Some x → first_len xs ≡ x.len
first-len xs x e = ap first_len (first-of xs x e)

pub first-there : (xs : List Slice) (o : Option (Bor Slice)) → option_copied o ≡ slice_get xs 0 → 1 ≤ length xs → IsSome o
first-there [] o e l = absurd (omega (arith, l))
first-there (x ∷ xs) None e l = absurd (cc)
first-there (x ∷ xs) (Some b) e l = refl

module _ (m n : Map) (xs : List Slice) (x : Slice) (got : slice_get xs 0 ≡ Some x) (held : Holds m xs) where
  first-held : Holds m (x ∷ drop 1 xs)
  first-held = subst (Holds m) (first-of xs x got) held

  pub first-lies : Lies m x
  first-lies = first-held.lie.0

  pub first-length : first_len xs ≡ x.len
  first-length = ap first_len (first-of xs x got)

  pub first-reads : (count : ℕ) → count ≤ first_len xs → take count (all_read m xs) ≡ take count (reads m x)
  first-reads count l =
      let e = first-length in
      let n = length-reads m x first-lies in
      ap (λ ys. take count (all_read m ys)) (first-of xs x got) ∙ take-append-le count (reads m x) (all_read m (drop 1 xs)) (omega (arith, l, e, n))

  module _ (t : Turns m (x ∷ []) n []) where
    pub first-turns : Turns m xs n (drop 1 xs)
    first-turns = subst (λ ys. Turns m ys n (drop 1 xs)) (sym (first-of xs x got)) (gone-turns m n x (drop 1 xs) first-held t)

    pub first-read : all_read n (drop 1 xs) ≡ drop (first_len xs) (all_read m xs)
    first-read =
        let none : x.len - x.len ≡ 0 = omega arith in
        ap (λ k. drop k (all_read n (drop 1 xs))) (sym none)
        ∙ gone-read m n x (drop 1 xs) first-held t x.len (omega arith)
        ∙ (λ i. drop (sym first-length i) (all_read m (sym (first-of xs x got) i)))

-- packets have no more bytes than they take of the capacity
pub total-fit : (xs : List Slice) → AllFit xs → total xs ≤ packet_size * length xs
total-fit [] fit = omega arith
total-fit (x ∷ xs) fit = let r = total-fit xs fit.1 in let l = fit.0 in omega (arith, r, l)

pub first-fit : (xs : List Slice) → AllFit xs → first_len xs ≤ packet_size
first-fit [] fit = omega arith
first-fit (x ∷ xs) fit = fit.0
