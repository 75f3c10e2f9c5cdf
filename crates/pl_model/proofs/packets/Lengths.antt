-- The lengths of packets: of a write, and of those that are left.
use Rattle.std.proofs.Common.{◌≡◌, ℕ, zero, suc, ◌+◌, ◌-◌, ◌*◌, ◌/◌, ◌%◌, ◌<◌, ◌≤◌, Bool, true, false, cond, List, [], ◌∷◌, ◌++◌, refl, ap, ◌∙◌, subst, sum, arith, replicate, inl, inr}
use Rattle.std.specs.Prelude.{nat_le, All}
use Rattle.std.proofs.lemmas.Bool.{leb-true, leb-false, lt-leb, le-leb, cases_lt}
use Rattle.std.proofs.lemmas.Nat.{div-mul-add, mod-mul-add, div-add-mod', mod_below}
use Rattle.std.proofs.lemmas.List.Sums.{sum_by-cons, sum_by-append}
use Rattle.std.proofs.lemmas.List.Folds.{sum_by-replicate}
use Rattle.std.proofs.lemmas.List.Elements.{All-nil, All-cons, All-head, All-tail, All-append, All-replicate}
use Rattle.pl_model.specs.Numbers.{pipe_buf}
use Rattle.pl_model.specs.Packets.{one_length, piece_lengths, without_front}
use Rattle.pl_model.specs.PacketLaw.{IsPacketLength}

pub sum-cons : (l : ℕ) (ls : List ℕ) → sum (l ∷ ls) ≡ l + sum ls
sum-cons l ls = sum_by-cons (λ x. x) l ls

pub sum-append : (ls ms : List ℕ) → sum (ls ++ ms) ≡ sum ls + sum ms
sum-append ls ms = sum_by-append (λ x. x) ls ms

sum-replicate : (n l : ℕ) → sum (replicate n l) ≡ n * l
sum-replicate n l = sum_by-replicate (λ x. x) n l

one_length-sum : (n : ℕ) → sum (one_length n) ≡ n
one_length-sum zero = refl
one_length-sum (suc n) = omega arith

one_length-within : (n : ℕ) → n ≤ pipe_buf → All IsPacketLength (one_length n)
one_length-within zero l = All-nil IsPacketLength
one_length-within (suc n) l = All-cons IsPacketLength (suc n) [] (omega arith, l) (All-nil IsPacketLength)

pub piece_lengths-sum : (n : ℕ) → sum (piece_lengths n) ≡ n
piece_lengths-sum n =
    sum-append (replicate (n / pipe_buf) pipe_buf) (one_length (n % pipe_buf))
    ∙ ap (λ k. k + sum (one_length (n % pipe_buf))) (sum-replicate (n / pipe_buf) pipe_buf)
    ∙ ap (λ k. n / pipe_buf * pipe_buf + k) (one_length-sum (n % pipe_buf))
    ∙ div-add-mod' n pipe_buf

pub piece_lengths-within : (n : ℕ) → All IsPacketLength (piece_lengths n)
piece_lengths-within n =
    let below : n % pipe_buf < pipe_buf = mod_below n pipe_buf (omega arith) in
    All-append IsPacketLength (replicate (n / pipe_buf) pipe_buf) (one_length (n % pipe_buf))
    (All-replicate IsPacketLength (n / pipe_buf) pipe_buf (omega arith, omega arith)) (one_length-within (n % pipe_buf) (omega (arith, below)))

-- q whole pieces, and a rest
pieces_at : (q r : ℕ) → r < pipe_buf → piece_lengths (q * pipe_buf + r) ≡ replicate q pipe_buf ++ one_length r
pieces_at q r l =
    ap (λ k. replicate k pipe_buf ++ one_length ((q * pipe_buf + r) % pipe_buf)) (div-mul-add q pipe_buf r l)
    ∙ ap (λ k. replicate q pipe_buf ++ one_length k) (mod-mul-add q pipe_buf r l)

-- fewer than a whole piece are one
short_one : (n : ℕ) → 0 < n → n < pipe_buf → piece_lengths n ≡ n ∷ []
short_one zero some less = absurd (omega (arith, some))
short_one (suc n) some less =
    let same : suc n ≡ 0 * pipe_buf + suc n = omega arith in
    ap piece_lengths same ∙ pieces_at 0 (suc n) less

-- a write of at most PIPE_BUF bytes is one piece
pub piece_lengths_one : (n : ℕ) → 0 < n → n ≤ pipe_buf → piece_lengths n ≡ n ∷ []
piece_lengths_one n some most = elim (cases_lt n pipe_buf) as (λ _. piece_lengths n ≡ n ∷ []) [
  | inl less ↦ short_one n some less
  | inr over ↦ (let same : pipe_buf ≡ n = omega (arith, most, over) in subst (λ k. piece_lengths k ≡ k ∷ []) same refl)
]

-- a longer one begins with a whole piece
pub piece_lengths_more : (n : ℕ) → pipe_buf ≤ n → piece_lengths n ≡ pipe_buf ∷ piece_lengths (n - pipe_buf)
piece_lengths_more n l =
    let m : ℕ = n - pipe_buf in
    let below : m % pipe_buf < pipe_buf = mod_below m pipe_buf (omega arith) in
    let whole : m / pipe_buf * pipe_buf + m % pipe_buf ≡ m = div-add-mod' m pipe_buf in
    let same : n ≡ suc (m / pipe_buf) * pipe_buf + m % pipe_buf = omega (arith, whole, l) in
    ap piece_lengths same ∙ pieces_at (suc (m / pipe_buf)) (m % pipe_buf) below

pub without_front-sum : (n : ℕ) (ls : List ℕ) → sum (without_front n ls) ≡ sum ls - n
without_front-sum n [] = omega arith
without_front-sum n (l ∷ ls) = at (nat_le l n) refl (without_front-sum (n - l) ls) where
  at : (b : Bool) → nat_le l n ≡ b → sum (without_front (n - l) ls) ≡ sum ls - (n - l) → sum (cond b (without_front (n - l) ls) ((l - n) ∷ ls)) ≡ sum (l ∷ ls) - n
  at true e rest = omega (arith, rest, leb-true l n e, sum-cons l ls)
  at false e rest = omega (arith, leb-false l n e, sum-cons l ls, sum-cons (l - n) ls)

pub without_front-within : (n : ℕ) (ls : List ℕ) → All IsPacketLength ls → All IsPacketLength (without_front n ls)
without_front-within n [] all = all
without_front-within n (l ∷ ls) all = at (nat_le l n) refl (without_front-within (n - l) ls (All-tail IsPacketLength l ls all)) where
  at : (b : Bool) → nat_le l n ≡ b → All IsPacketLength (without_front (n - l) ls) → All IsPacketLength (cond b (without_front (n - l) ls) ((l - n) ∷ ls))
  at true e rest = rest
  at false e rest =
      let first : IsPacketLength l = All-head IsPacketLength l ls all in
      All-cons IsPacketLength (l - n) ls (omega (arith, leb-false l n e), omega (arith, first.1)) (All-tail IsPacketLength l ls all)

-- all are left
without_none : (ls : List ℕ) → All IsPacketLength ls → without_front 0 ls ≡ ls
without_none [] all = refl
without_none (l ∷ ls) all =
    let first : IsPacketLength l = All-head IsPacketLength l ls all in
    let over : nat_le l 0 ≡ false = lt-leb l 0 first.0 in
    ap (λ b. cond b (without_front (0 - l) ls) ((l - 0) ∷ ls)) over ∙ ap (λ k. k ∷ ls) (omega arith)

-- all but the first
pub without_first : (l : ℕ) (ls : List ℕ) → All IsPacketLength (l ∷ ls) → without_front l (l ∷ ls) ≡ ls
without_first l ls all =
    let over : nat_le l l ≡ true = le-leb l l (omega arith) in
    let none : l - l ≡ 0 = omega arith in
    ap (λ b. cond b (without_front (l - l) ls) ((l - l) ∷ ls)) over ∙ ap (λ k. without_front k ls) none ∙ without_none ls (All-tail IsPacketLength l ls all)
