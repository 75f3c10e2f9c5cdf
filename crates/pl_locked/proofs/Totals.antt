-- Where the callers made as many entries as the journal has, each made just those that the journal has of it.
use Rattle.std.proofs.Common.{◌≡◌, ℕ, zero, suc, ◌+◌, ◌<◌, ◌≤◌, Bool, true, false, cond, List, [], ◌∷◌, length, refl, sym, ap, arith, ne_eqb}
use Rattle.std.specs.Prelude.{nat_eq}
use Rattle.std.specs.List.{All, sum_by}
use Rattle.std.proofs.lemmas.List.Elements.{All-cons, All-head, All-tail}
use Rattle.std.proofs.lemmas.List.Sums.{sum_by-cons}
use Rattle.std.proofs.lemmas.Bool.{eqb-true}
use mathlib.Core.List.{IsPrefix}
use Rattle.pl_model.specs.declared.history.Entry.{Entry}
use Rattle.pl_model.specs.History.{of}
use Rattle.pl_locked.specs.Views.{CallerView, HasCaller, IsDone, IsSub, total_made}
use Rattle.pl_locked.proofs.Numbers.{below, once_each}
use Rattle.pl_locked.proofs.Subs.{sub_length, sub_whole}

-- 1 at x, and else 0
abbrev hit : ℕ → ℕ → ℕ
hit x k = cond (nat_eq x k) 1 0

no_hit : (x n : ℕ) → n ≤ x → below (hit x) n ≡ 0
no_hit x zero le = refl
no_hit x (suc n) le =
    let apart : nat_eq x n ≡ false = ne_eqb x n (λ e. omega arith) in
    let r = no_hit x n (omega arith) in
    let z : hit x n ≡ 0 = ap (λ b. cond b 1 0) apart in omega arith

one_hit : (x n : ℕ) → below (hit x) n ≤ 1
one_hit x zero = omega arith
one_hit x (suc n) = go (one_hit x n) (nat_eq x n) refl
  where
    go : below (hit x) n ≤ 1 → (b : Bool) → nat_eq x n ≡ b → below (hit x) n + hit x n ≤ 1
    go r true e =
        let same : x ≡ n = eqb-true x n e in
        let z = no_hit x n (omega arith) in
        let o : hit x n ≡ 1 = ap (λ b. cond b 1 0) e in omega arith
    go r false e =
        let z : hit x n ≡ 0 = ap (λ b. cond b 1 0) e in omega arith

below_sum : (f g h : ℕ → ℕ) → ((k : ℕ) → f k ≡ g k + h k) → (n : ℕ) → below f n ≡ below g n + below h n
below_sum f g h e zero = refl
below_sum f g h e (suc n) = let r = below_sum f g h e n in let s = e n in omega arith

below_zero : (n : ℕ) → below (λ _. 0) n ≡ 0
below_zero zero = refl
below_zero (suc n) = let r = below_zero n in omega arith

module _ {A : Type 0} where
  one_of : (k : ℕ) (e : Entry A) (j : List (Entry A)) → length (of k (e ∷ j)) ≡ hit e.caller k + length (of k j)
  one_of k e j = go (nat_eq e.caller k)
    where
      go : (b : Bool) → length (cond b (e ∷ of k j) (of k j)) ≡ cond b 1 0 + length (of k j)
      go true = omega arith
      go false = omega arith

  -- each entry is of one caller at most
  counted_once : (n : ℕ) (j : List (Entry A)) → below (λ k. length (of k j)) n ≤ length j
  counted_once n [] = let z = below_zero n in omega arith
  counted_once n (e ∷ j) =
      let s = below_sum (λ k. length (of k (e ∷ j))) (hit e.caller) (λ k. length (of k j)) (λ k. one_of k e j) n in
      let o = one_hit e.caller n in
      let r = counted_once n j in omega arith

  module _ (a b : CallerView A → ℕ) where
    sums_le : (cs : List (CallerView A)) → All (λ c. a c ≤ b c) cs → sum_by a cs ≤ sum_by b cs
    sums_le [] h = omega arith
    sums_le (c ∷ cs) h =
        let one : a c ≤ b c = All-head (λ (x : CallerView A). a x ≤ b x) c cs h in
        let r = sums_le cs (All-tail (λ (x : CallerView A). a x ≤ b x) c cs h) in
        let p = sum_by-cons a c cs in let q = sum_by-cons b c cs in omega arith

    -- where the greater terms have no greater sum, no term is greater
    none_less : (cs : List (CallerView A)) → All (λ c. a c ≤ b c) cs → sum_by b cs ≤ sum_by a cs → All (λ c. b c ≤ a c) cs
    none_less [] h le = λ k d lt. absurd (omega arith)
    none_less (c ∷ cs) h le =
        let one : a c ≤ b c = All-head (λ (x : CallerView A). a x ≤ b x) c cs h in
        let rest = All-tail (λ (x : CallerView A). a x ≤ b x) c cs h in
        let r = sums_le cs rest in
        let p = sum_by-cons a c cs in let q = sum_by-cons b c cs in
        All-cons (λ (x : CallerView A). b x ≤ a x) c cs (omega arith) (none_less cs rest (omega arith))

  pub each_done : (n : ℕ) (j : List (Entry A)) (cs : List (CallerView A)) → ((k : ℕ) → k < n → HasCaller cs k) → length cs ≤ n
      → All (λ c. IsPrefix c.seen j × IsSub c.made (of c.number j)) cs → length j ≡ total_made cs → All (IsDone j) cs
  each_done n j cs here few each count =
      let a : CallerView A → ℕ = λ c. length c.made in
      let b : CallerView A → ℕ = λ c. length (of c.number j) in
      let sum : sum_by b cs ≡ below (λ k. length (of k j)) n = once_each (λ k. length (of k j)) n cs here few in
      let bound = counted_once n j in
      let total : sum_by a cs ≡ length j = sym count in
      let all_less : All (λ c. a c ≤ b c) cs = λ k d lt. sub_length _ _ (each k d lt).1 in
      let less : All (λ c. b c ≤ a c) cs = none_less a b cs all_less (omega arith) in
      λ k d lt. ((each k d lt).0, sub_whole _ _ (each k d lt).1 (less k d lt))
