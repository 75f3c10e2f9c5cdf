-- Several descriptions are held, one after another.
use Rattle.std.proofs.Common.{◌≡◌, ℕ, ◌+◌, ◌<◌, ◌≤◌, true, cond, List, [], ◌∷◌, ◌++◌, sym, ◌∙◌, ap, nat_eq, arith, take, length, slice_index_or, refl}
use Rattle.std.specs.Prelude.{◌^◌}
use Rattle.std.specs.Set.{is_member}
use Rattle.std.proofs.lemmas.Bool.{eq-eqb}
use Rattle.std.proofs.lemmas.List.{take_more, length-take}
use Rattle.std.proofs.lemmas.List.Folds.{list_any_at}
use Rattle.std.proofs.lemmas.List.Sums.{sum_by_push}
use Rattle.pl_desc.specs.Rows.{change_count, one_more}
use Rattle.pl_state.specs.Sound.{times}
use Rattle.pl_state.proofs.holders.Holding.{times_most, times_one, held_once}

-- the key at a place is next, and those before it are held
module _ (keys : List ℕ) (place : ℕ) (within : place < length keys) (old mid : ℕ → ℕ) (held : (q : ℕ) → mid q ≡ old q + times (take place keys) q) where
  abbrev key : ℕ
  key = slice_index_or keys place 0

  pub next_member : is_member nat_eq keys key ≡ true
  next_member = list_any_at (nat_eq key) keys place 0 within (eq-eqb key key refl)

  pub next_few : ((q : ℕ) → old q + length keys ≤ 2 ^ 100) → mid key < 2 ^ 100
  next_few few = let most = times_most (take place keys) key in let so_far = held key in let all = few key in let short = length-take place keys in omega (arith, most, so_far, all, short, within)

  pub held_next : (new : ℕ → ℕ) → new ≡ change_count key one_more mid → (q : ℕ) → new q ≡ old q + times (take (place + 1) keys) q
  held_next new one q =
      let once = held_once key mid new one q in
      let all : times (take (place + 1) keys) q ≡ times (take place keys) q + times (key ∷ []) q = ap (λ ks. times ks q) (take_more keys place 0 within) ∙ pushed in
      let so_far = held q in
      omega (arith, once, all, so_far)
    where
      pushed : times (take place keys ++ key ∷ []) q ≡ times (take place keys) q + times (key ∷ []) q
      pushed = sum_by_push (λ k. cond (nat_eq k q) 1 0) (take place keys) key ∙ ap (λ n. times (take place keys) q + n) (sym (times_one key q))
