-- Where no caller waits, nobody is woken.
use Rattle.std.proofs.Common.{◌≡◌, ℕ, zero, suc, Bool, false, cond, List, [], ◌∷◌, length, None, Some, refl, ap, ◌∙◌, arith}
use Rattle.std.specs.Prelude.{nat_lt, replicate, slice_set, if◌then◌else◌}
use Rattle.std.specs.List.{list_any, position, position_or_len}
use Rattle.std.proofs.lemmas.Bool.{le-ltb, or_parts, or_from}
use Rattle.pl_locked.specs.declared.waiting.Waiting.{Waiting}
use Rattle.pl_locked.specs.declared.waiting.Waiting.TheVariants.{Nothing, Awake, Asleep, Together}
use Rattle.pl_locked.specs.Waking.{waits, is_helped_awake, is_helped_asleep, to_wake}

-- at first none waits
pub none_waits : (n : ℕ) → list_any waits (replicate n Nothing) ≡ false
none_waits zero = refl
none_waits (suc n) = none_waits n

-- and none where one less does
pub leaves : (ws : List Waiting) (k : ℕ) → list_any waits ws ≡ false → list_any waits (slice_set ws k Nothing) ≡ false
leaves [] k none = refl
leaves (w ∷ ws) zero none = (or_parts (waits w) (list_any waits ws) none).1
leaves (w ∷ ws) (suc k) none =
    let parts = or_parts (waits w) (list_any waits ws) none in or_from (waits w) (list_any waits (slice_set ws k Nothing)) parts.0 (leaves ws k parts.1)

module _ (can : ℕ → Bool) where
  no_awake : (ws : List Waiting) → list_any waits ws ≡ false → list_any (is_helped_awake can) ws ≡ false
  no_awake [] h = refl
  no_awake (Nothing ∷ ws) h = no_awake ws h
  no_awake (Awake call ∷ ws) h = absurd (cc)
  no_awake (Asleep call ∷ ws) h = absurd (cc)
  no_awake (Together call ∷ ws) h = absurd (cc)

  all_passed : (ws : List Waiting) → list_any waits ws ≡ false → position_or_len (is_helped_asleep can) ws ≡ length ws
  all_passed [] h = refl
  all_passed (Nothing ∷ ws) h = let rest = all_passed ws h in omega (arith, rest)
  all_passed (Awake call ∷ ws) h = absurd (cc)
  all_passed (Asleep call ∷ ws) h = absurd (cc)
  all_passed (Together call ∷ ws) h = absurd (cc)

  no_asleep : (ws : List Waiting) → list_any waits ws ≡ false → position (is_helped_asleep can) ws ≡ None
  no_asleep ws h =
      ap (λ n. cond (nat_lt n (length ws)) (Some n) None) (all_passed ws h)
      ∙ ap (λ b. cond b (Some (length ws)) None) (le-ltb (length ws) (length ws) (omega arith))

  pub nobody : (ws : List Waiting) → list_any waits ws ≡ false → to_wake can ws ≡ None
  nobody ws h = (λ i. if no_awake ws h i then None else position (is_helped_asleep can) ws) ∙ no_asleep ws h
