-- Holds of several descriptions are given up one after another.
use Rattle.std.proofs.Common.{◌≡◌, ℕ, ◌+◌, ◌-◌, ◌<◌, ◌≤◌, Bool, true, false, cond, List, [], ◌∷◌, ◌++◌, Option, Some, None, refl, sym, ◌∙◌, ap, subst, nat_eq, arith, take, drop, length, slice_index_or}
use Rattle.std.proofs.lemmas.Bool.{eq-eqb}
use Rattle.std.proofs.lemmas.List.{take_more, drop_more}
use Rattle.pl_desc.specs.Rows.{at, count_at}
use Rattle.pl_desc.specs.Descs.{Opened, Descs, IsTidy, holders}
use Rattle.pl_state.specs.Contents.{Nodes}
use Rattle.pl_state.specs.LastHold.{Releases, ReleasesAll}
use Rattle.pl_state.specs.Sound.{AreThere, times}
use Rattle.pl_state.proofs.holders.Holding.{times-cons}
use Rattle.pl_state.proofs.holders.There.{there-released}

then : (keys : List ℕ) (key : ℕ) (old mid new : Descs) (before between after : Nodes) → ReleasesAll keys old mid before between → Releases mid new between after key → ReleasesAll (keys ++ key ∷ []) old new before after
then [] key old mid new before between after r one = (new, after, subst (λ z. Releases z new before after key) r.0 (subst (λ z. Releases mid new z after key) r.1 one), (refl, refl))
then (k ∷ keys) key old mid new before between after r one = (r.0, r.1, r.2, then keys key r.0 mid new r.1 between after r.3 one)

-- the key at a place is next
module _ (keys : List ℕ) (place : ℕ) (within : place < length keys) (old mid new : Descs) (before between after : Nodes)
    (released : ReleasesAll (take place keys) old mid before between) (held : (q : ℕ) → times (drop place keys) q ≤ count_at mid.loose q) (are : AreThere (at mid.opened) between) (tidy : IsTidy mid) where
  abbrev key : ℕ
  key = slice_index_or keys place 0

  next : (q : ℕ) → times (drop place keys) q ≡ cond (nat_eq key q) 1 0 + times (drop (place + 1) keys) q
  next q = ap (λ ks. times ks q) (drop_more keys place 0 within) ∙ times-cons key (drop (place + 1) keys) q

  pub next_held : 0 < count_at mid.loose key
  next_held = let n = next key in let one : ◌≡◌ {A = ℕ} (cond (nat_eq key key) 1 0) 1 = ap (λ b. cond b 1 0) (eq-eqb key key refl) in omega (arith, n, one, held key)

  next_open : (o : Opened) × (at mid.opened key ≡ Some o)
  next_open = by (at mid.opened key) refl
    where
      by : (o : Option Opened) → at mid.opened key ≡ o → (o : Opened) × (at mid.opened key ≡ Some o)
      by (Some o) e = (o, e)
      by None e = absurd (let none : holders mid key ≡ 0 = tidy.bare key e in omega (arith, none, next_held))

  module _ (one : Releases mid new between after key) where
    pub released_next : ReleasesAll (take (place + 1) keys) old new before after
    released_next = subst (λ ks. ReleasesAll ks old new before after) (sym (take_more keys place 0 within)) (then (take place keys) key old mid new before between after released one)

    pub held_next : (q : ℕ) → times (drop (place + 1) keys) q ≤ count_at new.loose q
    held_next q = subst (λ n. times (drop (place + 1) keys) q ≤ n) (sym (λ i. one.loose i q)) (by (nat_eq key q) (next q))
      where
        by : (b : Bool) → times (drop place keys) q ≡ cond b 1 0 + times (drop (place + 1) keys) q → times (drop (place + 1) keys) q ≤ cond b (count_at mid.loose q - 1) (count_at mid.loose q)
        by true n = omega (arith, n, held q)
        by false n = omega (arith, n, held q)

    pub there_next : AreThere (at new.opened) after
    there_next = there-released mid new between after key next_open.0 next_open.1 one are
