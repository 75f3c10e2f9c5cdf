-- Several lists of slots over one store: a change of one of them keeps that the holders of each segment are as many as the
-- slots that name it, and what the others read.
use Rattle.std.proofs.Common.{refl, ◌≡◌, ◌≢◌, ℕ, zero, suc, ◌+◌, ◌<◌, ◌≤◌, List, [], ◌∷◌, sym, ◌∙◌, ap, subst, inl, inr, length, set, arith, ◌↔◌, true, Option, Some, None}
use Rattle.std.specs.Prelude.{is_some}
use Rattle.std.proofs.lemmas.Bool.Decides.{eqb_tells}
use Rattle.std.proofs.lemmas.List.{get_or-set_same, get_or-set_other}
use Rattle.pl_segments.specs.declared.slice.Slice.{Slice}
use Rattle.pl_segments.specs.Segments.{Segment, Map, at, holders, holders_in, IsGood, AreGood}
use Rattle.pl_segments.specs.Slices.{all_read, AllLie, naming}
use Rattle.pl_segments.specs.Turns.{Holds, Turns}
use Rattle.pl_segments.proofs.Turning.{others-lie, others-read}
use Rattle.pl_segments.specs.Sharing.{named, slots_at, AreShared}

-- one list has no more names than all
named-one : (all : List (List Slice)) (p : ℕ) (key : ℕ) → naming (slots_at all p) key ≤ named all key
named-one [] p key = omega arith
named-one (xs ∷ all) zero key = omega arith
named-one (xs ∷ all) (suc p) key = let r = named-one all p key in omega (arith, r)

-- one list changes
pub named-set : (all : List (List Slice)) (p : ℕ) (ys : List Slice) (key : ℕ) → p < length all → named (set all p ys) key + naming (slots_at all p) key ≡ named all key + naming ys key
named-set [] p ys key l = absurd (omega (arith, l))
named-set (xs ∷ all) zero ys key l = omega arith
named-set (xs ∷ all) (suc p) ys key l = let r = named-set all p ys key (omega (arith, l)) in omega (arith, r)

module _ (m n : Map) (all : List (List Slice)) (p : ℕ) (ys : List Slice) (within : p < length all) (shared : AreShared m all) where
  -- the slots of one list are held
  pub one-held : Holds m (slots_at all p)
  one-held = record { lie = shared.lie p; few = λ key. let a = named-one all p key in let b = shared.counted key in omega (arith, a, b) }

  module _ (t : Turns m (slots_at all p) n ys) where
    -- the others have holders of their own
    beside : (q : ℕ) → q ≢ p → (key : ℕ) → naming (slots_at all p) key + naming (slots_at all q) key ≤ holders m key
    beside q d key =
        let s = named-set all p [] key within in
        let o = named-one (set all p []) q key in
        let e : naming (slots_at (set all p []) q) key ≡ naming (slots_at all q) key = ap (λ xs. naming xs key) (get_or-set_other all p q [] [] d) in
        let c = shared.counted key in
        omega (arith, s, o, e, c)

    -- the counts are as many as the names, and all slots lie in filled parts
    pub shared-turned : AreShared n (set all p ys)
    shared-turned = record {
      counted = λ key. let s = named-set all p ys key within in let c = shared.counted key in let u = t.counted key in let o = named-one all p key in omega (arith, s, c, u, o);
      lie = λ q. elim (eqb_tells q p) as (λ _. AllLie n (slots_at (set all p ys) q)) [
        | inl e ↦ subst (λ k. AllLie n (slots_at (set all p ys) k)) (sym e.1) (subst (AllLie n) (sym (get_or-set_same all p ys [] within)) t.lie)
        | inr e ↦ subst (AllLie n) (sym (get_or-set_other all p q ys [] e.1)) (others-lie m n (slots_at all p) ys t (slots_at all q) (beside q e.1) (shared.lie q))
      ];
    }

    -- the others read what they read
    pub others-same : (q : ℕ) → q ≢ p → all_read n (slots_at (set all p ys) q) ≡ all_read m (slots_at all q)
    others-same q d = ap (all_read n) (get_or-set_other all p q ys [] d) ∙ others-read m n (slots_at all p) ys t (slots_at all q) (beside q d) (shared.lie q)

-- the store has a segment exactly where a slot names it
pub held-named : (held : List (Option Segment)) (all : List (List Slice)) → AreGood held → AreShared (at held) all → (key : ℕ) → (is_some (at held key) ≡ true) ↔ (1 ≤ named all key)
held-named held all good shared key = by (at held key) (good.good key) (shared.counted key)
  where
    by : (o : Option Segment) → IsGood o → holders_in o ≡ named all key → (is_some o ≡ true) ↔ (1 ≤ named all key)
    by None g e = ((λ h. absurd (cc)), (λ h. absurd (omega (arith, e, h))))
    by (Some s) g e = ((λ h. let l = g.0 in omega (arith, e, l)), (λ h. refl))
