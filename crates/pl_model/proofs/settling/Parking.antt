-- What the end of a step makes of a call that is parked, or tried again in vain.
use Rattle.std.proofs.Common.{◌≡◌, ℕ, Bool, true, false, cond, [], ◌∷◌, Some, refl, sym, ◌∙◌, ap, nat_eq}
use Rattle.std.specs.Prelude.{◌||◌}
use Rattle.std.specs.List.{list_any}
use Rattle.std.specs.Set.{is_member}
use Rattle.std.proofs.lemmas.List.Folds.{list_any-append}
use Rattle.pl_model.specs.Map.{Map, get, put}
use Rattle.pl_model.specs.State.{Core, Waiting}
use Rattle.pl_model.specs.Live.{in_rows, in_parked, pids, is_live}
use Rattle.pl_model.specs.Settle.{settle}
use Rattle.pl_model.specs.Step.{parked, parked_again}
use Rattle.pl_model.specs.Numbered.{numbers}
use Rattle.pl_model.specs.Laws.{IsSettled}
use Rattle.pl_model.proofs.settling.Members.{both_ways, or_left, or_right, or_elim, member_flat}
use Rattle.pl_model.proofs.settling.FromSettled.{same-settled}

module _ {A : Type 0} where
  -- a parked call keeps the description
  abbrev pub keeps : Map ℕ (Waiting A numbers) → ℕ → Bool
  keeps calls d = list_any (λ e. is_member nat_eq e.1.kept d) calls

  -- a description is live by a row, or by a parked call
  pub live-is : (c : Core A numbers) (d : ℕ) → is_live c d ≡ (is_member nat_eq (in_rows c) d || keeps c.parked d)
  unfolding in_parked
  live-is c d =
      list_any-append (nat_eq d) (in_rows c) (in_parked c)
      ∙ ap (λ b. is_member nat_eq (in_rows c) d || b) (member_flat d (λ (e : ℕ × Waiting A numbers). e.1.kept) c.parked)

  pub keeps_put : (calls : Map ℕ (Waiting A numbers)) (n : ℕ) (w now : Waiting A numbers) (d : ℕ) → get nat_eq calls n ≡ Some w → now.kept ≡ w.kept →
      keeps (put nat_eq calls n now) d ≡ keeps calls d
  keeps_put [] n w now d here same = absurd (cc)
  keeps_put (e ∷ es) n w now d here same = by (nat_eq e.0 n) here (keeps_put es n w now d)
    where
      by : (b : Bool) → cond b (Some e.1) (get nat_eq es n) ≡ Some w → (get nat_eq es n ≡ Some w → now.kept ≡ w.kept → keeps (put nat_eq es n now) d ≡ keeps es d) →
          keeps (cond b ((n, now) ∷ es) (e ∷ put nat_eq es n now)) d ≡ keeps (e ∷ es) d
      by true h rest = (let is : e.1 ≡ w = cc in λ i. is_member nat_eq ((same ∙ ap (λ z. z.kept) (sym is)) i) d || keeps es d)
      by false h rest = ap (λ b. is_member nat_eq e.1.kept d || b) (rest h same)

module _ {A : Type 0} (c : Core A numbers) (settled : IsSettled c) where
  -- a call is parked whose descriptions are live
  module _ (w : Waiting A numbers) (live : (d : ℕ) → is_member nat_eq w.kept d ≡ true → is_live c d ≡ true) where
    pub parked_live : (d : ℕ) → is_live (parked c w) d ≡ is_live c d
    unfolding in_rows pids
    parked_live d =
        live-is (parked c w) d
        ∙ ap (λ b. is_member nat_eq (in_rows c) d || b) (list_any-append (λ (e : ℕ × Waiting A numbers). is_member nat_eq e.1.kept d) c.parked ((c.next_call, w) ∷ []))
        ∙ both_ways _ _
        (λ h. or_elim (is_member nat_eq (in_rows c) d) _
        (λ r. live-is c d ∙ or_left _ _ r)
        (λ k. or_elim (keeps c.parked d) _ (λ p. live-is c d ∙ or_right _ _ p) (λ m. or_elim (is_member nat_eq w.kept d) false (live d) (λ f. absurd (cc)) m) k) h)
        (λ h. or_elim (is_member nat_eq (in_rows c) d) (keeps c.parked d) (λ r. or_left _ _ r) (λ p. or_right _ _ (or_left _ _ p)) (sym (live-is c d) ∙ h))

    pub park-settled : settle c (parked c w) ≡ parked c w
    park-settled = same-settled c (parked c w) settled (record { descriptions = refl; files = refl; names = refl }) parked_live refl

  -- a parked call is tried again, and still waits
  module _ (n : ℕ) (w now : Waiting A numbers) (here : get nat_eq c.parked n ≡ Some w) (same : now.kept ≡ w.kept) where
    pub again_live : (d : ℕ) → is_live (parked_again c n now) d ≡ is_live c d
    unfolding in_rows pids
    again_live d = live-is (parked_again c n now) d ∙ ap (λ b. is_member nat_eq (in_rows c) d || b) (keeps_put c.parked n w now d here same) ∙ sym (live-is c d)
