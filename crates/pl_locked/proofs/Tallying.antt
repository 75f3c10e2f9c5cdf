-- How many steps each caller made.
use Rattle.std.proofs.Common.{◌≡◌, ◌≢◌, ℕ, ◌+◌, ◌<◌, ◌≤◌, List, [], ◌∷◌, ◌++◌, length, refl, sym, ap, ◌∙◌, subst, arith, length-append}
use Rattle.std.specs.Prelude.{slice_index, slice_set, replicate}
use Rattle.std.proofs.lemmas.List.{get_or-set_same, get_or-set_other, length-replicate, get_or-replicate}
use mathlib.Core.Logic.{dite}
use native.Mathlib.Decide.{ℕ_discrete}
use Rattle.pl_model.specs.declared.history.Entry.{Entry}
use Rattle.pl_model.specs.History.{of}
use Rattle.pl_model.proofs.Journals.{of-push, of-other, of-few}
use Rattle.pl_locked.specs.Journals.{Tallies}

module _ {A : Type 0} where
  -- no step was made
  pub tallies_none : (callers most : ℕ) → Tallies {A = A} callers most [] (replicate callers 0)
  tallies_none callers most =
      record {
        many = length-replicate callers 0;
        counts = λ k lt. get_or-replicate callers k 0 0 lt;
        room = omega arith;
      }

  -- the tally after an entry
  tally-push : (callers n : ℕ) (h : List (Entry A)) (e : Entry A) (tally : List ℕ) → e.caller < callers → length tally ≡ callers → ((j : ℕ) → j < callers → slice_index tally j ≡ length (of j h)) → n ≡ slice_index tally e.caller
      → (j : ℕ) → j < callers → slice_index (slice_set tally e.caller (n + 1)) j ≡ length (of j (h ++ e ∷ []))
  tally-push callers n h e tally lt many all is j lj =
      dite (ℕ_discrete j e.caller)
      (λ (same : j ≡ e.caller).
      let lk : e.caller < length tally = omega arith in
      let new : length (of e.caller (h ++ e ∷ [])) ≡ length (of e.caller h) + 1 = ap length (of-push e.caller h e refl) ∙ length-append (of e.caller h) (e ∷ []) in
      let was : slice_index tally e.caller ≡ length (of e.caller h) = all e.caller lt in
      let here : slice_index (slice_set tally e.caller (n + 1)) e.caller ≡ n + 1 = get_or-set_same tally e.caller (n + 1) 0 lk in
      subst (λ (i : ℕ). slice_index (slice_set tally e.caller (n + 1)) i ≡ length (of i (h ++ e ∷ []))) (sym same) (omega arith))
      (λ (other : j ≢ e.caller).
      get_or-set_other tally e.caller j (n + 1) 0 other ∙ (all j lj ∙ sym (ap length (of-other j h e (λ x. other (sym x))))))

  -- no caller made more steps than the journal takes
  pub tally_small : (callers most : ℕ) (h : List (Entry A)) (tally : List ℕ) → Tallies callers most h tally → (k : ℕ) → k < callers → slice_index tally k ≤ most
  tally_small callers most h tally kept k lt =
      let a : slice_index tally k ≡ length (of k h) = kept.counts k lt in let b : length (of k h) ≤ length h = of-few k h in let c : length h ≤ most = kept.room in omega arith
