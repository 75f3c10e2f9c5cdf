-- The calls by their processes, before and after a change of the calls.
use Rattle.std.proofs.Common.{◌≡◌, ℕ, ◌<◌, ◌≤◌, Bool, true, false, not, Option, Some, None, IfSome, IfNone, refl, sym, ◌∙◌, ap, nat_eq, arith}
use Rattle.std.specs.Prelude.{◌&&◌, ◌||◌, option_map}
use Rattle.std.specs.List.{find}
use Rattle.std.proofs.lemmas.Bool.Decides.{nat_tests}
use Rattle.pl_model.specs.Map.{Map, get}
use Rattle.pl_parked.specs.declared.call.ParkedCall.{ParkedCall}
use Rattle.pl_parked.specs.Calls.{is_of_from}
use Rattle.pl_numbered.specs.Rising.{Rise}
use Rattle.pl_parked.specs.Owned.{is_call_of, ListsAll}
use Rattle.pl_parked.proofs.Finding.{found-here, found-least, found-none, passes, reaches}
use Rattle.pl_numbered.proofs.Replacing.{Replaces, lists-same, lists-more, lists-fewer}
use Rattle.pl_numbered.proofs.Rising.{get_under}

same_number : (a b : ℕ) → nat_eq a b ≡ true → a ≡ b
same_number a b h = grind (arith, nat_tests, h)

equal_to : (a b : ℕ) → a ≡ b → nat_eq a b ≡ true
equal_to a b h = grind (arith, nat_tests)

-- a process and a number
abbrev at : ((pid number : ℕ) → Bool) → ℕ × ℕ → Bool
at owns key = owns key.0 key.1

-- it is the call of this process and number
abbrev pub is_own : (pid number other call : ℕ) → Bool
is_own pid number other call = nat_eq pid other && nat_eq number call

module _ {A : Type 0} where
  -- how what stands at a number is listed
  abbrev shown_own : ℕ × ℕ → Option (ParkedCall A) → Bool
  shown_own key o = is_call_of key.0 o

  module _ (n : ℕ) (before after : Map ℕ (ParkedCall A)) (x : ParkedCall A) (set : (pid number : ℕ) → Bool) (lists : ListsAll set before) where
    -- a call more
    pub own-more : Replaces n before after None (Some x) → (new : (pid number : ℕ) → Bool) → ((pid number : ℕ) → new pid number ≡ (is_own x.pid n pid number || set pid number)) → ListsAll new after
    own-more r new is pid number =
        lists-more (λ (key : ℕ × ℕ). key.1) shown_own n before after None (Some x) r (at set) (λ key. lists key.0 key.1) (at (is_own x.pid n)) (at new) (λ key. refl) (λ key. refl) (λ key. is key.0 key.1) (pid, number)

    -- another call of the same process
    pub own-same : (y : ParkedCall A) → Replaces n before after (Some x) (Some y) → y.pid ≡ x.pid → ListsAll set after
    own-same y r same pid number =
        lists-same (λ (key : ℕ × ℕ). key.1) shown_own n before after (Some x) (Some y) r (at set) (λ key. lists key.0 key.1) (λ key. ap (λ pid. nat_eq pid key.0) (sym same)) (pid, number)

    -- a call less
    pub own-fewer : Replaces n before after (Some x) None → (new : (pid number : ℕ) → Bool) → ((pid number : ℕ) → new pid number ≡ (not (is_own x.pid n pid number) && set pid number)) → ListsAll new after
    own-fewer r new is pid number =
        lists-fewer (λ (key : ℕ × ℕ). key.1) shown_own n before after (Some x) None r (at set) (λ key. lists key.0 key.1) (at (is_own x.pid n)) (at new) (λ key. refl) (λ key. refl) (λ key. is key.0 key.1) (pid, number)

  -- the numbers are those of calls, and so below the next one
  pub owned-under : (next : ℕ) (calls : Map ℕ (ParkedCall A)) → Rise 0 next calls → (set : (pid number : ℕ) → Bool) → ListsAll set calls → (pid n : ℕ) → set pid n ≡ true → n < next
  owned-under next calls r set lists pid n h = by (get nat_eq calls n) refl (sym (lists pid n) ∙ h)
    where
      by : (o : Option (ParkedCall A)) → get nat_eq calls n ≡ o → is_call_of pid o ≡ true → n < next
      by None is own = absurd (cc)
      by (Some x) is own = get_under 0 next calls n x r is

  -- the least number of a process in the set is that of its first call
  module _ (pid from next : ℕ) (calls : Map ℕ (ParkedCall A)) (r : Rise 0 next calls) (set : (pid number : ℕ) → Bool) (lists : ListsAll set calls) where
    there : (n : ℕ) (x : ParkedCall A) → get nat_eq calls n ≡ Some x → x.pid ≡ pid → set pid n ≡ true
    there n x is own = lists pid n ∙ ap (is_call_of pid) is ∙ equal_to x.pid pid own

    owner : (n : ℕ) → set pid n ≡ true → (x : ParkedCall A) × (get nat_eq calls n ≡ Some x) × (x.pid ≡ pid)
    owner n h = by (get nat_eq calls n) refl (sym (lists pid n) ∙ h)
      where
        by : (o : Option (ParkedCall A)) → get nat_eq calls n ≡ o → is_call_of pid o ≡ true → (x : ParkedCall A) × (get nat_eq calls n ≡ Some x) × (x.pid ≡ pid)
        by None is own = absurd (cc)
        by (Some x) is own = (x, is, same_number x.pid pid own)

    pub first-owned : (o : Option ℕ) → IfSome o (λ number. (from ≤ number) × (set pid number ≡ true))
        → IfSome o (λ number. (other : ℕ) → from ≤ other → set pid other ≡ true → number ≤ other)
        → IfNone o ((number : ℕ) → from ≤ number → set pid number ≡ false)
        → o ≡ option_map (λ entry. entry.0) (find (is_of_from pid from) calls)
    first-owned o some least none = by o some least none (find (is_of_from pid from) calls) refl
      where
        by : (o : Option ℕ) → IfSome o (λ number. (from ≤ number) × (set pid number ≡ true))
            → IfSome o (λ number. (other : ℕ) → from ≤ other → set pid other ≡ true → number ≤ other)
            → IfNone o ((number : ℕ) → from ≤ number → set pid number ≡ false)
            → (f : Option (ℕ × ParkedCall A)) → find (is_of_from pid from) calls ≡ f → o ≡ option_map (λ entry. entry.0) f
        by None some least none None h = refl
        by None some least none (Some e) h =
            let here = found-here (is_of_from pid from) 0 next calls e r h in
            let own = passes pid from e here.1 in
            let no : true ≡ false = sym (there e.0 e.1 here.0 own.1) ∙ none e.0 own.0 in
            absurd (cc)
        by (Some n) some least none None h =
            let call = owner n some.1 in
            let no : true ≡ false = sym (reaches pid from (n, call.0) some.0 call.2) ∙ found-none (is_of_from pid from) calls h n call.0 call.1 in
            absurd (cc)
        by (Some n) some least none (Some e) h =
            let here = found-here (is_of_from pid from) 0 next calls e r h in
            let own = passes pid from e here.1 in
            let call = owner n some.1 in
            let up : n ≤ e.0 = least e.0 own.0 (there e.0 e.1 here.0 own.1) in
            let down : e.0 ≤ n = found-least (is_of_from pid from) 0 next calls e r h n call.0 call.1 (reaches pid from (n, call.0) some.0 call.2) in
            let same : n ≡ e.0 = omega (arith, up, down) in
            ap (λ m. Some m) same
