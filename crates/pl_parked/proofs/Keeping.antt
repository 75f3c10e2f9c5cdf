-- What each change of the calls leaves.
use Rattle.std.proofs.Common.{◌≡◌, ℕ, ◌+◌, Bool, true, not, [], ◌∷◌, ◌++◌, Some, None, IfSome, refl, sym, ◌∙◌, ap, subst, nat_eq}
use Rattle.std.specs.Prelude.{◌&&◌, ◌||◌}
use Rattle.std.specs.BTreeSet.{BTreeSet}
use Rattle.pl_model.specs.Map.{Map, get, put, without}
use Rattle.pl_parked.specs.declared.call.ParkedCall.{ParkedCall}
use Rattle.pl_parked.specs.declared.opens.WaitingOpen.{WaitingOpen}
use Rattle.pl_parked.specs.Calls.{Calls}
use Rattle.pl_numbered.specs.Rising.{Rise}
use Rattle.pl_parked.specs.CallsView.{IsSound}
use Rattle.pl_parked.specs.Waiting.{is_in, is_named, waiting_open, Lists}
use Rattle.pl_parked.proofs.Listed.{opens-more, opens-same, opens-fewer}
use Rattle.pl_parked.proofs.Owned.{is_own, own-more, own-same, own-fewer}
use Rattle.pl_numbered.proofs.Replacing.{replaces-push, replaces-pop, replaces-without, replaces-put}
use Rattle.pl_numbered.proofs.Rising.{Rise-push, Rise-without, Rise-put, without-last}

module _ {A : Type 0} (calls : Map ℕ (ParkedCall A)) (owners : (pid number : ℕ) → Bool) (opens : BTreeSet WaitingOpen) (next : ℕ) (s : IsSound calls owners opens next) where
  -- other fields that have the same calls
  pub keeps-own : (same : (pid number : ℕ) → Bool) → ((pid number : ℕ) → same pid number ≡ owners pid number) → IsSound calls same opens next
  keeps-own same is = record { rise = s.rise; owned = λ pid number. is pid number ∙ s.owned pid number; listed = s.listed }

  -- a call more
  module _ (x : ParkedCall A) (more : (pid number : ℕ) → Bool) (own : (pid number : ℕ) → more pid number ≡ (is_own x.pid next pid number || owners pid number)) where
    pub keeps-push : (new : BTreeSet WaitingOpen) → ((key : WaitingOpen) → is_in new key ≡ (is_named (waiting_open next x) key || is_in opens key)) → IsSound (calls ++ (next, x) ∷ []) more new (next + 1)
    keeps-push new listed = (let r = replaces-push next calls x s.rise in record {
      rise = Rise-push 0 next calls x s.rise;
      owned = own-more next calls (calls ++ (next, x) ∷ []) x owners s.owned r more own;
      listed = opens-more next calls (calls ++ (next, x) ∷ []) x opens s.listed r new listed;
    })

    -- it is removed again, before it was parked
    pub keeps-undone : (back : (pid number : ℕ) → Bool) (new : BTreeSet WaitingOpen) → ((pid number : ℕ) → back pid number ≡ (not (is_own x.pid next pid number) && more pid number)) → ((key : WaitingOpen) → is_in new key ≡ is_in opens key) → IsSound calls back new next
    keeps-undone back new fewer same = record {
      rise = s.rise;
      owned = own-fewer next (calls ++ (next, x) ∷ []) calls x more (own-more next calls (calls ++ (next, x) ∷ []) x owners s.owned (replaces-push next calls x s.rise) more own) (replaces-pop next calls x s.rise) back fewer;
      listed = λ key. same key ∙ s.listed key;
    }

  -- the call of a number
  module _ (n : ℕ) (x : ParkedCall A) (has : get nat_eq calls n ≡ Some x) where
    -- it leaves
    module _ (fewer : (pid number : ℕ) → Bool) (new : BTreeSet WaitingOpen) (own : (pid number : ℕ) → fewer pid number ≡ (not (is_own x.pid n pid number) && owners pid number))
        (listed : (key : WaitingOpen) → is_in new key ≡ (not (is_named (waiting_open n x) key) && is_in opens key)) where
      pub keeps-without : IsSound (without nat_eq calls n) fewer new next
      keeps-without = (let r = replaces-without n calls x has in record {
        rise = Rise-without n 0 next calls s.rise;
        owned = own-fewer n calls (without nat_eq calls n) x owners s.owned r fewer own;
        listed = opens-fewer n calls (without nat_eq calls n) x opens s.listed None r (λ key. refl) new listed;
      })

      -- and its number is given again, where it is the last
      pub keeps-unparked : n + 1 ≡ next → IsSound (without nat_eq calls n) fewer new n
      keeps-unparked last = record {
        rise = (without-last n 0 calls x (subst (λ m. Rise 0 m calls) (sym last) s.rise) has).1;
        owned = keeps-without.owned;
        listed = keeps-without.listed;
      }

    -- it is changed
    keeps-put : (y : ParkedCall A) (new : BTreeSet WaitingOpen) → y.pid ≡ x.pid → Lists new (put nat_eq calls n y) → IsSound (put nat_eq calls n y) owners new next
    keeps-put y new same lists = record {
      rise = Rise-put n 0 next calls x y s.rise has;
      owned = own-same n calls (put nat_eq calls n y) x owners s.owned y (replaces-put n calls x y has) same;
      listed = lists;
    }

    -- and listed as it was
    pub keeps-listed : (y : ParkedCall A) → y.pid ≡ x.pid → ((number : ℕ) → waiting_open number x ≡ waiting_open number y) → IsSound (put nat_eq calls n y) owners opens next
    keeps-listed y pid same = keeps-put y opens pid (opens-same n calls (put nat_eq calls n y) x opens s.listed y (replaces-put n calls x y has) same)

    -- or met
    pub keeps-marked : (new : BTreeSet WaitingOpen) → ((key : WaitingOpen) → is_in new key ≡ (not (is_named (waiting_open n x) key) && is_in opens key)) → IsSound (put nat_eq calls n (record x { met = true })) owners new next
    keeps-marked new fewer = (let y = record x { met = true } in
        keeps-put y new refl (opens-fewer n calls (put nat_eq calls n y) x opens s.listed (Some y) (replaces-put n calls x y has) (λ key. refl) new fewer))

  -- what is seen of the calls once one is changed
  pub puts : (v : Calls A) → record { calls = calls; next = next } ≡ v → (n : ℕ) (x : ParkedCall A) → get nat_eq calls n ≡ Some x → (edit : ParkedCall A → ParkedCall A) (changed : Map ℕ (ParkedCall A)) → changed ≡ put nat_eq calls n (edit x)
      → IfSome (get nat_eq v.calls n) (λ call. record { calls = changed; next = next } ≡ record v { calls = put nat_eq v.calls n (edit call) })
  puts v seen n x has edit changed is =
      subst (λ o. IfSome o (λ call. record { calls = changed; next = next } ≡ record v { calls = put nat_eq v.calls n (edit call) })) (sym has ∙ ap (λ (v : Calls A). get nat_eq v.calls n) seen)
      (ap (λ calls. record { calls = calls; next = next }) is ∙ ap (λ (v : Calls A). record v { calls = put nat_eq v.calls n (edit x) }) seen)
