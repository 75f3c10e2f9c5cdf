-- A journal that is one entry longer.
use Rattle.std.proofs.Common.{◌≡◌, ◌≢◌, ℕ, ◌+◌, ◌≤◌, Bool, true, false, cond, List, [], ◌∷◌, ◌++◌, length, refl, sym, ap, ◌∙◌, arith, append_assoc, eq-eqb, ne_eqb}
use Rattle.std.proofs.lemmas.List.{map-append, append-nil}
use Rattle.std.proofs.lemmas.List.Elements.{filter-append}
use Rattle.std.specs.Prelude.{nat_eq}
use Rattle.pl_model.specs.declared.calls.Limits.{Limits}
use Rattle.pl_model.specs.declared.calls.Step.{Step}
use Rattle.pl_model.specs.declared.history.Entry.{Entry}
use Rattle.pl_model.specs.Numbered.{State, opening, step}
use Rattle.pl_model.specs.Run.{replies, state_after}
use Rattle.pl_model.specs.History.{of, steps_of, state_of_history, numbers_after, IsLegal}

module _ {A : Type 0} where
  -- one step more
  pub state_after-push : (s : State A) (xs : List (Step A)) (x : Step A) → state_after s (xs ++ x ∷ []) ≡ (step (state_after s xs) x).state
  state_after-push s [] x = refl
  state_after-push s (y ∷ ys) x = state_after-push (step s y).state ys x

  pub replies-push : (s : State A) (xs : List (Step A)) (x : Step A) → replies s (xs ++ x ∷ []) ≡ replies s xs ++ (step (state_after s xs) x).reply ∷ []
  replies-push s [] x = refl
  replies-push s (y ∷ ys) x = ap (λ rs. (step s y).reply ∷ rs) (replies-push (step s y).state ys x)

  numbers_after-push : (before h : List (Entry A)) (e : Entry A) → numbers_after before (h ++ e ∷ []) ≡ numbers_after before h ++ length (of e.caller (before ++ h)) ∷ []
  numbers_after-push before [] e = ap (λ b. length (of e.caller b) ∷ []) (sym (append-nil before))
  numbers_after-push before (x ∷ xs) e =
      ap (λ ns. length (of x.caller before) ∷ ns) (numbers_after-push (before ++ x ∷ []) xs e ∙ ap (λ b. numbers_after (before ++ x ∷ []) xs ++ length (of e.caller b) ∷ []) (append_assoc before (x ∷ []) xs))

  pub steps_of-push : (h : List (Entry A)) (e : Entry A) → steps_of (h ++ e ∷ []) ≡ steps_of h ++ e.step ∷ []
  steps_of-push h e = map-append (λ (x : Entry A). x.step) h (e ∷ [])

  -- an entry with the machine's reply, and the number of its caller's entries that stand before it
  pub legal-push : (limits : Limits) (h : List (Entry A)) (e : Entry A) → IsLegal limits h → e.reply ≡ (step (state_of_history limits h) e.step).reply → e.number ≡ length (of e.caller h) → IsLegal limits (h ++ e ∷ [])
  legal-push limits h e legal reply number =
      record {
        replies =
            map-append (λ (x : Entry A). x.reply) h (e ∷ []) ∙ (λ i. legal.replies i ++ reply i ∷ []) ∙ sym (replies-push (opening limits) (steps_of h) e.step) ∙ ap (replies (opening limits)) (sym (steps_of-push h e));
        numbers =
            map-append (λ (x : Entry A). x.number) h (e ∷ []) ∙ (λ i. legal.numbers i ++ number i ∷ []) ∙ sym (numbers_after-push [] h e);
      }

  -- it leads on by its step
  pub state-push : (limits : Limits) (h : List (Entry A)) (e : Entry A) → state_of_history limits (h ++ e ∷ []) ≡ (step (state_of_history limits h) e.step).state
  state-push limits h e = ap (state_after (opening limits)) (steps_of-push h e) ∙ state_after-push (opening limits) (steps_of h) e.step

  -- the entries of a caller, over parts of a journal
  pub of-append : (k : ℕ) (g h : List (Entry A)) → of k (g ++ h) ≡ of k g ++ of k h
  of-append k g h = filter-append (λ (x : Entry A). nat_eq x.caller k) g h

  pub of-push : (k : ℕ) (h : List (Entry A)) (e : Entry A) → e.caller ≡ k → of k (h ++ e ∷ []) ≡ of k h ++ e ∷ []
  of-push k h e is = of-append k h (e ∷ []) ∙ ap (λ b. of k h ++ cond b (e ∷ []) []) (eq-eqb e.caller k is)

  pub of-other : (k : ℕ) (h : List (Entry A)) (e : Entry A) → e.caller ≢ k → of k (h ++ e ∷ []) ≡ of k h
  of-other k h e is = of-append k h (e ∷ []) ∙ ap (λ b. of k h ++ cond b (e ∷ []) []) (ne_eqb e.caller k is) ∙ append-nil (of k h)

  one_more : (b : Bool) (e : Entry A) (xs : List (Entry A)) (n : ℕ) → length xs ≤ n → length (cond b (e ∷ xs) xs) ≤ n + 1
  one_more true e xs n h = omega arith
  one_more false e xs n h = omega arith

  pub of-few : (k : ℕ) (h : List (Entry A)) → length (of k h) ≤ length h
  of-few k [] = omega arith
  of-few k (e ∷ es) = let r = one_more (nat_eq e.caller k) e (of k es) (length es) (of-few k es) in omega arith
