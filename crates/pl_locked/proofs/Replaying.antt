-- A journal, replayed entry by entry.
use Rattle.std.proofs.Common.{◌≡◌, ℕ, zero, suc, ◌<◌, List, [], ◌∷◌, length, take, get_or, sym, ap, ◌∙◌, arith}
use Rattle.std.specs.Prelude.{map}
use Rattle.pl_model.specs.Numbered.{State, step}
use Rattle.pl_model.specs.Run.{replies}
use Rattle.pl_model.specs.declared.history.Entry.{Entry}
use Rattle.pl_model.specs.History.{steps_of}
use Rattle.pl_model.specs.Run.{state_after}

module _ {A : Type 0} where
  -- the replies from a state on are the machine's
  abbrev pub Goes : State A → List (Entry A) → Type 0
  Goes s h = map (λ (e : Entry A). e.reply) h ≡ replies s (steps_of h)

  -- the state after the first i of the entries
  abbrev pub after_first : State A → ℕ → List (Entry A) → State A
  after_first s i h = state_after s (steps_of (take i h))

  -- where all replies are the machine's, so is each
  pub reply_at : (s : State A) (h : List (Entry A)) (i : ℕ) (e : Entry A) → i < length h → e ≡ get_or h i e → Goes s h → e.reply ≡ (step (after_first s i h) e.step).reply
  reply_at s [] i e lt is g = absurd (omega arith)
  reply_at s (x ∷ xs) zero e lt is g = let h : x.reply ≡ (step s x.step).reply = cc g in ap (λ (y : Entry A). y.reply) is ∙ (h ∙ ap (λ (y : Entry A). (step s y.step).reply) (sym is))
  reply_at s (x ∷ xs) (suc i) e lt is g = reply_at (step s x.step).state xs i e (omega arith) is (let t : Goes (step s x.step).state xs = cc g in t)

  pub goes-more : (s : State A) (h : List (Entry A)) (i : ℕ) (e : Entry A) → i < length h → e ≡ get_or h i e → Goes s (take i h) → e.reply ≡ (step (after_first s i h) e.step).reply → Goes s (take (suc i) h)
  goes-more s [] i e lt is g r = absurd (omega arith)
  goes-more s (x ∷ xs) zero e lt is g r =
      let h : x.reply ≡ (step s x.step).reply = ap (λ (y : Entry A). y.reply) (sym is) ∙ (r ∙ ap (λ (y : Entry A). (step s y.step).reply) is) in ap (λ q. q ∷ []) h
  goes-more s (x ∷ xs) (suc i) e lt is g r =
      let h : x.reply ≡ (step s x.step).reply = cc g in
      let t : Goes (step s x.step).state (take i xs) = cc g in
      let n = goes-more (step s x.step).state xs i e (omega arith) is t r in
      λ k. h k ∷ n k

  pub after-more : (s : State A) (h : List (Entry A)) (i : ℕ) (e : Entry A) → i < length h → e ≡ get_or h i e → after_first s (suc i) h ≡ (step (after_first s i h) e.step).state
  after-more s [] i e lt is = absurd (omega arith)
  after-more s (x ∷ xs) zero e lt is = ap (λ (y : Entry A). (step s y.step).state) (sym is)
  after-more s (x ∷ xs) (suc i) e lt is = after-more (step s x.step).state xs i e (omega arith) is
