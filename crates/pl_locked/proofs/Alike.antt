-- Reads of one description that wait can get on together.
use Rattle.std.proofs.Common.{◌≡◌, ℕ, ℤ, Bool, true, false, cond, List, Option, nat_eq, refl, sym, ◌∙◌, ap, subst}
use Rattle.std.specs.Prelude.{not, ◌||◌, nat_lt, min, IsSomeAnd}
use Rattle.std.specs.declared.option.Option.TheVariants.{None, Some}
use Rattle.pl_model.specs.declared.calls.Call.{Call}
use Rattle.pl_model.specs.declared.calls.Step.{Step}
use Rattle.pl_model.specs.declared.cases.ReadCase.{ReadCase}
use Rattle.pl_model.specs.Map.{get}
use Rattle.pl_model.specs.Keys.{Node, PipeNode, FileNode}
use Rattle.pl_model.specs.State.{Core, Pipe, Open, Description, Waiting}
use Rattle.pl_model.specs.Packets.{front}
use Rattle.pl_model.specs.Live.{writers}
use Rattle.pl_model.specs.Trial.{pipe_at}
use Rattle.pl_model.specs.Transfer.{read_row, read_pipe, read_file, read_node}
use Rattle.pl_model.specs.Step.{with_kept, kept_at, try}
use Rattle.pl_model.specs.Numbered.{numbers, State, step}
use Rattle.pl_model.specs.Waking.{gets_on, progresses, can_progress}
use Rattle.pl_model.specs.Touching.{is_of_call}
use Rattle.pl_model.specs.TouchingLaw.{GoesOn}
use Rattle.pl_model.proofs.touching.Law.{ends_by_its_own}
use Rattle.pl_kernel.specs.ToldCalls.{IsReadOf, IsReadAt}

module _ {A : Type 0} (s : Core A numbers) where
  -- whether a read of a node gets on, however many bytes it asks for
  abbrev node_gives : Node numbers → Bool
  node_gives (PipeNode p) = nat_lt 0 (front (pipe_at s p)) || not (nat_lt 0 (writers s p))
  node_gives (FileNode f) = true

  abbrev gives : Option (Open numbers) → Bool
  gives None = true
  gives (Some o) = node_gives o.description.node

  row_gives : (p : ℕ) (pipe : Pipe) (n : ℕ) (has_front has_writer : Bool) →
      gets_on {A = A} 0 (read_row s p pipe (cond has_front (ReadCase.Gives (min n (front pipe))) (cond (not has_writer) ReadCase.EndOfFile ReadCase.Waits))) ≡ (has_front || not has_writer)
  row_gives p pipe n true has_writer = refl
  row_gives p pipe n false true = refl
  row_gives p pipe n false false = refl

  node_read : (d : ℕ) (description : Description numbers) (node : Node numbers) (n : ℕ) → gets_on {A = A} 0 (read_node s d description node n) ≡ node_gives node
  unfolding read_pipe read_file
  node_read d description (PipeNode p) n = row_gives p (pipe_at s p) n (nat_lt 0 (front (pipe_at s p))) (nat_lt 0 (writers s p))
  node_read d description (FileNode f) n = refl

  kept_read : (o : Option (Open numbers)) (n : ℕ) → gets_on {A = A} 0 (with_kept s o (λ x. read_node s x.key x.description x.description.node n)) ≡ gives o
  kept_read None n = refl
  kept_read (Some o) n = node_read o.key o.description o.description.node n

  tried : (w : Waiting A numbers) (fd : ℤ) (n : ℕ) → gets_on 0 (try s w (Call.Read fd n) true) ≡ gives (kept_at s w.kept 0)
  unfolding try
  tried w fd n = kept_read (kept_at s w.kept 0) n

  read_progress : (kept : List ℕ) (w : Waiting A numbers) → IsReadOf kept w → progresses s (Some w) ≡ gives (kept_at s kept 0)
  read_progress kept w r =
      (λ i. gets_on (r.nothing i) (try s w (r.asked i) true)) ∙ tried w r.fd r.n ∙ ap (λ k. gives (kept_at s k 0)) r.keeps

  progress_at : (kept : List ℕ) (o : Option (Waiting A numbers)) → IsSomeAnd o (IsReadOf kept) → progresses s o ≡ gives (kept_at s kept 0)
  progress_at kept None r = absurd r
  progress_at kept (Some w) r = read_progress kept w r

  -- two such reads can get on together
  pub together : (kept : List ℕ) (number other : ℕ) → IsReadAt s kept number → IsReadAt s kept other → can_progress s number ≡ can_progress s other
  together kept number other a b = progress_at kept (get nat_eq s.parked number) a ∙ sym (progress_at kept (get nat_eq s.parked other) b)

  -- what a read keeps that waits under a number
  pub kept_once : (number : ℕ) (kept more : List ℕ) → IsReadAt s kept number → IsReadAt s more number → more ≡ kept
  kept_once number kept more a b = by (get nat_eq s.parked number) a b
    where
      by : (o : Option (Waiting A numbers)) → IsSomeAnd o (IsReadOf kept) → IsSomeAnd o (IsReadOf more) → more ≡ kept
      by None a b = absurd a
      by (Some w) a b = sym b.keeps ∙ a.keeps

module _ {A : Type 0} (s : State A) where
  -- such a read waits on through each step that isn't of it
  pub reads_on : (x : Step A) (kept : List ℕ) (number : ℕ) → IsReadAt s.core kept number
      → ((w : Waiting A numbers) → get nat_eq s.core.parked number ≡ Some w → is_of_call x number w ≡ false) → IsReadAt (step s x).state.core kept number
  reads_on x kept number r other = by (get nat_eq s.core.parked number) refl r
    where
      by : (o : Option (Waiting A numbers)) → get nat_eq s.core.parked number ≡ o → IsSomeAnd o (IsReadOf kept) → IsReadAt (step s x).state.core kept number
      by None here r = absurd r
      by (Some w) here r =
          let on : GoesOn (step s x).state.core number w = ends_by_its_own s x number w here (other w here) in
          subst (λ o. IsSomeAnd o (IsReadOf kept)) (sym on.1) (record { fd = r.fd; n = r.n; asked = r.asked; keeps = r.keeps; nothing = r.nothing })
