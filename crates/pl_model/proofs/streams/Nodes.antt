-- A description stays on its node, while its number isn't given anew.
use Rattle.std.proofs.Common.{◌≡◌, ◌≢◌, ℕ, ◌+◌, Bool, true, false, cond, Option, List, refl, sym, ◌∙◌, ap, subst, nat_eq}
use Rattle.std.specs.Prelude.{All, IfSome, option_map, option_and_then, slice_get}
use Rattle.std.specs.declared.option.Option.TheVariants.{None, Some}
use Rattle.std.proofs.lemmas.Bool.{eqb-true}
use Rattle.std.proofs.lemmas.Option.{slice_get_within, get_or_from_slice_get}
use Rattle.pl_model.specs.declared.calls.Step.{Step}
use Rattle.pl_model.specs.Keys.{Node, NewKeys, Drawing, Plain, Draws, PipeNode, drawn}
use Rattle.pl_model.specs.Map.{kept_if}
use Rattle.pl_model.specs.State.{Core, Description, Open, described}
use Rattle.pl_model.specs.Live.{is_live}
use Rattle.pl_model.specs.Settle.{settle}
use Rattle.pl_model.specs.Trial.{Flow, lost, gained, flowed}
use Rattle.pl_model.specs.Step.{Stepped, core_step, kept_at}
use Rattle.pl_model.specs.Numbered.{numbers, State, next_numbers, step_of, step}
use Rattle.pl_model.specs.OnNodes.{Keeps}
use Rattle.pl_model.specs.StandsFor.{IsUnusedNode}
use Rattle.pl_model.proofs.by_call.Keeps as all_keep
use Rattle.pl_model.proofs.by_call.Keeps.{Changes, end, end_of, kept_node, step-keeps}
use Rattle.pl_model.proofs.streams.Maps.{differ}

-- the description is on the node, if it is there
abbrev pub IsOn : {A : Type 0} → ℕ → Node numbers → Core A numbers → Type 0
IsOn d node s = IfSome (s.descriptions d) (λ x. x.node ≡ node)

on_kept : (node : Node numbers) (b : Bool) (o : Option (Description numbers)) → IfSome o (λ x. x.node ≡ node) → IfSome (kept_if b o) (λ x. x.node ≡ node)
on_kept node true o h = h
on_kept node false o h = tt

there_or : (d : ℕ) (node : Node numbers) (o : Option (Description numbers)) → IfSome (option_map (λ x. record { key = d; description = x }) o) (λ (y : Open numbers). y.description.node ≡ node) → IfSome o (λ x. x.node ≡ node)
there_or d node None h = h
there_or d node (Some x) h = h

back_or : (d : ℕ) (node : Node numbers) (o : Option (Description numbers)) → IfSome o (λ x. x.node ≡ node) → IfSome (option_map (λ x. record { key = d; description = x }) o) (λ (y : Open numbers). y.description.node ≡ node)
back_or d node None h = h
back_or d node (Some x) h = h

module _ {A : Type 0} (d : ℕ) (node : Node numbers) where
  on_other : (s : Core A numbers) (k : ℕ) (x : Description numbers) → k ≢ d → IsOn d node s → IfSome (cond (nat_eq k d) (Some x) (s.descriptions d)) (λ x. x.node ≡ node)
  on_other s k x n h = subst (λ b. IfSome (cond b (Some x) (s.descriptions d)) (λ x. x.node ≡ node)) (sym (differ k d n)) h

  on_set : (s : Core A numbers) (k : ℕ) (x : Description numbers) → end_of s k ≡ Some (end x) → IsOn d node s → IfSome (cond (nat_eq k d) (Some x) (s.descriptions d)) (λ x. x.node ≡ node)
  on_set s k x on h = at (nat_eq k d) refl
    where
      there : (o : Option (Description numbers)) → option_map end o ≡ Some (end x) → IfSome o (λ x. x.node ≡ node) → x.node ≡ node
      there None e h = absurd (cc)
      there (Some y) e h = (let same : end y ≡ end x = cc in sym (ap (λ e. e.0) same) ∙ h)

      at : (b : Bool) → nat_eq k d ≡ b → IfSome (cond b (Some x) (s.descriptions d)) (λ x. x.node ≡ node)
      at true e = there (s.descriptions d) (ap (end_of s) (sym (eqb-true k d e)) ∙ on) h
      at false e = h

  on_flowed : (s : Core A numbers) (flow : Flow numbers) → IsOn d node s → IsOn d node (flowed s flow)
  unfolding flowed
  on_flowed s flow h = into (lost s flow.out) flow.into (out flow.out)
    where
      into : (u : Core A numbers) (i : Option (ℕ × List ℕ)) → IsOn d node u → IsOn d node (gained u i)
      into u None h = h
      into u (Some i) h = h

      out : (o : Option (ℕ × ℕ)) → IsOn d node (lost s o)
      out None = h
      out (Some o) = h

  on_keeps : (new : NewKeys numbers) → new.description ≢ d → new.other_description ≢ d → all_keep.Keeps {A = A} new (IsOn d node)
  unfolding settle
  on_keeps new apart other =
      let changes : Changes new (IsOn d node) = record {
        one = eqb-true;
        install = λ s pid fd k h. h;
        close_row = λ s pid fd h. h;
        describe_other = λ s n mode flags h. on_other s new.other_description _ other h;
        describe = λ s n mode flags h. on_other s new.description _ apart h;
        set_description = λ s k x on h. on_set s k x on h;
        new_pipe = λ s direct h. h;
        set_capacity = λ s p size h. h;
        set_file = λ s f bytes h. h;
        create_file = λ s name h. h;
        meet = λ s p mode h. h;
        create_fifo = λ s name h. h;
        forget_name = λ s name h. h;
        fork = λ s pid child h. h;
        exit = λ s pid h. h;
      } in
      record {
        changes = changes;
        start = λ s pid h. h;
        flowed = λ s flow h. on_flowed s flow h;
        parked = λ s w h. h;
        parked_again = λ s c w h. h;
        without_call = λ s c h. h;
        settle = λ before s h. on_kept node (is_live s d) (s.descriptions d) h;
      }

  pub on_step : (s : State A) (x : Step A) → d ≢ s.next_description → d ≢ s.next_description + 1 → IsOn d node s.core → IsOn d node (step s x).state.core
  unfolding step
  on_step s x apart other h = at (core_step s.core x) (step-keeps (on_keeps (next_numbers s) (λ e. apart (sym e)) (λ e. other (sym e))) s.core x h)
    where
      at : (y : Drawing numbers (Stepped A numbers)) → IsOn d node (drawn (next_numbers s) y).state → IsOn d node (step_of s y).state.core
      at (Plain y) h = h
      at (Draws f) h = h

module _ {A : Type 0} where
  -- a description that a parked call keeps stays on its node
  pub keeps_step : (s : State A) (x : Step A) (kept : List ℕ) (place : ℕ) (node : Node numbers) → All (λ k. k ≢ s.next_description) kept → All (λ k. k ≢ s.next_description + 1) kept →
      Keeps s.core kept place node → Keeps (step s x).state.core kept place node
  keeps_step s x kept place node first second h = at (slice_get kept place) refl h
    where
      apart : (d n : ℕ) → slice_get kept place ≡ Some d → All (λ k. k ≢ n) kept → d ≢ n
      apart d n e all = subst (λ k. k ≢ n) (get_or_from_slice_get kept place d d e) (all place d (slice_get_within kept place d e))

      at : (o : Option ℕ) → slice_get kept place ≡ o → IfSome (option_and_then (described s.core) o) (λ y. y.description.node ≡ node) →
          IfSome (option_and_then (described (step s x).state.core) o) (λ y. y.description.node ≡ node)
      at None e h = h
      at (Some d) e h =
          back_or d node ((step s x).state.core.descriptions d)
          (on_step d node s x (apart d s.next_description e first) (apart d (s.next_description + 1) e second) (there_or d node (s.core.descriptions d) h))

  -- one that isn't there doesn't come back, as its number isn't given anew
  pub stays_none : (s : State A) (x : Step A) (kept : List ℕ) (place : ℕ) → All (λ k. k ≢ s.next_description) kept → All (λ k. k ≢ s.next_description + 1) kept →
      kept_at s.core kept place ≡ None → (y : Open numbers) → kept_at (step s x).state.core kept place ≡ Some y → ⊥
  stays_none s x kept place first second none y now =
      both y.description.node (there (PipeNode 0)) (there (PipeNode 1))
    where
      there : (node : Node numbers) → y.description.node ≡ node
      there node = subst (λ o. IfSome o (λ z. z.description.node ≡ node)) now (keeps_step s x kept place node first second (subst (λ o. IfSome o (λ z. z.description.node ≡ node)) (sym none) tt))

      both : (n : Node numbers) → n ≡ PipeNode 0 → n ≡ PipeNode 1 → ⊥
      both n a b = absurd (cc)

  -- one that is on a node is on no unused one
  pub given_node : (s : State A) (kept : List ℕ) (place : ℕ) (o : Open numbers) (node : Node numbers) → kept_at s.core kept place ≡ Some o → o.description.node ≡ node → IsUnusedNode s.core node → ⊥
  given_node s kept place o node here on unused =
      let was = kept_node s.core kept place o here in
      at (s.core.descriptions o.key) was (unused.descriptions o.key)
    where
      at : (x : Option (Description numbers)) → option_map (λ x. x.node) x ≡ Some o.description.node → IfSome x (λ x. x.node ≢ node) → ⊥
      at None e h = absurd (cc)
      at (Some x) e h = h (let same : x.node ≡ o.description.node = cc in same ∙ on)
