-- The capacities of all pipes stay capacities that a pipe may have.
use Rattle.std.proofs.lemmas.Bool.{eqb-true}
use Rattle.std.proofs.Common.{ℕ, Bool, true, false, cond, Option, List, [], ◌∷◌, IfSome, nat_eq, unwrap_or, option_map}
use Rattle.std.specs.declared.option.Option.TheVariants.{None, Some}
use Rattle.pl_model.specs.declared.calls.Step.{Step}
use Rattle.pl_model.specs.Keys.{NewKeys, Drawing, Plain, Draws, PipeNode, drawn}
use Rattle.pl_model.specs.Map.{kept_if}
use Rattle.pl_model.specs.State.{Core, Pipe, empty_pipe, pipe_made, set_pipe}
use Rattle.pl_model.specs.Live.{is_open}
use Rattle.pl_model.specs.Settle.{settle, settled_pipe, is_kept}
use Rattle.pl_model.specs.Trial.{Flow, pipe_at, lost, gained, flowed}
use Rattle.pl_model.specs.Step.{Stepped, core_step}
use Rattle.pl_model.specs.Numbered.{numbers, State, next_numbers, step_of, step}
use Rattle.pl_model.specs.Run.{after}
use Rattle.pl_model.specs.Capacity.{IsPipeCapacity}
use Rattle.pl_model.specs.Capacities.{HaveCapacities}
use Rattle.pl_model.proofs.capacities.Rounding.{rounded-capacity, first-capacity}
use Rattle.pl_model.proofs.by_call.Keeps as all_keep
use Rattle.pl_model.proofs.by_call.Keeps.{Changes, step-keeps}

module _ {A : Type 0} where
  put_capacity : (s : Core A numbers) (p : ℕ) (x : Pipe) → IsPipeCapacity x.capacity → HaveCapacities s → HaveCapacities (set_pipe s p x)
  put_capacity s p x is h q = at (nat_eq p q) where
    at : (b : Bool) → IfSome (cond b (Some x) (s.pipes q)) (λ x. IsPipeCapacity x.capacity)
    at true = is
    at false = h q

  capacity_at : (s : Core A numbers) (p : ℕ) → HaveCapacities s → IsPipeCapacity (pipe_at s p).capacity
  capacity_at s p h = at (s.pipes p) (h p) where
    at : (o : Option Pipe) → IfSome o (λ x. IsPipeCapacity x.capacity) → IsPipeCapacity (unwrap_or o empty_pipe).capacity
    at None h = first-capacity
    at (Some x) h = h

  capacities_flowed : (s : Core A numbers) (flow : Flow numbers) → HaveCapacities s → HaveCapacities (flowed s flow)
  unfolding flowed
  capacities_flowed s flow h = into (lost s flow.out) flow.into (out flow.out) where
    into : (u : Core A numbers) (i : Option (ℕ × List ℕ)) → HaveCapacities u → HaveCapacities (gained u i)
    into u None h = h
    into u (Some i) h = put_capacity u i.0 _ (capacity_at u i.0 h) h

    out : (o : Option (ℕ × ℕ)) → HaveCapacities (lost s o)
    out None = h
    out (Some o) = put_capacity s o.0 _ (capacity_at s o.0 h) h

  capacities_settled : (before s : Core A numbers) → HaveCapacities s → HaveCapacities (settle before s)
  unfolding settle
  capacities_settled before s h p = at (is_kept s (PipeNode p)) (s.pipes p) (h p) where
    ended : (b : Bool) (x : Pipe) (hung : Bool) → IsPipeCapacity x.capacity → IsPipeCapacity (cond b (record x { hung = hung }) empty_pipe).capacity
    ended true x hung h = h
    ended false x hung h = first-capacity

    at : (b : Bool) (o : Option Pipe) → IfSome o (λ x. IsPipeCapacity x.capacity) → IfSome (option_map (settled_pipe before s p) (kept_if b o)) (λ x. IsPipeCapacity x.capacity)
    at true None h = tt
    at true (Some x) h = ended (is_open s (PipeNode p)) x _ h
    at false o h = tt

  capacities_kept : (new : NewKeys numbers) → all_keep.Keeps {A = A} new HaveCapacities
  capacities_kept new =
      let changes : Changes new HaveCapacities = record {
        one = eqb-true;
        install = λ s pid fd k h. h;
        close_row = λ s pid fd h. h;
        describe_other = λ s n mode flags h. h;
        describe = λ s n mode flags h. h;
        set_description = λ s k x on h. h;
        new_pipe = λ s direct h. put_capacity s new.pipe (pipe_made direct) first-capacity h;
        set_capacity = λ s p size h. put_capacity s p _ (rounded-capacity size) h;
        set_file = λ s f bytes h. h;
        create_file = λ s name h. h;
        meet = λ s p mode h. h;
        create_fifo = λ s name h. put_capacity s new.pipe empty_pipe first-capacity h;
        forget_name = λ s name h. h;
        fork = λ s pid child h. h;
        exit = λ s pid h. h;
      } in
      record {
        changes = changes;
        start = λ s pid h. h;
        flowed = capacities_flowed;
        parked = λ s w h. h;
        parked_again = λ s c w h. h;
        without_call = λ s c h. h;
        settle = capacities_settled;
      }

  pub step-capacities : (s : State A) (x : Step A) → HaveCapacities s.core → HaveCapacities (step s x).state.core
  unfolding step
  step-capacities s x h = at (core_step s.core x) (step-keeps (capacities_kept (next_numbers s)) s.core x h) where
    at : (y : Drawing numbers (Stepped A numbers)) → HaveCapacities (drawn (next_numbers s) y).state → HaveCapacities (step_of s y).state.core
    at (Plain y) h = h
    at (Draws f) h = h

  pub run-capacities : (s : State A) (xs : List (Step A × Bool)) → HaveCapacities s.core → HaveCapacities (after s xs).core
  run-capacities s [] h = h
  run-capacities s ((x, true) ∷ xs) h = run-capacities s xs h
  run-capacities s ((x, false) ∷ xs) h = run-capacities (step s x).state xs (step-capacities s x h)
