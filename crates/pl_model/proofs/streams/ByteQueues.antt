-- A byte queue stays one.
use Rattle.std.proofs.Common.{◌≡◌, ◌≢◌, ℕ, Bool, true, false, cond, Option, List, nat_eq, refl, sym, subst, unwrap_or, option_map}
use Rattle.std.specs.Prelude.{is_none}
use Rattle.std.proofs.lemmas.Bool.{eqb-true}
use Rattle.std.specs.declared.option.Option.TheVariants.{None, Some}
use Rattle.pl_model.specs.declared.calls.Step.{Step}
use Rattle.pl_model.specs.Keys.{NewKeys, Drawing, Plain, Draws, PipeNode, drawn}
use Rattle.pl_model.specs.Map.{kept_if}
use Rattle.pl_model.specs.State.{Core, Pipe, empty_pipe, pipe_made, set_pipe}
use Rattle.pl_model.specs.Packets.{is_byte_queue, lose, gain}
use Rattle.pl_model.specs.Live.{is_open}
use Rattle.pl_model.specs.Settle.{settle, settled_pipe, is_kept}
use Rattle.pl_model.specs.Trial.{Flow, pipe_at, lost, gained, flowed}
use Rattle.pl_model.specs.Capacity.{rounded_capacity}
use Rattle.pl_model.specs.Step.{Stepped, core_step}
use Rattle.pl_model.specs.Numbered.{numbers, State, next_numbers, step_of, step}
use Rattle.pl_model.proofs.streams.Maps.{differ}
use Rattle.pl_model.proofs.by_call.Keeps as all_keep
use Rattle.pl_model.proofs.by_call.Keeps.{Changes, step-keeps}

same_kind : (f : List ℕ → List ℕ) (o : Option (List ℕ)) → is_none o ≡ true → is_none (option_map f o) ≡ true
same_kind f None h = refl
same_kind f (Some ls) h = h

module _ {A : Type 0} (p : ℕ) where
  -- the pipe is a byte queue, if it is there
  abbrev IsBytes : Core A numbers → Type 0
  IsBytes s = is_byte_queue (pipe_at s p) ≡ true

  put : (s : Core A numbers) (k : ℕ) (x : Pipe) → (is_byte_queue (pipe_at s k) ≡ true → is_byte_queue x ≡ true) → IsBytes s → IsBytes (set_pipe s k x)
  put s k x same h = at (nat_eq k p) refl where
    at : (b : Bool) → nat_eq k p ≡ b → is_byte_queue (unwrap_or (cond b (Some x) (s.pipes p)) empty_pipe) ≡ true
    at true e = same (subst (λ q. is_byte_queue (pipe_at s q) ≡ true) (sym (eqb-true k p e)) h)
    at false e = h

  put_other : (s : Core A numbers) (k : ℕ) (x : Pipe) → k ≢ p → IsBytes s → IsBytes (set_pipe s k x)
  put_other s k x apart h = subst (λ b. is_byte_queue (unwrap_or (cond b (Some x) (s.pipes p)) empty_pipe) ≡ true) (sym (differ k p apart)) h

  bytes_flowed : (s : Core A numbers) (flow : Flow numbers) → IsBytes s → IsBytes (flowed s flow)
  unfolding flowed
  bytes_flowed s flow h = into (lost s flow.out) flow.into (out flow.out) where
    into : (u : Core A numbers) (i : Option (ℕ × List ℕ)) → IsBytes u → IsBytes (gained u i)
    into u None h = h
    into u (Some i) h = put u i.0 (gain i.1 (pipe_at u i.0)) (same_kind _ (pipe_at u i.0).packets) h

    out : (o : Option (ℕ × ℕ)) → IsBytes (lost s o)
    out None = h
    out (Some o) = put s o.0 (lose o.1 (pipe_at s o.0)) (same_kind _ (pipe_at s o.0).packets) h

  bytes_settled : (before s : Core A numbers) → IsBytes s → IsBytes (settle before s)
  unfolding settle
  bytes_settled before s h = at (is_kept s (PipeNode p)) (s.pipes p) h where
    ended : (b : Bool) (x : Pipe) (hung : Bool) → is_byte_queue x ≡ true → is_byte_queue (cond b (record x { hung = hung }) empty_pipe) ≡ true
    ended true x hung h = h
    ended false x hung h = refl

    at : (b : Bool) (o : Option Pipe) → is_byte_queue (unwrap_or o empty_pipe) ≡ true → is_byte_queue (unwrap_or (option_map (settled_pipe before s p) (kept_if b o)) empty_pipe) ≡ true
    at true None h = refl
    at true (Some x) h = ended (is_open s (PipeNode p)) x _ h
    at false o h = refl

  bytes_kept : (new : NewKeys numbers) → new.pipe ≢ p → all_keep.Keeps {A = A} new IsBytes
  bytes_kept new apart =
      let changes : Changes new IsBytes = record {
        one = eqb-true;
        install = λ s pid fd k h. h;
        close_row = λ s pid fd h. h;
        describe_other = λ s n mode flags h. h;
        describe = λ s n mode flags h. h;
        set_description = λ s k x on h. h;
        new_pipe = λ s direct h. put_other s new.pipe (pipe_made direct) apart h;
        set_capacity = λ s k size h. put s k (record (pipe_at s k) { capacity = rounded_capacity size }) (λ e. e) h;
        set_file = λ s f bytes h. h;
        create_file = λ s name h. h;
        meet = λ s p mode h. h;
        create_fifo = λ s name h. put s new.pipe empty_pipe (λ k. refl) h;
        forget_name = λ s name h. h;
        fork = λ s pid child h. h;
        exit = λ s pid h. h;
      } in
      record {
        changes = changes;
        start = λ s pid h. h;
        flowed = bytes_flowed;
        parked = λ s w h. h;
        parked_again = λ s c w h. h;
        without_call = λ s c h. h;
        settle = bytes_settled;
      }

  -- through a step
  pub bytes_step : (s : State A) (x : Step A) → p ≢ s.next_pipe → is_byte_queue (pipe_at s.core p) ≡ true → is_byte_queue (pipe_at (step s x).state.core p) ≡ true
  unfolding step
  bytes_step s x apart h = at (core_step s.core x) (step-keeps (bytes_kept (next_numbers s) (λ e. apart (sym e))) s.core x h) where
    at : (y : Drawing numbers (Stepped A numbers)) → IsBytes (drawn (next_numbers s) y).state → IsBytes (step_of s y).state.core
    at (Plain y) h = h
    at (Draws f) h = h
