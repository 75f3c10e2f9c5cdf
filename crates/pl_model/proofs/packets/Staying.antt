-- All packet pipes stay cut into packets.
use Rattle.std.proofs.lemmas.Bool.{eqb-true}
use Rattle.std.proofs.Common.{ℕ, ◌+◌, ◌-◌, Bool, true, false, cond, Option, List, [], ◌∷◌, ◌++◌, IfSome, nat_eq, unwrap_or, option_map, length, drop, ap, ◌∙◌, sym, sum, length-drop, length-append, refl}
use Rattle.std.proofs.lemmas.List.Elements.{All-append, All-nil}
use Rattle.std.specs.declared.option.Option.TheVariants.{None, Some}
use Rattle.pl_model.specs.declared.calls.Step.{Step}
use Rattle.pl_model.specs.Keys.{NewKeys, Drawing, Plain, Draws, PipeNode, drawn}
use Rattle.pl_model.specs.Map.{kept_if}
use Rattle.pl_model.specs.State.{Core, Pipe, empty_pipe, empty_packet_pipe, pipe_made, set_pipe}
use Rattle.pl_model.specs.Packets.{piece_lengths, without_front, lose, gain}
use Rattle.pl_model.specs.Live.{is_open}
use Rattle.pl_model.specs.Settle.{settle, settled_pipe, is_kept}
use Rattle.pl_model.specs.Trial.{Flow, pipe_at, lost, gained, flowed}
use Rattle.pl_model.specs.Capacity.{rounded_capacity}
use Rattle.pl_model.specs.Step.{Stepped, core_step}
use Rattle.pl_model.specs.Numbered.{numbers, State, next_numbers, step_of, step}
use Rattle.pl_model.specs.Run.{after}
use Rattle.pl_model.specs.PacketLaw.{IsPacketLength, Cuts, AreCut, HaveCuts}
use Rattle.pl_model.proofs.packets.Lengths.{sum-append, piece_lengths-sum, piece_lengths-within, without_front-sum, without_front-within}
use Rattle.pl_model.proofs.by_call.Keeps as all_keep
use Rattle.pl_model.proofs.by_call.Keeps.{Changes, step-keeps}

-- what a pipe loses, be it a part of a packet or more than all of them
pub cut-lost : (n : ℕ) (pipe : Pipe) → AreCut pipe → AreCut (lose n pipe)
cut-lost n pipe h = at pipe.packets h where
  at : (o : Option (List ℕ)) → IfSome o (λ lengths. Cuts lengths (length pipe.bytes)) → IfSome (option_map (without_front n) o) (λ lengths. Cuts lengths (length (drop n pipe.bytes)))
  at None c = tt
  at (Some ls) c = record { each = without_front-within n ls c.each; whole = without_front-sum n ls ∙ ap (λ k. k - n) c.whole ∙ sym (length-drop n pipe.bytes) }

pub cut-gained : (bytes : List ℕ) (pipe : Pipe) → AreCut pipe → AreCut (gain bytes pipe)
cut-gained bytes pipe h = at pipe.packets h where
  at : (o : Option (List ℕ)) → IfSome o (λ lengths. Cuts lengths (length pipe.bytes)) →
      IfSome (option_map (λ lengths. lengths ++ piece_lengths (length bytes)) o) (λ lengths. Cuts lengths (length (pipe.bytes ++ bytes)))
  at None c = tt
  at (Some ls) c =
      record {
        each = All-append IsPacketLength ls (piece_lengths (length bytes)) c.each (piece_lengths-within (length bytes));
        whole = sum-append ls (piece_lengths (length bytes)) ∙ ap (λ k. k + sum (piece_lengths (length bytes))) c.whole
            ∙ ap (λ k. length pipe.bytes + k) (piece_lengths-sum (length bytes)) ∙ sym (length-append pipe.bytes bytes);
      }

-- a new packet pipe is cut into no packets
pub empty-cut : AreCut empty_packet_pipe
empty-cut = record { each = All-nil IsPacketLength; whole = refl }

-- so is any new pipe
made-cut : (direct : Bool) → AreCut (pipe_made direct)
made-cut true = empty-cut
made-cut false = tt

module _ {A : Type 0} where
  pub put_cut : (s : Core A numbers) (p : ℕ) (x : Pipe) → AreCut x → HaveCuts s → HaveCuts (set_pipe s p x)
  put_cut s p x is h q = at (nat_eq p q) where
    at : (b : Bool) → IfSome (cond b (Some x) (s.pipes q)) AreCut
    at true = is
    at false = h q

  cut_at : (s : Core A numbers) (p : ℕ) → HaveCuts s → AreCut (pipe_at s p)
  cut_at s p h = at (s.pipes p) (h p) where
    at : (o : Option Pipe) → IfSome o AreCut → AreCut (unwrap_or o empty_pipe)
    at None h = tt
    at (Some x) h = h

  cuts_flowed : (s : Core A numbers) (flow : Flow numbers) → HaveCuts s → HaveCuts (flowed s flow)
  unfolding flowed
  cuts_flowed s flow h = into (lost s flow.out) flow.into (out flow.out) where
    into : (u : Core A numbers) (i : Option (ℕ × List ℕ)) → HaveCuts u → HaveCuts (gained u i)
    into u None h = h
    into u (Some i) h = put_cut u i.0 (gain i.1 (pipe_at u i.0)) (cut-gained i.1 (pipe_at u i.0) (cut_at u i.0 h)) h

    out : (o : Option (ℕ × ℕ)) → HaveCuts (lost s o)
    out None = h
    out (Some o) = put_cut s o.0 (lose o.1 (pipe_at s o.0)) (cut-lost o.1 (pipe_at s o.0) (cut_at s o.0 h)) h

  cuts_settled : (before s : Core A numbers) → HaveCuts s → HaveCuts (settle before s)
  unfolding settle
  cuts_settled before s h p = at (is_kept s (PipeNode p)) (s.pipes p) (h p) where
    ended : (b : Bool) (x : Pipe) (hung : Bool) → AreCut x → AreCut (cond b (record x { hung = hung }) empty_pipe)
    ended true x hung h = h
    ended false x hung h = tt

    at : (b : Bool) (o : Option Pipe) → IfSome o AreCut → IfSome (option_map (settled_pipe before s p) (kept_if b o)) AreCut
    at true None h = tt
    at true (Some x) h = ended (is_open s (PipeNode p)) x _ h
    at false o h = tt

  cuts_kept : (new : NewKeys numbers) → all_keep.Keeps {A = A} new HaveCuts
  cuts_kept new =
      let changes : Changes new HaveCuts = record {
        one = eqb-true;
        install = λ s pid fd k h. h;
        close_row = λ s pid fd h. h;
        describe_other = λ s n mode flags h. h;
        describe = λ s n mode flags h. h;
        set_description = λ s k x on h. h;
        new_pipe = λ s direct h. put_cut s new.pipe (pipe_made direct) (made-cut direct) h;
        set_capacity = λ s p size h. put_cut s p (record (pipe_at s p) { capacity = rounded_capacity size }) (cut_at s p h) h;
        set_file = λ s f bytes h. h;
        create_file = λ s name h. h;
        meet = λ s p mode h. h;
        create_fifo = λ s name h. put_cut s new.pipe empty_pipe tt h;
        forget_name = λ s name h. h;
        fork = λ s pid child h. h;
        exit = λ s pid h. h;
      } in
      record {
        changes = changes;
        start = λ s pid h. h;
        flowed = cuts_flowed;
        parked = λ s w h. h;
        parked_again = λ s c w h. h;
        without_call = λ s c h. h;
        settle = cuts_settled;
      }

  pub step-cuts : (s : State A) (x : Step A) → HaveCuts s.core → HaveCuts (step s x).state.core
  unfolding step
  step-cuts s x h = at (core_step s.core x) (step-keeps (cuts_kept (next_numbers s)) s.core x h) where
    at : (y : Drawing numbers (Stepped A numbers)) → HaveCuts (drawn (next_numbers s) y).state → HaveCuts (step_of s y).state.core
    at (Plain y) h = h
    at (Draws f) h = h

  pub run-cuts : (s : State A) (xs : List (Step A × Bool)) → HaveCuts s.core → HaveCuts (after s xs).core
  run-cuts s [] h = h
  run-cuts s ((x, true) ∷ xs) h = run-cuts s xs h
  run-cuts s ((x, false) ∷ xs) h = run-cuts (step s x).state xs (step-cuts s x h)
