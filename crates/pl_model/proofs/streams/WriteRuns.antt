-- Writes over a run.
use Rattle.std.proofs.Common.{◌≡◌, ℕ, ℤ, ◌+◌, ◌-◌, ◌≤◌, Bool, true, false, cond, List, ◌++◌, length, refl, sym, ◌∙◌, ap, subst, nat_eq, take, drop, arith}
use Rattle.std.specs.Prelude.{nat_lt, slice_range}
use Rattle.std.specs.declared.option.Option.TheVariants.{Some}
use Rattle.std.specs.List.{concat}
use Rattle.std.proofs.lemmas.List.{drop-drop}
use Rattle.std.proofs.lemmas.List.Folds.{concat-append}
use Rattle.std.proofs.Math.Seq.{take-add}
use Rattle.pl_model.specs.declared.calls.Call.{Call}
use Rattle.pl_model.specs.declared.calls.Step.{Step}
use Rattle.pl_model.specs.declared.replies.Reply.TheVariants.{Fault}
use Rattle.pl_model.specs.declared.replies.Errno.TheVariants.{EINTR}
use Rattle.pl_model.specs.Numbers.{pipe_buf}
use Rattle.pl_model.specs.Map.{get}
use Rattle.pl_model.specs.Keys.{PipeNode}
use Rattle.pl_model.specs.State.{Core, Waiting}
use Rattle.pl_model.specs.Trial.{Trial, Done, Wait}
use Rattle.pl_model.specs.Transfer.{count}
use Rattle.pl_model.specs.Step.{try}
use Rattle.pl_model.specs.Numbered.{numbers, State}
use Rattle.pl_model.specs.StandsFor.{IsBelowCounters}
use Rattle.pl_model.specs.Stream.{into_pipe}
use Rattle.pl_model.specs.Chunks.{OfCall, unless_empty, of, piece_added, pieces_from}
use Rattle.pl_model.specs.Fates.{Fate, Interrupted, Dropped, Waits, fate, taken_with}
use Rattle.pl_model.specs.InOrder.{AreInOrder, HasTaken}
use Rattle.pl_model.specs.OnNodes.{Keeps}
use Rattle.pl_model.specs.StreamLaw.{Adds}
use Rattle.pl_model.proofs.streams.Writes.{WriteTry, write_try, adds_no, join_unless_empty, no_slice}
use Rattle.pl_model.proofs.streams.Nodes.{keeps_step}
use Rattle.pl_model.proofs.streams.CallRuns.{Course, TrySays, course_run, interrupt_reply}

pub join_slices : (bytes : List ℕ) (a b c : ℕ) → a ≤ b → b ≤ c → slice_range bytes a b ++ slice_range bytes b c ≡ slice_range bytes a c
join_slices bytes a b c h k =
    ap (λ xs. take (b - a) (drop a bytes) ++ take (c - b) xs) (sym (drop-drop (b - a) a bytes ∙ ap (λ n. drop n bytes) up))
    ∙ (sym (take-add (b - a) (c - b) (drop a bytes))
    ∙ ap (λ n. take n (drop a bytes)) sum)
  where
    up : a + (b - a) ≡ b
    up = omega (arith, h)

    sum : (b - a) + (c - b) ≡ c - a
    sum = omega (arith, h, k)

module _ {A : Type 0} where
  -- a slice first, and then what the rest adds
  pub adds_more : (may_wait : Bool) (bytes : List ℕ) (t to : ℕ) (into : List ℕ) (ins : List (List ℕ)) (end : Fate A) → (length bytes ≤ pipe_buf → t ≡ 0) →
      (into ≡ slice_range bytes t to) × (t ≤ to) × (to ≤ length bytes) × (length bytes ≤ pipe_buf → to ≡ 0) →
      Adds true bytes to ins end → Adds may_wait bytes t (unless_empty into ++ ins) end
  adds_more may_wait bytes t to into ins end small says rest =
      record {
        stream =
            concat-append (unless_empty into) ins
            ∙ (ap (λ b. b ++ concat ins) (join_unless_empty into ∙ says.0)
            ∙ (ap (λ b. slice_range bytes t to ++ b) rest.stream
            ∙ join_slices bytes t to end.taken says.1 rest.from));
        from = omega (arith, says.1, rest.from);
        within = rest.within;
        whole = λ h s. ap (λ b. unless_empty b ++ ins) (says.0 ∙ (ap (λ n. slice_range bytes n to) (small s) ∙ (ap (λ n. slice_range bytes 0 n) (says.3 s) ∙ no_slice bytes 0))) ∙ rest.whole h s;
        all = λ n may e. rest.all n refl e;
      }

module _ {A : Type 0} (p q : ℕ) (fd : ℤ) (bytes : List ℕ) where
  -- a parked write of these bytes, on the pipe q
  abbrev pub IsWrite : Core A numbers → Waiting A numbers → Type 0
  IsWrite s w = (w.call ≡ Call.Write fd bytes) × HasTaken {A = A} (Call.Write fd bytes) w.taken × Keeps s w.kept 0 (PipeNode q)

  abbrev pub WriteSays : Waiting A numbers → List (List ℕ) → List (List ℕ) → Fate A → Type 0
  WriteSays w ins outs end = Adds true bytes w.taken ins end

  tried_write : (s : Core A numbers) (w : Waiting A numbers) (t : Trial A numbers) → IsWrite s w → WriteTry true bytes w.taken q t → TrySays p q IsWrite WriteSays s w t
  tried_write s w (Done u flow reply) is says = says
  tried_write s w (Wait u flow to) is says =
      ((is.0, (says.2, says.3), is.2), (λ ins outs end rest. adds_more true bytes w.taken to (into_pipe numbers flow.into q) ins end is.1.1 says rest))

  reply_taken : (w : Waiting A numbers) (b : Bool) → taken_with {A = A} w.taken (cond b (count w.taken) (Fault EINTR)) ≡ w.taken
  reply_taken w true = refl
  reply_taken w false = refl

  pub write_course : Course p q IsWrite WriteSays
  write_course =
      record {
        stays = λ s x w below first second is. (is.0, is.1, keeps_step s x w.kept 0 (PipeNode q) first second is.2);
        met = λ s w met is. is;
        says_met = λ w met ins outs end says. says;
        waits = λ s w is. adds_no true bytes w.taken w.taken Waits is.1.0 refl refl (λ n e. cc);
        drops = λ s w is. adds_no true bytes w.taken w.taken Dropped is.1.0 refl refl (λ n e. cc);
        interrupted = λ s w is. adds_no true bytes w.taken _ (Interrupted (interrupt_reply w)) is.1.0 (reply_taken w (nat_lt 0 w.taken)) refl (λ n e. cc);
        tries = λ s w is.
            tried_write s w (try s w w.call true) is
            (subst (λ z. WriteTry true bytes w.taken q (try s w z true)) (sym is.0) (write_try s w fd bytes true q is.1 (λ e. absurd (cc)) is.2));
      }

  pub write_run : (place : ℕ) (s : State A) (xs : List (Step A × Bool)) (c : ℕ) (w : Waiting A numbers) → IsBelowCounters s → AreInOrder s.core → get nat_eq s.core.parked c ≡ Some w → IsWrite s.core w →
      Adds true bytes w.taken (of (OfCall c) (pieces_from (piece_added q) place s xs)) (fate s xs c)
  write_run place s xs c w below order here is = course_run p q IsWrite WriteSays write_course place s xs c w below order here is
