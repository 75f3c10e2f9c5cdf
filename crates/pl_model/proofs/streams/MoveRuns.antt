-- Splices and tees over a run.
use Rattle.std.proofs.Common.{◌≡◌, ◌≢◌, ℕ, ℤ, Bool, true, false, cond, Option, List, [], ◌++◌, length, refl, sym, ◌∙◌, ap, subst, nat_eq, take}
use Rattle.std.specs.Prelude.{IfSome, ◌||◌}
use Rattle.std.specs.declared.option.Option.TheVariants.{None, Some}
use Rattle.std.proofs.lemmas.List.{length-take, take_min}
use Rattle.std.proofs.lemmas.Bool.{eq-eqb}
use Rattle.pl_model.specs.declared.replies.Reply.TheVariants.{Fault}
use Rattle.pl_model.specs.declared.replies.Errno.TheVariants.{EINVAL}
use Rattle.pl_model.specs.declared.calls.Call.{Call}
use Rattle.pl_model.specs.declared.calls.Step.{Step}
use Rattle.pl_model.specs.declared.cases.MoveCase.{MoveCase}
use Rattle.pl_model.specs.declared.flags.SpliceFlags.{SpliceFlags}
use Rattle.pl_model.specs.Map.{get}
use Rattle.pl_model.specs.Keys.{Node, PipeNode, FileNode}
use Rattle.pl_model.specs.State.{Core, Open, Waiting}
use Rattle.pl_model.specs.Trial.{Trial, Done, Wait, Flow, still}
use Rattle.pl_model.specs.Splice.{Side, side, bytes_from, enters, leaves, is_packet_pipe, move_case, move_row, source_of, target_of, try_move}
use Rattle.pl_model.specs.Step.{try, with_kept, with_both, kept_at}
use Rattle.pl_model.specs.Numbered.{numbers, State}
use Rattle.pl_model.specs.StandsFor.{IsBelowCounters}
use Rattle.pl_model.specs.Stream.{held, into_pipe, out_of_pipe}
use Rattle.pl_model.specs.Chunks.{OfCall, unless_empty, of, piece_added, pieces_left, pieces_from}
use Rattle.pl_model.specs.Fates.{Fate, Ending, Answered, Interrupted, Dropped, Waits, fate}
use Rattle.pl_model.specs.InOrder.{AreInOrder}
use Rattle.pl_model.specs.OnNodes.{KeepsBoth}
use Rattle.pl_model.specs.Carried.{counted, Carries}
use Rattle.pl_model.proofs.streams.Maps.{differ}
use Rattle.pl_model.proofs.streams.Nodes.{keeps_step}
use Rattle.pl_model.proofs.streams.CallRuns.{Course, TrySays, course_run, interrupt_reply}

take_taken : (k : ℕ) (bytes : List ℕ) → take (length (take k bytes)) bytes ≡ take k bytes
take_taken k bytes = ap (λ n. take n bytes) (length-take k bytes) ∙ take_min k bytes

-- the bytes that enter a node
enters_pipe : (q : ℕ) (node : Node numbers) (bytes : List ℕ) → node ≡ PipeNode q → into_pipe numbers (enters node bytes) q ≡ bytes
enters_pipe q (PipeNode z) bytes e = (let same : z ≡ q = cc in ap (λ b. cond b bytes []) (eq-eqb z q same))
enters_pipe q (FileNode f) bytes e = absurd (cc)

enters_other : (q : ℕ) (node : Node numbers) (bytes : List ℕ) → node ≢ PipeNode q → into_pipe numbers (enters node bytes) q ≡ []
enters_other q (PipeNode z) bytes ne = ap (λ b. cond b bytes []) (differ z q (λ e. ne (ap PipeNode e)))
enters_other q (FileNode f) bytes ne = refl

leaves_other : (p : ℕ) (is_tee : Bool) (node : Node numbers) (k : ℕ) (held : List ℕ) → node ≢ PipeNode p → out_of_pipe numbers held (leaves is_tee node k) p ≡ []
leaves_other p true node k held ne = refl
leaves_other p false (PipeNode z) k held ne = ap (λ b. cond b (take k held) []) (differ z p (λ e. ne (ap PipeNode e)))
leaves_other p false (FileNode f) k held ne = refl

module _ {A : Type 0} where
  -- the first bytes of a pipe are those that it gives
  first_bytes : (p : ℕ) (s : Core A numbers) (x : Side numbers) (node : Node numbers) (k : ℕ) → node ≡ PipeNode p →
      take k (bytes_from s x node) ≡ take (length (take k (bytes_from s x node))) (held s p)
  first_bytes p s x (PipeNode z) k e =
      let same : z ≡ p = cc in
      sym (take_taken k (held s z)) ∙ ap (λ y. take (length (take k (held s z))) (held s y)) same
  first_bytes p s x (FileNode f) k e = absurd (cc)

  leaves_pipe : (p : ℕ) (is_tee : Bool) (s : Core A numbers) (x : Side numbers) (node : Node numbers) (k : ℕ) → node ≡ PipeNode p →
      out_of_pipe numbers (held s p) (leaves is_tee node (length (take k (bytes_from s x node)))) p ≡ cond is_tee [] (take k (bytes_from s x node))
  leaves_pipe p true s x node k e = refl
  leaves_pipe p false s x (PipeNode z) k e =
      let same : z ≡ p = cc in
      ap (λ b. cond b (take (length (take k (held s z))) (held s p)) []) (eq-eqb z p same) ∙ sym (first_bytes p s x (PipeNode z) k e)
  leaves_pipe p false s x (FileNode f) k e = absurd (cc)

either : {X : Type 0} (b : Bool) (x : X) → x ≡ cond b x x
either true x = refl
either false x = refl

unless_either : (b : Bool) (bytes : List ℕ) → unless_empty (cond b [] bytes) ≡ cond b [] (unless_empty bytes)
unless_either true bytes = refl
unless_either false bytes = refl

module _ {A : Type 0} (p q : ℕ) (is_tee : Bool) (from to : Node numbers) where
  -- what one try of a splice or a tee moves, where so many bytes are counted
  pub record Moves (s : Core A numbers) (flow : Flow numbers) (n : ℕ) : Type 0 where
    pub bytes : List ℕ
    pub counts : length bytes ≡ n
    pub chunk : to ≡ PipeNode q → into_pipe numbers flow.into q ≡ bytes
    pub no_chunk : to ≢ PipeNode q → into_pipe numbers flow.into q ≡ []
    pub out : from ≡ PipeNode p → out_of_pipe numbers (held s p) flow.out p ≡ cond is_tee [] bytes
    pub no_out : from ≢ PipeNode p → out_of_pipe numbers (held s p) flow.out p ≡ []
    pub first : from ≡ PipeNode p → bytes ≡ take n (held s p)

  abbrev pub MoveTry : Core A numbers → Trial A numbers → Type 0
  MoveTry s (Done u flow reply) = Moves s flow (counted (Answered reply))
  MoveTry s (Wait u flow t) = flow ≡ still

  moves_none : (s : Core A numbers) → Moves s still 0
  moves_none s = record { bytes = []; counts = refl; chunk = λ e. refl; no_chunk = λ e. refl; out = λ e. either is_tee []; no_out = λ e. refl; first = λ e. refl }

  moves_some : (s : Core A numbers) (x : Side numbers) (a b : Node numbers) (k : ℕ) → a ≡ from → b ≡ to →
      Moves s (record { out = leaves is_tee a (length (take k (bytes_from s x a))); into = enters b (take k (bytes_from s x a)) }) (length (take k (bytes_from s x a)))
  moves_some s x a b k is_from is_to =
      let bytes = take k (bytes_from s x a) in
      record {
        bytes = bytes;
        counts = refl;
        chunk = λ e. enters_pipe q b bytes (is_to ∙ e);
        no_chunk = λ ne. enters_other q b bytes (λ e. ne (sym is_to ∙ e));
        out = λ e. leaves_pipe p is_tee s x a k (is_from ∙ e);
        no_out = λ ne. leaves_other p is_tee a (length bytes) (held s p) (λ e. ne (sym is_from ∙ e));
        first = λ e. first_bytes p s x a k (is_from ∙ e);
      }

  row_moves : (s : Core A numbers) (x y : Side numbers) (row : MoveCase) → x.description.node ≡ from → y.description.node ≡ to → MoveTry s (move_row s x y is_tee row)
  row_moves s x y MoveCase.Broken a b = moves_none s
  row_moves s x y MoveCase.EndOfInput a b = moves_none s
  row_moves s x y MoveCase.Waits a b = refl
  row_moves s x y MoveCase.TooBig a b = moves_none s
  row_moves s x y (MoveCase.Moves k) a b = moves_some s x x.description.node y.description.node k a b

  move_moves : (s : Core A numbers) (x y : Side numbers) (len : ℕ) → x.description.node ≡ from → y.description.node ≡ to → MoveTry s (try_move s x y len is_tee)
  unfolding try_move
  move_moves s x y len a b = at (is_packet_pipe s x.description.node || is_packet_pipe s y.description.node)
    where
      at : (packets : Bool) → MoveTry s (cond packets (Done s still (Fault EINVAL)) (move_row s x y is_tee (move_case (source_of s x x.description.node) (target_of s y y.description.node) len)))
      at true = moves_none s
      at false = row_moves s x y (move_case (source_of s x x.description.node) (target_of s y y.description.node) len) a b

  both_moves : (s : Core A numbers) (kept : List ℕ) (next : Open numbers → Open numbers → Trial A numbers) → KeepsBoth s kept from to →
      ((x y : Open numbers) → x.description.node ≡ from → y.description.node ≡ to → MoveTry s (next x y)) → MoveTry s (with_both s kept next)
  both_moves s kept next on h = first (kept_at s kept 0) on.0
    where
      second : (x : Open numbers) → x.description.node ≡ from → (o : Option (Open numbers)) → IfSome o (λ y. y.description.node ≡ to) → MoveTry s (with_kept s o (next x))
      second x a None b = moves_none s
      second x a (Some y) b = h x y a b

      first : (o : Option (Open numbers)) → IfSome o (λ x. x.description.node ≡ from) → MoveTry s (with_kept s o (λ x. with_kept s (kept_at s kept 1) (next x)))
      first None a = moves_none s
      first (Some x) a = second x a (kept_at s kept 1) on.1

  -- what one try moves, it carries
  pub carries : (s : Core A numbers) (flow : Flow numbers) (ending : Ending A) → Moves s flow (counted ending) →
      Carries is_tee from to p q (unless_empty (into_pipe numbers flow.into q)) (unless_empty (out_of_pipe numbers (held s p) flow.out p)) ending
  carries s flow ending m =
      record {
        bytes = m.bytes;
        counts = m.counts;
        chunk = λ e. ap unless_empty (m.chunk e);
        no_chunk = λ ne. ap unless_empty (m.no_chunk ne);
        out = λ e. ap unless_empty (m.out e) ∙ unless_either is_tee m.bytes;
        no_out = λ ne. ap unless_empty (m.no_out ne);
      }

  pub carries_none : (ending : Ending A) → counted ending ≡ 0 → Carries is_tee from to p q [] [] ending
  carries_none ending none =
      record { bytes = []; counts = sym none; chunk = λ e. refl; no_chunk = λ e. refl; out = λ e. either is_tee []; no_out = λ e. refl }

  -- a kind of call whose tries move bytes so
  module _ (call : Call A) (tried : (s : Core A numbers) (w : Waiting A numbers) (may_wait : Bool) → KeepsBoth s w.kept from to → MoveTry s (try s w call may_wait)) where
    abbrev pub IsMove : Core A numbers → Waiting A numbers → Type 0
    IsMove s w = (w.call ≡ call) × KeepsBoth s w.kept from to

    abbrev pub MoveSays : Waiting A numbers → List (List ℕ) → List (List ℕ) → Fate A → Type 0
    MoveSays w ins outs end = Carries is_tee from to p q ins outs end.ending

    -- a try that waits moves nothing
    pub carries_later : (s : Core A numbers) (flow : Flow numbers) (ins outs : List (List ℕ)) (ending : Ending A) → flow ≡ still → Carries is_tee from to p q ins outs ending →
        Carries is_tee from to p q (unless_empty (into_pipe numbers flow.into q) ++ ins) (unless_empty (out_of_pipe numbers (held s p) flow.out p) ++ outs) ending
    carries_later s flow ins outs ending e rest =
        subst (λ (f : Flow numbers). Carries is_tee from to p q (unless_empty (into_pipe numbers f.into q) ++ ins) (unless_empty (out_of_pipe numbers (held s p) f.out p) ++ outs) ending) (sym e) rest

    tried_says : (s : Core A numbers) (w : Waiting A numbers) (t : Trial A numbers) → IsMove s w → MoveTry s t → TrySays p q IsMove MoveSays s w t
    tried_says s w (Done u flow reply) is m = carries s flow (Answered reply) m
    tried_says s w (Wait u flow t) is e = (is, (λ ins outs end rest. carries_later s flow ins outs end.ending e rest))

    pub move_course : Course p q IsMove MoveSays
    move_course =
        record {
          stays = λ s x w below first second is. (is.0, (keeps_step s x w.kept 0 from first second is.1.0, keeps_step s x w.kept 1 to first second is.1.1));
          met = λ s w met is. is;
          says_met = λ w met ins outs end says. says;
          waits = λ s w is. carries_none Waits refl;
          drops = λ s w is. carries_none Dropped refl;
          interrupted = λ s w is. carries_none (Interrupted (interrupt_reply w)) refl;
          tries = λ s w is. tried_says s w (try s w w.call true) is (subst (λ z. MoveTry s (try s w z true)) (sym is.0) (tried s w true is.1));
        }

    pub move_run : (place : ℕ) (s : State A) (xs : List (Step A × Bool)) (c : ℕ) (w : Waiting A numbers) → IsBelowCounters s → AreInOrder s.core → get nat_eq s.core.parked c ≡ Some w → IsMove s.core w →
        Carries is_tee from to p q (of (OfCall c) (pieces_from (piece_added q) place s xs)) (of (OfCall c) (pieces_from (pieces_left p) place s xs)) (fate s xs c).ending
    move_run place s xs c w below order here is = course_run p q IsMove MoveSays move_course place s xs c w below order here is

module _ {A : Type 0} (p q : ℕ) (from to : Node numbers) (from_fd to_fd : ℤ) (len : ℕ) (flags : SpliceFlags) where
  pub splice_moves : (from_offset to_offset : Option ℕ) (s : Core A numbers) (w : Waiting A numbers) (may_wait : Bool) → KeepsBoth s w.kept from to →
      MoveTry p q false from to s (try s w (Call.Splice from_fd from_offset to_fd to_offset len flags) may_wait)
  unfolding try
  splice_moves from_offset to_offset s w may_wait on =
      both_moves p q false from to s w.kept (λ x y. try_move s (side x from_offset) (side y to_offset) len false) on (λ x y a b. move_moves p q false from to s (side x from_offset) (side y to_offset) len a b)

  pub tee_moves : (s : Core A numbers) (w : Waiting A numbers) (may_wait : Bool) → KeepsBoth s w.kept from to → MoveTry p q true from to s (try s w (Call.Tee from_fd to_fd len flags) may_wait)
  unfolding try
  tee_moves s w may_wait on =
      both_moves p q true from to s w.kept (λ x y. try_move s (side x None) (side y None) len true) on (λ x y a b. move_moves p q true from to s (side x None) (side y None) len a b)
