-- Reads over a run.
use Rattle.std.proofs.Common.{◌≡◌, ◌≢◌, ℕ, ℤ, ◌+◌, ◌<◌, ◌≤◌, zero, suc, Bool, true, false, not, cond, Option, List, [], ◌∷◌, ◌++◌, length, refl, sym, ap, subst, nat_eq, take, ltb-true, arith}
use Rattle.std.specs.Prelude.{nat_lt, min, All, IfSome, is_none}
use Rattle.std.specs.declared.option.Option.TheVariants.{None, Some}
use Rattle.pl_model.specs.declared.calls.Call.{Call}
use Rattle.pl_model.specs.declared.calls.Step.{Step}
use Rattle.pl_model.specs.declared.cases.ReadCase.{ReadCase}
use Rattle.pl_model.specs.Map.{get}
use Rattle.pl_model.specs.Keys.{Node, PipeNode, FileNode}
use Rattle.pl_model.specs.State.{Core, Description, Open, Pipe, Waiting}
use Rattle.pl_model.specs.Packets.{front_of, front, spent_of, spent, is_byte_queue}
use Rattle.pl_model.specs.Live.{writers}
use Rattle.pl_model.specs.Trial.{Trial, Done, Wait, pipe_at}
use Rattle.pl_model.specs.Transfer.{read_case, read_row, read_pipe, read_node}
use Rattle.pl_model.specs.Step.{try, with_kept, kept_at}
use Rattle.pl_model.specs.Numbered.{numbers, State, step}
use Rattle.pl_model.specs.StandsFor.{IsBelowCounters}
use Rattle.pl_model.specs.Stream.{held, out_of_pipe}
use Rattle.pl_model.specs.Chunks.{OfCall, unless_empty, of, pieces_left, pieces_from}
use Rattle.pl_model.specs.Fates.{Fate, Answered, fate, bytes_answered}
use Rattle.pl_model.specs.InOrder.{AreInOrder}
use Rattle.pl_model.specs.OnNodes.{Keeps}
use Rattle.pl_model.specs.StreamLaw.{FrontOf, Reads}
use Rattle.pl_model.proofs.streams.Writes.{same_number}
use Rattle.pl_model.proofs.streams.Nodes.{keeps_step, stays_none, given_node}
use Rattle.pl_model.proofs.streams.ByteQueues.{bytes_step}
use Rattle.pl_model.proofs.streams.CallRuns.{Course, TrySays, course_run}

-- the first bytes of the first bytes
take_front : (m e : ℕ) (bytes : List ℕ) → m ≤ e → take m bytes ≡ take (length (take m bytes)) (take e bytes)
take_front zero e bytes l = refl
take_front (suc m) zero bytes l = absurd (omega (arith, l))
take_front (suc m) (suc e) [] l = refl
take_front (suc m) (suc e) (b ∷ bs) l = ap (λ t. b ∷ t) (take_front m e bs (omega (arith, l)))

front_more : (m e : ℕ) (bytes : List ℕ) → 0 < m → m ≤ e → FrontOf (unless_empty (take e bytes)) (unless_empty (take m bytes))
front_more zero e bytes some l = absurd (omega (arith, some))
front_more (suc m) zero bytes some l = absurd (omega (arith, l))
front_more (suc m) (suc e) [] some l = refl
front_more (suc m) (suc e) (b ∷ bs) some l = take_front (suc m) (suc e) (b ∷ bs) l

-- a read spends no less than it gives
spends : (m held : ℕ) (packets : Option (List ℕ)) → m ≤ front_of packets held → m ≤ spent_of packets m
spends m held None l = omega arith
spends m held (Some []) l = omega arith
spends m held (Some (n ∷ ns)) l = l

spends_all : (m : ℕ) (packets : Option (List ℕ)) → is_none packets ≡ true → spent_of packets m ≡ m
spends_all m None h = refl
spends_all m (Some ns) h = absurd (cc)

-- what a row gives is there to be had, and isn't nothing where something was asked for
abbrev RowFits : (k most : ℕ) → ReadCase → Type 0
RowFits k most (ReadCase.Gives n) = (n ≤ most) × (0 < k → 0 < n)
RowFits k most ReadCase.EndOfFile = Unit {0}
RowFits k most ReadCase.Waits = Unit {0}

case_fits : (k most : ℕ) (w : Bool) → RowFits k most (read_case k most w)
case_fits k most w = at (nat_lt 0 most) refl w where
  at : (b : Bool) → nat_lt 0 most ≡ b → (w : Bool) → RowFits k most (cond b (ReadCase.Gives (min k most)) (cond (not w) ReadCase.EndOfFile ReadCase.Waits))
  at true e w = (omega arith, λ some. omega (arith, some, ltb-true 0 most e))
  at false e true = tt
  at false e false = tt

-- nothing goes out, and nothing is answered
pub reads_nothing : (k : ℕ) (b : Bool) → Reads k b [] []
reads_nothing k b = record { front = λ some. refl; whole = λ e. refl }

module _ (k : ℕ) (bytes_only : Bool) where
  gives : (x : Pipe) (n : ℕ) → RowFits k (front x) (ReadCase.Gives n) → (bytes_only ≡ true → is_byte_queue x ≡ true) → Reads k bytes_only (unless_empty (take (spent x n) x.bytes)) (unless_empty (take n x.bytes))
  gives x n fits queue =
      record {
        front = λ some. front_more n (spent x n) x.bytes (fits.1 some) (spends n (length x.bytes) x.packets fits.0);
        whole = λ e. ap (λ m. unless_empty (take m x.bytes)) (spends_all n x.packets (queue e));
      }

module _ {A : Type 0} (p : ℕ) (bytes_only : Bool) where
  -- what a parked read keeps is on the pipe, which is a byte queue where that was said of it
  abbrev pub KeepsQueue : Core A numbers → List ℕ → Type 0
  KeepsQueue s kept = IfSome (kept_at s kept 0) (λ o. (o.description.node ≡ PipeNode p) × (bytes_only ≡ true → is_byte_queue (pipe_at s p) ≡ true))

  pub queue_step : (s : State A) (x : Step A) (kept : List ℕ) → IsBelowCounters s → All (λ k. k ≢ s.next_description) kept → All (λ k. k ≢ s.next_description + 1) kept →
      KeepsQueue s.core kept → KeepsQueue (step s x).state.core kept
  queue_step s x kept below first second is = at (kept_at (step s x).state.core kept 0) refl (keeps_step s x kept 0 (PipeNode p) first second (on (kept_at s.core kept 0) is))
    where
      on : (o : Option (Open numbers)) → IfSome o (λ o. (o.description.node ≡ PipeNode p) × (bytes_only ≡ true → is_byte_queue (pipe_at s.core p) ≡ true)) → IfSome o (λ o. o.description.node ≡ PipeNode p)
      on None h = tt
      on (Some o) h = h.0

      -- the pipe was there before, so its number isn't given anew
      queue : (o : Option (Open numbers)) → kept_at s.core kept 0 ≡ o → IfSome o (λ o. (o.description.node ≡ PipeNode p) × (bytes_only ≡ true → is_byte_queue (pipe_at s.core p) ≡ true)) →
          (y : Open numbers) → kept_at (step s x).state.core kept 0 ≡ Some y → bytes_only ≡ true → is_byte_queue (pipe_at (step s x).state.core p) ≡ true
      queue None none h y now b = absurd (stays_none s x kept 0 first second none y now)
      queue (Some o) was h y now b = bytes_step p s x (λ e. apart (sym e)) (h.1 b)
        where
          apart : s.next_pipe ≡ p → ⊥
          apart e = given_node s kept 0 o (PipeNode p) was h.0 (below.pipes p (omega (arith, e))).node

      at : (o : Option (Open numbers)) → kept_at (step s x).state.core kept 0 ≡ o → IfSome o (λ o. o.description.node ≡ PipeNode p) →
          IfSome o (λ o. (o.description.node ≡ PipeNode p) × (bytes_only ≡ true → is_byte_queue (pipe_at (step s x).state.core p) ≡ true))
      at None e h = tt
      at (Some y) e h = (h, queue (kept_at s.core kept 0) refl is y e)

-- what is on the pipe is on a byte queue, where that is one
pub keeps_queue : {A : Type 0} (p : ℕ) (s : Core A numbers) (kept : List ℕ) → Keeps s kept 0 (PipeNode p) → KeepsQueue p (is_byte_queue (pipe_at s p)) s kept
keeps_queue p s kept on = at (kept_at s kept 0) on
  where
    at : (o : Option (Open numbers)) → IfSome o (λ o. o.description.node ≡ PipeNode p) → IfSome o (λ o. (o.description.node ≡ PipeNode p) × (is_byte_queue (pipe_at s p) ≡ true → is_byte_queue (pipe_at s p) ≡ true))
    at None h = tt
    at (Some o) h = (h, λ e. e)

module _ {A : Type 0} (p q : ℕ) (fd : ℤ) (k : ℕ) (bytes_only : Bool) where
  -- a parked read of at most k bytes, on the pipe p
  abbrev pub IsRead : Core A numbers → Waiting A numbers → Type 0
  IsRead s w = (w.call ≡ Call.Read fd k) × KeepsQueue p bytes_only s w.kept

  abbrev pub ReadSays : Waiting A numbers → List (List ℕ) → List (List ℕ) → Fate A → Type 0
  ReadSays w ins outs end = Reads k bytes_only outs (bytes_answered end.ending)

  -- what one try of a read takes from the pipe
  abbrev pub ReadTry : List ℕ → Trial A numbers → Type 0
  ReadTry before (Done u flow reply) = Reads k bytes_only (unless_empty (out_of_pipe numbers before flow.out p)) (bytes_answered (Answered reply))
  ReadTry before (Wait u flow t) = out_of_pipe numbers before flow.out p ≡ []

  read_row_says : (s : Core A numbers) (row : ReadCase) → RowFits k (front (pipe_at s p)) row → (bytes_only ≡ true → is_byte_queue (pipe_at s p) ≡ true) → ReadTry (held s p) (read_row s p (pipe_at s p) row)
  read_row_says s (ReadCase.Gives n) fits queue =
      subst (λ b. Reads k bytes_only (unless_empty (cond b (take (spent (pipe_at s p) n) (held s p)) [])) (unless_empty (take n (held s p)))) (sym (same_number p)) (gives k bytes_only (pipe_at s p) n fits queue)
  read_row_says s ReadCase.EndOfFile fits queue = reads_nothing k bytes_only
  read_row_says s ReadCase.Waits fits queue = refl

  pub read_try : (s : Core A numbers) (w : Waiting A numbers) (may_wait : Bool) → KeepsQueue p bytes_only s w.kept → ReadTry (held s p) (try s w (Call.Read fd k) may_wait)
  unfolding try read_pipe
  read_try s w may_wait on = at (kept_at s w.kept 0) on
    where
      node : (d : ℕ) (x : Description numbers) (n : Node numbers) → n ≡ PipeNode p → (bytes_only ≡ true → is_byte_queue (pipe_at s p) ≡ true) → ReadTry (held s p) (read_node s d x n k)
      node d x (PipeNode z) e queue =
          let same : z ≡ p = cc in
          let has = nat_lt 0 (writers s p) in
          subst (λ y. ReadTry (held s p) (read_node s d x (PipeNode y) k)) (sym same) (read_row_says s (read_case k (front (pipe_at s p)) has) (case_fits k (front (pipe_at s p)) has) queue)
      node d x (FileNode f) e queue = absurd (cc)

      at : (o : Option (Open numbers)) → IfSome o (λ o. (o.description.node ≡ PipeNode p) × (bytes_only ≡ true → is_byte_queue (pipe_at s p) ≡ true)) → ReadTry (held s p) (with_kept s o (λ o. read_node s o.key o.description o.description.node k))
      at None on = reads_nothing k bytes_only
      at (Some o) on = node o.key o.description o.description.node on.0 on.1

  tried_read : (s : Core A numbers) (w : Waiting A numbers) (t : Trial A numbers) → IsRead s w → ReadTry (held s p) t → TrySays p q IsRead ReadSays s w t
  tried_read s w (Done u flow reply) is says = says
  tried_read s w (Wait u flow to) is says = (is, (λ ins outs end rest. subst (λ b. Reads k bytes_only (unless_empty b ++ outs) (bytes_answered end.ending)) (sym says) rest))

  pub read_course : Course p q IsRead ReadSays
  read_course =
      record {
        stays = λ s x w below first second is. (is.0, queue_step p bytes_only s x w.kept below first second is.1);
        met = λ s w met is. is;
        says_met = λ w met ins outs end says. says;
        waits = λ s w is. reads_nothing k bytes_only;
        drops = λ s w is. reads_nothing k bytes_only;
        interrupted = λ s w is. reads_nothing k bytes_only;
        tries = λ s w is. tried_read s w (try s w w.call true) is (subst (λ z. ReadTry (held s p) (try s w z true)) (sym is.0) (read_try s w true is.1));
      }

  pub read_run : (place : ℕ) (s : State A) (xs : List (Step A × Bool)) (c : ℕ) (w : Waiting A numbers) → IsBelowCounters s → AreInOrder s.core → get nat_eq s.core.parked c ≡ Some w → IsRead s.core w →
      Reads k bytes_only (of (OfCall c) (pieces_from (pieces_left p) place s xs)) (bytes_answered (fate s xs c).ending)
  read_run place s xs c w below order here is = course_run p q IsRead ReadSays read_course place s xs c w below order here is
