-- What one try of a write adds to its pipe.
use Rattle.std.proofs.Common.{◌≡◌, ◌≢◌, ℕ, ℤ, ◌+◌, ◌-◌, ◌<◌, ◌≤◌, Bool, true, false, cond, Option, List, [], ◌∷◌, length, refl, sym, ◌∙◌, ap, subst, nat_eq, take, drop, append-nil, arith, min}
use Rattle.std.specs.Prelude.{◌==◌, ◌&&◌, not, nat_lt, nat_le, slice_range, IfSome, ⊤}
use Rattle.std.specs.declared.option.Option.TheVariants.{None, Some}
use Rattle.std.specs.List.{concat}
use Rattle.std.proofs.lemmas.List.{take_all}
use Rattle.std.proofs.lemmas.Bool.{eq-eqb, leb-true, leb-false}
use Rattle.pl_model.specs.declared.calls.Call.{Call}
use Rattle.pl_model.specs.declared.cases.WriteCase.{WriteCase}
use Rattle.pl_model.specs.declared.replies.Reply.{Reply}
use Rattle.pl_model.specs.declared.replies.Reply.TheVariants.{Count, Fault, Parked}
use Rattle.pl_model.specs.declared.replies.Errno.TheVariants.{EPIPE, EBADF}
use Rattle.pl_model.specs.Numbers.{pipe_buf}
use Rattle.pl_model.specs.Keys.{Node, PipeNode, FileNode}
use Rattle.pl_model.specs.State.{Core, Description, Open, Waiting}
use Rattle.pl_model.specs.Live.{readers}
use Rattle.pl_model.specs.Trial.{Trial, Done, Wait, pipe_at}
use Rattle.pl_model.specs.Transfer.{count, room, write_case, write_row, write_pipe, write_node}
use Rattle.pl_model.specs.Step.{try, with_kept, kept_at}
use Rattle.pl_model.specs.Stream.{into_pipe}
use Rattle.pl_model.specs.Numbered.{numbers}
use Rattle.pl_model.specs.Chunks.{unless_empty}
use Rattle.pl_model.specs.Fates.{Ending, Answered, answers_count, taken_with}
use Rattle.pl_model.specs.InOrder.{HasTaken}
use Rattle.pl_model.specs.StreamLaw.{Adds}

pub same_number : (n : ℕ) → nat_eq n n ≡ true
same_number n = eq-eqb n n refl

and_false : (b : Bool) → (b && false) ≡ false
and_false true = refl
and_false false = refl

and_true : (b : Bool) → b ≡ true → (b && true) ≡ true
and_true true h = refl
and_true false h = absurd (cc)

pub no_slice : (bytes : List ℕ) (t : ℕ) → slice_range bytes t t ≡ []
no_slice bytes t = ap (λ n. take n (drop t bytes)) zero_is where
  zero_is : t - t ≡ 0
  zero_is = omega arith

pub whole_slice : (bytes : List ℕ) → slice_range bytes 0 (length bytes) ≡ bytes
whole_slice bytes = ap (λ n. take n bytes) all ∙ take_all (length bytes) bytes (omega arith) where
  all : length bytes - 0 ≡ length bytes
  all = omega arith

pub join_unless_empty : (bytes : List ℕ) → concat (unless_empty bytes) ≡ bytes
join_unless_empty [] = refl
join_unless_empty (b ∷ bs) = append-nil (b ∷ bs)

pub unless_empty_is : (bytes : List ℕ) → 0 < length bytes → unless_empty bytes ≡ bytes ∷ []
unless_empty_is [] h = absurd (omega arith)
unless_empty_is (b ∷ bs) h = refl

-- what the row of the table says of the bytes that go in
abbrev pub CaseSays : (n t : ℕ) (may_wait : Bool) → WriteCase → Type 0
CaseSays n t may_wait WriteCase.Broken = ⊤
CaseSays n t may_wait WriteCase.CutShort = ⊤
CaseSays n t may_wait (WriteCase.Ends from to) = (from ≡ t) × (t ≤ to) × (to ≤ n) × (may_wait ≡ true → to ≡ n) × (n ≤ pipe_buf → to ≡ n)
CaseSays n t may_wait (WriteCase.Waits from to) = (from ≡ t) × (t ≤ to) × (to ≤ n) × (n ≤ pipe_buf → to ≡ 0)

pub case_says : (n t room : ℕ) (has_reader may_wait : Bool) → t ≤ n → (n ≤ pipe_buf → t ≡ 0) → (may_wait ≡ false → t ≡ 0) → CaseSays n t may_wait (write_case n t room has_reader may_wait)
case_says n t room r may_wait bound small none =
    at (not r && t == 0) (not r) (nat_le n pipe_buf) (nat_le n room) may_wait (nat_lt 0 room) (nat_le (n - t) room) refl refl refl
  where
    none_small : n ≤ pipe_buf → t ≡ 0
    none_small h = small h

    large : nat_le n pipe_buf ≡ false → n ≤ pipe_buf → ⊥
    large e h = omega (arith, leb-false n pipe_buf e)

    more : nat_le (n - t) room ≡ false → t + room ≤ n
    more e = omega (arith, leb-false (n - t) room e)

    at : (broken cut is_small fits may some rest : Bool) → nat_le n pipe_buf ≡ is_small → may_wait ≡ may → nat_le (n - t) room ≡ rest →
        CaseSays n t may_wait (cond broken WriteCase.Broken (cond cut WriteCase.CutShort (cond (is_small && fits) (WriteCase.Ends 0 n) (cond is_small (WriteCase.Waits t t)
        (cond (not may && some) (WriteCase.Ends 0 (min n room)) (cond (not may) (WriteCase.Waits t t) (cond rest (WriteCase.Ends t n) (WriteCase.Waits t (t + room)))))))))
    at true cut is_small fits may some rest e f g = tt
    at false true is_small fits may some rest e f g = tt
    at false false true true may some rest e f g =
        let s : n ≤ pipe_buf = leb-true n pipe_buf e in
        (sym (none_small s), bound, omega arith, (λ h. refl), (λ h. refl))
    at false false true false may some rest e f g =
        let s : n ≤ pipe_buf = leb-true n pipe_buf e in
        (refl, omega arith, bound, (λ h. small s))
    at false false false fits false true rest e f g =
        (sym (none f), omega (arith, none f), omega arith, (λ h. absurd (cc)), (λ h. absurd (large e h)))
    at false false false fits false false rest e f g = (refl, omega arith, bound, (λ h. absurd (large e h)))
    at false false false fits true some true e f g = (refl, bound, omega arith, (λ h. refl), (λ h. refl))
    at false false false fits true some false e f g = (refl, omega arith, more g, (λ h. absurd (large e h)))

module _ {A : Type 0} where
  -- an answer that says that the call waits
  abbrev pub says_parked : Reply A → Bool
  says_parked (Parked c) = true
  says_parked reply = false

  -- what one try of a write to the pipe p adds to it, where t bytes were taken before
  abbrev pub WriteTry : Bool → List ℕ → ℕ → ℕ → Trial A numbers → Type 0
  WriteTry may_wait bytes t p (Done u flow reply) =
      Adds may_wait bytes t (unless_empty (into_pipe numbers flow.into p)) (record { ending = Answered reply; taken = taken_with t reply })
  WriteTry may_wait bytes t p (Wait u flow to) =
      (into_pipe numbers flow.into p ≡ slice_range bytes t to) × (t ≤ to) × (to ≤ length bytes) × (length bytes ≤ pipe_buf → to ≡ 0)

  -- nothing was added, and this is no count of all bytes
  pub adds_no : (may_wait : Bool) (bytes : List ℕ) (t taken : ℕ) (ending : Ending A) → t ≤ length bytes → taken ≡ t → answers_count ending (length bytes) ≡ false →
      ((n : ℕ) → ending ≢ Answered (count n)) → Adds may_wait bytes t [] (record { ending = ending; taken = taken })
  adds_no may_wait bytes t taken ending bound same none other =
      record {
        stream = sym (ap (λ to. slice_range bytes t to) same ∙ no_slice bytes t);
        from = omega (arith, same);
        within = omega (arith, same, bound);
        whole = λ h small. ap (λ b. cond b (bytes ∷ []) []) (sym none);
        all = λ n may e. absurd (other n e);
      }

  -- nothing was added, and the answer is no count of all bytes
  adds_none : (may_wait : Bool) (bytes : List ℕ) (t : ℕ) (reply : Reply A) → t ≤ length bytes → taken_with t reply ≡ t →
      answers_count (Answered reply) (length bytes) ≡ false → ((n : ℕ) → Answered reply ≢ Answered (count n)) →
      Adds may_wait bytes t [] (record { ending = Answered reply; taken = taken_with t reply })
  adds_none may_wait bytes t reply bound taken none other = adds_no may_wait bytes t (taken_with t reply) (Answered reply) bound taken none other

  -- a slice is added, and counted
  adds_some : (may_wait : Bool) (bytes : List ℕ) (t p to : ℕ) → t ≤ to → to ≤ length bytes → (may_wait ≡ true → to ≡ length bytes) → (length bytes ≤ pipe_buf → to ≡ length bytes) →
      (length bytes ≤ pipe_buf → t ≡ 0) → Adds {A = A} may_wait bytes t (unless_empty (cond (nat_eq p p) (slice_range bytes t to) [])) (record { ending = Answered (count to); taken = to })
  adds_some may_wait bytes t p to from within all whole none =
      record {
        stream = ap (λ b. concat (unless_empty (cond b (slice_range bytes t to) []))) (same_number p) ∙ join_unless_empty (slice_range bytes t to);
        from = from;
        within = within;
        whole = λ h small.
            ap (λ b. unless_empty (cond b (slice_range bytes t to) [])) (same_number p)
            ∙ (ap (λ (n : ℕ). unless_empty (slice_range bytes n to)) (none small)
            ∙ (ap (λ n. unless_empty (slice_range bytes 0 n)) (whole small)
            ∙ (ap unless_empty (whole_slice bytes)
            ∙ (unless_empty_is bytes h
            ∙ ap (λ b. cond b (bytes ∷ []) []) (sym (and_true _ (eq-eqb to (length bytes) (whole small))))))));
        all = λ n may e. (let same : to ≡ n = cc in sym same ∙ all may);
      }

  row_says : (s : Core A numbers) (p : ℕ) (bytes : List ℕ) (t : ℕ) (may_wait : Bool) (row : WriteCase) → t ≤ length bytes → (length bytes ≤ pipe_buf → t ≡ 0) →
      CaseSays (length bytes) t may_wait row → WriteTry may_wait bytes t p (write_row s p bytes t row)
  row_says s p bytes t may_wait WriteCase.Broken bound small says = adds_none may_wait bytes t (Fault EPIPE) bound refl refl (λ n e. cc)
  row_says s p bytes t may_wait WriteCase.CutShort bound small says = adds_none may_wait bytes t (Count t true) bound refl (and_false _) (λ n e. cc)
  row_says s p bytes t may_wait (WriteCase.Ends from to) bound small says =
      subst (λ f. Adds {A = A} may_wait bytes t (unless_empty (cond (nat_eq p p) (slice_range bytes f to) [])) (record { ending = Answered (count to); taken = to })) (sym says.0)
      (adds_some may_wait bytes t p to says.1 says.2 says.3 says.4 small)
  row_says s p bytes t may_wait (WriteCase.Waits from to) bound small says =
      (ap (λ b. cond b (slice_range bytes from to) []) (same_number p) ∙ ap (λ f. slice_range bytes f to) says.0, says.1, says.2, says.3)

  -- the try of a write, whose description is on the pipe
  pub write_try : (s : Core A numbers) (w : Waiting A numbers) (fd : ℤ) (bytes : List ℕ) (may_wait : Bool) (p : ℕ) →
      HasTaken {A = A} (Call.Write fd bytes) w.taken → (may_wait ≡ false → w.taken ≡ 0) → IfSome (kept_at s w.kept 0) (λ o. o.description.node ≡ PipeNode p) →
      WriteTry may_wait bytes w.taken p (try s w (Call.Write fd bytes) may_wait)
  unfolding try write_pipe
  write_try s w fd bytes may_wait p has none on = at (kept_at s w.kept 0) on
    where
      node : (s : Core A numbers) (d : ℕ) (description : Description numbers) (n : Node numbers) → n ≡ PipeNode p → WriteTry may_wait bytes w.taken p (write_node s d description n bytes w.taken may_wait)
      node s d description (PipeNode q) e =
          let same : q ≡ p = cc in
          subst (λ z. WriteTry may_wait bytes w.taken p (write_node s d description (PipeNode z) bytes w.taken may_wait)) (sym same)
          (row_says s p bytes w.taken may_wait (write_case (length bytes) w.taken (room (pipe_at s p)) (nat_lt 0 (readers s p)) may_wait) has.0 has.1
          (case_says (length bytes) w.taken (room (pipe_at s p)) (nat_lt 0 (readers s p)) may_wait has.0 has.1 none))
      node s d description (FileNode f) e = absurd (cc)

      at : (o : Option (Open numbers)) → IfSome o (λ o. o.description.node ≡ PipeNode p) → WriteTry may_wait bytes w.taken p (with_kept s o (λ o. write_node s o.key o.description o.description.node bytes w.taken may_wait))
      at None on = adds_none may_wait bytes w.taken (Fault EBADF) has.0 refl refl (λ n e. cc)
      at (Some o) on = node s o.key o.description o.description.node on
