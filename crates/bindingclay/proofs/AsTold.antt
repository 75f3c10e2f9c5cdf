-- Where a call waits after a step, bytes went into a pipe exactly if it has taken more than before; otherwise no byte moved.
use Rattle.std.proofs.Common.{◌≡◌, ℕ, ℤ, ◌-◌, ◌<◌, ◌≤◌, Bool, true, false, cond, Option, List, [], ◌∷◌, ◌++◌, length, length-take-le, length-drop, drop, refl, sym, ◌∙◌, ap, subst, nat_eq, nat_lt, unwrap_or, arith}
use Rattle.std.specs.Prelude.{map, option_map, slice_range, not, ◌==◌, ◌&&◌, ◌||◌}
use Rattle.std.specs.List.{list_any}
use Rattle.std.specs.declared.option.Option.TheVariants.{None, Some}
use Rattle.std.proofs.lemmas.Bool.{ltb-true, ltb-false}
use Rattle.pl_model.specs.declared.calls.Call.{Call}
use Rattle.pl_model.specs.declared.calls.Step.{Step}
use Rattle.pl_model.specs.declared.calls.Step.TheVariants.{Begin, Resume}
use Rattle.pl_model.specs.declared.cases.ReadCase.{ReadCase}
use Rattle.pl_model.specs.declared.cases.WriteCase.{WriteCase}
use Rattle.pl_model.specs.declared.cases.MoveCase.{MoveCase}
use Rattle.pl_model.specs.declared.flags.PollMask.{PollMask}
use Rattle.pl_model.specs.declared.replies.Errno.TheVariants.{EBADF}
use Rattle.pl_model.specs.declared.replies.Reply.TheVariants.{Parked, CallsSpent, NoProcess}
use Rattle.pl_model.specs.Numbers.{last_call}
use Rattle.pl_model.specs.Map.{Map, get, put}
use Rattle.pl_model.specs.Keys.{NewKeys, Node, PipeNode, FileNode, Plain, Draws, drawn, drawing_map}
use Rattle.pl_model.specs.State.{Core, Pipe, Description, Open, Waiting, can_wait, described}
use Rattle.pl_model.specs.Live.{readers}
use Rattle.pl_model.specs.Trial.{Trial, Flow, Done, Wait, still, gains, flowed, pipe_at, Begun, Begins, Refused, Answered, Tried}
use Rattle.pl_model.specs.Transfer.{room, read_case, read_row, read_pipe, read_file, read_node, write_case, write_row, write_pipe, write_file, write_node}
use Rattle.pl_model.specs.Splice.{Side, is_packet_pipe, move_case, move_row, source_of, target_of, try_move}
use Rattle.pl_model.specs.Poll.{masks, masks_reply, is_ready, try_poll}
use Rattle.pl_model.specs.Tables.{lowest}
use Rattle.pl_model.specs.Modes.{writes}
use Rattle.pl_model.specs.Begin.{open_for, begin_write}
use Rattle.pl_model.specs.Step.{Stepped, try, try_open, opened_by, with_kept, kept_at, begin, begun, happen, first_tried, parked, resumed, stepped, tried_again, waiting}
use Rattle.pl_model.specs.Numbered.{numbers, State, next_numbers, step}
use Rattle.pl_model.specs.InOrder.{HasTaken, AreInOrder}
use Rattle.pl_model.proofs.by_call.Keeps.{begin-keeps, try-keeps}
use Rattle.pl_model.proofs.by_call.Ways.{BegunAll, LeadsTo, TrialAll, Refusable, begun_found, begun_if, begun_plain, trial_if}
use Rattle.pl_model.proofs.streams.Courses.{step_to, nothing_there}
use Rattle.pl_model.proofs.streams.Does.{Among, among_same, among_changes, among_flowed, TrialFine, try_fine, has_none}
use Rattle.pl_model.proofs.streams.Maps.{append_new, put_same}
use Rattle.pl_model.proofs.streams.Writes.{CaseSays, case_says, says_parked, same_number, no_slice}
use Rattle.bindingclay.specs.Moved.{taken_before, has_taken_more, takes_more, FlowsAsTold}

-- a call that had taken so many bytes has taken so many now
told_by : (before now : ℕ) (flow : Flow numbers) → (now ≤ before → FlowsAsTold false flow) → (before < now → FlowsAsTold true flow) → FlowsAsTold (nat_lt before now) flow
told_by before now flow none some = at (nat_lt before now) refl
  where
    at : (b : Bool) → nat_lt before now ≡ b → FlowsAsTold b flow
    at true e = some (ltb-true before now e)
    at false e = none (ltb-false before now e)

-- it took no more, and no byte moved
told_still : (before now : ℕ) → now ≤ before → FlowsAsTold (nat_lt before now) (still {K = numbers})
told_still before now few = told_by before now still (λ _. record { out = refl; into = tt }) (λ more. absurd (omega (arith, few, more)))

some_slice : (bytes : List ℕ) (from to : ℕ) → from < to → to ≤ length bytes → 0 < length (slice_range bytes from to)
some_slice bytes from to more within =
    let rest = length-drop from bytes in
    let count = length-take-le (to - from) (drop from bytes) (omega (arith, rest, within)) in
    omega (arith, count, more)

module _ {A : Type 0} where
  -- a try of a call that had taken so many bytes, and waits after it
  abbrev Told : ℕ → Trial A numbers → Type 0
  Told before (Done u flow reply) = Unit {0}
  Told before (Wait u flow now) = FlowsAsTold (nat_lt before now) flow

  told_if : (before : ℕ) (b : Bool) (x y : Trial A numbers) → Told before x → Told before y → Told before (cond b x y)
  told_if before b x y f g = trial_if (Told before) b x y (λ _. f) (λ _. g)

  told_kept : (before : ℕ) (s : Core A numbers) (o : Option (Open numbers)) (next : Open numbers → Trial A numbers) → ((x : Open numbers) → Told before (next x)) → Told before (with_kept s o next)
  told_kept before s None next h = tt
  told_kept before s (Some x) next h = h x

  read_row_told : (before : ℕ) (s : Core A numbers) (p : ℕ) (pipe : Pipe) (row : ReadCase) → Told before (read_row s p pipe row)
  read_row_told before s p pipe (ReadCase.Gives n) = tt
  read_row_told before s p pipe ReadCase.EndOfFile = tt
  read_row_told before s p pipe ReadCase.Waits = told_still before 0 (omega arith)

  read_node_told : (before : ℕ) (s : Core A numbers) (d : ℕ) (description : Description numbers) (node : Node numbers) (n : ℕ) → Told before (read_node s d description node n)
  unfolding read_pipe read_file
  read_node_told before s d description (PipeNode p) n = read_row_told before s p (pipe_at s p) (read_case n _ _)
  read_node_told before s d description (FileNode f) n = tt

  write_row_told : (s : Core A numbers) (p : ℕ) (bytes : List ℕ) (before : ℕ) (may_wait : Bool) (row : WriteCase) → CaseSays (length bytes) before may_wait row → Told before (write_row s p bytes before row)
  write_row_told s p bytes before may_wait WriteCase.Broken says = tt
  write_row_told s p bytes before may_wait WriteCase.CutShort says = tt
  write_row_told s p bytes before may_wait (WriteCase.Ends from to) says = tt
  write_row_told s p bytes before may_wait (WriteCase.Waits from to) says =
      told_by before to (gains p (slice_range bytes from to))
      (λ few. let same : to ≡ before = omega (arith, few, says.1) in record { out = refl; into = (λ i. slice_range bytes (says.0 i) (same i)) ∙ no_slice bytes before })
      (λ more. some_slice bytes from to (omega (arith, more, says.0)) says.2)

  write_file_told : (before : ℕ) (s : Core A numbers) (d : ℕ) (description : Description numbers) (f : ℕ) (bytes : List ℕ) → Told before (write_file s d description f bytes)
  unfolding write_file
  write_file_told before s d description f bytes = search told_if

  write_node_told : (s : Core A numbers) (d : ℕ) (description : Description numbers) (node : Node numbers) (fd : ℤ) (bytes : List ℕ) (before : ℕ) (may_wait : Bool) →
      HasTaken {A = A} (Call.Write fd bytes) before → (may_wait ≡ false → before ≡ 0) → Told before (write_node s d description node bytes before may_wait)
  unfolding write_pipe
  write_node_told s d description (PipeNode p) fd bytes before may_wait has none =
      write_row_told s p bytes before may_wait (write_case (length bytes) before (room (pipe_at s p)) (nat_lt 0 (readers s p)) may_wait)
      (case_says (length bytes) before (room (pipe_at s p)) (nat_lt 0 (readers s p)) may_wait has.0 has.1 none)
  write_node_told s d description (FileNode f) fd bytes before may_wait has none = write_file_told before s d description f bytes

  move_row_told : (before : ℕ) (s : Core A numbers) (from to : Side numbers) (is_tee : Bool) (row : MoveCase) → Told before (move_row s from to is_tee row)
  move_row_told before s from to is_tee MoveCase.Broken = tt
  move_row_told before s from to is_tee MoveCase.EndOfInput = tt
  move_row_told before s from to is_tee MoveCase.Waits = told_still before 0 (omega arith)
  move_row_told before s from to is_tee MoveCase.TooBig = tt
  move_row_told before s from to is_tee (MoveCase.Moves k) = tt

  move_told : (before : ℕ) (s : Core A numbers) (from to : Side numbers) (len : ℕ) (is_tee : Bool) → Told before (try_move s from to len is_tee)
  unfolding try_move
  move_told before s from to len is_tee =
      trial_if (Told before) (is_packet_pipe s from.description.node || is_packet_pipe s to.description.node) _ _ (λ _. tt)
      (λ _. move_row_told before s from to is_tee (move_case (source_of s from from.description.node) (target_of s to to.description.node) len))

  poll_told : (before : ℕ) (s : Core A numbers) (entries : List (ℤ × PollMask)) (kept : List ℕ) (may_wait : Bool) → Told before (try_poll s entries kept may_wait)
  unfolding try_poll
  poll_told before s entries kept may_wait =
      let found = masks s entries (map (described s) kept) in
      trial_if (Told before) (list_any is_ready found || not may_wait) (Done s still (masks_reply found)) (Wait s still 0) (λ _. tt) (λ _. told_still before 0 (omega arith))

  opened_told : (before : ℕ) (s : Core A numbers) (pid d : ℕ) (fd : Option ℕ) → Told before (opened_by s pid d fd)
  opened_told before s pid d None = tt
  opened_told before s pid d (Some fd) = tt

  open_told : (s : Core A numbers) (w : Waiting A numbers) → Told w.taken (try_open s w)
  open_told s w =
      let opens = λ (o : Open numbers). opened_by {A = A} s w.pid o.key (lowest s w.pid 0) in
      told_if w.taken w.met (with_kept s (kept_at s w.kept 0) opens) (Wait s still w.taken)
      (told_kept w.taken s (kept_at s w.kept 0) opens (λ o. opened_told w.taken s w.pid o.key (lowest s w.pid 0))) (told_still w.taken w.taken (omega arith))

  try_told : (s : Core A numbers) (w : Waiting A numbers) (call : Call A) (may_wait : Bool) → HasTaken call w.taken → (may_wait ≡ false → w.taken ≡ 0) → Told w.taken (try s w call may_wait)
  unfolding try
  try_told s w (Call.Read fd n) may_wait has none = told_kept w.taken s _ _ (λ o. read_node_told w.taken s o.key o.description o.description.node n)
  try_told s w (Call.Write fd bytes) may_wait has none = told_kept w.taken s _ _ (λ o. write_node_told s o.key o.description o.description.node fd bytes w.taken may_wait has none)
  try_told s w (Call.OpenName name mode flags) may_wait has none = open_told s w
  try_told s w (Call.Splice from from_offset to to_offset len flags) may_wait has none = search (told_kept, move_told)
  try_told s w (Call.Tee from to len flags) may_wait has none = search (told_kept, move_told)
  try_told s w (Call.Poll entries wait) may_wait has none = poll_told w.taken s entries w.kept may_wait
  try_told s w call may_wait has none = told_still w.taken w.taken (omega arith)

  -- how many bytes a call has taken, of those that wait
  abbrev taken_in : Map ℕ (Waiting A numbers) → ℕ → ℕ
  taken_in calls n = unwrap_or (option_map (λ w. w.taken) (get nat_eq calls n)) 0

  -- a step of a call that had taken so many bytes, if it waits after it
  abbrev StepTold : ℕ → Stepped A numbers → Type 0
  StepTold before h = (n : ℕ) → h.reply ≡ Parked n → FlowsAsTold (nat_lt before (taken_in h.state.parked n)) h.flow

  told_of : (calls : Map ℕ (Waiting A numbers)) (before c n : ℕ) (w : Waiting A numbers) (flow : Flow numbers) → get nat_eq calls c ≡ Some w → c ≡ n → FlowsAsTold (nat_lt before w.taken) flow → FlowsAsTold (nat_lt before (taken_in calls n)) flow
  told_of calls before c n w flow here same told =
      let taken : taken_in calls n ≡ w.taken = ap (λ o. unwrap_or (option_map (λ (z : Waiting A numbers). z.taken) o) 0) (ap (get nat_eq calls) (sym same) ∙ here) in
      subst (λ k. FlowsAsTold (nat_lt before k) flow) (sym taken) told

  -- what the checks answer isn't that the call waits
  abbrev AnswersAtOnce : Begun A numbers → Type 0
  AnswersAtOnce (Refused errno) = Unit {0}
  AnswersAtOnce (Answered u reply) = says_parked reply ≡ false
  AnswersAtOnce (Tried u kept met may_wait) = Unit {0}

  any_refused : Refusable AnswersAtOnce
  any_refused = record { refused = λ errno. tt }

  write_at_once : (new : NewKeys numbers) (s : Core A numbers) (pid : ℕ) (fd : ℤ) (bytes : List ℕ) → LeadsTo new AnswersAtOnce (begin s pid (Call.Write fd bytes))
  unfolding begin begin_write
  write_at_once new s pid fd bytes =
      begun_found new AnswersAtOnce (open_for writes s pid fd) EBADF _ any_refused (λ o is. begun_if new AnswersAtOnce (length bytes == 0) _ _ (λ _. begun_plain new AnswersAtOnce _ refl) (λ _. begun_plain new AnswersAtOnce _ tt))

  module _ (s : Core A numbers) (order : AreInOrder s) where
    first_told : (w : Waiting A numbers) (call : Call A) (b : Bool) (x : Trial A numbers) → Told 0 x → TrialAll (Among s) x → TrialFine call x → StepTold 0 (first_tried s w b x)
    first_told w call b (Done u flow reply) told k fine = λ n r. absurd (let says : true ≡ false = sym (ap says_parked r) ∙ fine in cc)
    first_told w call false (Wait u flow taken) told k fine = λ n r. absurd (cc)
    first_told w call true (Wait u flow taken) told k fine = at (s.next_call == last_call)
      where
        now : Waiting A numbers
        now = record w { taken = taken }

        late : s.next_call < s.next_call → ⊥
        late l = omega (arith, l)

        here : get nat_eq ((flowed u flow).parked ++ ((flowed u flow).next_call, now) ∷ []) s.next_call ≡ Some now
        here =
            let a = among_flowed s u flow k in
            let free : get nat_eq (flowed u flow).parked s.next_call ≡ None = nothing_there _ (λ v e. let f = a.from s.next_call v e in late (order.below s.next_call (record v { met = f.0 }) f.1)) in
            append_new (flowed u flow).parked (flowed u flow).next_call s.next_call now free
            ∙ ap (λ b. cond b (Some now) None) (ap (λ n. nat_eq n s.next_call) a.next ∙ same_number s.next_call)

        at : (b : Bool) → StepTold 0 (cond b (stepped s CallsSpent) (record { state = parked (flowed u flow) now; reply = Parked s.next_call; flow = flow }))
        at true = λ n r. absurd (cc)
        at false = λ n r. told_of (parked (flowed u flow) now).parked 0 s.next_call n now flow here (cc) told

    begun_told : (new : NewKeys numbers) (pid : ℕ) (call : Call A) (b : Begun A numbers) → BegunAll (Among s) b → AnswersAtOnce b → StepTold 0 (begun s pid call b)
    begun_told new pid call (Refused errno) k at_once = λ n r. absurd (cc)
    begun_told new pid call (Answered u reply) k at_once = λ n r. absurd (let says : true ≡ false = sym (ap says_parked r) ∙ at_once in cc)
    begun_told new pid call (Tried u kept met may_wait) k at_once =
        let w = waiting pid call kept met in
        first_told w call (may_wait && can_wait s pid) (try u w call may_wait) (try_told u w call may_wait (has_none call) (λ e. refl)) (try-keeps (among_changes new s) u w call may_wait k)
        (try_fine u w call may_wait (has_none call) (λ e. refl))

    again_told : (c : ℕ) (w : Waiting A numbers) (x : Trial A numbers) → Told w.taken x → TrialFine w.call x → StepTold w.taken (tried_again c w x)
    again_told c w (Done u flow reply) told fine = λ n r. absurd (let says : true ≡ false = sym (ap says_parked r) ∙ fine in cc)
    again_told c w (Wait u flow taken) told fine = λ n r.
        let now : Waiting A numbers = record w { taken = taken } in
        told_of (put nat_eq (flowed u flow).parked c now) w.taken c n now flow (put_same (flowed u flow).parked c now) (cc) told

    resumed_told : (c : ℕ) (o : Option (Waiting A numbers)) → get nat_eq s.parked c ≡ o → StepTold (unwrap_or (option_map (λ w. w.taken) o) 0) (resumed s c o)
    resumed_told c None here = λ n r. absurd (cc)
    resumed_told c (Some w) here =
        again_told c w (try s w w.call true) (try_told s w w.call true (order.taken c w here) (λ e. absurd (cc))) (try_fine s w w.call true (order.taken c w here) (λ e. absurd (cc)))

  write_told : (s : State A) (pid : ℕ) (fd : ℤ) (bytes : List ℕ) → AreInOrder s.core → StepTold 0 (drawn (next_numbers s) (happen s.core (Begin pid (Call.Write fd bytes))))
  unfolding happen LeadsTo
  write_told s pid fd bytes order = found (s.core.processes pid)
    where
      call : Call A
      call = Call.Write fd bytes

      leads : (b : Begins A numbers) → LeadsTo (next_numbers s) (BegunAll (Among s.core)) b → LeadsTo (next_numbers s) AnswersAtOnce b → StepTold 0 (drawn (next_numbers s) (drawing_map (begun s.core pid call) b))
      leads (Plain b) k at_once = begun_told s.core order (next_numbers s) pid call b k at_once
      leads (Draws f) k at_once = begun_told s.core order (next_numbers s) pid call (f (next_numbers s)) k at_once

      found : (b : Bool) → StepTold 0 (drawn (next_numbers s) (cond b (drawing_map (begun s.core pid call) (begin s.core pid call)) (Plain (stepped s.core NoProcess))))
      found true = leads (begin s.core pid call) (begin-keeps (among_changes (next_numbers s) s.core) s.core pid call (among_same s.core order.once)) (write_at_once (next_numbers s) s.core pid fd bytes)
      found false = λ n r. absurd (cc)

  again_step_told : (s : State A) (c : ℕ) → AreInOrder s.core → StepTold (taken_in s.core.parked c) (drawn (next_numbers s) (happen s.core (Resume c)))
  unfolding happen
  again_step_told s c order = resumed_told s.core order c (get nat_eq s.core.parked c) refl

  -- a step moves bytes as is told, if its call waits
  abbrev pub MovesAsTold : State A → Step A → Type 0
  MovesAsTold s x = (n : ℕ) → (step s x).reply ≡ Parked n → FlowsAsTold (takes_more s x) (step s x).flow

  step_told : (s : State A) (x : Step A) → StepTold (taken_before s x) (drawn (next_numbers s) (happen s.core x)) → MovesAsTold s x
  step_told s x told n reply =
      let to = step_to s x in
      let h = drawn (next_numbers s) (happen s.core x) in
      let test : takes_more s x ≡ nat_lt (taken_before s x) (taken_in h.state.parked n) = ap (has_taken_more (taken_before s x) (step s x).state) reply ∙ ap (λ calls. nat_lt (taken_before s x) (taken_in calls n)) to.parked in
      subst (λ m. FlowsAsTold m (step s x).flow) (sym test) (subst (FlowsAsTold (nat_lt (taken_before s x) (taken_in h.state.parked n))) (sym to.flow) (told n (sym to.reply ∙ reply)))

  pub write_as_told : (s : State A) (pid : ℕ) (fd : ℤ) (bytes : List ℕ) → AreInOrder s.core → MovesAsTold s (Begin pid (Call.Write fd bytes))
  write_as_told s pid fd bytes order = step_told s (Begin pid (Call.Write fd bytes)) (write_told s pid fd bytes order)

  pub again_as_told : (s : State A) (c : ℕ) → AreInOrder s.core → MovesAsTold s (Resume c)
  again_as_told s c order = step_told s (Resume c) (again_step_told s c order)
