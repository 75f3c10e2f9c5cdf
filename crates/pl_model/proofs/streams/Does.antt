-- What one step does to the parked calls, and whose bytes it moves.
use Rattle.std.proofs.lemmas.Bool.{eqb-true}
use Rattle.std.proofs.Common.{◌≡◌, ℕ, ℤ, ◌+◌, Bool, true, false, cond, Option, List, [], ◌∷◌, ◌++◌, length, refl, sym, ◌∙◌, ap, subst, nat_eq, arith}
use Rattle.std.specs.Prelude.{◌==◌, nat_lt, not, map, ◌&&◌, ◌||◌}
use Rattle.std.specs.declared.option.Option.TheVariants.{None, Some}
use Rattle.std.specs.List.{filter}
use Rattle.pl_model.specs.declared.replies.Errno.TheVariants.{EINVAL}
use Rattle.pl_model.specs.declared.calls.Call.{Call}
use Rattle.pl_model.specs.declared.calls.Step.{Step}
use Rattle.pl_model.specs.declared.calls.Step.TheVariants.{Start, Begin, Resume, Interrupt}
use Rattle.pl_model.specs.declared.cases.ReadCase.{ReadCase}
use Rattle.pl_model.specs.declared.cases.WriteCase.{WriteCase}
use Rattle.pl_model.specs.declared.cases.MoveCase.{MoveCase}
use Rattle.pl_model.specs.declared.flags.PollMask.{PollMask}
use Rattle.pl_model.specs.declared.replies.Reply.{Reply}
use Rattle.pl_model.specs.declared.replies.Reply.TheVariants.{NoProcess, CallsSpent, Parked, Fault}
use Rattle.pl_model.specs.Numbers.{last_call}
use Rattle.pl_model.specs.Map.{Map, get, put, EachOnce}
use Rattle.pl_model.specs.Keys.{Node, NewKeys, Plain, Draws, PipeNode, FileNode, drawn, drawing_map}
use Rattle.pl_model.specs.State.{Core, Description, Open, Waiting, can_wait}
use Rattle.pl_model.specs.Live.{readers}
use Rattle.pl_model.specs.Trial.{Trial, Done, Wait, Flow, still, flowed, lost, gained, pipe_at, Begun, Begins, Refused, Answered, Tried}
use Rattle.pl_model.specs.Transfer.{room, read_case, read_row, read_pipe, read_file, write_case, write_row, write_pipe, write_file, write_node, read_node}
use Rattle.pl_model.specs.Splice.{Side, is_packet_pipe, move_case, move_row, source_of, target_of, try_move}
use Rattle.pl_model.specs.Poll.{try_poll}
use Rattle.pl_model.specs.Tables.{lowest, lowest_pid}
use Rattle.pl_model.specs.Fifo.{meets}
use Rattle.pl_model.specs.Step.{Stepped, try, try_open, opened_by, with_kept, kept_at, begin, begun, happen, first_tried, interrupted, parked, resumed, started, stepped, tried_again, waiting}
use Rattle.pl_model.specs.Numbered.{numbers}
use Rattle.pl_model.specs.Chunks.{OfCall, AtPlace, tag_answered, tag_of}
use Rattle.pl_model.specs.InOrder.{HasTaken, AreInOrder}
use Rattle.pl_model.proofs.by_call.Ways.{BegunAll, LeadsTo, TrialAll}
use Rattle.pl_model.proofs.by_call.Keeps.{Changes, begin-keeps, try-keeps}
use Rattle.pl_model.proofs.streams.Maps.{filter_from, filter_once}
use Rattle.pl_model.proofs.streams.Writes.{CaseSays, case_says, says_parked}

module _ {A : Type 0} where
  -- the parked calls are among those of before, but that an open of them may have met its other end
  pub record AmongCalls (before : Map ℕ (Waiting A numbers)) (next_before : ℕ) (now : Map ℕ (Waiting A numbers)) (next_now : ℕ) : Type 0 where
    pub once : EachOnce nat_eq now
    pub next : next_now ≡ next_before
    pub from : (c : ℕ) (w : Waiting A numbers) → get nat_eq now c ≡ Some w → (met : Bool) × (get nat_eq before c ≡ Some (record w { met = met }))

  abbrev pub Among : Core A numbers → Core A numbers → Type 0
  Among s u = AmongCalls s.parked s.next_call u.parked u.next_call

  pub among_same : (s : Core A numbers) → EachOnce nat_eq s.parked → Among s s
  among_same s once = record { once = once; next = refl; from = λ c w h. (w.met, h) }

  -- the calls with some of them met
  module _ (meets : Waiting A numbers → Bool) where
    abbrev marked : ℕ × Waiting A numbers → ℕ × Waiting A numbers
    marked e = (e.0, cond (meets e.1) (record e.1 { met = true }) e.1)

    unmarked : (x w : Waiting A numbers) (b : Bool) → Some (cond b (record x { met = true }) x) ≡ Some w → (met : Bool) × (Some x ≡ Some (record w { met = met }))
    unmarked x w true h = (x.met, (let same : record x { met = true } ≡ w = cc in ap (λ (z : Waiting A numbers). Some (record z { met = x.met })) same))
    unmarked x w false h = (w.met, h)

    marked_from : (es : Map ℕ (Waiting A numbers)) (c : ℕ) (w : Waiting A numbers) → get nat_eq (map marked es) c ≡ Some w → (met : Bool) × (get nat_eq es c ≡ Some (record w { met = met }))
    marked_from [] c w h = absurd (cc)
    marked_from (e ∷ es) c w h = at (nat_eq e.0 c) h (marked_from es c w)
      where
        at : (b : Bool) → cond b (Some (marked e).1) (get nat_eq (map marked es) c) ≡ Some w → (get nat_eq (map marked es) c ≡ Some w → (met : Bool) × (get nat_eq es c ≡ Some (record w { met = met })))
            → (met : Bool) × (cond b (Some e.1) (get nat_eq es c) ≡ Some (record w { met = met }))
        at true h rest = unmarked e.1 w (meets e.1) h
        at false h rest = rest h

    marked_none : (es : Map ℕ (Waiting A numbers)) (c : ℕ) → get nat_eq es c ≡ None → get nat_eq (map marked es) c ≡ None
    marked_none [] c h = refl
    marked_none (e ∷ es) c h = at (nat_eq e.0 c) h (marked_none es c)
      where
        at : (b : Bool) → cond b (Some e.1) (get nat_eq es c) ≡ None → (get nat_eq es c ≡ None → get nat_eq (map marked es) c ≡ None) → cond b (Some (marked e).1) (get nat_eq (map marked es) c) ≡ None
        at true h rest = absurd (cc)
        at false h rest = rest h

    marked_once : (es : Map ℕ (Waiting A numbers)) → EachOnce nat_eq es → EachOnce nat_eq (map marked es)
    marked_once [] h = tt
    marked_once (e ∷ es) h = (marked_none es e.0 h.0, marked_once es h.1)

    among_marked : (before : Map ℕ (Waiting A numbers)) (m n : ℕ) (es : Map ℕ (Waiting A numbers)) → AmongCalls before m es n → AmongCalls before m (map marked es) n
    among_marked before m n es h =
        record {
          once = marked_once es h.once;
          next = h.next;
          from = λ c w g. let f = marked_from es c w g in h.from c (record w { met = f.0 }) f.1;
        }

  among_filter : (s u : Core A numbers) (t : ℕ × Waiting A numbers → Bool) → Among s u → AmongCalls s.parked s.next_call (filter t u.parked) u.next_call
  among_filter s u t h = record { once = filter_once t u.parked h.once; next = h.next; from = λ c w g. h.from c w (filter_from t u.parked c w h.once g) }

  pub among_changes : (new : NewKeys numbers) (s : Core A numbers) → Changes new (Among s)
  among_changes new s =
      record {
        one = eqb-true;
        install = λ u pid fd d h. h;
        close_row = λ u pid fd h. h;
        describe_other = λ u node mode flags h. h;
        describe = λ u node mode flags h. h;
        set_description = λ u d x on h. h;
        new_pipe = λ u direct h. h;
        set_capacity = λ u p size h. h;
        set_file = λ u f bytes h. h;
        create_file = λ u name h. h;
        create_fifo = λ u name h. h;
        meet = λ u p mode h. among_marked (meets u p mode) s.parked s.next_call u.next_call u.parked h;
        forget_name = λ u name h. h;
        fork = λ u pid child h. h;
        exit = λ u pid h. among_filter s u (λ c. not (nat_eq c.1.pid pid)) h;
      }

  pub flowed_parked : (u : Core A numbers) (flow : Flow numbers) → (flowed u flow).parked ≡ u.parked
  unfolding flowed
  flowed_parked u flow = into (lost u flow.out) flow.into ∙ out flow.out
    where
      into : (v : Core A numbers) (i : Option (ℕ × List ℕ)) → (gained v i).parked ≡ v.parked
      into v None = refl
      into v (Some i) = refl

      out : (o : Option (ℕ × ℕ)) → (lost u o).parked ≡ u.parked
      out None = refl
      out (Some o) = refl

  flowed_next : (u : Core A numbers) (flow : Flow numbers) → (flowed u flow).next_call ≡ u.next_call
  unfolding flowed
  flowed_next u flow = into (lost u flow.out) flow.into ∙ out flow.out
    where
      into : (v : Core A numbers) (i : Option (ℕ × List ℕ)) → (gained v i).next_call ≡ v.next_call
      into v None = refl
      into v (Some i) = refl

      out : (o : Option (ℕ × ℕ)) → (lost u o).next_call ≡ u.next_call
      out None = refl
      out (Some o) = refl

  pub among_flowed : (s u : Core A numbers) (flow : Flow numbers) → Among s u → Among s (flowed u flow)
  among_flowed s u flow h =
      subst (λ es. AmongCalls s.parked s.next_call es (flowed u flow).next_call) (sym (flowed_parked u flow))
      (subst (λ n. AmongCalls s.parked s.next_call u.parked n) (sym (flowed_next u flow)) h)

  -- a try answers and doesn't say that the call waits, or it waits with some bytes taken
  abbrev pub TrialFine : Call A → Trial A numbers → Type 0
  TrialFine call (Done u flow reply) = says_parked reply ≡ false
  TrialFine call (Wait u flow t) = HasTaken call t

  fine_if : (call : Call A) (b : Bool) (x y : Trial A numbers) → TrialFine call x → TrialFine call y → TrialFine call (cond b x y)
  fine_if call true x y f g = f
  fine_if call false x y f g = g

  read_fine : (s : Core A numbers) (p : ℕ) (fd : ℤ) (n : ℕ) (row : ReadCase) → TrialFine (Call.Read fd n) (read_row s p (pipe_at s p) row)
  read_fine s p fd n (ReadCase.Gives k) = refl
  read_fine s p fd n ReadCase.EndOfFile = refl
  read_fine s p fd n ReadCase.Waits = tt

  write_fine : (s : Core A numbers) (p : ℕ) (fd : ℤ) (bytes : List ℕ) (t : ℕ) (may_wait : Bool) (row : WriteCase) → CaseSays (length bytes) t may_wait row → TrialFine (Call.Write fd bytes) (write_row s p bytes t row)
  write_fine s p fd bytes t may_wait WriteCase.Broken says = refl
  write_fine s p fd bytes t may_wait WriteCase.CutShort says = refl
  write_fine s p fd bytes t may_wait (WriteCase.Ends from to) says = refl
  write_fine s p fd bytes t may_wait (WriteCase.Waits from to) says = (says.2, says.3)

  read_node_fine : (s : Core A numbers) (d : ℕ) (x : Description numbers) (node : Node numbers) (fd : ℤ) (n : ℕ) → TrialFine (Call.Read fd n) (read_node s d x node n)
  unfolding read_pipe read_file
  read_node_fine s d x (PipeNode p) fd n = read_fine s p fd n (read_case n _ _)
  read_node_fine s d x (FileNode f) fd n = refl

  write_node_fine : (s : Core A numbers) (d : ℕ) (x : Description numbers) (node : Node numbers) (fd : ℤ) (bytes : List ℕ) (t : ℕ) (may_wait : Bool) →
      HasTaken {A = A} (Call.Write fd bytes) t → (may_wait ≡ false → t ≡ 0) → TrialFine (Call.Write fd bytes) (write_node s d x node bytes t may_wait)
  unfolding write_pipe write_file
  write_node_fine s d x (PipeNode p) fd bytes t may_wait has none =
      write_fine s p fd bytes t may_wait (write_case (length bytes) t _ _ may_wait) (case_says (length bytes) t (room (pipe_at s p)) (nat_lt 0 (readers s p)) may_wait has.0 has.1 none)
  write_node_fine s d x (FileNode f) fd bytes t may_wait has none = search (fine_if)

  opened_fine : (s : Core A numbers) (pid d : ℕ) (place : Option ℕ) (call : Call A) → TrialFine call (opened_by s pid d place)
  opened_fine s pid d None call = refl
  opened_fine s pid d (Some fd) call = refl

  open_fine : (s : Core A numbers) (w : Waiting A numbers) (call : Call A) → HasTaken call w.taken → TrialFine call (try_open s w)
  open_fine s w call has = fine_if call w.met _ _ (at (kept_at s w.kept 0)) has
    where
      at : (o : Option (Open numbers)) → TrialFine call (with_kept s o (λ o. opened_by s w.pid o.key (lowest s w.pid 0)))
      at None = refl
      at (Some o) = opened_fine s w.pid o.key (lowest s w.pid 0) call

  fine_kept : (call : Call A) (s : Core A numbers) (o : Option (Open numbers)) (next : Open numbers → Trial A numbers) → ((x : Open numbers) → TrialFine call (next x)) → TrialFine call (with_kept s o next)
  fine_kept call s None next h = refl
  fine_kept call s (Some x) next h = h x

  move_row_fine : (s : Core A numbers) (from to : Side numbers) (is_tee : Bool) (row : MoveCase) (call : Call A) → HasTaken call 0 → TrialFine call (move_row s from to is_tee row)
  move_row_fine s from to is_tee MoveCase.Broken call has = refl
  move_row_fine s from to is_tee MoveCase.EndOfInput call has = refl
  move_row_fine s from to is_tee MoveCase.Waits call has = has
  move_row_fine s from to is_tee MoveCase.TooBig call has = refl
  move_row_fine s from to is_tee (MoveCase.Moves k) call has = refl

  move_fine : (s : Core A numbers) (from to : Side numbers) (len : ℕ) (is_tee : Bool) (call : Call A) → HasTaken call 0 → TrialFine call (try_move s from to len is_tee)
  unfolding try_move
  move_fine s from to len is_tee call has = at (is_packet_pipe s from.description.node || is_packet_pipe s to.description.node)
    where
      at : (packets : Bool) → TrialFine call (cond packets (Done s still (Fault EINVAL)) (move_row s from to is_tee (move_case (source_of s from from.description.node) (target_of s to to.description.node) len)))
      at true = refl
      at false = move_row_fine s from to is_tee (move_case (source_of s from from.description.node) (target_of s to to.description.node) len) call has

  poll_fine : (s : Core A numbers) (entries : List (ℤ × PollMask)) (kept : List ℕ) (may_wait : Bool) (call : Call A) → HasTaken call 0 → TrialFine call (try_poll s entries kept may_wait)
  unfolding try_poll
  poll_fine s entries kept may_wait call has = search (fine_if)

  pub try_fine : (s : Core A numbers) (w : Waiting A numbers) (call : Call A) (may_wait : Bool) → HasTaken call w.taken → (may_wait ≡ false → w.taken ≡ 0) → TrialFine call (try s w call may_wait)
  unfolding try
  try_fine s w (Call.Read fd n) may_wait has none = at (kept_at s w.kept 0) where
    at : (o : Option (Open numbers)) → TrialFine (Call.Read fd n) (with_kept s o (λ o. read_node s o.key o.description o.description.node n))
    at None = refl
    at (Some o) = read_node_fine s o.key o.description o.description.node fd n
  try_fine s w (Call.Write fd bytes) may_wait has none = at (kept_at s w.kept 0) where
    at : (o : Option (Open numbers)) → TrialFine (Call.Write fd bytes) (with_kept s o (λ o. write_node s o.key o.description o.description.node bytes w.taken may_wait))
    at None = refl
    at (Some o) = write_node_fine s o.key o.description o.description.node fd bytes w.taken may_wait has none
  try_fine s w (Call.OpenName name mode flags) may_wait has none = open_fine s w (Call.OpenName name mode flags) has
  try_fine s w (Call.Splice from from_offset to to_offset len flags) may_wait has none = search (fine_kept, move_fine)
  try_fine s w (Call.Tee from to len flags) may_wait has none = search (fine_kept, move_fine)
  try_fine s w (Call.Poll entries wait) may_wait has none = poll_fine s entries w.kept may_wait (Call.Poll entries wait) has
  try_fine s w call may_wait has none = has

  pub has_none : (call : Call A) → HasTaken call 0
  has_none (Call.Write fd bytes) = (omega arith, λ h. refl)
  has_none call = tt

  pub at_its_place : (place : ℕ) (reply : Reply A) → says_parked reply ≡ false → tag_answered place reply ≡ AtPlace place
  at_its_place place (Parked c) h = absurd (cc)
  at_its_place place reply h = refl

  -- The kinds of steps: no byte moves; a call that begins is answered; one is parked, under the next number; a parked one is
  -- tried again, and ends or still waits.
  pub data Does (s : Core A numbers) (x : Step A) (h : Stepped A numbers) : Type 0 where
    Quiet : Among s h.state → h.flow ≡ still → Does s x h
    Answers : Among s h.state → ((place : ℕ) → tag_of place x h.reply ≡ AtPlace place) → Does s x h
    Parks : (u : Core A numbers) (w : Waiting A numbers) → Among s u → h.state.parked ≡ u.parked ++ (s.next_call, w) ∷ [] → h.state.next_call ≡ s.next_call + 1 →
        HasTaken w.call w.taken → ((place : ℕ) → tag_of place x h.reply ≡ OfCall s.next_call) → Does s x h
    Ends : (c : ℕ) (w : Waiting A numbers) → x ≡ Resume c → get nat_eq s.parked c ≡ Some w → Among s h.state → Does s x h
    Again : (c : ℕ) (w now : Waiting A numbers) → x ≡ Resume c → get nat_eq s.parked c ≡ Some w → (u : Core A numbers) → Among s u →
        h.state.parked ≡ put nat_eq u.parked c now → h.state.next_call ≡ s.next_call → HasTaken now.call now.taken → Does s x h

module _ {A : Type 0} (new : NewKeys numbers) (s : Core A numbers) (order : AreInOrder s) where
  first_does : (pid : ℕ) (call : Call A) (w : Waiting A numbers) (may_wait : Bool) (t : Trial A numbers) → w.call ≡ call → TrialAll (Among s) t → TrialFine call t → Does s (Begin pid call) (first_tried s w may_wait t)
  first_does pid call w may_wait (Done u flow reply) same k fine = Answers (among_flowed s u flow k) (λ place. at_its_place place reply fine)
  first_does pid call w false (Wait u flow taken) same k fine = Quiet (among_same s order.once) refl
  first_does pid call w true (Wait u flow taken) same k fine = spent (s.next_call == last_call)
    where
      spent : (b : Bool) → Does s (Begin pid call) (cond b (stepped s CallsSpent) (record { state = parked (flowed u flow) (record w { taken = taken }); reply = Parked s.next_call; flow = flow }))
      spent true = Quiet (among_same s order.once) refl
      spent false =
          let f = among_flowed s u flow k in
          Parks (flowed u flow) (record w { taken = taken }) f (ap (λ n. (flowed u flow).parked ++ (n, record w { taken = taken }) ∷ []) f.next) (ap (λ n. n + 1) f.next)
          (subst (λ z. HasTaken z taken) (sym same) fine) (λ place. refl)

  begun_does : (pid : ℕ) (call : Call A) (b : Begun A numbers) → BegunAll (Among s) b → Does s (Begin pid call) (begun s pid call b)
  begun_does pid call (Refused errno) k = Quiet (among_same s order.once) refl
  begun_does pid call (Answered u reply) k = Quiet k refl
  begun_does pid call (Tried u kept met may_wait) k =
      first_does pid call (waiting pid call kept met) (may_wait && can_wait s pid) _ refl (try-keeps (among_changes new s) u (waiting pid call kept met) call may_wait k)
      (try_fine u (waiting pid call kept met) call may_wait (has_none call) (λ e. refl))

  again_does : (c : ℕ) (w : Waiting A numbers) (t : Trial A numbers) → get nat_eq s.parked c ≡ Some w → TrialAll (Among s) t → TrialFine w.call t → Does s (Resume c) (tried_again c w t)
  again_does c w (Done u flow reply) here k fine = Ends c w refl here (among_filter s (flowed u flow) (λ e. not (nat_eq c e.0)) (among_flowed s u flow k))
  again_does c w (Wait u flow taken) here k fine =
      let f = among_flowed s u flow k in
      Again c w (record w { taken = taken }) refl here (flowed u flow) f refl f.next fine

  resumed_does : (c : ℕ) (o : Option (Waiting A numbers)) → get nat_eq s.parked c ≡ o → Does s (Resume c) (resumed s c o)
  resumed_does c None here = Quiet (among_same s order.once) refl
  resumed_does c (Some w) here =
      again_does c w _ here (try-keeps (among_changes new s) s w w.call true (among_same s order.once)) (try_fine s w w.call true (order.taken c w here) (λ e. absurd (cc)))

  interrupted_does : (c : ℕ) (o : Option (Waiting A numbers)) → Does s (Interrupt c) (interrupted s c o)
  interrupted_does c None = Quiet (among_same s order.once) refl
  interrupted_does c (Some w) = Quiet (among_filter s s (λ e. not (nat_eq c e.0)) (among_same s order.once)) refl

  started_does : (pid : Option ℕ) → Does s Start (started s pid)
  started_does None = Quiet (among_same s order.once) refl
  started_does (Some pid) = Quiet (among_same s order.once) refl

  pub does : (x : Step A) → Does s x (drawn new (happen s x))
  unfolding happen LeadsTo
  does Start = started_does (lowest_pid s)
  does (Begin pid call) = found (s.processes pid)
    where
      drawn_does : (b : Begins A numbers) → LeadsTo new (BegunAll (Among s)) b → Does s (Begin pid call) (drawn new (drawing_map (begun s pid call) b))
      drawn_does (Plain b) k = begun_does pid call b k
      drawn_does (Draws f) k = begun_does pid call (f new) k

      found : (b : Bool) → Does s (Begin pid call) (drawn new (cond b (drawing_map (begun s pid call) (begin s pid call)) (Plain (stepped s NoProcess))))
      found true = drawn_does (begin s pid call) (begin-keeps (among_changes new s) s pid call (among_same s order.once))
      found false = Quiet (among_same s order.once) refl
  does (Resume c) = resumed_does c (get nat_eq s.parked c) refl
  does (Interrupt c) = interrupted_does c (get nat_eq s.parked c)
