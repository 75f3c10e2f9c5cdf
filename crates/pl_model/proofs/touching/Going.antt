-- A call that waits goes on waiting through each step that isn't of it.
use Rattle.std.proofs.Common.{◌≡◌, ℕ, Bool, true, false, cond, List, Option, nat_eq, refl, sym, ap, subst, ◌∙◌}
use Rattle.std.specs.Prelude.{◌&&◌, ◌==◌, option_map}
use Rattle.std.specs.declared.option.Option.TheVariants.{None, Some}
use Rattle.pl_model.specs.declared.calls.Call.{Call}
use Rattle.pl_model.specs.declared.calls.Mode.{Mode}
use Rattle.pl_model.specs.declared.calls.Step.{Step}
use Rattle.pl_model.specs.declared.calls.Step.TheVariants.{Start, Begin, Resume, Interrupt}
use Rattle.pl_model.specs.declared.flags.OpenFlags.{OpenFlags}
use Rattle.pl_model.specs.declared.replies.Reply.TheVariants.{NoProcess, CallsSpent, Parked}
use Rattle.pl_model.specs.Numbers.{last_call}
use Rattle.pl_model.specs.Map.{Map, get}
use Rattle.pl_model.specs.Keys.{Node, NewKeys, Plain, Draws, PipeNode, FileNode, drawn, drawing_map}
use Rattle.pl_model.specs.State.{Core, Waiting, can_wait}
use Rattle.pl_model.specs.Trial.{Trial, Flow, Done, Wait, Begun, Begins, Refused, Answered, Tried, flowed}
use Rattle.pl_model.specs.Tables.{lowest_pid}
use Rattle.pl_model.specs.Fifo.{meet, meets}
use Rattle.pl_model.specs.Begin.{open_named, begin_open_name}
use Rattle.pl_model.specs.Step.{Stepped, try, begin, begun, first_tried, waiting, stepped, parked, happen, core_step, resumed, tried_again, interrupted, started, without_call}
use Rattle.pl_model.specs.Touching.{is_exit, is_of_call}
use Rattle.pl_model.specs.TouchingLaw.{GoesOn}
use Rattle.pl_model.specs.Numbered.{numbers}
use Rattle.pl_model.proofs.by_call.Ways.{BegunAll, LeadsTo, TrialAll, ways}
use Rattle.pl_model.proofs.settling.Meeting.{met_by, meet-get}
use Rattle.pl_model.proofs.streams.Does.{flowed_parked}
use Rattle.pl_model.proofs.streams.Maps.{append_old}
use Rattle.pl_model.proofs.touching.Parked.{settled-parked, core_step-is}
use Rattle.pl_model.proofs.touching.Staying.{AsParked, Stays, try_parked, other_stays, end_stays, again_stays}

module _ {A : Type 0} (c : Core A numbers) (new : NewKeys numbers) (n : ℕ) (w : Waiting A numbers) (here : get nat_eq c.parked n ≡ Some w) where
  -- the call goes on waiting
  abbrev pub Waits : Core A numbers → Type 0
  Waits u = GoesOn u n w

  -- it does in such a list of calls
  abbrev WaitsIn : Map ℕ (Waiting A numbers) → Type 0
  WaitsIn es = (met : Bool) × (get nat_eq es n ≡ Some (record w { met = met }))

  waits_so : (u : Core A numbers) → Stays c new n w here u → Waits u
  waits_so u h = (w.met, h)

  waits_here : Waits c
  waits_here = waits_so c here

  begun_so : (b : Begun A numbers) → BegunAll (Stays c new n w here) b → BegunAll Waits b
  begun_so (Refused errno) h = tt
  begun_so (Answered u reply) h = waits_so u h
  begun_so (Tried u kept met may_wait) h = waits_so u h

  leads_so : (b : Begins A numbers) → LeadsTo new (BegunAll (Stays c new n w here)) b → LeadsTo new (BegunAll Waits) b
  unfolding LeadsTo
  leads_so b h = begun_so (drawn new b) h

  -- an open that it meets leaves it parked, as one that was met
  met_waits : (p : ℕ) (mode : Mode) → Waits (meet c p mode)
  met_waits p mode = at (meets c p mode w) (meet-get c p mode n ∙ ap (option_map (met_by c p mode)) here)
    where
      at : (b : Bool) → get nat_eq (meet c p mode).parked n ≡ Some (cond b (record w { met = true }) w) → Waits (meet c p mode)
      at true found = (true, found)
      at false found = (w.met, found)

  truncate_waits : (b : Bool) (u v : Core A numbers) → Waits u → Waits v → Waits (cond b u v)
  truncate_waits true u v h k = h
  truncate_waits false u v h k = k

  named_waits : (pid fd : ℕ) (name : List ℕ) (o : Option (Node numbers)) (mode : Mode) (flags : OpenFlags) → LeadsTo new (BegunAll Waits) (open_named c pid fd name o mode flags)
  named_waits pid fd name None mode flags = search (ways, waits_here)
  named_waits pid fd name (Some (FileNode f)) mode flags = search (ways, truncate_waits, waits_here)
  named_waits pid fd name (Some (PipeNode p)) mode flags = search (ways, met_waits, waits_here) depth 14

  open_waits : (pid : ℕ) (name : List ℕ) (mode : Mode) (flags : OpenFlags) → LeadsTo new (BegunAll Waits) (begin_open_name c pid name mode flags)
  unfolding begin_open_name
  open_waits pid name mode flags = search (ways, named_waits) depth 14

  begin_waits : (pid : ℕ) (call : Call A) → (is_exit call && nat_eq w.pid pid) ≡ false → LeadsTo new (BegunAll Waits) (begin c pid call)
  unfolding begin
  begin_waits pid (Call.OpenName name mode flags) other = open_waits pid name mode flags
  begin_waits pid call other = leads_so (begin c pid call) (other_stays c new n w here pid call refl other)

  flow_waits : (s u : Core A numbers) (flow : Flow numbers) → Waits s → u.parked ≡ s.parked → Waits (flowed u flow)
  flow_waits s u flow h same = subst WaitsIn (sym (flowed_parked u flow ∙ same)) h

  first_waits : (s : Core A numbers) (v : Waiting A numbers) (may_wait : Bool) (t : Trial A numbers) → Waits s → TrialAll (AsParked s) t → Waits (first_tried c v may_wait t).state
  first_waits s v may_wait (Done u flow reply) h k = flow_waits s u flow h k
  first_waits s v false (Wait u flow taken) h k = waits_here
  first_waits s v true (Wait u flow taken) h k = spent (c.next_call == last_call)
    where
      spent : (b : Bool) → Waits (cond b (stepped c CallsSpent) (record { state = parked (flowed u flow) (record v { taken = taken }); reply = Parked c.next_call; flow = flow })).state
      spent true = waits_here
      spent false =
          let old = flow_waits s u flow h k in
          (old.0, append_old (flowed u flow).parked (flowed u flow).next_call n (record v { taken = taken }) (record w { met = old.0 }) old.1)

  begun_waits : (pid : ℕ) (call : Call A) (b : Begun A numbers) → BegunAll Waits b → Waits (begun c pid call b).state
  begun_waits pid call (Refused errno) k = waits_here
  begun_waits pid call (Answered u reply) k = k
  begun_waits pid call (Tried u kept met may_wait) k = first_waits u (waiting pid call kept met) (may_wait && can_wait c pid) _ k (try_parked u (waiting pid call kept met) call may_wait)

  resumed_waits : (k : ℕ) → nat_eq k n ≡ false → (o : Option (Waiting A numbers)) → Waits (resumed c k o).state
  resumed_waits k other None = waits_here
  resumed_waits k other (Some v) = waits_so (tried_again k v (try c v v.call true)).state (again_stays c new n w here k v (try c v v.call true) other (try_parked c v v.call true))

  interrupted_waits : (k : ℕ) → nat_eq k n ≡ false → (o : Option (Waiting A numbers)) → Waits (interrupted c k o).state
  interrupted_waits k other None = waits_here
  interrupted_waits k other (Some v) = waits_so (without_call c k) (end_stays c new n w here c k other here)

  started_waits : (pid : Option ℕ) → Waits (started c pid).state
  started_waits None = waits_here
  started_waits (Some pid) = waits_here

  happen_waits : (x : Step A) → is_of_call x n w ≡ false → Waits (drawn new (happen c x)).state
  unfolding happen LeadsTo
  happen_waits Start other = started_waits (lowest_pid c)
  happen_waits (Begin pid call) other = found (c.processes pid)
    where
      drawn_waits : (b : Begins A numbers) → LeadsTo new (BegunAll Waits) b → Waits (drawn new (drawing_map (begun c pid call) b)).state
      drawn_waits (Plain b) k = begun_waits pid call b k
      drawn_waits (Draws f) k = begun_waits pid call (f new) k

      found : (b : Bool) → Waits (drawn new (cond b (drawing_map (begun c pid call) (begin c pid call)) (Plain (stepped c NoProcess)))).state
      found true = drawn_waits (begin c pid call) (begin_waits pid call other)
      found false = waits_here
  happen_waits (Resume k) other = resumed_waits k other (get nat_eq c.parked k)
  happen_waits (Interrupt k) other = interrupted_waits k other (get nat_eq c.parked k)

  -- So it does to the end of the step.
  pub step_waits : (x : Step A) → is_of_call x n w ≡ false → Waits (drawn new (core_step c x)).state
  step_waits x other =
      let h = (drawn new (happen c x)).state in
      subst (λ (z : Stepped A numbers). Waits z.state) (sym (core_step-is c x new))
      (subst WaitsIn (sym (settled-parked c h)) (happen_waits x other))
