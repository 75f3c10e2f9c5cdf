-- A call that begins, waits, and took no byte leaves every call as it was, if it opens no name.
use Rattle.std.proofs.Common.{◌≡◌, ℕ, ℤ, ◌<◌, Bool, true, false, cond, Option, List, [], ◌∷◌, ◌++◌, refl, sym, ◌∙◌, ap, subst, nat_eq, arith}
use Rattle.std.specs.Prelude.{IsSome, option_map, ◌&&◌, ◌==◌}
use Rattle.std.specs.Set.{is_member}
use Rattle.std.specs.declared.option.Option.TheVariants.{None, Some}
use Rattle.std.proofs.lemmas.Bool.{eq-eqb, eqb-true}
use Rattle.pl_model.specs.declared.calls.Mode.{Mode}
use Rattle.pl_model.specs.declared.calls.Call.{Call}
use Rattle.pl_model.specs.declared.calls.Step.TheVariants.{Begin}
use Rattle.pl_model.specs.declared.flags.PollMask.{PollMask}
use Rattle.pl_model.specs.declared.replies.Reply.TheVariants.{Parked, NoProcess, CallsSpent}
use Rattle.pl_model.specs.Numbers.{last_call}
use Rattle.pl_model.specs.Map.{get}
use Rattle.pl_model.specs.Keys.{NewKeys, Plain, Draws, drawn, drawing_map}
use Rattle.pl_model.specs.State.{Core, Description, Open, Waiting, described, can_wait}
use Rattle.pl_model.specs.Live.{is_live}
use Rattle.pl_model.specs.Trial.{Trial, Flow, Done, Wait, Begun, Begins, Refused, Answered, Tried, flowed, lost, gained}
use Rattle.pl_model.specs.Begin.{open_fd, open_for, begin_pipe, begin_mkfifo, begin_read, begin_write, begin_splice, begin_tee, begin_poll, begin_dup, begin_dup2, begin_dup_fd, begin_close, begin_lseek, begin_get_fl, begin_set_fl, begin_get_pipe_sz, begin_set_pipe_sz, begin_unlink, begin_fork}
use Rattle.pl_model.specs.Step.{Stepped, try, begin, begun, first_tried, waiting, stepped, parked, happen, core_step, ended}
use Rattle.pl_model.specs.Numbered.{numbers}
use Rattle.pl_model.specs.Laws.{IsSettled}
use Rattle.pl_model.specs.InOrder.{AreInOrder}
use Rattle.pl_model.specs.Waking.{can_progress, MovesNoByte}
use Rattle.pl_model.specs.TouchingLaw.{opens_name}
use Rattle.pl_model.proofs.by_call.Ways.{LeadsTo, Refusable, ways}
use Rattle.pl_model.proofs.by_call.Refusals.{Fair, IsFair, try-fair}
use Rattle.pl_model.proofs.by_call.InVain.{Idle, try-idle}
use Rattle.pl_model.proofs.by_call.Polls.{open-described, kept_now, kept-described}
use Rattle.pl_model.proofs.settling.Members.{or_elim}
use Rattle.pl_model.proofs.settling.WhoIsLive.{settled-live}
use Rattle.pl_model.proofs.streams.Maps.{append_new}
use Rattle.pl_model.proofs.streams.Writes.{says_parked}
use Rattle.pl_model.proofs.streams.BegunRuns.{opened}
use Rattle.pl_model.proofs.touching.SameAt.{IsFit}
use Rattle.pl_model.proofs.touching.Parked.{member_has, settled-parked, core_step-is, Stays}
use Rattle.pl_model.proofs.touching.Idle.{IsLeft, left-stays, flowed-is, parked-left}

module _ {A : Type 0} where
  flowed-parked : (s : Core A numbers) (flow : Flow numbers) → (flowed s flow).parked ≡ s.parked
  unfolding flowed
  flowed-parked s flow = into (lost s flow.out) flow.into ∙ out flow.out
    where
      into : (u : Core A numbers) (i : Option (ℕ × List ℕ)) → (gained u i).parked ≡ u.parked
      into u None = refl
      into u (Some i) = refl

      out : (o : Option (ℕ × ℕ)) → (lost s o).parked ≡ s.parked
      out None = refl
      out (Some o) = refl

  flowed-next : (s : Core A numbers) (flow : Flow numbers) → (flowed s flow).next_call ≡ s.next_call
  unfolding flowed
  flowed-next s flow = into (lost s flow.out) flow.into ∙ out flow.out
    where
      into : (u : Core A numbers) (i : Option (ℕ × List ℕ)) → (gained u i).next_call ≡ u.next_call
      into u None = refl
      into u (Some i) = refl

      out : (o : Option (ℕ × ℕ)) → (lost s o).next_call ≡ s.next_call
      out None = refl
      out (Some o) = refl

  -- a new number is new
  no_call : (c : Core A numbers) → AreInOrder c → get nat_eq c.parked c.next_call ≡ None
  no_call c order = at (get nat_eq c.parked c.next_call) refl
    where
      at : (o : Option (Waiting A numbers)) → get nat_eq c.parked c.next_call ≡ o → o ≡ None
      at None e = refl
      at (Some w) e = absurd (let below : c.next_call < c.next_call = order.below c.next_call w e in omega arith)

module _ {A : Type 0} (c : Core A numbers) where
  -- a try of a call in the state of before, with descriptions that are there
  pub record IsTriedHere (s : Core A numbers) (kept : List ℕ) : Type 0 where
    pub same : s ≡ c
    pub there : (d : ℕ) → is_member nat_eq kept d ≡ true → IsSome (c.descriptions d)

  -- the checks of a call answer that it doesn't wait, or lead to such a try
  abbrev pub LeadsHere : Begun A numbers → Type 0
  LeadsHere (Refused errno) = Unit {0}
  LeadsHere (Answered s reply) = says_parked reply ≡ false
  LeadsHere (Tried s kept met may_wait) = IsTriedHere s kept

  refusable : Refusable LeadsHere
  refusable = record { refused = λ errno. tt }

  some_described : (d : ℕ) → IsSome (described c d) → IsSome (c.descriptions d)
  some_described d h = at (c.descriptions d) h
    where
      at : (o : Option (Description numbers)) → IsSome {T = Open numbers} (option_map (λ x. record { key = d; description = x }) o) → IsSome o
      at None h = absurd (cc)
      at (Some x) h = refl

  module _ (pid : ℕ) where
    key_there : (test : Mode → Bool) (fd : ℤ) (o : Open numbers) → open_for test c pid fd ≡ Some o → IsSome (c.descriptions o.key)
    key_there test fd o h = some_described o.key (subst (λ z. IsSome z) (sym (open-described c pid fd o (opened test (open_fd c pid fd) o h))) refl)

    at_key : (k d : ℕ) → IsSome (c.descriptions k) → nat_eq d k ≡ true → IsSome (c.descriptions d)
    at_key k d there same = subst (λ z. IsSome (c.descriptions z)) (sym (eqb-true d k same)) there

    tries_one : (test : Mode → Bool) (fd : ℤ) (o : Open numbers) → open_for test c pid fd ≡ Some o → IsTriedHere c (o.key ∷ [])
    tries_one test fd o h = record { same = refl; there = λ d m. or_elim (nat_eq d o.key) false (at_key o.key d (key_there test fd o h)) (λ f. absurd (cc)) m }

    tries_two : (test other : Mode → Bool) (fd fd' : ℤ) (o o' : Open numbers) → open_for test c pid fd ≡ Some o → open_for other c pid fd' ≡ Some o' → IsTriedHere c (o.key ∷ o'.key ∷ [])
    tries_two test other fd fd' o o' h h' = record {
      same = refl;
      there = λ d m. or_elim (nat_eq d o.key) _ (at_key o.key d (key_there test fd o h)) (λ m. or_elim (nat_eq d o'.key) false (at_key o'.key d (key_there other fd' o' h')) (λ f. absurd (cc)) m) m;
    }

    tries_all : (entries : List (ℤ × PollMask)) → IsTriedHere c (kept_now c pid entries)
    tries_all entries = record { same = refl; there = λ d m. some_described d (member_has (λ d. IsSome (described c d)) (kept_now c pid entries) (kept-described c pid entries) d m) }

    begin-here : (new : NewKeys numbers) (call : Call A) → opens_name call ≡ false → LeadsTo new LeadsHere (begin c pid call)
    unfolding begin begin_pipe begin_mkfifo begin_read begin_write begin_splice begin_tee begin_poll begin_dup begin_dup2 begin_dup_fd begin_close begin_lseek begin_get_fl begin_set_fl begin_get_pipe_sz begin_set_pipe_sz begin_unlink begin_fork
    begin-here new (Call.Pipe nonblock direct) off = search (ways, refusable) depth 14
    begin-here new (Call.Mkfifo name) off = search (ways, refusable) depth 14
    begin-here new (Call.OpenName name mode flags) off = absurd (cc)
    begin-here new (Call.Read fd n) off = search (ways, refusable, tries_one) depth 14
    begin-here new (Call.Write fd bytes) off = search (ways, refusable, tries_one) depth 14
    begin-here new (Call.Splice from from_offset to to_offset len flags) off = search (ways, refusable, tries_two) depth 16
    begin-here new (Call.Tee from to len flags) off = search (ways, refusable, tries_two) depth 16
    begin-here new (Call.Poll entries wait) off = search (ways, refusable, tries_all) depth 14
    begin-here new (Call.Dup fd) off = search (ways, refusable) depth 14
    begin-here new (Call.Dup2 fd target) off = search (ways, refusable) depth 14
    begin-here new (Call.DupFd fd least) off = search (ways, refusable) depth 14
    begin-here new (Call.Close fd) off = search (ways, refusable) depth 14
    begin-here new (Call.Lseek fd offset whence) off = search (ways, refusable) depth 14
    begin-here new (Call.GetFl fd) off = search (ways, refusable) depth 14
    begin-here new (Call.SetFl fd flags) off = search (ways, refusable) depth 14
    begin-here new (Call.GetPipeSz fd) off = search (ways, refusable) depth 14
    begin-here new (Call.SetPipeSz fd size) off = search (ways, refusable) depth 14
    begin-here new (Call.Unlink name) off = search (ways, refusable) depth 14
    begin-here new Call.Fork off = search (ways, refusable) depth 14
    begin-here new Call.Exit off = search ways

  -- where the call waits, and took no byte, this is left
  abbrev LeftIfParked : Stepped A numbers → Type 0
  LeftIfParked r = (n : ℕ) (v : Waiting A numbers) → r.reply ≡ Parked n → get nat_eq r.state.parked n ≡ Some v → v.taken ≡ 0 → IsLeft c r.state

  module _ (settled : IsSettled c) (order : AreInOrder c) where
    first-left : (w : Waiting A numbers) → ((d : ℕ) → is_member nat_eq w.kept d ≡ true → is_live c d ≡ true) → (b : Bool) (t : Trial A numbers) → IsFair c t → Idle c 0 t → LeftIfParked (first_tried c w b t)
    first-left w live b (Done u flow reply) fair idle = λ n v r g z. absurd (subst (λ y. Fair c u flow y) r fair)
    first-left w live false (Wait u flow taken) fair idle = λ n v r g z. absurd (cc)
    first-left w live true (Wait u flow taken) fair idle = at (c.next_call == last_call)
      where
        now : Waiting A numbers
        now = record w { taken = taken }

        there : get nat_eq (parked (flowed u flow) now).parked c.next_call ≡ Some now
        there =
            (λ i. get nat_eq ((flowed-parked u flow ∙ ap (λ z. z.parked) idle.0) i ++ ((flowed-next u flow ∙ ap (λ z. z.next_call) idle.0) i, now) ∷ []) c.next_call)
            ∙ append_new c.parked c.next_call c.next_call now (no_call c order)
            ∙ ap (λ b. cond b (Some now) None) (eq-eqb c.next_call c.next_call refl)

        left : taken ≡ 0 → IsLeft c (parked (flowed u flow) now)
        left nothing =
            let still : MovesNoByte flow = idle.1 nothing in
            subst (λ z. IsLeft c (parked z now)) (sym (flowed-is c u flow idle.0 still.out)) (parked-left c settled flow.into still.into now live)

        at : (b : Bool) → LeftIfParked (cond b (stepped c CallsSpent) (record { state = parked (flowed u flow) now; reply = Parked c.next_call; flow = flow }))
        at true = λ n v r g z. absurd (cc)
        at false = λ n v r g z.
            let number : c.next_call ≡ n = cc in
            let found : Some now ≡ Some v = sym there ∙ ap (get nat_eq (parked (flowed u flow) now).parked) number ∙ g in
            let is : now ≡ v = cc in
            left (ap (λ (y : Waiting A numbers). y.taken) is ∙ z)

    begun-left : (pid : ℕ) (call : Call A) (b : Begun A numbers) → LeadsHere b → LeftIfParked (begun c pid call b)
    begun-left pid call (Refused errno) here = λ n v r g z. absurd (cc)
    begun-left pid call (Answered s reply) here = λ n v r g z. absurd (let says : true ≡ false = sym (ap says_parked r) ∙ here in cc)
    begun-left pid call (Tried s kept met may_wait) here =
        let w = waiting pid call kept met in
        subst (λ z. LeftIfParked (first_tried c w (may_wait && can_wait c pid) (try z w call may_wait))) (sym here.same)
        (first-left w (λ d m. live d (c.descriptions d) refl (here.there d m)) (may_wait && can_wait c pid) (try c w call may_wait) (try-fair c w call may_wait) (try-idle c w call may_wait))
      where
        live : (d : ℕ) (o : Option (Description numbers)) → c.descriptions d ≡ o → IsSome o → is_live c d ≡ true
        live d None e i = absurd (cc)
        live d (Some x) e i = settled-live c settled d x e

    happen-left : (pid : ℕ) (call : Call A) (new : NewKeys numbers) → opens_name call ≡ false → LeftIfParked (drawn new (happen c (Begin pid call)))
    unfolding happen LeadsTo
    happen-left pid call new off = found (c.processes pid)
      where
        leads : (b : Begins A numbers) → LeadsTo new LeadsHere b → LeftIfParked (drawn new (drawing_map (begun c pid call) b))
        leads (Plain b) h = begun-left pid call b h
        leads (Draws f) h = begun-left pid call (f new) h

        found : (b : Bool) → LeftIfParked (drawn new (cond b (drawing_map (begun c pid call) (begin c pid call)) (Plain (stepped c NoProcess))))
        found true = leads (begin c pid call) (begin-here pid new call off)
        found false = λ n v r g z. absurd (cc)

  pub idle_begun : (pid : ℕ) (call : Call A) (new : NewKeys numbers) → IsFit c → AreInOrder c → opens_name call ≡ false → (n : ℕ) (v : Waiting A numbers) →
      (drawn new (core_step c (Begin pid call))).reply ≡ Parked n → get nat_eq (drawn new (core_step c (Begin pid call))).state.parked n ≡ Some v → v.taken ≡ 0 →
      (number : ℕ) (w : Waiting A numbers) → get nat_eq c.parked number ≡ Some w →
      let u = (drawn new (core_step c (Begin pid call))).state in (get nat_eq u.parked number ≡ Some w) × (can_progress u number ≡ can_progress c number)
  idle_begun pid call new fit order off n v replied there nothing number w here =
      let h = drawn new (happen c (Begin pid call)) in
      let is : drawn new (core_step c (Begin pid call)) ≡ ended c h = core_step-is c (Begin pid call) new in
      let reply : h.reply ≡ Parked n = sym (ap (λ z. z.reply) is) ∙ replied in
      let found : get nat_eq h.state.parked n ≡ Some v = ap (λ ps. get nat_eq ps n) (sym (settled-parked c h.state) ∙ sym (ap (λ z. z.state.parked) is)) ∙ there in
      subst (λ (z : Stepped A numbers). Stays c fit number w here z.state) (sym is)
      (left-stays c h.state fit (happen-left fit.settled order pid call new off n v reply found nothing) number w here)
