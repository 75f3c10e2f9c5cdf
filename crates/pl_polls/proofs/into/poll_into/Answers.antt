use Rattle.std.proofs.Common.{◌≡◌, ◌<◌, ◌≤◌, Bool, List, ℤ, None, true, false, map, sym, ap, subst, ◌∙◌, length, arith}
use Rattle.std.specs.Prelude.{◌||◌, ◌==◌, not}
use Rattle.std.specs.List.{list_any}
use Rattle.std.proofs.lemmas.List.{length-map}
use Rattle.pl_model.specs.declared.calls.Call.TheVariants.{Poll}
use Rattle.pl_model.specs.declared.calls.Step.TheVariants.{Begin}
use Rattle.pl_model.specs.declared.flags.PollMask.{PollMask}
use Rattle.pl_model.specs.declared.replies.Reply.{Reply}
use Rattle.pl_model.specs.declared.replies.Reply.TheVariants.{Fault, Masks, Parked, CallsSpent}
use Rattle.pl_model.specs.declared.replies.Errno.TheVariants.{EAGAIN}
use Rattle.pl_model.specs.Numbers.{last_call}
use Rattle.pl_model.specs.Begin.{named_by}
use Rattle.pl_model.specs.Poll.{is_ready, masks_reply}
use Rattle.pl_model.proofs.by_call.Polls.{found_now}
use Rattle.pl_model.proofs.settling.Members.{or_right}
use Rattle.pl_state.specs.Contents.{Contents, core_of, lets_wait}
use Rattle.pl_state.specs.KernelView.{view_of}
use Rattle.pl_state.specs.Makes.{MakesAtKeys, ParksAtKeys}
use Rattle.pl_state.specs.Parking.{with_call}
use Rattle.pl_state.proofs.Known.{Caller, caller}
use Rattle.pl_nodes.proofs.Keyed.{on_err}
use Rattle.pl_polls.specs.declared.entries.PollEntry.{PollEntry}
use Rattle.pl_polls.specs.declared.masks.Descriptions.TheVariants.{Named}
use Rattle.pl_polls.specs.Entries.{asked, marked, mask_of_events}
use Rattle.pl_polls.specs.Into.{found_in}
use Rattle.pl_polls.specs.Masks.{masks_of}
use Rattle.pl_polls.specs.Waiting.{poll_of}
use Rattle.pl_polls.proofs.by_call.Begins.{poll-many, poll-answers, poll-crowded, poll-spent, poll-parks, poll-waits-parks}
use Rattle.pl_polls.proofs.by_call.Entries.{masks-each}
use Rattle.pl_polls.proofs.Marking.{found_marked}
use Rattle.pl_polls.proofs.into.poll_into.Given.{Over}
use Rattle.pl_polls.proofs.into.poll_into.Goals.{After-table, then-not-wait-via-then-not-wait, then-not-wait-via-else-not-wait+then-is_any_ready}
use Rattle.pl_polls.proofs.into.poll_into.Goals as goal
use Rattle.pl_model.specs.Tables.{entry_limit}

-- as many are asked as there are entries
asked-each : (entries : List PollEntry) → length (asked entries) ≡ length entries
asked-each entries = length-map entries (λ e. (e.fd, mask_of_events e.events))

-- the process that calls, and what it asks
module _ (g : Over) (c : After-table g) where
  abbrev A : Type 0
  A = g.row.A.Denot

  abbrev k : Contents A
  k = view_of c.kernel.inside

  abbrev calls_on : Caller A
  calls_on = caller c.kernel.inside c.kernel.invariant c.args.kernel.now c.kernel.view_is c.args.pid c.requires

  abbrev entries : List (ℤ × PollMask)
  entries = asked c.args.entries.now

  few : length entries ≤ entry_limit c.kernel.inside.limits
  few = omega (arith, asked-each c.args.entries.now, c.poll_entries.ensures, c.if-entries-poll_entries.false)

  abbrev found : List PollMask
  found = found_now (core_of k) c.args.pid entries

  -- the same, as the code finds them
  abbrev looked : List PollMask
  looked = masks_of c.args.kernel.now (Named c.args.pid None) entries

  looked-each : length looked ≡ length c.args.entries.now
  looked-each = masks-each (core_of c.args.kernel.now) entries (named_by (core_of c.args.kernel.now) c.args.pid entries) ∙ asked-each c.args.entries.now

  -- what was asked of the masks, in the kernel's view
  found_is : (ready b : Bool) → ready ≡ list_any is_ready looked → ready ≡ b → list_any is_ready found ≡ b
  found_is ready b told is = ap (λ (z : Contents A). list_any is_ready (masks_of z (Named c.args.pid None) entries)) c.kernel.view_is ∙ sym told ∙ is

  -- what the entries say, where these are noted
  says_found : (noted : List PollEntry) → noted ≡ marked c.args.entries.now looked → map found_in noted ≡ looked
  says_found noted is = ap (map found_in) is ∙ found_marked c.args.entries.now looked looked-each

pub returns-then-entries-poll_entries-clause-done : goal.returns-then-entries-poll_entries-clause-done
returns-then-entries-poll_entries-clause-done g c =
    let many : entry_limit c.kernel.inside.limits < length (asked c.args.entries.now) = omega (arith, asked-each c.args.entries.now, c.poll_entries.ensures, c.if-entries-poll_entries.true) in
    rw (← c.kernel.view_is) (poll-many (caller c.kernel.inside c.kernel.invariant c.args.kernel.now c.kernel.view_is c.args.pid c.requires) (asked c.args.entries.now) c.args.wait many)

pub returns-then-not-wait-clause-done : goal.returns-then-not-wait-clause-done
returns-then-not-wait-clause-done g c =
    let v = (goal.at.returns-then-not-wait-clause-done g c).After-table in
    let x = Begin c.args.pid (Poll (entries g v) c.args.wait) in
    let ends : (list_any is_ready (found g v) || not c.args.wait) ≡ true = elim c.then-not-wait.branch [
      | then-not-wait-via-then-not-wait w ↦ or_right _ _ (ap not w.if-not-wait.true)
      | then-not-wait-via-else-not-wait+then-is_any_ready w ↦ ap (λ b. b || not c.args.wait) (found_is g v w.is_any_ready.result true w.is_any_ready.ensures w.if-is_any_ready.true)
    ] in
    let made : MakesAtKeys (k g v) x (masks_reply (found g v)) (k g v) = poll-answers (calls_on g v) (entries g v) (few g v) c.args.wait ends in
    let told : Masks c.note_masks-ready.result (map found_in c.note_masks-ready.new.entries) ≡ masks_reply (looked g v) =
    λ i. Masks (c.note_masks-ready.ensures.ready i) (says_found g v c.note_masks-ready.new.entries c.note_masks-ready.ensures.noted i) in
    subst (λ (r : Reply g.row.A.Denot). MakesAtKeys c.args.kernel.now x r c.args.kernel.now) (sym told)
    (subst (λ (z : Contents g.row.A.Denot). MakesAtKeys z x (masks_reply (masks_of z (Named c.args.pid None) (entries g v))) z) c.kernel.view_is made)

pub returns-then-not-wait-clause-noted : goal.returns-then-not-wait-clause-noted
returns-then-not-wait-clause-noted g c =
    let v = (goal.at.returns-then-not-wait-clause-noted g c).After-table in
    let noted = c.note_masks-ready.ensures.noted in
    noted ∙ ap (marked c.args.entries.now) (sym (says_found g v c.note_masks-ready.new.entries noted))

pub returns-then-not-can_wait-clause-done : goal.returns-then-not-can_wait-clause-done
returns-then-not-can_wait-clause-done g c =
    let v = (goal.at.returns-then-not-can_wait-clause-done g c).After-table in
    let none = found_is g v c.is_any_ready.result false c.is_any_ready.ensures c.if-is_any_ready.false in
    subst (λ b. MakesAtKeys c.args.kernel.now (Begin c.args.pid (Poll (entries g v) b)) (Fault EAGAIN) c.args.kernel.now) (sym c.if-not-wait.false)
    (subst (λ (z : Contents g.row.A.Denot). MakesAtKeys z (Begin c.args.pid (Poll (entries g v) true)) (Fault EAGAIN) z) c.kernel.view_is
    (poll-crowded (calls_on g v) (entries g v) (few g v) none (ap (λ k. lets_wait k c.args.pid) c.kernel.view_is ∙ sym c.can_wait.ensures ∙ c.if-not-can_wait.true)))

pub returns-then-spent-clause-done : goal.returns-then-spent-clause-done
returns-then-spent-clause-done g c =
    let v = (goal.at.returns-then-spent-clause-done g c).After-table in
    let none = found_is g v c.is_any_ready.result false c.is_any_ready.ensures c.if-is_any_ready.false in
    subst (λ b. MakesAtKeys c.args.kernel.now (Begin c.args.pid (Poll (entries g v) b)) CallsSpent c.args.kernel.now) (sym c.if-not-wait.false)
    (subst (λ (z : Contents g.row.A.Denot). MakesAtKeys z (Begin c.args.pid (Poll (entries g v) true)) CallsSpent z) c.kernel.view_is
    (poll-spent (calls_on g v) (entries g v) (few g v) none (ap (λ k. lets_wait k c.args.pid) c.kernel.view_is ∙ sym c.can_wait.ensures ∙ c.if-not-can_wait.false) (sym c.spent.ensures ∙ c.if-spent.true)))

-- it waits, in the kernel's view
parks : (g : Over) (c : After-table g) (ready wait : Bool) → ready ≡ list_any is_ready (looked g c) → ready ≡ false → wait ≡ true → lets_wait (k g c) c.args.pid ≡ true → (((k g c).calls.next == last_call) ≡ false) → ParksAtKeys {A = g.row.A.Denot} c.args.kernel.now (Begin c.args.pid (Poll (entries g c) wait))
parks g c ready wait told is waits can left =
    subst (λ b. ParksAtKeys {A = g.row.A.Denot} c.args.kernel.now (Begin c.args.pid (Poll (entries g c) b))) (sym waits)
    (subst (λ (z : Contents g.row.A.Denot). ParksAtKeys z (Begin c.args.pid (Poll (entries g c) true))) c.kernel.view_is
    (poll-waits-parks (calls_on g c) (entries g c) (few g c) (found_is g c ready false told is) can left))

pub returns-in_err-list-clause-wanted : goal.returns-in_err-list-clause-wanted
returns-in_err-list-clause-wanted g c =
    let v = (goal.at.returns-in_err-list-clause-wanted g c).After-table in
    on_err c.from_residual.result _ (parks g v c.is_any_ready.result c.args.wait c.is_any_ready.ensures c.if-is_any_ready.false c.if-not-wait.false (ap (λ k. lets_wait k c.args.pid) c.kernel.view_is ∙ sym c.can_wait.ensures ∙ c.if-not-can_wait.false) (sym c.spent.ensures ∙ c.if-spent.false))

pub returns-in_err-number-clause-wanted : goal.returns-in_err-number-clause-wanted
returns-in_err-number-clause-wanted g c =
    let v = (goal.at.returns-in_err-number-clause-wanted g c).After-table in
    on_err c.from_residual-in_err-number.result _ (parks g v c.is_any_ready.result c.args.wait c.is_any_ready.ensures c.if-is_any_ready.false c.if-not-wait.false (ap (λ k. lets_wait k c.args.pid) c.kernel.view_is ∙ sym c.can_wait.ensures ∙ c.if-not-can_wait.false) (sym c.spent.ensures ∙ c.if-spent.false))

pub returns-clause-done : goal.returns-clause-done
returns-clause-done g c =
    let A = g.row.A.Denot in
    let v = (goal.at.returns-clause-done g c).After-table in
    let none = found_is g v c.is_any_ready.result false c.is_any_ready.ensures c.if-is_any_ready.false in
    let x = Begin c.args.pid (Poll (entries g v) true) in
    let new = c.park_poll.new.kernel in
    let made = poll-parks (calls_on g v) (entries g v) (few g v) none (ap (λ k. lets_wait k c.args.pid) c.kernel.view_is ∙ sym c.can_wait.ensures ∙ c.if-not-can_wait.false) (sym c.spent.ensures ∙ c.if-spent.false) in
    subst (λ b. MakesAtKeys c.args.kernel.now (Begin c.args.pid (Poll (entries g v) b)) (Parked c.in_ok-number.number) new) (sym c.if-not-wait.false)
    (subst (λ n. MakesAtKeys c.args.kernel.now x (Parked n) new) (sym c.in_ok-number.ensures.number)
    (subst (λ (z : Contents A). MakesAtKeys c.args.kernel.now x (Parked c.args.kernel.now.calls.next) z) (sym (c.in_ok-number.ensures.ok ∙ ap (λ es. with_call c.args.kernel.now (poll_of c.args.kernel.now.tables c.args.pid es)) c.in_ok-list.ensures))
    (subst (λ (z : Contents A). MakesAtKeys z x (Parked z.calls.next) (with_call z (poll_of z.tables c.args.pid (entries g v)))) c.kernel.view_is made)))
