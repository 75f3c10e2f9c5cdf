use Rattle.std.proofs.Common.{◌≡◌, ◌<◌, ◌≤◌, Bool, List, ℤ, None, true, false, sym, ap, subst, ◌∙◌, length, ℕ, arith}
use Rattle.std.specs.Prelude.{◌||◌, not}
use Rattle.std.specs.List.{list_any}
use Rattle.pl_model.specs.declared.calls.Call.TheVariants.{Poll}
use Rattle.pl_model.specs.declared.calls.Step.TheVariants.{Begin}
use Rattle.pl_model.specs.declared.flags.PollMask.{PollMask}
use Rattle.pl_model.specs.declared.replies.Reply.TheVariants.{Fault, Parked, CallsSpent}
use Rattle.pl_model.specs.declared.replies.Errno.TheVariants.{EAGAIN}
use Rattle.pl_model.specs.Poll.{is_ready, masks_reply}
use Rattle.pl_model.proofs.by_call.Polls.{found_now}
use Rattle.pl_model.proofs.settling.Members.{or_right}
use Rattle.pl_state.specs.Contents.{Contents, core_of, lets_wait}
use Rattle.pl_state.specs.KernelView.{view_of}
use Rattle.pl_state.specs.Makes.{MakesAtKeys, MayWantAtKeys}
use Rattle.pl_state.specs.Parking.{with_call}
use Rattle.pl_state.proofs.Known.{Caller, caller}
use Rattle.pl_nodes.proofs.Keyed.{on_err, if_ok}
use Rattle.pl_polls.specs.declared.masks.Descriptions.TheVariants.{Named}
use Rattle.pl_polls.specs.Masks.{masks_of}
use Rattle.pl_polls.specs.Waiting.{poll_of}
use Rattle.pl_polls.proofs.by_call.Begins.{poll-many, poll-answers, poll-answers-wants, poll-crowded, poll-spent, poll-parks, poll-waits-wants}
use Rattle.pl_polls.proofs.begin.poll.Given.{Over}
use Rattle.pl_polls.proofs.begin.poll.Goals.{After-as_slice-asked, then-not-wait-via-then-not-wait, then-not-wait-via-else-not-wait+then-is_ready}
use Rattle.pl_polls.proofs.begin.poll.Goals as goal
use Rattle.pl_model.specs.Tables.{entry_limit}

-- the process that calls, and what it asks
module _ (g : Over) (c : After-as_slice-asked g) where
  abbrev k : Contents g.row.A.Denot
  k = view_of c.kernel.inside

  abbrev calls_on : Caller g.row.A.Denot
  calls_on = caller c.kernel.inside c.kernel.invariant c.args.kernel.now c.kernel.view_is c.args.pid c.requires

  abbrev found : List PollMask
  found = found_now (core_of k) c.args.pid c.args.entries

  -- what was asked of the masks, in the kernel's view
  found_is : (ready b : Bool) → ready ≡ list_any is_ready (masks_of c.args.kernel.now (Named c.args.pid None) c.as_slice-asked.result.now) → ready ≡ b → list_any is_ready found ≡ b
  found_is ready b told is =
      ap (λ (z : Contents g.row.A.Denot). list_any is_ready (masks_of z (Named c.args.pid None) c.args.entries)) c.kernel.view_is
      ∙ ap (λ es. list_any is_ready (masks_of c.args.kernel.now (Named c.args.pid None) es)) (sym c.as_slice-asked.ensures) ∙ sym told ∙ is

  few : (most : ℕ) → most ≡ entry_limit c.kernel.inside.limits → length c.as_slice-asked.result.now ≤ most → length c.args.entries ≤ entry_limit c.kernel.inside.limits
  few most is short = subst (λ (es : List (ℤ × PollMask)). length es ≤ entry_limit c.kernel.inside.limits) c.as_slice-asked.ensures (omega (arith, short, is))

pub returns-then-asked-poll_entries-clause-done : goal.returns-then-asked-poll_entries-clause-done
returns-then-asked-poll_entries-clause-done g c =
    let v = (goal.at.returns-then-asked-poll_entries-clause-done g c).After-as_slice-asked in
    let many : entry_limit c.kernel.inside.limits < length c.args.entries = subst (λ (es : List (ℤ × PollMask)). entry_limit c.kernel.inside.limits < length es) c.as_slice-asked.ensures (omega (arith, c.poll_entries.ensures, c.if-asked-poll_entries.true)) in
    rw (← c.kernel.view_is) (poll-many (calls_on g v) c.args.entries c.args.wait many)

pub returns-then-not-wait-clause-done : goal.returns-then-not-wait-clause-done
returns-then-not-wait-clause-done g c =
    let v = (goal.at.returns-then-not-wait-clause-done g c).After-as_slice-asked in
    let x = Begin c.args.pid (Poll c.args.entries c.args.wait) in
    let ends : (list_any is_ready (found g v) || not c.args.wait) ≡ true = elim c.then-not-wait.branch [
      | then-not-wait-via-then-not-wait w ↦ or_right _ _ (ap not w.if-not-wait.true)
      | then-not-wait-via-else-not-wait+then-is_ready w ↦ ap (λ b. b || not c.args.wait) (found_is g v w.is_ready.result true w.is_ready.ensures w.if-is_ready.true)
    ] in
    let made : MakesAtKeys (k g v) x (masks_reply (found g v)) (k g v) = poll-answers (calls_on g v) c.args.entries (few g v c.poll_entries.result c.poll_entries.ensures c.if-asked-poll_entries.false) c.args.wait ends in
    let now : MakesAtKeys c.args.kernel.now x (masks_reply (masks_of c.args.kernel.now (Named c.args.pid None) c.as_slice-asked.result.now)) c.args.kernel.now =
    subst (λ es. MakesAtKeys c.args.kernel.now x (masks_reply (masks_of c.args.kernel.now (Named c.args.pid None) es)) c.args.kernel.now) (sym c.as_slice-asked.ensures)
    (subst (λ (z : Contents g.row.A.Denot). MakesAtKeys z x (masks_reply (masks_of z (Named c.args.pid None) c.args.entries)) z) c.kernel.view_is made) in
    if_ok {P = λ reply. reply ≡ masks_reply (masks_of c.args.kernel.now (Named c.args.pid None) c.as_slice-asked.result.now)} {Q = λ reply. MakesAtKeys c.args.kernel.now x reply c.args.kernel.now} c.masks_reply.result
    (λ reply is. subst (λ r. MakesAtKeys c.args.kernel.now x r c.args.kernel.now) (sym is) now) c.masks_reply.ensures

pub returns-then-not-wait-clause-wanted : goal.returns-then-not-wait-clause-wanted
returns-then-not-wait-clause-wanted g c =
    let v = (goal.at.returns-then-not-wait-clause-wanted g c).After-as_slice-asked in
    let ends : (list_any is_ready (found g v) || not c.args.wait) ≡ true = elim c.then-not-wait.branch [
      | then-not-wait-via-then-not-wait w ↦ or_right _ _ (ap not w.if-not-wait.true)
      | then-not-wait-via-else-not-wait+then-is_ready w ↦ ap (λ b. b || not c.args.wait) (found_is g v w.is_ready.result true w.is_ready.ensures w.if-is_ready.true)
    ] in
    on_err c.masks_reply.result _ (rw (← c.kernel.view_is) (poll-answers-wants (calls_on g v) c.args.entries (few g v c.poll_entries.result c.poll_entries.ensures c.if-asked-poll_entries.false) c.args.wait ends))

pub returns-then-not-can_wait-clause-done : goal.returns-then-not-can_wait-clause-done
returns-then-not-can_wait-clause-done g c =
    let v = (goal.at.returns-then-not-can_wait-clause-done g c).After-as_slice-asked in
    let none = found_is g v c.is_ready.result false c.is_ready.ensures c.if-is_ready.false in
    subst (λ b. MakesAtKeys c.args.kernel.now (Begin c.args.pid (Poll c.args.entries b)) (Fault EAGAIN) c.args.kernel.now) (sym c.if-not-wait.false)
    (subst (λ (z : Contents g.row.A.Denot). MakesAtKeys z (Begin c.args.pid (Poll c.args.entries true)) (Fault EAGAIN) z) c.kernel.view_is
    (poll-crowded (calls_on g v) c.args.entries (few g v c.poll_entries.result c.poll_entries.ensures c.if-asked-poll_entries.false) none (ap (λ k. lets_wait k c.args.pid) c.kernel.view_is ∙ sym c.can_wait.ensures ∙ c.if-not-can_wait.true)))

pub returns-then-spent-clause-done : goal.returns-then-spent-clause-done
returns-then-spent-clause-done g c =
    let v = (goal.at.returns-then-spent-clause-done g c).After-as_slice-asked in
    let none = found_is g v c.is_ready.result false c.is_ready.ensures c.if-is_ready.false in
    subst (λ b. MakesAtKeys c.args.kernel.now (Begin c.args.pid (Poll c.args.entries b)) CallsSpent c.args.kernel.now) (sym c.if-not-wait.false)
    (subst (λ (z : Contents g.row.A.Denot). MakesAtKeys z (Begin c.args.pid (Poll c.args.entries true)) CallsSpent z) c.kernel.view_is
    (poll-spent (calls_on g v) c.args.entries (few g v c.poll_entries.result c.poll_entries.ensures c.if-asked-poll_entries.false) none (ap (λ k. lets_wait k c.args.pid) c.kernel.view_is ∙ sym c.can_wait.ensures ∙ c.if-not-can_wait.false) (sym c.spent.ensures ∙ c.if-spent.true)))

pub returns-in_err-number-clause-wanted : goal.returns-in_err-number-clause-wanted
returns-in_err-number-clause-wanted g c =
    let A = g.row.A.Denot in
    let v = (goal.at.returns-in_err-number-clause-wanted g c).After-as_slice-asked in
    let none = found_is g v c.is_ready.result false c.is_ready.ensures c.if-is_ready.false in
    on_err c.from_residual.result _
    (subst (λ b. MayWantAtKeys {A = A} c.args.kernel.now (Begin c.args.pid (Poll c.args.entries b))) (sym c.if-not-wait.false)
    (subst (λ (z : Contents A). MayWantAtKeys z (Begin c.args.pid (Poll c.args.entries true))) c.kernel.view_is
    (poll-waits-wants (calls_on g v) c.args.entries (few g v c.poll_entries.result c.poll_entries.ensures c.if-asked-poll_entries.false) none (ap (λ k. lets_wait k c.args.pid) c.kernel.view_is ∙ sym c.can_wait.ensures ∙ c.if-not-can_wait.false) (sym c.spent.ensures ∙ c.if-spent.false))))

pub returns-clause-done : goal.returns-clause-done
returns-clause-done g c =
    let A = g.row.A.Denot in
    let v = (goal.at.returns-clause-done g c).After-as_slice-asked in
    let none = found_is g v c.is_ready.result false c.is_ready.ensures c.if-is_ready.false in
    let x = Begin c.args.pid (Poll c.args.entries true) in
    let new = c.park_poll.new.kernel in
    let made = poll-parks (calls_on g v) c.args.entries (few g v c.poll_entries.result c.poll_entries.ensures c.if-asked-poll_entries.false) none (ap (λ k. lets_wait k c.args.pid) c.kernel.view_is ∙ sym c.can_wait.ensures ∙ c.if-not-can_wait.false) (sym c.spent.ensures ∙ c.if-spent.false) in
    subst (λ b. MakesAtKeys c.args.kernel.now (Begin c.args.pid (Poll c.args.entries b)) (Parked c.in_ok-number.number) new) (sym c.if-not-wait.false)
    (subst (λ n. MakesAtKeys c.args.kernel.now x (Parked n) new) (sym c.in_ok-number.ensures.number)
    (subst (λ (z : Contents A). MakesAtKeys c.args.kernel.now x (Parked c.args.kernel.now.calls.next) z) (sym c.in_ok-number.ensures.ok)
    (subst (λ (z : Contents A). MakesAtKeys z x (Parked z.calls.next) (with_call z (poll_of z.tables c.args.pid c.args.entries))) c.kernel.view_is made)))
