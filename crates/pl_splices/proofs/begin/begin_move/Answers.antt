use Rattle.std.proofs.Common.{◌≡◌, [], ◌∷◌, None, false, sym, ap, subst, ◌∙◌}
use Rattle.std.specs.Prelude.{not}
use Rattle.pl_model.specs.declared.calls.Step.TheVariants.{Begin}
use Rattle.pl_model.specs.declared.replies.Reply.TheVariants.{Parked}
use Rattle.pl_model.specs.Step.{begin}
use Rattle.pl_model.specs.Trial.{Wait, tried, still}
use Rattle.pl_state.specs.KernelView.{view_of}
use Rattle.pl_state.specs.Contents.{Contents, core_of}
use Rattle.pl_state.specs.Makes.{MakesAtKeys}
use Rattle.pl_state.specs.Parking.{refusal_in, with_call}
use Rattle.pl_state.proofs.Known.{Caller, caller}
use Rattle.pl_nodes.proofs.Keyed.{on_err}
use Rattle.pl_splices.specs.Shares.{SharesBetween}
use Rattle.pl_splices.specs.Moves.{Goes, Tries, Ends, StillWaits, WouldMove, trial, call_between}
use Rattle.pl_splices.proofs.by_call.Begins.{move-ends, move-wants, move-refused, move-waits, move-waits-wants}
use Rattle.pl_splices.proofs.begin.begin_move.Given.{Over}
use Rattle.pl_splices.proofs.begin.begin_move.Goals.{After-try_move, In_default, In_default-refusal_to_wait}
use Rattle.pl_splices.proofs.begin.begin_move.Goals as goal

-- the process that calls, and its checks
module _ (g : Over) (c : After-try_move g) where
  abbrev k : Contents g.row.A.Denot
  k = view_of c.kernel.inside

  abbrev calls_on : Caller g.row.A.Denot
  calls_on = caller c.kernel.inside c.kernel.invariant c.args.kernel.now c.kernel.view_is c.args.pid c.requires.process

  begins : begin (core_of k) c.args.pid c.args.call ≡ tried (core_of k) (c.args.from.key ∷ c.args.to.key ∷ []) false (not c.args.nonblock)
  begins = subst (λ (z : Contents g.row.A.Denot). begin (core_of z) c.args.pid c.args.call ≡ tried (core_of z) (c.args.from.key ∷ c.args.to.key ∷ []) false (not c.args.nonblock)) (sym c.kernel.view_is) c.requires.begins

-- a try that waits left all as it was
module _ (g : Over) (c : In_default g) where
  waited : StillWaits c.args.kernel.now c.args.from c.args.to c.args.len c.args.is_tee c.try_move.new.kernel
  waited = subst (λ o. Tries c.args.kernel.now c.args.from c.args.to c.args.len c.args.is_tee o c.try_move.new.kernel) c.in_default.is c.in_ok-reply.ensures.done

  waits : trial (view_of c.kernel.inside) c.args.from c.args.to c.args.len c.args.is_tee ≡ Wait (core_of (view_of c.kernel.inside)) still 0
  waits = subst (λ (z : Contents g.row.A.Denot). trial z c.args.from c.args.to c.args.len c.args.is_tee ≡ Wait (core_of z) still 0) (sym c.kernel.view_is) waited.came

  as_before : view_of c.kernel.inside ≡ c.try_move.new.kernel
  as_before = c.kernel.view_is ∙ sym waited.same

may_wait : (g : Over) (c : In_default-refusal_to_wait g) → refusal_in {A = g.row.A.Denot} (view_of c.kernel.inside) c.args.pid c.args.nonblock ≡ None
may_wait g c =
    let waited : StillWaits c.args.kernel.now c.args.from c.args.to c.args.len c.args.is_tee c.try_move.new.kernel = subst (λ o. Tries c.args.kernel.now c.args.from c.args.to c.args.len c.args.is_tee o c.try_move.new.kernel) c.in_default.is c.in_ok-reply.ensures.done in
    ap (λ (z : Contents g.row.A.Denot). refusal_in z c.args.pid c.args.nonblock) (c.kernel.view_is ∙ sym waited.same) ∙ sym c.refusal_to_wait.ensures ∙ c.in_default-refusal_to_wait.is

pub returns-in_err-reply-clause-wanted : goal.returns-in_err-reply-clause-wanted
returns-in_err-reply-clause-wanted g c =
    let w = (goal.at.returns-in_err-reply-clause-wanted g c).After-try_move in
    let would : WouldMove (k g w) c.args.from c.args.to c.args.len c.args.is_tee = subst (λ (z : Contents g.row.A.Denot). WouldMove z c.args.from c.args.to c.args.len c.args.is_tee) (sym c.kernel.view_is) c.in_err-reply.ensures.wanted in
    on_err c.from_residual.result _ (rw (← c.kernel.view_is) (move-wants (calls_on g w) c.args.call c.args.from c.args.to c.args.len c.args.is_tee c.args.nonblock c.requires.asks (begins g w) would))

pub returns-in-Some-clause-done : goal.returns-in-Some-clause-done
returns-in-Some-clause-done g c =
    let w = (goal.at.returns-in-Some-clause-done g c).After-try_move in
    let ended : Ends c.args.kernel.now c.args.from c.args.to c.args.len c.args.is_tee c.in-Some.reply c.try_move.new.kernel = subst (λ o. Tries c.args.kernel.now c.args.from c.args.to c.args.len c.args.is_tee o c.try_move.new.kernel) c.in-Some.is c.in_ok-reply.ensures.done in
    let ends : Ends (k g w) c.args.from c.args.to c.args.len c.args.is_tee c.in-Some.reply c.try_move.new.kernel = subst (λ (z : Contents g.row.A.Denot). Ends z c.args.from c.args.to c.args.len c.args.is_tee c.in-Some.reply c.try_move.new.kernel) (sym c.kernel.view_is) ended in
    subst (λ (z : Contents g.row.A.Denot). MakesAtKeys z (Begin c.args.pid c.args.call) c.in-Some.reply c.try_move.new.kernel) c.kernel.view_is
    (move-ends (calls_on g w) c.args.call c.args.from c.args.to c.args.len c.args.is_tee c.args.nonblock c.requires.asks (begins g w) c.in-Some.reply c.try_move.new.kernel ends)

pub returns-in-Some-refusal_to_wait-clause-done : goal.returns-in-Some-refusal_to_wait-clause-done
returns-in-Some-refusal_to_wait-clause-done g c =
    let at_waiting = goal.at.returns-in-Some-refusal_to_wait-clause-done g c in
    let w = at_waiting.After-try_move in
    let v = at_waiting.In_default in
    let x = Begin c.args.pid c.args.call in
    let reply = c.in-Some-refusal_to_wait.refusal in
    let refused = ap (λ (z : Contents g.row.A.Denot). refusal_in z c.args.pid c.args.nonblock) (as_before g v) ∙ sym c.refusal_to_wait.ensures ∙ c.in-Some-refusal_to_wait.is in
    subst (λ (z : Contents g.row.A.Denot). MakesAtKeys z x reply c.try_move.new.kernel) c.kernel.view_is
    (subst (λ (z : Contents g.row.A.Denot). MakesAtKeys (k g w) x reply z) (as_before g v)
    (move-refused (calls_on g w) c.args.call c.args.from c.args.to c.args.len c.args.is_tee c.args.nonblock c.requires.asks (begins g w) (waits g v) reply refused))

pub returns-in_err-number-clause-wanted : goal.returns-in_err-number-clause-wanted
returns-in_err-number-clause-wanted g c =
    let at_waiting = goal.at.returns-in_err-number-clause-wanted g c in
    let w = at_waiting.After-try_move in
    on_err c.from_residual-in_err-number.result _ (rw (← c.kernel.view_is) (move-waits-wants (calls_on g w) c.args.call c.args.from c.args.to c.args.len c.args.is_tee c.args.nonblock c.requires.asks (begins g w) (waits g at_waiting.In_default) (may_wait g at_waiting.In_default-refusal_to_wait)))

pub returns-clause-done : goal.returns-clause-done
returns-clause-done g c =
    let at_waiting = goal.at.returns-clause-done g c in
    let w = at_waiting.After-try_move in
    let v = at_waiting.In_default in
    let x = Begin c.args.pid c.args.call in
    let call = call_between c.args.from.key c.args.to.key c.args.pid c.args.call in
    let goes : Goes (k g w) c.args.from c.args.to c.args.is_tee = subst (λ (z : Contents g.row.A.Denot). Goes z c.args.from c.args.to c.args.is_tee) (sym c.kernel.view_is) c.requires.goes in
    let does = move-waits (calls_on g w) c.args.call c.args.from c.args.to c.args.len c.args.is_tee c.args.nonblock c.requires.asks (begins g w) (waits g v) (may_wait g at_waiting.In_default-refusal_to_wait) c.requires.some goes in
    let new : c.park_between.new.kernel ≡ with_call (k g w) call = c.in_ok-number.ensures.ok ∙ ap (λ (z : Contents g.row.A.Denot). with_call z call) (sym (as_before g v)) in
    let number : c.in_ok-number.number ≡ (k g w).calls.next = c.in_ok-number.ensures.number ∙ ap (λ (z : Contents g.row.A.Denot). z.calls.next) (sym (as_before g v)) in
    subst (λ (z : Contents g.row.A.Denot). MakesAtKeys z x (Parked c.in_ok-number.number) c.park_between.new.kernel) c.kernel.view_is
    (subst (λ z. MakesAtKeys (k g w) x (Parked z) c.park_between.new.kernel) (sym number) (subst (λ (z : Contents g.row.A.Denot). MakesAtKeys (k g w) x (Parked (k g w).calls.next) z) (sym new) does))

-- a call that is parked, or finds no memory for that, left of memory what its try did
pub returns-in_err-number-clause-shares : goal.returns-in_err-number-clause-shares
returns-in_err-number-clause-shares g c =
    subst (λ (z : Contents g.row.A.Denot). SharesBetween c.args.kernel.now c.args.from c.args.to z) (sym c.in_err-number.ensures.err) c.try_move.ensures.shares

pub returns-clause-shares : goal.returns-clause-shares
returns-clause-shares g c =
    subst (λ (z : Contents g.row.A.Denot). SharesBetween c.args.kernel.now c.args.from c.args.to z) (sym c.in_ok-number.ensures.ok) c.try_move.ensures.shares
