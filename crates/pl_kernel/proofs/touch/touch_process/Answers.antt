use Rattle.std.proofs.Common.{◌≡◌, ◌≤◌, ℕ, true, Some, IfSome, ⊎_elim, refl, sym, ◌∙◌, ap, subst, nat_eq, arith}
use Rattle.pl_model.specs.Map.{get}
use Rattle.pl_model.specs.Numbered.{numbers}
use Rattle.pl_model.specs.State.{Waiting}
use Rattle.pl_model.specs.Touching.{waits_at}
use Rattle.pl_parked.specs.declared.call.ParkedCall.{ParkedCall}
use Rattle.pl_state.specs.Contents.{Contents, core_of, waiting_of}
use Rattle.pl_state.proofs.by_call.Exiting.{below_next, next_call}
use Rattle.pl_state.proofs.Known.{known}
use Rattle.pl_kernel.proofs.index.Known.{known_in}
use Rattle.pl_kernel.proofs.index.Touching.{call-found, row-below, at-process, less_then, touched_before, touched_now}
use Rattle.pl_kernel.proofs.NextReady.{sides}
use Rattle.pl_kernel.specs.ToldNodes.{key_of}
use Rattle.pl_kernel.proofs.touch.touch_process.Given.{Over}
use Rattle.pl_kernel.proofs.touch.touch_process.Goals.{After-state, In-Some}
use Rattle.pl_kernel.proofs.touch.touch_process.Goals as goal
use Rattle.pl_model.specs.Tables.{descriptor_limit}

pub loop-number-init : goal.loop-number-init
unfolding core_of
loop-number-init g c =
    let core = core_of c.args.state.now in
    let once = (known_in c.args.state.now (known c.state.inside c.state.invariant) c.state.view_is).order.once in
    let most = c.descriptors-fd-end.ensures ∙ ap (λ (z : Contents g.row.A.Denot). descriptor_limit z.limits) c.state.view_is in
    record {
      less = c.loop-fd.invariant.less;
      named = λ node h. (let f = row-below core once node c.args.pid h in c.loop-fd.invariant.named node f.0 (omega (arith, f.1, most, c.loop-fd-test.false)) f.2);
      kept = λ node n v low. absurd (omega (arith, low));
    }

-- the call that is next
module _ (g : Over) (c : In-Some g) where
  next : (e : ParkedCall g.row.A.Denot) × (get nat_eq c.state.inside.parked.calls c.in-Some.number ≡ Some e) × (nat_eq e.pid c.args.pid ≡ true)
  next = next_call c.state.inside.parked.calls c.args.pid c.in-Some.number c.in-Some.ensures.parked.1

pub overflow_add-from : goal.overflow_add-from
overflow_add-from g c =
    let call = next g (goal.at.overflow_add-from g c).In-Some in
    let below = below_next 0 c.state.inside.parked.next c.in-Some.number c.state.inside.parked.calls call.0 c.state.invariant.0.rise call.1 in
    omega (arith, below, c.state.invariant.0.numbered)

-- a call of the process that is parked
module _ (g : Over) (c : After-state g) (n : ℕ) (v : Waiting g.row.A.Denot numbers) (there : get nat_eq (core_of c.args.state.now).parked n ≡ Some v) where
  call : (w : ParkedCall g.row.A.Denot) × (get nat_eq c.state.inside.parked.calls n ≡ Some w) × (waiting_of w ≡ v)
  call = (let f = call-found c.args.state.now n v there in (f.0, ap (λ (z : Contents g.row.A.Denot). get nat_eq z.calls.calls n) c.state.view_is ∙ f.1, f.2))

  of_pid : v.pid ≡ c.args.pid → call.0.pid ≡ c.args.pid
  of_pid is = ap (λ (z : Waiting g.row.A.Denot numbers). z.pid) call.2 ∙ is

pub loop-number-preserved : goal.loop-number-preserved
loop-number-preserved g c =
    let w = (goal.at.loop-number-preserved g c).After-state in
    let core = core_of c.args.state.now in
    let inv = c.loop-number.invariant in
    let less = c.touch_call.ensures.no_less in
    let before = touched_before c.args.waiters.now c.loop-number.waiters c.touch_call.new.waiters in
    record {
      less = less_then c.args.waiters.now c.loop-number.waiters c.touch_call.new.waiters inv.less less;
      named = λ node h. before (key_of node) (inv.named node h) less;
      kept = λ node n v low there is keeps. ⊎_elim
          (λ early. before (key_of node) (inv.kept node n v early there is keeps) less)
          (λ late.
          let f = call g w n v there in
          let least : IfSome (get nat_eq c.state.inside.parked.calls n) (λ e. e.pid ≡ c.args.pid → c.in-Some.number ≤ n) = c.in-Some.ensures.least n late in
          let up : c.in-Some.number ≤ n = subst (λ o. IfSome o (λ e. e.pid ≡ c.args.pid → c.in-Some.number ≤ n)) f.1 least (of_pid g w n v there is) in
          let same : n ≡ c.in-Some.number = omega (arith, up, low) in
          touched_now c.args.waiters.now c.loop-number.waiters c.touch_call.new.waiters (key_of node) (key_of node) refl inv.less
          (c.touch_call.ensures.touched node (ap (λ k. waits_at core node (get nat_eq core.parked k)) (sym same) ∙ ap (waits_at core node) there ∙ keeps)))
          (sides n c.loop-number.from);
    }

pub returns-clause-touched : goal.returns-clause-touched
unfolding core_of
returns-clause-touched g c = λ node h.
    let w = (goal.at.returns-clause-touched g c).After-state in
    let core = core_of c.args.state.now in
    let once = (known_in c.args.state.now (known c.state.inside c.state.invariant) c.state.view_is).order.once in
    ⊎_elim
    (λ named. c.loop-number.invariant.named node named)
    (λ f. ⊎_elim
    (λ early. c.loop-number.invariant.kept node f.0 f.1 early f.2 f.3 f.4)
    (λ late.
    let e = call g w f.0 f.1 f.2 in
    let not_of : IfSome (get nat_eq c.state.inside.parked.calls f.0) (λ e. ¬ (e.pid ≡ c.args.pid)) = c.in_default.ensures.none f.0 late in
    absurd (subst (λ o. IfSome o (λ e. ¬ (e.pid ≡ c.args.pid))) e.1 not_of (of_pid g w f.0 f.1 f.2 f.3)))
    (sides f.0 c.loop-number.from))
    (at-process core once node c.args.pid h)
