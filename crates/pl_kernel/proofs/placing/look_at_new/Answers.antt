use Rattle.std.proofs.Common.{◌≡◌, ◌≤◌, ℕ, None, sym, ◌∙◌, ap, nat_eq, arith}
use Rattle.pl_model.specs.Map.{get}
use Rattle.pl_state.specs.Contents.{Contents, core_of}
use Rattle.pl_kernel.proofs.index.Touching.{next-is, call-found}
use Rattle.pl_kernel.proofs.index.Looking.{looked-on}
use Rattle.pl_kernel.proofs.placing.look_at_new.Given.{Over}
use Rattle.pl_kernel.proofs.placing.look_at_new.Goals.{After-look_to}
use Rattle.pl_kernel.proofs.placing.look_at_new.Goals as goal

module _ (g : Over) (c : After-look_to g) where
  -- what is next in the kernel is next in the machine
  next : (core_of c.args.state.now).next_call ≡ c.state.inside.parked.next
  next = next-is c.args.state.now ∙ ap (λ (z : Contents g.row.A.Denot). z.calls.next) (sym c.state.view_is)

  -- no call waits that wasn't looked at
  none : (number : ℕ) → c.loop-number.waiters.looked ≤ number → get nat_eq c.args.state.now.calls.calls number ≡ None
  none number late = ap (λ (z : Contents g.row.A.Denot). get nat_eq z.calls.calls number) (sym c.state.view_is) ∙ c.in_default.ensures.none number (omega (arith, late, c.looked.ensures))

pub returns : goal.returns
returns g c =
    let w = (goal.at.returns g c).After-look_to in
    let e = c.look_to.ensures in
    let looked = e.looked in
    let value = c.next_number.ensures.value in
    let same = next g w in
    looked-on (core_of c.args.state.now) c.loop-number.waiters c.look_to.new.self c.loop-number.invariant e.queues e.touched e.least (omega (arith, looked, value, same))
    (λ number v here late. (let f = call-found c.args.state.now number v here in let no : None ≡ _ = sym (none g w number late) ∙ f.1 in absurd (cc)))
