use Rattle.std.proofs.Common.{◌≡◌, ◌≤◌, ℕ, Option, None, Some, refl, nat_eq, arith}
use Rattle.pl_model.specs.Map.{get}
use Rattle.pl_parked.specs.declared.call.ParkedCall.{ParkedCall}
use Rattle.pl_state.proofs.by_call.Exiting.{below_next}
use Rattle.pl_kernel.proofs.placing.next_new.Goals as goal

pub returns-then-from-next_number-clause-none : goal.returns-then-from-next_number-clause-none
returns-then-from-next_number-clause-none g c = λ number late. by number late (get nat_eq c.args.parked.now.calls number) refl
  where
    by : (number : ℕ) → c.args.from ≤ number → (o : Option (ParkedCall g.row.A.Denot)) → get nat_eq c.args.parked.now.calls number ≡ o → get nat_eq c.args.parked.now.calls number ≡ None
    by number late None is = is
    by number late (Some w) is =
        let low = below_next 0 c.args.parked.now.next number c.args.parked.now.calls w c.next_number.ensures.rise is in
        absurd (omega (arith, low, late, c.if-from-next_number.true, c.next_number.ensures.value))
