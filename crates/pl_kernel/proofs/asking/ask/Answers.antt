use Rattle.std.proofs.Common.{◌≡◌, true, false, refl, ◌∙◌, ap, nat_eq, sym}
use Rattle.std.specs.Prelude.{is_some, IsSome, Option}
use Rattle.std.specs.declared.option.Option.TheVariants.{None, Some}
use Rattle.pl_model.specs.Map.{get}
use Rattle.pl_state.specs.Contents.{core_of}
use Rattle.pl_kernel.proofs.index.Touching.{parked-some}
use Rattle.pl_kernel.proofs.index.Asked.{unparked-open, taken-out, waits-parked}
use Rattle.pl_kernel.proofs.asking.ask.Given.{Over}
use Rattle.pl_kernel.proofs.asking.ask.Goals.{After-remove, In-Some}
use Rattle.pl_kernel.proofs.asking.ask.Goals as goal

-- no call is parked under the number
gone : (g : Over) (c : After-remove g) → is_some (get nat_eq (core_of c.args.state.now).parked c.args.call.now.number) ≡ false
gone g c = parked-some c.args.state.now c.args.call.now.number ∙ ap (λ o. is_some o) c.in_default.ensures.none

-- one is
there : {X : Type 0} (o : Option X) → is_some o ≡ true → IsSome o
there None h = absurd (cc)
there (Some x) h = refl

parked : (g : Over) (c : In-Some g) → IsSome (get nat_eq (core_of c.args.state.now).parked c.args.call.now.number)
parked g c = there (get nat_eq (core_of c.args.state.now).parked c.args.call.now.number) (waits-parked c.args.state.now c.args.call.now.number c.in-Some.waiting c.in-Some.ensures.some)

pub returns-in_default-clause-prunes : goal.returns-in_default-clause-prunes
returns-in_default-clause-prunes g c = taken-out (core_of c.args.state.now) c.args.call.now c.args.waiters.now c.remove.new.self (gone g c) c.remove.ensures.queues c.remove.ensures.touched c.remove.ensures.least c.remove.ensures.known

pub returns-in_default-clause-gone : goal.returns-in_default-clause-gone
returns-in_default-clause-gone g c = λ _. unparked-open (core_of c.args.state.now) c.args.call.now (gone g c)

pub is_open-requires-clause-there : goal.is_open-requires-clause-there
is_open-requires-clause-there g c = c.requires.there (parked g c)

pub returns-else-is_open-clause-stuck : goal.returns-else-is_open-clause-stuck
returns-else-is_open-clause-stuck g c = λ _. (parked g ((goal.at.returns-else-is_open-clause-stuck g c).In-Some), sym c.is_open.ensures ∙ c.if-is_open.false)
