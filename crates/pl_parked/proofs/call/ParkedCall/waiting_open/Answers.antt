use Rattle.std.proofs.Common.{refl, sym, ◌∙◌}
use Rattle.pl_parked.proofs.Waiting.{waiting-is}
use Rattle.pl_parked.proofs.call.ParkedCall.waiting_open.Goals as goal

pub returns-then-self : goal.returns-then-self
returns-then-self g c = sym (waiting-is c.args.number c.args.self.now _ _ _ c.if-self.true refl refl)

pub returns-in_err-reads : goal.returns-in_err-reads
returns-in_err-reads g c = c.from_residual.ensures ∙ sym (waiting-is c.args.number c.args.self.now _ _ _ c.if-self.false (sym c.in_err-reads.ensures) refl)

pub returns-in_err-pipe : goal.returns-in_err-pipe
returns-in_err-pipe g c = c.from_residual-in_err-pipe.ensures ∙ sym (waiting-is c.args.number c.args.self.now _ _ _ c.if-self.false (sym c.in_ok-reads.ensures) c.in_err-pipe.was)

pub returns : goal.returns
returns g c = sym (waiting-is c.args.number c.args.self.now _ _ _ c.if-self.false (sym c.in_ok-reads.ensures) c.in_ok-pipe.was)
