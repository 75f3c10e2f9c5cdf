use Rattle.std.proofs.Common.{rules, ◌≡◌, subst, w32, to_z, of_z}
use Rattle.pl_state.specs.Makes.{Makes}
use Rattle.pl_model.specs.declared.calls.Call.{Call}
use Rattle.pl_model.specs.declared.calls.Step.{Step}
use Rattle.pl_locked.proofs.made.make_read.Goals as goal

pub returns-clause-made : goal.returns-clause-made
returns-clause-made g c =
    let signed : to_z w32 (of_z w32 c.args.fd) ≡ c.args.fd = search rules in
    subst (λ fd. Makes {A = g.row.A.Denot} c.args.kernel.now (Step.Begin c.args.pid (Call.Read fd c.args.n)) c.in_ok-reply.reply c.step_pair.new.self) signed c.in_ok-reply.ensures.made
