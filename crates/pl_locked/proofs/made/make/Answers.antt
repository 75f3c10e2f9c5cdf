use Rattle.std.proofs.Common.{rules, IfOk, ◌≡◌, sym, ap, ◌∙◌, subst, w32, to_z, of_z}
use Rattle.pl_state.specs.Makes.{Makes}
use Rattle.pl_model.specs.declared.calls.Call.{Call}
use Rattle.pl_model.specs.declared.calls.Step.{Step}
use Rattle.pl_transfers.specs.Waits.{reply_of}
use Rattle.pl_locked.proofs.made.make.Goals as goal

pub returns-in_ok-reply-in-Begin-default-Write-clause-made :
    goal.returns-in_ok-reply-in-Begin-default-Write-clause-made
returns-in_ok-reply-in-Begin-default-Write-clause-made g c =
    let w = c.in-Begin-default-Write in
    let signed : to_z w32 (of_z w32 w.fd) ≡ w.fd = search rules in
    let same : Step.Begin w.pid (Call.Write (to_z w32 (of_z w32 w.fd)) c.as_slice.result.now) ≡ c.args.step =
    (λ i. Step.Begin w.pid (Call.Write (signed i) (c.as_slice.ensures.value i))) ∙ ap (Step.Begin w.pid) (sym w.field-1-is) ∙ sym w.is
    in
    λ s stands.
    let made = subst (λ x. Makes {A = g.row.A.Denot} c.args.kernel.now x (reply_of c.in_ok-reply-in-Begin-default-Write.reply) c.write_from.new.self) same c.in_ok-reply-in-Begin-default-Write.ensures.made s stands in
    (c.reply_of_write-in-Begin-default-Write.ensures ∙ made.0, made.1)

pub returns-in-Begin-default-Read-clause-made : goal.returns-in-Begin-default-Read-clause-made
returns-in-Begin-default-Read-clause-made g c =
    let r = c.in-Begin-default-Read in
    let signed : to_z w32 (of_z w32 r.fd) ≡ r.fd = search rules in
    let same : Step.Begin r.pid (Call.Read (to_z w32 (of_z w32 r.fd)) r.n) ≡ c.args.step =
    (λ i. Step.Begin r.pid (Call.Read (signed i) r.n)) ∙ ap (Step.Begin r.pid) (sym r.field-1-is) ∙ sym r.is
    in
    subst (λ x. IfOk c.make_read.result (λ made. Makes {A = g.row.A.Denot} c.args.kernel.now x made.1 c.make_read.new.kernel)) same c.make_read.ensures.made

pub returns-in_default-clause-made : goal.returns-in_default-clause-made
returns-in_default-clause-made g c =
    let same : c.in_default-1.step ≡ c.args.step = search rules in
    subst (λ x. IfOk c.make_other.result (λ made. Makes {A = g.row.A.Denot} c.args.kernel.now x made.1 c.make_other.new.kernel)) same c.make_other.ensures.made
