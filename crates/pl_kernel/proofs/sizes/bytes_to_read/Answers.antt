use Rattle.std.proofs.Common.{◌≡◌, sym, ◌∙◌, subst, rules, w32, SFits}
use Rattle.std.proofs.lemmas.Int.{to_z-of_z}
use Rattle.pl_state.specs.Contents.{Contents}
use Rattle.pl_state.specs.KernelView.{view_of}
use Rattle.pl_kernel.specs.Buffers.{gives}
use Rattle.pl_kernel.proofs.Pairing.{gives_nobody, gives_somebody}
use Rattle.pl_kernel.proofs.sizes.bytes_to_read.Goals as goal

pub returns-then-not-has-clause-value : goal.returns-then-not-has-clause-value
returns-then-not-has-clause-value g c =
    let k = view_of c.kernel.inside in
    subst (λ (z : Contents g.row.A.Denot). 0 ≡ gives z c.args.pid c.args.fd c.args.n) c.kernel.view_is
    (sym (gives_nobody k c.args.pid c.args.fd c.args.n (sym c.has.ensures.value ∙ c.if-not-has.true)))

pub returns-clause-value : goal.returns-clause-value
returns-clause-value g c =
    let k = view_of c.kernel.inside in
    let fits : SFits w32 c.args.fd = search rules in
    subst (λ (z : Contents g.row.A.Denot). c.bytes_to_read.result ≡ gives z c.args.pid c.args.fd c.args.n) c.kernel.view_is
    (rw c.kernel.view_is (rw (to_z-of_z w32 c.args.fd fits) at c.bytes_to_read.ensures) ∙ sym (gives_somebody k c.args.pid c.args.fd c.args.n (sym c.has.ensures.value ∙ c.if-not-has.false)))
