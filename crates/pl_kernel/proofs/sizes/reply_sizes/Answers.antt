use Rattle.std.proofs.Common.{refl, sym, ◌∙◌, subst}
use Rattle.pl_model.specs.declared.calls.Step.{Step}
use Rattle.pl_model.specs.declared.calls.Step.TheVariants.{Start, Begin, Resume, Interrupt}
use Rattle.pl_state.specs.Contents.{Contents, core_of}
use Rattle.pl_state.specs.KernelView.{view_of}
use Rattle.pl_kernel.specs.Sizes.{no_list, sizes_begun, TellsSizes}
use Rattle.pl_kernel.proofs.Pairing.{tells, nobody, somebody}
use Rattle.pl_kernel.proofs.sizes.reply_sizes.Goals as goal

pub returns-then-not-has-clause-value : goal.returns-then-not-has-clause-value
returns-then-not-has-clause-value g c =
    let k = view_of c.kernel.inside in
    let x : Step g.row.A.Denot = Begin c.in-Begin.pid c.in-Begin.call in
    subst (λ z. TellsSizes c.args.kernel.now z no_list) (sym c.in-Begin.is)
    (subst (λ (z : Contents g.row.A.Denot). TellsSizes z x no_list) c.kernel.view_is (tells k x no_list (nobody k c.in-Begin.pid c.in-Begin.call (sym c.has.ensures.value ∙ c.if-not-has.true))))

pub returns-else-not-has-clause-value : goal.returns-else-not-has-clause-value
returns-else-not-has-clause-value g c =
    let k = view_of c.kernel.inside in
    let x : Step g.row.A.Denot = Begin c.in-Begin.pid c.in-Begin.call in
    let told = tells k x (sizes_begun (core_of k) c.in-Begin.pid c.in-Begin.call) (somebody k c.in-Begin.pid c.in-Begin.call (sym c.has.ensures.value ∙ c.if-not-has.false)) in
    subst (TellsSizes c.args.kernel.now c.args.step.now) (sym c.sizes_to_begin.ensures)
    (subst (λ z. TellsSizes c.args.kernel.now z (sizes_begun (core_of c.args.kernel.now) c.in-Begin.pid c.in-Begin.call)) (sym c.in-Begin.is)
    (subst (λ (z : Contents g.row.A.Denot). TellsSizes z x (sizes_begun (core_of z) c.in-Begin.pid c.in-Begin.call)) c.kernel.view_is told))

pub returns-in-Resume-clause-value : goal.returns-in-Resume-clause-value
returns-in-Resume-clause-value g c =
    let k = c.args.kernel.now in
    let n = c.in-Resume.number in
    let x : Step g.row.A.Denot = Resume n in
    subst (λ z. TellsSizes k z (record { bytes = c.bytes_to_resume.result; masks = c.masks_to_resume.result })) (sym c.in-Resume.is)
    (tells k x _ (λ i. record { bytes = sym c.bytes_to_resume.ensures.value i; masks = sym c.masks_to_resume.ensures i }))

pub returns-in-Start-clause-value : goal.returns-in-Start-clause-value
returns-in-Start-clause-value g c = subst (λ z. TellsSizes c.args.kernel.now z no_list) (sym c.in-Start.is) (tells c.args.kernel.now Start no_list refl)

pub returns-in-Interrupt-clause-value : goal.returns-in-Interrupt-clause-value
returns-in-Interrupt-clause-value g c =
    subst (λ z. TellsSizes c.args.kernel.now z no_list) (sym c.in-Interrupt.is) (tells c.args.kernel.now (Interrupt c.in-Interrupt.field-0) no_list refl)
