use Rattle.std.proofs.Common.{sym, ◌∙◌, ap, subst}
use Rattle.std.specs.Prelude.{Err}
use Rattle.pl_model.specs.declared.calls.Step.TheVariants.{Start}
use Rattle.pl_model.specs.declared.replies.Reply.TheVariants.{Fault}
use Rattle.pl_model.specs.declared.replies.Errno.TheVariants.{EAGAIN}
use Rattle.pl_desc.specs.Descs.{Descs}
use Rattle.pl_state.specs.KernelView.{view_of}
use Rattle.pl_state.specs.Contents.{contents, nodes_of}
use Rattle.pl_state.specs.Makes.{MakesAtKeys}
use Rattle.pl_state.proofs.by_call.Starting.{start-full, start-may, start-starts, start-sound, start-held}
use Rattle.pl_state.proofs.Known.{Known, known, still_sound}
use Rattle.pl_descriptors.proofs.processes.start.Given.{Over}
use Rattle.pl_descriptors.proofs.processes.start.Goals.{After-start}
use Rattle.pl_descriptors.proofs.processes.start.Goals as goal
use Rattle.pl_descriptors.proofs.processes.start.Goals.{in-Ok, in-Err-Eagain, in-Err-NoMemory}

-- what is known as a process starts
abbrev holds : (g : Over) → After-start g → Known g.row.A.Denot
holds g c = known c.kernel.inside c.kernel.invariant

pub invariant_of-kernel : goal.invariant_of-kernel
invariant_of-kernel g c =
    let v = (goal.at.invariant_of-kernel g c).After-start in
    elim c.match-start.branch [
      | in-Ok w ↦ (
        start-sound (holds g v) w.in-Ok.pid w.in-Ok.ensures.pid c.start.new.self w.in-Ok.ensures.pids w.in-Ok.ensures.rows c.start.ensures.rest w.in-Ok.ensures.tidy,
        start-held (holds g v) w.in-Ok.pid w.in-Ok.ensures.pid c.start.new.self w.in-Ok.ensures.pids w.in-Ok.ensures.rows c.start.ensures.rest w.in-Ok.ensures.tidy,
      )
      | in-Err-Eagain w ↦ still_sound c.kernel.inside c.kernel.invariant c.start.new.self (sym w.in-Err-Eagain.ensures.unchanged)
      | in-Err-NoMemory w ↦ still_sound c.kernel.inside c.kernel.invariant c.start.new.self (sym w.in-Err-NoMemory.ensures.unchanged)
    ]

pub returns-clause-done : goal.returns-clause-done
returns-clause-done g c =
    let m = holds g (goal.at.returns-clause-done g c).After-start in
    let k = c.kernel.inside in
    elim c.match-start.branch [
      | in-Ok w ↦ rw (w.result-is, ← c.kernel.view_is) (start-starts m w.in-Ok.pid w.in-Ok.ensures.pid c.start.new.self w.in-Ok.ensures.pids w.in-Ok.ensures.rows c.start.ensures.rest w.in-Ok.ensures.tidy)
      | in-Err-Eagain w ↦ rw (w.result-is, ← c.kernel.view_is) (subst (λ (d : Descs). MakesAtKeys (view_of k) Start (Fault EAGAIN) (contents d (nodes_of k.nodes) k.parked k.limits)) (sym w.in-Err-Eagain.ensures.unchanged) (start-full m (c.start.ensures.full.0 (w.in-Err-Eagain.is ∙ ap (λ e. Err e) w.in-Err-Eagain.field-0-is))))
      | in-Err-NoMemory w ↦ rw (w.result-is) tt
    ]

pub returns-clause-wanted : goal.returns-clause-wanted
returns-clause-wanted g c =
    let m = holds g (goal.at.returns-clause-wanted g c).After-start in
    elim c.match-start.branch [
      | in-Ok w ↦ rw (w.result-is) tt
      | in-Err-Eagain w ↦ rw (w.result-is) tt
      | in-Err-NoMemory w ↦ rw (w.result-is, ← c.kernel.view_is) (start-may m (λ none. (let e = sym (c.start.ensures.full.1 none) ∙ w.in-Err-NoMemory.is ∙ ap (λ e. Err e) w.in-Err-NoMemory.field-0-is in cc)))
    ]
