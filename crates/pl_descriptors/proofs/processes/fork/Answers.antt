use Rattle.std.proofs.Common.{sym, ◌∙◌, ap, subst}
use Rattle.std.specs.Prelude.{Err}
use Rattle.pl_model.specs.declared.calls.Call.TheVariants as call
use Rattle.pl_model.specs.declared.calls.Step.TheVariants.{Begin}
use Rattle.pl_model.specs.declared.replies.Reply.TheVariants.{Fault}
use Rattle.pl_model.specs.declared.replies.Errno.TheVariants.{EAGAIN}
use Rattle.pl_desc.specs.Descs.{Descs}
use Rattle.pl_state.specs.KernelView.{view_of}
use Rattle.pl_state.specs.Contents.{contents, nodes_of}
use Rattle.pl_state.specs.Makes.{MakesAtKeys}
use Rattle.pl_descriptors.proofs.by_call.Forking.{fork-full, fork-may, fork-forks, fork-sound, fork-held}
use Rattle.pl_state.proofs.waiting.ParkedCalls.{few_holds}
use Rattle.pl_state.proofs.Known.{Caller, caller, still_sound}
use Rattle.pl_descriptors.proofs.processes.fork.Given.{Over}
use Rattle.pl_descriptors.proofs.processes.fork.Goals.{After-copy_table}
use Rattle.pl_descriptors.proofs.processes.fork.Goals as goal
use Rattle.pl_descriptors.proofs.processes.fork.Goals.{in-Ok, in-Err-Eagain, in-Err-NoMemory}

-- the process that forks
abbrev calls : (g : Over) → After-copy_table g → Caller g.row.A.Denot
calls g c = caller c.kernel.inside c.kernel.invariant c.args.kernel.now c.kernel.view_is c.args.pid c.requires

pub copy_table-requires-clause-few : goal.copy_table-requires-clause-few
copy_table-requires-clause-few g c =
    few_holds c.kernel.inside.descs (view_of c.kernel.inside) c.kernel.invariant.0 c.kernel.invariant.1

pub invariant_of-kernel : goal.invariant_of-kernel
invariant_of-kernel g c =
    let v = (goal.at.invariant_of-kernel g c).After-copy_table in
    elim c.match-copy_table.branch [
      | in-Ok w ↦ (
        fork-sound (calls g v) w.in-Ok.child w.in-Ok.ensures.pid c.copy_table.new.self w.in-Ok.ensures.pids w.in-Ok.ensures.rows c.copy_table.ensures.rest w.in-Ok.ensures.tidy,
        fork-held (calls g v) w.in-Ok.child w.in-Ok.ensures.pid c.copy_table.new.self w.in-Ok.ensures.pids w.in-Ok.ensures.rows c.copy_table.ensures.rest w.in-Ok.ensures.tidy,
      )
      | in-Err-Eagain w ↦ still_sound c.kernel.inside c.kernel.invariant c.copy_table.new.self (sym w.in-Err-Eagain.ensures.unchanged)
      | in-Err-NoMemory w ↦ still_sound c.kernel.inside c.kernel.invariant c.copy_table.new.self (sym w.in-Err-NoMemory.ensures.unchanged)
    ]

pub returns-clause-done : goal.returns-clause-done
returns-clause-done g c =
    let m = calls g (goal.at.returns-clause-done g c).After-copy_table in
    let k = c.kernel.inside in
    elim c.match-copy_table.branch [
      | in-Ok w ↦ rw (w.result-is, ← c.kernel.view_is) (fork-forks m w.in-Ok.child w.in-Ok.ensures.pid c.copy_table.new.self w.in-Ok.ensures.pids w.in-Ok.ensures.rows c.copy_table.ensures.rest w.in-Ok.ensures.tidy)
      | in-Err-Eagain w ↦ rw (w.result-is, ← c.kernel.view_is) (subst (λ (d : Descs). MakesAtKeys (view_of k) (Begin c.args.pid call.Fork) (Fault EAGAIN) (contents d (nodes_of k.nodes) k.parked k.limits)) (sym w.in-Err-Eagain.ensures.unchanged) (fork-full m (c.copy_table.ensures.full.0 (w.in-Err-Eagain.is ∙ ap (λ e. Err e) w.in-Err-Eagain.field-0-is))))
      | in-Err-NoMemory w ↦ rw (w.result-is) tt
    ]

pub returns-clause-wanted : goal.returns-clause-wanted
returns-clause-wanted g c =
    let m = calls g (goal.at.returns-clause-wanted g c).After-copy_table in
    elim c.match-copy_table.branch [
      | in-Ok w ↦ rw (w.result-is) tt
      | in-Err-Eagain w ↦ rw (w.result-is) tt
      | in-Err-NoMemory w ↦ rw (w.result-is, ← c.kernel.view_is) (fork-may m (λ none. (let e = sym (c.copy_table.ensures.full.1 none) ∙ w.in-Err-NoMemory.is ∙ ap (λ e. Err e) w.in-Err-NoMemory.field-0-is in cc)))
    ]
