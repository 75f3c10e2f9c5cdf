use Rattle.std.proofs.Common.{◌≤◌, ap, arith, ◌∙◌}
use Rattle.pl_model.specs.Numbers.{last_call}
use Rattle.pl_nodes.specs.Nodes.{memory_of}
use Rattle.pl_state.proofs.by_call.Starting.{sound_nothing, held_nothing, stands_nothing}
use Rattle.pl_state.proofs.state.KernelState.new.Goals as goal

pub invariant_of-result : goal.invariant_of-result
invariant_of-result g c =
    let few : c.args.limits.first_call ≤ last_call = omega arith in
    (rw (c.new.ensures.value, c.new-2.ensures.pipes, c.new-2.ensures.files, c.new-2.ensures.names, c.new-2.ensures.limits, c.node_limits.ensures, c.new-3.ensures) (sound_nothing _ (memory_of c.new-2.result) c.args.limits few), rw (c.new-3.ensures) (held_nothing _ (memory_of c.new-2.result) c.args.limits c.new.result (ap (λ d. d.loose) c.new.ensures.value) (ap (λ d. d.limits) c.new.ensures.value ∙ c.desc_limits.ensures) c.new.ensures.tidy))

pub returns : goal.returns
returns g c = rw (c.new.ensures.value, c.new-2.ensures.pipes, c.new-2.ensures.files, c.new-2.ensures.names, c.new-2.ensures.limits, c.node_limits.ensures, c.new-3.ensures) (stands_nothing _ (memory_of c.new-2.result) c.args.limits)
