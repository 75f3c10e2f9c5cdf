use Rattle.std.proofs.Common.{Bool, sym, ◌∙◌, ap}
use Rattle.std.specs.Prelude.{if◌then◌else◌}
use Rattle.pl_model.specs.Waking.{can_progress}
use Rattle.pl_state.specs.Contents.{core_of}
use Rattle.pl_kernel.specs.Queues.{finds}
use Rattle.pl_kernel.proofs.index.Asked.{waits-parked, open-parked}
use Rattle.pl_kernel.proofs.asking.is_open.Goals as goal

pub returns-then-is_of_polls : goal.returns-then-is_of_polls
returns-then-is_of_polls g c =
    let s = core_of c.args.state.now in
    let key = c.args.call.now in
    c.finds.ensures
    ∙ ap (λ (b : Bool). if b then finds s key.node key.queue else can_progress s key.number) (sym c.if-is_of_polls.true ∙ c.is_of_polls.ensures)
    ∙ sym (open-parked s key (waits-parked c.args.state.now key.number c.args.waiting c.requires.waits))

pub returns-else-is_of_polls : goal.returns-else-is_of_polls
returns-else-is_of_polls g c =
    let s = core_of c.args.state.now in
    let key = c.args.call.now in
    c.call_can_progress.ensures
    ∙ ap (λ (b : Bool). if b then finds s key.node key.queue else can_progress s key.number) (sym c.if-is_of_polls.false ∙ c.is_of_polls.ensures)
    ∙ sym (open-parked s key (waits-parked c.args.state.now key.number c.args.waiting c.requires.waits))
