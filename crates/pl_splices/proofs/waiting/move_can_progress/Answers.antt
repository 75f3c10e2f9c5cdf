use Rattle.std.proofs.Common.{◌≡◌, subst, refl, sym, ◌∙◌}
use Rattle.pl_model.specs.declared.cases.MoveCase.{MoveCase}
use Rattle.pl_model.specs.declared.replies.Errno.TheVariants.{EFBIG, EPIPE}
use Rattle.pl_model.specs.declared.replies.Reply.TheVariants.{Fault}
use Rattle.pl_model.specs.Numbered.{numbers}
use Rattle.pl_model.specs.Transfer.{count}
use Rattle.pl_model.specs.Trial.{Trial}
use Rattle.pl_model.specs.Waking.{gets_on, can_progress}
use Rattle.pl_state.specs.Contents.{core_of}
use Rattle.pl_state.specs.Sound.{IsSound}
use Rattle.pl_splices.specs.Moves.{trial}
use Rattle.pl_splices.proofs.by_call.Retrying.{move-progress}
use Rattle.pl_splices.proofs.by_call.Sizing.{packets_end, ends_still, waits_still, would_move}
use Rattle.pl_splices.proofs.waiting.move_can_progress.Given.{Over}
use Rattle.pl_splices.proofs.waiting.move_can_progress.Goals.{After-sides_of}
use Rattle.pl_splices.proofs.waiting.move_can_progress.Goals as goal

-- whether it can get on is told by its try
by_trial : (g : Over) (c : After-sides_of g) (t : Trial g.row.A.Denot numbers) → trial c.args.kernel.now c.sides_of.result.from c.sides_of.result.to c.args.waiting.len c.args.waiting.is_tee ≡ t → gets_on 0 t ≡ can_progress (core_of c.args.kernel.now) c.args.number
by_trial g c t is =
    let m = c.args.waiting in
    let s = c.sides_of.result in
    sym (move-progress c.args.kernel.now (subst (λ z. IsSound g.row.A.Denot z) c.kernel.view_is c.kernel.invariant.0) c.args.number s.from s.to m.len m.is_tee c.sides_of.ensures.waits t is)

pub returns-then-either_is_packet : goal.returns-then-either_is_packet
returns-then-either_is_packet g c =
    let m = c.args.waiting in
    let s = c.sides_of.result in
    by_trial g (goal.at.returns-then-either_is_packet g c).After-sides_of _ (packets_end c.args.kernel.now s.from s.to m.is_tee c.sides_of.ensures.goes m.len (sym c.either_is_packet.ensures ∙ c.if-either_is_packet.true)).came

pub returns-in-Broken : goal.returns-in-Broken
returns-in-Broken g c =
    let m = c.args.waiting in
    let s = c.sides_of.result in
    by_trial g (goal.at.returns-in-Broken g c).After-sides_of _ (ends_still c.args.kernel.now s.from s.to m.is_tee c.sides_of.ensures.goes m.len c.source_of-source.result c.target_of-target.result c.source_of-source.ensures c.target_of-target.ensures
    MoveCase.Broken (sym c.in-Broken.is ∙ c.case_of_move.ensures.case) (sym c.either_is_packet.ensures ∙ c.if-either_is_packet.false) (Fault EPIPE) refl).came

pub returns-in-EndOfInput : goal.returns-in-EndOfInput
returns-in-EndOfInput g c =
    let m = c.args.waiting in
    let s = c.sides_of.result in
    by_trial g (goal.at.returns-in-EndOfInput g c).After-sides_of _ (ends_still c.args.kernel.now s.from s.to m.is_tee c.sides_of.ensures.goes m.len c.source_of-source.result c.target_of-target.result c.source_of-source.ensures c.target_of-target.ensures
    MoveCase.EndOfInput (sym c.in-EndOfInput.is ∙ c.case_of_move.ensures.case) (sym c.either_is_packet.ensures ∙ c.if-either_is_packet.false) (count 0) refl).came

pub returns-in-Waits : goal.returns-in-Waits
returns-in-Waits g c =
    let m = c.args.waiting in
    let s = c.sides_of.result in
    by_trial g (goal.at.returns-in-Waits g c).After-sides_of _ (waits_still c.args.kernel.now s.from s.to m.is_tee c.sides_of.ensures.goes m.len c.source_of-source.result c.target_of-target.result c.source_of-source.ensures c.target_of-target.ensures
    MoveCase.Waits (sym c.in-Waits.is ∙ c.case_of_move.ensures.case) (sym c.either_is_packet.ensures ∙ c.if-either_is_packet.false) refl).came

pub returns-in-TooBig : goal.returns-in-TooBig
returns-in-TooBig g c =
    let m = c.args.waiting in
    let s = c.sides_of.result in
    by_trial g (goal.at.returns-in-TooBig g c).After-sides_of _ (ends_still c.args.kernel.now s.from s.to m.is_tee c.sides_of.ensures.goes m.len c.source_of-source.result c.target_of-target.result c.source_of-source.ensures c.target_of-target.ensures
    MoveCase.TooBig (sym c.in-TooBig.is ∙ c.case_of_move.ensures.case) (sym c.either_is_packet.ensures ∙ c.if-either_is_packet.false) (Fault EFBIG) refl).came

pub returns-in-Moves : goal.returns-in-Moves
returns-in-Moves g c =
    let m = c.args.waiting in
    let s = c.sides_of.result in
    by_trial g (goal.at.returns-in-Moves g c).After-sides_of _ (would_move c.args.kernel.now s.from s.to m.is_tee c.sides_of.ensures.goes m.len c.source_of-source.result c.target_of-target.result c.source_of-source.ensures c.target_of-target.ensures
    c.case_of_move.result c.case_of_move.ensures.case (sym c.either_is_packet.ensures ∙ c.if-either_is_packet.false) c.in-Moves._count c.in-Moves.is).came
