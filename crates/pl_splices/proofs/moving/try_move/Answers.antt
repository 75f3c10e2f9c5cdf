use Rattle.std.proofs.Common.{refl, sym, ◌∙◌}
use Rattle.pl_model.specs.declared.cases.MoveCase.{MoveCase}
use Rattle.pl_model.specs.declared.replies.Errno.TheVariants.{EFBIG, EPIPE}
use Rattle.pl_model.specs.declared.replies.Reply.TheVariants.{Fault}
use Rattle.pl_model.specs.Transfer.{count}
use Rattle.pl_splices.proofs.by_call.Sharing.{shares-same}
use Rattle.pl_splices.specs.Moves.{WouldMove}
use Rattle.pl_nodes.proofs.Keyed.{on_err}
use Rattle.pl_splices.proofs.by_call.Sizing.{packets_end, ends_still, waits_still, would_move, ends_over}
use Rattle.pl_splices.proofs.moving.try_move.Goals as goal

pub returns-in_err-move_bytes-in-Moves-clause-wanted : goal.returns-in_err-move_bytes-in-Moves-clause-wanted
returns-in_err-move_bytes-in-Moves-clause-wanted g c =
    on_err c.from_residual.result (WouldMove c.args.kernel.now c.args.from c.args.to c.args.len c.args.is_tee)
    (would_move c.args.kernel.now c.args.from c.args.to c.args.is_tee c.requires.goes c.args.len c.source_of-source.result c.target_of-target.result c.source_of-source.ensures c.target_of-target.ensures c.case_of_move.result c.case_of_move.ensures.case (sym c.either_is_packet.ensures ∙ c.if-either_is_packet.false) c.in-Moves.count c.in-Moves.is)

pub returns-in-Broken-clause-done : goal.returns-in-Broken-clause-done
returns-in-Broken-clause-done g c = ends_still c.args.kernel.now c.args.from c.args.to c.args.is_tee c.requires.goes c.args.len c.source_of-source.result c.target_of-target.result c.source_of-source.ensures c.target_of-target.ensures MoveCase.Broken (sym c.in-Broken.is ∙ c.case_of_move.ensures.case) (sym c.either_is_packet.ensures ∙ c.if-either_is_packet.false) (Fault EPIPE) refl

pub returns-in-EndOfInput-clause-done : goal.returns-in-EndOfInput-clause-done
returns-in-EndOfInput-clause-done g c = ends_still c.args.kernel.now c.args.from c.args.to c.args.is_tee c.requires.goes c.args.len c.source_of-source.result c.target_of-target.result c.source_of-source.ensures c.target_of-target.ensures MoveCase.EndOfInput (sym c.in-EndOfInput.is ∙ c.case_of_move.ensures.case) (sym c.either_is_packet.ensures ∙ c.if-either_is_packet.false) (count 0) refl

pub returns-in-Waits-clause-done : goal.returns-in-Waits-clause-done
returns-in-Waits-clause-done g c = waits_still c.args.kernel.now c.args.from c.args.to c.args.is_tee c.requires.goes c.args.len c.source_of-source.result c.target_of-target.result c.source_of-source.ensures c.target_of-target.ensures MoveCase.Waits (sym c.in-Waits.is ∙ c.case_of_move.ensures.case) (sym c.either_is_packet.ensures ∙ c.if-either_is_packet.false) refl

pub returns-in-TooBig-clause-done : goal.returns-in-TooBig-clause-done
returns-in-TooBig-clause-done g c = ends_still c.args.kernel.now c.args.from c.args.to c.args.is_tee c.requires.goes c.args.len c.source_of-source.result c.target_of-target.result c.source_of-source.ensures c.target_of-target.ensures MoveCase.TooBig (sym c.in-TooBig.is ∙ c.case_of_move.ensures.case) (sym c.either_is_packet.ensures ∙ c.if-either_is_packet.false) (Fault EFBIG) refl

pub returns-in_ok-move_bytes-in-Moves-clause-done : goal.returns-in_ok-move_bytes-in-Moves-clause-done
returns-in_ok-move_bytes-in-Moves-clause-done g c = ends_over c.args.kernel.now c.args.from c.args.to c.args.is_tee c.requires.goes c.args.len c.source_of-source.result c.target_of-target.result c.source_of-source.ensures c.target_of-target.ensures c.case_of_move.result c.case_of_move.ensures.case (sym c.either_is_packet.ensures ∙ c.if-either_is_packet.false) c.in-Moves.count c.in-Moves.is c.move_bytes.new.kernel c.in_ok-move_bytes-in-Moves.ensures.done

pub returns-in-Broken-clause-shares : goal.returns-in-Broken-clause-shares
returns-in-Broken-clause-shares g c = shares-same c.args.kernel.now c.args.from.node c.args.to.node _

pub returns-in-EndOfInput-clause-shares : goal.returns-in-EndOfInput-clause-shares
returns-in-EndOfInput-clause-shares g c = shares-same c.args.kernel.now c.args.from.node c.args.to.node _

pub returns-in-Waits-clause-shares : goal.returns-in-Waits-clause-shares
returns-in-Waits-clause-shares g c = shares-same c.args.kernel.now c.args.from.node c.args.to.node _

pub returns-in-TooBig-clause-shares : goal.returns-in-TooBig-clause-shares
returns-in-TooBig-clause-shares g c = shares-same c.args.kernel.now c.args.from.node c.args.to.node _

pub returns-then-either_is_packet-clause-done : goal.returns-then-either_is_packet-clause-done
returns-then-either_is_packet-clause-done g c = packets_end c.args.kernel.now c.args.from c.args.to c.args.is_tee c.requires.goes c.args.len (sym c.either_is_packet.ensures ∙ c.if-either_is_packet.true)

pub returns-then-either_is_packet-clause-shares : goal.returns-then-either_is_packet-clause-shares
returns-then-either_is_packet-clause-shares g c = shares-same c.args.kernel.now c.args.from.node c.args.to.node _

pub move_bytes-requires-clause-bytes : goal.move_bytes-requires-clause-bytes
move_bytes-requires-clause-bytes g c = sym c.either_is_packet.ensures ∙ c.if-either_is_packet.false
