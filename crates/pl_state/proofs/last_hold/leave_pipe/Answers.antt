use Rattle.std.proofs.Common.{◌∙◌, sym, subst, ap}
use Rattle.pl_desc.specs.Rows.{at}
use Rattle.pl_state.proofs.holders.Hung.{left_hung, left_reset, left_none}
use Rattle.pl_nodes.specs.Nodes.{Shrinks, memory_of}
use Rattle.pl_state.proofs.holders.Shrinking.{shrinks-same}
use Rattle.pl_state.proofs.last_hold.leave_pipe.Goals as goal

pub returns-in-Some-clause-pipes : goal.returns-in-Some-clause-pipes
returns-in-Some-clause-pipes g c =
    left_hung c.args.pipe c.args.nodes.now c.set_hung.new.self c.args.has_reader c.args.has_writer c.is_hung-was_hung.result c.args.had_writer c.is_hung-was_hung.ensures
    c.in-Some.hung (sym c.hung_after_close.ensures ∙ c.in-Some.is) c.set_hung.ensures.ok

pub returns-then-has_name-clause-pipes : goal.returns-then-has_name-clause-pipes
returns-then-has_name-clause-pipes g c =
    left_reset c.args.pipe c.args.nodes.now c.reset_pipe.new.self c.args.has_reader c.args.has_writer c.is_hung-was_hung.result c.args.had_writer c.is_hung-was_hung.ensures
    (sym c.hung_after_close.ensures ∙ c.in-None.is) (sym c.has_name.ensures.value ∙ c.if-has_name.true) c.reset_pipe.ensures.ok

pub returns-else-has_name-clause-pipes : goal.returns-else-has_name-clause-pipes
returns-else-has_name-clause-pipes g c =
    left_none c.args.pipe c.args.nodes.now c.discard_pipe.new.self c.args.has_reader c.args.has_writer c.is_hung-was_hung.result c.args.had_writer c.is_hung-was_hung.ensures
    (sym c.hung_after_close.ensures ∙ c.in-None.is) (sym c.has_name.ensures.value ∙ c.if-has_name.false) c.discard_pipe.ensures.ok

pub returns-in-Some-clause-shrinks : goal.returns-in-Some-clause-shrinks
returns-in-Some-clause-shrinks g c = subst (Shrinks (memory_of c.args.nodes.now)) (sym c.set_hung.ensures.memory) (shrinks-same (memory_of c.args.nodes.now))

pub returns-in-Some-clause-files : goal.returns-in-Some-clause-files
returns-in-Some-clause-files g c = ap at c.set_hung.ensures.files.files

pub returns-then-has_name-clause-files : goal.returns-then-has_name-clause-files
returns-then-has_name-clause-files g c = ap at c.reset_pipe.ensures.files.files
