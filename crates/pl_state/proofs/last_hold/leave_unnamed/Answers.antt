use Rattle.std.proofs.Common.{◌≡◌, sym, subst, ◌∙◌, ap, nat_lt}
use Rattle.std.specs.Prelude.{◌||◌}
use Rattle.pl_model.specs.Modes.{reads, writes}
use Rattle.pl_desc.specs.Descs.{ends_on}
use Rattle.pl_state.specs.Contents.{nodes_of}
use Rattle.pl_state.specs.LastHold.{Leaves, has_reader, has_writer, is_open_on}
use Rattle.pl_model.specs.declared.node.Node.TheVariants as node
use Rattle.pl_state.proofs.holders.Ends.{any_end}
use Rattle.pl_state.proofs.holders.Hung.{leaves_pipe, leaves_file}
use Rattle.pl_state.proofs.last_hold.leave_unnamed.Goals as goal

pub returns-in-Pipe : goal.returns-in-Pipe
returns-in-Pipe g c =
    let opened = c.args.descs.now.opened in
    let reader : nat_lt 0 c.readers-has_reader.result ≡ has_reader opened c.in-Pipe.pipe = ap (nat_lt 0) (c.readers-has_reader.ensures ∙ ap (ends_on reads opened) c.in-Pipe.is) in
    let writer : nat_lt 0 c.writers-has_writer.result ≡ has_writer opened c.in-Pipe.pipe = ap (nat_lt 0) (c.writers-has_writer.ensures ∙ ap (ends_on writes opened) c.in-Pipe.is) in
    subst (Leaves opened opened (nodes_of c.args.nodes.now) (nodes_of c.leave_pipe.new.nodes)) (sym c.in-Pipe.is)
    (leaves_pipe opened opened c.in-Pipe.pipe c.args.nodes.now c.leave_pipe.new.nodes _ _ _ reader writer writer c.leave_pipe.ensures.pipes c.leave_pipe.ensures.files c.leave_pipe.ensures.names c.leave_pipe.ensures.limits)

pub returns-in-File : goal.returns-in-File
returns-in-File g c =
    let opened = c.args.descs.now.opened in
    let ends : (nat_lt 0 c.readers-has_reader.result || nat_lt 0 c.writers-has_writer.result) ≡ is_open_on opened (node.File c.in-File.file) =
    (λ i. nat_lt 0 (c.readers-has_reader.ensures i) || nat_lt 0 (c.writers-has_writer.ensures i)) ∙ sym (any_end c.args.node opened) ∙ ap (is_open_on opened) c.in-File.is in
    subst (Leaves opened opened (nodes_of c.args.nodes.now) (nodes_of c.leave_file.new.nodes)) (sym c.in-File.is)
    (leaves_file opened opened c.in-File.file c.args.nodes.now c.leave_file.new.nodes _ ends c.leave_file.ensures.files c.leave_file.ensures.pipes c.leave_file.ensures.names c.leave_file.ensures.limits)
