use Rattle.std.proofs.Common.{◌≡◌, Some, sym, subst, ◌∙◌, ap, nat_lt}
use Rattle.std.specs.Prelude.{◌||◌}
use Rattle.pl_model.specs.declared.node.Node.TheVariants as node
use Rattle.std.proofs.lemmas.Bool.{lt-ltb, le-ltb}
use Rattle.pl_model.specs.Modes.{writes}
use Rattle.pl_desc.specs.Rows.{at}
use Rattle.pl_state.specs.Contents.{IsThere, nodes_of}
use Rattle.pl_state.specs.LastHold.{is_open_on}
use Rattle.pl_state.proofs.holders.Ends.{any_end}
use Rattle.pl_state.proofs.holders.Hung.{Told, told, leaves_pipe, leaves_file, leaves_at, node_told}
use Rattle.pl_state.proofs.last_hold.release.Given.{Over}
use Rattle.pl_state.proofs.last_hold.release.Goals.{In-Gone, then-has_writer, else-has_writer}
use Rattle.pl_state.proofs.last_hold.release.Goals as goal

-- the description was on the node, whose ends are counted
was : (g : Over) (c : In-Gone g) → Told c.args.descs.now.opened c.release.new.self.opened c.args.key c.in-Gone.node c.in-Gone.mode c.in-Gone.readers c.in-Gone.writers
was g c = told c.args.descs.now c.args.key c.release.new.self.opened _ _ _ _ (c.release.ensures.value ∙ ap (λ z. Some z) c.in-Gone.is) c.release.ensures.opened

pub leave_pipe-requires : goal.leave_pipe-requires
leave_pipe-requires g c =
    let w = (goal.at.leave_pipe-requires g c).In-Gone in
    node_told (IsThere (nodes_of c.args.nodes.now)) (at c.args.descs.now.opened c.args.key) (node.Pipe c.in-Pipe.pipe) c.requires.there ((was g w).on ∙ ap (λ z. Some z) c.in-Pipe.is)

pub leave_file-requires : goal.leave_file-requires
leave_file-requires g c =
    let w = (goal.at.leave_file-requires g c).In-Gone in
    node_told (IsThere (nodes_of c.args.nodes.now)) (at c.args.descs.now.opened c.args.key) (node.File c.in-File.file) c.requires.there ((was g w).on ∙ ap (λ z. Some z) c.in-File.is)

pub returns-in-Pipe-clause-leaves : goal.returns-in-Pipe-clause-leaves
returns-in-Pipe-clause-leaves g c =
    let w = (goal.at.returns-in-Pipe-clause-leaves g c).In-Gone in
    let before = c.args.descs.now.opened in
    let after = c.release.new.self.opened in
    let was : Told before after c.args.key (node.Pipe c.in-Pipe.pipe) c.in-Gone.mode c.in-Gone.readers c.in-Gone.writers = subst (λ n. Told before after c.args.key n c.in-Gone.mode c.in-Gone.readers c.in-Gone.writers) c.in-Pipe.is (was g w) in
    let had : c.if-has_writer.had_writer ≡ (nat_lt 0 c.in-Gone.writers || writes c.in-Gone.mode) = elim c.if-has_writer.branch [
      | then-has_writer w ↦ let some = lt-ltb 0 c.in-Gone.writers w.if-has_writer.true in w.had_writer-is ∙ some ∙ sym (ap (λ b. b || writes c.in-Gone.mode) some)
      | else-has_writer w ↦ w.had_writer-is ∙ w.writes-had_writer.ensures ∙ sym (ap (λ b. b || writes c.in-Gone.mode) (le-ltb 0 c.in-Gone.writers w.if-has_writer.false))
    ] in
    λ last. leaves_at before after c.args.key (node.Pipe c.in-Pipe.pipe) (nodes_of c.args.nodes.now) (nodes_of c.leave_pipe.new.nodes) was.on
    (leaves_pipe before after c.in-Pipe.pipe c.args.nodes.now c.leave_pipe.new.nodes _ _ _ was.reads_left was.writes_left (had ∙ was.wrote) c.leave_pipe.ensures.pipes c.leave_pipe.ensures.files c.leave_pipe.ensures.names c.leave_pipe.ensures.limits)

pub returns-in-File-clause-leaves : goal.returns-in-File-clause-leaves
returns-in-File-clause-leaves g c =
    let w = (goal.at.returns-in-File-clause-leaves g c).In-Gone in
    let before = c.args.descs.now.opened in
    let after = c.release.new.self.opened in
    let was : Told before after c.args.key (node.File c.in-File.file) c.in-Gone.mode c.in-Gone.readers c.in-Gone.writers = subst (λ n. Told before after c.args.key n c.in-Gone.mode c.in-Gone.readers c.in-Gone.writers) c.in-File.is (was g w) in
    let ends : (nat_lt 0 c.in-Gone.readers || nat_lt 0 c.in-Gone.writers) ≡ is_open_on after (node.File c.in-File.file) = (λ i. was.reads_left i || was.writes_left i) ∙ sym (any_end (node.File c.in-File.file) after) in
    λ last. leaves_at before after c.args.key (node.File c.in-File.file) (nodes_of c.args.nodes.now) (nodes_of c.leave_file.new.nodes) was.on
    (leaves_file before after c.in-File.file c.args.nodes.now c.leave_file.new.nodes _ ends c.leave_file.ensures.files c.leave_file.ensures.pipes c.leave_file.ensures.names c.leave_file.ensures.limits)
