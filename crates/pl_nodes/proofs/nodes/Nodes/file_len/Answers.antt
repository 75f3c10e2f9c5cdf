use Rattle.std.proofs.Common.{◌≡◌, ◌∙◌, Some, ap, length}
use Rattle.pl_nodes.proofs.Files.{file-total, file-said}
use Rattle.pl_nodes.proofs.nodes.Nodes.file_len.Goals as goal

pub returns-clause-value : goal.returns-clause-value
returns-clause-value g c =
    let there = c.index.ensures ∙ ap (λ x. Some x) c.in-File.is in
    file-said c.self.inside c.args.key c.in-File.node there c.self.invariant c.args.self.now c.self.view_is (λ bytes. c.len.result ≡ length bytes)
    (c.len.ensures.value ∙ file-total c.self.inside c.args.key c.in-File.node there c.self.invariant c.args.self.now c.self.view_is)
