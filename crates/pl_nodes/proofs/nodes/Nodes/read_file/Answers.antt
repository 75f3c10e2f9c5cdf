use Rattle.std.proofs.Common.{◌≡◌, ◌∙◌, Some, ap, take, drop}
use Rattle.pl_nodes.specs.declared.content.Content.TheVariants.{File}
use Rattle.pl_nodes.proofs.AtKey.{held}
use Rattle.pl_nodes.proofs.Keyed.{if_ok}
use Rattle.pl_nodes.proofs.Files.{file-said}
use Rattle.pl_nodes.proofs.nodes.Nodes.read_file.Goals as goal

pub read_at-requires : goal.read_at-requires
read_at-requires g c = (held c.self.inside c.args.key (File c.in-File.node) (c.index.ensures ∙ ap (λ x. Some x) c.in-File.is) c.self.invariant).lie

pub returns : goal.returns
returns g c =
    let there = c.index.ensures ∙ ap (λ x. Some x) c.in-File.is in
    if_ok c.read_at.result
    (λ read is. file-said c.self.inside c.args.key c.in-File.node there c.self.invariant c.args.self.now c.self.view_is (λ bytes. read.items ≡ take c.args.count (drop c.args.place bytes)) is)
    c.read_at.ensures
