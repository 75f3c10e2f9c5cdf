use Rattle.std.proofs.Common.{◌≡◌, ◌∙◌, ◌++◌, Some, ap, sym, min, length, take, drop, arith}
use Rattle.std.proofs.lemmas.List.{length-drop, length-take-le, take_at, take_min}
use Rattle.pl_segments.specs.Segments.{segment_at}
use Rattle.pl_segments.specs.Slices.{all_read}
use Rattle.pl_nodes.specs.declared.content.Content.TheVariants.{File}
use Rattle.pl_nodes.proofs.AtKey.{held}
use Rattle.pl_nodes.proofs.Files.{file-said, file-total}
use Rattle.pl_nodes.proofs.nodes.Nodes.read_file_into.Goals as goal

pub read_into-requires-clause-lie : goal.read_into-requires-clause-lie
read_into-requires-clause-lie g c = (held c.self.inside c.args.key (File c.in-File.node) (c.index.ensures ∙ ap (λ x. Some x) c.in-File.is) c.self.invariant).lie

pub returns-clause-bytes : goal.returns-clause-bytes
returns-clause-bytes g c =
    let there = c.index.ensures ∙ ap (λ x. Some x) c.in-File.is in
    let all = drop c.args.place (all_read (segment_at c.self.inside.store) c.in-File.node.file) in
    let count = c.min-count.result in
    let old = c.args.into.now in
    let new = c.read_into.new.into in
    let left = length-drop c.args.place (all_read (segment_at c.self.inside.store) c.in-File.node.file) in
    let total = file-total c.self.inside c.args.key c.in-File.node there c.self.invariant c.args.self.now c.self.view_is in
    let least : min (length old) (length all) ≡ count = omega (arith, c.min-count.ensures, c.saturating_sub.ensures, c.len.ensures.value, left, total) in
    let came : new ≡ take count all = c.read_into.ensures ∙ ap (λ n. take n all) (length-take-le count old (omega (arith, least))) in
    let long : length new ≡ count = ap length came ∙ length-take-le count all (omega (arith, least)) in
    file-said c.self.inside c.args.key c.in-File.node there c.self.invariant c.args.self.now c.self.view_is
    (λ bytes. take count (new ++ drop count old) ≡ take (length old) (drop c.args.place bytes))
    (take_at new (drop count old) count long ∙ came ∙ ap (λ n. take n all) (sym least) ∙ take_min (length old) all)
