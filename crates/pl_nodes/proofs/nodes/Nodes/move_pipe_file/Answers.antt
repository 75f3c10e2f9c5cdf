use Rattle.std.proofs.Common.{◌≡◌, ◌∙◌, ap, take, set, arith}
use Rattle.pl_model.specs.Packets.{lose}
use Rattle.pl_model.specs.Map.{change_at}
use Rattle.pl_segments.specs.Segments.{at}
use Rattle.pl_segments.specs.Slots.{drop_bytes}
use Rattle.pl_segments.specs.Sharing.{named, slots_at}
use Rattle.pl_file.specs.File.{written, fitting}
use Rattle.pl_nodes.specs.Nodes.{Nodes, bytes_of}
use Rattle.pl_nodes.proofs.Slices.{naming-drop, named-fewer}
use Rattle.pl_nodes.proofs.nodes.Nodes.move_pipe_file.Goals as goal

pub returns-clause-pipes : goal.returns-clause-pipes
returns-clause-pipes g c =
    let most = ap (λ (v : Nodes). v.limits.file_max) c.self.view_is in
    let moved : c.min-moved.result ≡ fitting c.args.count c.args.place c.args.self.now.limits.file_max = omega (arith, most, c.min-moved.ensures) in
    c.drop_front.ensures.ok ∙ (λ i. change_at c.args.from (lose (moved i)) (at (c.in-Ok.ensures.pipes.pipes i)))

pub returns-clause-files : goal.returns-clause-files
returns-clause-files g c =
    let most = ap (λ (v : Nodes). v.limits.file_max) c.self.view_is in
    let moved : c.min-moved.result ≡ fitting c.args.count c.args.place c.args.self.now.limits.file_max = omega (arith, most, c.min-moved.ensures) in
    ap at c.drop_front.ensures.files.files ∙ c.in-Ok.ensures.ok
    ∙ (λ i. change_at c.args.to (written c.args.place (take (moved i) (bytes_of (at c.args.self.now.pipes c.args.from)))) (at c.args.self.now.files))

pub returns-clause-none_added : goal.returns-clause-none_added
returns-clause-none_added g c = λ asked.
    let none = c.in-Ok.ensures.none_added asked in
    let mid = c.put_front.new.self.slots in
    let gone = slots_at mid c.args.from in
    let left = drop_bytes c.min-moved.result gone in
    record {
      fewer = omega (arith, none.fewer, c.drop_front.ensures.segments);
      named_before = λ key. λ one.
          let now : named c.drop_front.new.self.slots key ≡ named (set mid c.args.from left) key = ap (λ all. named all key) c.drop_front.ensures.slots in
          let fewer = named-fewer mid c.args.from left key (naming-drop c.min-moved.result gone key) in
          none.named_before key (omega (arith, one, now, fewer));
    }
