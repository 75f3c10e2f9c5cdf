use Rattle.std.proofs.Common.{◌∙◌, ap, min, take, length, arith}
use Rattle.std.proofs.lemmas.Result.{on_ok_weaker}
use Rattle.pl_model.specs.Packets.{front, spent, lose}
use Rattle.pl_segments.specs.Segments.{at}
use Rattle.pl_nodes.proofs.Keyed.{if_ok, if_both, change-alike}
use Rattle.pl_nodes.proofs.Queues.{spent-front}
use Rattle.pl_nodes.proofs.nodes.Nodes.read_packet.Goals as goal

pub read_pipe-requires-clause-held : goal.read_pipe-requires-clause-held
read_pipe-requires-clause-held g c = if_both (at c.args.self.now.pipes c.args.key) (λ x. λ is. λ is2. omega (arith, is, c.min-count.ensures)) c.front.ensures.value c.front.ensures.value

pub returns-clause-bytes : goal.returns-clause-bytes
returns-clause-bytes g c =
    if_ok c.read_pipe.result
    (λ read. λ h. if_both (at c.args.self.now.pipes c.args.key) (λ x. λ is. λ front. is ∙ ap (λ n. take n x.bytes) (c.min-count.ensures ∙ ap (min c.args.count) front)) h c.front.ensures.value)
    c.read_pipe.ensures.bytes

pub returns-clause-ok : goal.returns-clause-ok
returns-clause-ok g c =
    on_ok_weaker c.read_pipe.result
    (λ e.
    e
    ∙ change-alike c.args.key (λ x. lose (spent x c.min-count.result) x) (λ x. lose (front x) x) (at c.args.self.now.pipes)
    (if_both (at c.args.self.now.pipes c.args.key) (λ x. λ is. λ some. ap (λ n. lose n x) (spent-front x.packets (length x.bytes) c.min-count.result is some)) c.requires.packets c.requires.some))
    c.read_pipe.ensures.ok
