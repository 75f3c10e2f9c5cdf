use Rattle.std.proofs.Common.{◌≤◌, sym, subst, arith}
use Rattle.pl_segments.specs.Sharing.{slots_at}
use Rattle.pl_ring.specs.Parts.{strange}
use Rattle.pl_nodes.proofs.Keyed.{on_ok}
use Rattle.pl_nodes.proofs.Slices.{strange-handed}
use Rattle.pl_nodes.proofs.nodes.Nodes.move_pipe_pipe.Goals as goal

pub returns-then-slots-eq0-clause-shares : goal.returns-then-slots-eq0-clause-shares
returns-then-slots-eq0-clause-shares g c =
    let old = c.args.self.now.slots in
    on_ok c.hand_over.result
    (λ same. record {
      few = omega (arith, c.hand_over.ensures.segments);
      parts = subst (λ zs. strange (slots_at old c.args.to) (slots_at old c.args.from) zs ≤ 3) (sym same) (strange-handed (slots_at old c.args.to) (slots_at old c.args.from));
    })
    c.hand_over.ensures.slots
