use Rattle.std.proofs.Common.{◌∙◌, [], ap}
use Rattle.pl_segments.specs.Segments.{Segments, live_count}
use Rattle.pl_segments.proofs.Storing.{live-is}
use Rattle.pl_nodes.proofs.AtKey.{empty-sound}
use Rattle.pl_nodes.proofs.nodes.Nodes.new.Goals as goal

pub invariant_of-result : goal.invariant_of-result
invariant_of-result g c = empty-sound (record { alloc = c.args.alloc; store = c.new.result; contents = c.new-2.result; upper = c.new-3.result; names = c.new-4.result; limits = c.args.limits }) (ap (λ (s : Segments). s.held) c.new.ensures) (ap (λ (s : Segments). s.room) c.new.ensures) c.new-2.ensures.empty c.new-4.ensures.empty c.requires

pub returns-clause-segments : goal.returns-clause-segments
returns-clause-segments g c = ap (λ (s : Segments). live_count s.held) c.new.ensures ∙ live-is []
