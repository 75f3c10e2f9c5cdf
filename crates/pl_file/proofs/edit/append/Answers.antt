use Rattle.std.proofs.Common.{sym, subst}
use Rattle.pl_segments.specs.Segments.{segment_at}
use Rattle.pl_file.specs.Added.{IsAdded}
use Rattle.pl_file.proofs.Appended.{is-added}
use Rattle.pl_file.proofs.edit.append.Goals as goal

pub returns-clause-added : goal.returns-clause-added
returns-clause-added g c =
    let done = c.in_ok-append.ensures in
    subst (λ b. IsAdded (segment_at c.args.store.now) c.args.chunks.now.slots c.args.bytes.now b (segment_at c.append.new.store) c.append.new.self.slots) (sym c.is_some-added.ensures)
    (is-added (segment_at c.args.store.now) c.args.chunks.now.slots c.args.bytes.now c.requires.held c.requires.solid c.requires.some c.append.new.store.held c.in_use-segments.ensures.good c.append.new.self.slots
    c.in_ok-append.field-0 done.slots done.turns done.reads)
