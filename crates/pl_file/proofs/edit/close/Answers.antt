use Rattle.std.proofs.Common.{◌∙◌, ◌++◌, ap, sym, subst}
use Rattle.pl_segments.specs.Segments.{segment_at}
use Rattle.pl_segments.specs.Slices.{all_read}
use Rattle.pl_segments.specs.Turns.{Turns}
use Rattle.pl_file.specs.Rows.{index}
use Rattle.pl_file.proofs.Editing.{span-held, gone-turns, gone-read}
use Rattle.pl_file.proofs.edit.close.Goals as goal

pub release_range-requires-clause-held : goal.release_range-requires-clause-held
release_range-requires-clause-held g c =
    let m = segment_at c.args.store.now in
    span-held m m c.args.chunks.now.slots c.args.patch.slots (index c.args.chunks.now c.args.first) (index c.args.chunks.now c.args.end) c.requires.fits.span.order c.requires.held

pub returns-clause-becomes : goal.returns-clause-becomes
returns-clause-becomes g c =
    let m = segment_at c.args.store.now in
    let n = segment_at c.release_range.new.store in
    let xs = c.args.chunks.now.slots in
    let ps = c.args.patch.slots in
    let first = index c.args.chunks.now c.args.first in
    let end = index c.args.chunks.now c.args.end in
    let order = c.requires.fits.span.order in
    record {
      turns = subst (Turns m (xs ++ ps) n) (sym c.replace.ensures) (gone-turns m n xs ps first end order c.requires.held c.release_range.ensures.turns);
      read = ap (all_read n) c.replace.ensures ∙ gone-read m n xs ps first end order c.requires.held c.release_range.ensures.turns;
    }
