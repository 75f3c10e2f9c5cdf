use Rattle.pl_segments.specs.Segments.{segment_at}
use Rattle.pl_segments.proofs.Turning.{holds-turned}
use Rattle.pl_file.proofs.over.write_over.Goals as goal

pub returns-in-Some-clause-becomes : goal.returns-in-Some-clause-becomes
returns-in-Some-clause-becomes g c = record { turns = c.put_over.ensures.turns; read = c.put_over.ensures.read }

pub returns-in-Some-clause-file : goal.returns-in-Some-clause-file
returns-in-Some-clause-file g c =
    let xs = c.args.chunks.now.slots in
    let file = c.requires.file in
    record {
      held = holds-turned (segment_at c.args.store.now) (segment_at c.put_over.new.store) xs xs file.held c.put_over.ensures.turns;
      solid = file.solid;
      within = file.within;
      most = file.most;
    }
