use Rattle.std.proofs.Common.{◌∙◌, ◌∷◌, [], ap, sym, arith}
use Rattle.std.proofs.lemmas.List.{append-nil}
use Rattle.pl_segments.specs.Segments.{segment_at}
use Rattle.pl_segments.specs.Slices.{all_read, reads}
use Rattle.pl_segments.specs.Slots.{solid_of}
use Rattle.pl_file.proofs.Patching.{solid-some, solid-none}
use Rattle.pl_file.proofs.Patched.{patched-same, slot-held, slot-joined}
use Rattle.pl_file.proofs.patch.join_part.Goals as goal

pub push_joined-requires-clause-held : goal.push_joined-requires-clause-held
push_joined-requires-clause-held g c =
    let some = c.if-part-ne0.true in
    slot-held (segment_at c.args.store.now) (segment_at c.hold.new.self) c.args.patch.now c.args.part c.requires.held c.hold.ensures.turns (omega (arith, some))

pub returns-then-part-ne0-clause-patched : goal.returns-then-part-ne0-clause-patched
returns-then-part-ne0-clause-patched g c =
    let m = segment_at c.args.store.now in
    slot-joined m (segment_at c.hold.new.self) c.args.patch.now c.args.part c.requires.held c.hold.ensures.turns (all_read m (solid_of (c.args.part ∷ [])))
    (c.hold.ensures.reads ∙ sym (append-nil (reads m c.args.part)) ∙ ap (all_read m) (sym (solid-some c.args.part c.if-part-ne0.true)))
    (segment_at c.push_joined.new.store) c.push_joined.new.patch c.push_joined.ensures.patched

pub returns-else-part-ne0-clause-patched : goal.returns-else-part-ne0-clause-patched
returns-else-part-ne0-clause-patched g c =
    let m = segment_at c.args.store.now in
    patched-same m c.args.patch.now (all_read m (solid_of (c.args.part ∷ []))) c.requires.held (ap (all_read m) (solid-none c.args.part c.if-part-ne0.false))
