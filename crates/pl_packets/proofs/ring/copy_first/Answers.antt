use Rattle.std.proofs.Common.{◌≡◌, ◌∙◌, Some, ap, sym, arith}
use Rattle.std.specs.Prelude.{slice_get}
use Rattle.std.specs.Option.{option_copied}
use Rattle.pl_segments.specs.Segments.{segment_at}
use Rattle.pl_segments.proofs.SlotLemmas.{lies-cut_end, reads-cut_end}
use Rattle.pl_packets.proofs.Cutting.{first-there, first-length, first-lies, first-reads}
use Rattle.pl_packets.proofs.ring.copy_first.Given.{Over}
use Rattle.pl_packets.proofs.ring.copy_first.Goals.{After-unwrap-first}
use Rattle.pl_packets.proofs.ring.copy_first.Goals as goal

pub unwrap-first-requires : goal.unwrap-first-requires
unwrap-first-requires g c = first-there c.args.slots.now.items c.front.result c.front.ensures c.requires.some

got : (g : Over) (c : After-unwrap-first g) → slice_get c.args.slots.now.items 0 ≡ Some c.unwrap-first.result.now
got g c = sym c.front.ensures ∙ ap option_copied c.unwrap-first.ensures

pub bytes-requires : goal.bytes-requires
bytes-requires g c =
    let m = segment_at c.args.store.now in
    let xs = c.args.slots.now.items in
    let x = c.unwrap-first.result.now in
    let k = (goal.at.bytes-requires g c).After-unwrap-first in
    let l = first-length m m xs x (got g k) c.requires.held in
    lies-cut_end m x c.args.count (omega (arith, l, c.requires.count)) (first-lies m m xs x (got g k) c.requires.held)

pub returns : goal.returns
returns g c =
    let m = segment_at c.args.store.now in
    let xs = c.args.slots.now.items in
    let x = c.unwrap-first.result.now in
    let k = (goal.at.returns g c).After-unwrap-first in
    let l = first-length m m xs x (got g k) c.requires.held in
    c.in_ok-from_slice.ensures.items
    ∙ c.bytes.ensures
    ∙ reads-cut_end m x c.args.count (omega (arith, l, c.requires.count))
    ∙ sym (first-reads m m xs x (got g k) c.requires.held c.args.count c.requires.count)
