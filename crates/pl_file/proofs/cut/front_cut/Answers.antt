use Rattle.std.proofs.Common.{◌<◌, ◌≤◌, ◌+◌, ◌≡◌, ◌++◌, [], ◌∙◌, ap, sym, length, take, arith}
use Rattle.std.proofs.lemmas.List.{nil_from_length}
use Rattle.pl_segments.specs.Slots.{total, front_of}
use Rattle.pl_segments.proofs.Fronting.{front-none}
use Rattle.pl_file.specs.Rows.{index}
use Rattle.pl_file.proofs.Cutting.{here-solid, front-here}
use Rattle.std.proofs.lemmas.Bool.{ltb-true}
use Rattle.pl_file.proofs.cut.front_cut.Given.{Over}
use Rattle.pl_file.proofs.cut.front_cut.Goals.{After-first, then-count-eq0-via-then-count-eq0, then-count-eq0-via-else-count-eq0+then-is_empty}
use Rattle.pl_file.proofs.cut.front_cut.Goals as goal

-- there are no bytes before the place
none : (g : Over) (c : After-first g) → front_of c.args.count c.args.chunks.now.slots ≡ []
none g c =
    let xs = c.args.chunks.now.slots in
    elim c.then-count-eq0.branch as (λ _. front_of c.args.count xs ≡ []) [
      | then-count-eq0-via-then-count-eq0 w ↦ ap (λ k. front_of k xs) w.if-count-eq0.true ∙ front-none xs
      | then-count-eq0-via-else-count-eq0+then-is_empty w ↦
          let few = ltb-true (length xs) 1 (sym w.if-is_empty.ensures) in
          ap (front_of c.args.count) (nil_from_length xs (omega (arith, few)))
    ]

pub returns-then-count-eq0-clause-some : goal.returns-then-count-eq0-clause-some
returns-then-count-eq0-clause-some g c = λ some. let e = ap length (none g c) in absurd (omega (arith, e, some))

pub returns-then-count-eq0-clause-front : goal.returns-then-count-eq0-clause-front
returns-then-count-eq0-clause-front g c =
    none g c ∙ ap (λ n. take n c.args.chunks.now.slots ++ []) (sym c.first.ensures.index)

pub returns-clause-some : goal.returns-clause-some
returns-clause-some g c =
    let xs = c.args.chunks.now.slots in
    let bytes = c.if-count-eq0.false in
    let h = c.find-place.ensures.before in
    let len = c.min-len.ensures in
    let start = c.start.ensures in
    let slot = here-solid xs (index c.args.chunks.now c.find-place.result) c.get-slot.result c.get-slot.ensures c.requires.solid in
    λ some. omega (arith, bytes, h, len, start, slot)

pub returns-clause-front : goal.returns-clause-front
returns-clause-front g c =
    let xs = c.args.chunks.now.slots in
    let i = index c.args.chunks.now c.find-place.result in
    let k = c.args.count in
    let bytes = c.if-count-eq0.false in
    let after : i + 1 < length xs → k ≤ total (take (i + 1) xs) = λ l. (let h = c.find-place.ensures.after l in omega (arith, h, bytes)) in
    let before : total (take i xs) < k = (let h = c.find-place.ensures.before in omega (arith, h, bytes)) in
    let len = c.min-len.ensures in
    let start = c.start.ensures in
    front-here xs i c.get-slot.result c.get-slot.ensures k c.min-len.result c.requires.solid before after (omega (arith, len, start))
