use Rattle.std.proofs.Common.{◌≡◌, ◌∙◌, ◌∷◌, ◌-◌, List, ap, sym, subst, drop, length, arith}
use Rattle.pl_segments.specs.declared.slice.Slice.{Slice}
use Rattle.pl_segments.specs.Segments.{segment_at}
use Rattle.pl_segments.specs.Slices.{all_read}
use Rattle.pl_segments.specs.Slots.{AllSolid, drop_bytes}
use Rattle.pl_segments.specs.Turns.{Turns, Holds}
use Rattle.pl_segments.proofs.Fronting.{gone-turns, gone-read, drop-whole, drop-none}
use Rattle.pl_ring.proofs.front.pop_into.Given.{Over}
use Rattle.pl_ring.proofs.front.pop_into.Goals.{In-Some}
use Rattle.pl_ring.proofs.front.pop_into.Goals as goal

-- the first slot has just so many bytes, and these stand behind it
module _ (g : Over) (c : In-Some g) where
  abbrev x : Slice
  x = c.in-Some.first

  abbrev rest : List Slice
  rest = c.take_whole.new.slots.items

  shape : c.args.slots.now.items ≡ x ∷ rest
  shape = c.in-Some.ensures.some.0

  held : Holds (segment_at c.args.store.now) (x ∷ rest)
  held = subst (Holds (segment_at c.args.store.now)) shape c.requires.held

pub returns-in-Some-clause-slots : goal.returns-in-Some-clause-slots
returns-in-Some-clause-slots g c =
    let k = (goal.at.returns-in-Some-clause-slots g c).In-Some in
    let n = length c.args.into.now in
    let l : (x g k).len ≡ n = c.in-Some.ensures.some.1 in
    let none : 0 ≡ n - (x g k).len = omega (arith, l) in
    sym (drop-none (rest g k) (subst AllSolid (shape g k) c.requires.solid).1)
    ∙ ap (λ j. drop_bytes j (rest g k)) none
    ∙ drop-whole n (x g k) (rest g k) (omega (arith, l))
    ∙ ap (drop_bytes n) (sym (shape g k))

pub returns-in-Some-clause-turns : goal.returns-in-Some-clause-turns
returns-in-Some-clause-turns g c =
    let k = (goal.at.returns-in-Some-clause-turns g c).In-Some in
    let m = segment_at c.args.store.now in
    let n = segment_at c.read_out.new.self in
    subst (λ zs. Turns m zs n (rest g k)) (sym (shape g k)) (gone-turns m n (x g k) (rest g k) (held g k) c.read_out.ensures.turns)

pub returns-in-Some-clause-read : goal.returns-in-Some-clause-read
returns-in-Some-clause-read g c =
    let k = (goal.at.returns-in-Some-clause-read g c).In-Some in
    let m = segment_at c.args.store.now in
    let n = segment_at c.read_out.new.self in
    let l : (x g k).len ≡ length c.args.into.now = c.in-Some.ensures.some.1 in
    let count = length c.args.into.now in
    let none : 0 ≡ count - (x g k).len = omega (arith, l) in
    ap (λ j. drop j (all_read n (rest g k))) none
    ∙ gone-read m n (x g k) (rest g k) (held g k) c.read_out.ensures.turns count (omega (arith, l))
    ∙ ap (λ zs. drop count (all_read m zs)) (sym (shape g k))
