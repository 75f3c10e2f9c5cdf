use Rattle.std.proofs.Common.{◌≡◌, ◌∙◌, ◌∷◌, [], ◌-◌, List, refl, ap, sym, subst, drop, length, arith}
use Rattle.pl_segments.specs.declared.slice.Slice.{Slice}
use Rattle.pl_segments.specs.Segments.{segment_at}
use Rattle.pl_segments.specs.Slices.{all_read}
use Rattle.pl_segments.specs.Slots.{total, drop_bytes}
use Rattle.pl_segments.specs.Turns.{Turns, Holds}
use Rattle.pl_segments.proofs.Fronting.{gone-turns, gone-read, drop-whole}
use Rattle.pl_ring.proofs.front.pop_only.Goals as goal

no-slots : (xs : List Slice) → length xs ≡ 0 → xs ≡ []
no-slots [] none = refl
no-slots (x ∷ xs) none = absurd (omega (arith, none))

-- one slot alone has all bytes
module _ (x : Slice) (rest all : List Slice) (shape : all ≡ x ∷ rest) (one : length all ≡ 1) where
  none-behind : rest ≡ []
  none-behind = let e = ap length shape in no-slots rest (omega (arith, e, one))

  has-all : x.len ≡ total all
  has-all = let e = ap total shape in let z = ap total none-behind in omega (arith, e, z)

pub read_out-requires-clause-few : goal.read_out-requires-clause-few
read_out-requires-clause-few g c =
    let l = has-all c.take_only-only.result c.take_only-only.new.slots.items c.args.slots.now.items c.take_only-only.ensures.items c.requires.one in
    omega (arith, l, c.requires.all)

pub returns-clause-slots : goal.returns-clause-slots
returns-clause-slots g c =
    let x = c.take_only-only.result in
    let rest = c.take_only-only.new.slots.items in
    let n = length c.args.into.now in
    let l = has-all x rest c.args.slots.now.items c.take_only-only.ensures.items c.requires.one in
    let none = none-behind x rest c.args.slots.now.items c.take_only-only.ensures.items c.requires.one in
    none ∙ ap (drop_bytes (n - x.len)) (sym none) ∙ drop-whole n x rest (omega (arith, l, c.requires.all)) ∙ ap (drop_bytes n) (sym c.take_only-only.ensures.items)

pub returns-clause-turns : goal.returns-clause-turns
returns-clause-turns g c =
    let x = c.take_only-only.result in
    let rest = c.take_only-only.new.slots.items in
    let m = segment_at c.args.store.now in
    let n = segment_at c.read_out.new.self in
    let held = subst (Holds m) c.take_only-only.ensures.items c.requires.held in
    subst (λ zs. Turns m zs n rest) (sym c.take_only-only.ensures.items) (gone-turns m n x rest held c.read_out.ensures.turns)

pub returns-clause-read : goal.returns-clause-read
returns-clause-read g c =
    let x = c.take_only-only.result in
    let rest = c.take_only-only.new.slots.items in
    let m = segment_at c.args.store.now in
    let n = segment_at c.read_out.new.self in
    let held = subst (Holds m) c.take_only-only.ensures.items c.requires.held in
    let count = length c.args.into.now in
    let l = has-all x rest c.args.slots.now.items c.take_only-only.ensures.items c.requires.one in
    let zero : 0 ≡ count - x.len = omega (arith, l, c.requires.all) in
    ap (λ j. drop j (all_read n rest)) zero
    ∙ gone-read m n x rest held c.read_out.ensures.turns count (omega (arith, l, c.requires.all))
    ∙ ap (λ zs. drop count (all_read m zs)) (sym c.take_only-only.ensures.items)
