use Rattle.std.proofs.Common.{◌≡◌, ◌+◌, ◌++◌, ◌∙◌, List, ap, sym, subst, take, drop, arith}
use Rattle.pl_segments.specs.Slots.{total}
use Rattle.pl_file.specs.declared.row.Entry.{Entry}
use Rattle.pl_file.specs.Rows.{Row, placed, slots_of}
use Rattle.pl_file.proofs.Placed.{slots-are, capacity-is, count-is, slots-append, slots-drop, drop-is, joined-is, joined-end, total-parts}
use Rattle.pl_file.proofs.row.Row.put_behind.Given.{Over}
use Rattle.pl_file.proofs.row.Row.put_behind.Goals.{After-extend}
use Rattle.pl_file.proofs.row.Row.put_behind.Goals as goal

pub split_at-requires : goal.split_at-requires
split_at-requires g c = let n = count-is c.row.inside c.args.row.now c.row.view_is in let len = c.deref.ensures.len in omega (arith, n, len, c.requires.from)

pub extend-requires : goal.extend-requires
extend-requires g c =
    let n = count-is c.self.inside c.args.self.now c.self.view_is in
    let m = count-is c.row.inside c.args.row.now c.row.view_is in
    let room = capacity-is c.self.inside c.args.self.now c.self.view_is in
    let back = c.split_at.ensures.back_len in
    let len = c.deref.ensures.len in
    omega (arith, n, m, room, back, len, c.requires.room)

module _ (g : Over) (c : After-extend g) where
  abbrev es : List Entry
  es = c.self.inside.entries.items

  abbrev fs : List Entry
  fs = drop c.args.from c.row.inside.entries.items

  shape : es ++ fs ≡ c.extend.new.entries.items
  shape = sym (c.extend.ensures.items ∙ ap (λ (gs : List Entry). es ++ gs) (c.split_at.ensures.back ∙ ap (λ (gs : List Entry). drop c.args.from gs) c.deref.ensures.value))

  starts : c.row.inside.base + total (take c.args.from (slots_of c.row.inside.entries.items)) ≡ c.self.inside.base + total (slots_of es)
  starts =
      ap (λ (r : Row). r.base + total (take c.args.from r.slots)) c.row.view_is
      ∙ sym c.requires.starts
      ∙ ap (λ (r : Row). r.base + total r.slots) (sym c.self.view_is)

  are : fs ≡ placed (c.row.inside.base + total (take c.args.from (slots_of c.row.inside.entries.items))) (slots_of fs)
  are = drop-is c.row.inside.base c.row.inside.entries.items c.row.invariant.placed c.args.from

pub invariant_of-self : goal.invariant_of-self
invariant_of-self g c =
    let k = (goal.at.invariant_of-self g c).After-extend in
    let base = c.self.inside.base in
    let xs = slots_of c.row.inside.entries.items in
    let at = c.row.inside.base + total (take c.args.from xs) in
    let all = total-parts c.args.from xs in
    let rest = ap total (slots-drop c.args.from c.row.inside.entries.items) in
    let end : c.row.inside.end ≡ at + total (slots_of (fs g k)) = omega (arith, c.row.invariant.end, all, rest) in
    record {
      placed = subst (λ (gs : List Entry). gs ≡ placed base (slots_of gs)) (shape g k) (joined-is base at (es g k) (fs g k) c.self.invariant.placed (are g k) (starts g k));
      end = end ∙ joined-end base at (es g k) (fs g k) c.self.invariant.placed (are g k) (starts g k) ∙ ap (λ gs. base + total (slots_of gs)) (shape g k);
    }

pub returns-clause-slots : goal.returns-clause-slots
returns-clause-slots g c =
    let k = (goal.at.returns-clause-slots g c).After-extend in
    ap slots_of (sym (shape g k))
    ∙ slots-append (es g k) (fs g k)
    ∙ (λ i. slots_of (es g k) ++ slots-drop c.args.from c.row.inside.entries.items i)
    ∙ (λ i. slots-are c.self.inside c.args.self.now c.self.view_is i ++ drop c.args.from (slots-are c.row.inside c.args.row.now c.row.view_is i))
