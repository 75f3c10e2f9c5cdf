use Rattle.std.proofs.Common.{◌≡◌, ◌+◌, ◌++◌, ◌∙◌, List, ap, sym, subst, take, arith}
use Rattle.pl_segments.specs.Slots.{total}
use Rattle.pl_file.specs.declared.row.Entry.{Entry}
use Rattle.pl_file.specs.Rows.{Row, placed, slots_of}
use Rattle.pl_file.proofs.Placed.{base-is, slots-are, capacity-is, count-is, slots-append, slots-take, take-is, joined-is, joined-end}
use Rattle.pl_file.proofs.row.Row.put_before.Given.{Over}
use Rattle.pl_file.proofs.row.Row.put_before.Goals.{After-insert_front}
use Rattle.pl_file.proofs.row.Row.put_before.Goals as goal

pub split_at-requires : goal.split_at-requires
split_at-requires g c = let n = count-is c.row.inside c.args.row.now c.row.view_is in let len = c.deref.ensures.len in omega (arith, n, len, c.requires.count)

pub insert_front-requires : goal.insert_front-requires
insert_front-requires g c =
    let n = count-is c.self.inside c.args.self.now c.self.view_is in
    let room = capacity-is c.self.inside c.args.self.now c.self.view_is in
    let len = c.split_at.ensures.front_len in
    omega (arith, n, room, len, c.requires.room)

module _ (g : Over) (c : After-insert_front g) where
  abbrev es : List Entry
  es = take c.args.count c.row.inside.entries.items

  shape : es ++ c.self.inside.entries.items ≡ c.insert_front.new.entries.items
  shape = sym (c.insert_front.ensures.items ∙ ap (λ (fs : List Entry). fs ++ c.self.inside.entries.items) (c.split_at.ensures.front ∙ ap (λ (fs : List Entry). take c.args.count fs) c.deref.ensures.value))

  is : es ≡ placed c.row.inside.base (slots_of es)
  is = take-is c.row.inside.base c.row.inside.entries.items c.row.invariant.placed c.args.count

  starts : c.self.inside.base ≡ c.row.inside.base + total (slots_of es)
  starts =
      base-is c.self.inside c.args.self.now c.self.view_is
      ∙ c.requires.starts
      ∙ ap (λ (r : Row). r.base + total (take c.args.count r.slots)) (sym c.row.view_is)
      ∙ ap (λ ys. c.row.inside.base + total ys) (sym (slots-take c.args.count c.row.inside.entries.items))

pub invariant_of-self : goal.invariant_of-self
invariant_of-self g c =
    let k = (goal.at.invariant_of-self g c).After-insert_front in
    let base = c.row.inside.base in
    let fs = c.self.inside.entries.items in
    record {
      placed = subst (λ (gs : List Entry). gs ≡ placed base (slots_of gs)) (shape g k) (joined-is base c.self.inside.base (es g k) fs (is g k) c.self.invariant.placed (starts g k));
      end = c.self.invariant.end ∙ joined-end base c.self.inside.base (es g k) fs (is g k) c.self.invariant.placed (starts g k) ∙ ap (λ gs. base + total (slots_of gs)) (shape g k);
    }

pub returns-clause-slots : goal.returns-clause-slots
returns-clause-slots g c =
    let k = (goal.at.returns-clause-slots g c).After-insert_front in
    ap slots_of (sym (shape g k))
    ∙ slots-append (es g k) c.self.inside.entries.items
    ∙ (λ i. slots-take c.args.count c.row.inside.entries.items i ++ slots_of c.self.inside.entries.items)
    ∙ (λ i. take c.args.count (slots-are c.row.inside c.args.row.now c.row.view_is i) ++ slots-are c.self.inside c.args.self.now c.self.view_is i)
