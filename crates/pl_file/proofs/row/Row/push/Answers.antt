use Rattle.std.proofs.Common.{◌≡◌, ◌+◌, ◌++◌, ◌∷◌, [], ◌∙◌, List, ap, sym, subst, arith}
use Rattle.pl_segments.specs.Slots.{total}
use Rattle.pl_file.specs.declared.row.Entry.{Entry}
use Rattle.pl_file.specs.Rows.{Row, placed, slots_of}
use Rattle.pl_file.proofs.Placed.{entry, count-is, capacity-is, slots-append, push-is, push-end}
use Rattle.pl_file.proofs.row.Row.push.Goals as goal

pub push_reserved-requires : goal.push_reserved-requires
push_reserved-requires g c =
    let n = count-is c.self.inside c.args.self.now c.self.view_is in
    let room = capacity-is c.self.inside c.args.self.now c.self.view_is in
    omega (arith, n, room, c.requires.room)

pub overflow_add-self : goal.overflow_add-self
overflow_add-self g c =
    let is : c.self.inside.base + total (slots_of c.self.inside.entries.items) ≡ c.args.self.now.base + total c.args.self.now.slots = ap (λ (r : Row). r.base + total r.slots) c.self.view_is in
    omega (arith, is, c.self.invariant.end, c.requires.fits)

pub invariant_of-self : goal.invariant_of-self
invariant_of-self g c =
    let k = c.self.inside in
    let inv = c.self.invariant in
    let more = k.entries.items ++ entry k.end c.args.slice ∷ [] in
    let items : more ≡ c.push_reserved.new.self.items = sym c.push_reserved.ensures.items in
    record {
      placed = subst (λ (es : List Entry). es ≡ placed k.base (slots_of es)) items (push-is k.base k.entries.items inv.placed k.end c.args.slice inv.end);
      end = push-end k.base k.entries.items k.end c.args.slice inv.end ∙ ap (λ es. k.base + total (slots_of es)) items;
    }

pub returns-clause-slots : goal.returns-clause-slots
returns-clause-slots g c =
    let k = c.self.inside in
    ap slots_of c.push_reserved.ensures.items
    ∙ slots-append k.entries.items (entry k.end c.args.slice ∷ [])
    ∙ ap (λ (r : Row). r.slots ++ c.args.slice ∷ []) c.self.view_is
