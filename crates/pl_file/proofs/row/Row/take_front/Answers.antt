use Rattle.std.proofs.Common.{◌≡◌, ◌+◌, ◌++◌, [], ◌∙◌, List, ap, sym, subst, take, drop, length, arith}
use Rattle.std.proofs.lemmas.List.{nil_from_length}
use Rattle.pl_segments.specs.Slots.{total}
use Rattle.pl_file.specs.declared.row.Entry.{Entry}
use Rattle.pl_file.specs.Rows.{Row, placed, slots_of}
use Rattle.pl_file.proofs.Placed.{slots-are, capacity-is, count-is, slots-take, slots-drop, take-is, drop-is, total-parts}
use Rattle.pl_file.proofs.row.Row.take_front.Given.{Over}
use Rattle.pl_file.proofs.row.Row.take_front.Goals.{After-extend, After-remove_front}
use Rattle.pl_file.proofs.row.Row.take_front.Goals as goal

pub split_at-requires : goal.split_at-requires
split_at-requires g c = let n = count-is c.row.inside c.args.row.now c.row.view_is in let len = c.deref.ensures.len in omega (arith, n, len, c.requires.count)

pub extend-requires : goal.extend-requires
extend-requires g c =
    let n = count-is c.self.inside c.args.self.now c.self.view_is in
    let room = capacity-is c.self.inside c.args.self.now c.self.view_is in
    let front = c.split_at.ensures.front_len in
    let none = ap length c.requires.none in
    omega (arith, n, room, front, none, c.requires.room)

pub remove_front-requires : goal.remove_front-requires
remove_front-requires g c = let n = count-is c.row.inside c.args.row.now c.row.view_is in omega (arith, n, c.requires.count)

module _ (g : Over) (c : After-extend g) where
  abbrev es : List Entry
  es = take c.args.count c.row.inside.entries.items

  shape : es ≡ c.extend.new.entries.items
  shape =
      let n = count-is c.self.inside c.args.self.now c.self.view_is in
      let none = ap length c.requires.none in
      let ok = c.self.inside.entries.ok.0 in
      let empty : c.self.inside.entries.items ≡ [] = nil_from_length c.self.inside.entries.items (omega (arith, n, none, ok)) in
      sym (c.extend.ensures.items ∙ (λ i. empty i ++ c.split_at.ensures.front i) ∙ ap (λ (gs : List Entry). take c.args.count gs) c.deref.ensures.value)

  middle : c.start-middle.result ≡ c.row.inside.base + total (take c.args.count (slots_of c.row.inside.entries.items))
  middle = c.start-middle.ensures ∙ ap (λ (r : Row). r.base + total (take c.args.count r.slots)) (sym c.row.view_is)

pub invariant_of-self : goal.invariant_of-self
invariant_of-self g c =
    let k = (goal.at.invariant_of-self g c).After-extend in
    let base = c.row.inside.base in
    record {
      placed = subst (λ (gs : List Entry). gs ≡ placed base (slots_of gs)) (shape g k) (take-is base c.row.inside.entries.items c.row.invariant.placed c.args.count);
      end = middle g k ∙ ap (λ ys. base + total ys) (sym (slots-take c.args.count c.row.inside.entries.items)) ∙ ap (λ gs. base + total (slots_of gs)) (shape g k);
    }

pub invariant_of-row : goal.invariant_of-row
invariant_of-row g c =
    let k = (goal.at.invariant_of-row g c).After-extend in
    let es = c.row.inside.entries.items in
    let xs = slots_of es in
    let base = c.row.inside.base in
    let m = middle g k in
    let all = total-parts c.args.count xs in
    let rest = ap total (slots-drop c.args.count es) in
    let items : drop c.args.count es ≡ c.remove_front.new.entries.items = sym c.remove_front.ensures in
    let end : c.row.inside.end ≡ c.start-middle.result + total (slots_of (drop c.args.count es)) = omega (arith, c.row.invariant.end, m, all, rest) in
    record {
      placed = subst (λ (gs : List Entry). gs ≡ placed c.start-middle.result (slots_of gs)) items (subst (λ k. drop c.args.count es ≡ placed k (slots_of (drop c.args.count es))) (sym m) (drop-is base es c.row.invariant.placed c.args.count));
      end = end ∙ ap (λ gs. c.start-middle.result + total (slots_of gs)) items;
    }

pub returns-clause-slots : goal.returns-clause-slots
returns-clause-slots g c =
    let k = (goal.at.returns-clause-slots g c).After-extend in
    ap slots_of (sym (shape g k)) ∙ slots-take c.args.count c.row.inside.entries.items ∙ ap (take c.args.count) (slots-are c.row.inside c.args.row.now c.row.view_is)

pub returns-clause-rest : goal.returns-clause-rest
returns-clause-rest g c = ap slots_of c.remove_front.ensures ∙ slots-drop c.args.count c.row.inside.entries.items ∙ ap (drop c.args.count) (slots-are c.row.inside c.args.row.now c.row.view_is)
