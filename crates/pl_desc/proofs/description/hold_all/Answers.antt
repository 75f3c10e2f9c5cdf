use Rattle.std.proofs.Common.{◌≡◌, ◌<◌, ◌≤◌, ℕ, ◌∙◌, sym, arith, Some, None, slice_set, refl, length}
use Rattle.pl_desc.specs.Rows.{at}
use Rattle.pl_desc.specs.Slots.{held_all, held_more}
use Rattle.pl_desc.proofs.RowLemmas.{open-found, open-none}
use Rattle.pl_desc.proofs.SlotLemmas.{all-some, all-none, all-end, kept-some, lent-few, opened-lent}
use Rattle.pl_desc.proofs.description.hold_all.Given.{Over}
use Rattle.pl_desc.proofs.description.hold_all.Goals.{In-Some}
use Rattle.pl_desc.proofs.description.hold_all.Goals as goal

-- the next open descriptor
module _ (g : Over) (c : In-Some g) where
  found : (at c.args.table.now.names c.in-Some.fd ≡ Some c.in-Some.key) × (c.loop-fd.from ≤ c.in-Some.fd) × (c.in-Some.fd < length c.args.table.now.names) × ((fd : ℕ) → c.loop-fd.from ≤ fd → fd < c.in-Some.fd → at c.args.table.now.names fd ≡ None)
  found = open-found c.args.table.now.names c.loop-fd.from c.in-Some.fd c.in-Some.key (sym c.in-Some.ensures)

pub index_mut-held-requires : goal.index_mut-held-requires
index_mut-held-requires g c =
    kept-some c.args.descriptions.now.slots c.loop-fd.descriptions.slots c.loop-fd.invariant.same c.in-Some.key
    (c.requires.here c.in-Some.fd c.in-Some.key (found g (goal.at.index_mut-held-requires g c).In-Some).0)

pub loop-fd-preserved : goal.loop-fd-preserved
loop-fd-preserved g c =
    let fd = c.in-Some.fd in
    let rows = c.args.table.now.names in
    let slots = c.loop-fd.descriptions.slots in
    let key = c.in-Some.key in
    let x = c.index_mut-held.result.now in
    let was = c.index_mut-held.ensures.value in
    let held = c.loop-fd.invariant in
    let next = found g (goal.at.loop-fd-preserved g c).In-Some in
    record {
      low = omega (arith, next.2);
      all =
          sym (all-none rows slots c.loop-fd.from fd next.1 (omega (arith, next.2)) next.3 ∙ all-some rows slots fd key x next.2 next.0 was)
          ∙ held.all;
      rest = λ i. record (held.rest i) { slots = slice_set slots key (Some (held_more x)) };
      same = opened-lent slots key x (held_more x) was refl ∙ held.same;
      few = λ q. (let a = lent-few slots key x was q in let b = held.few q in omega (arith, next.1));
    }

pub loop-fd-smaller : goal.loop-fd-smaller
loop-fd-smaller g c = (let next = found g (goal.at.loop-fd-smaller g c).In-Some in omega (arith, next.1, next.2))

pub returns : goal.returns
returns g c =
    let rows = c.args.table.now.names in
    let slots = c.loop-fd.descriptions.slots in
    let low = c.loop-fd.invariant.low in
    let passed = all-none rows slots c.loop-fd.from (length rows) low (omega arith) (λ fd l m. open-none rows c.loop-fd.from (sym c.in_default.ensures) fd l) in
    let done : slots ≡ held_all rows c.args.descriptions.now.slots = sym (passed ∙ all-end rows slots (length rows) (omega arith)) ∙ c.loop-fd.invariant.all in
    c.loop-fd.invariant.rest ∙ (λ i. record c.args.descriptions.now { slots = done i })
