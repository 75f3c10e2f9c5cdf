use Rattle.std.proofs.Common.{◌≡◌, ◌∙◌, ◌++◌, ◌∷◌, ◌+◌, ◌-◌, [], ap, refl, take, drop, length, slice_index_or, arith}
use Rattle.std.proofs.lemmas.List.{drop_more, drop_all}
use Rattle.pl_segments.specs.declared.slice.Slice.{Slice}
use Rattle.pl_segments.specs.Segments.{segment_at}
use Rattle.pl_segments.specs.Slices.{Lies, all_read}
use Rattle.pl_segments.specs.Slots.{total, solid_of, front_of, cut_end}
use Rattle.pl_segments.proofs.Turning.{holds-turned}
use Rattle.pl_segments.proofs.SlotLemmas.{no_slice, total-solid, lies-cut_end}
use Rattle.pl_segments.proofs.Pushing.{lie-at}
use Rattle.pl_segments.proofs.Fronting.{front-none}
use Rattle.pl_file.specs.Patches.{Patched}
use Rattle.pl_file.proofs.Patching.{solid-one, solid-lies, asked-read, front-step, putting-first, putting-next, putting-lies, putting-slots, putting-read}
use Rattle.pl_file.proofs.Editing.{still-few}
use Rattle.pl_file.proofs.Joining.{length-joined, total-joined}
use Rattle.pl_file.proofs.patch.put_slices.Given.{Over}
use Rattle.pl_file.proofs.patch.put_slices.Goals.{After-min-len, At-loop-rest}
use Rattle.pl_file.proofs.patch.put_slices.Goals as goal

module _ (g : Over) (c : After-min-len g) where
  abbrev it : Slice
  it = slice_index_or c.args.slices.now c.loop-rest.place no_slice

  lies0 : Lies (segment_at c.args.store.now) (cut_end c.min-len.result it)
  lies0 =
      let k = c.min-len.ensures in
      lies-cut_end (segment_at c.args.store.now) it c.min-len.result (omega (arith, k))
      (lie-at (segment_at c.args.store.now) c.args.slices.now c.loop-rest.place no_slice (omega arith) c.requires.lie)

  lies : Lies (segment_at c.loop-rest.store) (cut_end c.min-len.result it)
  lies = putting-lies c.loop-rest.invariant.putting (cut_end c.min-len.result it) lies0

pub loop-rest-init : goal.loop-rest-init
loop-rest-init g c = record {
  putting = putting-first (segment_at c.args.store.now) c.args.patch.now.slots (solid_of (front_of c.args.count c.args.slices.now)) c.requires.held.held;
  few = λ key. omega arith;
  solid = c.requires.held.solid;
  in_use = refl;
  room = refl;
  place = omega arith;
  many = omega arith;
  capacity = refl;
  base = refl;
  left = refl;
}

pub hold_part-requires-clause-lies : goal.hold_part-requires-clause-lies
hold_part-requires-clause-lies g c = λ some. lies g (goal.at.hold_part-requires-clause-lies g c).After-min-len

pub hold_part-requires-clause-few : goal.hold_part-requires-clause-few
hold_part-requires-clause-few g c =
    let x = slice_index_or c.args.slices.now c.loop-rest.place no_slice in
    let a = c.requires.few x.segment in
    let b = c.loop-rest.invariant.few x.segment in
    λ some. omega (arith, a, b)

pub hold_part-requires-clause-held : goal.hold_part-requires-clause-held
hold_part-requires-clause-held g c =
    let inv = c.loop-rest.invariant in
    record {
      held = holds-turned (segment_at c.args.store.now) (segment_at c.loop-rest.store) c.args.patch.now.slots c.loop-rest.patch.slots c.requires.held.held inv.putting.turns;
      solid = inv.solid;
    }

pub loop-rest-preserved : goal.loop-rest-preserved
loop-rest-preserved g c =
    let n = segment_at c.hold_part.new.store in
    let slices = c.args.slices.now in
    let i = c.loop-rest.place in
    let x = slice_index_or slices i no_slice in
    let len = c.min-len.result in
    let k = c.loop-rest.rest in
    let y = cut_end len x in
    let more = drop (i + 1) slices in
    let now = c.loop-rest.patch.slots in
    let zs = c.hold_part.new.patch.slots in
    let inv = c.loop-rest.invariant in
    let e = c.hold_part.ensures in
    let min = c.min-len.ensures in
    let step : solid_of (front_of k (drop i slices)) ≡ solid_of (y ∷ []) ++ solid_of (front_of (k - len) more) =
    ap (λ ys. solid_of (front_of k ys)) (drop_more slices i no_slice (omega arith)) ∙ front-step k len x more (omega arith) (omega (arith, min)) in
    let long = solid-one y in
    let all = ap length e.slots in
    let few = (length-joined now (solid_of (y ∷ []))).1 in
    let sum = ap total e.slots ∙ total-joined now (solid_of (y ∷ [])) in
    let lie = lies0 g (goal.at.loop-rest-preserved g c).After-min-len in
    let bytes = total-solid (y ∷ []) in
    record {
      putting = putting-next inv.putting n (solid_of (y ∷ [])) zs (solid_of (front_of (k - len) more)) e.held.added step e.slots e.patched.becomes.turns e.held.turns (solid-lies (segment_at c.args.store.now) y lie) e.patched.becomes.read;
      few = λ key. let a = inv.few key in let b = still-few (segment_at c.loop-rest.store) n e.held.added e.held.turns key in omega (arith, a, b, e.held.few);
      solid = e.patched.solid;
      in_use = e.in_use ∙ inv.in_use;
      room = e.room ∙ inv.room;
      place = omega arith;
      many = omega (arith, inv.many, all, few, long);
      capacity = e.patched.capacity ∙ inv.capacity;
      base = e.patched.base ∙ inv.base;
      left = let l = inv.left in omega (arith, sum, bytes, l, min);
    }

-- once nothing is left, all that was asked is put in
module _ (g : Over) (c : At-loop-rest g) where
  all_put :
      solid_of (front_of c.loop-rest.rest (drop c.loop-rest.place c.args.slices.now)) ≡ []
      → Patched (segment_at c.args.store.now) c.args.patch.now (segment_at c.loop-rest.store) c.loop-rest.patch
      (all_read (segment_at c.args.store.now) c.args.patch.now.slots ++ take c.args.count (all_read (segment_at c.args.store.now) c.args.slices.now))
  all_put none =
      let m = segment_at c.args.store.now in
      let inv = c.loop-rest.invariant in
      record {
        becomes = record {
          turns = inv.putting.turns;
          read = putting-read inv.putting none ∙ ap (λ bs. all_read m c.args.patch.now.slots ++ bs) (asked-read m c.args.count c.args.slices.now c.requires.lie);
        };
        solid = inv.solid;
        base = inv.base;
        capacity = inv.capacity;
      }

pub returns-else-place-slices-clause-patched : goal.returns-else-place-slices-clause-patched
returns-else-place-slices-clause-patched g c =
    all_put g (goal.at.returns-else-place-slices-clause-patched g c).At-loop-rest
    (ap (λ ys. solid_of (front_of c.loop-rest.rest ys)) (drop_all c.loop-rest.place c.args.slices.now c.if-place-slices.false))

pub returns-after-loop-rest-clause-slots : goal.returns-after-loop-rest-clause-slots
returns-after-loop-rest-clause-slots g c =
    let left = drop c.loop-rest.place c.args.slices.now in
    let e : c.loop-rest.rest ≡ 0 = omega arith in
    putting-slots c.loop-rest.invariant.putting (ap (λ k. solid_of (front_of k left)) e ∙ ap solid_of (front-none left))

pub returns-after-loop-rest-clause-patched : goal.returns-after-loop-rest-clause-patched
returns-after-loop-rest-clause-patched g c =
    let left = drop c.loop-rest.place c.args.slices.now in
    let e : c.loop-rest.rest ≡ 0 = omega arith in
    all_put g (goal.at.returns-after-loop-rest-clause-patched g c).At-loop-rest (ap (λ k. solid_of (front_of k left)) e ∙ ap solid_of (front-none left))
