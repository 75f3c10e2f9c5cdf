-- What goes takes no segment from others, and makes none.
use Rattle.std.proofs.Common.{◌≡◌, ℕ, Bool, true, false, List, [], ◌∷◌, refl, ◌∙◌, sym, subst, arith}
use Rattle.std.specs.Prelude.{if◌then◌else◌}
use Rattle.pl_segments.specs.declared.slice.Slice.{Slice}
use Rattle.pl_segments.specs.Sharing.{slots_at}
use Rattle.pl_desc.specs.Descs.{Descs}
use Rattle.pl_nodes.specs.Nodes.{Memory, Shrinks}
use Rattle.pl_state.specs.Contents.{Nodes}
use Rattle.pl_state.specs.LastHold.{ReleasesAll}

pub shrinks-same : (m : Memory) → Shrinks m m
shrinks-same m = record { slots = λ key. (false, refl); fewer_named = λ key. omega arith; fewer = omega arith }

pub shrinks-then : (a b c : Memory) → Shrinks a b → Shrinks b c → Shrinks a c
shrinks-then a b c first second = record {
  slots = λ key. both (slots_at a.slots key) (slots_at b.slots key) (slots_at c.slots key) (first.slots key).0 (second.slots key).0 (first.slots key).1 (second.slots key).1;
  fewer_named = λ key. let f = first.fewer_named key in let s = second.fewer_named key in omega (arith, f, s);
  fewer = omega (arith, first.fewer, second.fewer);
}
  where
    both : (xs ys zs : List Slice) (went goes : Bool) → ys ≡ (if went then [] else xs) → zs ≡ (if goes then [] else ys) → (b : Bool) × (zs ≡ (if b then [] else xs))
    both xs ys zs went goes e f = by goes f
      where
        by : (goes : Bool) → zs ≡ (if goes then [] else ys) → (b : Bool) × (zs ≡ (if b then [] else xs))
        by true f = (true, f)
        by false f = (went, f ∙ e)

-- holds of several descriptions are given up
pub released-shrinks : (keys : List ℕ) (old new : Descs) (before after : Nodes) → ReleasesAll keys old new before after → Shrinks before.memory after.memory
released-shrinks [] old new before after r = subst (λ (ns : Nodes). Shrinks before.memory ns.memory) (sym r.1) (shrinks-same before.memory)
released-shrinks (key ∷ keys) old new before after r = shrinks-then before.memory r.1.memory after.memory r.2.shrinks (released-shrinks keys r.0 new r.1 after r.3)
