-- A row that becomes another, step by step.
use Rattle.std.proofs.Common.{◌≡◌, ℕ, ◌≤◌, List, [], ◌∷◌, ◌++◌, refl, sym, ◌∙◌, ap, subst, arith}
use Rattle.std.proofs.lemmas.List.{append-nil}
use Rattle.pl_segments.specs.declared.slice.Slice.{Slice}
use Rattle.pl_segments.specs.Segments.{Map}
use Rattle.pl_segments.specs.Slices.{reads, all_read}
use Rattle.pl_segments.specs.Turns.{Turns}
use Rattle.pl_segments.proofs.Turning.{turns-same, turns-then, holds-turned}
use Rattle.pl_segments.proofs.SlotLemmas.{solid-append}
use Rattle.pl_file.specs.Rows.{Row}
use Rattle.pl_file.specs.Patches.{AreHeld, Patched}
use Rattle.pl_file.proofs.Patching.{added-solid, added-turns, added-read, beside-held, beside-turns, beside-read, reads-on}

-- the new slots are held, too
pub patched-held : (m n : Map) (x y : Row) (bytes : List ℕ) → AreHeld m x.slots → Patched m x n y bytes → AreHeld n y.slots
patched-held m n x y bytes h p = record { held = holds-turned m n x.slots y.slots h.held p.becomes.turns; solid = p.solid }

-- and so are none
pub none-held : (m : Map) (xs : List Slice) → xs ≡ [] → AreHeld m xs
none-held m xs e = subst (AreHeld m) (sym e) (record { held = record { lie = tt; few = λ key. omega arith }; solid = tt })

-- nothing is put in
pub patched-same : (m : Map) (x : Row) (bytes : List ℕ) → AreHeld m x.slots → bytes ≡ [] → Patched m x m x (all_read m x.slots ++ bytes)
patched-same m x bytes h e = record {
  becomes = record {
    turns = turns-same m x.slots h.held.lie;
    read = sym (append-nil (all_read m x.slots)) ∙ ap (λ bs. all_read m x.slots ++ bs) (sym e);
  };
  solid = h.solid;
  base = refl;
  capacity = refl;
}

-- one part after another
pub patched-then : (m n o : Map) (x y z : Row) (front back bytes : List ℕ) → Patched m x n y (all_read m x.slots ++ front) → Patched n y o z (all_read n y.slots ++ back)
    → front ++ back ≡ bytes → Patched m x o z (all_read m x.slots ++ bytes)
patched-then m n o x y z front back bytes p q whole = record {
  becomes = record {
    turns = turns-then m n o x.slots y.slots z.slots p.becomes.turns q.becomes.turns;
    read = reads-on (all_read o z.slots) (all_read n y.slots) (all_read m x.slots) front back bytes q.becomes.read p.becomes.read whole;
  };
  solid = q.solid;
  base = q.base ∙ p.base;
  capacity = q.capacity ∙ p.capacity;
}

-- a slot that is held beside the row
module _ (m n : Map) (x : Row) (s : Slice) (held : AreHeld m x.slots) (t : Turns m [] n (s ∷ [])) where
  pub slot-held : 1 ≤ s.len → AreHeld n (x.slots ++ s ∷ [])
  slot-held some = record { held = beside-held m n x.slots s held.held t; solid = solid-append x.slots (s ∷ []) held.solid (some, tt) }

  module _ (bytes : List ℕ) (read : reads n s ≡ bytes) where
    -- and is put behind its slots
    pub slot-pushed : (y : Row) → 1 ≤ s.len → y.slots ≡ x.slots ++ s ∷ [] → y.base ≡ x.base → y.capacity ≡ x.capacity → Patched m x n y (all_read m x.slots ++ bytes)
    slot-pushed y some shape base capacity = record {
      becomes = record {
        turns = added-turns m n x.slots y.slots s bytes held.held t shape;
        read = added-read m n x.slots y.slots s bytes held.held t shape read;
      };
      solid = added-solid x.slots y.slots s shape held.solid some;
      base = base;
      capacity = capacity;
    }

    -- or becomes one with the last of them
    pub slot-joined : (o : Map) (y : Row) → Patched n (record x { slots = x.slots ++ s ∷ [] }) o y (all_read n (x.slots ++ s ∷ [])) → Patched m x o y (all_read m x.slots ++ bytes)
    slot-joined o y p = record {
      becomes = record {
        turns = beside-turns m n x.slots s held.held t o y.slots p.becomes.turns;
        read = beside-read m n x.slots s held.held t o y.slots p.becomes.turns bytes read p.becomes.read;
      };
      solid = p.solid;
      base = p.base;
      capacity = p.capacity;
    }
