-- What bytes that went over leave: a kernel that is sound.
use Rattle.std.proofs.Common.{◌≡◌, ℕ, Bool, true, false, Option, Some, None, IsSome, refl, sym, subst, nat_eq}
use Rattle.std.specs.Prelude.{option_map, if◌then◌else◌}
use Rattle.pl_model.specs.declared.node.Node.{Node}
use Rattle.pl_model.specs.declared.node.Node.TheVariants as node
use Rattle.pl_model.specs.Map.{change_at}
use Rattle.pl_desc.specs.Rows.{at}
use Rattle.pl_state.specs.Contents.{Contents, IsThere, core_of}
use Rattle.pl_state.specs.Sound.{IsSound, AreThere}
use Rattle.pl_state.proofs.holders.OnNodes.{Fades, faded, wait-by}
use Rattle.pl_state.proofs.holders.There.{settled_after, there-still}
use Rattle.pl_splices.specs.Resembling.{Resembles}
use Rattle.pl_splices.proofs.Resembling.{resembling-settled}

-- a map that is changed at a key has what it had
pub some_changed : {X : Type 0} (m : ℕ → Option X) (k q : ℕ) (f : X → X) → IsSome (m q) → IsSome (change_at k f m q)
some_changed {X} m k q f h = by (nat_eq k q) (m q) h where
  by : (b : Bool) (o : Option X) → IsSome o → IsSome (if b then option_map f o else o)
  by true (Some x) h = refl
  by true None h = absurd (cc)
  by false o h = h

-- The same descriptions are on the same nodes, and the same calls wait.
module _ {A : Type 0} (k new : Contents A) (sound : IsSound A k) (like : Resembles (core_of k) (core_of new))
    (fades : (d : ℕ) → Fades (at k.opened d) (at new.opened d)) (still : (n : Node) → IsThere k.nodes n → IsThere new.nodes n)
    (rest : new ≡ record k { opened = new.opened; nodes = record k.nodes { pipes = new.nodes.pipes; files = new.nodes.files; memory = new.nodes.memory } }) where
  abbrev left : Contents A
  left = record k { opened = new.opened; nodes = record k.nodes { pipes = new.nodes.pipes; files = new.nodes.files; memory = new.nodes.memory } }

  still_there : (n : Node) → IsThere k.nodes n → IsThere left.nodes n
  still_there (node.Pipe p) h = still (node.Pipe p) h
  still_there (node.File f) h = still (node.File f) h

  there : AreThere (at new.opened) left.nodes
  there =
      let on_old : AreThere (at new.opened) k.nodes = record { described = λ d. faded (IsThere k.nodes) (at k.opened d) (at new.opened d) (fades d) (sound.there.described d); named = sound.there.named } in
      there-still (at new.opened) k.nodes left.nodes refl still_there on_old

  like_left : Resembles (core_of k) (core_of left)
  like_left = subst (λ (z : Contents A). Resembles (core_of k) (core_of z)) rest like

  left_sound : IsSound A left
  left_sound = record {
    whole = record {
      rise = sound.rise;
      numbered = sound.numbered;
      there = there;
      limit = sound.limit;
      once = sound.once;
      settled = settled_after (core_of left) (core_of k) (core_of left) (sym (resembling-settled (core_of k) (core_of left) like_left sound.settled));
    };
    waiting = sound.waiting;
    belong = sound.belong;
    on_nodes = wait-by k.calls.calls (at k.opened) (at new.opened) fades sound.on_nodes;
  }

  pub resembling_sound : IsSound A new
  resembling_sound = subst (IsSound A) (sym rest) left_sound
