-- At which places the ends are that a call keeps, one after another.
use Rattle.std.proofs.Common.{◌≡◌, ℕ, ◌<◌, List, [], ◌∷◌, length, Option, refl, ap, arith}
use Rattle.std.specs.Prelude.{option_map}
use Rattle.std.specs.declared.option.Option.TheVariants.{None, Some}
use Rattle.pl_model.specs.declared.calls.Mode.{Mode}
use Rattle.pl_model.specs.declared.flags.PollMask.{PollMask}
use Rattle.pl_model.specs.declared.node.Node.{Node}
use Rattle.pl_desc.specs.Rows.{at}
use Rattle.pl_desc.specs.Descs.{Opened}
use Rattle.pl_state.specs.Contents.{Contents, core_of, description_of, node_of}
use Rattle.pl_kernel.specs.ToldNodes.{key_of}
use Rattle.pl_kernel.specs.Queues.{End, queue_of_entry, queue_at_source, queue_at_target, end_of, ends, place_in, entry_place, move_places}

module _ {A : Type 0} (k : Contents A) (d : ℕ) (n : Node) (told : option_map (λ (o : Opened). o.node) (at k.opened d) ≡ Some n) where
  -- the description on a node that was told
  pub place-of : (queue : ℕ) → place_in queue (option_map end_of ((core_of k).descriptions d)) ≡ (key_of (node_of n), queue) ∷ []
  unfolding core_of
  place-of queue = by (at k.opened d) told
    where
      by : (o : Option Opened) → option_map (λ (o : Opened). o.node) o ≡ Some n → place_in queue (option_map end_of (option_map description_of o)) ≡ (key_of (node_of n), queue) ∷ []
      by None e = absurd (cc)
      by (Some o) e = (let is : o.node ≡ n = cc in ap (λ m. (key_of (node_of m), queue) ∷ []) is)

  pub entry-of : (mode : Mode) → option_map (λ (o : Opened). o.mode) (at k.opened d) ≡ Some mode → (asked : PollMask) →
      entry_place asked (option_map end_of ((core_of k).descriptions d)) ≡ (key_of (node_of n), queue_of_entry (node_of n) mode asked) ∷ []
  unfolding core_of
  entry-of mode moded asked = by (at k.opened d) told moded
    where
      by : (o : Option Opened) → option_map (λ (o : Opened). o.node) o ≡ Some n → option_map (λ (o : Opened). o.mode) o ≡ Some mode → entry_place asked (option_map end_of (option_map description_of o)) ≡ (key_of (node_of n), queue_of_entry (node_of n) mode asked) ∷ []
      by None e f = absurd (cc)
      by (Some o) e f = (let is : o.node ≡ n = cc in let by_mode : o.mode ≡ mode = cc in λ i. (key_of (node_of (is i)), queue_of_entry (node_of (is i)) (by_mode i) asked) ∷ [])

-- two descriptions on nodes that were told
pub moves-of : {A : Type 0} (k : Contents A) (a b : ℕ) (n m : Node) (rest : List ℕ) → option_map (λ (o : Opened). o.node) (at k.opened a) ≡ Some n → option_map (λ (o : Opened). o.node) (at k.opened b) ≡ Some m →
    move_places (ends (core_of k) (a ∷ b ∷ rest)) ≡ (key_of (node_of n), queue_at_source (node_of n) (node_of m)) ∷ (key_of (node_of m), queue_at_target (node_of n) (node_of m)) ∷ []
unfolding core_of
moves-of k a b n m rest e f = by (at k.opened a) (at k.opened b) e f
  where
    by : (o p : Option Opened) → option_map (λ (o : Opened). o.node) o ≡ Some n → option_map (λ (o : Opened). o.node) p ≡ Some m →
        move_places (option_map end_of (option_map description_of o) ∷ option_map end_of (option_map description_of p) ∷ ends (core_of k) rest)
        ≡ (key_of (node_of n), queue_at_source (node_of n) (node_of m)) ∷ (key_of (node_of m), queue_at_target (node_of n) (node_of m)) ∷ []
    by None p e f = absurd (cc)
    by (Some o) None e f = absurd (cc)
    by (Some o) (Some p) e f =
        let one : o.node ≡ n = cc in
        let other : p.node ≡ m = cc in
        λ i. (key_of (node_of (one i)), queue_at_source (node_of (one i)) (node_of (other i))) ∷ (key_of (node_of (other i)), queue_at_target (node_of (one i)) (node_of (other i))) ∷ []

-- where fewer than two are kept, there is no place
pub no-moves : {A : Type 0} (k : Contents A) (kept : List ℕ) → length kept < 2 → move_places (ends (core_of k) kept) ≡ []
no-moves k [] few = refl
no-moves k (a ∷ []) few = by (option_map end_of ((core_of k).descriptions a))
  where
    by : (e : Option End) → move_places (e ∷ []) ≡ []
    by None = refl
    by (Some e) = refl
no-moves k (a ∷ b ∷ rest) few = absurd (omega (arith, few))
