-- The node that a descriptor or a name stands for, if the step touches it.
use Rattle.std.proofs.Common.{◌≡◌, ℕ, ℤ, pos, negsuc, Bool, true, false, cond, List, refl, sym, ◌∙◌, ap, subst, nat_lt, w32, to_z, of_z}
use Rattle.std.specs.Prelude.{option_map, option_and_then, FitsSigned}
use Rattle.std.proofs.lemmas.Int.{to_z-of_z}
use Rattle.std.specs.declared.option.Option.{Option}
use Rattle.std.specs.declared.option.Option.TheVariants.{None, Some}
use Rattle.pl_model.specs.declared.node.Node.{Node}
use Rattle.pl_model.specs.Numbers.{most_descriptors}
use Rattle.pl_model.specs.Keys.{same_node}
use Rattle.pl_model.specs.Keys.{Node as KeyNode}
use Rattle.pl_model.specs.Modes.{any_mode}
use Rattle.pl_model.specs.Numbered.{numbers}
use Rattle.pl_model.specs.State.{Core, Description, Open, described, row, named}
use Rattle.pl_model.specs.Begin.{open_fd}
use Rattle.pl_model.specs.Live.{is_end}
use Rattle.pl_model.specs.Touching.{stands_at, is_at, names_at}
use Rattle.pl_model.proofs.settling.Members.{and_left}
use Rattle.pl_model.proofs.settling.Opening.{same_is}
use Rattle.pl_model.proofs.touching.SameAt.{IsFit}
use Rattle.pl_state.specs.Contents.{node_of}
use Rattle.pl_kernel.specs.ToldNodes.{OfFd, OfName, node_at, key_of}

module _ {A : Type 0} (c : Core A numbers) (fit : IsFit c) where
  rowless : (pid : ℕ) (fd : ℤ) → c.processes pid ≡ false → row c pid fd ≡ None
  rowless pid (pos n) none = by (nat_lt n most_descriptors)
    where
      by : (b : Bool) → cond b (c.rows pid n) None ≡ None
      by true = fit.rows pid n none
      by false = refl
  rowless pid (negsuc n) none = refl

  -- What a descriptor stands for is the node that it names.
  pub named-at : (node : KeyNode numbers) (pid : ℕ) (fd : ℤ) → names_at c node pid fd ≡ true → node_at c (OfFd pid fd) ≡ Some node
  named-at node pid fd names = by (c.processes pid) refl
    where
      on : (o : Option ℕ) → is_at c node o ≡ true → option_map (λ (o : Open numbers). o.description.node) (option_and_then (described c) o) ≡ Some node
      on None h = absurd (cc)
      on (Some d) h = at (c.descriptions d) h
        where
          at : (x : Option (Description numbers)) → is_end any_mode node x ≡ true → option_map (λ (o : Open numbers). o.description.node) (option_map (λ x. record { key = d; description = x }) x) ≡ Some node
          at None h = absurd (cc)
          at (Some x) h = ap (λ n. Some n) (same_is x.node node (and_left (same_node x.node node) true h))

      by : (b : Bool) → c.processes pid ≡ b → cond b (option_map (λ (o : Open numbers). o.description.node) (open_fd c pid fd)) None ≡ Some node
      by true is = on (row c pid fd) names
      by false is = absurd (let no : false ≡ true = sym (ap (is_at c node) (rowless pid fd is)) ∙ names in cc)

  -- What a name stands for is the node at which it stands.
  pub stands-at : (node : KeyNode numbers) (name : List ℕ) → stands_at node (named c name) ≡ true → node_at c (OfName name) ≡ Some node
  stands-at node name stands = by (named c name) stands
    where
      by : (o : Option (KeyNode numbers)) → stands_at node o ≡ true → o ≡ Some node
      by None h = absurd (cc)
      by (Some other) h = ap (λ n. Some n) (same_is other node h)

-- the node of the kernel that stands for it has its key
pub key-found : (node : KeyNode numbers) (o : Option Node) → option_map node_of o ≡ Some node → (n : Node) × (o ≡ Some n) × (key_of (node_of n) ≡ key_of node)
key-found node None is = absurd (cc)
key-found node (Some n) is = (n, refl, (let same : node_of n ≡ node = cc in ap key_of same))

-- so is the key of what a descriptor or a name stands for, if the step touches it
module _ {A : Type 0} (c : Core A numbers) (fit : IsFit c) (node : KeyNode numbers) (o : Option Node) where
  pub key-named : (pid : ℕ) (fd : ℤ) → option_map node_of o ≡ node_at c (OfFd pid fd) → names_at c node pid fd ≡ true → (n : Node) × (o ≡ Some n) × (key_of (node_of n) ≡ key_of node)
  key-named pid fd told names = key-found node o (told ∙ named-at c fit node pid fd names)

  pub key-standing : (name : List ℕ) → option_map node_of o ≡ node_at c (OfName name) → stands_at node (named c name) ≡ true → (n : Node) × (o ≡ Some n) × (key_of (node_of n) ≡ key_of node)
  key-standing name told stands = key-found node o (told ∙ stands-at c fit node name stands)

-- a descriptor names the same, read from its bits
pub as-bits : {A : Type 0} (c : Core A numbers) (node : KeyNode numbers) (pid : ℕ) (fd : ℤ) → FitsSigned w32 fd → names_at c node pid fd ≡ true → names_at c node pid (to_z w32 (of_z w32 fd)) ≡ true
as-bits c node pid fd fits names = subst (λ z. names_at c node pid z ≡ true) (sym (to_z-of_z w32 fd fits)) names
