-- When what is held under keys stands for a state of the flat machine.
use Rattle.std.specs.Prelude.{◌≡◌, ◌≢◌, All, IfSome, ℕ, ◌≤◌, Some, None}
use Rattle.pl_model.specs.declared.replies.Reply.{Reply}
use Rattle.pl_model.specs.Keys.{Node, NewKeys, PipeNode, FileNode, Drawing, Plain, Draws}
use Rattle.pl_model.specs.State.{Core, Waiting}
use Rattle.pl_model.specs.Step.{Stepped}
use Rattle.pl_model.specs.Numbered.{numbers, State}
use Rattle.pl_model.specs.Renaming.{Renamings, rename}

module _ {A : Type 0} (c : Core A numbers) where
  -- no row, description or parked call has this key of a description
  pub record IsUnusedDescription (d : ℕ) : Type 0 where
    pub rows : (pid fd : ℕ) → c.rows pid fd ≢ Some d
    pub descriptions : c.descriptions d ≡ None
    pub parked : All (λ (e : ℕ × Waiting A numbers). All (λ k. k ≢ d) e.1.kept) c.parked

  -- no description is on the node, and no name stands for it
  pub record IsUnusedNode (node : Node numbers) : Type 0 where
    pub descriptions : (d : ℕ) → IfSome (c.descriptions d) (λ x. x.node ≢ node)
    pub names : All (λ e. e.1 ≢ node) c.names

  pub record IsUnusedPipe (p : ℕ) : Type 0 where
    pub node : IsUnusedNode (PipeNode p)
    pub pipes : c.pipes p ≡ None

  pub record IsUnusedFile (f : ℕ) : Type 0 where
    pub node : IsUnusedNode (FileNode f)
    pub files : c.files f ≡ None

  -- keys that nothing held has, the two of descriptions not one
  pub record AreUnused (new : NewKeys numbers) : Type 0 where
    pub description : IsUnusedDescription new.description
    pub other_description : IsUnusedDescription new.other_description
    pub apart : new.description ≢ new.other_description
    pub pipe : IsUnusedPipe new.pipe
    pub file : IsUnusedFile new.file

module _ {A : Type 0} where
  -- every number in the state is below the counter of its kind
  pub record IsBelowCounters (s : State A) : Type 0 where
    pub descriptions : (d : ℕ) → s.next_description ≤ d → IsUnusedDescription s.core d
    pub pipes : (p : ℕ) → s.next_pipe ≤ p → IsUnusedPipe s.core p
    pub files : (f : ℕ) → s.next_file ≤ f → IsUnusedFile s.core f

  -- What is held under keys stands for the state: one-to-one maps turn its keys into the state's numbers, and make it
  -- what the state holds.
  pub record StandsFor (c : Core A numbers) (s : State A) : Type 0 where
    pub numbered : Renamings
    pub renamed : rename numbered c ≡ s.core
    pub below : IsBelowCounters s

  -- A step under keys was answered so and left this, whichever unused keys it took.
  abbrev pub Comes : Core A numbers → Drawing numbers (Stepped A numbers) → Reply A → Core A numbers → Type 0
  Comes old (Plain h) reply new = (reply ≡ h.reply) × (new ≡ h.state)
  Comes old (Draws f) reply new = (keys : NewKeys numbers) × AreUnused old keys × (reply ≡ (f keys).reply) × (new ≡ (f keys).state)
