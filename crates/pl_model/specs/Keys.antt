-- What the machine calls its descriptions, pipes and files.
use Rattle.std.specs.Prelude.{Bool, false}

-- Keys of three kinds. The machine compares them, is handed new ones, and knows nothing else of them, so the keys of a
-- kernel and the numbers of the flat machine serve alike.
pub record Keys : Type 1 where
  pub Description : Type 0
  pub Pipe : Type 0
  pub File : Type 0
  pub same_description : Description → Description → Bool
  pub same_pipe : Pipe → Pipe → Bool
  pub same_file : File → File → Bool

-- what a description is open on
pub data Node (K : Keys) : Type 0 where
  PipeNode : K.Pipe → Node K
  FileNode : K.File → Node K

-- new keys, as many as one step may take
pub record NewKeys (K : Keys) : Type 0 where
  pub description : K.Description
  pub other_description : K.Description
  pub pipe : K.Pipe
  pub file : K.File

-- this, or this once new keys are handed in
pub data Drawing (K : Keys) (X : Type 0) : Type 0 where
  Plain : X → Drawing K X
  Draws : (NewKeys K → X) → Drawing K X

module _ {K : Keys} where
  abbrev pub same_node : Node K → Node K → Bool
  same_node (PipeNode p) (PipeNode q) = K.same_pipe p q
  same_node (FileNode f) (FileNode g) = K.same_file f g
  same_node (PipeNode p) (FileNode g) = false
  same_node (FileNode f) (PipeNode q) = false

  abbrev pub drawing_map : {X Y : Type 0} → (X → Y) → Drawing K X → Drawing K Y
  drawing_map f (Plain x) = Plain (f x)
  drawing_map f (Draws g) = Draws (λ new. f (g new))

  -- what comes of it with these new keys
  abbrev pub drawn : {X : Type 0} → NewKeys K → Drawing K X → X
  drawn new (Plain x) = x
  drawn new (Draws f) = f new
