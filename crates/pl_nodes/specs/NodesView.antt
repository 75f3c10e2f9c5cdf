-- The fields of the nodes, as what they hold.
use Rattle.std.specs.Prelude.{◌≡◌, ℕ, ◌≤◌, Bool, false, List, [], length, map, Option, None, Some, is_some, ◌&&◌, count_by, if◌then◌else◌}
use Rattle.std.specs.declared.vec.Vec.{Vec}
use Rattle.pl_model.specs.Numbers.{most_file_bytes}
use Rattle.pl_model.specs.declared.node.Node.{Node}
use Rattle.pl_model.specs.declared.node.Node.TheVariants as node
use Rattle.pl_model.specs.Map.{Map as FiniteMap}
use Rattle.pl_model.specs.Nodes.{key_of, same_node}
use Rattle.pl_model.specs.State.{Pipe as PipeState}
use Rattle.pl_segments.specs.declared.slice.Slice.{Slice}
use Rattle.pl_segments.specs.Segments.{Map, segment_at, at, live_count}
use Rattle.pl_segments.specs.Slices.{all_read}
use Rattle.pl_segments.specs.Sharing.{AreShared, slots_at}
use Rattle.pl_nodes.specs.declared.content.PipeNode.{PipeNode}
use Rattle.pl_nodes.specs.declared.content.Content.{Content}
use Rattle.pl_nodes.specs.declared.content.Content.TheVariants.{Pipe, File}
use Rattle.pl_nodes.specs.declared.nodes.Nodes.TheInside.{Inside}
use Rattle.pl_nodes.specs.Nodes.{Nodes}
use Rattle.pl_nodes.specs.Queue.{slots_of, capacity_of, packets_of}

-- 1 where the test holds, else 0
abbrev pub one_if : Bool → ℕ
one_if b = if b then 1 else 0

-- a pipe has the bytes that its slots read
abbrev pub pipe_of : {A : Type 0} → Map → PipeNode A → PipeState
pipe_of m p = record { bytes = all_read m (slots_of p.queue); packets = packets_of p.queue; capacity = capacity_of p.queue; hung = p.hung }

module _ {A : Type 0} where
  -- the pipe under a key
  abbrev pub pipe_in : Map → Option (Content A) → Option PipeState
  pipe_in m None = None
  pipe_in m (Some (Pipe p)) = Some (pipe_of m p)
  pipe_in m (Some (File f)) = None

  -- the bytes of the file under a key
  abbrev pub file_in : Map → Option (Content A) → Option (List ℕ)
  file_in m None = None
  file_in m (Some (Pipe p)) = None
  file_in m (Some (File f)) = Some (all_read m f.file)

  -- the slots of what is under a key
  abbrev pub slots_in : Option (Content A) → List Slice
  slots_in None = []
  slots_in (Some (Pipe p)) = slots_of p.queue
  slots_in (Some (File f)) = f.file

  abbrev pub lists : List (Option (Content A)) → List (List Slice)
  lists contents = map slots_in contents

  -- the entries of the tree, by the bytes of their keys
  abbrev pub names_of : List (Vec ℕ A × Node) → FiniteMap (List ℕ) Node
  names_of es = map (λ e. (e.0.items, e.1)) es

  -- how many entries stand for the node
  abbrev pub names_on : List (Vec ℕ A × Node) → Node → ℕ
  names_on es n = count_by (λ e. same_node e.1 n) es

  -- whether a name stands for the pipe under a key, and for the file
  abbrev pub pipe_named : Option (Content A) → Bool
  pipe_named None = false
  pipe_named (Some (Pipe p)) = p.named
  pipe_named (Some (File f)) = false

  abbrev pub file_named : Option (Content A) → Bool
  file_named None = false
  file_named (Some (Pipe p)) = false
  file_named (Some (File f)) = f.named

  -- whether it is a packet pipe
  abbrev pub is_packet : Option (Content A) → Bool
  is_packet None = false
  is_packet (Some (Pipe p)) = is_some (packets_of p.queue)
  is_packet (Some (File f)) = false

  -- whether it is a packet pipe with a name
  abbrev pub named_packet : Option (Content A) → Bool
  named_packet o = pipe_named o && is_packet o

  -- whether a name stands for it as a node of this kind
  abbrev pub named_as : Node → Option (Content A) → Bool
  named_as (node.Pipe p) = pipe_named
  named_as (node.File f) = file_named

  -- one name stands for each node that is said to have one, and none for any other
  abbrev pub AreNamed : List (Vec ℕ A × Node) → List (Option (Content A)) → Type 0
  AreNamed es contents = (n : Node) → names_on es n ≡ one_if (named_as n (at contents (key_of n)))

  abbrev pub view_of : Inside A → Nodes
  view_of k =
      let m = segment_at k.store in
      record {
        pipes = map (pipe_in m) k.contents.slots;
        files = map (file_in m) k.contents.slots;
        slots = lists k.contents.slots;
        names = names_of k.names.entries;
        next = k.contents.vacant_key;
        segments = live_count k.store.held;
        limits = k.limits;
      }

  -- each segment has as many holders as slots name it, and nothing has more slots than the longest file has bytes; what has a
  -- name says so, and is no packet pipe; and few segments are kept that nobody holds
  pub record IsSound (k : Inside A) : Type 0 where
    pub shared : AreShared (segment_at k.store) (lists k.contents.slots)
    pub short : (q : ℕ) → length (slots_at (lists k.contents.slots) q) ≤ most_file_bytes
    pub named : AreNamed k.names.entries k.contents.slots
    pub plain : (q : ℕ) → named_packet (at k.contents.slots q) ≡ false
    pub most : k.limits.file_max ≤ most_file_bytes
    pub spare : k.store.room ≤ k.limits.spare_max
