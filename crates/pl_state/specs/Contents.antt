-- What a kernel holds, and the machine's state that it is.
use Rattle.std.specs.Prelude.{◌/◌, ◌&&◌, ℕ, Bool, List, length, nat_lt, nat_eq, count_by, Option, IsSome, IsTrue, option_map, map}
use Rattle.pl_model.specs.declared.calls.Limits.{Limits}
use Rattle.pl_model.specs.declared.calls.Mode.{Mode}
use Rattle.pl_model.specs.declared.node.Node.{Node}
use Rattle.pl_model.specs.declared.node.Node.TheVariants.{Pipe, File}
use Rattle.pl_model.specs.Modes.{reads, writes}
use Rattle.pl_model.specs.Map.{Map}
use Rattle.pl_model.specs.Tables.{descriptor_limit, description_limit, process_limit}
use Rattle.pl_model.specs.Keys.{PipeNode, FileNode}
use Rattle.pl_model.specs.Keys.{Node as KeyNode}
use Rattle.pl_model.specs.State.{Core, Description, Waiting}
use Rattle.pl_model.specs.State.{Pipe as PipeState}
use Rattle.pl_model.specs.Numbered.{numbers}
use Rattle.pl_parked.specs.declared.call.ParkedCall.{ParkedCall}
use Rattle.pl_parked.specs.Calls.{Calls}
use Rattle.pl_desc.specs.declared.limits.DescLimits.{DescLimits}
use Rattle.pl_desc.specs.Rows.{at, Tables, is_pid, row_at}
use Rattle.pl_desc.specs.Descs.{Opened, Descs}
use Rattle.pl_segments.specs.Segments.{segment_size}
use Rattle.pl_nodes.specs.declared.nodes.NodeLimits.{NodeLimits}
use Rattle.pl_nodes.specs.Nodes.{Nodes as KeptNodes}
use Rattle.pl_nodes.specs.Nodes.{Memory, memory_of}
use Rattle.pl_state.specs.declared.access.Access.{Access}
use Rattle.pl_state.specs.declared.access.Access.TheVariants.{Reading, Writing}

-- The nodes: pipes and files by key, the names of files and FIFOs, their limits, and how bytes are kept, of which processes see
-- nothing.
pub record Nodes : Type 0 where
  pub pipes : List (Option PipeState)
  pub files : List (Option (List ℕ))
  pub names : Map (List ℕ) Node
  pub limits : NodeLimits
  pub memory : Memory

-- The limits of pipes and files. Of the memory that is kept for further bytes whole segments count.
abbrev pub node_limits : Limits → NodeLimits
node_limits limits = record { file_max = limits.file_max; spare_max = limits.spare_max / segment_size }

-- the limits of what processes open
abbrev pub desc_limits : Limits → DescLimits
desc_limits limits = record { descriptors = descriptor_limit limits; descriptions = description_limit limits; processes = process_limit limits }

-- what the kernel has of its nodes
abbrev pub nodes_of : KeptNodes → Nodes
nodes_of n = record { pipes = n.pipes; files = n.files; names = n.names; limits = n.limits; memory = memory_of n }

-- the node is there
abbrev pub IsThere : Nodes → Node → Type 0
IsThere nodes (Pipe p) = IsSome (at nodes.pipes p)
IsThere nodes (File f) = IsSome (at nodes.files f)

-- All that a kernel holds: the tables of the processes, the descriptions by key, the nodes, and the calls that wait.
pub record Contents (A : Type 0) : Type 0 where
  pub tables : Tables
  pub opened : List (Option Opened)
  pub nodes : Nodes
  pub calls : Calls A
  pub limits : Limits

-- the same of its parts
abbrev pub contents : {A : Type 0} → Descs → Nodes → Calls A → Limits → Contents A
contents descs nodes calls limits = record { tables = descs.tables; opened = descs.opened; nodes = nodes; calls = calls; limits = limits }

-- how many calls of a process wait
abbrev pub waiting_count : {A : Type 0} → Contents A → ℕ → ℕ
waiting_count k pid = count_by (λ e. nat_eq e.1.pid pid) k.calls.calls

-- fewer calls of the process wait than the limit of each, and fewer of all processes than the limit
abbrev pub lets_wait : {A : Type 0} → Contents A → ℕ → Bool
lets_wait k pid = nat_lt (waiting_count k pid) k.limits.waiting_of_each && nat_lt (length k.calls.calls) k.limits.waiting_max

-- there are fewer names than the limit
abbrev pub lets_name : {A : Type 0} → Contents A → Bool
lets_name k = nat_lt (length k.nodes.names) k.limits.names_max

-- with the pipes of other nodes, kept as they are there
abbrev pub with_pipes : {A : Type 0} → Contents A → Nodes → Contents A
with_pipes k new = record k { nodes = record k.nodes { pipes = new.pipes; memory = new.memory } }

-- there is such a process
abbrev pub IsProcess : {A : Type 0} → Contents A → ℕ → Type 0
IsProcess k pid = IsTrue (is_pid k.tables pid)

abbrev pub allows : Access → Mode → Bool
allows Reading = reads
allows Writing = writes

-- a node, and an open description, as the machine has them
abbrev pub node_of : Node → KeyNode numbers
node_of (Pipe p) = PipeNode p
node_of (File f) = FileNode f

abbrev pub description_of : Opened → Description numbers
description_of o = record { node = node_of o.node; mode = o.mode; flags = o.flags; offset = o.offset }

module _ {A : Type 0} where
  -- a parked call, as the machine has it
  abbrev pub waiting_of : ParkedCall A → Waiting A numbers
  waiting_of call = record { pid = call.pid; call = call.call; kept = call.kept; taken = call.taken; met = call.met }

  abbrev pub parked_of : Map ℕ (ParkedCall A) → Map ℕ (Waiting A numbers)
  parked_of calls = map (λ e. (e.0, waiting_of e.1)) calls

-- the machine's state, under the kernel's keys
unfoldable pub core_of : {A : Type 0} → Contents A → Core A numbers
core_of k =
    record {
      processes = is_pid k.tables;
      rows = row_at k.tables;
      descriptions = λ d. option_map description_of (at k.opened d);
      pipes = at k.nodes.pipes;
      files = at k.nodes.files;
      names = map (λ e. (e.0, node_of e.1)) k.nodes.names;
      parked = parked_of k.calls.calls;
      next_call = k.calls.next;
      limits = k.limits;
    }
