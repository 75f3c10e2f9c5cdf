-- What the machine holds.
use Rattle.std.specs.Prelude.{count_by, ℕ, ℤ, pos, negsuc, Bool, false, List, [], length, nat_eq, nat_lt, ◌&&◌, Option, option_map, if◌then◌else◌}
use Rattle.std.specs.Cmp.Lexicographic.{pointwise}
use Rattle.std.specs.declared.option.Option.TheVariants.{None, Some}
use Rattle.pl_model.specs.declared.calls.Mode.{Mode}
use Rattle.pl_model.specs.declared.calls.Call.{Call}
use Rattle.pl_model.specs.declared.calls.Limits.{Limits}
use Rattle.pl_model.specs.declared.flags.OpenFlags.{OpenFlags}
use Rattle.pl_model.specs.Numbers.{first_capacity, most_descriptors}
use Rattle.pl_model.specs.Keys.{Keys, Node, PipeNode, FileNode}
use Rattle.pl_model.specs.Map.{Map, get, set_at}

-- POSIX.1-2017, Open File Description: how a file is accessed, shared by all descriptors that name it.
pub record Description (K : Keys) : Type 0 where
  pub node : Node K
  pub mode : Mode
  pub flags : OpenFlags
  pub offset : ℕ

-- a description with its key
pub record Open (K : Keys) : Type 0 where
  pub key : K.Description
  pub description : Description K

-- POSIX.1-2017, Pipe: bytes that come out in the order in which they went in. A packet pipe has the lengths of its packets from the
-- front too (pipe(2), O_DIRECT), and a byte queue has none. A pipe is hung once its last writer left while a reader stayed.
pub record Pipe : Type 0 where
  pub bytes : List ℕ
  pub packets : Option (List ℕ)
  pub capacity : ℕ
  pub hung : Bool

-- A call that waits, with the descriptions that it found open, the bytes that a write took, and whether an open met its
-- other end.
pub record Waiting (A : Type 0) (K : Keys) : Type 0 where
  pub pid : ℕ
  pub call : Call A
  pub kept : List K.Description
  pub taken : ℕ
  pub met : Bool

-- All that the machine holds, under some keys: the processes by pid, the row of a pid and a descriptor, what stands under
-- each key, what the names of files and FIFOs stand for, the parked calls by number, and the number of the next one.
pub record Core (A : Type 0) (K : Keys) : Type 0 where
  pub processes : ℕ → Bool
  pub rows : ℕ → ℕ → Option K.Description
  pub descriptions : K.Description → Option (Description K)
  pub pipes : K.Pipe → Option Pipe
  pub files : K.File → Option (List ℕ)
  pub names : Map (List ℕ) (Node K)
  pub parked : Map ℕ (Waiting A K)
  pub next_call : ℕ
  pub limits : Limits

-- POSIX.1-2017, pipe: a new pipe holds nothing.
abbrev pub empty_pipe : Pipe
empty_pipe = record { bytes = []; packets = None; capacity = first_capacity; hung = false }

-- pipe(2), O_DIRECT: a new packet pipe holds no packets.
abbrev pub empty_packet_pipe : Pipe
empty_packet_pipe = record empty_pipe { packets = Some [] }

-- the pipe that is made, a packet pipe or a byte queue
abbrev pub pipe_made : (direct : Bool) → Pipe
pipe_made direct = record empty_pipe { packets = if direct then Some [] else None }

module _ {A : Type 0} {K : Keys} where
  -- nothing has happened yet
  abbrev pub opening_core : Limits → Core A K
  opening_core limits =
      record {
        processes = λ pid. false;
        rows = λ pid fd. None;
        descriptions = λ d. None;
        pipes = λ p. None;
        files = λ f. None;
        names = [];
        parked = [];
        next_call = limits.first_call;
        limits = limits;
      }

  -- POSIX.1-2017, File Descriptor: what a descriptor names. One below 0, or past the greatest limit, names nothing.
  abbrev pub row : Core A K → ℕ → ℤ → Option K.Description
  row s pid (pos fd) = if nat_lt fd most_descriptors then s.rows pid fd else None
  row s pid (negsuc n) = None

  -- the description under a key
  abbrev pub described : Core A K → K.Description → Option (Open K)
  described s d = option_map (λ x. record { key = d; description = x }) (s.descriptions d)

  -- what the name stands for
  abbrev pub named : Core A K → List ℕ → Option (Node K)
  named s name = get (pointwise nat_eq) s.names name

  -- Our own: there are fewer names than the limit.
  abbrev pub can_name : Core A K → Bool
  can_name s = nat_lt (length s.names) s.limits.names_max

  -- how many calls of a process wait
  abbrev pub waiting_calls_of : Core A K → ℕ → ℕ
  waiting_calls_of s pid = count_by (λ e. nat_eq e.1.pid pid) s.parked

  -- Our own: fewer calls of the process wait than the limit of each, and fewer of all processes than the limit.
  abbrev pub can_wait : Core A K → ℕ → Bool
  can_wait s pid = nat_lt (waiting_calls_of s pid) s.limits.waiting_of_each && nat_lt (length s.parked) s.limits.waiting_max

  abbrev pub bytes_on : Core A K → Option (Node K) → Option (List ℕ)
  bytes_on s None = None
  bytes_on s (Some (PipeNode p)) = None
  bytes_on s (Some (FileNode f)) = s.files f

  -- the bytes of the file of a name, and none where the name stands for no file (our own)
  abbrev pub file_bytes : Core A K → List ℕ → Option (List ℕ)
  file_bytes s name = bytes_on s (named s name)

  abbrev pub set_row : Core A K → ℕ → ℕ → Option K.Description → Core A K
  set_row s pid fd d = record s { rows = λ q k. if nat_eq q pid && nat_eq k fd then d else s.rows q k }

  abbrev pub set_pipe : Core A K → K.Pipe → Pipe → Core A K
  set_pipe s p pipe = record s { pipes = set_at K.same_pipe s.pipes p (Some pipe) }

  abbrev pub set_file : Core A K → K.File → List ℕ → Core A K
  set_file s f bytes = record s { files = set_at K.same_file s.files f (Some bytes) }

  abbrev pub set_description : Core A K → K.Description → Description K → Core A K
  set_description s d description = record s { descriptions = set_at K.same_description s.descriptions d (Some description) }
