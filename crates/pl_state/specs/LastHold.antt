-- What is left of a node as one of its ends goes.
use Rattle.std.specs.Prelude.{◌≡◌, ℕ, Bool, true, false, ◌||◌, nat_lt, nat_eq, List, [], ◌∷◌, Option, None, IfSome, option_map, if◌then◌else◌}
use Rattle.pl_model.specs.declared.node.Node.{Node}
use Rattle.pl_model.specs.declared.node.Node.TheVariants as node
use Rattle.pl_model.specs.Modes.{any_mode, reads, writes}
use Rattle.pl_model.specs.Map.{kept_if, set_at}
use Rattle.pl_model.specs.Nodes.{has_name}
use Rattle.pl_model.specs.State.{Pipe}
use Rattle.pl_model.specs.Settle.{with_ends}
use Rattle.pl_desc.specs.Rows.{at, count_at, change_count, one_less}
use Rattle.pl_desc.specs.Descs.{Opened, Descs, IsTidy, ends_on, last_hold}
use Rattle.pl_nodes.specs.Nodes.{Shrinks}
use Rattle.pl_state.specs.Contents.{Nodes}

-- a description on the pipe reads, or writes
abbrev pub has_reader : List (Option Opened) → ℕ → Bool
has_reader opened p = nat_lt 0 (ends_on reads opened (node.Pipe p))

abbrev pub has_writer : List (Option Opened) → ℕ → Bool
has_writer opened p = nat_lt 0 (ends_on writes opened (node.Pipe p))

-- a description is on the node
abbrev pub is_open_on : List (Option Opened) → Node → Bool
is_open_on opened n = nat_lt 0 (ends_on any_mode opened n)

-- POSIX.1-2017, close, and poll, POLLHUP: a pipe without ends loses its bytes, and one whose last writer left is hung.
abbrev pub with_these_ends : (has_reader has_writer had_writer : Bool) → Pipe → Pipe
with_these_ends has_reader has_writer had_writer x = with_ends (has_reader || has_writer) has_reader has_writer (x.hung || had_writer) x

-- the same, where these descriptions were open before, and those are after
abbrev pub ended_pipe : (before after : List (Option Opened)) → ℕ → Pipe → Pipe
ended_pipe before after p x = with_ends (is_open_on after (node.Pipe p)) (has_reader after p) (has_writer after p) (x.hung || has_writer before p) x

-- POSIX.1-2017, close and unlink: a node lives while a description is on it, or a name keeps it.
abbrev pub is_kept : (after : List (Option Opened)) → Nodes → Node → Bool
is_kept after nodes n = is_open_on after n || has_name nodes.names n

-- the pipes, where a description on the node is gone
abbrev pub pipes_left : (before after : List (Option Opened)) → Nodes → Node → ℕ → Option Pipe
pipes_left before after nodes (node.Pipe p) = set_at nat_eq (at nodes.pipes) p (option_map (ended_pipe before after p) (kept_if (is_kept after nodes (node.Pipe p)) (at nodes.pipes p)))
pipes_left before after nodes (node.File f) = at nodes.pipes

-- and the files
abbrev pub files_left : (after : List (Option Opened)) → Nodes → Node → ℕ → Option (List ℕ)
files_left after nodes (node.Pipe p) = at nodes.files
files_left after nodes (node.File f) = set_at nat_eq (at nodes.files) f (kept_if (is_kept after nodes (node.File f)) (at nodes.files f))

-- what a description that is gone leaves of the nodes, where it was on this one
pub record Leaves (before after : List (Option Opened)) (old new : Nodes) (n : Node) : Type 0 where
  pub pipes : at new.pipes ≡ pipes_left before after old n
  pub files : at new.files ≡ files_left after old n
  pub names : new.names ≡ old.names
  pub limits : new.limits ≡ old.limits

-- a loose hold of the description was given up
pub record Releases (old new : Descs) (before after : Nodes) (key : ℕ) : Type 0 where
  pub opened : at new.opened ≡ (if last_hold old key then set_at nat_eq (at old.opened) key None else at old.opened)
  pub loose : count_at new.loose ≡ change_count key one_less (count_at old.loose)
  pub tables : new.tables ≡ old.tables
  pub limits : new.limits ≡ old.limits
  pub tidy : IsTidy new
  pub shrinks : Shrinks before.memory after.memory
  pub stays : last_hold old key ≡ false → after ≡ before
  pub leaves : last_hold old key ≡ true → IfSome (at old.opened key) (λ o. Leaves old.opened new.opened before after o.node)

-- loose holds of these were, one after another
abbrev pub ReleasesAll : List ℕ → (old new : Descs) → (before after : Nodes) → Type 0
ReleasesAll [] old new before after = (new ≡ old) × (after ≡ before)
ReleasesAll (key ∷ keys) old new before after = (descs : Descs) × (nodes : Nodes) × (Releases old descs before nodes key) × (ReleasesAll keys descs new nodes after)
