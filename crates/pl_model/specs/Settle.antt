-- What is tidied at the end of each step.
use Rattle.std.specs.Prelude.{Bool, false, not, ◌&&◌, ◌||◌, nat_lt, if◌then◌else◌, Option, option_map}
use Rattle.std.specs.declared.option.Option.TheVariants.{None, Some}
use Rattle.pl_model.specs.Map.{kept_if}
use Rattle.pl_model.specs.Keys.{Keys, Node, PipeNode, FileNode}
use Rattle.pl_model.specs.State.{Core, Pipe, empty_pipe}
use Rattle.pl_model.specs.Live.{is_live, readers, writers, is_open, has_name}

abbrev pub is_hung : Option Pipe → Bool
is_hung None = false
is_hung (Some pipe) = pipe.hung

-- POSIX.1-2017, poll, POLLHUP: a pipe with readers alone is hung, once it had a writer.
abbrev pub hangs : (has_reader has_writer had_writer : Bool) → Bool
hangs has_reader has_writer had_writer = has_reader && (not has_writer && had_writer)

-- POSIX.1-2017, close: what the end of a step leaves of a pipe with such ends. One without ends loses its bytes.
abbrev pub with_ends : (held has_reader has_writer had_writer : Bool) → Pipe → Pipe
with_ends held has_reader has_writer had_writer pipe = if held then record pipe { hung = hangs has_reader has_writer had_writer } else empty_pipe

module _ {A : Type 0} {K : Keys} where
  -- the pipe was hung, or had a writer
  abbrev pub had_writer : Core A K → K.Pipe → Bool
  had_writer s p = is_hung (s.pipes p) || nat_lt 0 (writers s p)

  -- POSIX.1-2017, close and unlink: a file lives while a name or an open description has it.
  abbrev pub is_kept : Core A K → Node K → Bool
  is_kept s node = is_open s node || has_name s node

  abbrev pub settled_pipe : Core A K → Core A K → K.Pipe → Pipe → Pipe
  settled_pipe before s p pipe = with_ends (is_open s (PipeNode p)) (nat_lt 0 (readers s p)) (nat_lt 0 (writers s p)) (had_writer before p) pipe

  -- Descriptions that aren't live go, and so do files and pipes that nothing keeps. `before` is the state at the step's
  -- beginning.
  unfoldable pub settle : Core A K → Core A K → Core A K
  settle before s =
      record s {
        descriptions = λ d. kept_if (is_live s d) (s.descriptions d);
        pipes = λ p. option_map (settled_pipe before s p) (kept_if (is_kept s (PipeNode p)) (s.pipes p));
        files = λ f. kept_if (is_kept s (FileNode f)) (s.files f);
      }
