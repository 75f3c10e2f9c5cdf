-- What an open of a name comes to before anything changes.
use Rattle.std.specs.Prelude.{◌≡◌, ◌<◌, ℕ, List, nat_eq, Option, Some, option_map}
use Rattle.std.specs.Cmp.Lexicographic.{pointwise}
use Rattle.pl_model.specs.declared.calls.Call.{Call}
use Rattle.pl_model.specs.declared.calls.Mode.{Mode}
use Rattle.pl_model.specs.declared.flags.OpenFlags.{OpenFlags}
use Rattle.pl_model.specs.declared.node.Node.{Node}
use Rattle.pl_model.specs.declared.replies.Errno.{Errno}
use Rattle.pl_model.specs.Map.{get}
use Rattle.pl_model.specs.Keys.{Plain}
use Rattle.pl_model.specs.Trial.{Refused}
use Rattle.pl_model.specs.Begin.{open_named}
use Rattle.pl_model.specs.Step.{begin}
use Rattle.pl_desc.specs.Rows.{lowest_of}
use Rattle.pl_desc.specs.Descs.{live_count}
use Rattle.pl_state.specs.Contents.{Contents, node_of, core_of}
use Rattle.pl_model.specs.Tables.{descriptor_limit, description_limit}

module _ {A : Type 0} (k : Contents A) (pid : ℕ) (name : List ℕ) (mode : Mode) (flags : OpenFlags) where
  -- it is refused
  abbrev pub IsRefused : Errno → Type 0
  IsRefused errno = begin (core_of k) pid (Call.OpenName name mode flags) ≡ Plain (Refused errno)

  -- it passes the checks, and opens what the name stands for, if anything, at the descriptor
  pub record MayOpen (fd : ℕ) (found : Option Node) : Type 0 where
    pub begun : begin (core_of k) pid (Call.OpenName name mode flags) ≡ open_named (core_of k) pid fd name (option_map node_of found) mode flags
    pub named : get (pointwise nat_eq) k.nodes.names name ≡ found
    pub lowest : lowest_of k.tables (descriptor_limit k.limits) pid 0 ≡ Some fd
    pub few : live_count k.opened < description_limit k.limits
