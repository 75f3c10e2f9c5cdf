-- What a file that is opened again leaves at the kernel's keys.
use Rattle.std.proofs.Common.{◌≡◌, Bool, true, false, cond, ℕ, ◌<◌, List, [], length, Option, Some, None, IsSome, refl, sym, ◌∙◌, ap, subst, nat_eq, arith}
use Rattle.std.specs.Prelude.{◌&&◌, pos, option_map}
use Rattle.std.specs.Cmp.Lexicographic.{pointwise}
use Rattle.pl_model.specs.declared.calls.Call.{Call}
use Rattle.pl_model.specs.declared.calls.Mode.{Mode}
use Rattle.pl_model.specs.declared.calls.Step.TheVariants.{Begin}
use Rattle.pl_model.specs.declared.flags.OpenFlags.{OpenFlags}
use Rattle.pl_model.specs.declared.node.Node.{Node}
use Rattle.pl_model.specs.declared.node.Node.TheVariants as node
use Rattle.pl_model.specs.declared.replies.Reply.TheVariants.{Fd}
use Rattle.pl_model.specs.Flags.{has, trunc, status_flags}
use Rattle.pl_model.specs.Modes.{writes}
use Rattle.pl_model.specs.Begin.{truncated}
use Rattle.pl_model.specs.Map.{EachOnce, set_at, change_at}
use Rattle.pl_model.specs.Keys.{FileNode}
use Rattle.pl_model.specs.State.{Core, set_file}
use Rattle.pl_model.specs.Settle.{settle}
use Rattle.pl_model.specs.Tables.{install, describe, descriptor_limit}
use Rattle.pl_model.specs.Numbered.{numbers}
use Rattle.pl_model.proofs.settling.Files.{reopen-settled, truncate-settled}
use Rattle.pl_desc.specs.Rows.{at, is_pid, row_at, lowest_of, with_row}
use Rattle.pl_desc.specs.Descs.{Descs, fresh}
use Rattle.pl_desc.proofs.RowLemmas.{pid_in}
use Rattle.pl_state.specs.Contents.{Contents, Nodes, IsThere, contents, core_of}
use Rattle.pl_state.specs.Sound.{IsSound, AreThere}
use Rattle.pl_state.specs.Makes.{MakesAtKeys}
use Rattle.pl_naming.specs.Openings.{MayOpen}
use Rattle.pl_state.proofs.Known.{Caller}
use Rattle.pl_state.proofs.holders.There.{there-still}
use Rattle.pl_naming.proofs.by_call.OpenedNode.{free, left, opened_sound, opened_makes}
use Rattle.pl_naming.proofs.by_call.Opening.{reopened}
use Rattle.pl_naming.proofs.by_call.Unused.{unused}
use Rattle.pl_naming.proofs.by_call.Unlinking.{keyed}
use Rattle.pl_state.proofs.by_call.Piping.{past_end}
use Rattle.pl_nodes.proofs.Keyed.{change_at-is}
use Rattle.std.proofs.Math.Path.{fun_ext}
use Rattle.pl_desc.specs.declared.limits.DescLimits.{DescLimits}

-- a map is as it was where nothing at a key changes
pub unchanged : (f : ℕ) (m : ℕ → Option (List ℕ)) → m ≡ change_at f (λ bytes. bytes) m
unchanged f m = fun_ext (λ q. by (nat_eq f q) (m q))
  where
    by : (b : Bool) (o : Option (List ℕ)) → o ≡ cond b (option_map (λ bytes. bytes) o) o
    by true None = refl
    by true (Some x) = refl
    by false o = refl

module _ {A : Type 0} (m : Caller A) (name : List ℕ) (mode : Mode) (flags : OpenFlags) (fd : ℕ) where
  open m use {descs, nodes, calls, limits, sound, are, pid, process}

  abbrev k : Contents A
  k = contents descs nodes calls limits

  abbrev c : Core A numbers
  c = core_of k

  module _ (f : ℕ) (least : lowest_of descs.tables (descriptor_limit limits) pid 0 ≡ Some fd) (d : ℕ) (held : List ℕ) (was : at nodes.files f ≡ Some held) (vacant : at descs.opened d ≡ None) where
    abbrev end : Core A numbers → Core A numbers
    end s = install (describe s d (FileNode f) mode (status_flags flags)) pid fd d

    abbrev place : (row_at descs.tables pid fd ≡ None) × (fd < descriptor_limit limits)
    place = free m calls sound are fd least (node.File f) d vacant mode (status_flags flags)

    again : (b : Bool) → settle c (end (cond b (set_file c f []) c)) ≡ end (cond b (set_file c f []) c)
    unfolding core_of
    again true = truncate-settled (core_of k) sound.settled f d pid fd (unused m.kernel d vacant) (pid_in descs.tables pid process).0
        (let h = (pid_in descs.tables pid process).1 in let n = ap (λ (b : DescLimits). b.processes) are.bounds in omega (arith, h, are.tidy.few, n)) process place.1 place.0 mode (status_flags flags) held was
    again false = reopen-settled (core_of k) sound.settled f d pid fd (unused m.kernel d vacant) (pid_in descs.tables pid process).0
        (let h = (pid_in descs.tables pid process).1 in let n = ap (λ (b : DescLimits). b.processes) are.bounds in omega (arith, h, are.tidy.few, n)) process place.1 place.0 mode (status_flags flags)

    files_by : (b : Bool) → change_at f (λ bytes. cond b [] bytes) (at nodes.files) ≡ (cond b (set_file c f []) c).files
    unfolding core_of
    files_by true = change_at-is f (λ bytes. []) (at nodes.files) held was
    files_by false = sym (unchanged f (at nodes.files))

    rest_by : (b : Bool) → record c { files = (cond b (set_file c f []) c).files } ≡ cond b (set_file c f []) c
    rest_by true = refl
    rest_by false = refl

    module _ (descs' : Descs) (nodes' : Nodes) (pids : is_pid descs'.tables ≡ is_pid descs.tables) (rows : row_at descs'.tables ≡ with_row (row_at descs.tables) pid fd (Some d))
        (opened : at descs'.opened ≡ set_at nat_eq (at descs.opened) d (Some (fresh (node.File f) mode (status_flags flags)))) (pipes_are : at nodes'.pipes ≡ at nodes.pipes)
        (files_are : at nodes'.files ≡ change_at f (λ bytes. cond (has flags.0 trunc && writes mode) [] bytes) (at nodes.files)) (names_are : nodes'.names ≡ nodes.names) (limits_are : nodes'.limits ≡ nodes.limits) where
      abbrev new : Contents A
      new = contents descs' nodes' calls limits

      abbrev does : Bool
      does = has flags.0 trunc && writes mode

      left_is : left m calls sound are fd least (node.File f) d vacant mode (status_flags flags) nodes' ≡ end (truncated c f mode flags)
      unfolding core_of
      left_is = (λ i. end (record c { pipes = pipes_are i; files = (files_are ∙ files_by does) i; names = keyed (names_are i) })) ∙ ap end (rest_by does)

      still : (n : Node) → IsThere nodes n → IsThere nodes' n
      still (node.Pipe p) h = subst (λ z. IsSome (z p)) (sym pipes_are) h
      still (node.File g) h = subst (λ (z : ℕ → Option (List ℕ)). IsSome (z g)) (sym files_are) (by (nat_eq f g) (at nodes.files g) h)
        where
          by : (b : Bool) (o : Option (List ℕ)) → IsSome o → IsSome (cond b (option_map (λ bytes. cond (has flags.0 trunc && writes mode) [] bytes) o) o)
          by true None h = h
          by true (Some x) h = refl
          by false o h = h

      there : AreThere (at descs.opened) nodes'
      there = there-still (at descs.opened) nodes nodes' names_are still sound.there

      here : IsSome (at nodes'.files f)
      here = still (node.File f) (subst (λ o. IsSome o) (sym was) refl)

      once : EachOnce (pointwise nat_eq) nodes'.names
      once = subst (EachOnce (pointwise nat_eq)) (sym names_are) sound.once

      settles : settle c (end (truncated c f mode flags)) ≡ left m calls sound are fd least (node.File f) d vacant mode (status_flags flags) nodes'
      settles = again does ∙ sym left_is

      pub reopened_sound : IsSound A new
      reopened_sound = opened_sound m calls sound are fd least (node.File f) d vacant mode (status_flags flags) descs' nodes' pids rows opened limits_are (end (truncated c f mode flags)) settles there here once

      pub reopened_makes : MayOpen k pid name mode flags fd (Some (node.File f)) → MakesAtKeys k (Begin pid (Call.OpenName name mode flags)) (Fd (pos fd)) new
      reopened_makes may =
          opened_makes m calls sound are fd least (node.File f) d vacant mode (status_flags flags) descs' nodes' pids rows opened limits_are (end (truncated c f mode flags)) settles there here once
          (Call.OpenName name mode flags) (length nodes.files) (past_end nodes.files) (reopened m name mode flags fd f) may.begun refl
