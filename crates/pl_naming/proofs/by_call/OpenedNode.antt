-- What a node that is opened leaves at the kernel's keys.
use Rattle.std.proofs.Common.{◌≡◌, ℕ, ◌<◌, length, Option, Some, None, refl, sym, ◌∙◌, ap, subst, nat_eq}
use Rattle.std.specs.Prelude.{pos, option_map}
use Rattle.std.specs.Cmp.Lexicographic.{pointwise}
use Rattle.pl_model.specs.declared.calls.Call.{Call}
use Rattle.pl_model.specs.declared.calls.Mode.{Mode}
use Rattle.pl_model.specs.declared.calls.Step.TheVariants.{Begin}
use Rattle.pl_model.specs.declared.flags.OpenFlags.{OpenFlags}
use Rattle.pl_model.specs.declared.node.Node.{Node}
use Rattle.pl_model.specs.declared.replies.Reply.TheVariants.{Fd}
use Rattle.pl_model.specs.Map.{EachOnce, set_at}
use Rattle.pl_model.specs.Keys.{NewKeys, Draws}
use Rattle.pl_model.specs.State.{Core}
use Rattle.pl_model.specs.Settle.{settle}
use Rattle.pl_model.specs.Tables.{install, describe, descriptor_limit}
use Rattle.pl_model.specs.Trial.{Answered}
use Rattle.pl_model.specs.Step.{begin}
use Rattle.pl_model.specs.Numbered.{numbers}
use Rattle.pl_model.specs.StandsFor.{Comes}
use Rattle.pl_parked.specs.Calls.{Calls}
use Rattle.pl_desc.specs.Rows.{at, is_pid, row_at, lowest_of, with_row}
use Rattle.pl_desc.specs.Descs.{Opened, Descs, fresh}
use Rattle.pl_state.specs.Contents.{Contents, Nodes, IsThere, contents, node_of, description_of, parked_of, core_of}
use Rattle.pl_state.specs.Sound.{IsSound, AreCounted, AreThere, WaitOnNodes}
use Rattle.pl_state.specs.Makes.{MakesAtKeys}
use Rattle.pl_state.proofs.Known.{Caller}
use Rattle.pl_state.proofs.holders.Belonging.{belong-same}
use Rattle.pl_state.proofs.holders.There.{settled_after, there-added, map-set_at}
use Rattle.pl_state.proofs.by_call.Begun.{step-draws}
use Rattle.pl_state.proofs.by_call.Piping.{lowest_found, none_kept, past_end}
use Rattle.pl_state.proofs.holders.OnNodes.{wait-beside}
use Rattle.pl_naming.proofs.by_call.Unlinking.{keyed}
use Rattle.pl_naming.proofs.by_call.Unused.{keys, are_unused}

-- A description is opened on a node, at the least free descriptor. The parked calls may be others by then, of which the same is known.
module _ {A : Type 0} (m : Caller A) (calls' : Calls A) (sound' : IsSound A (contents m.descs m.nodes calls' m.limits)) (are' : AreCounted A m.limits m.descs calls'.calls)
    (fd : ℕ) (least : lowest_of m.descs.tables (descriptor_limit m.limits) m.pid 0 ≡ Some fd) (n : Node) (d : ℕ) (vacant : at m.descs.opened d ≡ None) (mode : Mode) (flags : OpenFlags) where
  open m use {kernel, descs, nodes, calls, limits, sound, are, pid, process}

  abbrev k : Contents A
  k = contents descs nodes calls limits

  abbrev c : Core A numbers
  c = core_of k

  abbrev end : Opened
  end = fresh n mode flags

  pub free : (row_at descs.tables pid fd ≡ None) × (fd < descriptor_limit limits)
  free = let l = lowest_found descs.tables (descriptor_limit limits) pid 0 fd least in (l.0, l.1)

  abbrev pub left : Nodes → Core A numbers
  left nodes' = install (describe (record c { pipes = at nodes'.pipes; files = at nodes'.files; names = keyed nodes'.names; parked = parked_of calls'.calls; next_call = calls'.next }) d (node_of n) mode flags) pid fd d

  module _ (descs' : Descs) (nodes' : Nodes) (pids : is_pid descs'.tables ≡ is_pid descs.tables) (rows : row_at descs'.tables ≡ with_row (row_at descs.tables) pid fd (Some d))
      (opened : at descs'.opened ≡ set_at nat_eq (at descs.opened) d (Some end)) (limits_are : nodes'.limits ≡ nodes.limits)
      (u : Core A numbers) (settles : settle c u ≡ left nodes') (there : AreThere (at descs.opened) nodes') (here : IsThere nodes' n)
      (once : EachOnce (pointwise nat_eq) nodes'.names) where
    abbrev new : Contents A
    new = contents descs' nodes' calls' limits

    new_is : core_of new ≡ left nodes'
    unfolding core_of
    new_is = λ i. record {
      processes = pids i;
      rows = rows i;
      descriptions = (ap (λ (z : ℕ → Option Opened). λ q. option_map description_of (z q)) opened ∙ map-set_at description_of (at descs.opened) d (Some end)) i;
      pipes = at nodes'.pipes;
      files = at nodes'.files;
      names = keyed nodes'.names;
      parked = parked_of calls'.calls;
      next_call = calls'.next;
      limits = limits;
    }

    opened_core : core_of new ≡ settle c u
    opened_core = new_is ∙ sym settles

    pub opened_sound : IsSound A new
    opened_sound = record {
      whole = record {
        rise = sound'.rise;
        numbered = sound'.numbered;
        there = subst (λ z. AreThere z nodes') (sym opened) (there-added (at descs.opened) nodes' there d end here);
        limit = limits_are ∙ sound.limit;
        once = once;
        settled = settled_after (core_of new) c u opened_core;
      };
      waiting = sound'.waiting;
      belong = belong-same calls'.calls (is_pid descs.tables) (is_pid descs'.tables) sound'.belong pids;
      on_nodes = subst (WaitOnNodes calls'.calls) (sym opened) (wait-beside d calls'.calls (at descs.opened) end (none_kept (record { descs = descs; nodes = nodes; calls = calls'; limits = limits; sound = sound'; are = are' }) d vacant) sound'.on_nodes);
    }

    pub opened_makes : (call : Call A) (file : ℕ) → at nodes.files file ≡ None → (g : NewKeys numbers → Core A numbers) → begin c pid call ≡ Draws (λ new. Answered (g new) (Fd (pos fd)))
        → g (keys m.kernel d (length nodes.pipes) file) ≡ u → MakesAtKeys k (Begin pid call) (Fd (pos fd)) new
    opened_makes call file no_file g draws same =
        subst (λ a. Comes c a (Fd (pos fd)) (core_of new)) (sym (step-draws k pid call process (λ new. Answered (g new) (Fd (pos fd))) draws))
        (keys m.kernel d (length nodes.pipes) file, are_unused m.kernel d (length nodes.pipes) file vacant (past_end nodes.pipes) no_file, refl, opened_core ∙ sym (ap (settle c) same))
