-- What a FIFO that is opened leaves at the kernel's keys.
use Rattle.std.proofs.Common.{◌≡◌, ℕ, ◌<◌, Bool, true, false, cond, List, length, Option, Some, None, IsSome, refl, sym, ◌∙◌, ap, subst, nat_eq, nat_lt, arith}
use Rattle.std.specs.Prelude.{pos, option_map}
use Rattle.std.specs.Cmp.Lexicographic.{pointwise}
use Rattle.pl_model.specs.declared.calls.Call.{Call}
use Rattle.pl_model.specs.declared.calls.Mode.{Mode}
use Rattle.pl_model.specs.declared.calls.Step.TheVariants.{Begin}
use Rattle.pl_model.specs.declared.flags.OpenFlags.{OpenFlags}
use Rattle.pl_model.specs.declared.node.Node.{Node}
use Rattle.pl_model.specs.declared.node.Node.TheVariants as node
use Rattle.pl_model.specs.declared.replies.Reply.TheVariants.{Fd, Fault}
use Rattle.pl_model.specs.declared.replies.Errno.TheVariants.{ENXIO}
use Rattle.pl_model.specs.Flags.{has, nonblock, status_flags}
use Rattle.pl_model.specs.Modes.{reads, writes}
use Rattle.pl_model.specs.Map.{EachOnce, change_at, set_at}
use Rattle.pl_model.specs.Keys.{NewKeys, Draws, PipeNode}
use Rattle.pl_model.specs.State.{Core, Pipe, set_pipe}
use Rattle.pl_model.specs.Settle.{settle}
use Rattle.pl_model.specs.Trial.{Begins, Answered, refuse_if}
use Rattle.pl_model.specs.Tables.{install, describe, descriptor_limit}
use Rattle.pl_model.specs.Fifo.{opens_at_once, can_open, meet}
use Rattle.pl_model.specs.Begin.{await_other_end}
use Rattle.pl_model.specs.Step.{begin}
use Rattle.pl_model.specs.Numbered.{numbers}
use Rattle.pl_model.proofs.settling.Meeting.{open_meets-settled}
use Rattle.pl_model.proofs.settling.WhoIsLive.{readers-is, writers-is}
use Rattle.pl_parked.specs.Calls.{Calls}
use Rattle.pl_desc.specs.Rows.{at, is_pid, row_at, lowest_of, with_row}
use Rattle.pl_desc.specs.Descs.{Descs, fresh, ends_on}
use Rattle.pl_desc.proofs.RowLemmas.{pid_in}
use Rattle.pl_nodes.proofs.Keyed.{change_at-is}
use Rattle.pl_state.specs.Contents.{Contents, Nodes, IsThere, contents, core_of}
use Rattle.pl_state.specs.Sound.{IsSound, AreThere}
use Rattle.pl_state.specs.Makes.{MakesAtKeys, MayWantAtKeys}
use Rattle.pl_state.proofs.Known.{Caller}
use Rattle.pl_state.proofs.holders.There.{there-still}
use Rattle.pl_state.proofs.by_call.Begun.{ends-is}
use Rattle.pl_state.proofs.by_call.Piping.{past_end}
use Rattle.pl_state.proofs.waiting.Marking.{marked-is}
use Rattle.pl_state.proofs.waiting.Met.{met_calls, met_sound, met_held}
use Rattle.pl_naming.specs.Openings.{MayOpen}
use Rattle.pl_naming.specs.Waits.{Waits}
use Rattle.pl_naming.proofs.by_call.Unused.{unused}
use Rattle.pl_naming.proofs.by_call.OpenedNode.{free, left, opened_sound, opened_makes}
use Rattle.pl_naming.proofs.by_call.Opening.{drawn-wants, refused-makes}
use Rattle.pl_naming.proofs.by_call.Unlinking.{keyed}
use Rattle.pl_desc.specs.declared.limits.DescLimits.{DescLimits}

-- whether it can be opened is told by the counts of its ends
pub can_open-is : {A : Type 0} (k : Contents A) → IsSound A k → (p : ℕ) (mode : Mode) (flags : OpenFlags)
    → can_open (core_of {A = A} k) p mode flags ≡ opens_at_once mode (nat_lt 0 (ends_on reads k.opened (node.Pipe p))) (nat_lt 0 (ends_on writes k.opened (node.Pipe p))) (has flags.0 nonblock)
can_open-is {A} k sound p mode flags =
    λ i. opens_at_once mode ((readers-is (core_of {A = A} k) p ∙ ends-is k sound.whole reads (node.Pipe p)) i) ((writers-is (core_of {A = A} k) p ∙ ends-is k sound.whole writes (node.Pipe p)) i) (has flags.0 nonblock)

-- a pipe that is written is hung no more
abbrev pub unhung : Mode → Pipe → Pipe
unhung mode x = record x { hung = cond (writes mode) false x.hung }

-- what is there stays where only the pipe of a FIFO changes
module _ (mode : Mode) (p : ℕ) (nodes nodes' : Nodes) (pipes_are : at nodes'.pipes ≡ change_at p (unhung mode) (at nodes.pipes)) (files_are : at nodes'.files ≡ at nodes.files) where
  pub still : (n : Node) → IsThere nodes n → IsThere nodes' n
  still (node.File f) h = subst (λ (z : ℕ → Option (List ℕ)). IsSome (z f)) (sym files_are) h
  still (node.Pipe q) h = subst (λ (z : ℕ → Option Pipe). IsSome (z q)) (sym pipes_are) (by (nat_eq p q) (at nodes.pipes q) h)
    where
      by : (b : Bool) (o : Option Pipe) → IsSome o → IsSome (cond b (option_map (unhung mode) o) o)
      by true None h = h
      by true (Some y) h = refl
      by false o h = h

module _ {A : Type 0} (m : Caller A) (mode : Mode) (flags : OpenFlags) (fd p : ℕ) where
  open m use {kernel, descs, nodes, calls, limits, sound, are, pid, process}

  abbrev k : Contents A
  k = contents descs nodes calls limits

  abbrev c : Core A numbers
  c = core_of k

  abbrev end : ℕ → Core A numbers → Core A numbers
  end d s = install (describe s d (PipeNode p) mode (status_flags flags)) pid fd d

  abbrev opens : NewKeys numbers → Core A numbers
  opens new = end new.description (meet c p mode)

  abbrev waits_if : Bool → Begins A numbers
  waits_if nonblocking = refuse_if nonblocking ENXIO (await_other_end c pid p mode flags)

  abbrev opens_if : Bool → Begins A numbers
  opens_if can = cond can (Draws (λ new. Answered (opens new) (Fd (pos fd)))) (waits_if (has flags.0 nonblock))

  module _ (name : List ℕ) (may : MayOpen k pid name mode flags fd (Some (node.Pipe p))) where
    begun : (can : Bool) → can_open c p mode flags ≡ can → begin c pid (Call.OpenName name mode flags) ≡ opens_if can
    begun can is = may.begun ∙ ap opens_if is

    pub fifo-lonely : can_open c p mode flags ≡ false → has flags.0 nonblock ≡ true → MakesAtKeys k (Begin pid (Call.OpenName name mode flags)) (Fault ENXIO) k
    fifo-lonely is nonblocking = refused-makes m name mode flags ENXIO (begun false is ∙ ap waits_if nonblocking)

    pub fifo-waits : can_open c p mode flags ≡ false → has flags.0 nonblock ≡ false → Waits k pid name p mode flags
    fifo-waits is blocking = record { begun = begun false is ∙ ap waits_if blocking; few = may.few }

    pub fifo-wants : can_open c p mode flags ≡ true → MayWantAtKeys k (Begin pid (Call.OpenName name mode flags))
    fifo-wants is = drawn-wants m name mode flags fd opens (begun true is)

  module _ (least : lowest_of descs.tables (descriptor_limit limits) pid 0 ≡ Some fd) (d : ℕ) (x : Pipe) (was : at nodes.pipes p ≡ Some x) (vacant : at descs.opened d ≡ None) where
    abbrev met : Calls A
    met = met_calls kernel p mode

    abbrev place : (row_at descs.tables pid fd ≡ None) × (fd < descriptor_limit limits)
    place = free m met (met_sound kernel p mode) (met_held kernel p mode) fd least (node.Pipe p) d vacant mode (status_flags flags)

    abbrev left_by : Nodes → Core A numbers
    left_by = left m met (met_sound kernel p mode) (met_held kernel p mode) fd least (node.Pipe p) d vacant mode (status_flags flags)

    settles_so : settle c (end d (meet c p mode)) ≡ end d (set_pipe (meet c p mode) p (unhung mode x))
    unfolding core_of
    settles_so = open_meets-settled (core_of k) sound.settled p d pid fd (unused m.kernel d vacant) (pid_in descs.tables pid process).0
        (let h = (pid_in descs.tables pid process).1 in let n = ap (λ (b : DescLimits). b.processes) are.bounds in omega (arith, h, are.tidy.few, n)) process place.1 place.0 mode (status_flags flags) x was

    module _ (descs' : Descs) (nodes' : Nodes) (pids : is_pid descs'.tables ≡ is_pid descs.tables) (rows : row_at descs'.tables ≡ with_row (row_at descs.tables) pid fd (Some d))
        (opened : at descs'.opened ≡ set_at nat_eq (at descs.opened) d (Some (fresh (node.Pipe p) mode (status_flags flags)))) (pipes_are : at nodes'.pipes ≡ change_at p (unhung mode) (at nodes.pipes))
        (files_are : at nodes'.files ≡ at nodes.files) (names_are : nodes'.names ≡ nodes.names) (limits_are : nodes'.limits ≡ nodes.limits) where
      abbrev new : Contents A
      new = contents descs' nodes' met limits

      left_is : left_by nodes' ≡ end d (set_pipe (meet c p mode) p (unhung mode x))
      unfolding core_of
      left_is = λ i. end d (record c { pipes = (pipes_are ∙ change_at-is p (unhung mode) (at nodes.pipes) x was) i; files = files_are i; names = keyed (names_are i); parked = marked-is kernel p mode i })

      there : AreThere (at descs.opened) nodes'
      there = there-still (at descs.opened) nodes nodes' names_are (still mode p nodes nodes' pipes_are files_are) sound.there

      here : IsSome (at nodes'.pipes p)
      here = still mode p nodes nodes' pipes_are files_are (node.Pipe p) (subst (λ o. IsSome o) (sym was) refl)

      once : EachOnce (pointwise nat_eq) nodes'.names
      once = subst (EachOnce (pointwise nat_eq)) (sym names_are) sound.once

      settles : settle c (end d (meet c p mode)) ≡ left_by nodes'
      settles = settles_so ∙ sym left_is

      pub fifo_sound : IsSound A new
      fifo_sound = opened_sound m met (met_sound kernel p mode) (met_held kernel p mode) fd least (node.Pipe p) d vacant mode (status_flags flags)
          descs' nodes' pids rows opened limits_are (end d (meet c p mode)) settles there here once

      pub fifo_makes : (name : List ℕ) → MayOpen k pid name mode flags fd (Some (node.Pipe p)) → can_open c p mode flags ≡ true → MakesAtKeys k (Begin pid (Call.OpenName name mode flags)) (Fd (pos fd)) new
      fifo_makes name may can =
          opened_makes m met (met_sound kernel p mode) (met_held kernel p mode) fd least (node.Pipe p) d vacant mode (status_flags flags)
          descs' nodes' pids rows opened limits_are (end d (meet c p mode)) settles there here once
          (Call.OpenName name mode flags) (length nodes.files) (past_end nodes.files) opens (begun name may true can) refl
