-- What a start comes to at the kernel's keys, and a new kernel.
use Rattle.std.proofs.Common.{◌≡◌, ℕ, ◌≤◌, Bool, true, false, List, [], Option, Some, None, refl, sym, ◌∙◌, ap, subst, nat_eq, nat_lt, arith}
use Rattle.std.specs.Prelude.{if◌then◌else◌, is_some}
use Rattle.pl_model.specs.declared.calls.Limits.{Limits}
use Rattle.pl_model.specs.declared.calls.Step.{Step}
use Rattle.pl_model.specs.declared.calls.Step.TheVariants.{Start}
use Rattle.pl_model.specs.declared.replies.Reply.TheVariants.{Pid, Fault}
use Rattle.pl_model.specs.declared.replies.Errno.TheVariants.{EAGAIN}
use Rattle.pl_model.specs.Numbers.{last_call}
use Rattle.pl_model.specs.Map.{set_at}
use Rattle.pl_model.specs.Keys.{Plain}
use Rattle.pl_model.specs.State.{Core}
use Rattle.pl_model.specs.Settle.{settle}
use Rattle.pl_model.specs.Tables.{lowest_pid, start}
use Rattle.pl_model.specs.Step.{core_step, happen, ended, stepped, started}
use Rattle.pl_model.specs.Numbered.{numbers, opening}
use Rattle.pl_model.specs.Renaming.{Renaming, rename}
use Rattle.pl_model.proofs.settling.Sound.{opening-settled}
use Rattle.pl_model.proofs.streams.StreamRuns.{opening_below}
use Rattle.pl_desc.specs.Rows.{at, table_of, rows_in, is_pid, row_at, free_pid, count_at}
use Rattle.pl_desc.specs.Descs.{Descs, IsTidy}
use Rattle.pl_nodes.specs.Nodes.{Memory}
use Rattle.pl_state.specs.Contents.{Contents, contents, node_limits, core_of, desc_limits}
use Rattle.pl_state.specs.Sound.{IsSound, AreCounted}
use Rattle.pl_state.specs.Makes.{MakesAtKeys, MayWantAtKeys, Stands}
use Rattle.pl_state.proofs.Known.{Known}
use Rattle.pl_state.proofs.by_call.Begun.{does_plain, does_same, wants_plain}
use Rattle.pl_state.proofs.holders.Belonging.{belong-more}
use Rattle.pl_state.proofs.holders.Staying.{stays-settled, stays-sound}
use Rattle.pl_desc.specs.declared.limits.DescLimits.{DescLimits}

module _ {A : Type 0} (m : Known A) where
  open m use {descs, nodes, calls, limits, sound, are}

  abbrev k : Contents A
  k = contents descs nodes calls limits

  abbrev c : Core A numbers
  c = core_of k

  abbrev x : Step A
  x = Start

  came : (o : Option ℕ) → free_pid descs.tables descs.limits.processes ≡ o → core_step c x ≡ Plain (ended c (started c o))
  unfolding core_step happen lowest_pid core_of
  came o e = ap (λ o. Plain (ended c (started c o))) (ap (λ (b : DescLimits). free_pid descs.tables b.processes) (sym are.bounds) ∙ e)

  pub start-full : free_pid descs.tables descs.limits.processes ≡ None → MakesAtKeys k x (Fault EAGAIN) k
  start-full full = does_same k sound x (stepped c (Fault EAGAIN)) (Fault EAGAIN) (came None full) refl refl

  pub start-may : (free_pid descs.tables descs.limits.processes ≡ None → ⊥) → MayWantAtKeys {A = A} k x
  start-may free = by (free_pid descs.tables descs.limits.processes) refl
    where
      by : (o : Option ℕ) → free_pid descs.tables descs.limits.processes ≡ o → MayWantAtKeys {A = A} k x
      by None e = absurd (free e)
      by (Some pid) e = wants_plain k k x _ (came (Some pid) e) refl

  module _ (pid : ℕ) (free : free_pid descs.tables descs.limits.processes ≡ Some pid) where
    module _ (descs' : Descs) (pids : is_pid descs'.tables ≡ set_at nat_eq (is_pid descs.tables) pid true) (rows : row_at descs'.tables ≡ row_at descs.tables)
        (rest : descs' ≡ record descs { tables = descs'.tables; room = descs'.room }) (tidy : IsTidy descs') where
      abbrev new : Contents A
      new = contents descs' nodes calls limits

      pub start-held : AreCounted A limits descs' calls.calls
      start-held = record { tidy = tidy; bounds = ap (λ z. z.limits) rest ∙ are.bounds; counted = λ d. ap (λ z. count_at z.loose d) rest ∙ are.counted d }

      is : core_of new ≡ start c pid
      unfolding core_of
      is = λ i. record (core_of (contents (rest i) nodes calls limits)) { processes = pids i; rows = rows i }

      pub start-starts : MakesAtKeys k x (Pid pid) new
      start-starts = does_plain k new x _ (Pid pid) (came (Some pid) free) refl (sym (stays-settled m descs' (ap (λ z. at z.opened) rest) start-held) ∙ ap (settle c) is)

      pub start-sound : IsSound A new
      start-sound = stays-sound m descs' (ap (λ z. at z.opened) rest) start-held (belong-more calls.calls (is_pid descs.tables) (is_pid descs'.tables) sound.belong pid pids)

-- a new kernel
abbrev nothing : {A : Type 0} → Memory → Limits → Contents A
nothing memory limits = record { tables = []; opened = []; nodes = record { pipes = []; files = []; names = []; limits = node_limits limits; memory = memory }; calls = record { calls = []; next = limits.first_call }; limits = limits }

no_table : (pid : ℕ) → table_of [] pid ≡ None
no_table pid = by (nat_lt 0 pid)
  where
    by : (b : Bool) → ◌≡◌ {A = Option (List (Option ℕ))} (if b then None else None) None
    by true = refl
    by false = refl

abbrev same : Renaming
same = record { to = λ x. x; back = λ x. x; to-back = λ x. refl; back-to = λ x. refl }

module _ (A : Type 0) (memory : Memory) (limits : Limits) where
  core-nothing : core_of {A = A} (nothing memory limits) ≡ (opening {A = A} limits).core
  unfolding core_of
  core-nothing = λ i. record {
    processes = λ pid. is_some (no_table pid i);
    rows = λ pid fd. at (rows_in (no_table pid i)) fd;
    descriptions = λ d. None;
    pipes = λ p. None;
    files = λ f. None;
    names = [];
    parked = [];
    next_call = limits.first_call;
    limits = limits;
  }

  pub sound_nothing : limits.first_call ≤ last_call → IsSound A (nothing memory limits)
  sound_nothing few = record {
    whole = record {
      rise = omega arith;
      numbered = few;
      there = record { described = λ d. tt; named = λ k e l. absurd (omega (arith, l)) };
      limit = refl;
      once = tt;
      settled = subst (λ c. settle c c ≡ c) (sym core-nothing) (opening-settled limits);
    };
    waiting = λ number. tt;
    belong = λ number. tt;
    on_nodes = λ number. tt;
  }

  pub held_nothing : (descs : Descs) → descs.loose ≡ [] → descs.limits ≡ desc_limits limits → IsTidy descs → AreCounted A limits descs []
  held_nothing descs none bounds tidy = record { tidy = tidy; bounds = bounds; counted = λ d. ap (λ xs. count_at xs d) none }

  pub stands_nothing : Stands (nothing memory limits) (opening {A = A} limits)
  stands_nothing = record {
    numbered = record { description = same; pipe = same; file = same };
    renamed = renamed;
    below = opening_below limits;
  }
    where
      renamed : rename (record { description = same; pipe = same; file = same }) (core_of {A = A} (nothing memory limits)) ≡ (opening {A = A} limits).core
      renamed = ap (rename (record { description = same; pipe = same; file = same })) core-nothing
