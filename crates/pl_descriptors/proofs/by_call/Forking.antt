-- What a fork comes to at the kernel's keys.
use Rattle.std.proofs.Common.{◌≡◌, ℕ, true, Option, Some, None, refl, sym, ◌∙◌, ap, inl, inr, nat_eq}
use Rattle.std.proofs.Math.Path.{fun_ext}
use Rattle.std.specs.Prelude.{if◌then◌else◌}
use Rattle.std.proofs.lemmas.Bool.{eq-eqb, ne_eqb}
use Rattle.std.proofs.lemmas.Bool.Decides.{eqb_tells}
use Rattle.pl_model.specs.declared.calls.Call.{Call}
use Rattle.pl_model.specs.declared.calls.Step.{Step}
use Rattle.pl_model.specs.declared.calls.Step.TheVariants.{Begin}
use Rattle.pl_model.specs.declared.replies.Reply.TheVariants.{Pid, Fault}
use Rattle.pl_model.specs.declared.replies.Errno.TheVariants.{EAGAIN}
use Rattle.pl_model.specs.Map.{set_at}
use Rattle.pl_model.specs.State.{Core}
use Rattle.pl_model.specs.Settle.{settle}
use Rattle.pl_model.specs.Trial.{found, answered}
use Rattle.pl_model.specs.Tables.{lowest_pid, fork}
use Rattle.pl_model.specs.Begin.{begin_fork}
use Rattle.pl_model.specs.Step.{begin, ended, stepped}
use Rattle.pl_model.specs.Numbered.{numbers}
use Rattle.pl_desc.specs.Rows.{at, is_pid, row_at, free_pid, with_rows_of, count_at}
use Rattle.pl_desc.specs.Descs.{Descs, IsTidy}
use Rattle.pl_state.specs.Contents.{Contents, contents, core_of}
use Rattle.pl_state.specs.Sound.{IsSound, AreCounted}
use Rattle.pl_state.specs.Makes.{MakesAtKeys, MayWantAtKeys}
use Rattle.pl_state.proofs.Known.{Caller}
use Rattle.pl_state.proofs.by_call.Begun.{does_plain, does_same, wants_plain, step-refused, step-answered}
use Rattle.pl_state.proofs.holders.Belonging.{belong-more}
use Rattle.pl_state.proofs.holders.Staying.{stays-settled, stays-sound}
use Rattle.pl_desc.specs.declared.limits.DescLimits.{DescLimits}

module _ {A : Type 0} (m : Caller A) where
  open m use {kernel, descs, nodes, calls, limits, sound, are, pid, process}

  abbrev k : Contents A
  k = contents descs nodes calls limits

  abbrev c : Core A numbers
  c = core_of k

  abbrev call : Call A
  call = Call.Fork

  abbrev x : Step A
  x = Begin pid call

  came : (o : Option ℕ) → free_pid descs.tables descs.limits.processes ≡ o → begin c pid call ≡ found o EAGAIN (λ child. answered (fork c pid child) (Pid child))
  unfolding begin begin_fork lowest_pid core_of
  came o e = ap (λ o. found o EAGAIN (λ child. answered (fork (core_of k) pid child) (Pid child))) (ap (λ (b : DescLimits). free_pid descs.tables b.processes) (sym are.bounds) ∙ e)

  pub fork-full : free_pid descs.tables descs.limits.processes ≡ None → MakesAtKeys k x (Fault EAGAIN) k
  fork-full full = does_same k sound x (stepped c (Fault EAGAIN)) (Fault EAGAIN) (step-refused k pid call process EAGAIN (came None full)) refl refl

  pub fork-may : (free_pid descs.tables descs.limits.processes ≡ None → ⊥) → MayWantAtKeys {A = A} k x
  fork-may free = by (free_pid descs.tables descs.limits.processes) refl
    where
      by : (o : Option ℕ) → free_pid descs.tables descs.limits.processes ≡ o → MayWantAtKeys {A = A} k x
      by None e = absurd (free e)
      by (Some child) e = wants_plain k k x _ (step-answered k pid call process (fork c pid child) (Pid child) (came (Some child) e)) refl

  module _ (child : ℕ) (free : free_pid descs.tables descs.limits.processes ≡ Some child) (descs' : Descs) (pids : is_pid descs'.tables ≡ set_at nat_eq (is_pid descs.tables) child true)
      (rows : row_at descs'.tables ≡ with_rows_of (row_at descs.tables) pid child) (rest : descs' ≡ record descs { tables = descs'.tables; room = descs'.room }) (tidy : IsTidy descs') where
    abbrev new : Contents A
    new = contents descs' nodes calls limits

    pub fork-held : AreCounted A limits descs' calls.calls
    fork-held = record { tidy = tidy; bounds = ap (λ z. z.limits) rest ∙ are.bounds; counted = λ d. ap (λ z. count_at z.loose d) rest ∙ are.counted d }

    rows_are : with_rows_of (row_at descs.tables) pid child ≡ set_at nat_eq (row_at descs.tables) child (row_at descs.tables pid)
    rows_are = fun_ext at_q
      where
        at_q : (q : ℕ) → with_rows_of (row_at descs.tables) pid child q ≡ set_at nat_eq (row_at descs.tables) child (row_at descs.tables pid) q
        at_q q = elim (eqb_tells q child) as (λ _. with_rows_of (row_at descs.tables) pid child q ≡ set_at nat_eq (row_at descs.tables) child (row_at descs.tables pid) q) [
          | inl t ↦
              (λ i. λ k. if t.0 i then row_at descs.tables pid k else row_at descs.tables q k)
              ∙ sym (ap (λ b. if b then row_at descs.tables pid else row_at descs.tables q) (eq-eqb child q (sym t.1)))
          | inr t ↦
              (λ i. λ k. if t.0 i then row_at descs.tables pid k else row_at descs.tables q k)
              ∙ sym (ap (λ b. if b then row_at descs.tables pid else row_at descs.tables q) (ne_eqb child q (λ e. t.1 (sym e))))
        ]

    is : core_of new ≡ fork c pid child
    unfolding core_of
    is = λ i. record (core_of new) { processes = pids i; rows = (rows ∙ rows_are) i; descriptions = (core_of (contents (rest i) nodes calls limits)).descriptions }

    pub fork-forks : MakesAtKeys k x (Pid child) new
    fork-forks = does_plain k new x (ended c (stepped (fork c pid child) (Pid child))) (Pid child) (step-answered k pid call process (fork c pid child) (Pid child) (came (Some child) free)) refl
        (sym (stays-settled kernel descs' (ap (λ z. at z.opened) rest) fork-held) ∙ ap (settle c) is)

    pub fork-sound : IsSound A new
    fork-sound = stays-sound kernel descs' (ap (λ z. at z.opened) rest) fork-held (belong-more calls.calls (is_pid descs.tables) (is_pid descs'.tables) sound.belong child pids)
