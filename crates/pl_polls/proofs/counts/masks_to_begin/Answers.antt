use Rattle.std.proofs.Common.{◌≡◌, true, false, sym, ap, ◌∙◌, length, arith}
use Rattle.std.specs.Prelude.{nat_lt, if◌then◌else◌, ◌||◌, not}
use Rattle.std.specs.List.{list_any}
use Rattle.pl_model.proofs.settling.Members.{or_right}
use Rattle.std.proofs.lemmas.Bool.{lt-ltb, le-ltb}
use Rattle.pl_model.specs.Tables.{entry_limit}
use Rattle.pl_model.specs.Begin.{named_by}
use Rattle.pl_model.specs.Poll.{masks, is_ready}
use Rattle.pl_state.specs.Contents.{Contents, core_of}
use Rattle.pl_polls.specs.Counts.{masks_if_ready}
use Rattle.pl_polls.proofs.counts.masks_to_begin.Goals.{else-wait-via-then-wait+else-not-is_ready, else-wait-via-else-wait}
use Rattle.pl_polls.proofs.counts.masks_to_begin.Goals as goal

-- the machine's limit is that of the kernel
limit_is : {A : Type 0} (k : Contents A) → entry_limit (core_of {A = A} k).limits ≡ entry_limit k.limits
unfolding core_of
limit_is k = λ i. entry_limit k.limits

pub returns-then-entries-poll_entries : goal.returns-then-entries-poll_entries
returns-then-entries-poll_entries g c =
    let k = c.args.kernel.now in
    let core = core_of {A = g.row.A.Denot} k in
    let n = length c.args.entries.now in
    let over : nat_lt (entry_limit core.limits) n ≡ true =
    lt-ltb (entry_limit core.limits) n (omega (arith, limit_is k, ap (λ (z : Contents g.row.A.Denot). entry_limit z.limits) c.kernel.view_is, c.poll_entries.ensures, c.if-entries-poll_entries.true)) in
    sym (ap (λ b. if b then 0 else masks_if_ready (masks core c.args.entries.now (named_by core c.args.pid c.args.entries.now)) c.args.wait n) over)

pub returns : goal.returns
returns g c =
    let A = g.row.A.Denot in
    let k = c.args.kernel.now in
    let core = core_of {A = A} k in
    let n = length c.args.entries.now in
    let under : nat_lt (entry_limit core.limits) n ≡ false =
    le-ltb (entry_limit core.limits) n (omega (arith, limit_is k, ap (λ (z : Contents A). entry_limit z.limits) c.kernel.view_is, c.poll_entries.ensures, c.if-entries-poll_entries.false)) in
    let found = masks core c.args.entries.now (named_by core c.args.pid c.args.entries.now) in
    let ready : (list_any is_ready found || not c.args.wait) ≡ true = elim c.else-wait.branch [
      | else-wait-via-then-wait+else-not-is_ready w ↦ ap (λ b. b || not c.args.wait) (sym w.is_ready.ensures ∙ w.if-not-is_ready.false)
      | else-wait-via-else-wait w ↦ or_right (list_any is_ready found) _ (ap not w.if-wait.false)
    ] in
    sym (ap (λ b. if b then 0 else masks_if_ready found c.args.wait n) under ∙ ap (λ b. if b then n else 0) ready)
