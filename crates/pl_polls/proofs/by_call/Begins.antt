-- What a poll comes to as it begins, at the kernel's keys.
use Rattle.std.proofs.Common.{◌≡◌, ◌≢◌, ◌≤◌, ◌<◌, ℕ, ℤ, Bool, true, false, List, [], ◌∷◌, length, Option, Some, None, IfSome, refl, sym, ◌∙◌, ap, subst, nat_lt, arith, slice_index_or}
use Rattle.std.specs.Prelude.{◌||◌, ◌==◌, not, if◌then◌else◌}
use Rattle.std.specs.List.{list_any}
use Rattle.std.proofs.lemmas.Bool.{eq-eqb, lt-ltb, le-ltb}
use Rattle.pl_model.specs.declared.calls.Call.{Call}
use Rattle.pl_model.specs.declared.calls.Call.TheVariants.{Poll}
use Rattle.pl_model.specs.declared.calls.Step.{Step}
use Rattle.pl_model.specs.declared.calls.Step.TheVariants.{Begin}
use Rattle.pl_model.specs.declared.flags.PollMask.{PollMask}
use Rattle.pl_model.specs.declared.node.Node.{Node}
use Rattle.pl_model.specs.declared.node.Node.TheVariants as node
use Rattle.pl_model.specs.declared.replies.Errno.TheVariants.{EAGAIN, EINVAL}
use Rattle.pl_model.specs.declared.replies.Reply.TheVariants.{Fault, Parked, CallsSpent}
use Rattle.pl_model.specs.Numbers.{last_call, most_descriptors}
use Rattle.pl_model.specs.Keys.{Plain}
use Rattle.pl_model.specs.State.{Core, Waiting}
use Rattle.pl_model.specs.Settle.{settle}
use Rattle.pl_model.specs.Trial.{Wait, still, flowed}
use Rattle.pl_model.specs.Poll.{masks_reply, is_ready}
use Rattle.pl_model.specs.Step.{Stepped, core_step, ended, first_tried, stepped, waiting, parked}
use Rattle.pl_model.specs.Numbered.{numbers}
use Rattle.pl_model.proofs.by_call.Polls.{found_now, kept_now, few-kept, poll-refused, poll-answered}
use Rattle.pl_model.proofs.by_call.Polls.{poll-waits as machine-waits}
use Rattle.pl_parked.specs.declared.call.ParkedCall.{ParkedCall}
use Rattle.pl_desc.specs.Rows.{at}
use Rattle.pl_desc.specs.Descs.{Opened}
use Rattle.pl_state.specs.Contents.{Contents, contents, core_of, lets_wait}
use Rattle.pl_state.specs.Sound.{IsWaiting, IsAt, MayKeepFile, MayGo, GoApart, KeepsNodes, MayKeep}
use Rattle.pl_state.specs.Parking.{with_call}
use Rattle.pl_state.specs.Makes.{MakesAtKeys, MayWantAtKeys, ParksAtKeys}
use Rattle.pl_state.proofs.Known.{Caller}
use Rattle.pl_state.proofs.by_call.Begun.{does_plain, does_same, wants_plain, parks_plain, can_wait-is}
use Rattle.pl_state.proofs.by_call.Moving.{flowed-still}
use Rattle.pl_state.proofs.waiting.ParkedCalls.{call_settles}
use Rattle.pl_polls.specs.Waiting.{poll_of}
use Rattle.pl_polls.proofs.by_call.Naming.{keys-is, keys-open}
use Rattle.pl_model.specs.Tables.{entry_limit}

-- a poll may wait on any nodes
module _ {A : Type 0} (opened : ℕ → Option Opened) (w : ParkedCall A) (entries : List (ℤ × PollMask)) (wait : Bool) (is : w.call ≡ Poll entries wait) where
  may_keep : (n : Node) → MayKeep w n
  may_keep (node.Pipe p) = subst (λ x. IsAt x w.fifo p) (sym is) tt
  may_keep (node.File f) = subst (λ x. MayKeepFile x) (sym is) tt

  on_node : (o : Option Opened) → IfSome o (λ o. MayKeep w o.node)
  on_node None = tt
  on_node (Some o) = may_keep o.node

  abbrev poll : Call A
  poll = Poll entries wait

  apart : (kept : List ℕ) → GoApart opened poll kept
  apart [] = tt
  apart (a ∷ []) = tt
  apart (a ∷ b ∷ []) = by (opened a) (opened b)
    where
      by : (x y : Option Opened) → IfSome x (λ x. IfSome y (λ y. MayGo poll x.node y.node))
      by None y = tt
      by (Some x) None = tt
      by (Some x) (Some y) = tt
  apart (a ∷ b ∷ c ∷ rest) = tt

  pub keeps_any : KeepsNodes opened w
  keeps_any = record { on = λ i d l. on_node (opened (slice_index_or w.kept i d)); apart = subst (λ x. GoApart opened x w.kept) (sym is) (apart w.kept) }

module _ {A : Type 0} (m : Caller A) (entries : List (ℤ × PollMask)) where
  open m use {kernel, sound, pid, process}

  abbrev k : Contents A
  k = contents m.descs m.nodes m.calls m.limits

  abbrev c : Core A numbers
  c = core_of k

  abbrev found : List PollMask
  found = found_now c pid entries

  there : c.processes pid ≡ true
  unfolding core_of
  there = process

  -- more entries than a poll may have
  pub poll-many : (wait : Bool) → entry_limit m.limits < length entries → MakesAtKeys k (Begin pid (Poll entries wait)) (Fault EINVAL) k
  unfolding core_of
  poll-many wait many =
      let over : nat_lt (entry_limit m.limits) (length entries) ≡ true = lt-ltb (entry_limit m.limits) (length entries) many in
      does_same k sound (Begin pid (Poll entries wait)) (stepped c (Fault EINVAL)) (Fault EINVAL) (poll-refused c pid entries wait there over) refl refl

  -- what a poll that is parked waits with
  abbrev kept : ParkedCall A
  kept = poll_of k.tables pid entries

  pub poll_may_wait : length entries ≤ most_descriptors → IsWaiting A kept
  poll_may_wait few = let short = subst (λ ds. length ds ≤ length entries) (keys-is kernel pid entries) (few-kept c pid entries) in record { few = omega (arith, few, short); keeps = tt; may = (refl, few) }

  module _ (few : length entries ≤ entry_limit m.limits) where
    not_over : nat_lt (entry_limit c.limits) (length entries) ≡ false
    unfolding core_of
    not_over = le-ltb (entry_limit m.limits) (length entries) few

    -- it is answered
    module _ (wait : Bool) (ends : (list_any is_ready found || not wait) ≡ true) where
      answers : core_step c (Begin pid (Poll entries wait)) ≡ Plain (ended c (stepped c (masks_reply found)))
      answers = poll-answered c pid entries wait there not_over ends

      pub poll-answers : MakesAtKeys k (Begin pid (Poll entries wait)) (masks_reply found) k
      poll-answers = does_same k sound (Begin pid (Poll entries wait)) (stepped c (masks_reply found)) (masks_reply found) answers refl refl

      pub poll-answers-wants : MayWantAtKeys k (Begin pid (Poll entries wait))
      poll-answers-wants = wants_plain k k (Begin pid (Poll entries wait)) _ answers refl

    -- or it waits
    module _ (none : list_any is_ready found ≡ false) where
      abbrev x : Step A
      x = Begin pid (Poll entries true)

      abbrev w : Waiting A numbers
      w = waiting pid (Poll entries true) (kept_now c pid entries) false

      abbrev becomes : Core A numbers → Bool → Stepped A numbers
      becomes s spent = if spent then stepped c CallsSpent else record { state = parked s w; reply = Parked k.calls.next; flow = still }

      -- what becomes of it, where one call more may wait or not
      abbrev tried_if : Bool → Stepped A numbers
      tried_if can = first_tried c w can (Wait c still 0)

      tries : (can : Bool) → lets_wait k pid ≡ can → core_step c x ≡ Plain (ended c (tried_if can))
      tries can is = machine-waits c pid entries true there not_over none refl ∙ ap (λ b. Plain (ended c (tried_if b))) (can_wait-is k pid ∙ is)

      pub poll-crowded : lets_wait k pid ≡ false → MakesAtKeys k x (Fault EAGAIN) k
      poll-crowded full = does_same k sound x (stepped c (Fault EAGAIN)) (Fault EAGAIN) (tries false full) refl refl

      waits : lets_wait k pid ≡ true → (spent : Bool) → (k.calls.next == last_call) ≡ spent → core_step c x ≡ Plain (ended c (becomes c spent))
      unfolding core_of
      waits can spent is =
          tries true can
          ∙ ap (λ b. Plain (ended c (becomes (flowed c still) b))) is ∙ ap (λ s. Plain (ended c (becomes s spent))) (flowed-still k)

      pub poll-spent : lets_wait k pid ≡ true → (k.calls.next == last_call) ≡ true → MakesAtKeys k x CallsSpent k
      poll-spent can spent = does_same k sound x (stepped c CallsSpent) CallsSpent (waits can true spent) refl refl

      module _ (can : lets_wait k pid ≡ true) (left : (k.calls.next == last_call) ≡ false) where
        pub poll-waits-wants : MayWantAtKeys k x
        poll-waits-wants = wants_plain k k x _ (waits can false left) refl

        pub poll-waits-parks : ParksAtKeys k x
        poll-waits-parks = parks_plain k k x _ (waits can false left) refl

        pub poll-parks : MakesAtKeys k x (Parked k.calls.next) (with_call k kept)
        poll-parks = does_plain k (with_call k kept) x _ (Parked k.calls.next) (waits can false left) refl
            (call_settles k sound kept (poll_may_wait (omega (arith, few))) (keys-open kernel pid entries) not_last (keeps_any (at k.opened) kept entries true refl) process
            ∙ ap (λ ds. settle c (parked c (waiting pid (Poll entries true) ds false))) (sym (keys-is kernel pid entries)))
          where
            not_last : k.calls.next ≢ last_call
            not_last same = let t : true ≡ false = sym (eq-eqb k.calls.next last_call same) ∙ left in cc
