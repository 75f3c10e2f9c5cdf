-- What asking the queues takes for granted, from what a kernel's state is known to be.
use Rattle.std.proofs.Common.{◌≡◌, ◌≢◌, ℕ, ℤ, ◌<◌, ◌≤◌, ◌^◌, Bool, true, false, cond, List, Option, ◌⊎◌, inl, inr, refl, sym, ◌∙◌, ap, subst, nat_eq, nat_le, arith}
use Rattle.std.specs.Prelude.{◌&&◌, is_some, IsSome, IfSome}
use Rattle.std.specs.declared.option.Option.TheVariants.{None, Some}
use Rattle.std.specs.Set.{is_member}
use Rattle.std.proofs.lemmas.Bool.Decides.{nat_tests}
use Rattle.pl_model.specs.declared.calls.Call.{Call}
use Rattle.pl_model.specs.declared.calls.Call.TheVariants as call
use Rattle.pl_model.specs.declared.flags.PollMask.{PollMask}
use Rattle.pl_model.specs.Map.{get}
use Rattle.pl_model.specs.Keys.{Node, PipeNode, FileNode}
use Rattle.pl_model.specs.State.{Core, Waiting}
use Rattle.pl_model.specs.Numbered.{numbers}
use Rattle.pl_model.specs.Waking.{progresses, can_progress}
use Rattle.pl_model.proofs.touching.SameAt.{IsThereAt}
use Rattle.pl_model.proofs.touching.Parked.{member_has}
use Rattle.pl_desc.specs.Rows.{at}
use Rattle.pl_least.specs.None.{none}
use Rattle.pl_waiters.specs.declared.waiter.Waiter.{Waiter}
use Rattle.pl_waiters.specs.declared.waiters.Waiters.{Waiters}
use Rattle.pl_waiters.specs.Queue.{waiter}
use Rattle.pl_waiters.specs.Seen.{stands}
use Rattle.pl_state.specs.Contents.{Contents, contents, core_of}
use Rattle.pl_state.specs.Sound.{IsWaiting, KeepsNodes, Keeps, MayWait}
use Rattle.pl_state.proofs.Known.{Known, parts_of}
use Rattle.pl_state.proofs.by_call.Begun.{there}
use Rattle.pl_state.proofs.waiting.Ending.{member_there}
use Rattle.pl_state.proofs.waiting.InOrder.{order_of}
use Rattle.pl_kernel.specs.Progress.{is_ready}
use Rattle.pl_kernel.specs.ToldNodes.{key_of}
use Rattle.pl_kernel.specs.Queues.{others, answers_to, is_polls, queue_of_entry, finds, ends, places, is_place, is_placed}
use Rattle.pl_kernel.specs.Index.{is_open, Knows}
use Rattle.pl_kernel.specs.Asking.{AreUnderstood}
use Rattle.pl_kernel.proofs.index.Deciding.{polls-decide}
use Rattle.pl_kernel.proofs.index.Places.{PollPlace, finds-at, found-is}
use Rattle.pl_kernel.proofs.index.Kinds.{IsOfKind, place-kind, some-place, keeps-one, entry-polls, entry-of-file, polls-low, high-no-polls}
use Rattle.pl_kernel.proofs.index.Alike.{condition, stuck-too, decided-at}
use Rattle.pl_kernel.proofs.index.Opening.{open-poll, open-call, open-parked, ready-parked, ready-is}
use Rattle.pl_kernel.proofs.index.Known.{known}
use Rattle.pl_kernel.proofs.index.Touching.{call-found, next-is}

module _ {A : Type 0} (m : Known A) where
  open m use {descs, nodes, calls, limits, sound}

  abbrev k : Contents A
  k = contents descs nodes calls limits

  abbrev c : Core A numbers
  c = core_of k

  -- What is known of a call that waits.
  pub record IsKept (number : ℕ) (v : Waiting A numbers) : Type 0 where
    pub keeps : Keeps v.call v.kept
    pub may : MayWait v.call v.taken
    pub described : (d : ℕ) → is_member nat_eq v.kept d ≡ true → IsSome (c.descriptions d)
    -- whether it can make progress is the condition of its queue at its node
    pub decides : (key queue : ℕ) → is_place (places v.call (ends c v.kept)) key queue ≡ true → queue ≢ others → is_polls queue ≡ false → can_progress c number ≡ condition c key queue

  is-kept : (number : ℕ) (v : Waiting A numbers) → get nat_eq c.parked number ≡ Some v → IsKept number v
  is-kept number v here =
      let f = call-found k number v here in
      let waits : IsWaiting A f.0 = subst (λ o. IfSome o (IsWaiting A)) f.1 (sound.waiting number) in
      let on : KeepsNodes (at descs.opened) f.0 = subst (λ o. IfSome o (KeepsNodes (at descs.opened))) f.1 (sound.on_nodes number) in
      record {
        keeps = subst (λ (z : Waiting A numbers). Keeps z.call z.kept) f.2 waits.keeps;
        may = subst (λ (z : Waiting A numbers). MayWait z.call z.taken) f.2 waits.may;
        described = λ d member. member_has (λ d. IsSome (c.descriptions d)) v.kept ((known m).fit.kept number v here) d member;
        decides = λ key queue in_it apart no_poll.
            ap (progresses c) here
            ∙ subst (λ (z : Waiting A numbers). is_place (places z.call (ends c z.kept)) key queue ≡ true → progresses c (Some z) ≡ condition c key queue) f.2
            (decided-at k f.0 waits on (λ d member. member_there (parts_of m) number f.0 f.1 d member) key queue apart no_poll) in_it;
      }

  module _ (w : Waiters A) (knows : Knows c w) where
    -- where one stands for sure, another one of its queue does the same
    alike : (at one other a b : ℕ) → one ≢ others → one ≤ other → other ≤ answers_to one → stands w (waiter at one a) ≡ true → stands w (waiter at other b) ≡ true → IsSome (get nat_eq c.parked a) →
        is_open c (waiter at one a) ≡ false → is_open c (waiter at other b) ≡ false
    alike at one other a b apart up down there_a there_b some stuck = by (get nat_eq c.parked a) refl some (get nat_eq c.parked b) refl (is_polls one) refl
      where
        -- no other queue than of a write answers for another one
        same_or_write : (t : Bool) → (nat_le 64 one && nat_le one 4160) ≡ t → (one ≡ other) ⊎ (64 ≤ one)
        same_or_write true is = inr (let l : 64 ≤ one = grind (arith, nat_tests, is) in l)
        same_or_write false is = inl (let last : answers_to one ≡ one = ap (λ b. cond b 4160 one) is in omega (arith, up, down, last))

        same_queue : is_polls one ≡ true → one ≡ other
        same_queue polls = which (same_or_write (nat_le 64 one && nat_le one 4160) refl)
          where
            which : (one ≡ other) ⊎ (64 ≤ one) → one ≡ other
            which (inl e) = e
            which (inr l) = (let low = polls-low one polls in absurd (omega (arith, low, l)))

        no_other : is_polls one ≡ false → (is_polls other ≡ false) × (other ≢ others)
        no_other no_poll = which (same_or_write (nat_le 64 one && nat_le one 4160) refl)
          where
            which : (one ≡ other) ⊎ (64 ≤ one) → (is_polls other ≡ false) × (other ≢ others)
            which (inl e) = (ap is_polls (sym e) ∙ no_poll, λ o. apart (e ∙ o))
            which (inr l) = (high-no-polls other (omega (arith, l, up)), λ o. absurd (omega (arith, l, up, o)))

        by : (o : Option (Waiting A numbers)) → get nat_eq c.parked a ≡ o → IsSome o → (p : Option (Waiting A numbers)) → get nat_eq c.parked b ≡ p → (t : Bool) → is_polls one ≡ t → is_open c (waiter at other b) ≡ false
        by None here nobody p there t is = absurd (let no : IsSome {T = Waiting A numbers} None = nobody in cc)
        by (Some v) here is None there t e = ap (λ o. is_some o && cond (is_polls other) (finds c at other) (can_progress c b)) there
        by (Some v) here is (Some z) there true polls =
            let same : one ≡ other = same_queue polls in
            open-poll c (waiter at other b) z there (ap is_polls (sym same) ∙ polls) ∙ ap (finds c at) (sym same) ∙ sym (open-poll c (waiter at one a) v here polls) ∙ stuck
        by (Some v) here is (Some z) there false no_poll =
            let off = no_other no_poll in
            let one_kept = is-kept a v here in
            let other_kept = is-kept b z there in
            let closed : condition c at one ≡ false = sym (one_kept.decides at one (knows.right (waiter at one a) there_a v here) apart no_poll) ∙ sym (open-call c (waiter at one a) v here no_poll) ∙ stuck in
            open-call c (waiter at other b) z there off.0 ∙ other_kept.decides at other (knows.right (waiter at other b) there_b z there) off.1 off.0 ∙ stuck-too c at one other up down closed

    -- a poll that finds something of a node can get on
    found-ready : (number key queue : ℕ) (v : Waiting A numbers) → get nat_eq c.parked number ≡ Some v → (entries : List (ℤ × PollMask)) (wait : Bool) → v.call ≡ call.Poll entries wait → PollPlace c entries v.kept key queue → finds c key queue ≡ true → can_progress c number ≡ true
    found-ready number key queue v here entries wait is p found =
        let i = is-kept number v here in
        let may = subst (λ (x : Call A). MayWait x v.taken) is i.may in
        ap (progresses c) here ∙ polls-decide c v entries wait is may.0 ∙ p.counts (found-is c p.end.d p.end.x p.asked p.end.here ∙ (λ j. finds c (p.end.at j) (p.of j)) ∙ found)

    sound-of : (key : Waiter) → stands w key ≡ true → is_open c key ≡ true → is_ready c key.number ≡ true
    sound-of key there opens = (let v = open-parked c key opens in by v.0 v.1 (is_polls key.queue) refl (place-kind c v.0.call v.0.kept key.node key.queue (knows.right key there v.0 v.1)))
      where
        by : (v : Waiting A numbers) → get nat_eq c.parked key.number ≡ Some v → (t : Bool) → is_polls key.queue ≡ t → IsOfKind c v.call v.kept key.node key.queue → is_ready c key.number ≡ true
        by v here false no_poll kind = ready-is c key.number v here ∙ sym (open-call c key v here no_poll) ∙ opens
        by v here true polls (inl p) = ready-is c key.number v here ∙ found-ready key.number key.node key.queue v here p.0 p.1 p.2 p.3 (sym (open-poll c key v here polls) ∙ opens)
        by v here true polls (inr n) = absurd (let no : false ≡ true = sym n.apart.0 ∙ polls in cc)

    some-of : (n : ℕ) → is_ready c n ≡ true → n < w.looked → (key : Waiter) × (key.number ≡ n) × (stands w key ≡ true) × (is_open c key ≡ true)
    some-of n ready low = (let v = ready-parked c n ready in by v.0 v.1 v.0.call refl)
      where
        can : (v : Waiting A numbers) → get nat_eq c.parked n ≡ Some v → can_progress c n ≡ true
        can v here = sym (ready-is c n v here) ∙ ready

        Somewhere : Type 0
        Somewhere = (key : Waiter) × (key.number ≡ n) × (stands w key ≡ true) × (is_open c key ≡ true)

        single : (v : Waiting A numbers) → get nat_eq c.parked n ≡ Some v → ((entries : List (ℤ × PollMask)) (wait : Bool) → v.call ≡ call.Poll entries wait → ⊥) → Somewhere
        single v here off =
            let i = is-kept n v here in
            let d = keeps-one v.call v.kept i.keeps off in
            let x = there (c.descriptions d.0) (i.described d.0 d.1) in
            let q = some-place c v.kept i.described d.0 x.0 d.1 x.1 v.call i.keeps off in
            (waiter (key_of x.0.node) q.0 n, refl, knows.placed (waiter (key_of x.0.node) q.0 n) v here low q.1, open-call c (waiter (key_of x.0.node) q.0 n) v here q.2.0 ∙ can v here)

        polled : (v : Waiting A numbers) → get nat_eq c.parked n ≡ Some v → (entries : List (ℤ × PollMask)) (wait : Bool) → v.call ≡ call.Poll entries wait → Somewhere
        polled v here entries wait is =
            let i = is-kept n v here in
            let may = subst (λ (x : Call A). MayWait x v.taken) is i.may in
            let all = subst (λ (x : Call A). is_placed x (ends c v.kept) ≡ true) is (knows.whole n v here low) in
            let f = finds-at c entries v.kept i.described all (sym (ap (progresses c) here ∙ polls-decide c v entries wait is may.0) ∙ can v here) in
            let q = queue_of_entry f.x.node f.x.mode f.asked in
            let key = waiter (key_of f.x.node) q n in
            (key, refl, knows.placed key v here low (ap (λ x. is_place (places x (ends c v.kept)) (key_of f.x.node) q) is ∙ f.place), open-poll c key v here (entry-polls f.x.node f.x.mode f.asked) ∙ sym (found-is c f.d f.x f.asked f.here) ∙ f.found)

        no_poll_or : (v : Waiting A numbers) → get nat_eq c.parked n ≡ Some v → (x : Call A) → v.call ≡ x → ((entries : List (ℤ × PollMask)) (wait : Bool) → x ≡ call.Poll entries wait → ⊥) → Somewhere
        no_poll_or v here x is off = single v here (λ entries wait e. off entries wait (sym is ∙ e))

        by : (v : Waiting A numbers) → get nat_eq c.parked n ≡ Some v → (x : Call A) → v.call ≡ x → Somewhere
        by v here (call.Poll entries wait) is = polled v here entries wait is
        by v here x is = no_poll_or v here x is (λ entries wait e. cc)

    there-of : (key : Waiter) → stands w key ≡ true → IsSome (get nat_eq c.parked key.number) → is_polls key.queue ≡ true → 20 ≤ key.queue → IsSome (c.pipes key.node)
    there-of key there some polls high = by (get nat_eq c.parked key.number) refl some
      where
        at_node : (node : Node numbers) → key_of node ≡ key.node → IsThereAt c node → ((g : ℕ) → node ≡ FileNode g → ⊥) → IsSome (c.pipes key.node)
        at_node (PipeNode p) same some off = subst (λ p. IsSome (c.pipes p)) same some
        at_node (FileNode g) same some off = absurd (off g refl)

        on : (v : Waiting A numbers) → IsOfKind c v.call v.kept key.node key.queue → IsSome (c.pipes key.node)
        on v (inr n) = absurd (let no : false ≡ true = sym n.apart.0 ∙ polls in cc)
        on v (inl p) =
            let e = p.3.end in
            at_node e.x.node e.at ((known m).fit.there e.d e.x e.here)
            (λ g is. (let low = entry-of-file g e.x.mode p.3.asked in let same : queue_of_entry (FileNode g) e.x.mode p.3.asked ≡ key.queue = ap (λ node. queue_of_entry node e.x.mode p.3.asked) (sym is) ∙ p.3.of in absurd (omega (arith, low, same, high))))

        by : (o : Option (Waiting A numbers)) → get nat_eq c.parked key.number ≡ o → IsSome o → IsSome (c.pipes key.node)
        by None here nobody = absurd (let no : IsSome {T = Waiting A numbers} None = nobody in cc)
        by (Some v) here is = on v (place-kind c v.call v.kept key.node key.queue (knows.right key there v here))

    fits-of : (key : Waiter) → stands w key ≡ true → IsSome (get nat_eq c.parked key.number) → key.queue < 2 ^ 64
    fits-of key there some = by (get nat_eq c.parked key.number) refl some
      where
        on : (v : Waiting A numbers) → IsOfKind c v.call v.kept key.node key.queue → key.queue < 2 ^ 64
        on v (inr n) = n.apart.1
        on v (inl p) = (let low = polls-low key.queue (ap is_polls (sym p.3.of) ∙ entry-polls p.3.end.x.node p.3.end.x.mode p.3.asked) in omega (arith, low))

        by : (o : Option (Waiting A numbers)) → get nat_eq c.parked key.number ≡ o → IsSome o → key.queue < 2 ^ 64
        by None here nobody = absurd (let no : IsSome {T = Waiting A numbers} None = nobody in cc)
        by (Some v) here is = on v (place-kind c v.call v.kept key.node key.queue (knows.right key there v here))

    below-of : (n : ℕ) → is_ready c n ≡ true → n < none
    below-of n ready = (let v = ready-parked c n ready in let low = (order_of k sound).below n v.0 v.1 in let next = next-is k in let most = sound.numbered in omega (arith, low, next, most))

    understood : AreUnderstood c w
    understood = record { alike = alike; sound = sound-of; some = some-of; there = there-of; fits = fits-of; below = below-of }

-- The same of what the parts come to.
module _ {A : Type 0} (s : Contents A) (m : Known A) (is : contents m.descs m.nodes m.calls m.limits ≡ s) where
  pub understood-in : (w : Waiters A) → Knows (core_of s) w → AreUnderstood (core_of s) w
  understood-in = subst (λ (z : Contents A). (w : Waiters A) → Knows (core_of z) w → AreUnderstood (core_of z) w) is (understood m)
