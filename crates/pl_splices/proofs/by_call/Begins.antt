-- What the first try of a splice or a tee comes to, once its checks are passed.
use Rattle.std.proofs.Common.{◌≡◌, ◌≢◌, ℕ, Bool, true, false, [], ◌∷◌, Some, None, IfSome, IsSome, refl, sym, ◌∙◌, ap, subst, arith}
use Rattle.std.specs.Prelude.{not, ◌&&◌}
use Rattle.pl_model.specs.declared.calls.Call.{Call}
use Rattle.pl_model.specs.declared.calls.Call.TheVariants as call
use Rattle.pl_model.specs.declared.calls.Step.{Step}
use Rattle.pl_model.specs.declared.calls.Step.TheVariants.{Begin}
use Rattle.pl_model.specs.declared.node.Node.{Node}
use Rattle.pl_model.specs.declared.node.Node.TheVariants as node
use Rattle.pl_model.specs.declared.replies.Reply.{Reply}
use Rattle.pl_model.specs.declared.replies.Reply.TheVariants.{Parked}
use Rattle.pl_model.specs.Keys.{Plain}
use Rattle.pl_model.specs.State.{Core, Waiting, can_wait}
use Rattle.pl_model.specs.Settle.{settle}
use Rattle.pl_model.specs.Trial.{Trial, Done, Wait, tried, still, flowed}
use Rattle.pl_model.specs.Transfer.{count}
use Rattle.pl_model.specs.Step.{begin, core_step, ended, stepped, first_tried, waiting, parked}
use Rattle.pl_model.specs.Numbered.{numbers}
use Rattle.pl_parked.specs.declared.call.ParkedCall.{ParkedCall}
use Rattle.pl_desc.specs.Rows.{at}
use Rattle.pl_state.specs.Contents.{Contents, contents, core_of}
use Rattle.pl_state.specs.Sound.{IsPipe, IsWaiting, AreApart, MayGo, MayKeep, KeepsNodes, Keeps, MayWait}
use Rattle.pl_state.specs.Parking.{refusal_in, with_call}
use Rattle.pl_state.specs.Makes.{MakesAtKeys, MayWantAtKeys}
use Rattle.pl_state.proofs.Known.{Caller}
use Rattle.pl_state.proofs.by_call.Begun.{does_plain, does_same, wants_plain, step-tried}
use Rattle.pl_state.proofs.by_call.Moving.{flowed-still}
use Rattle.pl_state.proofs.holders.OnNodes.{keeps-two}
use Rattle.pl_state.proofs.waiting.ParkedCalls.{call_settles}
use Rattle.pl_transfers.proofs.by_call.Refusing.{refused, parks, is_left}
use Rattle.pl_splices.specs.declared.sides.Side.{Side}
use Rattle.pl_splices.specs.Moves.{Goes, IsMove, trial, Ends, WouldMove, call_between}
use Rattle.pl_splices.proofs.Resembling.{resembling-settled}
use Rattle.pl_splices.proofs.by_call.Trying.{say_one, move-tries}
use Rattle.pl_splices.proofs.by_call.Parking.{either_one}

-- a call that moves bytes waits with both descriptions kept
module _ {A : Type 0} (from to : Side) (len : ℕ) (is_tee : Bool) where
  abbrev pub between : ℕ → Call A → ParkedCall A
  between pid x = call_between from.key to.key pid x

  keeps_both : (x : Call A) → IsMove x from to len is_tee → Keeps x (from.key ∷ to.key ∷ [])
  keeps_both (call.Splice a f b g n flags) asks = (from.key, to.key, refl)
  keeps_both (call.Tee a b n flags) asks = (from.key, to.key, refl)
  keeps_both other asks = absurd asks

  may_wait : (x : Call A) → IsMove x from to len is_tee → len ≢ 0 → MayWait x 0
  may_wait (call.Splice a f b g n flags) asks some = (refl, omega (arith, some, asks.2))
  may_wait (call.Tee a b n flags) asks some = (refl, omega (arith, some, asks.2))
  may_wait other asks some = absurd asks

  pub move_waits : (pid : ℕ) (x : Call A) → IsMove x from to len is_tee → len ≢ 0 → IsWaiting A (between pid x)
  move_waits pid x asks some = record { few = omega arith; keeps = keeps_both x asks; may = may_wait x asks some }

  may_keep : (pid : ℕ) (x : Call A) (n : Node) → IsMove x from to len is_tee → (is_tee ≡ true → IsPipe n) → MayKeep (between pid x) n
  may_keep pid (call.Splice a f b g n flags) (node.Pipe p) asks pipes = tt
  may_keep pid (call.Splice a f b g n flags) (node.File q) asks pipes = tt
  may_keep pid (call.Tee a b n flags) (node.Pipe p) asks pipes = tt
  may_keep pid (call.Tee a b n flags) (node.File q) asks pipes = absurd (pipes asks.3)
  may_keep pid other n asks pipes = absurd asks

  may_go : (x : Call A) → IsMove x from to len is_tee → AreApart from.node to.node → MayGo x from.node to.node
  may_go (call.Splice a f b g n flags) asks apart = apart
  may_go (call.Tee a b n flags) asks apart = apart
  may_go other asks apart = absurd asks

  module _ (k : Contents A) (goes : Goes k from to is_tee) where
    pub move_keeps : (pid : ℕ) (x : Call A) → IsMove x from to len is_tee → KeepsNodes (at k.opened) (between pid x)
    move_keeps pid x asks = keeps-two (at k.opened) w from.key to.key refl
        (say_one (at k.opened from.key) goes.source.opened (λ o. MayKeep w o.node) goes.source.here
        (subst (MayKeep w) (sym goes.source.node) (may_keep pid x from.node asks (λ t. (goes.pipes t).0))))
        (say_one (at k.opened to.key) goes.target.opened (λ o. MayKeep w o.node) goes.target.here
        (subst (MayKeep w) (sym goes.target.node) (may_keep pid x to.node asks (λ t. (goes.pipes t).1))))
        (say_one (at k.opened from.key) goes.source.opened (λ a. IfSome (at k.opened to.key) (λ b. MayGo x a.node b.node)) goes.source.here
        (say_one (at k.opened to.key) goes.target.opened (λ b. MayGo x goes.source.opened.node b.node) goes.target.here
        (subst (λ n. MayGo x n goes.target.opened.node) (sym goes.source.node) (subst (MayGo x from.node) (sym goes.target.node) (may_go x asks goes.apart)))))
      where
        w : ParkedCall A
        w = between pid x

    pub source_there : IsSome (at k.opened from.key)
    source_there = subst (λ o. IsSome o) (sym goes.source.here) refl

    pub target_there : IsSome (at k.opened to.key)
    target_there = subst (λ o. IsSome o) (sym goes.target.here) refl

module _ {A : Type 0} (m : Caller A) (asked : Call A) (from to : Side) (len : ℕ) (is_tee nonblock : Bool) where
  open m use {sound, pid, process}

  abbrev k : Contents A
  k = contents m.descs m.nodes m.calls m.limits

  abbrev c : Core A numbers
  c = core_of k

  abbrev x : Step A
  x = Begin pid asked

  abbrev w : Waiting A numbers
  w = waiting pid asked (from.key ∷ to.key ∷ []) false

  module _ (asks : IsMove asked from to len is_tee) (begins : begin c pid asked ≡ tried c (from.key ∷ to.key ∷ []) false (not nonblock)) where
    came : (t : Trial A numbers) → trial k from to len is_tee ≡ t → core_step c x ≡ Plain (ended c (first_tried c w (not nonblock && can_wait c pid) t))
    came t e = step-tried k pid asked process (from.key ∷ to.key ∷ []) false (not nonblock) t begins (move-tries k from to len is_tee asked w (not nonblock) asks refl ∙ e)

    pub move-ends : (reply : Reply A) (new : Contents A) → Ends k from to len is_tee reply new → MakesAtKeys k x reply new
    move-ends reply new e = does_plain k new x _ reply (came (Done e.state e.flow reply) e.came) refl left
      where
        left : core_of new ≡ settle c (flowed e.state e.flow)
        left = sym (resembling-settled c (core_of new) e.leaves.like sound.settled) ∙ ap (settle c) e.leaves.left

    pub move-wants : WouldMove k from to len is_tee → MayWantAtKeys k x
    move-wants e = wants_plain k k x _ (came (Done e.state e.flow (count e.many)) e.came) refl

    module _ (waits : trial k from to len is_tee ≡ Wait c still 0) where
      pub move-refused : (reply : Reply A) → refusal_in k pid nonblock ≡ Some reply → MakesAtKeys k x reply k
      move-refused reply h = does_same k sound x (stepped c reply) reply (came (Wait c still 0) waits ∙ ap (λ z. Plain (ended c z)) (refused k w nonblock c still 0 reply h)) refl refl

      module _ (left : refusal_in {A = A} k pid nonblock ≡ None) where
        stands : core_step c x ≡ Plain (ended c (record { state = parked c w; reply = Parked k.calls.next; flow = still }))
        stands = came (Wait c still 0) waits ∙ ap (λ z. Plain (ended c z)) (parks k w nonblock c still 0 left ∙ ap (λ z. record { state = parked z w; reply = Parked k.calls.next; flow = still }) (flowed-still k))

        pub move-waits-wants : MayWantAtKeys k x
        move-waits-wants = wants_plain k k x _ stands refl

        pub move-waits : len ≢ 0 → Goes k from to is_tee → MakesAtKeys k x (Parked k.calls.next) (with_call k (call_between from.key to.key pid asked))
        move-waits some goes = does_plain k (with_call k (call_between from.key to.key pid asked)) x _ (Parked k.calls.next) stands refl
            (call_settles k sound (call_between from.key to.key pid asked) (move_waits from to len is_tee pid asked asks some)
            (λ d h. either_one from.key to.key d (λ q. IsSome (at k.opened q)) (source_there from to len is_tee k goes) (target_there from to len is_tee k goes) h)
            (is_left k pid nonblock left) (move_keeps from to len is_tee k goes pid asked asks) process)
