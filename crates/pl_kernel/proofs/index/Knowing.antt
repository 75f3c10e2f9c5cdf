-- What the index knows of the calls that a step leaves.
use Rattle.std.proofs.Common.{◌≡◌, ℕ, ◌+◌, ◌-◌, ◌<◌, ◌≤◌, Bool, true, false, cond, List, [], ◌∷◌, length, map, inl, inr, refl, sym, ◌∙◌, ap, subst, nat_eq, nat_lt, nat_le, arith}
use Rattle.std.specs.Prelude.{◌&&◌, ◌||◌, not, unwrap_or, option_map, IsSome}
use Rattle.std.specs.declared.option.Option.{Option}
use Rattle.std.specs.declared.option.Option.TheVariants.{None, Some}
use Rattle.std.specs.List.{list_any}
use Rattle.std.specs.Set.{is_member}
use Rattle.std.proofs.lemmas.Bool.{eq-eqb}
use Rattle.pl_model.specs.declared.calls.Call.{Call}
use Rattle.pl_model.specs.declared.calls.Mode.{Mode}
use Rattle.pl_model.specs.declared.calls.Step.{Step}
use Rattle.pl_model.specs.declared.flags.PollMask.{PollMask}
use Rattle.pl_model.specs.Modes.{any_mode}
use Rattle.pl_model.specs.Modes as modes
use Rattle.pl_model.specs.Numbers.{pipe_buf}
use Rattle.pl_model.specs.Map.{get}
use Rattle.pl_model.specs.Keys.{Node, NewKeys, PipeNode, FileNode, same_node, drawn}
use Rattle.pl_model.specs.State.{Core, Pipe, Description, Waiting, empty_pipe}
use Rattle.pl_model.specs.Live.{readers, is_end}
use Rattle.pl_model.specs.Trial.{pipe_at}
use Rattle.pl_model.specs.Transfer.{room}
use Rattle.pl_model.specs.Settle.{settle}
use Rattle.pl_model.specs.Step.{Stepped, happen}
use Rattle.pl_model.specs.Poll.{is_ready as is_mask_ready, mask_of, bits_if}
use Rattle.pl_model.specs.declared.cases.Polled.{Polled}
use Rattle.pl_model.specs.Numbered.{numbers}
use Rattle.pl_model.specs.StandsFor.{AreUnused}
use Rattle.pl_model.specs.Waking.{can_progress}
use Rattle.pl_model.specs.Touching.{keeps_at, touches}
use Rattle.pl_model.proofs.by_call.Keeps.{end}
use Rattle.pl_model.proofs.settling.Members.{and_left, or_left, or_right, member_found, member_passes}
use Rattle.pl_model.proofs.settling.Opening.{same_is, same_refl}
use Rattle.pl_model.proofs.settling.WhoIsLive.{is_on, readers-is, has_end-same}
use Rattle.pl_model.proofs.streams.StayingMet.{IsOfCall, happen_met, holds_at_first}
use Rattle.pl_model.proofs.touching.SameAt.{SameAt}
use Rattle.pl_model.proofs.touching.Ending.{settle-same}
use Rattle.pl_model.proofs.touching.Happening.{happened, of_another}
use Rattle.pl_model.proofs.touching.Parked.{core_step-is, kept-live, member_has}
use Rattle.pl_model.proofs.touching.Places.{kept_stays, end_stays}
use Rattle.pl_model.proofs.touching.Untouched.{untouched_by_another}
use Rattle.pl_least.specs.Numbers.{number_at}
use Rattle.pl_waiters.specs.declared.waiter.Waiter.{Waiter}
use Rattle.pl_waiters.specs.declared.waiters.Waiters.{Waiters}
use Rattle.pl_waiters.specs.Queue.{waiter}
use Rattle.pl_waiters.specs.Seen.{stands}
use Rattle.pl_kernel.specs.ToldNodes.{key_of}
use Rattle.pl_kernel.specs.Queues.{polls, is_polls, mode_of, rest_of, asks_in, asks_out, is_end_ready, queue_of_entry, finds, end_of, ends, places, is_place, is_placed}
use Rattle.pl_kernel.specs.Index.{is_open, IsIn, IsUpBut, IsUpSomewhere, Knows, IsNoLess, Touches}
use Rattle.pl_kernel.proofs.index.Leaving.{IsKnown, left, rises, none_comes}
use Rattle.pl_kernel.proofs.index.Places.{KeepsEnd}
use Rattle.pl_kernel.proofs.index.Kinds.{IsNoPoll, IsOfKind, place-kind, some-place, keeps-one, entry-polls}
use Rattle.pl_kernel.proofs.index.Opening.{open-poll, open-call, open-parked}

-- What stays parked under a number asks what was asked there.
module _ {A : Type 0} (call : Call A) where
  abbrev asks : Waiting A numbers → Type 0
  asks w = w.call ≡ call

  asks_stays : IsOfCall asks
  asks_stays = record { taken = λ w t k. k; met = λ w k. k }

-- what is the same of each member is the same of the list
map-same : {X : Type 0} (f g : ℕ → X) (ks : List ℕ) → ((d : ℕ) → is_member nat_eq ks d ≡ true → f d ≡ g d) → map f ks ≡ map g ks
map-same f g [] same = refl
map-same f g (k ∷ ks) same = λ i. same k (or_left (nat_eq k k) (is_member nat_eq ks k) (eq-eqb k k refl)) i ∷ map-same f g ks (λ d m. same d (or_right (nat_eq d k) (is_member nat_eq ks d) m)) i

-- a list with a member isn't empty
some-member : (ks : List ℕ) (d : ℕ) → is_member nat_eq ks d ≡ true → 0 < length ks
some-member [] d m = absurd (cc)
some-member (k ∷ ks) d m = omega arith

-- what polls find of a node is the same in two states where the node is
module _ {A : Type 0} (c u : Core A numbers) where
  end-same : (p : ℕ) → SameAt c u (PipeNode p) → (mode : Mode) (to_read to_write : Bool) → is_end_ready u p mode to_read to_write ≡ is_end_ready c p mode to_read to_write
  end-same p same mode to_read to_write =
      λ i. (modes.reads mode && ((to_read && nat_lt 0 (length (pipe i).bytes)) || (pipe i).hung)) || (modes.writes mode && ((to_write && nat_le pipe_buf (room (pipe i))) || not (reader i)))
    where
      pipe : pipe_at u p ≡ pipe_at c p
      pipe = ap (λ (z : Option Pipe × Option (List ℕ)). unwrap_or z.0 empty_pipe) same.held

      reader : nat_lt 0 (readers u p) ≡ nat_lt 0 (readers c p)
      reader = readers-is u p ∙ has_end-same c u (PipeNode p) same.ends modes.reads ∙ sym (readers-is c p)

  by-file : (f : ℕ) (b : Bool) → finds u f (polls + bits_if b 1) ≡ finds c f (polls + bits_if b 1)
  by-file f true = refl
  by-file f false = refl

  finds-same : (node : Node numbers) → SameAt c u node → (mode : Mode) (asked : PollMask) → finds u (key_of node) (queue_of_entry node mode asked) ≡ finds c (key_of node) (queue_of_entry node mode asked)
  finds-same (PipeNode p) same mode asked =
      let kind = queue_of_entry (PipeNode p) mode asked - polls in
      ap (λ b. cond (nat_lt kind 4) (nat_eq kind 1) b) (end-same p same (mode_of kind) (asks_in (rest_of kind)) (asks_out (rest_of kind)))
  finds-same (FileNode f) same mode asked = by-file f (is_mask_ready (mask_of Polled.File asked))

module _ {A : Type 0} (c : Core A numbers) (known : IsKnown c) (x : Step A) (new : NewKeys numbers) (unused : AreUnused c new) where
  open known use {fit, order, keeps}

  abbrev c' : Core A numbers
  c' = left c x new

  call_stays : (n : ℕ) (w : Waiting A numbers) → get nat_eq c.parked n ≡ Some w → (v : Waiting A numbers) → get nat_eq c'.parked n ≡ Some v → v.call ≡ w.call
  unfolding settle
  call_stays n w here v there =
      happen_met n (asks w.call) (asks_stays w.call) new c order (order.below n w here) (holds_at_first (asks w.call) (asks_stays w.call) c.parked n w here refl) x v
      (ap (λ z. get nat_eq z.state.parked n) (sym (core_step-is c x new)) ∙ there)

  -- A call that waits before and afterwards waits at the same places.
  module _ (known' : IsKnown c') (number : ℕ) (v z : Waiting A numbers) (here : get nat_eq c.parked number ≡ Some v) (there : get nat_eq c'.parked number ≡ Some z) where
    same_kept : z.kept ≡ v.kept
    same_kept = kept_stays c x new order number v here z there

    was_described : (d : ℕ) → is_member nat_eq v.kept d ≡ true → IsSome (c.descriptions d)
    was_described d m = member_has (λ d. IsSome (c.descriptions d)) v.kept (fit.kept number v here) d m

    is_described : (d : ℕ) → is_member nat_eq v.kept d ≡ true → IsSome (c'.descriptions d)
    is_described d m = member_has (λ d. IsSome (c'.descriptions d)) z.kept (known'.fit.kept number z there) d (ap (λ kept. is_member nat_eq kept d) same_kept ∙ m)

    same_end : (d : ℕ) → is_member nat_eq v.kept d ≡ true → option_map end_of (c'.descriptions d) ≡ option_map end_of (c.descriptions d)
    same_end d m = by (c.descriptions d) (c'.descriptions d) refl refl (was_described d m) (is_described d m)
      where
        by : (o p : Option (Description numbers)) → c.descriptions d ≡ o → c'.descriptions d ≡ p → IsSome o → IsSome p → option_map end_of p ≡ option_map end_of o
        by None p e f some some' = absurd (let none : IsSome {T = Description numbers} None = some in cc)
        by (Some y) None e f some some' = absurd (let none : IsSome {T = Description numbers} None = some' in cc)
        by (Some y) (Some u) e f some some' = ap (λ e. Some e) (end_stays d (end y) c x new unused y e refl u f)

    same_ends : ends c' z.kept ≡ ends c v.kept
    same_ends = ap (ends c') same_kept ∙ map-same (λ d. option_map end_of (c'.descriptions d)) (λ d. option_map end_of (c.descriptions d)) v.kept same_end

    same_places : places z.call (ends c' z.kept) ≡ places v.call (ends c v.kept)
    same_places = λ i. places (call_stays number v here z there i) (same_ends i)

    pub back : (key : Waiter) → IsIn c' key z → IsIn c key v
    back key h = ap (λ ps. is_place ps key.node key.queue) (sym same_places) ∙ h

    pub forth : (key : Waiter) → IsIn c key v → IsIn c' key z
    forth key h = ap (λ ps. is_place ps key.node key.queue) same_places ∙ h

    pub placed_stays : is_placed v.call (ends c v.kept) ≡ true → is_placed z.call (ends c' z.kept) ≡ true
    placed_stays h = (λ i. is_placed (call_stays number v here z there i) (same_ends i)) ∙ h

  -- a node that the step doesn't touch, and at which a call waits, is as it was
  same_at : (number : ℕ) (v : Waiting A numbers) → get nat_eq c.parked number ≡ Some v → (d : ℕ) → is_member nat_eq v.kept d ≡ true → (y : Description numbers) → c.descriptions d ≡ Some y → touches c x y.node ≡ false → SameAt c c' y.node
  same_at number v here d m y at off =
      let live = kept-live c fit number v here d m in
      let on : is_on y.node (c.descriptions d) ≡ true = ap (is_on y.node) at ∙ (λ k. same_refl y.node k && true) in
      subst (λ (z : Stepped A numbers). SameAt c z.state y.node) (sym (core_step-is c x new))
      (settle-same c (drawn new (happen c x)).state fit.settled y.node d live on (happened c x new unused fit y.node d live on off))

  -- What a step leaves is known, if each node that it touches was touched in the index before.
  module _ (known' : IsKnown c') (w u : Waiters A) (t : Touches c x w u) (knows : Knows c w) where
    -- what was given before and waits afterwards, waited before
    waited : (number : ℕ) (z : Waiting A numbers) → get nat_eq c'.parked number ≡ Some z → number < c.next_call → (v : Waiting A numbers) × (get nat_eq c.parked number ≡ Some v)
    waited number z there low = by (get nat_eq c.parked number) refl
      where
        by : (o : Option (Waiting A numbers)) → get nat_eq c.parked number ≡ o → (v : Waiting A numbers) × (get nat_eq c.parked number ≡ Some v)
        by None none = absurd (none_comes c x new order number low none z there)
        by (Some v) here = (v, here)

    low-before : (number : ℕ) → number < u.looked → number < w.looked
    low-before number low = subst (λ n. number < n) t.no_less.known low

    given-before : (number : ℕ) → number < w.looked → number < c.next_call
    given-before number low = (let coming = knows.coming in omega (arith, low, coming))

    stood : (key : Waiter) → stands u key ≡ true → stands w key ≡ true
    stood key there = sym (t.no_less.queues key) ∙ there

    up_on : (key number : ℕ) → IsUpBut w None key number → IsUpBut u None key number
    up_on key number (inl at) = absurd (cc)
    up_on key number (inr (inl touched)) = inr (inl (t.no_less.more key touched))
    up_on key number (inr (inr found)) = inr (inr (found.0, ap (λ l. number_at l key) t.no_less.least_ones ∙ found.1, found.2))

    -- the node of a call that stands there was touched, if the step touches it
    touched_at : (key : Waiter) (v : Waiting A numbers) → get nat_eq c.parked key.number ≡ Some v → stands w key ≡ true → (node : Node numbers) → key_of node ≡ key.node → touches c x node ≡ true → IsUpBut u None key.node key.number
    touched_at key v here there node at on = subst (λ n. IsUpBut u None n key.number) at (inr (inl (t.touched node on key (sym at) (subst (λ o. IsSome o) (sym here) refl) there)))

    polled_on : (key : Waiter) → is_polls key.queue ≡ true → stands u key ≡ true → is_open c' key ≡ true → IsUpBut u None key.node key.number
    polled_on key is_poll there opens =
        let z = open-parked c' key opens in
        let low = knows.given key (stood key there) in
        let v = waited key.number z.0 z.1 low in
        by v.0 v.1 (open-poll c' key z.0 z.1 is_poll) (place-kind c v.0.call v.0.kept key.node key.queue (knows.right key (stood key there) v.0 v.1))
      where
        by : (v : Waiting A numbers) → get nat_eq c.parked key.number ≡ Some v → is_open c' key ≡ finds c' key.node key.queue → IsOfKind c v.call v.kept key.node key.queue → IsUpBut u None key.node key.number
        by v here told (inr n) = absurd (let no : false ≡ true = sym n.apart.0 ∙ is_poll in cc)
        by v here told (inl p) = at (touches c x e.x.node) refl
          where
            e : KeepsEnd c v.kept key.node
            e = p.3.end

            at : (b : Bool) → touches c x e.x.node ≡ b → IsUpBut u None key.node key.number
            at true on = touched_at key v here (stood key there) e.x.node e.at on
            at false off =
                let same = finds-same c c' e.x.node (same_at key.number v here e.d e.member e.x e.here off) e.x.mode p.3.asked in
                let found : finds c key.node key.queue ≡ true = (λ i. finds c (sym e.at i) (sym p.3.of i)) ∙ sym same ∙ (λ i. finds c' (e.at i) (p.3.of i)) ∙ sym told ∙ opens in
                up_on key.node key.number (knows.polled key is_poll (stood key there) (open-poll c key v here is_poll ∙ found))

    -- the step touches what the description is on
    abbrev hit : Option (Description numbers) → Bool
    hit None = false
    hit (Some y) = touches c x y.node

    -- A call that is no poll, and can get on afterwards.
    module _ (key : Waiter) (no_poll : is_polls key.queue ≡ false) (there : stands u key ≡ true) (v : Waiting A numbers) (here : get nat_eq c.parked key.number ≡ Some v) (low : key.number < w.looked) (can : can_progress c' key.number ≡ true) (off : IsNoPoll v.call) where
      touched : (d : ℕ) → is_member nat_eq v.kept d ≡ true → (o : Option (Description numbers)) → c.descriptions d ≡ o → hit o ≡ true → IsUpSomewhere u None key.number
      touched d m None e h = absurd (cc)
      touched d m (Some y) e h =
          let q = some-place c v.kept (member_has (λ d. IsSome (c.descriptions d)) v.kept (fit.kept key.number v here)) d y m e v.call (keeps key.number v here) off in
          let other = waiter (key_of y.node) q.0 key.number in
          let stands_w : stands w other ≡ true = knows.placed other v here low q.1 in
          record { key = other; of_it = refl; no_poll = q.2.0; there = t.no_less.queues other ∙ stands_w; up = touched_at other v here stands_w y.node refl h }

      away : list_any (λ d. hit (c.descriptions d)) v.kept ≡ false → (node : Node numbers) → keeps_at c node v ≡ true → touches c x node ≡ false
      away none node keeps = at (touches c x node) refl
        where
          f : (d : ℕ) × (is_member nat_eq v.kept d ≡ true) × (is_end any_mode node (c.descriptions d) ≡ true)
          f = member_found (λ d. is_end any_mode node (c.descriptions d)) v.kept keeps

          found : touches c x node ≡ true → (o : Option (Description numbers)) → is_end any_mode node o ≡ true → hit o ≡ true
          found on None at = absurd (cc)
          found on (Some y) at = ap (touches c x) (same_is y.node node (and_left (same_node y.node node) true at)) ∙ on

          at : (b : Bool) → touches c x node ≡ b → b ≡ false
          at false on = refl
          at true on = absurd (let no : false ≡ true = sym none ∙ member_passes (λ d. hit (c.descriptions d)) v.kept f.0 f.1 (found on (c.descriptions f.0) f.2) in cc)

      stayed : ((node : Node numbers) → keeps_at c node v ≡ true → touches c x node ≡ false) → IsUpSomewhere u None key.number
      stayed off_nodes =
          let d = keeps-one v.call v.kept (keeps key.number v here) off in
          let other = of_another c fit key.number v here (some-member v.kept d.0 d.1) x off_nodes in
          let same = untouched_by_another c x new unused fit key.number v here off_nodes other in
          let old = knows.told key no_poll (stood key there) (open-call c key v here no_poll ∙ sym same.1 ∙ can) low in
          record { key = old.key; of_it = old.of_it; no_poll = old.no_poll; there = t.no_less.queues old.key ∙ old.there; up = up_on old.key.node key.number old.up }

      somewhere : IsUpSomewhere u None key.number
      somewhere = by (list_any (λ d. hit (c.descriptions d)) v.kept) refl
        where
          by : (b : Bool) → list_any (λ d. hit (c.descriptions d)) v.kept ≡ b → IsUpSomewhere u None key.number
          by true some = (let f = member_found (λ d. hit (c.descriptions d)) v.kept some in touched f.0 f.1 (c.descriptions f.0) refl f.2)
          by false none = stayed (away none)

    told_on : (key : Waiter) → is_polls key.queue ≡ false → stands u key ≡ true → is_open c' key ≡ true → key.number < u.looked → IsUpSomewhere u None key.number
    told_on key no_poll there opens below =
        let z = open-parked c' key opens in
        let low = low-before key.number below in
        let v = waited key.number z.0 z.1 (given-before key.number low) in
        by v.0 v.1 low (sym (open-call c' key z.0 z.1 no_poll) ∙ opens) (place-kind c v.0.call v.0.kept key.node key.queue (knows.right key (stood key there) v.0 v.1))
      where
        by : (v : Waiting A numbers) → get nat_eq c.parked key.number ≡ Some v → key.number < w.looked → can_progress c' key.number ≡ true → IsOfKind c v.call v.kept key.node key.queue → IsUpSomewhere u None key.number
        by v here low can (inl p) = absurd (let no : false ≡ true = sym no_poll ∙ ap is_polls (sym p.3.of) ∙ entry-polls p.3.end.x.node p.3.end.x.mode p.3.asked in cc)
        by v here low can (inr n) = somewhere key no_poll there v here low can n.no_poll

    pub knows_on : Knows c' u
    knows_on = record {
      coming = (let up = rises c x new in let coming = knows.coming in let looked = t.no_less.known in omega (arith, up, coming, looked));
      placed = λ key z there low in_it.
          let before = low-before key.number low in
          let v = waited key.number z there (given-before key.number before) in
          t.no_less.queues key ∙ knows.placed key v.0 v.1 before (back known' key.number v.0 z v.1 there key in_it);
      whole = λ number z there low.
          let before = low-before number low in
          let v = waited number z there (given-before number before) in
          placed_stays known' number v.0 z v.1 there (knows.whole number v.0 v.1 before);
      polled = polled_on;
      told = told_on;
      right = λ key stands_u z there.
          let v = waited key.number z there (knows.given key (stood key stands_u)) in
          forth known' key.number v.0 z v.1 there key (knows.right key (stood key stands_u) v.0 v.1);
      given = λ key stands_u. (let low = knows.given key (stood key stands_u) in let up = rises c x new in omega (arith, low, up));
    }

-- More nodes that are to be asked are known no worse.
module _ {A : Type 0} (c : Core A numbers) (w u : Waiters A) where
  up-more : IsNoLess w u → (key number : ℕ) → IsUpBut w None key number → IsUpBut u None key number
  up-more less key number (inl at) = inl at
  up-more less key number (inr (inl touched)) = inr (inl (less.more key touched))
  up-more less key number (inr (inr found)) = inr (inr (found.0, ap (λ l. number_at l key) less.least_ones ∙ found.1, found.2))

  pub knows-more : Knows c w → IsNoLess w u → Knows c u
  knows-more k less = record {
    coming = subst (λ n. n ≤ c.next_call) (sym less.known) k.coming;
    placed = λ key v here low in_it. less.queues key ∙ k.placed key v here (subst (λ n. key.number < n) less.known low) in_it;
    whole = λ number v here low. k.whole number v here (subst (λ n. number < n) less.known low);
    polled = λ key is_poll there opens. up-more less key.node key.number (k.polled key is_poll (sym (less.queues key) ∙ there) opens);
    told = λ key no_poll there opens low. (let s = k.told key no_poll (sym (less.queues key) ∙ there) opens (subst (λ n. key.number < n) less.known low) in
        record { key = s.key; of_it = s.of_it; no_poll = s.no_poll; there = less.queues s.key ∙ s.there; up = up-more less s.key.node key.number s.up });
    right = λ key there v here. k.right key (sym (less.queues key) ∙ there) v here;
    given = λ key there. k.given key (sym (less.queues key) ∙ there);
  }
