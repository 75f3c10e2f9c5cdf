-- What a splice or a tee that is tried again comes to at the kernel's keys.
use Rattle.std.proofs.Common.{◌≡◌, ◌<◌, ℕ, Bool, true, false, [], ◌∷◌, Some, IfSome, IsSome, refl, sym, ◌∙◌, ap, subst, nat_eq, arith}
use Rattle.std.specs.Prelude.{◌||◌, All}
use Rattle.std.specs.Set.{is_member}
use Rattle.std.proofs.lemmas.Bool.{eq-eqb}
use Rattle.pl_model.specs.declared.calls.Call.{Call}
use Rattle.pl_model.specs.declared.calls.Call.TheVariants as call
use Rattle.pl_model.specs.declared.calls.Step.TheVariants.{Resume}
use Rattle.pl_model.specs.declared.node.Node.{Node}
use Rattle.pl_model.specs.declared.replies.Reply.{Reply}
use Rattle.pl_model.specs.declared.replies.Reply.TheVariants.{Parked}
use Rattle.pl_model.specs.Map.{get}
use Rattle.pl_model.specs.Keys.{Plain}
use Rattle.pl_model.specs.State.{Core}
use Rattle.pl_model.specs.Settle.{settle}
use Rattle.pl_model.specs.Trial.{Trial, Done, Wait, still}
use Rattle.pl_model.specs.Transfer.{count}
use Rattle.pl_model.specs.Step.{core_step, ended, tried_again, without_call}
use Rattle.pl_model.specs.Waking.{gets_on, can_progress}
use Rattle.pl_model.specs.Numbered.{numbers}
use Rattle.pl_model.proofs.settling.Members.{or_right}
use Rattle.pl_parked.specs.declared.call.ParkedCall.{ParkedCall}
use Rattle.pl_desc.specs.Rows.{at}
use Rattle.pl_desc.specs.Descs.{Opened}
use Rattle.pl_state.specs.Contents.{Contents, waiting_of, core_of}
use Rattle.pl_state.specs.Opens.{OpenOn}
use Rattle.pl_state.specs.Sound.{IsSound, IsPipe, IsWaiting, AreBoth, AreApart, MayGo, MayKeepFile, MayWait, GoApart, OnNode, KeepsNodes}
use Rattle.pl_state.specs.Makes.{MakesAtKeys, MayWantAtKeys}
use Rattle.pl_state.specs.declared.waits.WaitingMove.{WaitingMove}
use Rattle.pl_state.specs.Waits.{AsksMove, MoveIsKept}
use Rattle.pl_state.proofs.Known.{Parts}
use Rattle.pl_state.proofs.holders.OnNodes.{is-pipe}
use Rattle.pl_state.proofs.waiting.Ending.{member_there}
use Rattle.pl_state.proofs.by_call.Begun.{does_plain, wants_plain}
use Rattle.pl_state.proofs.by_call.Resumed.{came, progress-is, waits_still}
use Rattle.pl_splices.specs.declared.sides.Side.{Side}
use Rattle.pl_splices.specs.declared.waiting.Sides.{Sides}
use Rattle.pl_splices.specs.Moves.{Ends, StillWaits, WouldMove, MoveWaits, IsMove, trial}
use Rattle.pl_splices.specs.Waits.{WaitsToMove}
use Rattle.pl_splices.proofs.Resembling.{settles-from}
use Rattle.pl_splices.proofs.by_call.Trying.{move-tries, of_one}

module _ {A : Type 0} (k : Contents A) (sound : IsSound A k) (n : ℕ) (from to : Side) (len : ℕ) (is_tee : Bool) (w : MoveWaits k n from to len is_tee) where
  abbrev c : Core A numbers
  c = core_of k

  comes : (t : Trial A numbers) → trial k from to len is_tee ≡ t → core_step c (Resume n) ≡ Plain (ended c (tried_again n (waiting_of w.call) t))
  comes t e = came k sound n w.call w.here t (move-tries k from to len is_tee w.call.call (waiting_of w.call) true w.asked w.kept ∙ e)

  -- whether it can get on is told by its try
  pub move-progress : (t : Trial A numbers) → trial k from to len is_tee ≡ t → can_progress c n ≡ gets_on 0 t
  move-progress t e = progress-is k sound n w.call w.here t (move-tries k from to len is_tee w.call.call (waiting_of w.call) true w.asked w.kept ∙ e) ∙ ap (λ z. gets_on z t) w.none_taken

  -- it ends
  pub retry-ends : (reply : Reply A) (between new : Contents A) → Ends k from to len is_tee reply between → core_of new ≡ settle (core_of between) (without_call (core_of between) n) → MakesAtKeys k (Resume n) reply new
  retry-ends reply between new e is = does_plain k new (Resume n) _ reply (comes (Done e.state e.flow reply) e.came) refl
      (is ∙ settles-from c (core_of between) e.leaves.like (without_call (core_of between) n) ∙ ap (λ z. settle c (without_call z n)) e.leaves.left)

  -- it waits on
  pub retry-waits : (new : Contents A) → StillWaits k from to len is_tee new → MakesAtKeys k (Resume n) (Parked n) new
  retry-waits new s = subst (λ z. MakesAtKeys k (Resume n) (Parked n) z) (sym s.same)
      (waits_still k sound n w.call w.here 0 w.none_taken (comes (Wait c still 0) s.came))

  pub retry-wants : WouldMove {A = A} k from to len is_tee → MayWantAtKeys {A = A} k (Resume n)
  retry-wants e = wants_plain k k (Resume n) _ (comes (Done e.state e.flow (count e.many)) e.came) refl

  -- the call is parked still when its bytes went over
  pub still-parked : (reply : Reply A) (new : Contents A) → Ends k from to len is_tee reply new → IsSome (get nat_eq new.calls.calls n)
  still-parked reply new e = subst (λ o. IsSome o) (sym (ap (λ z. get nat_eq z.calls n) e.leaves.calls ∙ w.here)) refl

-- A parked call that keeps two descriptions.
module _ {A : Type 0} (m : Parts A) (n : ℕ) (w : ParkedCall A) (here : get nat_eq m.calls.calls n ≡ Some w) (a b : ℕ) (two : AreBoth a b w.kept) where
  pub first_there : IsSome (at m.descs.opened a)
  first_there = member_there m n w here a (ap (λ ks. is_member nat_eq ks a) two ∙ ap (λ z. z || is_member nat_eq (b ∷ []) a) (eq-eqb a a refl))

  pub second_there : IsSome (at m.descs.opened b)
  second_there = member_there m n w here b (ap (λ ks. is_member nat_eq ks b) two ∙ or_right _ _ (ap (λ z. z || false) (eq-eqb b b refl)))

-- What a splice or a tee asks, of its two sides.
module _ {A : Type 0} (x : Call A) (m : WaitingMove) where
  pub asked_so : (from to : Side) → from.given ≡ m.from_offset → to.given ≡ m.to_offset → AsksMove x m → IsMove x from to m.len m.is_tee
  asked_so from to f t asked = by x asked
    where
      by : (x : Call A) → AsksMove x m → IsMove x from to m.len m.is_tee
      by (call.Splice a o b p n flags) asked = (asked.0 ∙ sym f, asked.1 ∙ sym t, asked.2, asked.3)
      by (call.Tee a b n flags) asked = (f ∙ asked.0, t ∙ asked.1, asked.2, asked.3)
      by other asked = absurd asked

  pub apart_so : (a b : Node) → AsksMove x m → MayGo x a b → AreApart a b
  apart_so a b asked = by x asked
    where
      by : (x : Call A) → AsksMove x m → MayGo x a b → AreApart a b
      by (call.Splice c o d p n flags) asked go = go
      by (call.Tee c d n flags) asked go = go
      by other asked go = absurd asked

  -- a tee keeps no file
  pub no_file : AsksMove x m → m.is_tee ≡ true → ¬ MayKeepFile x
  no_file asked = by x asked
    where
      by : (x : Call A) → AsksMove x m → m.is_tee ≡ true → ¬ MayKeepFile x
      by (call.Splice a o b p n flags) asked tee = absurd (let no : false ≡ true = sym asked.3 ∙ tee in cc)
      by (call.Tee a b n flags) asked tee = λ may. may
      by other asked tee = absurd asked

  pub may_so : (taken : ℕ) → AsksMove x m → MayWait x taken → (taken ≡ 0) × (0 < m.len)
  may_so taken asked = by x asked
    where
      by : (x : Call A) → AsksMove x m → MayWait x taken → (taken ≡ 0) × (0 < m.len)
      by (call.Splice a o b p n flags) asked may = (may.0, subst (λ n. 0 < n) asked.2 may.1)
      by (call.Tee a b n flags) asked may = (may.0, subst (λ n. 0 < n) asked.2 may.1)
      by other asked may = absurd asked

-- The sides of a parked splice or tee, whose keys are those that it keeps.
module _ {A : Type 0} (k : Contents A) (sound : IsSound A k) (n : ℕ) (m : WaitingMove) (is : MoveIsKept k n m)
    (s : Sides) (first : s.from.key ≡ m.from) (second : s.to.key ≡ m.to) (first_given : s.from.given ≡ m.from_offset) (second_given : s.to.given ≡ m.to_offset)
    (on_first : OpenOn k m.from s.from.node) (on_second : OpenOn k m.to s.to.node) where
  open s use {from, to}
  open is use {call as w, here, asked}

  keeps_sides : w.kept ≡ from.key ∷ to.key ∷ []
  keeps_sides = is.kept ∙ (λ i. sym first i ∷ sym second i ∷ [])

  source : OpenOn k from.key from.node
  source = subst (λ z. OpenOn k z from.node) (sym first) on_first

  target : OpenOn k to.key to.node
  target = subst (λ z. OpenOn k z to.node) (sym second) on_second

  keeps : KeepsNodes (at k.opened) w
  keeps = subst (λ o. IfSome o (KeepsNodes (at k.opened))) here (sound.on_nodes n)

  may_go : MayGo w.call from.node to.node
  may_go =
      let both : IfSome (at k.opened from.key) (λ x. IfSome (at k.opened to.key) (λ y. MayGo w.call x.node y.node)) = subst (GoApart (at k.opened) w.call) keeps_sides keeps.apart in
      let one : IfSome (at k.opened to.key) (λ y. MayGo w.call source.opened.node y.node) = of_one (at k.opened from.key) source.opened (λ x. IfSome (at k.opened to.key) (λ y. MayGo w.call x.node y.node)) source.here both in
      let go : MayGo w.call source.opened.node target.opened.node = of_one (at k.opened to.key) target.opened (λ y. MayGo w.call source.opened.node y.node) target.here one in
      subst (λ z. MayGo w.call z to.node) source.node (subst (λ z. MayGo w.call source.opened.node z) target.node go)

  on_kept : All (OnNode (at k.opened) w) (from.key ∷ to.key ∷ [])
  on_kept = subst (All (OnNode (at k.opened) w)) keeps_sides keeps.on

  piped : (key : ℕ) (node : Node) → ¬ MayKeepFile w.call → OnNode (at k.opened) w key → OpenOn k key node → IsPipe node
  piped key node no_file on is = subst IsPipe is.node (of_one (at k.opened key) is.opened (λ (o : Opened). IsPipe o.node) is.here (is-pipe w no_file (at k.opened key) on))

  may : (w.taken ≡ 0) × (0 < m.len)
  may = may_so w.call m w.taken asked (subst (λ o. IfSome o (IsWaiting A)) here (sound.waiting n)).may

  pub waits_to_move : WaitsToMove k n m s
  waits_to_move = record {
    waits = record { call = w; here = here; asked = asked_so w.call m from to first_given second_given asked; kept = keeps_sides; none_taken = may.0 };
    goes = record {
      source = source;
      target = target;
      apart = apart_so w.call m from.node to.node asked may_go;
      pipes = λ t. (piped from.key from.node (no_file w.call m asked t) (on_kept 0 0 (omega arith)) source, piped to.key to.node (no_file w.call m asked t) (on_kept 1 0 (omega arith)) target);
    };
    some = λ zero. let some = may.1 in omega (arith, some, zero);
  }
