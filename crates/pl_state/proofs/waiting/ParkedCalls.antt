-- A call is parked, at the kernel's keys.
use Rattle.std.proofs.Common.{◌≡◌, ◌≢◌, ℕ, ◌+◌, true, false, List, [], ◌∷◌, length, Some, refl, sym, ◌∙◌, ap, subst, nat_eq, arith, IfSome}
use Rattle.std.specs.Prelude.{◌≤◌, ◌<◌, ◌*◌, ◌^◌, IsSome, IsTrue}
use Rattle.std.specs.Set.{is_member}
use Rattle.std.proofs.lemmas.Bool.{eqb-true}
use Rattle.pl_model.specs.declared.node.Node.TheVariants as node
use Rattle.pl_model.specs.declared.calls.Call.{Call}
use Rattle.pl_model.specs.declared.calls.Call.TheVariants as call
use Rattle.pl_model.specs.Numbers.{last_call}
use Rattle.pl_model.specs.State.{Core, Pipe, set_pipe}
use Rattle.pl_model.specs.Live.{in_rows, in_parked, pids, is_live}
use Rattle.pl_model.specs.Settle.{settle}
use Rattle.pl_model.specs.Step.{parked}
use Rattle.pl_model.specs.Numbered.{numbers}
use Rattle.pl_model.proofs.settling.Members.{or_elim}
use Rattle.pl_model.proofs.settling.FromSettled.{changed-settled}
use Rattle.pl_model.specs.Packets.{gain}
use Rattle.pl_model.proofs.settling.Parking.{parked_live, park-settled}
use Rattle.pl_parked.specs.Calls.{Calls}
use Rattle.pl_parked.specs.declared.call.ParkedCall.{ParkedCall}
use Rattle.pl_numbered.proofs.Rising.{Rise-push}
use Rattle.pl_desc.specs.Rows.{at, is_pid, count_at}
use Rattle.pl_desc.specs.Descs.{Opened, Descs, IsTidy}
use Rattle.pl_state.specs.Contents.{Contents, with_pipes, contents, waiting_of, core_of}
use Rattle.pl_state.specs.Opens.{OpenOn}
use Rattle.pl_state.specs.Parking.{call_on, with_call, Adds}
use Rattle.pl_state.specs.Sound.{IsSound, IsWaiting, AreCounted, MayWait, KeepsOne, Keeps, most_kept, times, keeping, KeepsNodes, MayKeep}
use Rattle.pl_state.proofs.Known.{Known}
use Rattle.pl_state.proofs.waiting.Calls.{more-parked, get_more}
use Rattle.pl_state.proofs.by_call.Begun.{there, lives, pipe_held}
use Rattle.pl_state.proofs.holders.There.{settled_after}
use Rattle.pl_state.proofs.holders.Holding.{keeping_more, keeping_few}
use Rattle.pl_state.proofs.by_call.Moving.{changed_is, changed_sound}
use Rattle.pl_state.proofs.holders.OnNodes.{keeps-one}

-- a call that keeps one description keeps no other
pub only_one : (key d : ℕ) → is_member nat_eq (key ∷ []) d ≡ true → d ≡ key
only_one key d h = or_elim (nat_eq d key) false (λ e. eqb-true d key e) (λ f. absurd (cc)) h

pub not_last : (n : ℕ) → n ≤ last_call → n ≢ last_call → n + 1 ≤ last_call
not_last n few not_it = grind (arith, few, not_it)

-- a call is parked, which keeps descriptions that are open
module _ {A : Type 0} (k : Contents A) (sound : IsSound A k) (w : ParkedCall A) (waits : IsWaiting A w) (open_ones : (d : ℕ) → is_member nat_eq w.kept d ≡ true → IsSome (at k.opened d)) (left : k.calls.next ≢ last_call) (on_nodes : KeepsNodes (at k.opened) w) (process : IsTrue (is_pid k.tables w.pid)) where
  abbrev before : Core A numbers
  before = core_of k

  pub live : (d : ℕ) → is_member nat_eq w.kept d ≡ true → is_live before d ≡ true
  live d h = let o = there (at k.opened d) (open_ones d h) in lives k sound.whole d o.0 o.1

  pub call_is : core_of (with_call k w) ≡ parked before (waiting_of w)
  unfolding core_of
  call_is = λ i. record before { parked = more-parked k.calls.calls k.calls.next w i; next_call = k.calls.next + 1 }

  pub call_settles : core_of (with_call k w) ≡ settle before (parked before (waiting_of w))
  call_settles = call_is ∙ sym (park-settled before sound.settled (waiting_of w) live)

  pub call_sound : IsSound A (with_call k w)
  call_sound = record {
    whole = record {
      rise = Rise-push 0 k.calls.next k.calls.calls w sound.rise;
      numbered = not_last k.calls.next sound.numbered left;
      there = sound.there;
      limit = sound.limit;
      once = sound.once;
      settled = settled_after (core_of (with_call k w)) before (parked before (waiting_of w)) call_settles;
    };
    waiting = λ n. get_more k.calls.calls k.calls.next w (IsWaiting A) waits n (sound.waiting n);
    belong = λ n. get_more k.calls.calls k.calls.next w (λ y. IsTrue (is_pid k.tables y.pid)) process n (sound.belong n);
    on_nodes = λ n. get_more k.calls.calls k.calls.next w (KeepsNodes (at k.opened)) on_nodes n (sound.on_nodes n);
  }

-- what keeps one description keeps the one that it tries
keeps_one : {A : Type 0} (key : ℕ) (call : Call A) → KeepsOne call → Keeps call (key ∷ [])
keeps_one key (call.Read fd n) one = (key, refl)
keeps_one key (call.Write fd bytes) one = (key, refl)
keeps_one key (call.OpenName name mode flags) one = (key, refl)
keeps_one key other one = absurd one

-- and which keeps one
module _ {A : Type 0} (k : Contents A) (sound : IsSound A k) (key : ℕ) (o : Opened) (here : at k.opened key ≡ Some o) (left : k.calls.next ≢ last_call) (pid : ℕ) (call : Call A) (taken : ℕ) (one : KeepsOne call) (may : MayWait call taken) (process : IsTrue (is_pid k.tables pid)) (pipe : MayKeep (call_on key pid call taken) o.node) where
  abbrev c : Core A numbers
  c = core_of k

  abbrev w : ParkedCall A
  w = call_on key pid call taken

  abbrev with_it : Contents A
  with_it = with_call k w

  waits : IsWaiting A w
  waits = record { few = omega arith; keeps = keeps_one key call one; may = may }

  open_one : (d : ℕ) → is_member nat_eq (key ∷ []) d ≡ true → IsSome (at k.opened d)
  open_one d h = subst (λ z. IsSome z) (sym (ap (at k.opened) (only_one key d h) ∙ here)) refl

  on_node : KeepsNodes (at k.opened) w
  on_node = keeps-one (at k.opened) w key refl (subst (λ o. IfSome o (λ o. MayKeep w o.node)) (sym here) pipe)

  pub park_is : core_of with_it ≡ parked c (waiting_of w)
  park_is = call_is k sound w waits open_one left on_node process

  pub park_settles : core_of with_it ≡ settle c (parked c (waiting_of w))
  park_settles = call_settles k sound w waits open_one left on_node process

  pub park_sound : IsSound A with_it
  park_sound = call_sound k sound w waits open_one left on_node process

  -- and its pipe has other bytes
  module _ (p : ℕ) (on : OpenOn k key (node.Pipe p)) (x : Pipe) (is : at k.nodes.pipes p ≡ Some x) (more : List ℕ) (new : Contents A) (adds : Adds with_it p more new) where
    abbrev moved : Core A numbers
    moved = set_pipe c p (gain more x)

    moved_is : core_of (with_pipes with_it new.nodes) ≡ parked moved (waiting_of w)
    moved_is = changed_is with_it park_sound key p (record { opened = on.opened; here = on.here; node = on.node }) x is new.nodes (gain more) refl adds.pipes ∙ ap (λ z. set_pipe z p (gain more x)) park_is

    moved_live : (d : ℕ) → is_live (parked moved (waiting_of w)) d ≡ is_live c d
    unfolding in_rows in_parked pids
    moved_live d = parked_live c sound.settled (waiting_of w) (live k sound w waits open_one left on_node process) d

    pub park_moves : core_of new ≡ settle c (parked moved (waiting_of w))
    unfolding core_of
    park_moves = ap (λ z. core_of z) adds.rest ∙ moved_is ∙ sym (settles is)
      where
        settles : at k.nodes.pipes p ≡ Some x → settle c (parked moved (waiting_of w)) ≡ parked moved (waiting_of w)
        settles is = changed-settled c (parked moved (waiting_of w)) sound.settled (record { descriptions = refl; files = refl; names = refl }) moved_live p x (gain more x) is (pipe_held k sound.whole key p on) refl refl

    pub park_moves_sound : IsSound A new
    park_moves_sound = subst (IsSound A) (sym adds.rest) (changed_sound with_it park_sound key p (record { opened = on.opened; here = on.here; node = on.node }) x is new.nodes (gain more) refl adds.pipes)

-- few holds are loose
pub few_holds : {A : Type 0} (descs : Descs) (k : Contents A) → IsSound A k → AreCounted A k.limits descs k.calls.calls → (key : ℕ) → count_at descs.loose key < 2 ^ 100
few_holds descs k sound are key =
    let few : keeping k.calls.calls key + most_kept * 0 ≤ most_kept * k.calls.next = keeping_few 0 k.calls.next k.calls.calls key sound.rise sound.waiting in
    omega (arith, are.counted key, few, sound.numbered)

-- with room for those of one call more
pub few_to_hold : {A : Type 0} (descs : Descs) (k : Contents A) → IsSound A k → AreCounted A k.limits descs k.calls.calls → (kept : List ℕ) → length kept ≤ most_kept → (key : ℕ) → count_at descs.loose key + length kept ≤ 2 ^ 100
few_to_hold descs k sound are kept short key =
    let few : keeping k.calls.calls key + most_kept * 0 ≤ most_kept * k.calls.next = keeping_few 0 k.calls.next k.calls.calls key sound.rise sound.waiting in
    omega (arith, are.counted key, few, sound.numbered, short)

-- what a call keeps is held for it
module _ {A : Type 0} (m : Known A) (w : ParkedCall A) (descs' : Descs) (rest : descs' ≡ record m.descs { loose = descs'.loose }) where
  open m use {descs, nodes, calls, limits, are}

  abbrev more : Calls A
  more = (with_call (contents descs nodes calls limits) w).calls

  pub held_is : contents descs' nodes more limits ≡ with_call (contents descs nodes calls limits) w
  held_is = ap (λ z. contents z nodes more limits) rest

  pub park_held : ((q : ℕ) → count_at descs'.loose q ≡ count_at descs.loose q + times w.kept q) → descs'.limits ≡ descs.limits → IsTidy descs' → AreCounted A limits descs' more.calls
  park_held loose bounds tidy = record { tidy = tidy; bounds = bounds ∙ are.bounds; counted = λ q. loose q ∙ ap (λ n. n + times w.kept q) (are.counted q) ∙ sym (keeping_more calls.calls calls.next w q) }
