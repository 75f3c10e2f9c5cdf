-- A parked call ends, at the kernel's keys.
use Rattle.std.proofs.Common.{◌≡◌, ℕ, ◌+◌, ◌≤◌, true, false, cond, List, [], ◌∷◌, Option, Some, None, IsSome, refl, sym, ◌∙◌, ap, subst, nat_eq, nat_lt, arith}
use Rattle.std.specs.Set.{is_member}
use Rattle.std.proofs.lemmas.Bool.{eq-eqb}
use Rattle.std.specs.Prelude.{option_map, ◌||◌}
use Rattle.pl_model.specs.Map.{get, put, without}
use Rattle.pl_model.specs.State.{Core}
use Rattle.pl_model.specs.Live.{is_live}
use Rattle.pl_model.specs.Settle.{settle}
use Rattle.pl_model.specs.Step.{without_call, parked_again}
use Rattle.pl_model.specs.Laws.{HasFewer}
use Rattle.pl_model.specs.Numbered.{numbers}
use Rattle.pl_model.proofs.settling.Members.{or_right}
use Rattle.pl_model.proofs.settling.AtOnce.{goes, stays, keep_fewer, drop_fewer}
use Rattle.pl_parked.specs.declared.call.ParkedCall.{ParkedCall}
use Rattle.pl_parked.specs.Calls.{Calls}
use Rattle.pl_desc.specs.Rows.{at, naming, count_at}
use Rattle.pl_desc.specs.Descs.{Opened, Descs, holders}
use Rattle.pl_state.specs.Contents.{Contents, Nodes, contents, waiting_of, parked_of, core_of}
use Rattle.pl_state.specs.LastHold.{Releases, ReleasesAll}
use Rattle.pl_state.specs.Sound.{IsWhole, AreCounted, times, keeping}
use Rattle.pl_state.proofs.Known.{Parts}
use Rattle.pl_state.proofs.waiting.Calls.{get-parked, put-parked, without-parked, get_put_key, put_same, put_put, without_put, Rise-put, Rise-without}
use Rattle.pl_state.proofs.holders.GivenUp.{GivesUp, given, given_whole, given_held}
use Rattle.pl_state.proofs.holders.Holding.{keeping_put, keeping_without, times_member, times-cons, lives-is}
use Rattle.pl_state.proofs.holders.There.{settled_after}

module _ {A : Type 0} (m : Parts A) (n : ℕ) (call : ParkedCall A) (here : get nat_eq m.calls.calls n ≡ Some call) where
  open m use {descs, nodes, calls, limits, whole, are}

  abbrev c : Core A numbers
  c = core_of (contents descs nodes calls limits)

  abbrev left : Calls A
  left = record calls { calls = without nat_eq calls.calls n }

  -- each key that it keeps is held for it
  pub end_holds : (key : ℕ) → times call.kept key ≤ count_at descs.loose key
  end_holds key = let all = keeping_without 0 calls.next n calls.calls call key whole.rise here in omega (arith, all, are.counted key)

  -- so it is there
  pub member_there : (key : ℕ) → is_member nat_eq call.kept key ≡ true → IsSome (at descs.opened key)
  member_there key member = by (at descs.opened key) refl
    where
      by : (o : Option Opened) → at descs.opened key ≡ o → IsSome o
      by (Some o) e = refl
      by None e = absurd (let none : holders descs key ≡ 0 = are.tidy.bare key e in omega (arith, none, times_member call.kept key member, end_holds key))

  pub kept_there : (key : ℕ) → call.kept ≡ key ∷ [] → IsSome (at descs.opened key)
  kept_there key kept = member_there key (ap (λ ks. is_member nat_eq ks key) kept ∙ ap (λ b. b || false) (eq-eqb key key refl))

  -- Its holds are given up one after another: the call as it keeps no more than these.
  abbrev only : List ℕ → ParkedCall A
  only keys = record call { kept = keys }

  abbrev with_only : List ℕ → Calls A
  with_only keys = record calls { calls = put nat_eq calls.calls n (only keys) }

  abbrev core_with : List ℕ → Core A numbers
  core_with keys = parked_again c n (waiting_of (only keys))

  -- these are left
  record Keeps (keys : List ℕ) (descs' : Descs) (nodes' : Nodes) : Type 0 where
    pub of_it : (d : ℕ) → is_member nat_eq keys d ≡ true → is_member nat_eq call.kept d ≡ true
    pub whole : IsWhole A (contents descs' nodes' (with_only keys) limits)
    pub are : AreCounted A limits descs' (with_only keys).calls
    pub settles : core_of (contents descs' nodes' (with_only keys) limits) ≡ settle c (core_with keys)

  here_is : get nat_eq c.parked n ≡ Some (waiting_of call)
  unfolding core_of
  here_is = get-parked calls.calls n ∙ ap (λ o. option_map waiting_of o) here

  fewer : (keys : List ℕ) → ((d : ℕ) → is_member nat_eq keys d ≡ true → is_member nat_eq call.kept d ≡ true) → HasFewer c (core_with keys)
  fewer keys of_it = keep_fewer c n (waiting_of call) (waiting_of (only keys)) here_is of_it

  parked_is : (keys : List ℕ) → parked_of (with_only keys).calls ≡ put nat_eq (parked_of calls.calls) n (waiting_of (only keys))
  parked_is keys = put-parked calls.calls n (only keys)

  -- all of them at first
  all_kept : Keeps call.kept descs nodes
  all_kept = record {
    of_it = λ d h. h;
    whole = subst (λ (z : Calls A). IsWhole A (contents descs nodes z limits)) (sym calls_are) whole;
    are = subst (λ (z : Calls A). AreCounted A limits descs z.calls) (sym calls_are) are;
    settles = ap (λ (z : Calls A). core_of (contents descs nodes z limits)) calls_are ∙ sym whole.settled ∙ ap (settle c) (sym core_is);
  }
    where
      calls_are : with_only call.kept ≡ calls
      calls_are = ap (λ es. record calls { calls = es }) (put_same calls.calls n call here)

      core_is : core_with call.kept ≡ c
      core_is = ap (λ es. record c { parked = es }) (put_same c.parked n (waiting_of call) here_is)

  -- one of them goes
  one_less : (key : ℕ) (keys : List ℕ) (d : Descs) (ns : Nodes) → Keeps (key ∷ keys) d ns → (d' : Descs) (ns' : Nodes) → Releases d d' ns ns' key → Keeps keys d' ns'
  unfolding settle core_of
  one_less key keys d ns k d' ns' releases = record {
    of_it = of_it;
    whole = given_whole parts u key d (with_only keys) gives d' ns' releases;
    are = given_held parts u key d (with_only keys) gives d' ns' releases;
    settles = given parts u key d (with_only keys) gives d' ns' releases
        ∙ ap (λ z. settle z (parked_again z n (waiting_of (only keys)))) k.settles
        ∙ goes c (core_with (key ∷ keys)) (parked_again (core_with (key ∷ keys)) n (waiting_of (only keys))) (fewer (key ∷ keys) k.of_it) less
        ∙ ap (λ es. settle c (record c { parked = es })) (put_put c.parked n (waiting_of (only (key ∷ keys))) (waiting_of (only keys)));
  }
    where
      of_it : (d : ℕ) → is_member nat_eq keys d ≡ true → is_member nat_eq call.kept d ≡ true
      of_it d h = k.of_it d (or_right _ _ h)

      parts : Parts A
      parts = record { descs = d; nodes = ns; calls = with_only (key ∷ keys); limits = limits; whole = k.whole; are = k.are }

      u : Core A numbers
      u = parked_again (core_of (contents d ns (with_only (key ∷ keys)) limits)) n (waiting_of (only keys))

      less : HasFewer (core_with (key ∷ keys)) (parked_again (core_with (key ∷ keys)) n (waiting_of (only keys)))
      less = keep_fewer (core_with (key ∷ keys)) n (waiting_of (only (key ∷ keys))) (waiting_of (only keys)) (get_put_key c.parked n (waiting_of (only (key ∷ keys)))) (λ d h. or_right _ _ h)

      loose : (q : ℕ) → count_at d.loose q ≡ keeping (with_only keys).calls q + cond (nat_eq key q) 1 0
      loose q =
          let before = keeping_put calls.calls n call (only (key ∷ keys)) q here in
          let after = keeping_put calls.calls n call (only keys) q here in
          let one = times-cons key keys q in
          omega (arith, k.are.counted q, before, after, one)

      gives : GivesUp parts u key d (with_only keys)
      gives = record {
        alike = record { descriptions = refl; files = refl; names = refl };
        pipes_as_before = refl;
        agrees = record {
          processes = refl;
          rows = refl;
          parked = parked_is keys ∙ sym (put_put (parked_of calls.calls) n (waiting_of (only (key ∷ keys))) (waiting_of (only keys))) ∙ ap (λ es. put nat_eq es n (waiting_of (only keys))) (sym (parked_is (key ∷ keys)));
          next_call = refl;
          limits = refl;
        };
        opened = refl;
        tidy = k.are.tidy;
        bounds = refl;
        held_as_before = λ q. refl;
        loose = loose;
        rise = Rise-put 0 calls.next calls.calls n (only keys) call here whole.rise;
        numbered = whole.numbered;
      }

  none_left : (keys : List ℕ) (d : Descs) (ns : Nodes) → Keeps keys d ns → (d' : Descs) (ns' : Nodes) → ReleasesAll keys d d' ns ns' → Keeps [] d' ns'
  none_left [] d ns k d' ns' r = subst (λ z. Keeps [] z ns') (sym r.0) (subst (λ z. Keeps [] d z) (sym r.1) k)
  none_left (key ∷ keys) d ns k d' ns' r = none_left keys r.0 r.1 (one_less key keys d ns k r.0 r.1 r.2) d' ns' r.3

  -- and the call, which keeps none, goes
  module _ (descs' : Descs) (nodes' : Nodes) (releases : ReleasesAll call.kept descs descs' nodes nodes') where
    abbrev new : Contents A
    new = contents descs' nodes' left limits

    none : Keeps [] descs' nodes'
    none = none_left call.kept descs nodes all_kept descs' nodes' releases

    abbrev dropped : Core A numbers
    dropped = without_call (core_with []) n

    left_is : without nat_eq (with_only []).calls n ≡ left.calls
    left_is = without_put calls.calls n (only [])

    same_keeping : (q : ℕ) → keeping left.calls q ≡ keeping (with_only []).calls q
    same_keeping q =
        let all : keeping (without nat_eq (with_only []).calls n) q + 0 ≡ keeping (with_only []).calls q =
        keeping_without 0 calls.next n (with_only []).calls (only []) q (Rise-put 0 calls.next calls.calls n (only []) call here whole.rise) (get_put_key calls.calls n (only [])) in
        ap (λ es. keeping es q) (sym left_is) ∙ (let e : keeping (without nat_eq (with_only []).calls n) q ≡ keeping (with_only []).calls q = omega (arith, all) in e)

    same_live : (d : ℕ) → is_live dropped d ≡ is_live (core_with []) d
    unfolding core_of
    same_live d =
        lives-is dropped descs.tables left.calls refl refl (without_put (parked_of calls.calls) n (waiting_of (only [])) ∙ sym (without-parked calls.calls n)) descs.limits are.bounds are.tidy.few are.tidy.wide d
        ∙ ap (λ z. nat_lt 0 (naming descs.tables d + z)) (same_keeping d)
        ∙ sym (lives-is (core_with []) descs.tables (with_only []).calls refl refl (sym (parked_is [])) descs.limits are.bounds are.tidy.few are.tidy.wide d)

    pub ended : core_of new ≡ settle c (without_call c n)
    unfolding core_of settle
    ended =
        ap (λ es. record (core_of (contents descs' nodes' (with_only []) limits)) { parked = es }) (sym (ap parked_of left_is) ∙ without-parked (with_only []).calls n)
        ∙ ap (λ z. without_call z n) none.settles
        ∙ sym (stays c (core_with []) dropped (fewer [] none.of_it) (drop_fewer (core_with []) n) same_live)
        ∙ ap (λ es. settle c (record c { parked = es })) (without_put c.parked n (waiting_of (only [])))

    pub ended_whole : IsWhole A new
    ended_whole = record { rise = Rise-without 0 calls.next calls.calls n whole.rise; numbered = whole.numbered; there = none.whole.there; limit = none.whole.limit; once = none.whole.once; settled = settled_after (core_of new) c (without_call c n) ended }

    pub ended_held : AreCounted A limits descs' left.calls
    ended_held = record { tidy = none.are.tidy; bounds = none.are.bounds; counted = λ q. none.are.counted q ∙ sym (same_keeping q) }
