-- What an open that waits comes to as it is tried again, at the kernel's keys.
use Rattle.std.proofs.Common.{◌≡◌, ℕ, ◌+◌, ◌<◌, Bool, true, false, cond, Option, Some, None, IfSome, refl, sym, ◌∙◌, ap, subst, nat_eq, arith}
use Rattle.std.specs.Prelude.{IsTrue, pos, option_map, ◌≤◌}
use Rattle.pl_model.specs.declared.calls.Step.TheVariants.{Resume}
use Rattle.pl_model.specs.declared.replies.Reply.TheVariants.{Fd, Fault, Parked}
use Rattle.pl_model.specs.declared.replies.Errno.TheVariants.{EMFILE}
use Rattle.std.proofs.lemmas.Bool.{eq-eqb}
use Rattle.pl_model.specs.Map.{get, without}
use Rattle.pl_model.specs.State.{Core}
use Rattle.pl_model.specs.Settle.{settle}
use Rattle.pl_model.specs.Trial.{Trial, Wait, still, flowed}
use Rattle.pl_model.specs.Tables.{lowest, install, process_limit}
use Rattle.pl_model.specs.Step.{try, with_kept, kept_at, opened_by, without_call}
use Rattle.pl_model.specs.Numbered.{numbers}
use Rattle.pl_model.proofs.settling.Meeting.{resume_fifo-settled}
use Rattle.pl_parked.specs.Calls.{Calls}
use Rattle.pl_desc.specs.Rows.{at, is_pid, row_at, lowest_of, with_row, count_at, change_count, one_less}
use Rattle.pl_desc.specs.Descs.{Opened, Descs, IsTidy}
use Rattle.pl_desc.proofs.RowLemmas.{pid_in}
use Rattle.pl_state.specs.Contents.{Contents, contents, waiting_of, description_of, core_of}
use Rattle.pl_state.specs.Parking.{OpenWaits}
use Rattle.pl_state.specs.Sound.{IsSound, IsWaiting, AreThere, AreCounted, KeepsNodes, keeping, times}
use Rattle.pl_state.specs.Makes.{MakesAtKeys, MayWantAtKeys}
use Rattle.pl_state.proofs.Known.{Known, parts_of}
use Rattle.pl_state.proofs.waiting.Calls.{get_without, without-parked, Rise-without}
use Rattle.pl_state.proofs.waiting.Ending.{kept_there}
use Rattle.pl_state.proofs.waiting.InOrder.{rise_once}
use Rattle.pl_state.proofs.holders.Belonging.{belong-same}
use Rattle.pl_state.proofs.holders.Holding.{keeping_without, times_one}
use Rattle.pl_state.proofs.holders.There.{settled_after}
use Rattle.pl_state.proofs.by_call.Begun.{does_plain, wants_plain, there}
use Rattle.pl_state.proofs.by_call.Resumed.{parked-is, came, ends_still, waits_still}
use Rattle.pl_state.proofs.by_call.Piping.{lowest_found, lowest-limit}
use Rattle.pl_desc.specs.declared.limits.DescLimits.{DescLimits}

module _ {A : Type 0} (m : Known A) (n pid d : ℕ) (met : Bool) (waits : OpenWaits (contents m.descs m.nodes m.calls m.limits) n pid d met) where
  open m use {descs, nodes, calls, limits, sound, are}
  open waits use {name, mode, flags, call as w, here, asked, of, kept, met_so_far}

  abbrev k : Contents A
  k = contents descs nodes calls limits

  abbrev c : Core A numbers
  c = core_of k

  abbrev open_one : (o : Opened) × (at descs.opened d ≡ Some o)
  open_one = there (at descs.opened d) (kept_there (parts_of m) n w here d kept)

  pub process : is_pid descs.tables pid ≡ true
  process = subst (λ p. is_pid descs.tables p ≡ true) of (subst (λ o. IfSome o (λ y. is_pid descs.tables y.pid ≡ true)) here (sound.belong n))

  pub held : 0 < count_at descs.loose d
  held = let all = keeping_without 0 calls.next n calls.calls w d sound.rise here in omega (arith, all, are.counted d, ap (λ ks. times ks d) kept ∙ times_one d d ∙ ap (λ z. cond z 1 0) (eq-eqb d d refl))

  abbrev pub tried : Bool → Option ℕ → Trial A numbers
  tried has_met place = cond has_met (opened_by c pid d place) (Wait c still w.taken)

  pub tries : try c (waiting_of w) w.call true ≡ tried met (lowest c pid 0)
  unfolding try core_of
  tries =
      ap (λ z. try c (waiting_of w) z true) asked
      ∙ (λ i. cond (met_so_far i) (with_kept c (kept_at c (kept i) 0) (λ o. opened_by c (of i) o.key (lowest c (of i) 0))) (Wait c still w.taken))
      ∙ ap (λ z. cond met (with_kept c (option_map (λ y. record { key = d; description = y }) (option_map description_of z)) (λ o. opened_by c pid o.key (lowest c pid 0))) (Wait c still w.taken)) open_one.1

  pub open-waits : met ≡ false → MakesAtKeys k (Resume n) (Parked n) k
  open-waits unmet = waits_still k sound n w here w.taken refl (came k sound n w here _ (tries ∙ ap (λ b. tried b (lowest c pid 0)) unmet))

  module _ (yes : met ≡ true) where
    placed : (place : Option ℕ) → lowest_of descs.tables descs.limits.descriptors pid 0 ≡ place → try c (waiting_of w) w.call true ≡ opened_by c pid d place
    unfolding lowest core_of
    placed place is = tries ∙ ap (λ b. tried b (lowest c pid 0)) yes ∙ ap (opened_by c pid d) (lowest-limit descs limits are.bounds pid 0 ∙ is)

    pub open-many : lowest_of descs.tables descs.limits.descriptors pid 0 ≡ None → (new : Contents A) → core_of new ≡ settle c (without_call c n) → MakesAtKeys k (Resume n) (Fault EMFILE) new
    open-many none new is = ends_still k sound n w here (Fault EMFILE) new (came k sound n w here _ (placed None none)) is

    -- a row for the descriptor may want memory
    pub open-wants : (fd : ℕ) → lowest_of descs.tables descs.limits.descriptors pid 0 ≡ Some fd → MayWantAtKeys k (Resume n)
    open-wants fd least = wants_plain k k (Resume n) _ (came k sound n w here _ (placed (Some fd) least)) refl

    -- the descriptor comes to name the description, and the call is gone
    module _ (fd : ℕ) (least : lowest_of descs.tables descs.limits.descriptors pid 0 ≡ Some fd)
        (descs' : Descs) (pids : is_pid descs'.tables ≡ is_pid descs.tables) (rows : row_at descs'.tables ≡ with_row (row_at descs.tables) pid fd (Some d))
        (opened : descs'.opened ≡ descs.opened) (limits_are : descs'.limits ≡ descs.limits) (loose : count_at descs'.loose ≡ change_count d one_less (count_at descs.loose)) (tidy : IsTidy descs') where
      abbrev left : Calls A
      left = record calls { calls = without nat_eq calls.calls n }

      abbrev new : Contents A
      new = contents descs' nodes left limits

      abbrev gone : Core A numbers
      gone = without_call (install c pid fd d) n

      settles : settle c gone ≡ gone
      unfolding core_of
      settles =
          let place = lowest_found descs.tables descs.limits.descriptors pid 0 fd least in
          let most = ap (λ (b : DescLimits). b.processes) are.bounds in
          let width = ap (λ (b : DescLimits). b.descriptors) are.bounds in
          let bounds = pid_in descs.tables pid process in
          subst (λ p. settle c (without_call (install c p fd d) n) ≡ without_call (install c p fd d) n) of
          (resume_fifo-settled c sound.settled (rise_once 0 calls.next calls.calls sound.rise) n d (waiting_of w) (parked-is k sound n (Some w) here) kept fd
          (subst (λ p. 1 ≤ p) (sym of) bounds.0) (subst (λ p. p < 1 + process_limit c.limits) (sym of) (let high = bounds.1 in omega (arith, high, are.tidy.few, most)))
          (ap (is_pid descs.tables) of ∙ process) (omega (arith, place.1, width)) (ap (λ p. row_at descs.tables p fd) of ∙ place.0))

      new_is : core_of new ≡ gone
      unfolding core_of
      new_is = λ i. record gone {
        processes = pids i;
        rows = rows i;
        descriptions = λ q. option_map description_of (at (opened i) q);
        parked = without-parked calls.calls n i;
      }

      new_core : core_of new ≡ settle c (without_call (flowed (install c pid fd d) still) n)
      unfolding flowed
      new_core = new_is ∙ sym settles

      pub open-sound : IsSound A new
      open-sound = record {
        whole = record {
          rise = Rise-without 0 calls.next calls.calls n sound.rise;
          numbered = sound.numbered;
          there = subst (λ z. AreThere (at z) nodes) (sym opened) sound.there;
          limit = sound.limit;
          once = sound.once;
          settled = settled_after (core_of new) c (without_call (flowed (install c pid fd d) still) n) new_core;
        };
        waiting = λ q. get_without calls.calls n (IsWaiting A) q (sound.waiting q);
        belong = λ q. get_without calls.calls n (λ y. IsTrue (is_pid descs'.tables y.pid)) q (belong-same calls.calls (is_pid descs.tables) (is_pid descs'.tables) sound.belong pids q);
        on_nodes = λ q. get_without calls.calls n (λ y. KeepsNodes (at descs'.opened) y) q (subst (λ z. IfSome (get nat_eq calls.calls q) (λ y. KeepsNodes (at z) y)) (sym opened) (sound.on_nodes q));
      }

      pub open-held : AreCounted A limits descs' left.calls
      open-held = record { tidy = tidy; bounds = limits_are ∙ are.bounds; counted = λ q. (λ i. loose i q) ∙ fewer q (nat_eq d q) refl }
        where
          one : (q : ℕ) (b : Bool) → nat_eq d q ≡ b → times w.kept q ≡ cond b 1 0
          one q b e = ap (λ ks. times ks q) kept ∙ times_one d q ∙ ap (λ z. cond z 1 0) e

          fewer : (q : ℕ) (b : Bool) → nat_eq d q ≡ b → cond b (one_less (count_at descs.loose q)) (count_at descs.loose q) ≡ keeping left.calls q
          fewer q true e = let all = keeping_without 0 calls.next n calls.calls w q sound.rise here in omega (arith, all, are.counted q, one q true e)
          fewer q false e = let all = keeping_without 0 calls.next n calls.calls w q sound.rise here in omega (arith, all, are.counted q, one q false e)

      pub open-made : MakesAtKeys k (Resume n) (Fd (pos fd)) new
      open-made = does_plain k new (Resume n) _ (Fd (pos fd)) (came k sound n w here _ (placed (Some fd) least)) refl new_core
