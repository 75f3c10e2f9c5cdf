-- A parked call is tried again and waits on, at the kernel's keys.
use Rattle.std.proofs.Common.{◌≡◌, ℕ, List, Some, refl, sym, ◌∙◌, ap, subst, nat_eq, arith}
use Rattle.std.specs.Prelude.{option_map, IfSome, IsTrue}
use Rattle.pl_model.specs.Map.{get, put, change_at}
use Rattle.pl_model.specs.State.{Core, set_pipe}
use Rattle.pl_model.specs.Live.{in_rows, in_parked, pids, is_live}
use Rattle.pl_model.specs.Settle.{settle}
use Rattle.pl_model.specs.Step.{parked_again}
use Rattle.pl_model.specs.Numbered.{numbers}
use Rattle.pl_model.proofs.settling.FromSettled.{changed-settled}
use Rattle.pl_model.specs.Packets.{gain}
use Rattle.pl_model.proofs.settling.Parking.{again_live}
use Rattle.pl_parked.specs.declared.call.ParkedCall.{ParkedCall}
use Rattle.pl_desc.specs.Rows.{at, is_pid}
use Rattle.pl_desc.specs.Descs.{Descs}
use Rattle.pl_state.specs.Contents.{Contents, Nodes, with_pipes, waiting_of, core_of}
use Rattle.pl_state.specs.Sound.{IsSound, IsWaiting, AreCounted, MayWait, KeepsNodes}
use Rattle.pl_state.proofs.Known.{CallOnPipe}
use Rattle.pl_state.proofs.waiting.Calls.{put-parked, get-parked, get_put, Rise-put}
use Rattle.pl_state.proofs.holders.Holding.{keeping_put}
use Rattle.pl_state.proofs.by_call.Begun.{pipe_held}
use Rattle.pl_state.proofs.holders.There.{settled_after}
use Rattle.pl_state.proofs.by_call.Moving.{changed_is, changed_sound}

-- more bytes are taken, and its pipe with other bytes
module _ {A : Type 0} (k : Contents A) (o : CallOnPipe k) (taken : ℕ) (may : MayWait o.call.call taken) (more : List ℕ) (pipes : Nodes) (after : at pipes.pipes ≡ change_at o.pipe (gain more) (at k.nodes.pipes)) where
  open o use {sound, number as n, call as w, here, key, kept, pipe as p, on, held as x, there as is}

  abbrev c : Core A numbers
  c = core_of k

  abbrev now : ParkedCall A
  now = record w { taken = taken }

  abbrev moved_k : Contents A
  moved_k = with_pipes k pipes

  abbrev new : Contents A
  new = record (with_pipes k pipes) { calls = record k.calls { calls = put nat_eq k.calls.calls n now } }

  abbrev moved : Core A numbers
  moved = set_pipe c p (gain more x)

  waits : IsWaiting A w
  waits = subst (λ o. IfSome o (IsWaiting A)) here (sound.waiting n)

  keeps : KeepsNodes (at k.opened) w
  keeps = subst (λ o. IfSome o (KeepsNodes (at k.opened))) here (sound.on_nodes n)

  moved_sound : IsSound A moved_k
  moved_sound = changed_sound k sound key p on x is pipes (gain more) refl after

  again_is : core_of new ≡ parked_again moved n (waiting_of now)
  unfolding core_of
  again_is = with_put ∙ ap (λ z. parked_again z n (waiting_of now)) (changed_is k sound key p on x is pipes (gain more) refl after)
    where
      with_put : core_of new ≡ parked_again (core_of moved_k) n (waiting_of now)
      with_put = λ i. record (core_of moved_k) { parked = put-parked k.calls.calls n now i }

  pub here_is : get nat_eq c.parked n ≡ Some (waiting_of w)
  unfolding core_of
  here_is = get-parked k.calls.calls n ∙ ap (λ o. option_map waiting_of o) here

  again_lives : (d : ℕ) → is_live (parked_again moved n (waiting_of now)) d ≡ is_live c d
  unfolding in_rows in_parked pids
  again_lives d = again_live c sound.settled n (waiting_of w) (waiting_of now) here_is refl d

  pub again_moves : core_of new ≡ settle c (parked_again moved n (waiting_of now))
  unfolding core_of
  again_moves = again_is ∙ sym (settles is)
    where
      settles : at k.nodes.pipes p ≡ Some x → settle c (parked_again moved n (waiting_of now)) ≡ parked_again moved n (waiting_of now)
      settles is = changed-settled c (parked_again moved n (waiting_of now)) sound.settled (record { descriptions = refl; files = refl; names = refl }) again_lives p x (gain more x) is (pipe_held k sound.whole key p on) refl refl

  pub again_sound : IsSound A new
  again_sound = record {
    whole = record {
      rise = Rise-put 0 k.calls.next k.calls.calls n now w here sound.rise;
      numbered = sound.numbered;
      there = moved_sound.there;
      limit = sound.limit;
      once = sound.once;
      settled = settled_after (core_of new) c (parked_again moved n (waiting_of now)) again_moves;
    };
    waiting = λ m. get_put k.calls.calls n now (IsWaiting A) (record { few = waits.few; keeps = waits.keeps; may = may }) m (sound.waiting m);
    belong = λ m. get_put k.calls.calls n now (λ y. IsTrue (is_pid k.tables y.pid)) (subst (λ o. IfSome o (λ y. IsTrue (is_pid k.tables y.pid))) here (sound.belong n)) m (sound.belong m);
    on_nodes = λ m. get_put k.calls.calls n now (KeepsNodes (at k.opened)) (record { on = keeps.on; apart = keeps.apart }) m (sound.on_nodes m);
  }

  -- the same calls keep each description
  pub again_held : (descs : Descs) → AreCounted A k.limits descs k.calls.calls → AreCounted A k.limits descs new.calls.calls
  again_held descs are = record { tidy = are.tidy; bounds = are.bounds; counted = λ d. let same = keeping_put k.calls.calls n w now d here in omega (arith, are.counted d, same) }
