-- A kernel in which opens met is sound.
use Rattle.std.proofs.Common.{◌≡◌, ℕ, ◌+◌, Bool, true, false, cond, [], ◌∷◌, Option, Some, None, IfSome, refl, sym, ◌∙◌, subst, nat_eq}
use Rattle.std.specs.Prelude.{IsTrue, option_map}
use Rattle.pl_model.specs.declared.calls.Mode.{Mode}
use Rattle.pl_model.specs.declared.node.Node.{Node}
use Rattle.pl_model.specs.declared.node.Node.TheVariants as node
use Rattle.pl_model.specs.Map.{Map, get}
use Rattle.pl_model.specs.State.{Core}
use Rattle.pl_model.specs.Fifo.{meet}
use Rattle.pl_model.specs.Numbered.{numbers}
use Rattle.pl_model.proofs.settling.Meeting.{meet-settled}
use Rattle.pl_parked.specs.declared.call.ParkedCall.{ParkedCall}
use Rattle.pl_numbered.specs.Rising.{Rise}
use Rattle.pl_parked.specs.Calls.{Calls}
use Rattle.pl_parked.specs.Meeting.{meets, marked, all_marked}
use Rattle.pl_desc.specs.Rows.{at, is_pid}
use Rattle.pl_desc.specs.Descs.{Opened}
use Rattle.pl_state.specs.Contents.{Contents, contents, core_of}
use Rattle.pl_state.specs.Sound.{IsSound, IsWaiting, AreCounted, MayKeep, KeepsNodes, keeping, times}
use Rattle.pl_state.proofs.Known.{Known}
use Rattle.pl_state.proofs.waiting.Calls.{get-each}
use Rattle.pl_state.proofs.waiting.Marking.{marked-is}
use Rattle.pl_state.proofs.holders.Belonging.{if_some}
use Rattle.pl_state.proofs.holders.Holding.{keeping-cons}
use Rattle.pl_state.proofs.holders.There.{settled_after}

module _ {A : Type 0} (p : ℕ) (mode : Mode) where
  -- what holds of a call whether it met or not holds of it as it is marked
  marked_has : (P : ParkedCall A → Type 0) → ((w : ParkedCall A) → P w → P (record w { met = true })) → (w : ParkedCall A) → P w → P (marked p mode w)
  marked_has P met w h = by (meets p mode w)
    where
      by : (b : Bool) → P (cond b (record w { met = true }) w)
      by true = met w h
      by false = h

  all_have : (P : ParkedCall A → Type 0) → ((w : ParkedCall A) → P w → P (record w { met = true })) → (calls : Map ℕ (ParkedCall A)) (n : ℕ) → IfSome (get nat_eq calls n) P → IfSome (get nat_eq (all_marked p mode calls) n) P
  all_have P met calls n h = subst (λ o. IfSome o P) (sym (get-each (marked p mode) calls n)) (by (get nat_eq calls n) h)
    where
      by : (o : Option (ParkedCall A)) → IfSome o P → IfSome (option_map (marked p mode) o) P
      by None h = tt
      by (Some w) h = marked_has P met w h

  marked_rise : (low next : ℕ) (calls : Map ℕ (ParkedCall A)) → Rise low next calls → Rise low next (all_marked p mode calls)
  marked_rise low next [] r = r
  marked_rise low next (e ∷ es) r = (r.0, marked_rise (e.0 + 1) next es r.1)

  marked_keeping : (calls : Map ℕ (ParkedCall A)) (d : ℕ) → keeping (all_marked p mode calls) d ≡ keeping calls d
  marked_keeping [] d = refl
  marked_keeping (e ∷ es) d =
      keeping-cons e.0 (marked p mode e.1) (all_marked p mode es) d
      ∙ (λ i. marked_has (λ w. times w.kept d ≡ times e.1.kept d) (λ w h. h) e.1 refl i + marked_keeping es d i)
      ∙ sym (keeping-cons e.0 e.1 es d)

-- a met call may keep what it did
met_may : {A : Type 0} (w : ParkedCall A) (n : Node) → MayKeep w n → MayKeep (record w { met = true }) n
met_may w (node.Pipe q) h = h
met_may w (node.File f) h = h

module _ {A : Type 0} (m : Known A) (p : ℕ) (mode : Mode) where
  open m use {descs, nodes, calls, limits, sound, are}

  abbrev k : Contents A
  k = contents descs nodes calls limits

  abbrev c : Core A numbers
  c = core_of k

  abbrev pub met_calls : Calls A
  met_calls = record { calls = all_marked p mode calls.calls; next = calls.next }

  abbrev pub met_k : Contents A
  met_k = contents descs nodes met_calls limits

  pub met-core : core_of met_k ≡ meet c p mode
  unfolding core_of
  met-core = λ i. record c { parked = marked-is m p mode i }

  pub met_sound : IsSound A met_k
  met_sound = record {
    whole = record {
      rise = marked_rise p mode 0 calls.next calls.calls sound.rise;
      numbered = sound.numbered;
      there = sound.there;
      limit = sound.limit;
      once = sound.once;
      settled = settled_after (core_of met_k) c (meet c p mode) (met-core ∙ sym (meet-settled c sound.settled p mode));
    };
    waiting = λ n. all_have p mode (IsWaiting A) (λ w h. record { few = h.few; keeps = h.keeps; may = h.may }) calls.calls n (sound.waiting n);
    belong = λ n. all_have p mode (λ w. IsTrue (is_pid descs.tables w.pid)) (λ w h. h) calls.calls n (sound.belong n);
    on_nodes = λ n. all_have p mode (KeepsNodes (at descs.opened)) (λ w h. record {
      on = λ i z l. if_some (λ (o : Opened). MayKeep w o.node) (λ (o : Opened). MayKeep (record w { met = true }) o.node) _ (λ o may. met_may w o.node may) (h.on i z l);
      apart = h.apart;
    }) calls.calls n (sound.on_nodes n);
  }

  pub met_held : AreCounted A limits descs met_calls.calls
  met_held = record { tidy = are.tidy; bounds = are.bounds; counted = λ q. are.counted q ∙ sym (marked_keeping p mode calls.calls q) }
