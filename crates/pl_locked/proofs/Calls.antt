-- What a caller is told of the steps that it made.
use Rattle.std.proofs.Common.{◌≡◌, ℕ, suc, ◌+◌, ◌≤◌, false, nat_le, List, [], ◌∷◌, ◌++◌, length, refl, sym, ap, ◌∙◌, subst, ⊎_elim, append_assoc, append-nil, length-append, arith}
use Rattle.std.specs.Prelude.{◌||◌}
use Rattle.std.proofs.lemmas.Bool.{lt-leb}
use Rattle.std.proofs.lemmas.List.{same_from_push}
use Rattle.std.proofs.lemmas.List.Elements.{All-push, All-append}
use mathlib.Core.List.{IsPrefix}
use Rattle.pl_model.specs.declared.calls.Call.{Call}
use Rattle.pl_model.specs.declared.calls.Limits.{Limits}
use Rattle.pl_model.specs.declared.calls.Step.{Step}
use Rattle.pl_model.specs.declared.calls.Step.TheVariants.{Begin, Resume}
use Rattle.pl_model.specs.declared.replies.Reply.{Reply}
use Rattle.pl_model.specs.declared.replies.Reply.TheVariants.{Parked}
use Rattle.pl_model.specs.declared.history.Entry.{Entry}
use Rattle.pl_model.specs.History.{entry, of, IsLegal, state_of_history}
use Rattle.pl_history.proofs.Prefixes.{prefix_trans}
use Rattle.pl_model.specs.Waking.{can_progress}
use Rattle.pl_locked.specs.Views.{AreTurns, CallerView, CouldEnd, CouldGetOn, Gains, Glances, GlancesMore, IsBehind, IsLastOf, IsNotInVain, IsTurn, Knows, Makes, NoneInVain, Sees, UsesTurns, Waits, WaitsIn, WaitsOn}

module _ {A : Type 0} where
  -- a step that was put behind a history
  pub gains : (limits : Limits) (most : ℕ) (old new : CallerView A) (h : List (Entry A)) (n : ℕ) (x : Step A) (r : Reply A)
      → IsPrefix old.seen h → n ≡ length (of old.number h) → new.seen ≡ h ++ entry old.number n x r ∷ [] → new.made ≡ old.made ++ entry old.number n x r ∷ []
      → new.number ≡ old.number → new.handed ≡ old.handed → Knows limits most new → Gains limits most old new x r
  gains limits most old new h n x r earlier number seen made same handed knows = record {
    before = h;
    earlier = earlier;
    seen = seen ∙ ap (λ (m : ℕ). h ++ entry old.number m x r ∷ []) number;
    made = made ∙ ap (λ (m : ℕ). old.made ++ entry old.number m x r ∷ []) number;
    number = same;
    handed = handed;
    knows = knows;
  }

  -- it ends a legal history
  pub last-of : (limits : Limits) (most : ℕ) (old new : CallerView A) (x : Step A) (r : Reply A) (g : Gains limits most old new x r) → IsLastOf limits most (entry old.number (length (of old.number g.before)) x r)
  last-of limits most old new x r g =
      let e : Entry A = entry old.number (length (of old.number g.before)) x r in
      let longer : length new.seen ≡ length g.before + 1 = ap length g.seen ∙ length-append g.before (e ∷ []) in
      let room : length new.seen ≤ most = g.knows.room in
      record { before = g.before; legal = subst (IsLegal limits) g.seen g.knows.legal; room = omega arith }

  -- and goes on from what was seen before
  pub goes-on : (limits : Limits) (most : ℕ) (old new : CallerView A) (x : Step A) (r : Reply A) → Gains limits most old new x r → IsPrefix old.seen new.seen
  goes-on limits most old new x r g = prefix_trans old.seen g.before new.seen g.earlier (entry old.number (length (of old.number g.before)) x r ∷ [], sym g.seen)

  -- a call was begun, and waits
  abbrev pub begun : (limits : Limits) (most pid : ℕ) (call : Call A) (c : ℕ) (old new : CallerView A) → Gains limits most old new (Begin pid call) (Parked c) → Waits limits most pid call c old new
  begun limits most pid call c old new g = record {
    number = g.number;
    handed = g.handed;
    earlier = goes-on limits most old new (Begin pid call) (Parked c) g;
    first = length (of old.number g.before);
    began = last-of limits most old new (Begin pid call) (Parked c) g;
    turns = [];
    waiting = λ k d lt. absurd (omega arith);
    made = g.made;
  }

  -- it was tried once more, in vain
  abbrev pub waits_more : (limits : Limits) (most pid : ℕ) (call : Call A) (c : ℕ) (old mid new : CallerView A) → Waits limits most pid call c old mid → Gains limits most mid new (Resume c) (Parked c) → Waits limits most pid call c old new
  waits_more limits most pid call c old mid new w g =
      let e : Entry A = entry mid.number (length (of mid.number g.before)) (Resume c) (Parked c) in
      let first : Entry A = entry old.number w.first (Begin pid call) (Parked c) in record {
        number = g.number ∙ w.number;
        handed = g.handed ∙ w.handed;
        earlier = prefix_trans old.seen mid.seen new.seen w.earlier (goes-on limits most mid new (Resume c) (Parked c) g);
        first = w.first;
        began = w.began;
        turns = w.turns ++ e ∷ [];
        waiting = All-push (WaitsOn limits most old.number c) w.turns e w.waiting (w.number, refl, refl, last-of limits most mid new (Resume c) (Parked c) g);
        made = g.made ∙ (ap (λ (h : List (Entry A)). h ++ e ∷ []) w.made ∙ append_assoc old.made (first ∷ w.turns) (e ∷ []));
      }

  -- the caller saw more
  abbrev pub waits_sees : (limits : Limits) (most pid : ℕ) (call : Call A) (c : ℕ) (old mid new : CallerView A) → Waits limits most pid call c old mid → Sees mid new → Waits limits most pid call c old new
  waits_sees limits most pid call c old mid new w s = record {
    number = s.number ∙ w.number;
    handed = s.handed ∙ w.handed;
    earlier = prefix_trans old.seen mid.seen new.seen w.earlier s.earlier;
    first = w.first;
    began = w.began;
    turns = w.turns;
    waiting = w.waiting;
    made = s.made ∙ w.made;
  }

  -- one turn more
  pub turn_more : (n : ℕ) (limits : Limits) (most pid : ℕ) (call : Call A) (c : ℕ) (old mid new : CallerView A) → WaitsIn n limits most pid call c old mid → IsTurn limits most c mid new → WaitsIn (n + 1) limits most pid call c old new
  turn_more n limits most pid call c old mid new w t = ⊎_elim
      (λ (s : Glances mid new × (length new.seen ≡ length mid.seen)). let few : length w.0.turns ≤ n = w.1 in (waits_sees limits most pid call c old mid new w.0 s.0.0, omega arith))
      (λ (m : (glanced : CallerView A) × GlancesMore mid glanced × Makes limits most glanced new (Resume c) (Parked c)).
      let few : length w.0.turns ≤ n = w.1 in
      let g : Gains limits most m.0 new (Resume c) (Parked c) = m.2.0 in
      let e : Entry A = entry m.0.number (length (of m.0.number g.before)) (Resume c) (Parked c) in
      let long : length (w.0.turns ++ e ∷ []) ≡ length w.0.turns + 1 = length-append w.0.turns (e ∷ []) in
      (waits_more limits most pid call c old m.0 new (waits_sees limits most pid call c old mid m.0 w.0 m.1.0.0) g, omega arith))
      t

  pub uses_more : (n : ℕ) (limits : Limits) (most pid : ℕ) (call : Call A) (c : ℕ) (old mid new : CallerView A) → UsesTurns n limits most pid call c old mid → IsTurn limits most c mid new → UsesTurns (n + 1) limits most pid call c old new
  uses_more n limits most pid call c old mid new u t =
      let next : suc n ≡ n + 1 = omega arith in
      record { begun = u.begun; began = u.began; turns = subst (λ m. AreTurns m limits most c u.begun new) next (mid, u.turns, t) }

  -- What is seen only gets longer.
  pub sees_longer : (old new : CallerView A) → Sees old new → length old.seen ≤ length new.seen
  sees_longer old new s =
      let more = ap length s.earlier.1 in
      let sum : length (old.seen ++ s.earlier.0) ≡ length old.seen + length s.earlier.0 = length-append old.seen s.earlier.0 in
      omega (arith, more, sum)

  -- A call that could end could get on, if one more step was made behind that history.
  pub gets_on : (limits : Limits) (most c : ℕ) (history : List (Entry A)) (new : CallerView A) → CouldEnd limits most history c → IsBehind history new → Knows limits most new → CouldGetOn limits history c
  gets_on limits most c history new could behind knows =
      let longer : length new.seen ≡ length history + 1 = ap length behind.1 ∙ length-append history (behind.0 ∷ []) in
      let room : length new.seen ≤ most = knows.room in
      let few : nat_le most (length history) ≡ false = lt-leb most (length history) (omega arith) in
      sym (ap (λ b. b || can_progress (state_of_history limits history).core c) few) ∙ could

  -- nothing was made, and so nothing in vain
  pub none_made : (limits : Limits) (old new : CallerView A) → new.made ≡ old.made → NoneInVain limits old new
  none_made limits old new same = record { more = []; made = same ∙ sym (append-nil old.made); none = λ k d lt. absurd (omega arith) }

  -- a try behind a history in which the call could get on
  pub none_tried : (limits : Limits) (most c : ℕ) (r : Reply A) (history : List (Entry A)) (old new : CallerView A)
      → Gains limits most old new (Resume c) r → IsBehind history new → CouldGetOn limits history c → NoneInVain limits old new
  none_tried limits most c r history old new g behind could =
      let e : Entry A = entry old.number (length (of old.number g.before)) (Resume c) r in
      let same : g.before ≡ history = (same_from_push g.before history e behind.0 (sym g.seen ∙ behind.1)).0 in
      let legal : IsLegal limits (g.before ++ e ∷ []) = subst (IsLegal limits) g.seen g.knows.legal in
      let before : CouldGetOn limits g.before c = subst (λ (h : List (Entry A)). CouldGetOn limits h c) (sym same) could in
      record {
        more = e ∷ [];
        made = g.made;
        none = All-push (IsNotInVain limits) [] e (λ k d lt. absurd (omega arith)) (λ d is. let number : c ≡ d = cc is in (g.before, legal, subst (CouldGetOn limits g.before) number before));
      }

  -- and none later
  pub none_later : (limits : Limits) (old mid new : CallerView A) → NoneInVain limits old mid → NoneInVain limits mid new → NoneInVain limits old new
  none_later limits old mid new first then_ = record {
    more = first.more ++ then_.more;
    made = then_.made ∙ (ap (λ (h : List (Entry A)). h ++ then_.more) first.made ∙ append_assoc old.made first.more then_.more);
    none = All-append (IsNotInVain limits) first.more then_.more first.none then_.none;
  }

  -- where the caller has only looked before
  pub none_seen : (limits : Limits) (old mid new : CallerView A) → mid.made ≡ old.made → NoneInVain limits mid new → NoneInVain limits old new
  none_seen limits old mid new same later = record { more = later.more; made = later.made ∙ ap (λ (h : List (Entry A)). h ++ later.more) same; none = later.none }
