-- `Counter::refuses` and `Counter::shrinks` in a walk: what each call is handed, and what the caller has of it.
use Rattle.std.proofs.Common.{◌≡◌, ℕ, ◌<◌, ◌≤◌, ◌^◌, Bool, false, List, [], ◌∷◌, refl, ap, w64}
use seplogic.Ra.Ura.{Ura}
use mir.Val.{Val, vunit, vbool, vint, vptr}
use base.Logic.{SProp, ent, sep, ex, guard, id⊢}
use base.Fml.{Lft, Share, ftrue, fsep, flft}
use prog.Memory.{Memory}
use prog.Routine.{Routine}
use types.Logic.{Logic, sem}
use types.Kit.{‵, raw, ◌⊛◌, some, later, ◌$◌, ◌∵◌, !, qed, move, keep, use1, split, join, pick, fjoin, feq_i, feq_l, flt_i, await, updating, check, show, now as at_once, done}
use contract.Monad.{Fun, fact}
use denote.Builtin.{bool, unit}
use denote.Memory.{hidden_shr}
use denote.Steps.{nothing, only}
use denote.Triple.Statement.{Contract}
use denote.Triple.Spec.{triple_of}
use Rattle.pl_budget.specs.Accounts.{between}
use Rattle.pl_budget.specs.contracts.counter.Counter as counter
use Rattle.pl_budget.specs.contracts.counter.Counter.refuses as refuses
use Rattle.pl_budget.specs.contracts.counter.Counter.shrinks as shrinks

-- the sizes of a block before and behind a call, and the bytes of an item
abbrev pub Sizes : Type 0
Sizes = ℕ × (ℕ × ℕ)

abbrev pub Words : Sizes → Type 0
Words s = (s.0 < 2 ^ 64) × (s.1.0 < 2 ^ 64) × (s.1.1 < 2 ^ 64)

module _ {M : Type 1} {𝓤 : Ura M} (𝓛 : Logic 𝓤) (at_mem : Memory → SProp 𝓤) (run : Routine → Fun 𝓤) where
  abbrev pub Refuses : Contract 𝓤
  Refuses = triple_of 𝓛 refuses.signature (refuses.spec 𝓛 at_mem run)

  abbrev pub Notes : Contract 𝓤
  Notes = triple_of 𝓛 shrinks.signature (shrinks.spec 𝓛 at_mem run)

  -- the call by a `&` for κ, of whose token the share q is lent, to the counter d, which lies at p
  abbrev pub at_refuses : Lft → Share → ℕ × ℕ → counter.the_row.Denot → Sizes → Refuses.Ghost
  at_refuses κ q p d s = (((κ, tt), (q, tt), tt, (record { ref_ptr = p; now = d }, (s.0, (s.1.0, (s.1.1, tt)))), (vptr p.0 p.1 ∷ [], (vint w64 s.0 ∷ [], (vint w64 s.1.0 ∷ [], (vint w64 s.1.1 ∷ [], tt))))), tt)

  abbrev pub at_notes : Lft → Share → ℕ × ℕ → counter.the_row.Denot → Sizes → Notes.Ghost
  at_notes κ q p d s = (((κ, tt), (q, tt), tt, (record { ref_ptr = p; now = d }, (s.0, (s.1.0, (s.1.1, tt)))), (vptr p.0 p.1 ∷ [], (vint w64 s.0 ∷ [], (vint w64 s.1.0 ∷ [], (vint w64 s.1.1 ∷ [], tt))))), tt)

  module _ (κ : Lft) (q : Share) (p : ℕ × ℕ) (d : counter.the_row.Denot) (s : Sizes) where
    open 𝓛 use {H, A}

    pub refuses_goes : Words s → ent 𝓤 (sep 𝓤 (sem 𝓛 (hidden_shr counter.the_row κ d p.0 p.1)) (A.lft κ q)) (Refuses.pre (at_refuses κ q p d s))
    refuses_goes few =
        qed 𝓛 (‵ (hidden_shr counter.the_row κ d p.0 p.1) ∷ ‵ (flft κ q) ∷ []) ∵
        nothing ! $ flt_i ! s.1.1 (2 ^ 64) few.2 $ feq_i ! (List Val) (vint w64 s.1.1 ∷ []) (vint w64 s.1.1 ∷ []) refl $ fjoin ! $ fjoin ! $
        flt_i ! s.1.0 (2 ^ 64) few.1 $ feq_i ! (List Val) (vint w64 s.1.0 ∷ []) (vint w64 s.1.0 ∷ []) refl $ fjoin ! $ fjoin ! $
        flt_i ! s.0 (2 ^ 64) few.0 $ feq_i ! (List Val) (vint w64 s.0 ∷ []) (vint w64 s.0 ∷ []) refl $ fjoin ! $ fjoin ! $
        move ! (1 ∷ []) $ feq_i ! (List Val) (vptr p.0 p.1 ∷ []) (vptr p.0 p.1 ∷ []) refl $ fjoin ! $ fjoin ! $
        nothing ! $ move ! (2 ∷ []) $ join ! $ join ! $ nothing ! $ move ! (1 ∷ []) $ done !

    pub notes_goes : Words s → ent 𝓤 (sep 𝓤 (sem 𝓛 (hidden_shr counter.the_row κ d p.0 p.1)) (A.lft κ q)) (Notes.pre (at_notes κ q p d s))
    notes_goes few =
        qed 𝓛 (‵ (hidden_shr counter.the_row κ d p.0 p.1) ∷ ‵ (flft κ q) ∷ []) ∵
        nothing ! $ flt_i ! s.1.1 (2 ^ 64) few.2 $ feq_i ! (List Val) (vint w64 s.1.1 ∷ []) (vint w64 s.1.1 ∷ []) refl $ fjoin ! $ fjoin ! $
        flt_i ! s.1.0 (2 ^ 64) few.1 $ feq_i ! (List Val) (vint w64 s.1.0 ∷ []) (vint w64 s.1.0 ∷ []) refl $ fjoin ! $ fjoin ! $
        flt_i ! s.0 (2 ^ 64) few.0 $ feq_i ! (List Val) (vint w64 s.0 ∷ []) (vint w64 s.0 ∷ []) refl $ fjoin ! $ fjoin ! $
        move ! (1 ∷ []) $ feq_i ! (List Val) (vptr p.0 p.1 ∷ []) (vptr p.0 p.1 ∷ []) refl $ fjoin ! $ fjoin ! $
        nothing ! $ move ! (2 ∷ []) $ join ! $ join ! $ nothing ! $ move ! (1 ∷ []) $ done !

    abbrev Gone : Type 0
    Gone = Unit {0} × (Unit {0} × (Unit {0} × (Unit {0} × Unit {0})))

    -- the answer is a truth value, and the token is back
    pub refuses_gives : (v : Val) → ent 𝓤 (Refuses.post (at_refuses κ q p d s) v) (H.⇛ (ex 𝓤 (λ (y : Bool). guard 𝓤 (v ≡ vbool y) (A.lft κ q))))
    refuses_gives v =
        qed 𝓛 (raw (Refuses.post (at_refuses κ q p d s) v) ∷ []) ∵ updating ! $
        use1 𝓛 (later (some (λ (y : Bool). ((‵ (flft κ q) ⊛ ‵ ftrue) ⊛ ‵ (bool.own_val y (v ∷ []))) ⊛ some (λ (w : Gone). ‵ (fsep ftrue (fsep ftrue (fsep ftrue (fsep ftrue ftrue)))) ⊛ raw (fact 𝓤 (y ≡ false → between s.0 s.1.0 s.1.1 ≤ d.most)))))) (id⊢ 𝓤 _) $
        await ! tt $ pick ! (λ y. split ! $ split ! $ split ! $ move ! (2 ∷ []) $ feq_l ! (λ e. keep ! (0 ∷ []) $
        at_once ! $ show ! (λ (z : Bool). guard 𝓤 (v ≡ vbool z) (A.lft κ q)) y $ check ! (ap only e) $ done !))

    pub notes_gives : (v : Val) → ent 𝓤 (Notes.post (at_notes κ q p d s) v) (H.⇛ (guard 𝓤 (v ≡ vunit) (A.lft κ q)))
    notes_gives v =
        qed 𝓛 (raw (Notes.post (at_notes κ q p d s) v) ∷ []) ∵ updating ! $
        use1 𝓛 (later (some (λ (y : Unit {0}). ((‵ (flft κ q) ⊛ ‵ ftrue) ⊛ ‵ (unit.own_val y (v ∷ []))) ⊛ some (λ (w : Gone). ‵ (fsep ftrue (fsep ftrue (fsep ftrue (fsep ftrue ftrue)))) ⊛ ‵ ftrue)))) (id⊢ 𝓤 _) $
        await ! tt $ pick ! (λ y. split ! $ split ! $ split ! $ move ! (2 ∷ []) $ feq_l ! (λ e. keep ! (0 ∷ []) $
        at_once ! $ check ! (ap only e) $ done !))
