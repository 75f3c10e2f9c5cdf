-- `Requests::count` in a walk: what the call is handed, and what the caller has of it.
use Rattle.std.proofs.Common.{◌≡◌, ℕ, Bool, List, [], ◌∷◌, refl, ap}
use seplogic.Ra.Ura.{Ura}
use mir.Val.{Val, vbool, vptr}
use base.Logic.{SProp, ent, sep, ex, guard, id⊢}
use base.Fml.{Lft, Share, ftrue, fsep, flft}
use prog.Memory.{Memory}
use prog.Routine.{Routine}
use types.Logic.{Logic, sem}
use types.Kit.{‵, raw, ◌⊛◌, some, later, ◌$◌, ◌∵◌, !, qed, move, keep, use1, split, join, pick, fjoin, feq_i, feq_l, await, updating, check, show, now as at_once, done}
use contract.Monad.{Fun}
use denote.Builtin.{bool}
use denote.Memory.{hidden_shr}
use denote.Steps.{nothing, only}
use denote.Triple.Statement.{Contract}
use denote.Triple.Spec.{triple_of}
use Rattle.pl_refusing.specs.contracts.Requests as requests
use Rattle.pl_refusing.specs.contracts.Requests.count as count

module _ {M : Type 1} {𝓤 : Ura M} (𝓛 : Logic 𝓤) (at_mem : Memory → SProp 𝓤) (run : Routine → Fun 𝓤) where
  abbrev pub Count : Contract 𝓤
  Count = triple_of 𝓛 count.signature (count.spec 𝓛 at_mem run)

  -- the call by a `&` for κ, of whose token the share q is lent, to the requests d, which lie at p
  abbrev pub at_count : Lft → Share → ℕ × ℕ → requests.the_row.Denot → Count.Ghost
  at_count κ q p d = (((κ, tt), (q, tt), tt, (record { ref_ptr = p; now = d }, tt), (vptr p.0 p.1 ∷ [], tt)), tt)

  module _ (κ : Lft) (q : Share) (p : ℕ × ℕ) (d : requests.the_row.Denot) where
    open 𝓛 use {H, A}

    pub hands : ent 𝓤 (sep 𝓤 (sem 𝓛 (hidden_shr requests.the_row κ d p.0 p.1)) (A.lft κ q)) (Count.pre (at_count κ q p d))
    hands =
        qed 𝓛 (‵ (hidden_shr requests.the_row κ d p.0 p.1) ∷ ‵ (flft κ q) ∷ []) ∵
        feq_i ! (List Val) (vptr p.0 p.1 ∷ []) (vptr p.0 p.1 ∷ []) refl $ fjoin ! $ nothing ! $ move ! (1 ∷ []) $ fjoin ! $
        nothing ! $ move ! (2 ∷ []) $ join ! $ join ! $ nothing ! $ move ! (1 ∷ []) $ done !

    -- the answer is a truth value, and the token is back
    pub gives : (v : Val) → ent 𝓤 (Count.post (at_count κ q p d) v) (H.⇛ (ex 𝓤 (λ (y : Bool). guard 𝓤 (v ≡ vbool y) (A.lft κ q))))
    gives v =
        qed 𝓛 (raw (Count.post (at_count κ q p d) v) ∷ []) ∵ updating ! $
        use1 𝓛 (later (some (λ (y : Bool). ((‵ (flft κ q) ⊛ ‵ ftrue) ⊛ ‵ (bool.own_val y (v ∷ []))) ⊛ some (λ (w : Unit {0} × Unit {0}). ‵ (fsep ftrue ftrue) ⊛ ‵ ftrue)))) (id⊢ 𝓤 _) $
        await ! tt $ pick ! (λ y. split ! $ split ! $ split ! $ move ! (2 ∷ []) $ feq_l ! (λ e. keep ! (0 ∷ []) $
        at_once ! $ show ! (λ (z : Bool). guard 𝓤 (v ≡ vbool z) (A.lft κ q)) y $ check ! (ap only e) $ done !))
