-- A `&Budget<B>` in a walk: its type, where its two fields lie, and the step from it to a `&` to each of them.
use Rattle.std.proofs.Common.{ℕ, ◌+◌, List, [], ◌∷◌, Bor}
use seplogic.Ra.Ura.{Ura}
use mir.Syntax.{Args, a_type, dnil, dcons}
use base.Logic.{id⊢}
use base.Fml.{Lft, Fml}
use prog.Memory.{size, align, up}
use types.Logic.{Logic}
use types.Kit.{Goal, Item, Step, step, ‵, ◌$◌, move, drop, use1, fsplit}
use denote.Builtin.{RefOf}
use denote.Memory.{hidden_shr}
use denote.Opens.{unhide}
use denote.Param.{bounded, param}
use denote.RattleType.{RattleType}
use denote.Ref.{shr_vals}
use denote.Signature.{Slot, plain, type_at}
use Rattle.std.proofs.alloc.Calls.{Al, α, seen}
use Rattle.pl_budget.specs.contracts.Budget as budget
use Rattle.pl_budget.specs.contracts.counter.Counter as counter

module _ (Z : Al) where
  abbrev pub Whole : RattleType
  Whole = budget.the_row (param 0 Z.row)

  abbrev pub lent : Slot 2
  lent = RefOf (0 ∷ []) tt (plain (λ _. Whole)) (λ _. tt)

  abbrev pub type_args : Args
  type_args = bounded (a_type ∷ []) (Z.row, tt) (dcons Z.d (dcons Z.drops dnil))

  -- beside the type of a block's items
  abbrev pub lent_beside : Slot 3
  lent_beside = RefOf (0 ∷ []) tt (plain (λ _. Whole)) (λ _. tt)

  abbrev pub type_args_beside : RattleType → Args
  type_args_beside X = bounded (a_type ∷ a_type ∷ []) (Z.row, (X, tt)) (dcons Z.d (dcons Z.drops dnil))

  abbrev pub inner_at : ℕ × ℕ → ℕ × ℕ
  inner_at p = (p.0, p.1 + up (align (α Z)) 0)

  abbrev pub counter_at : ℕ × ℕ → ℕ × ℕ
  counter_at p = (p.0, p.1 + up 8 (up (align (α Z)) 0 + size (α Z)))

  -- the `&` to the counter
  abbrev pub count_at : Lft → Bor Whole.Denot → Fml
  count_at κ r = hidden_shr counter.the_row κ r.now.counter (counter_at r.ref_ptr).0 (counter_at r.ref_ptr).1

module _ (Z : Al) {M : Type 1} {𝓤 : Ura M} {𝓛 : Logic 𝓤} {K : Type 0} {Γ : List (Item 𝓤)} {G : Goal 𝓤 𝓛.H} where
  open 𝓛 use {H}

  pub fields : K → (κ₁ κ₂ : Lft) (r : Bor (Whole Z).Denot)
      → Step K 𝓛 (‵ (seen Z κ₁ (inner_at Z r.ref_ptr) r.now.inner) ∷ ‵ (count_at Z κ₁ r) ∷ Γ) G (‵ ((type_at (lent Z) (κ₁, (κ₂, tt))).own_val r (shr_vals r)) ∷ Γ) G
  fields t κ₁ κ₂ r = step (λ next.
      fsplit t $ drop t $ unhide t $ fsplit t $ move t (1 ∷ []) $ drop t $ fsplit t $ use1 𝓛 (‵ (seen Z κ₁ (inner_at Z r.ref_ptr) r.now.inner)) (id⊢ 𝓤 _) $
      move t (1 ∷ []) $ fsplit t $ move t (1 ∷ []) $ drop t $ use1 𝓛 (‵ (count_at Z κ₁ r)) (id⊢ 𝓤 _) $ move t (1 ∷ []) $ next)
