-- What a try of a splice or a tee comes to at the kernel's keys.
use Rattle.std.proofs.Common.{◌≡◌, ℕ, Bool, true, false, [], ◌∷◌, Option, Some, None, IfSome, refl, sym, ◌∙◌, ap, subst}
use Rattle.std.specs.Prelude.{option_map, ◌||◌, if◌then◌else◌}
use Rattle.pl_model.specs.declared.replies.Reply.TheVariants.{Fault}
use Rattle.pl_model.specs.declared.replies.Errno.TheVariants.{EINVAL}
use Rattle.pl_model.specs.Trial.{Done, still}
use Rattle.pl_model.specs.declared.calls.Call.{Call}
use Rattle.pl_model.specs.declared.calls.Call.TheVariants as call
use Rattle.pl_model.specs.declared.cases.MoveCase.{MoveCase}
use Rattle.pl_model.specs.State.{Core, Waiting}
use Rattle.pl_model.specs.Splice.{side, Side as MachineSide, is_packet_pipe, try_move, move_row, move_case, source_of, target_of}
use Rattle.pl_model.specs.Step.{try, with_kept, with_both, kept_at}
use Rattle.pl_model.specs.Numbered.{numbers}
use Rattle.pl_desc.specs.Rows.{at}
use Rattle.pl_state.specs.Contents.{Contents, node_of, description_of, core_of}
use Rattle.pl_splices.specs.declared.sides.Side.{Side}
use Rattle.pl_splices.specs.Sides.{side_of, either_is_packets}
use Rattle.pl_splices.specs.Moves.{Goes, OfBoth, IsMove, trial}

-- what is said of a description that is there
pub of_one : {X : Type 0} (o : Option X) (x : X) (P : X → Type 0) → o ≡ Some x → IfSome o P → P x
of_one o x P here h = subst (λ z. IfSome z P) here h

pub say_one : {X : Type 0} (o : Option X) (x : X) (P : X → Type 0) → o ≡ Some x → P x → IfSome o P
say_one o x P here h = subst (λ z. IfSome z P) (sym here) h

module _ {A : Type 0} (k : Contents A) (from to : Side) (is_tee : Bool) (goes : Goes k from to is_tee) where
  abbrev c : Core A numbers
  c = core_of k

  abbrev pub source_side : MachineSide numbers
  source_side = side_of from goes.source.opened

  abbrev pub target_side : MachineSide numbers
  target_side = side_of to goes.target.opened

  -- what is said of both sides
  pub of_both : (P : MachineSide numbers → MachineSide numbers → Type 0) → OfBoth k from to P → P source_side target_side
  of_both P h = of_one (at k.opened to.key) goes.target.opened (λ y. P source_side (side_of to y)) goes.target.here
      (of_one (at k.opened from.key) goes.source.opened (λ x. IfSome (at k.opened to.key) (λ y. P (side_of from x) (side_of to y))) goes.source.here h)

  module _ (len : ℕ) where
    abbrev pub case : MoveCase
    case = move_case (source_of c source_side (node_of from.node)) (target_of c target_side (node_of to.node)) len

    -- one of a packet pipe is refused, and else the row decides
    tried-is : (row : MoveCase) → case ≡ row → trial k from to len is_tee ≡ (if either_is_packets k from.node to.node then Done c still (Fault EINVAL) else move_row c source_side target_side is_tee row)
    unfolding try_move core_of
    tried-is row r =
        ap (λ z. with_kept c (option_map (λ y. record { key = from.key; description = y }) (option_map description_of z)) (λ a. with_kept c (kept_at c (from.key ∷ to.key ∷ []) 1) (λ b. try_move c (side a from.given) (side b to.given) len is_tee))) goes.source.here
        ∙ ap (λ z. with_kept c (option_map (λ y. record { key = to.key; description = y }) (option_map description_of z)) (λ b. try_move c source_side (side b to.given) len is_tee)) goes.target.here
        ∙ (λ i. if is_packet_pipe c (node_of (goes.source.node i)) || is_packet_pipe c (node_of (goes.target.node i)) then Done c still (Fault EINVAL)
        else move_row c source_side target_side is_tee (move_case (source_of c source_side (node_of (goes.source.node i))) (target_of c target_side (node_of (goes.target.node i))) len))
        ∙ ap (λ z. if either_is_packets k from.node to.node then Done c still (Fault EINVAL) else move_row c source_side target_side is_tee z) r

    pub trial-is : either_is_packets k from.node to.node ≡ false → (row : MoveCase) → case ≡ row → trial k from to len is_tee ≡ move_row c source_side target_side is_tee row
    trial-is none row r = tried-is row r ∙ ap (λ b. if b then Done c still (Fault EINVAL) else move_row c source_side target_side is_tee row) none

    pub packets-refused : either_is_packets k from.node to.node ≡ true → trial k from to len is_tee ≡ Done c still (Fault EINVAL)
    packets-refused some = tried-is case refl ∙ ap (λ b. if b then Done c still (Fault EINVAL) else move_row c source_side target_side is_tee case) some

-- the machine's try of such a call is that of its sides
pub move-tries : {A : Type 0} (k : Contents A) (from to : Side) (len : ℕ) (is_tee : Bool) (x : Call A) (w : Waiting A numbers) (may_wait : Bool) → IsMove x from to len is_tee → w.kept ≡ from.key ∷ to.key ∷ []
    → try (core_of k) w x may_wait ≡ trial k from to len is_tee
unfolding try
move-tries k from to len is_tee (call.Splice a f b g n flags) w may_wait is kept =
    ap (λ ks. with_both (core_of k) ks (λ a b. try_move (core_of k) (side a f) (side b g) n false)) kept
    ∙ (λ i. with_both (core_of k) (from.key ∷ to.key ∷ []) (λ a b. try_move (core_of k) (side a (is.0 i)) (side b (is.1 i)) (is.2 i) (sym is.3 i)))
move-tries k from to len is_tee (call.Tee a b n flags) w may_wait is kept =
    ap (λ ks. with_both (core_of k) ks (λ a b. try_move (core_of k) (side a None) (side b None) n true)) kept
    ∙ (λ i. with_both (core_of k) (from.key ∷ to.key ∷ []) (λ a b. try_move (core_of k) (side a (sym is.0 i)) (side b (sym is.1 i)) (is.2 i) (sym is.3 i)))
move-tries k from to len is_tee other w may_wait is kept = absurd is
