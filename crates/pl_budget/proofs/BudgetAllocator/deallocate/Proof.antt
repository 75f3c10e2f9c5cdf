-- The block's bytes count no longer, and it goes back to the inner allocator.
use Rattle.std.proofs.Common.{◌≡◌, List, [], ◌∷◌, refl, w64, lit<}
use Rattle.std.proofs.raw_atomic.Walks.{proved, leaves}
use Rattle.std.proofs.alloc.Calls.{Al, token, Gives, at_gives, Gives-goes, Gives-Gives}
use Rattle.std.specs.Allocator.{HasLayout, owned_block}
use mir.Syntax.{Fn}
use mir.MapTy.{inst_fn}
use mir.Val.{Val, vunit, vint}
use base.Logic.{never, fst∗}
use base.Fml.{Fml, ftrue, flft}
use prog.Wp.{WpFn}
use types.Logic.{sem}
use contract.BorrowLft.{◌⊑◌, ⊑_trans}
use contract.Monad.{fact}
use contract.Running.{tables}
use types.Kit.{‵, raw, prop, ◌⊛◌, later, given, learn, ◌$◌, ◌∵◌, !, qed, move, keep, use1, use2, split, split3, join, fsplit, fjoin, feq_i, await, regoal, suffices, group, done}
use types.Run.{enter, of_opd, lit, unit_lit, addr, stop, fld, no_more, and_then, returns}
use types.ByLocal.{alloc_all, pass_all, free_all, look_at, get, through, sets, lands_as}
use denote.Builtin.{usize, RawPtr}
use denote.Exit.{yes}
use denote.Plain.{uint_vals, uint_Tells}
use denote.RattleType.{owns}
use denote.RawPtr.{Ptr, block_ptr, null_ptr, in_a_block, rawptr_vals, rawptr_Tells}
use denote.Ref.{shr_vals}
use denote.Signature.{plain, types_at}
use denote.Steps.{nothing, heard}
use denote.Triple.Call.{calls_at}
use denote.Triple.Table.{framed}
use denote.Triple.Walked.{Stays, walk_of, stay_dropped, Goes-dropped}
use Rattle.pl_budget.proofs.Lent.{lent, type_args, inner_at, counter_at, fields}
use Rattle.pl_budget.proofs.Counting.{Sizes, Notes, at_notes, notes_goes, notes_gives}
use Rattle.pl_budget.proofs.counter.Counter.shrinks.Met.{met as shrinks_met}
use Rattle.pl_budget.specs.contracts.BudgetAllocator.deallocate as F
use Rattle.pl_budget.specs.contracts.BudgetAllocator.deallocate.Key as key
use Rattle.pl_budget.proofs.BudgetAllocator.deallocate.Statement.{statement}
use Rattle.pl_budget.proofs.BudgetAllocator.deallocate.Code as code

module _ (Z : Al) where
  abbrev function : Fn
  function = inst_fn (type_args Z) code.function

  abbrev stayed : Stays (F.ended Z.row Z.g Z.d Z.drops).signature.params (F.ended Z.row Z.g Z.d Z.drops).kept
  stayed = (stay_dropped (lent Z) yes, (stay_dropped (plain (λ _. RawPtr)) yes, (stay_dropped (plain (λ _. usize)) yes, (stay_dropped (plain (λ _. usize)) yes, tt))))

pub deallocate_spec : {M : Type 1} → statement M
deallocate_spec 𝓤 𝓛 𝓜 𝓡 wired R laws g d drops met _ =
    let Z : Al = record { row = R; laws = laws; g = g; d = d; drops = drops } in
    let T = F.ended R g d drops in let c = F.clauses R g d drops 𝓛 𝓜.mem 𝓡.returns in
    let W = walk_of 𝓛 T (stayed Z) c in let 𝓣 = tables 𝓤 𝓛.H 𝓜 𝓡 𝓡.env in
    let word = Goes-dropped 𝓛 2 (plain (λ _. usize)) yes (λ κs x f. refl) in
    proved 𝓛 T (stayed Z) c 𝓜 𝓡 (Goes-dropped 𝓛 2 (lent Z) yes (λ κs x f. refl), (Goes-dropped 𝓛 2 (plain (λ _. RawPtr)) yes (λ κs x f. refl), (word, (word, tt))))
    (key.name (type_args Z)) (function Z) (code.unfolded 𝓤 𝓛.H 𝓜 𝓡 wired (R, tt) d drops)
    (λ κs. (shr_vals, (rawptr_vals, (uint_vals w64, (uint_vals w64, tt)))))
    (λ κs. ((λ r vs is. is.0), (rawptr_Tells, (uint_Tells w64, (uint_Tells w64, tt)))))
    (λ κs qs bounds a τ are.
    let κ = κs.0 in let q = qs.0 in let r = a.0 in let size = a.1.1.0 in let align = a.1.1.1.0 in let heap = r.now.inner in
    let y : Ptr → W.Ghost = λ p. ((κs, qs, bounds, (r, (p, (size, (align, tt)))), (shr_vals r, (rawptr_vals p, (vint w64 size ∷ [], (vint w64 align ∷ [], tt))))), τ) in
    let size_fits = are.1.1.0.1 in let align_fits = are.1.1.1.0.1 in
    let sizes : Sizes = (size, (0, 1)) in
    let block : Ptr → Fml = λ p. owned_block (token Z heap) τ p in
    qed 𝓛 (((‵ (flft κ q) ⊛ ‵ (flft κs.1.0 qs.1.0) ⊛ ‵ ftrue) ⊛ ‵ (owns (types_at T.signature.params κs) a (y a.1.0).0.4))
    ∷ (raw (fact 𝓤 (κs.1.0 ⊑ R.lives)) ⊛ raw (fact 𝓤 (HasLayout τ size align)) ⊛ ‵ (block a.1.0)) ∷ []) ∵
    move ! (1 ∷ []) $ split3 ! $ heard ! _ (λ lives. heard ! _ (λ laid_out.
    move ! (1 ∷ []) $ split ! $ split ! $ move ! (2 ∷ []) $ fsplit ! $ fields Z ! κ κs.1.0 r $ keep ! (5 ∷ 0 ∷ 1 ∷ 3 ∷ 4 ∷ []) $
    -- [the block; the `&` to the inner allocator; the `&` to the counter; the lifetimes' tokens]
    in_a_block ! a.1.0 block (fst∗ 𝓤 (never 𝓤) (sem 𝓛 (token Z heap τ null_ptr))) (λ b o at.
    regoal ! (λ p. prop (WpFn 𝓤 𝓛.H 𝓣.C 𝓣.Λ (function Z) (W.args (y p)) (W.post (y p)))) at refl $
    enter ! _ _ _ _ _ $ alloc_all ! (λ l. pass_all ! refl ((tt, tt), ((tt, tt), ((tt, record { fits = size_fits }), ((tt, record { fits = align_fits }), tt)))) $
    sets ! (addr ! (through ! refl (fld ! refl (stop !)))) refl (tt, tt) $ move ! (2 ∷ 3 ∷ []) $
    use2 𝓛 (raw ((Notes 𝓛 𝓜.mem 𝓡.returns).pre (at_notes 𝓛 𝓜.mem 𝓡.returns κ q (counter_at Z r.ref_ptr) r.now.counter sizes)))
    (notes_goes 𝓛 𝓜.mem 𝓡.returns κ q (counter_at Z r.ref_ptr) r.now.counter sizes (size_fits, lit< tt, lit< tt)) $
    calls_at ! (framed 𝓤 𝓛.H 𝓜 𝓣) (Notes 𝓛 𝓜.mem 𝓡.returns) (shrinks_met 𝓤 𝓛 𝓜 𝓡 (code.calls-pl_budget::counter::Counter::shrinks 𝓡.env wired))
    (at_notes 𝓛 𝓜.mem 𝓡.returns κ q (counter_at Z r.ref_ptr) r.now.counter sizes)
    (and_then ! (get ! refl) (and_then ! (get ! refl) (and_then ! (lit ! tt) (and_then ! (lit ! tt) (no_more !))))) (λ u.
    use1 𝓛 (later (given (u ≡ vunit) (‵ (flft κ q)))) (notes_gives 𝓛 𝓜.mem 𝓡.returns κ q (counter_at Z r.ref_ptr) r.now.counter sizes u) $
    await ! tt $ learn ! (λ counted. lands_as ! counted refl (tt, tt) $
    -- [its lifetime's token; the block; the `&` to the inner allocator; the other tokens]
    sets ! (addr ! (through ! refl (fld ! refl (stop !)))) refl (tt, tt) $ move ! (1 ∷ []) $ fsplit ! $ move ! (0 ∷ 1 ∷ 3 ∷ 2 ∷ []) $ group ! 4 $
    let at_call = at_gives Z 𝓛 𝓜.mem 𝓡.returns κ q (inner_at Z r.ref_ptr) heap b o size align τ in
    let within = ⊑_trans κ κs.1.0 R.lives bounds.0 lives in
    use1 𝓛 (raw ((Gives Z 𝓛 𝓜.mem 𝓡.returns).pre at_call))
    (Gives-goes Z 𝓛 𝓜.mem 𝓡.returns κ q (inner_at Z r.ref_ptr) heap within b o size align τ laid_out.0 laid_out.1 size_fits align_fits) $
    calls_at ! (framed 𝓤 𝓛.H 𝓜 𝓣) (Gives Z 𝓛 𝓜.mem 𝓡.returns) (met.deallocate drops) at_call
    (and_then ! (get ! refl) (and_then ! (get ! refl) (and_then ! (get ! refl) (and_then ! (get ! refl) (no_more !))))) (λ v.
    use1 𝓛 (later (given (v ≡ vunit) (‵ (flft κ q)))) (Gives-Gives Z 𝓛 𝓜.mem 𝓡.returns κ q (inner_at Z r.ref_ptr) heap b o size align τ v) $
    await ! tt $ learn ! (λ is_unit. lands_as ! is_unit refl (tt, tt) $
    sets ! (of_opd ! (unit_lit !)) refl (tt, tt) $ returns ! (look_at ! 0 refl) $ free_all ! refl $
    suffices ! _ (leaves 𝓛 T (stayed Z) c (y (block_ptr b o)) vunit tt (tt, (tt, (tt, (tt, tt)))) (tt, (tt, (tt, (tt, tt))))) $ join ! $
    nothing ! $ feq_i ! (List Val) (vunit ∷ []) (vunit ∷ []) refl $ nothing ! $ nothing ! $ fjoin ! $ nothing ! $ fjoin ! $ nothing ! $ fjoin ! $ nothing ! $ fjoin ! $ move ! (3 ∷ []) $ done !)))))))))
