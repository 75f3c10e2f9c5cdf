-- What the block grows by is counted first. Where the budget hasn't it the answer is `Err`, and else what the inner allocator answers; where
-- that is `Err` it counts no longer.
use Rattle.std.proofs.Common.{◌≡◌, ℕ, Bool, true, false, [], ◌∷◌, refl, w64}
use Rattle.std.proofs.raw_atomic.Walks.{proved, leaves}
use Rattle.std.proofs.VecSteps.Shapes.{after, front, arm_body}
use Rattle.std.proofs.alloc.Calls.{Al, token, Answer, answer_val, Answer-typed}
use Rattle.std.proofs.alloc.Resizes.{Grows, Resizes, at_resizes, left_by, Flagged, Resizes-goes, Resizes-gives, result_of, result_own, asked, heard_all, flagged}
use types.Logic.{sem}
use Rattle.std.specs.Allocator.{array_of, block_with_items, resized_if_ok}
use mir.Syntax.{Fn, Body}
use mir.MapTy.{inst_fn}
use mir.Val.{vunit, vbool, vint}
use base.Logic.{never, ex, fst∗}
use base.Fml.{Fml, ftrue, ffalse, fsep, flft}
use contract.BorrowLft.{◌⊑◌, ⊑_trans}
use contract.Running.{tables}
use prog.Capped.{capped_fits}
use prog.Memory.{size, capped}
use prog.Wp.{Env, Wp, WpFn, after_seq, at_return}
use types.Kit.{Sq, ‵, raw, prop, at_ret, any_q, Post as After, ◌⊛◌, some, later, given, learn, pick, ◌$◌, ◌∵◌, !, qed, move, keep, use0, use1, use2, split, split3, join, fsplit, fjoin, await, regoal, group, suffices, done}
use types.Match.{vrt, in_variant}
use types.Part.{whole, agg}
use types.Run.{enter, of_opd, lit, size_word, addr, stop, fld, no_more, and_then, first, branches, switches_on, skips, exec, returns, returns_within}
use types.ByLocal.{alloc_all, pass_all, free_all, look_at, get, get_in, get_tag, through, sets, sets_last, lands_as, env}
use denote.Builtin.{usize, RawPtr}
use denote.Exit.{yes}
use denote.Opens.{shr_dup}
use denote.Param.{layout, param}
use denote.Plain.{uint_vals, uint_Tells}
use denote.RattleType.{RattleType, owns}
use denote.RawPtr.{Ptr, block_ptr, null_ptr, in_a_block, rawptr_vals, rawptr_Tells}
use denote.Ref.{shr_vals}
use denote.Signature.{plain, types_at}
use denote.Steps.{nothing}
use denote.Triple.Call.{calls_at}
use denote.Triple.Table.{framed}
use denote.Triple.Walked.{Stays, walk_of, stay_dropped, Goes-dropped}
use Rattle.pl_budget.proofs.Lent.{lent_beside, type_args_beside, inner_at, counter_at, fields}
use Rattle.pl_budget.proofs.Counting.{Sizes, Refuses, at_refuses, refuses_goes, refuses_gives, Notes, at_notes, notes_goes, notes_gives}
use Rattle.pl_budget.proofs.counter.Counter.refuses.Met.{met as refuses_met}
use Rattle.pl_budget.proofs.counter.Counter.shrinks.Met.{met as shrinks_met}
use Rattle.pl_budget.proofs.counter.Counter.TheLaws as counts
use Rattle.pl_budget.specs.contracts.counter.Counter as counter
use Rattle.pl_budget.specs.contracts.BudgetAllocator.grow as F
use Rattle.pl_budget.specs.contracts.BudgetAllocator.grow.Key as key
use Rattle.pl_budget.proofs.BudgetAllocator.grow.Statement.{statement}
use Rattle.pl_budget.proofs.BudgetAllocator.grow.Code as code

module _ (Z : Al) (X : RattleType) where
  abbrev function : Fn
  function = inst_fn (type_args_beside Z X) code.function

  abbrev stayed : Stays (F.ended Z.row X Z.g Z.d Z.drops).signature.params (F.ended Z.row X Z.g Z.d Z.drops).kept
  stayed = (stay_dropped (lent_beside Z) yes, (stay_dropped (plain (λ _. RawPtr)) yes, (stay_dropped (plain (λ _. usize)) yes, (stay_dropped (plain (λ _. usize)) yes, (stay_dropped (plain (λ _. usize)) yes, tt)))))

pub grow_spec : {M : Type 1} → statement M
grow_spec 𝓤 𝓛 𝓜 𝓡 wired R X laws item_laws g d drops met _ =
    let Z : Al = record { row = R; laws = laws; g = g; d = d; drops = drops } in
    let T = F.ended R X g d drops in let c = F.clauses R X g d drops 𝓛 𝓜.mem 𝓡.returns in
    let W = walk_of 𝓛 T (stayed Z X) c in let 𝓣 = tables 𝓤 𝓛.H 𝓜 𝓡 𝓡.env in
    let word = Goes-dropped 𝓛 3 (plain (λ _. usize)) yes (λ κs x f. refl) in
    proved 𝓛 T (stayed Z X) c 𝓜 𝓡 (Goes-dropped 𝓛 3 (lent_beside Z) yes (λ κs x f. refl), (Goes-dropped 𝓛 3 (plain (λ _. RawPtr)) yes (λ κs x f. refl), (word, (word, (word, tt)))))
    (key.name (type_args_beside Z X)) (function Z X) (code.unfolded 𝓤 𝓛.H 𝓜 𝓡 wired (R, (X, tt)) d drops)
    (λ κs. (shr_vals, (rawptr_vals, (uint_vals w64, (uint_vals w64, (uint_vals w64, tt))))))
    (λ κs. ((λ r vs is. is.0), (rawptr_Tells, (uint_Tells w64, (uint_Tells w64, (uint_Tells w64, tt))))))
    (λ κs qs bounds a xs are.
    let κ = κs.0 in let q = qs.0 in let ρ = κs.1.0 in let κT = κs.1.1.0 in let qT = qs.1.1.0 in
    let r = a.0 in let len = a.1.1.0 in let old = a.1.1.1.0 in let new = a.1.1.1.1.0 in let heap = r.now.inner in
    let fl = are.1.1.0.1 in let fo = are.1.1.1.0.1 in let fn = are.1.1.1.1.0.1 in
    let y : Ptr → W.Ghost = λ p. ((κs, qs, bounds, (r, (p, (len, (old, (new, tt))))), (shr_vals r, (rawptr_vals p, (vint w64 len ∷ [], (vint w64 old ∷ [], (vint w64 new ∷ [], tt)))))), xs) in
    let at = counter_at Z r.ref_ptr in let each : ℕ = capped (size (layout X)) in
    let sizes : Sizes = (old, (new, each)) in let back : Sizes = (new, (old, each)) in
    let block : Ptr → Fml = λ p. block_with_items (token Z heap) (param 1 X) p len old xs in
    let leave : (p : Ptr) (ok : Bool) (b o : ℕ) → Sq 𝓛 (‵ (resized_if_ok (token Z heap) (param 1 X) p len old new xs (result_of ok b o)) ∷ ‵ (flft κ q) ∷ ‵ (flft ρ qs.1.0) ∷ ‵ (flft κT qT) ∷ [])
    (prop (W.post (y p) (answer_val ok b o))) = λ p ok b o.
    suffices ! _ (leaves 𝓛 T (stayed Z X) c (y p) (answer_val ok b o) (result_of ok b o) (tt, (tt, (tt, (tt, (tt, tt))))) (tt, (tt, (tt, (tt, (tt, tt)))))) $
    use0 𝓛 (‵ (Answer.own_val (result_of ok b o) (answer_val ok b o ∷ []))) (result_own 𝓛 ok b o) $
    nothing ! $ move ! (5 ∷ 0 ∷ []) $ join ! $ move ! (4 ∷ 0 ∷ []) $ join ! $ move ! (3 ∷ 0 ∷ []) $ join ! $
    nothing ! $ nothing ! $ fjoin ! $ nothing ! $ fjoin ! $ nothing ! $ fjoin ! $ nothing ! $ fjoin ! $ nothing ! $ fjoin ! $ move ! (1 ∷ []) $ done ! in
    qed 𝓛 (((‵ (flft κ q) ⊛ ‵ (flft ρ qs.1.0) ⊛ ‵ (flft κT qT) ⊛ ‵ ftrue) ⊛ ‵ (owns (types_at T.signature.params κs) a (y a.1.0).0.4))
    ∷ raw (asked 𝓛 (ρ ⊑ R.lives) (κT ⊑ X.lives) (Grows X len old new) (block a.1.0)) ∷ []) ∵
    move ! (1 ∷ []) $ heard_all ! (ρ ⊑ R.lives) (κT ⊑ X.lives) (Grows X len old new) (block a.1.0) (λ lives item_lives said.
    move ! (1 ∷ []) $ split ! $ split3 ! $ move ! (2 ∷ []) $ split ! $ move ! (4 ∷ []) $ fsplit ! $ fields Z ! κ ρ r $ keep ! (7 ∷ 1 ∷ 5 ∷ 0 ∷ 3 ∷ 6 ∷ []) $
    in_a_block ! a.1.0 block (fst∗ 𝓤 (never 𝓤) (sem 𝓛 (fsep ffalse (token Z heap (array_of (param 1 X) old) null_ptr)))) (λ b o is_block.
    regoal ! (λ p. prop (WpFn 𝓤 𝓛.H 𝓣.C 𝓣.Λ (function Z X) (W.args (y p)) (W.post (y p)))) is_block refl $
    move ! (1 ∷ []) $ shr_dup ! counter.the_row counts.the_row_laws.shr_laws r.now.counter at.0 at.1 κ $ move ! (0 ∷ 3 ∷ []) $
    enter ! _ _ _ _ _ $ alloc_all ! (λ l. pass_all ! refl ((tt, tt), ((tt, tt), ((tt, record { fits = fl }), ((tt, record { fits = fo }), ((tt, record { fits = fn }), tt))))) $
    let x : Ptr = block_ptr b o in
    let En : Env 𝓤 𝓛.H = env (function Z X).locals l in
    let both : Body = front (after 5 (function Z X).body) in
    let Then : After 𝓤 𝓛.H = any_q (after_seq 𝓤 𝓛.H (Wp 𝓤 𝓛.H 𝓣.C 𝓣.Λ En (after 6 (function Z X).body) (at_return 𝓤 𝓛.H En (W.post (y x)))) (at_return 𝓤 𝓛.H En (W.post (y x)))) in
    -- [the `&` to the counter; its lifetime's token; the same `&`; the block; the `&` to the inner allocator; the other tokens]
    sets ! (addr ! (through ! refl (fld ! refl (stop !)))) refl (tt, tt) $
    use2 𝓛 (raw ((Refuses 𝓛 𝓜.mem 𝓡.returns).pre (at_refuses 𝓛 𝓜.mem 𝓡.returns κ q at r.now.counter sizes)))
    (refuses_goes 𝓛 𝓜.mem 𝓡.returns κ q at r.now.counter sizes (fo, fn, capped_fits (size (layout X)))) $
    calls_at ! (framed 𝓤 𝓛.H 𝓜 𝓣) (Refuses 𝓛 𝓜.mem 𝓡.returns) (refuses_met 𝓤 𝓛 𝓜 𝓡 (code.calls-pl_budget::counter::Counter::refuses 𝓡.env wired))
    (at_refuses 𝓛 𝓜.mem 𝓡.returns κ q at r.now.counter sizes) (and_then ! (get ! refl) (and_then ! (get ! refl) (and_then ! (get ! refl) (and_then ! (size_word !) (no_more !))))) (λ u.
    use1 𝓛 (later (some (λ (refused : Bool). given (u ≡ vbool refused) (‵ (flft κ q))))) (refuses_gives 𝓛 𝓜.mem 𝓡.returns κ q at r.now.counter sizes u) $
    await ! tt $ pick ! (λ refused. learn ! (λ is_bool. lands_as ! is_bool refl (tt, tt) $
    -- [its lifetime's token; the `&` to the counter; the block; the `&` to the inner allocator; the items' token; the inner allocator's]
    first ! $ branches ! (get ! refl)
    (λ _. sets ! (agg ! (no_more !)) refl (tt, tt) $
    sets ! (agg ! (and_then ! (lit ! tt) (and_then ! (get ! refl) (no_more !)))) refl (Answer-typed false 0 0) $
    returns_within ! (W.post (y x)) refl (look_at ! 0 refl) $ free_all ! refl $ keep ! (2 ∷ 0 ∷ 5 ∷ 4 ∷ []) $ leave x false 0 0)
    (λ _. skips ! $ exec ! 𝓣.C 𝓣.Λ En (after 3 (function Z X).body) (at_ret En (W.post (y x))) $
    sets ! (addr ! (through ! refl (fld ! refl (stop !)))) refl (tt, tt) $ move ! (2 ∷ 3 ∷ 0 ∷ 4 ∷ []) $ group ! 4 $
    let passed_on = at_resizes Z X (Grows X) 𝓛 𝓜.mem 𝓡.returns κ κT q qT (inner_at Z r.ref_ptr) heap b o len old new xs in
    let left : Answer.Denot → Fml = left_by Z X (Grows X) 𝓛 𝓜.mem 𝓡.returns κ κT q qT (inner_at Z r.ref_ptr) heap b o len old new xs in
    let within = ⊑_trans κ ρ R.lives bounds.0 lives in
    use1 𝓛 (raw ((Resizes Z X (Grows X) 𝓛 𝓜.mem 𝓡.returns).pre passed_on))
    (Resizes-goes Z X (Grows X) 𝓛 𝓜.mem 𝓡.returns κ κT q qT (inner_at Z r.ref_ptr) heap b o len old new xs within item_lives said fl fo fn) $
    calls_at ! (framed 𝓤 𝓛.H 𝓜 𝓣) (Resizes Z X (Grows X) 𝓛 𝓜.mem 𝓡.returns) (met.grow drops X item_laws) passed_on
    (and_then ! (get ! refl) (and_then ! (get ! refl) (and_then ! (get ! refl) (and_then ! (get ! refl) (and_then ! (get ! refl) (no_more !)))))) (λ v.
    use1 𝓛 (later (raw (ex 𝓤 (Flagged 𝓛 left v)) ⊛ ‵ (flft κ q) ⊛ ‵ (flft κT qT)))
    (Resizes-gives Z X (Grows X) 𝓛 𝓜.mem 𝓡.returns κ κT q qT (inner_at Z r.ref_ptr) heap b o len old new xs v) $
    await ! tt $ split3 ! $ flagged ! v left
    -- [the block; its lifetime's token; the items'; the `&` to the counter; the inner allocator's token]
    (λ b' o' is. lands_as ! is refl (Answer-typed true b' o') $
    first ! $ switches_on ! (get_tag ! (vrt ! refl (fld ! refl (stop !))) (whole !)) $ exec ! 𝓣.C 𝓣.Λ En (arm_body 0 both) Then $
    sets ! (of_opd ! (get_in ! (vrt ! refl (fld ! refl (stop !))) (in_variant ! 0 0 refl refl (whole !)))) refl (tt, tt) $
    sets_last ! (agg ! (and_then ! (lit ! tt) (and_then ! (get ! refl) (no_more !)))) refl (Answer-typed true b' o') $
    exec ! 𝓣.C 𝓣.Λ En (after 6 (function Z X).body) (at_ret En (W.post (y x))) $ sets ! (of_opd ! (get ! refl)) refl (Answer-typed true b' o') $ returns ! (look_at ! 0 refl) $ free_all ! refl $
    keep ! (0 ∷ 1 ∷ 4 ∷ 2 ∷ []) $ leave x true b' o')
    (λ is. lands_as ! is refl (Answer-typed false 0 0) $
    first ! $ switches_on ! (get_tag ! (vrt ! refl (fld ! refl (stop !))) (whole !)) $ exec ! 𝓣.C 𝓣.Λ En (arm_body 1 both) Then $
    sets ! (of_opd ! (get_in ! (vrt ! refl (fld ! refl (stop !))) (in_variant ! 1 0 refl refl (whole !)))) refl (tt, tt) $
    sets ! (addr ! (through ! refl (fld ! refl (stop !)))) refl (tt, tt) $ move ! (3 ∷ 1 ∷ []) $
    use2 𝓛 (raw ((Notes 𝓛 𝓜.mem 𝓡.returns).pre (at_notes 𝓛 𝓜.mem 𝓡.returns κ q at r.now.counter back)))
    (notes_goes 𝓛 𝓜.mem 𝓡.returns κ q at r.now.counter back (fn, fo, capped_fits (size (layout X)))) $
    calls_at ! (framed 𝓤 𝓛.H 𝓜 𝓣) (Notes 𝓛 𝓜.mem 𝓡.returns) (shrinks_met 𝓤 𝓛 𝓜 𝓡 (code.calls-pl_budget::counter::Counter::shrinks 𝓡.env wired))
    (at_notes 𝓛 𝓜.mem 𝓡.returns κ q at r.now.counter back) (and_then ! (get ! refl) (and_then ! (get ! refl) (and_then ! (get ! refl) (and_then ! (size_word !) (no_more !))))) (λ w.
    use1 𝓛 (later (given (w ≡ vunit) (‵ (flft κ q)))) (notes_gives 𝓛 𝓜.mem 𝓡.returns κ q at r.now.counter back w) $
    await ! tt $ learn ! (λ counted. lands_as ! counted refl (tt, tt) $
    sets_last ! (agg ! (and_then ! (lit ! tt) (and_then ! (get ! refl) (no_more !)))) refl (Answer-typed false 0 0) $
    exec ! 𝓣.C 𝓣.Λ En (after 6 (function Z X).body) (at_ret En (W.post (y x))) $ sets ! (of_opd ! (get ! refl)) refl (Answer-typed false 0 0) $ returns ! (look_at ! 0 refl) $ free_all ! refl $
    keep ! (1 ∷ 0 ∷ 3 ∷ 2 ∷ []) $ leave x false 0 0))))))))))))
