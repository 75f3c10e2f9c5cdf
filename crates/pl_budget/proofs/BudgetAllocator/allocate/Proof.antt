-- The block's bytes are counted first. Where the budget hasn't them the answer is `Err`, and else what the inner allocator answers; where that
-- is `Err` they count no longer.
use Rattle.std.proofs.Common.{◌≡◌, Bool, true, false, [], ◌∷◌, Ok, Err, refl, w64, lit<}
use Rattle.std.proofs.raw_atomic.Walks.{proved, leaves}
use Rattle.std.proofs.VecSteps.Shapes.{after, front, arm_body}
use Rattle.std.proofs.alloc.Calls.{Al, token, Answer, answer_val, Answer-typed, Answer-Ok, Answer-err, Takes, at_takes, Answered, Takes-goes, Takes-gives, answers}
use Rattle.std.specs.Allocator.{HasLayout, block_if_ok}
use mir.Syntax.{Fn, Body}
use mir.MapTy.{inst_fn}
use mir.Val.{Val, vunit, vbool, vint}
use base.Fml.{ftrue, flft}
use contract.BorrowLft.{◌⊑◌, ⊑_trans}
use contract.Monad.{fact}
use contract.Running.{tables}
use prog.Wp.{Env, Wp, after_seq, at_return}
use types.Kit.{Sq, ‵, raw, prop, at_ret, any_q, Post as After, ◌⊛◌, some, later, given, learn, pick, ◌$◌, ◌∵◌, !, qed, move, keep, use0, use1, use2, split, join, fsplit, fjoin, await, suffices, done}
use types.Match.{vrt, in_variant}
use types.Part.{whole, agg}
use types.Run.{enter, of_opd, lit, addr, stop, fld, no_more, and_then, first, branches, switches_on, skips, exec, returns, returns_within}
use types.ByLocal.{alloc_all, pass_all, free_all, look_at, get, get_in, get_tag, through, sets, sets_last, lands_as, env}
use denote.Builtin.{usize}
use denote.Exit.{yes}
use denote.Opens.{shr_dup}
use denote.Plain.{uint_vals, uint_Tells}
use denote.RattleType.{owns}
use denote.RawPtr.{block_ptr}
use denote.Ref.{shr_vals}
use denote.Signature.{plain, types_at}
use denote.Steps.{nothing, heard}
use denote.Triple.Call.{calls_at}
use denote.Triple.Table.{framed}
use denote.Triple.Walked.{Stays, walk_of, stay_dropped, Goes-dropped}
use Rattle.pl_budget.proofs.Lent.{lent, type_args, inner_at, counter_at, fields}
use Rattle.pl_budget.proofs.Counting.{Sizes, Refuses, at_refuses, refuses_goes, refuses_gives, Notes, at_notes, notes_goes, notes_gives}
use Rattle.pl_budget.proofs.counter.Counter.refuses.Met.{met as refuses_met}
use Rattle.pl_budget.proofs.counter.Counter.shrinks.Met.{met as shrinks_met}
use Rattle.pl_budget.proofs.counter.Counter.TheLaws as counts
use Rattle.pl_budget.specs.contracts.counter.Counter as counter
use Rattle.pl_budget.specs.contracts.BudgetAllocator.allocate as F
use Rattle.pl_budget.specs.contracts.BudgetAllocator.allocate.Key as key
use Rattle.pl_budget.proofs.BudgetAllocator.allocate.Statement.{statement}
use Rattle.pl_budget.proofs.BudgetAllocator.allocate.Code as code

module _ (Z : Al) where
  abbrev function : Fn
  function = inst_fn (type_args Z) code.function

  abbrev stayed : Stays (F.ended Z.row Z.g Z.d Z.drops).signature.params (F.ended Z.row Z.g Z.d Z.drops).kept
  stayed = (stay_dropped (lent Z) yes, (stay_dropped (plain (λ _. usize)) yes, (stay_dropped (plain (λ _. usize)) yes, tt)))

pub allocate_spec : {M : Type 1} → statement M
allocate_spec 𝓤 𝓛 𝓜 𝓡 wired R laws g d drops met _ =
    let Z : Al = record { row = R; laws = laws; g = g; d = d; drops = drops } in
    let T = F.ended R g d drops in let c = F.clauses R g d drops 𝓛 𝓜.mem 𝓡.returns in
    let W = walk_of 𝓛 T (stayed Z) c in let 𝓣 = tables 𝓤 𝓛.H 𝓜 𝓡 𝓡.env in
    let word = Goes-dropped 𝓛 2 (plain (λ _. usize)) yes (λ κs x f. refl) in
    proved 𝓛 T (stayed Z) c 𝓜 𝓡 (Goes-dropped 𝓛 2 (lent Z) yes (λ κs x f. refl), (word, (word, tt)))
    (key.name (type_args Z)) (function Z) (code.unfolded 𝓤 𝓛.H 𝓜 𝓡 wired (R, tt) d drops)
    (λ κs. (shr_vals, (uint_vals w64, (uint_vals w64, tt)))) (λ κs. ((λ r vs is. is.0), (uint_Tells w64, (uint_Tells w64, tt))))
    (λ κs qs bounds a τ are.
    let κ = κs.0 in let q = qs.0 in let r = a.0 in let size = a.1.0 in let align = a.1.1.0 in let heap = r.now.inner in
    let size_fits = are.1.0.1 in let align_fits = are.1.1.0.1 in
    let y : W.Ghost = ((κs, qs, bounds, a, (shr_vals r, (vint w64 size ∷ [], (vint w64 align ∷ [], tt)))), τ) in
    let at = counter_at Z r.ref_ptr in let sizes : Sizes = (0, (size, 1)) in let back : Sizes = (size, (0, 1)) in
    let others = ‵ (flft κs.1.0 qs.1.0) ⊛ ‵ ftrue in
    let leave : (answer : Answer.Denot) (v : Val) → Sq 𝓛 (‵ (Answer.own_val answer (v ∷ [])) ∷ ‵ (block_if_ok (token Z heap) τ answer) ∷ ‵ (flft κ q) ∷ others ∷ []) (prop (W.post y v)) = λ answer v.
    suffices ! _ (leaves 𝓛 T (stayed Z) c y v answer (tt, (tt, (tt, tt))) (tt, (tt, (tt, tt)))) $ move ! (2 ∷ 3 ∷ []) $ join ! $
    nothing ! $ nothing ! $ fjoin ! $ nothing ! $ fjoin ! $ nothing ! $ fjoin ! $ move ! (1 ∷ []) $ done ! in
    qed 𝓛 (((‵ (flft κ q) ⊛ others) ⊛ ‵ (owns (types_at T.signature.params κs) a y.0.4)) ∷ (raw (fact 𝓤 (κs.1.0 ⊑ R.lives)) ⊛ raw (fact 𝓤 (HasLayout τ size align))) ∷ []) ∵
    move ! (1 ∷ []) $ split ! $ heard ! _ (λ lives. heard ! _ (λ laid_out.
    split ! $ split ! $ move ! (2 ∷ []) $ fsplit ! $ fields Z ! κ κs.1.0 r $ keep ! (1 ∷ 3 ∷ 0 ∷ 4 ∷ []) $
    shr_dup ! counter.the_row counts.the_row_laws.shr_laws r.now.counter at.0 at.1 κ $ move ! (0 ∷ 2 ∷ []) $
    enter ! _ _ _ _ _ $ alloc_all ! (λ l. pass_all ! refl ((tt, tt), ((tt, record { fits = size_fits }), ((tt, record { fits = align_fits }), tt))) $
    let En : Env 𝓤 𝓛.H = env (function Z).locals l in
    let both : Body = front (after 5 (function Z).body) in
    let Then : After 𝓤 𝓛.H = any_q (after_seq 𝓤 𝓛.H (Wp 𝓤 𝓛.H 𝓣.C 𝓣.Λ En (after 6 (function Z).body) (at_return 𝓤 𝓛.H En (W.post y))) (at_return 𝓤 𝓛.H En (W.post y))) in
    -- [the `&` to the counter; its lifetime's token; the same `&`; the `&` to the inner allocator; the other tokens]
    sets ! (addr ! (through ! refl (fld ! refl (stop !)))) refl (tt, tt) $
    use2 𝓛 (raw ((Refuses 𝓛 𝓜.mem 𝓡.returns).pre (at_refuses 𝓛 𝓜.mem 𝓡.returns κ q at r.now.counter sizes)))
    (refuses_goes 𝓛 𝓜.mem 𝓡.returns κ q at r.now.counter sizes (lit< tt, size_fits, lit< tt)) $
    calls_at ! (framed 𝓤 𝓛.H 𝓜 𝓣) (Refuses 𝓛 𝓜.mem 𝓡.returns) (refuses_met 𝓤 𝓛 𝓜 𝓡 (code.calls-pl_budget::counter::Counter::refuses 𝓡.env wired))
    (at_refuses 𝓛 𝓜.mem 𝓡.returns κ q at r.now.counter sizes) (and_then ! (get ! refl) (and_then ! (lit ! tt) (and_then ! (get ! refl) (and_then ! (lit ! tt) (no_more !))))) (λ u.
    use1 𝓛 (later (some (λ (refused : Bool). given (u ≡ vbool refused) (‵ (flft κ q))))) (refuses_gives 𝓛 𝓜.mem 𝓡.returns κ q at r.now.counter sizes u) $
    await ! tt $ pick ! (λ refused. learn ! (λ is_bool. lands_as ! is_bool refl (tt, tt) $
    -- [its lifetime's token; the `&` to the counter; the `&` to the inner allocator; the other tokens]
    first ! $ branches ! (get ! refl)
    (λ _. sets ! (agg ! (no_more !)) refl (tt, tt) $
    sets ! (agg ! (and_then ! (lit ! tt) (and_then ! (get ! refl) (no_more !)))) refl (Answer-typed false 0 0) $
    returns_within ! (W.post y) refl (look_at ! 0 refl) $ free_all ! refl $ keep ! (0 ∷ 3 ∷ []) $ nothing ! $
    use0 𝓛 (‵ (Answer.own_val (Err (record {})) (answer_val false 0 0 ∷ []))) (Answer-err 𝓛) $ leave (Err (record {})) (answer_val false 0 0))
    (λ _. skips ! $ exec ! 𝓣.C 𝓣.Λ En (after 3 (function Z).body) (at_ret En (W.post y)) $
    sets ! (addr ! (through ! refl (fld ! refl (stop !)))) refl (tt, tt) $ move ! (2 ∷ 0 ∷ []) $
    let passed_on = at_takes Z 𝓛 𝓜.mem 𝓡.returns κ q (inner_at Z r.ref_ptr) heap size align τ in
    let within = ⊑_trans κ κs.1.0 R.lives bounds.0 lives in
    use2 𝓛 (raw ((Takes Z 𝓛 𝓜.mem 𝓡.returns).pre passed_on))
    (Takes-goes Z 𝓛 𝓜.mem 𝓡.returns κ q (inner_at Z r.ref_ptr) heap within size align τ laid_out.0 laid_out.1 size_fits align_fits) $
    calls_at ! (framed 𝓤 𝓛.H 𝓜 𝓣) (Takes Z 𝓛 𝓜.mem 𝓡.returns) (met.allocate drops) passed_on
    (and_then ! (get ! refl) (and_then ! (get ! refl) (and_then ! (get ! refl) (no_more !)))) (λ v.
    use1 𝓛 (later (raw (Answered Z 𝓛 𝓜.mem 𝓡.returns heap τ v) ⊛ ‵ (flft κ q))) (Takes-gives Z 𝓛 𝓜.mem 𝓡.returns κ q (inner_at Z r.ref_ptr) heap size align τ v) $
    await ! tt $ split ! $ answers Z ! 𝓜.mem 𝓡.returns heap τ v
    (λ b o is. fjoin ! $ lands_as ! is refl (Answer-typed true b o) $
    -- [the block; its lifetime's token; the `&` to the counter; the other tokens]
    first ! $ switches_on ! (get_tag ! (vrt ! refl (fld ! refl (stop !))) (whole !)) $ exec ! 𝓣.C 𝓣.Λ En (arm_body 0 both) Then $
    sets ! (of_opd ! (get_in ! (vrt ! refl (fld ! refl (stop !))) (in_variant ! 0 0 refl refl (whole !)))) refl (tt, tt) $
    sets_last ! (agg ! (and_then ! (lit ! tt) (and_then ! (get ! refl) (no_more !)))) refl (Answer-typed true b o) $
    exec ! 𝓣.C 𝓣.Λ En (after 6 (function Z).body) (at_ret En (W.post y)) $ sets ! (of_opd ! (get ! refl)) refl (Answer-typed true b o) $ returns ! (look_at ! 0 refl) $ free_all ! refl $
    keep ! (0 ∷ 1 ∷ 3 ∷ []) $ use0 𝓛 (‵ (Answer.own_val (Ok (block_ptr b o)) (answer_val true b o ∷ []))) (Answer-Ok 𝓛 b o) $ leave (Ok (block_ptr b o)) (answer_val true b o))
    (λ is. lands_as ! is refl (Answer-typed false 0 0) $
    -- [its lifetime's token; the `&` to the counter; the other tokens]
    first ! $ switches_on ! (get_tag ! (vrt ! refl (fld ! refl (stop !))) (whole !)) $ exec ! 𝓣.C 𝓣.Λ En (arm_body 1 both) Then $
    sets ! (of_opd ! (get_in ! (vrt ! refl (fld ! refl (stop !))) (in_variant ! 1 0 refl refl (whole !)))) refl (tt, tt) $
    sets ! (addr ! (through ! refl (fld ! refl (stop !)))) refl (tt, tt) $ move ! (1 ∷ []) $
    use2 𝓛 (raw ((Notes 𝓛 𝓜.mem 𝓡.returns).pre (at_notes 𝓛 𝓜.mem 𝓡.returns κ q at r.now.counter back)))
    (notes_goes 𝓛 𝓜.mem 𝓡.returns κ q at r.now.counter back (size_fits, lit< tt, lit< tt)) $
    calls_at ! (framed 𝓤 𝓛.H 𝓜 𝓣) (Notes 𝓛 𝓜.mem 𝓡.returns) (shrinks_met 𝓤 𝓛 𝓜 𝓡 (code.calls-pl_budget::counter::Counter::shrinks 𝓡.env wired))
    (at_notes 𝓛 𝓜.mem 𝓡.returns κ q at r.now.counter back) (and_then ! (get ! refl) (and_then ! (get ! refl) (and_then ! (lit ! tt) (and_then ! (lit ! tt) (no_more !))))) (λ w.
    use1 𝓛 (later (given (w ≡ vunit) (‵ (flft κ q)))) (notes_gives 𝓛 𝓜.mem 𝓡.returns κ q at r.now.counter back w) $
    await ! tt $ learn ! (λ counted. lands_as ! counted refl (tt, tt) $
    sets_last ! (agg ! (and_then ! (lit ! tt) (and_then ! (get ! refl) (no_more !)))) refl (Answer-typed false 0 0) $
    exec ! 𝓣.C 𝓣.Λ En (after 6 (function Z).body) (at_ret En (W.post y)) $ sets ! (of_opd ! (get ! refl)) refl (Answer-typed false 0 0) $ returns ! (look_at ! 0 refl) $ free_all ! refl $
    nothing ! $ use0 𝓛 (‵ (Answer.own_val (Err (record {})) (answer_val false 0 0 ∷ []))) (Answer-err 𝓛) $ leave (Err (record {})) (answer_val false 0 0)))))))))))))
