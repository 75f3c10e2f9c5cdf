-- One request more is counted. Where that is the one to refuse, the answer is `Err`, and else what the inner allocator answers.
use Rattle.std.proofs.Common.{◌≡◌, Bool, true, false, [], ◌∷◌, Ok, Err, refl, w64}
use Rattle.std.proofs.raw_atomic.Walks.{proved, leaves}
use Rattle.std.proofs.VecSteps.Shapes.{after}
use Rattle.std.proofs.alloc.Calls.{Al, token, Answer, answer_val, Answer-typed, Answer-Ok, Answer-err, Takes, at_takes, Answered, Takes-goes, Takes-gives, answers}
use Rattle.std.specs.Allocator.{HasLayout, block_if_ok}
use mir.Syntax.{Fn}
use mir.MapTy.{inst_fn}
use mir.Val.{Val, vbool, vint}
use base.Fml.{ftrue, flft}
use contract.BorrowLft.{◌⊑◌, ⊑_trans}
use contract.Monad.{fact}
use contract.Running.{tables}
use types.Kit.{Sq, ‵, raw, prop, at_ret, ◌⊛◌, some, later, given, learn, pick, ◌$◌, ◌∵◌, !, qed, move, keep, drop, use0, use1, split, join, fsplit, fjoin, await, suffices, group, done}
use types.Part.{agg}
use types.Run.{enter, lit, addr, stop, fld, no_more, and_then, first, branches, skips, exec, returns, returns_within}
use types.ByLocal.{alloc_all, pass_all, free_all, look_at, get, through, sets, lands_as, env}
use denote.Builtin.{usize}
use denote.Exit.{yes}
use denote.Plain.{uint_vals, uint_Tells}
use denote.RattleType.{owns}
use denote.RawPtr.{block_ptr}
use denote.Ref.{shr_vals}
use denote.Signature.{plain, types_at}
use denote.Steps.{nothing, heard}
use denote.Triple.Call.{calls_at}
use denote.Triple.Table.{framed}
use denote.Triple.Walked.{Stays, walk_of, stay_dropped, Goes-dropped}
use Rattle.pl_refusing.proofs.Lent.{lent, type_args, inner_at, requests_at, fields}
use Rattle.pl_refusing.proofs.Counting.{Count, at_count, hands, gives}
use Rattle.pl_refusing.proofs.Requests.count.Met.{met as count_met}
use Rattle.pl_refusing.specs.contracts.RefusingAllocator.allocate as F
use Rattle.pl_refusing.specs.contracts.RefusingAllocator.allocate.Key as key
use Rattle.pl_refusing.proofs.RefusingAllocator.allocate.Statement.{statement}
use Rattle.pl_refusing.proofs.RefusingAllocator.allocate.Code as code

module _ (Z : Al) where
  abbrev function : Fn
  function = inst_fn (type_args Z) code.function

  abbrev stayed : Stays (F.ended Z.row Z.g Z.d Z.drops).signature.params (F.ended Z.row Z.g Z.d Z.drops).kept
  stayed = (stay_dropped (lent Z) yes, (stay_dropped (plain (λ _. usize)) yes, (stay_dropped (plain (λ _. usize)) yes, tt)))

pub allocate_spec : {M : Type 1} → statement M
allocate_spec 𝓤 𝓛 𝓜 𝓡 wired R laws g d drops met _ =
    let Z : Al = record { row = R; laws = laws; g = g; d = d; drops = drops } in
    let T = F.ended R g d drops in let c = F.clauses R g d drops 𝓛 𝓜.mem 𝓡.returns in
    let W = walk_of 𝓛 T (stayed Z) c in let 𝓣 = tables 𝓤 𝓛.H 𝓜 𝓡 𝓡.env in
    let word = Goes-dropped 𝓛 2 (plain (λ _. usize)) yes (λ κs x f. refl) in
    proved 𝓛 T (stayed Z) c 𝓜 𝓡 (Goes-dropped 𝓛 2 (lent Z) yes (λ κs x f. refl), (word, (word, tt)))
    (key.name (type_args Z)) (function Z) (code.unfolded 𝓤 𝓛.H 𝓜 𝓡 wired (R, tt) d drops)
    (λ κs. (shr_vals, (uint_vals w64, (uint_vals w64, tt)))) (λ κs. ((λ r vs is. is.0), (uint_Tells w64, (uint_Tells w64, tt))))
    (λ κs qs bounds a τ are.
    let κ = κs.0 in let q = qs.0 in let r = a.0 in let size = a.1.0 in let align = a.1.1.0 in let heap = r.now.inner in
    let size_fits = are.1.0.1 in let align_fits = are.1.1.0.1 in
    let y : W.Ghost = ((κs, qs, bounds, a, (shr_vals r, (vint w64 size ∷ [], (vint w64 align ∷ [], tt)))), τ) in
    let others = ‵ (flft κs.1.0 qs.1.0) ⊛ ‵ ftrue in
    let leave : (answer : Answer.Denot) (v : Val) → Sq 𝓛 (‵ (Answer.own_val answer (v ∷ [])) ∷ ‵ (block_if_ok (token Z heap) τ answer) ∷ ‵ (flft κ q) ∷ others ∷ []) (prop (W.post y v)) = λ answer v.
    suffices ! _ (leaves 𝓛 T (stayed Z) c y v answer (tt, (tt, (tt, tt))) (tt, (tt, (tt, tt)))) $ move ! (2 ∷ 3 ∷ []) $ join ! $
    nothing ! $ nothing ! $ fjoin ! $ nothing ! $ fjoin ! $ nothing ! $ fjoin ! $ move ! (1 ∷ []) $ done ! in
    qed 𝓛 (((‵ (flft κ q) ⊛ others) ⊛ ‵ (owns (types_at T.signature.params κs) a y.0.4)) ∷ (raw (fact 𝓤 (κs.1.0 ⊑ R.lives)) ⊛ raw (fact 𝓤 (HasLayout τ size align))) ∷ []) ∵
    move ! (1 ∷ []) $ split ! $ heard ! _ (λ lives. heard ! _ (λ laid_out.
    split ! $ split ! $ move ! (2 ∷ []) $ fsplit ! $ fields Z ! κ κs.1.0 r $ keep ! (1 ∷ 3 ∷ 0 ∷ 4 ∷ []) $
    enter ! _ _ _ _ _ $ alloc_all ! (λ l. pass_all ! refl ((tt, tt), ((tt, record { fits = size_fits }), ((tt, record { fits = align_fits }), tt))) $
    -- [the `&` to the requests; its lifetime's token; the `&` to the inner allocator; the other tokens]
    sets ! (addr ! (through ! refl (fld ! refl (stop !)))) refl (tt, tt) $ group ! 2 $
    let asked = at_count 𝓛 𝓜.mem 𝓡.returns κ q (requests_at Z r.ref_ptr) r.now.requests in
    use1 𝓛 (raw ((Count 𝓛 𝓜.mem 𝓡.returns).pre asked)) (hands 𝓛 𝓜.mem 𝓡.returns κ q (requests_at Z r.ref_ptr) r.now.requests) $
    calls_at ! (framed 𝓤 𝓛.H 𝓜 𝓣) (Count 𝓛 𝓜.mem 𝓡.returns) (count_met 𝓤 𝓛 𝓜 𝓡 (code.calls-pl_refusing::Requests::count 𝓡.env wired)) asked
    (and_then ! (get ! refl) (no_more !)) (λ u.
    use1 𝓛 (later (some (λ (refused : Bool). given (u ≡ vbool refused) (‵ (flft κ q))))) (gives 𝓛 𝓜.mem 𝓡.returns κ q (requests_at Z r.ref_ptr) r.now.requests u) $
    await ! tt $ pick ! (λ refused. learn ! (λ is_bool. lands_as ! is_bool refl (tt, tt) $
    -- [its lifetime's token; the `&` to the inner allocator; the other tokens]
    first ! $ branches ! (get ! refl)
    (λ _. sets ! (agg ! (no_more !)) refl (tt, tt) $
    sets ! (agg ! (and_then ! (lit ! tt) (and_then ! (get ! refl) (no_more !)))) refl (Answer-typed false 0 0) $
    returns_within ! (W.post y) refl (look_at ! 0 refl) $ free_all ! refl $ move ! (1 ∷ []) $ drop ! $ nothing ! $
    use0 𝓛 (‵ (Answer.own_val (Err (record {})) (answer_val false 0 0 ∷ []))) (Answer-err 𝓛) $ leave (Err (record {})) (answer_val false 0 0))
    (λ _. skips ! $ exec ! 𝓣.C 𝓣.Λ (env (function Z).locals l) (after 3 (function Z).body) (at_ret _ (W.post y)) $
    sets ! (addr ! (through ! refl (fld ! refl (stop !)))) refl (tt, tt) $ move ! (1 ∷ 0 ∷ []) $ group ! 2 $
    let passed_on = at_takes Z 𝓛 𝓜.mem 𝓡.returns κ q (inner_at Z r.ref_ptr) heap size align τ in
    let within = ⊑_trans κ κs.1.0 R.lives bounds.0 lives in
    use1 𝓛 (raw ((Takes Z 𝓛 𝓜.mem 𝓡.returns).pre passed_on))
    (Takes-goes Z 𝓛 𝓜.mem 𝓡.returns κ q (inner_at Z r.ref_ptr) heap within size align τ laid_out.0 laid_out.1 size_fits align_fits) $
    calls_at ! (framed 𝓤 𝓛.H 𝓜 𝓣) (Takes Z 𝓛 𝓜.mem 𝓡.returns) (met.allocate drops) passed_on
    (and_then ! (get ! refl) (and_then ! (get ! refl) (and_then ! (get ! refl) (no_more !)))) (λ v.
    use1 𝓛 (later (raw (Answered Z 𝓛 𝓜.mem 𝓡.returns heap τ v) ⊛ ‵ (flft κ q))) (Takes-gives Z 𝓛 𝓜.mem 𝓡.returns κ q (inner_at Z r.ref_ptr) heap size align τ v) $
    await ! tt $ split ! $ answers Z ! 𝓜.mem 𝓡.returns heap τ v
    (λ b o is. fjoin ! $ lands_as ! is refl (Answer-typed true b o) $ returns ! (look_at ! 0 refl) $ free_all ! refl $
    use0 𝓛 (‵ (Answer.own_val (Ok (block_ptr b o)) (answer_val true b o ∷ []))) (Answer-Ok 𝓛 b o) $ leave (Ok (block_ptr b o)) (answer_val true b o))
    (λ is. nothing ! $ lands_as ! is refl (Answer-typed false 0 0) $ returns ! (look_at ! 0 refl) $ free_all ! refl $
    use0 𝓛 (‵ (Answer.own_val (Err (record {})) (answer_val false 0 0 ∷ []))) (Answer-err 𝓛) $ leave (Err (record {})) (answer_val false 0 0)))))))))))
