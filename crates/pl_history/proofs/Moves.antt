-- Each step on the history word keeps its rule.
use Rattle.std.proofs.Common.{◌≡◌, ◌≢◌, ℕ, zero, suc, ◌+◌, ◌<◌, ◌==◌, List, [], ◌∷◌, ◌++◌, length, set, true, false, true≢false, refl, sym, ap, ◌∙◌, subst, ⊎_elim, arith, length-append, eq-eqb, nat_eq}
use Rattle.std.specs.Prelude.{slice_index, slice_set}
use Rattle.std.proofs.lemmas.List.{set-get_or, get_or-set_same}
use Rattle.std.proofs.Math.ListN.{length-set}
use mathlib.Core.Option.{none, some, some-ne-none, some-injective}
use mathlib.Core.List.{IsPrefix}
use lib.ListN.{get_elem?}
use prog.Atomic.{either}
use Rattle.atomic_table.specs.Table.{Me, keeps, step, opening, Allows, Splits, Joins}
use Rattle.atomic_table.specs.Seated.{TableId}
use Rattle.atomic_table.proofs.Lists.{at_set, at_snoc, set_again}
use Rattle.pl_model.specs.declared.history.Entry.{Entry}
use Rattle.pl_history.specs.declared.rule.View.{View}
use Rattle.pl_history.specs.Words.{view, nobody, Fits, Kept, Adds, Looks, copied, informed, following}
use Rattle.pl_history.proofs.Prefixes.{prefix_self, prefix_trans}

-- a table whose name says one word has it
pub has_word : (t named : TableId) → t ≡ named → named.words ≡ 1 → 0 < t.words
has_word t named same one = omega (arith, ap (λ (z : TableId). z.words) same, one)

off : false ≡ true → ⊥
off e = true≢false (sym e)

module _ {A : Type 0} where
  from_nil : (log : List (Entry A)) → IsPrefix [] log
  from_nil log = (log, refl)

  fits_set : (r : ℕ) (log : List (Entry A)) (views : List (View A)) (by : ℕ) (w : View A) → ((j : ℕ) (u : View A) → j ≢ by → get_elem? views j ≡ some u → Fits r log j u) → Fits r log by w
      → (j : ℕ) (u : View A) → get_elem? (set views by w) j ≡ some u → Fits r log j u
  fits_set r log views by w others mine j u e =
      ⊎_elim
      (λ (x : (j ≡ by) × (w ≡ u)). subst (λ (y : ℕ × View A). Fits r log y.0 y.1) (λ i. (sym x.0 i, x.1 i)) mine)
      (λ (x : (j ≢ by) × (get_elem? views j ≡ some u)). others j u x.0 x.1)
      (at_set views by j w u e)

  pub begins : Kept {A = A} (opening (0 ∷ []) [] (view true [] []))
  begins = record { seat = 0; log = []; one = omega arith; word = refl; fits = first }
    where
      first : (id : ℕ) (v : View A) → get_elem? (view true [] [] ∷ []) id ≡ some v → Fits 0 [] id v
      first zero v e = subst (Fits 0 [] 0) (some-injective _ _ e) ((λ _. (refl, refl)), from_nil [], from_nil [])
      first (suc id) v e = absurd (some-ne-none v (sym e))

  pub looks : (slots id : ℕ) (me : Me (Entry A) (View A)) → Allows Kept slots id me 0 (λ n. n) (Looks (step slots 0 0 0 none) me)
  looks slots id me s k homes at small =
      let w = view me.0.recorder k.log [] in
      let mine = k.fits id me.0 at in
      let same : slice_set s.words 0 (slice_index s.words 0) ≡ s.words = set-get_or s.words 0 0 in (
        w,
        keeps,
        tt,
        record {
          seat = k.seat;
          log = k.log;
          one = subst (λ (ws : List ℕ). 0 < length ws) (sym same) k.one;
          word = ap (λ ws. slice_index ws 0) same ∙ k.word;
          fits = fits_set k.seat k.log s.views id w (λ j u apart e. k.fits j u e) ((λ r. ((mine.0 r).0, refl)), prefix_self k.log, from_nil k.log);
        },
        (record { recorder = refl; length = k.word; seen = mine.1; told = mine.2; same = λ r. sym (mine.0 r).1 }, refl),
      )

  pub adds : (slots id n : ℕ) (me : Me (Entry A) (View A)) (e : Entry A) → me.0.recorder ≡ true → n ≡ length me.0.seen
      → Allows Kept slots id me 0 (λ m. either (m == n) (n + 1) m) (Adds (step slots 0 n (n + 1) (some e)) me)
  adds slots id n me e recorder count s k homes at small =
      let mine = k.fits id me.0 at in
      let is : me.0.seen ≡ k.log = (mine.0 recorder).1 in
      let log : List (Entry A) = me.0.seen ++ e ∷ [] in
      let w = view me.0.recorder log me.0.told in
      let more : IsPrefix k.log log = (e ∷ [], ap (λ l. l ++ e ∷ []) (sym is)) in
      let found : slice_index s.words 0 ≡ n = k.word ∙ (ap length (sym is) ∙ sym count) in
      let now : either (nat_eq (slice_index s.words 0) n) (n + 1) (slice_index s.words 0) ≡ n + 1 = ap (λ b. either b (n + 1) (slice_index s.words 0)) (eq-eqb (slice_index s.words 0) n found) in
      let grown : length log ≡ n + 1 = length-append me.0.seen (e ∷ []) ∙ ap (λ i. i + 1) (sym count) in
      let many = length-set s.words 0 (either (nat_eq (slice_index s.words 0) n) (n + 1) (slice_index s.words 0)) in
      let some_word = k.one in (
        w,
        keeps,
        tt,
        record {
          seat = k.seat;
          log = log;
          one = omega arith;
          word = get_or-set_same s.words 0 (either (nat_eq (slice_index s.words 0) n) (n + 1) (slice_index s.words 0)) 0 k.one ∙ (now ∙ sym grown);
          fits = fits_set k.seat log s.views id w
              (λ j u apart x. let f = k.fits j u x in ((λ r. absurd (apart ((f.0 r).0 ∙ sym (mine.0 recorder).0))), prefix_trans u.seen k.log log f.1 more, prefix_trans u.told k.log log f.2 more))
              ((λ _. ((mine.0 recorder).0, refl)), prefix_self log, prefix_trans me.0.told k.log log mine.2 more);
        },
        (found, refl, refl),
      )

  pub copies : (id : ℕ) (v : View A) → Splits Kept id v v (copied v)
  copies id v s k at = record {
    seat = k.seat;
    log = k.log;
    one = k.one;
    word = k.word;
    fits = λ j u e. ⊎_elim
        (λ was. k.fits j u (subst (λ l. get_elem? l j ≡ some u) (set_again s.views id v at) was))
        (λ (new : copied v ≡ u). subst (Fits k.seat k.log j) new ((λ r. absurd (off r)), (k.fits id v at).1, from_nil k.log))
        (at_snoc (set s.views id v) (copied v) u j e);
  }

  joins : (id : ℕ) (v : View A) (other : ℕ) (w both : View A) → ((r : ℕ) (log : List (Entry A)) → Fits r log id v → Fits r log other w → Fits r log id both) → Joins Kept id v other w both nobody
  joins id v other w both fit s k at apart there =
      let mine = k.fits id v at in
      let theirs = ⊎_elim (λ (t : (other ≡ id) × (both ≡ w)). absurd (apart t.0)) (λ (t : (other ≢ id) × (get_elem? s.views other ≡ some w)). k.fits other w t.1) (at_set s.views id other both w there) in record {
        seat = k.seat;
        log = k.log;
        one = k.one;
        word = k.word;
        fits = fits_set k.seat k.log (set s.views id both) other nobody
            (λ j u _ e. fits_set k.seat k.log s.views id both (λ i y _ x. k.fits i y x) (fit k.seat k.log mine theirs) j u e)
            ((λ r. absurd (off r)), from_nil k.log, from_nil k.log);
      }

  pub informs : (id : ℕ) (v : View A) (other : ℕ) (w : View A) → Joins Kept id v other w (informed v w) nobody
  informs id v other w = joins id v other w (informed v w) (λ r log f g. (f.0, f.1, g.1))

  pub follows : (id : ℕ) (v : View A) (other : ℕ) (w : View A) → Joins Kept id v other w (following v w) nobody
  follows id v other w = joins id v other w (following v w) (λ r log f g. ((λ x. absurd (off x)), g.1, from_nil log))
