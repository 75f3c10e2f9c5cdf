-- What is put behind a text, a piece at a time or in turns.
use Rattle.std.proofs.Common.{◌≡◌, ℕ, cond, List, [], ◌++◌, length, take, Result, Ok, Err, sym, ap, ◌∙◌, refl, append_assoc, arith}
use Rattle.std.specs.Prelude.{is_ok}
use Rattle.std.specs.Str.{IsUtf8, IsCharBoundary}
use Rattle.std.proofs.lemmas.Str.{IsCharBoundary-from_take}
use Rattle.std.proofs.lemmas.List.{append-nil, length-append}
use Rattle.std.proofs.lemmas.Result.{on_ok_weaker}
use Rattle.std.proofs.Math.Seq.{take-append_seam}
use Rattle.pl_lines.specs.Pushed.{Pushes}

-- by one `push_str`
pub pushed : {X E : Type 0} (result : Result X E) (before after more : List ℕ) → after ≡ cond (is_ok result) (before ++ more) before → Pushes result before after more
pushed (Ok x) before after more e = record { put = more; added = e; whole = refl }
pushed (Err d) before after more e = record { put = []; added = e ∙ sym (append-nil before); whole = tt }

-- a front, where a piece didn't go in
pub front : {X Y E : Type 0} (e : E) {tried : Result X E} {before after first : List ℕ} {result : Result Y E} (more : List ℕ) → result ≡ Err e → Pushes tried before after first → Pushes result before after more
front e more is one = record { put = one.put; added = one.added; whole = rw is tt }

-- one piece behind another
pub behind : {X E : Type 0} {one-is : Result X E} {result : Result X E} {before now after first second : List ℕ} (more : List ℕ) (x : X) → one-is ≡ Ok x
    → Pushes one-is before now first → Pushes result now after second → first ++ second ≡ more → Pushes result before after more
behind {result = result} {before = before} more x is one two both =
    let whole = rw is at one.whole in
    record {
      put = one.put ++ two.put;
      added = two.added ∙ ap (λ t. t ++ two.put) one.added ∙ append_assoc before one.put two.put;
      whole = on_ok_weaker result (λ rest. (λ i. whole i ++ rest i) ∙ both) two.whole;
    }

-- the same, where the first is of two parts
pub behind_both : {X E : Type 0} {one-is : Result X E} {result : Result X E} {before now after second : List ℕ} (first part : List ℕ) (x : X) → one-is ≡ Ok x
    → Pushes one-is before now (first ++ part) → Pushes result now after second → Pushes result before after (first ++ (part ++ second))
behind_both {second = second} first part x is one two = behind _ x is one two (append_assoc first part second)

-- all of it, where nothing stood there before
pub alone : {X E : Type 0} {result : Result X E} {before after more : List ℕ} (x : X) → result ≡ Ok x → before ≡ [] → Pushes result before after more → after ≡ more
alone x is empty one =
    let whole = rw is at one.whole in
    one.added ∙ ap (λ t. t ++ one.put) empty ∙ whole

module _ {X E : Type 0} {result : Result X E} {before after more : List ℕ} (one : Pushes result before after more) where
  pub cut : take (length before) after ≡ before
  cut = rw one.added (take-append_seam before one.put)

  -- the text may be cut where it ended before
  pub may_cut : IsUtf8 before → IsUtf8 after → IsCharBoundary after (length before)
  may_cut text now =
      IsCharBoundary-from_take after (length before) now (omega (arith, ap length one.added, length-append before one.put)) (rw cut text)

-- nothing, where nothing was tried
pub nothing : {X E : Type 0} {e : E} {result : Result X E} (before more : List ℕ) → result ≡ Err e → Pushes result before before more
nothing before more is = record { put = []; added = sym (append-nil before); whole = rw is tt }

-- ---- in turns

-- of all that is to be put, some was, and the rest is still to come
pub record IsSoFar (all before now rest : List ℕ) : Type 0 where
  pub put : List ℕ
  pub added : now ≡ before ++ put
  pub left : all ≡ put ++ rest

module _ {all before now rest : List ℕ} (so_far : IsSoFar all before now rest) where
  -- a piece more went in
  pub one_more : {X E : Type 0} {tried : Result X E} {after piece : List ℕ} (left : List ℕ) (x : X) → tried ≡ Ok x → Pushes tried now after piece → rest ≡ piece ++ left
      → IsSoFar all before after left
  one_more {piece = piece} left x is pushed both =
      let whole = rw is at pushed.whole in
      record {
        put = so_far.put ++ pushed.put;
        added = pushed.added ∙ ap (λ t. t ++ pushed.put) so_far.added ∙ append_assoc before so_far.put pushed.put;
        left = so_far.left ∙ ap (λ t. so_far.put ++ t) (both ∙ ap (λ t. t ++ left) (sym whole)) ∙ sym (append_assoc so_far.put pushed.put left);
      }

  -- a piece didn't
  pub stopped : {X Y E : Type 0} {tried : Result X E} {result : Result Y E} {after piece : List ℕ} (e : E) → result ≡ Err e → Pushes tried now after piece → Pushes result before after all
  stopped e is pushed = record {
    put = so_far.put ++ pushed.put;
    added = pushed.added ∙ ap (λ t. t ++ pushed.put) so_far.added ∙ append_assoc before so_far.put pushed.put;
    whole = rw is tt;
  }

  -- the last piece was tried
  pub ended : {X E : Type 0} {result : Result X E} {after : List ℕ} → Pushes result now after rest → Pushes result before after all
  ended {result = result} pushed = record {
    put = so_far.put ++ pushed.put;
    added = pushed.added ∙ ap (λ t. t ++ pushed.put) so_far.added ∙ append_assoc before so_far.put pushed.put;
    whole = on_ok_weaker result (λ whole. ap (λ t. so_far.put ++ t) whole ∙ sym so_far.left) pushed.whole;
  }

-- nothing is still to come
pub all_put : {Y E : Type 0} {all before now : List ℕ} (y : Y) → IsSoFar all before now [] → Pushes {E = E} (Ok y) before now all
all_put y so_far = record { put = so_far.put; added = so_far.added; whole = sym (so_far.left ∙ append-nil so_far.put) }
