-- What each change of the entries leaves.
use Rattle.std.proofs.Common.{◌≡◌, ℕ, zero, suc, ◌+◌, ◌-◌, ◌^◌, ◌<◌, Bool, true, false, inl, inr, not, cond, [], ◌∷◌, ◌++◌, Option, Some, None, IfNone, IsSome, refl, sym, ◌∙◌, ap, subst, nat_eq, slice_set, slice_index_or, length, arith}
use Rattle.std.specs.Prelude.{is_some, option_map}
use Rattle.std.proofs.lemmas.List.{set-get_or, append-nil, get_or-set_same, get_or-set_other, length-set}
use Rattle.std.proofs.lemmas.Bool.Decides.{eqb_tells}
use Rattle.std.proofs.lemmas.List.Elements.{filter_map-append}
use Rattle.pl_model.specs.Map.{Map, get, put, without}
use Rattle.pl_numbered.specs.declared.numbered.Numbered.{Numbered}
use Rattle.pl_numbered.specs.Rising.{Rise, number_at}
use Rattle.pl_numbered.specs.Entries.{values_in, is_empty, empties, IsLastFull, AreTidy}
use Rattle.pl_numbered.specs.Numbered.{AllUnder}
use Rattle.pl_numbered.proofs.EntryLemmas.{no-entry, value-at, emptied-values, changed-values, empties-set, empties-push, full, full-rise, full-empties}
use Rattle.pl_numbered.proofs.FromNumber.{all_below}
use Rattle.pl_numbered.proofs.Rising.{Rise-push, Rise-pop, Rise-top, Rise-raise, Rise-set, Rise-within, at-within, number_here}

pub none-of : {X : Type 0} (o : Option X) → is_some o ≡ false → o ≡ None
none-of None h = refl
none-of (Some x) h = absurd (cc)

module _ {X : Type 0} where
  -- an empty entry at the end
  module _ (es : Map ℕ (Option X)) (e : ℕ × Option X) (empty : e.1 ≡ None) where
    -- takes no value along
    pub drop-values : values_in es ≡ values_in (es ++ e ∷ [])
    drop-values = sym (ap (λ o. values_in (es ++ (e.0, o) ∷ [])) empty ∙ filter_map-append (λ (z : ℕ × Option X). option_map (λ x. (z.0, x)) z.1) es ((e.0, None) ∷ []) ∙ append-nil (values_in es))

    pub drop-count : empties (es ++ e ∷ []) ≡ empties es + 1
    drop-count = (let h = empties-push es e in let one : ◌≡◌ {A = ℕ} (cond (is_empty e) 1 0) 1 = ap (λ (o : Option X). cond (not (is_some o)) 1 0) empty in omega arith)

    pub drop-rise : (next : ℕ) → Rise 0 next (es ++ e ∷ []) → Rise 0 next es
    drop-rise next r = Rise-raise 0 e.0 next es (let l = Rise-top 0 next es e r in omega (arith, l)) (Rise-pop 0 next es e r)

  -- Where all values have numbers below another one, all entries do, as the last one has a value.
  pub under : (es : Map ℕ (Option X)) (empty number : ℕ) → AreTidy es empty → AllUnder number (values_in es) → Rise 0 number es
  under [] empty number kept low = omega arith
  under (y ∷ ys) empty number kept low =
      let end = length ys in
      let e = slice_index_or (y ∷ ys) end y in
      let here : number_at (y ∷ ys) end ≡ Some e.0 = number_here (y ∷ ys) end y (omega arith) in
      let has : get nat_eq (values_in (y ∷ ys)) e.0 ≡ e.1 = value-at e.0 0 (2 ^ 64) end (y ∷ ys) y kept.rise here in
      let at : end ≡ length (y ∷ ys) - 1 = omega arith in
      let full : is_some e.1 ≡ true = ap (λ k. is_some (slice_index_or (y ∷ ys) k y).1) at ∙ kept.full y (omega arith) in
      let l : e.0 < number = low e.0 (subst (λ (o : Option X). IsSome o) (sym has) full) in
      Rise-within 0 (2 ^ 64) number (y ∷ ys) (omega arith) kept.rise (all_below number (2 ^ 64) (y ∷ ys) y kept.rise (λ none. absurd (omega (arith, none))) (let its : (slice_index_or (y ∷ ys) (length (y ∷ ys) - 1) y).0 ≡ e.0 = ap (λ k. (slice_index_or (y ∷ ys) k y).0) (sym at) in omega (arith, its, l)))

  last-push : (es : Map ℕ (Option X)) (number : ℕ) (x : X) → IsLastFull (es ++ (number, Some x) ∷ [])
  last-push es number x d some = ap (λ k. is_some (slice_index_or (es ++ (number, Some x) ∷ []) k d).1) (at es) ∙ by es
    where
      at : (es : Map ℕ (Option X)) → length (es ++ (number, Some x) ∷ []) - 1 ≡ length es
      at [] = omega arith
      at (e ∷ es) = let l = long es in omega (arith, l)
        where
          long : (es : Map ℕ (Option X)) → length (es ++ (number, Some x) ∷ []) ≡ length es + 1
          long [] = omega arith
          long (e ∷ es) = let l = long es in omega (arith, l)

      by : (es : Map ℕ (Option X)) → is_some (slice_index_or (es ++ (number, Some x) ∷ []) (length es) d).1 ≡ true
      by [] = refl
      by (e ∷ es) = by es

  -- a value more
  pub push-keeps : (es : Map ℕ (Option X)) (empty number : ℕ) (x : X) → AreTidy es empty → AllUnder number (values_in es) → number < 2 ^ 64 → AreTidy (es ++ (number, Some x) ∷ []) empty
  push-keeps es empty number x kept low l = record {
    rise = Rise-raise 0 (number + 1) (2 ^ 64) (es ++ (number, Some x) ∷ []) (omega (arith, l)) (Rise-push 0 number es (Some x) (under es empty number kept low));
    count = (let h = empties-push es (number, Some x) in let c = kept.count in omega arith);
    full = last-push es number x;
  }

  all-full : (es : Map ℕ (Option X)) (k : ℕ) (d : ℕ × Option X) → k < length (full es) → is_some (slice_index_or (full es) k d).1 ≡ true
  all-full [] k d l = absurd (omega arith)
  all-full (e ∷ es) k d l = by (all-full es) (is_some e.1) refl k l
    where
      by : ((k : ℕ) (d : ℕ × Option X) → k < length (full es) → is_some (slice_index_or (full es) k d).1 ≡ true) → (b : Bool) → is_some e.1 ≡ b → (k : ℕ) → k < length (cond b (e ∷ full es) (full es)) → is_some (slice_index_or (cond b (e ∷ full es) (full es)) k d).1 ≡ true
      by rest true is zero l = is
      by rest true is (suc k) l = rest k d (omega (arith, l))
      by rest false is k l = rest k d l

  -- the empty entries leave
  pub full-keeps : (es : Map ℕ (Option X)) (empty : ℕ) → AreTidy es empty → AreTidy (full es) 0
  full-keeps es empty kept = record { rise = full-rise 0 (2 ^ 64) es kept.rise; count = sym (full-empties es); full = λ d some. all-full es (length (full es) - 1) d (omega (arith, some)) }

-- an entry that gets a value
set-full : {X : Type 0} (es : Map ℕ (Option X)) (k n : ℕ) (y : X) → k < length es → IsLastFull es → IsLastFull (slice_set es k (n, Some y))
set-full {X} es k n y l full d some =
    ap (λ m. is_some (slice_index_or (slice_set es k (n, Some y)) (m - 1) d).1) long
    ∙ elim (eqb_tells (length es - 1) k) as (λ _. is_some (slice_index_or (slice_set es k (n, Some y)) (length es - 1) d).1 ≡ true) [
      | inl t ↦ ap (λ (z : ℕ × Option X). is_some z.1) (ap (λ m. slice_index_or (slice_set es k (n, Some y)) m d) t.1 ∙ get_or-set_same es k (n, Some y) d l)
      | inr t ↦ ap (λ (z : ℕ × Option X). is_some z.1) (get_or-set_other es k (length es - 1) (n, Some y) d t.1) ∙ full d (omega (arith, l))
    ]
  where
    long : length (slice_set es k (n, Some y)) ≡ length es
    long = length-set es k (n, Some y)

-- the place of a number, and the entry there
pub record Found (X : Type 0) : Type 0 where
  pub entries : Map ℕ (Option X)
  pub empty : ℕ
  pub number : ℕ
  pub place : ℕ
  pub entry : ℕ × Option X
  pub kept : AreTidy entries empty
  pub at : number_at entries place ≡ Some number
  pub is : entry ≡ slice_index_or entries place entry

abbrev pub found-in : {T A : Type 0} (n : Numbered T A) (number place : ℕ) (entry : ℕ × Option T) → number_at n.entries.items place ≡ Some number → entry ≡ slice_index_or n.entries.items place entry → Found T
found-in n number place entry at is = record {
  entries = n.entries.items;
  empty = n.empty;
  number = number;
  place = place;
  entry = entry;
  kept = n.kept;
  at = at;
  is = is;
}

module _ {X : Type 0} (f : Found X) where
  open f use {entries, empty, number, place, entry, kept, at, is}

  numbered : entry.0 ≡ number
  numbered = let a = number_here entries place entry (at-within number place entries at) in let b : (slice_index_or entries place entry).0 ≡ number = cc in ap (λ (z : ℕ × Option X). z.0) is ∙ b

  -- the value of the number is what the entry has
  pub entry-value : get nat_eq (values_in entries) number ≡ entry.1
  entry-value = value-at number 0 (2 ^ 64) place entries entry kept.rise at ∙ ap (λ (z : ℕ × Option X). z.1) (sym is)

  -- an empty one stays as it is
  pub still-empty : entry.1 ≡ None → slice_set entries place (entry.0, None) ≡ entries
  still-empty none = ap (λ o. slice_set entries place (entry.0, o)) (sym none) ∙ ap (slice_set entries place) is ∙ set-get_or entries place entry

  -- there is a value where there is one of the number
  pub not-empty : IsSome (get nat_eq (values_in entries) number) → entry.1 ≡ None → ⊥
  not-empty given none = let no = subst (λ (o : Option X). IsSome o) (entry-value ∙ none) given in cc

  module _ (x : X) (full-one : entry.1 ≡ Some x) where
    pub has : get nat_eq (values_in entries) number ≡ Some x
    has = entry-value ∙ full-one

    was_full : ◌≡◌ {A = ℕ} (cond (is_empty (slice_index_or entries place entry)) 1 0) 0
    was_full = ap (λ (o : Option X). cond (not (is_some o)) 1 0) (sym (value-at number 0 (2 ^ 64) place entries entry kept.rise at) ∙ has)

    -- its value leaves
    pub leaves : values_in (slice_set entries place (entry.0, None)) ≡ without nat_eq (values_in entries) number
    leaves = ap (λ m. values_in (slice_set entries place (m, None))) numbered ∙ emptied-values number 0 (2 ^ 64) place entries kept.rise at

    pub emptied-rise : Rise 0 (2 ^ 64) (slice_set entries place (entry.0, None))
    emptied-rise = subst (λ m. Rise 0 (2 ^ 64) (slice_set entries place (m, None))) (sym numbered) (Rise-set number 0 (2 ^ 64) place entries None kept.rise at)

    pub emptied-count : empty + 1 ≡ empties (slice_set entries place (entry.0, None))
    emptied-count = (let h = empties-set place entries (entry.0, None) entry (at-within number place entries at) in let z = was_full in let c = kept.count in omega arith)

    -- it gets another value
    pub changes : (y : X) → values_in (slice_set entries place (entry.0, Some y)) ≡ put nat_eq (values_in entries) number y
    changes y = ap (λ m. values_in (slice_set entries place (m, Some y))) numbered ∙ changed-values number 0 (2 ^ 64) place entries x y kept.rise at has

    pub keeps-changed : (y : X) → AreTidy (slice_set entries place (entry.0, Some y)) empty
    keeps-changed y = record {
      rise = subst (λ m. Rise 0 (2 ^ 64) (slice_set entries place (m, Some y))) (sym numbered) (Rise-set number 0 (2 ^ 64) place entries (Some y) kept.rise at);
      count = (let h = empties-set place entries (entry.0, Some y) entry (at-within number place entries at) in let z = was_full in let c = kept.count in omega arith);
      full = set-full entries place entry.0 y (at-within number place entries at) kept.full;
    }

-- a number without an entry has no value
pub none-there : {X : Type 0} (es now : Map ℕ (Option X)) (n : ℕ) (o : Option ℕ) → now ≡ es → Rise 0 (2 ^ 64) es → ((next : ℕ) → Rise 0 next now → IfNone o (get nat_eq now n ≡ None)) → IfNone o (get nat_eq (values_in es) n ≡ None)
none-there {X} es now n None is r h = no-entry n (2 ^ 64) es r (subst (λ (z : Map ℕ (Option X)). get nat_eq z n ≡ None) is (h (2 ^ 64) (subst (λ (z : Map ℕ (Option X)). Rise 0 (2 ^ 64) z) (sym is) r)))
none-there es now n (Some k) is r h = tt
