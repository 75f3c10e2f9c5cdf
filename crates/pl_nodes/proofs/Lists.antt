-- The lists of slots of all pipes and files.
use Rattle.std.proofs.Common.{◌≡◌, ℕ, zero, suc, ◌+◌, ◌*◌, ◌≤◌, true, cond, List, [], ◌∷◌, Option, Some, None, refl, sym, ◌∙◌, ap, subst, length, map, set, slice_set, arith}
use Rattle.std.specs.Prelude.{is_some, count_by}
use Rattle.std.proofs.Math.ListN.{get_or-map}
use Rattle.std.proofs.lemmas.List.Sums.{sum_by-cons}
use Rattle.pl_segments.specs.declared.slice.Slice.{Slice}
use Rattle.pl_segments.specs.Segments.{Segment, Map, at, live_count, AreGood}
use Rattle.pl_segments.specs.Slices.{AllLie, naming}
use Rattle.pl_segments.specs.Sharing.{named, slots_at, AreShared}
use Rattle.pl_segments.proofs.Storing.{live-is}
use Rattle.pl_segments.proofs.Pushing.{naming-le}
use Rattle.pl_segments.proofs.Shared.{held-named}
use Rattle.pl_nodes.specs.declared.content.Content.{Content}
use Rattle.pl_nodes.specs.declared.content.Content.TheVariants.{Pipe, File}
use Rattle.pl_nodes.specs.NodesView.{pipe_in, file_in, slots_in, lists}

pub lists-at : {A : Type 0} (contents : List (Option (Content A))) (q : ℕ) → slots_at (lists contents) q ≡ slots_in (at contents q)
lists-at contents q = get_or-map slots_in contents q None

-- where neither a pipe nor a file is seen there are no slots
unseen-none : {A : Type 0} (m : Map) (o : Option (Content A)) → pipe_in m o ≡ None → file_in m o ≡ None → slots_in o ≡ []
unseen-none m None p f = refl
unseen-none m (Some (Pipe x)) p f = absurd (cc)
unseen-none m (Some (File x)) p f = absurd (cc)

pub unseen-slots : {A : Type 0} (m : Map) (contents : List (Option (Content A))) → ((q : ℕ) → at (map (pipe_in m) contents) q ≡ None) → ((q : ℕ) → at (map (file_in m) contents) q ≡ None) → (q : ℕ) → slots_at (lists contents) q ≡ []
unseen-slots m contents no_pipe no_file q =
    lists-at contents q
    ∙ unseen-none m (at contents q) (sym (get_or-map (pipe_in m) contents q None) ∙ no_pipe q) (sym (get_or-map (file_in m) contents q None) ∙ no_file q)

pub lists-length : {A : Type 0} (contents : List (Option (Content A))) → length (lists contents) ≡ length contents
lists-length [] = refl
lists-length (p ∷ contents) = ap suc (lists-length contents)

pub lists-set : {A : Type 0} (contents : List (Option (Content A))) (k : ℕ) (o : Option (Content A)) → lists (slice_set contents k o) ≡ set (lists contents) k (slots_in o)
lists-set [] k o = refl
lists-set (p ∷ contents) zero o = refl
lists-set (p ∷ contents) (suc k) o = ap (λ ls. slots_in p ∷ ls) (lists-set contents k o)

-- lists that are alike at each place name alike
none-named : (all : List (List Slice)) (key : ℕ) → ((q : ℕ) → slots_at all q ≡ []) → named all key ≡ 0
none-named [] key none = refl
none-named (xs ∷ all) key none =
    let here : naming xs key ≡ 0 = ap (λ ys. naming ys key) (none zero) in
    let rest = none-named all key (λ q. none (suc q)) in
    omega (arith, here, rest)

pub same-named : (all others : List (List Slice)) (key : ℕ) → ((q : ℕ) → slots_at others q ≡ slots_at all q) → named others key ≡ named all key
same-named all [] key same = sym (none-named all key (λ q. sym (same q)))
same-named [] (ys ∷ others) key same = none-named (ys ∷ others) key same
same-named (xs ∷ all) (ys ∷ others) key same =
    let here : naming ys key ≡ naming xs key = ap (λ zs. naming zs key) (same zero) in
    let rest = same-named all others key (λ q. same (suc q)) in
    (λ i. here i + rest i)

-- where nothing has slots, no segment is there
pub none-live : (held : List (Option Segment)) → ((key : ℕ) → is_some (at held key) ≡ true → ⊥) → count_by is_some held ≡ 0
none-live [] none = refl
none-live (None ∷ held) none =
    let e = sum_by-cons (λ (o : Option Segment). cond (is_some o) 1 0) None held in
    let rest = none-live held (λ key. none (suc key)) in
    omega (arith, e, rest)
none-live (Some s ∷ held) none = absurd (none zero refl)

pub no-segments : (held : List (Option Segment)) (all : List (List Slice)) → AreGood held → AreShared (at held) all → ((q : ℕ) → slots_at all q ≡ []) → live_count held ≡ 0
no-segments held all good shared none =
    live-is held
    ∙ none-live held (λ key there. let l = (held-named held all good shared key).0 there in let z = none-named all key none in absurd (omega (arith, l, z)))

-- lists that are alike at each place have as many holders
pub same-shared : (m : Map) (all others : List (List Slice)) → ((q : ℕ) → slots_at others q ≡ slots_at all q) → AreShared m all → AreShared m others
same-shared m all others same shared = record {
  counted = λ key. shared.counted key ∙ sym (same-named all others key same);
  lie = λ q. subst (AllLie m) (sym (same q)) (shared.lie q);
}

-- of so many lists, none with more slots than these, no segment has more names than slots can be
pub named-few : (all : List (List Slice)) (most : ℕ) → ((q : ℕ) → length (slots_at all q) ≤ most) → (key : ℕ) → named all key ≤ length all * most
named-few [] most short key = omega arith
named-few (xs ∷ all) most short key =
    let here = naming-le xs key in
    let first = short zero in
    let rest = named-few all most (λ q. short (suc q)) key in
    omega (arith, here, first, rest)
