-- Of slots: which lie within others, which segments they name, and how many segments are there.
use Rattle.std.proofs.Common.{◌≡◌, ℕ, zero, suc, ◌+◌, ◌-◌, ◌≤◌, Bool, true, false, cond, List, [], ◌∷◌, ◌++◌, Option, Some, None, refl, sym, ◌∙◌, ap, inl, inr, nat_eq, nat_lt, set, arith}
use Rattle.std.specs.Prelude.{if◌then◌else◌, nat_le, is_some, count_by, ◌&&◌, ◌||◌}
use Rattle.std.specs.List.{range_with_len}
use Rattle.std.proofs.lemmas.Bool.{and_from, and_parts, leb-true, le-leb, cases_lt, ltb_from_iff}
use Rattle.std.proofs.lemmas.Bool.Decides.{leb_tells, eqb_tells}
use Rattle.std.proofs.lemmas.List.{get_or-set_other}
use Rattle.std.proofs.lemmas.List.Sums.{sum_by-cons}
use Rattle.pl_segments.specs.declared.slice.Slice.{Slice}
use Rattle.pl_segments.specs.Segments.{Segment, at, holders_in, live_count, IsGood, AreGood}
use Rattle.pl_segments.specs.Slices.{one_if, naming}
use Rattle.pl_segments.specs.Turns.{Turns}
use Rattle.pl_segments.specs.Sharing.{named, slots_at, AreShared}
use Rattle.pl_segments.specs.Slots.{solid_of, cut_front, cut_end, drop_bytes, front_of}
use Rattle.pl_segments.proofs.Storing.{live-is}
use Rattle.pl_segments.proofs.Shared.{held-named}
use Rattle.pl_segments.proofs.Fronting.{drop-whole, drop-part, front-whole, front-part, front-none}
use Rattle.pl_ring.specs.Parts.{is_same, is_among, within, within_any, fresh, strange}
use Rattle.pl_ring.proofs.Counting.{or_weaker, among-within, fewer-fail, fresh-own}
use Rattle.pl_nodes.specs.Nodes.{Memory, Shrinks, NamesBelow, segments_named}
use Rattle.pl_nodes.proofs.Lists.{none-live, same-named}

-- what lies within the first bytes of a slice lies within it
within-cut : (z x : Slice) (n : ℕ) → n ≤ x.len → within z (cut_end n x) ≡ true → within z x ≡ true
within-cut z x n l w =
    let a = and_parts (nat_eq z.segment x.segment) (nat_le x.from z.from && nat_le (z.from + z.len) (x.from + n)) w in
    let b = and_parts (nat_le x.from z.from) (nat_le (z.from + z.len) (x.from + n)) a.1 in
    let end = leb-true (z.from + z.len) (x.from + n) b.1 in
    and_from (nat_eq z.segment x.segment) (nat_le x.from z.from && nat_le (z.from + z.len) (x.from + x.len)) a.0
    (and_from (nat_le x.from z.from) (nat_le (z.from + z.len) (x.from + x.len)) b.0 (le-leb (z.from + z.len) (x.from + x.len) (omega (arith, end, l))))

within-front : (n : ℕ) (xs : List Slice) (z : Slice) → within_any (front_of n xs) z ≡ true → within_any xs z ≡ true
within-front n [] z w = w
within-front n (x ∷ xs) z w = elim (cases_lt x.len n) as (λ _. within_any (x ∷ xs) z ≡ true) [
  | inl l ↦
      or_weaker (within z x) (within_any (front_of (n - x.len) xs) z) (within z x) (within_any xs z) (λ h. h) (within-front (n - x.len) xs z)
      (ap (λ ys. within_any ys z) (sym (front-whole n x xs l)) ∙ w)
  | inr l ↦ elim (eqb_tells n 0) as (λ _. within_any (x ∷ xs) z ≡ true) [
    | inl e ↦ let none : false ≡ true = ap (λ ys. within_any ys z) (sym (ap (λ k. front_of k (x ∷ xs)) e.1 ∙ front-none (x ∷ xs))) ∙ w in absurd (cc)
    | inr e ↦
        or_weaker (within z (cut_end n x)) false (within z x) (within_any xs z) (within-cut z x n l) (λ h. absurd (cc))
        (ap (λ ys. within_any ys z) (sym (front-part n x xs l e.1)) ∙ w)
  ]
]

or_later : (a b c d : Bool) → (b ≡ true → (c || d) ≡ true) → (a || b) ≡ true → ((a || c) || d) ≡ true
or_later true b c d f e = refl
or_later false b c d f e = f e

-- what is among slots and slices is one of the slots, or lies within what the slices lie within
among-behind : (ts ys xs : List Slice) (z : Slice) → (is_among ys z ≡ true → within_any xs z ≡ true) → is_among (ts ++ ys) z ≡ true → (is_among ts z || within_any xs z) ≡ true
among-behind [] ys xs z f e = f e
among-behind (t ∷ ts) ys xs z f e = or_later (is_same z t) (is_among (ts ++ ys) z) (is_among ts z) (within_any xs z) (among-behind ts ys xs z f) e

-- no more slots are strange to slots and others than are none of those slots and of the first bytes of the others
pub strange-front : (ts xs : List Slice) (n : ℕ) (zs : List Slice) → strange ts xs zs ≤ fresh (ts ++ front_of n xs) zs
strange-front ts xs n =
    fewer-fail (is_among (ts ++ front_of n xs)) (λ z. is_among ts z || within_any xs z)
    (λ z. among-behind ts (front_of n xs) xs z (λ e. within-front n xs z (among-within (front_of n xs) z e)))

-- slots that were all handed over are none but the others
or_right : (a b : Bool) → b ≡ true → (a || b) ≡ true
or_right true b e = refl
or_right false b e = e

pub strange-handed : (ts xs : List Slice) → strange ts xs xs ≤ 3
strange-handed ts xs =
    let few = fewer-fail (is_among xs) (λ z. is_among ts z || within_any xs z) (λ z e. or_right (is_among ts z) (within_any xs z) (among-within xs z e)) xs in
    let none = fresh-own xs in
    omega (arith, few, none)

-- parts of slots name no segment oftener than the slots
pub naming-front : (n : ℕ) (xs : List Slice) (key : ℕ) → naming (front_of n xs) key ≤ naming xs key
naming-front n [] key = omega arith
naming-front n (x ∷ xs) key = elim (cases_lt x.len n) as (λ _. naming (front_of n (x ∷ xs)) key ≤ naming (x ∷ xs) key) [
  | inl l ↦
      let e : naming (front_of n (x ∷ xs)) key ≡ one_if (nat_eq x.segment key) + naming (front_of (n - x.len) xs) key = ap (λ ys. naming ys key) (front-whole n x xs l) in
      let rest = naming-front (n - x.len) xs key in
      omega (arith, e, rest)
  | inr l ↦ elim (eqb_tells n 0) as (λ _. naming (front_of n (x ∷ xs)) key ≤ naming (x ∷ xs) key) [
    | inl z ↦ let e : naming (front_of n (x ∷ xs)) key ≡ 0 = ap (λ ys. naming ys key) (ap (λ k. front_of k (x ∷ xs)) z.1 ∙ front-none (x ∷ xs)) in omega (arith, e)
    | inr z ↦ let e : naming (front_of n (x ∷ xs)) key ≡ one_if (nat_eq x.segment key) + 0 = ap (λ ys. naming ys key) (front-part n x xs l z.1) in omega (arith, e)
  ]
]

pub naming-solid : (xs : List Slice) (key : ℕ) → naming (solid_of xs) key ≤ naming xs key
naming-solid [] key = omega arith
naming-solid (x ∷ xs) key =
    let rest = naming-solid xs key in
    elim (eqb_tells x.len 0) as (λ _. naming (solid_of (x ∷ xs)) key ≤ naming (x ∷ xs) key) [
      | inl z ↦ let e : naming (solid_of (x ∷ xs)) key ≡ naming (solid_of xs) key = ap (λ b. naming (if b then solid_of xs else x ∷ solid_of xs) key) z.0 in omega (arith, e, rest)
      | inr z ↦ let e : naming (solid_of (x ∷ xs)) key ≡ naming (x ∷ solid_of xs) key = ap (λ b. naming (if b then solid_of xs else x ∷ solid_of xs) key) z.0 in omega (arith, e, rest)
    ]

pub naming-drop : (n : ℕ) (xs : List Slice) (key : ℕ) → naming (drop_bytes n xs) key ≤ naming xs key
naming-drop n [] key = omega arith
naming-drop n (x ∷ xs) key = elim (leb_tells x.len n) as (λ _. naming (drop_bytes n (x ∷ xs)) key ≤ naming (x ∷ xs) key) [
  | inl l ↦
      let e : naming (drop_bytes (n - x.len) xs) key ≡ naming (drop_bytes n (x ∷ xs)) key = ap (λ ys. naming ys key) (drop-whole n x xs l.1) in
      let rest = naming-drop (n - x.len) xs key in
      omega (arith, e, rest)
  | inr l ↦ let e : naming (drop_bytes n (x ∷ xs)) key ≡ naming (cut_front n x ∷ xs) key = ap (λ ys. naming ys key) (drop-part n x xs l.1) in omega (arith, e)
]

-- where each segment of a store is there in another, that one has as many
count-cons : (o : Option Segment) (held : List (Option Segment)) → count_by is_some (o ∷ held) ≡ one_if (is_some o) + count_by is_some held
count-cons o held = sum_by-cons (λ (o : Option Segment). cond (is_some o) 1 0) o held

there-le : (o p : Option Segment) → (is_some o ≡ true → is_some p ≡ true) → one_if (is_some o) ≤ one_if (is_some p)
there-le None p f = omega arith
there-le (Some s) p f = let e : one_if (is_some p) ≡ 1 = ap one_if (f refl) in omega (arith, e)

fewer-live : (held other : List (Option Segment)) → ((key : ℕ) → is_some (at other key) ≡ true → is_some (at held key) ≡ true) → count_by is_some other ≤ count_by is_some held
fewer-live held [] f = omega arith
fewer-live [] (o ∷ other) f = let e = none-live (o ∷ other) (λ key there. let no : false ≡ true = f key there in absurd (cc)) in omega (arith, e)
fewer-live (p ∷ held) (o ∷ other) f =
    let a = count-cons o other in
    let b = count-cons p held in
    let here = there-le o p (f zero) in
    let rest = fewer-live held other (λ key. f (suc key)) in
    omega (arith, a, b, here, rest)

held-there : (o p : Option Segment) → IsGood o → holders_in o ≤ holders_in p → is_some o ≡ true → is_some p ≡ true
held-there None p g l h = absurd (cc)
held-there (Some s) None g l h = let one = g.0 in absurd (omega (arith, one, l))
held-there (Some s) (Some t) g l h = refl

-- slots of which some go, and name no segment oftener
pub fewer-segments : (held other : List (Option Segment)) (xs ys : List Slice) → AreGood other → Turns (at held) xs (at other) ys → ((key : ℕ) → naming ys key ≤ naming xs key) → live_count other ≤ live_count held
fewer-segments held other xs ys good turns fewer =
    let a = live-is held in
    let b = live-is other in
    let c = fewer-live held other (λ key. held-there (at other key) (at held key) (good.good key) (let t = turns.counted key in let n = fewer key in omega (arith, t, n))) in
    omega (arith, a, b, c)

-- the same of a list of slots among others
pub named-fewer : (all : List (List Slice)) (p : ℕ) (ys : List Slice) (key : ℕ) → naming ys key ≤ naming (slots_at all p) key → named (set all p ys) key ≤ named all key
named-fewer [] p ys key l = omega arith
named-fewer (xs ∷ all) zero ys key l = omega (arith, l)
named-fewer (xs ∷ all) (suc p) ys key l = let r = named-fewer all p ys key l in omega (arith, r)

-- the slots of one list all go
gone-here : (all : List (List Slice)) (p : ℕ) → slots_at (set all p []) p ≡ []
gone-here [] p = refl
gone-here (xs ∷ all) zero = refl
gone-here (xs ∷ all) (suc p) = gone-here all p

gone-at : (all : List (List Slice)) (p q : ℕ) → slots_at (set all p []) q ≡ (if nat_eq p q then [] else slots_at all q)
gone-at all p q = elim (eqb_tells p q) as (λ _. slots_at (set all p []) q ≡ (if nat_eq p q then [] else slots_at all q)) [
  | inl e ↦ ap (slots_at (set all p [])) (sym e.1) ∙ gone-here all p ∙ ap (λ b. if b then [] else slots_at all q) (sym e.0)
  | inr e ↦ get_or-set_other all p q [] [] (λ h. e.1 (sym h)) ∙ ap (λ b. if b then [] else slots_at all q) (sym e.0)
]

-- what was under a key lost all its slots
pub all-lost : (old new : Memory) (key : ℕ) → ((q : ℕ) → slots_at new.slots q ≡ slots_at (set old.slots key []) q) → new.segments ≤ old.segments → Shrinks old new
all-lost old new key same fewer = record {
  slots = λ q. (nat_eq key q, same q ∙ gone-at old.slots key q);
  fewer_named = λ segment.
      let e = same-named (set old.slots key []) new.slots segment same in
      let l = named-fewer old.slots key [] segment (omega arith) in
      omega (arith, e, l);
  fewer = fewer;
}

-- where slots all go no segment comes
pub none-left : (held other : List (Option Segment)) (xs : List Slice) → AreGood other → Turns (at held) xs (at other) [] → live_count other ≤ live_count held
none-left held other xs good turns = fewer-segments held other xs [] good turns (λ key. omega arith)

onward : (a q : ℕ) → a + 1 + q ≡ a + suc q
onward a q = omega arith

-- keys from a place on, of which none passes a test
none-counted : (p : ℕ → Bool) (a n : ℕ) → ((q : ℕ) → p (a + q) ≡ false) → count_by p (range_with_len a n) ≡ 0
none-counted p a zero none = refl
none-counted p a (suc n) none =
    let first : a ≡ a + 0 = omega arith in
    let here : one_if (p a) ≡ 0 = ap one_if (ap p first ∙ none zero) in
    let all = sum_by-cons (λ key. cond (p key) 1 0) a (range_with_len (a + 1) n) in
    let rest = none-counted p (a + 1) n (λ q. ap p (onward a q) ∙ none (suc q)) in
    omega (arith, all, here, rest)

-- a list has as many segments as keys pass a test that tells where they are
keys-counted : (p : ℕ → Bool) (held : List (Option Segment)) (a n : ℕ) → ((q : ℕ) → is_some (at held q) ≡ p (a + q)) → ((q : ℕ) → n ≤ q → p (a + q) ≡ false) → count_by is_some held ≡ count_by p (range_with_len a n)
keys-counted p [] a n there none = sym (none-counted p a n (λ q. sym (there q)))
keys-counted p (o ∷ held) a zero there none = none-live (o ∷ held) (λ q is. let no : false ≡ true = sym (none q (omega arith)) ∙ sym (there q) ∙ is in absurd (cc))
keys-counted p (o ∷ held) a (suc n) there none =
    let first : a + 0 ≡ a = omega arith in
    let here : one_if (is_some o) ≡ one_if (p a) = ap one_if (there zero ∙ ap p first) in
    let segments = count-cons o held in
    let keys = sum_by-cons (λ key. cond (p key) 1 0) a (range_with_len (a + 1) n) in
    let rest = keys-counted p held (a + 1) n (λ q. there (suc q) ∙ ap p (sym (onward a q))) (λ q l. ap p (onward a q) ∙ none (suc q) (omega (arith, l))) in
    omega (arith, segments, keys, here, rest)

-- a store has as many segments as slots name
pub named-live : (held : List (Option Segment)) (all : List (List Slice)) → AreGood held → AreShared (at held) all → (n : ℕ) → NamesBelow n all → live_count held ≡ segments_named all n
named-live held all good shared n below =
    live-is held
    ∙ keys-counted (λ key. nat_lt 0 (named all key)) held 0 n
    (λ q. ltb_from_iff (held-named held all good shared q) ∙ ap (λ key. nat_lt 0 (named all key)) (omega arith))
    (λ q l. ap (λ key. nat_lt 0 (named all key)) (omega arith) ∙ ap (nat_lt 0) (below q l))
