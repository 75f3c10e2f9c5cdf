-- Lists of nodes, and marks of those that are in them.
use Rattle.std.proofs.Common.{◌≡◌, ℕ, zero, suc, ◌<◌, Bool, true, false, cond, List, [], ◌∷◌, ◌++◌, length, refl, sym, ◌∙◌, ap, subst, nat_eq, slice_index_or, slice_set, ◌≢◌, ◌⊎◌, inl, inr, length-append, arith}
use Rattle.std.proofs.lemmas.List.{length-set, get_or_default, get_or-set_same, get_or-set_other}
use Rattle.std.specs.Prelude.{◌||◌}
use Rattle.std.specs.List.{IsDistinct, AllByRecursion}
use Rattle.std.proofs.lemmas.Bool.{eq-eqb, eqb-true}
use Rattle.std.proofs.lemmas.Bool.Decides.{nat_tests}
use Rattle.std.proofs.lemmas.Map.Steps.{length-le_from_distinct_below}
use Rattle.pl_waiters.specs.MarkLists.{mark_at, is_listed, AreMarked}

pub none : AreMarked [] [] 0
unfolding IsDistinct
none = record { listed = λ node. refl; once = tt; room_for_all = omega arith }

-- a node that has a mark is within the marks
within : (marked : List Bool) (node : ℕ) → mark_at marked node ≡ true → node < length marked
within [] node h = absurd (cc)
within (b ∷ bs) zero h = omega arith
within (b ∷ bs) (suc node) h = let l = within bs node h in omega (arith, l)

listed-more : (nodes : List ℕ) (node other : ℕ) → is_listed (nodes ++ node ∷ []) other ≡ (is_listed nodes other || nat_eq other node)
listed-more [] node other = at (nat_eq other node)
  where
    at : (b : Bool) → (b || false) ≡ (false || b)
    at true = refl
    at false = refl
listed-more (x ∷ xs) node other = ap (λ b. nat_eq other x || b) (listed-more xs node other) ∙ at (nat_eq other x) (is_listed xs other) (nat_eq other node)
  where
    at : (a b d : Bool) → (a || (b || d)) ≡ ((a || b) || d)
    at true b d = refl
    at false b d = refl

other-way : (a b : ℕ) → nat_eq a b ≡ false → nat_eq b a ≡ false
other-way a b h = grind (arith, nat_tests, h)

differ-more : (x node : ℕ) (xs : List ℕ) → AllByRecursion (λ y. nat_eq x y ≡ false) xs → nat_eq x node ≡ false → AllByRecursion (λ y. nat_eq x y ≡ false) (xs ++ node ∷ [])
differ-more x node [] h n = (n, tt)
differ-more x node (y ∷ ys) h n = (h.0, differ-more x node ys h.1 n)

no-first : (a b : Bool) → (a || b) ≡ false → a ≡ false
no-first true b h = absurd (cc)
no-first false b h = refl

no-second : (a b : Bool) → (a || b) ≡ false → b ≡ false
no-second true b h = absurd (cc)
no-second false b h = h

once-more : (nodes : List ℕ) (node : ℕ) → IsDistinct nat_eq nodes → is_listed nodes node ≡ false → IsDistinct nat_eq (nodes ++ node ∷ [])
unfolding IsDistinct
once-more [] node h n = (tt, tt)
once-more (x ∷ xs) node h n = (differ-more x node xs h.0 (other-way node x (no-first (nat_eq node x) (is_listed xs node) n)), once-more xs node h.1 (no-second (nat_eq node x) (is_listed xs node) n))

differ-less : (x node : ℕ) (xs : List ℕ) → AllByRecursion (λ y. nat_eq x y ≡ false) (xs ++ node ∷ []) → (AllByRecursion (λ y. nat_eq x y ≡ false) xs) × (nat_eq x node ≡ false)
differ-less x node [] h = (tt, h.0)
differ-less x node (y ∷ ys) h = (let r = differ-less x node ys h.1 in ((h.0, r.0), r.1))

once-less : (nodes : List ℕ) (node : ℕ) → IsDistinct nat_eq (nodes ++ node ∷ []) → (IsDistinct nat_eq nodes) × (is_listed nodes node ≡ false)
unfolding IsDistinct
once-less [] node h = (tt, refl)
once-less (x ∷ xs) node h =
    let first = differ-less x node xs h.0 in
    let rest = once-less xs node h.1 in
    ((first.0, rest.0), (λ i. other-way x node first.1 i || rest.1 i))

set-length : (marked : List Bool) (node : ℕ) (b : Bool) → length (slice_set marked node b) ≡ length marked
set-length marked node b = length-set marked node b

mark-set : (marked : List Bool) (node other : ℕ) (b : Bool) → node < length marked → mark_at (slice_set marked node b) other ≡ cond (nat_eq other node) b (mark_at marked other)
mark-set marked node other b l = by (nat_eq other node) refl
  where
    same : (x y : ℕ) → nat_eq x y ≡ true → x ≡ y
    same x y h = grind (arith, nat_tests, h)

    differs : (x y : ℕ) → nat_eq x y ≡ false → x ≢ y
    differs x y h = grind (arith, nat_tests, h)

    by : (t : Bool) → nat_eq other node ≡ t → mark_at (slice_set marked node b) other ≡ cond t b (mark_at marked other)
    by true is = ap (mark_at (slice_set marked node b)) (same other node is) ∙ get_or-set_same marked node b false l
    by false is = get_or-set_other marked node other b false (differs other node is)

either : (a b : Bool) → (a || b) ≡ true → (a ≡ true) ⊎ (b ≡ true)
either true b h = inl refl
either false b h = inr h

module _ (marked : List Bool) (nodes : List ℕ) (room : ℕ) where
  -- there is room for one more
  pub has_room_for : AreMarked marked nodes room → (node : ℕ) → node < length marked → mark_at marked node ≡ false → length nodes < room
  has_room_for h node l off =
      let fresh : is_listed nodes node ≡ false = sym (h.listed node) ∙ off in
      let most = length-le_from_distinct_below (nodes ++ node ∷ []) (length marked) (once-more nodes node h.once fresh) (λ q here. below q (either (is_listed nodes q) (nat_eq q node) (sym (listed-more nodes node q) ∙ here))) in
      let all = h.room_for_all in
      let len = length-append nodes (node ∷ []) in
      omega (arith, most, all, len)
    where
      below : (q : ℕ) → (is_listed nodes q ≡ true) ⊎ (nat_eq q node ≡ true) → q < length marked
      below q (inl e) = within marked q (h.listed q ∙ e)
      below q (inr e) = subst (λ i. i < length marked) (sym (eqb-true q node e)) l

  pub more : AreMarked marked nodes room → (node : ℕ) → node < length marked → mark_at marked node ≡ false → AreMarked (slice_set marked node true) (nodes ++ node ∷ []) room
  more h node l off = record {
    listed = λ other. mark-set marked node other true l ∙ ap (cond (nat_eq other node) true) (h.listed other) ∙ at (nat_eq other node) (is_listed nodes other) ∙ sym (listed-more nodes node other);
    once = once-more nodes node h.once (sym (h.listed node) ∙ off);
    room_for_all = (let s = set-length marked node true in let r = h.room_for_all in omega (arith, s, r));
  }
    where
      at : (a b : Bool) → cond a true b ≡ (b || a)
      at true true = refl
      at true false = refl
      at false true = refl
      at false false = refl

-- the last one is within the marks
pub last-within : (marked : List Bool) (nodes : List ℕ) (node room : ℕ) → AreMarked marked (nodes ++ node ∷ []) room → node < length marked
last-within marked nodes node room h = within marked node (h.listed node ∙ listed-more nodes node node ∙ ap (λ b. is_listed nodes node || b) (eq-eqb node node refl) ∙ at (is_listed nodes node))
  where
    at : (b : Bool) → (b || true) ≡ true
    at true = refl
    at false = refl

pub fewer : (marked : List Bool) (nodes : List ℕ) (node room : ℕ) → AreMarked marked (nodes ++ node ∷ []) room → AreMarked (slice_set marked node false) nodes room
fewer marked nodes node room h = record {
  listed = λ other. mark-set marked node other false (last-within marked nodes node room h) ∙ by other (nat_eq other node) refl;
  once = (once-less nodes node h.once).0;
  room_for_all = (let s = set-length marked node false in let r = h.room_for_all in omega (arith, s, r));
}
  where
    gone : is_listed nodes node ≡ false
    gone = (once-less nodes node h.once).1

    by : (other : ℕ) (t : Bool) → nat_eq other node ≡ t → cond t false (mark_at marked other) ≡ is_listed nodes other
    by other true is = sym (ap (is_listed nodes) (eqb-true other node is) ∙ gone)
    by other false is = h.listed other ∙ listed-more nodes node other ∙ ap (λ b. is_listed nodes other || b) is ∙ at (is_listed nodes other)
      where
        at : (b : Bool) → (b || false) ≡ b
        at true = refl
        at false = refl

-- a mark that was read
pub read-off : (marked : List Bool) (node : ℕ) (x : Bool) → x ≡ slice_index_or marked node x → node < length marked → x ≡ false → mark_at marked node ≡ false
read-off marked node x h l off = get_or_default marked node false x l ∙ sym h ∙ off
