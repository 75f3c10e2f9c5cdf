-- Slots with the places where they start.
use Rattle.std.proofs.Common.{◌≡◌, ℕ, zero, suc, ◌+◌, ◌-◌, ◌≤◌, List, [], ◌∷◌, ◌++◌, Some, refl, sym, ◌∙◌, ap, subst, length, take, drop, arith}
use Rattle.std.specs.Prelude.{slice_get, vec_len, vec_capacity}
use Rattle.std.proofs.lemmas.List.{take-append-drop, take_all, take_at, take_more, take_rest, length-drop}
use Rattle.std.proofs.lemmas.List.Edits.{take-paste}
use lib.Seq.{paste}
use Rattle.pl_segments.specs.declared.slice.Slice.{Slice}
use Rattle.std.proofs.lemmas.Option.{get_or_from_slice_get}
use Rattle.pl_segments.specs.Slots.{total, last_len}
use Rattle.pl_segments.proofs.SlotLemmas.{total-append, last-len}
use Rattle.pl_file.specs.declared.row.Entry.{Entry}
use Rattle.pl_file.specs.declared.row.Row.TheInside.{Inside}
use Rattle.pl_file.specs.RowView.{view_of}
use Rattle.pl_file.specs.Rows.{Row, placed, slots_of}

abbrev pub entry : ℕ → Slice → Entry
entry at x = record { start = at; slice = x }

-- the slots of entries, whole and in parts
pub slots-append : (es fs : List Entry) → slots_of (es ++ fs) ≡ slots_of es ++ slots_of fs
slots-append [] fs = refl
slots-append (e ∷ es) fs = ap (λ ys. e.slice ∷ ys) (slots-append es fs)

pub length-slots : (es : List Entry) → length (slots_of es) ≡ length es
length-slots [] = refl
length-slots (e ∷ es) = ap suc (length-slots es)

pub slots-take : (n : ℕ) (es : List Entry) → slots_of (take n es) ≡ take n (slots_of es)
slots-take zero es = refl
slots-take (suc n) [] = refl
slots-take (suc n) (e ∷ es) = ap (λ ys. e.slice ∷ ys) (slots-take n es)

pub slots-drop : (n : ℕ) (es : List Entry) → slots_of (drop n es) ≡ drop n (slots_of es)
slots-drop zero es = refl
slots-drop (suc n) [] = refl
slots-drop (suc n) (e ∷ es) = slots-drop n es

pub slots-get : (es : List Entry) (i : ℕ) (e : Entry) → slice_get es i ≡ Some e → slice_get (slots_of es) i ≡ Some e.slice
slots-get [] i e p = absurd (cc)
slots-get (f ∷ es) zero e p = (let q : f ≡ e = cc in ap (λ (g : Entry). Some g.slice) q)
slots-get (f ∷ es) (suc i) e p = slots-get es i e p

pub last-entry : (es : List Entry) (e : Entry) → slice_get es (length es - 1) ≡ Some e → e.slice.len ≡ last_len (slots_of es)
last-entry [] e p = absurd (cc)
last-entry (f ∷ es) e p =
    let n = length (f ∷ es) - 1 in
    let front = take n (f ∷ es) in
    let k : n + 1 ≡ length (f ∷ es) = omega arith in
    let shape : front ++ e ∷ [] ≡ f ∷ es =
    ap (λ y. front ++ y ∷ []) (sym (get_or_from_slice_get (f ∷ es) n e e p)) ∙ sym (take_more (f ∷ es) n e (omega arith)) ∙ ap (λ m. take m (f ∷ es)) k
    ∙ take_all (length (f ∷ es)) (f ∷ es) (omega arith)
    in
    sym (last-len (slots_of front) e.slice) ∙ ap last_len (sym (slots-append front (e ∷ []))) ∙ ap (λ gs. last_len (slots_of gs)) shape

-- a row as contracts see it
module _ {A : Type 0} (r : Inside A) (v : Row) (is : view_of r ≡ v) where
  pub base-is : r.base ≡ v.base
  base-is = ap (λ (w : Row). w.base) is

  pub slots-are : slots_of r.entries.items ≡ v.slots
  slots-are = ap (λ (w : Row). w.slots) is

  pub capacity-is : vec_capacity r.entries ≡ v.capacity
  capacity-is = ap (λ (w : Row). w.capacity) is

  pub count-is : vec_len r.entries ≡ length v.slots
  count-is = r.entries.ok.0 ∙ sym (length-slots r.entries.items) ∙ ap length slots-are

-- places, whole and in parts
pub placed-append : (at : ℕ) (xs ys : List Slice) → placed at (xs ++ ys) ≡ placed at xs ++ placed (at + total xs) ys
placed-append at [] ys = ap (λ k. placed k ys) (let e : at ≡ at + 0 = omega arith in e)
placed-append at (x ∷ xs) ys =
    ap (λ es. entry at x ∷ es) (placed-append (at + x.len) xs ys)
    ∙ ap (λ k. entry at x ∷ (placed (at + x.len) xs ++ placed k ys)) (let e : at + x.len + total xs ≡ at + (x.len + total xs) = omega arith in e)

pub placed-take : (n at : ℕ) (xs : List Slice) → take n (placed at xs) ≡ placed at (take n xs)
placed-take zero at xs = refl
placed-take (suc n) at [] = refl
placed-take (suc n) at (x ∷ xs) = ap (λ es. entry at x ∷ es) (placed-take n (at + x.len) xs)

pub placed-drop : (n at : ℕ) (xs : List Slice) → drop n (placed at xs) ≡ placed (at + total (take n xs)) (drop n xs)
placed-drop zero at xs = ap (λ k. placed k xs) (let e : at ≡ at + 0 = omega arith in e)
placed-drop (suc n) at [] = refl
placed-drop (suc n) at (x ∷ xs) = placed-drop n (at + x.len) xs ∙ ap (λ k. placed k (drop n xs)) (let e : at + x.len + total (take n xs) ≡ at + (x.len + total (take n xs)) = omega arith in e)

start-at : (at : ℕ) (xs : List Slice) (i : ℕ) (e : Entry) → slice_get (placed at xs) i ≡ Some e → e.start ≡ at + total (take i xs)
start-at at [] i e p = absurd (cc)
start-at at (x ∷ xs) zero e p =
    let q : entry at x ≡ e = cc in
    let s : at ≡ e.start = ap (λ (g : Entry). g.start) q in
    (let r : e.start ≡ at + 0 = omega (arith, s) in r)
start-at at (x ∷ xs) (suc i) e p = let r = start-at (at + x.len) xs i e p in (let s : e.start ≡ at + (x.len + total (take i xs)) = omega (arith, r) in s)

pub total-parts : (n : ℕ) (xs : List Slice) → total (take n xs) + total (drop n xs) ≡ total xs
total-parts n xs = sym (total-append (take n xs) (drop n xs)) ∙ ap total (take-append-drop n xs)

-- entries that are placed from a place on
module _ (at : ℕ) (es : List Entry) (is : es ≡ placed at (slots_of es)) where
  -- one of them starts where those before it end
  pub start-is : (i : ℕ) (e : Entry) → slice_get es i ≡ Some e → e.start ≡ at + total (take i (slots_of es))
  start-is i e p = start-at at (slots_of es) i e (subst (λ fs. slice_get fs i ≡ Some e) is p)

  pub take-is : (n : ℕ) → take n es ≡ placed at (slots_of (take n es))
  take-is n = ap (take n) is ∙ placed-take n at (slots_of es) ∙ ap (placed at) (sym (slots-take n es))

  pub drop-is : (n : ℕ) → drop n es ≡ placed (at + total (take n (slots_of es))) (slots_of (drop n es))
  drop-is n = ap (drop n) is ∙ placed-drop n at (slots_of es) ∙ ap (placed (at + total (take n (slots_of es)))) (sym (slots-drop n es))

  -- one more behind them
  pub push-is : (end : ℕ) (x : Slice) → end ≡ at + total (slots_of es) → es ++ entry end x ∷ [] ≡ placed at (slots_of (es ++ entry end x ∷ []))
  push-is end x e =
      (λ i. is i ++ entry (e i) x ∷ [])
      ∙ sym (placed-append at (slots_of es) (x ∷ []))
      ∙ ap (placed at) (sym (slots-append es (entry end x ∷ [])))

-- without the last of them
module _ (at : ℕ) (es fs : List Entry) (e : Entry) (is : es ≡ placed at (slots_of es)) (shape : es ≡ fs ++ e ∷ []) where
  front : take (length fs) es ≡ fs
  front = ap (take (length fs)) shape ∙ take_at fs (e ∷ []) (length fs) refl

  pub pop-is : fs ≡ placed at (slots_of fs)
  pop-is = subst (λ gs. gs ≡ placed at (slots_of gs)) front (take-is at es is (length fs))

  pub pop-end : e.start ≡ at + total (slots_of fs)
  pop-end =
      start-is at es is (length fs) e (subst (λ gs. slice_get gs (length fs) ≡ Some e) (sym shape) (by fs))
      ∙ ap (λ xs. at + total xs) (sym (slots-take (length fs) es) ∙ ap slots_of front)
    where
      by : (gs : List Entry) → slice_get (gs ++ e ∷ []) (length gs) ≡ Some e
      by [] = refl
      by (f ∷ gs) = by gs

-- the end of the slots with one more
pub push-end : (at : ℕ) (es : List Entry) (end : ℕ) (x : Slice) → end ≡ at + total (slots_of es) → end + x.len ≡ at + total (slots_of (es ++ entry end x ∷ []))
push-end at es end x e =
    let s : total (slots_of (es ++ entry end x ∷ [])) ≡ total (slots_of es) + (x.len + 0) = ap total (slots-append es (entry end x ∷ [])) ∙ total-append (slots_of es) (x ∷ []) in
    omega (arith, s, e)

-- entries of two rows, of which the one begins where the other ends
module _ (at base : ℕ) (es fs : List Entry) (is : es ≡ placed at (slots_of es)) (are : fs ≡ placed base (slots_of fs)) (starts : base ≡ at + total (slots_of es)) where
  pub joined-is : es ++ fs ≡ placed at (slots_of (es ++ fs))
  joined-is =
      (λ i. is i ++ are i)
      ∙ ap (λ k. placed at (slots_of es) ++ placed k (slots_of fs)) starts
      ∙ sym (placed-append at (slots_of es) (slots_of fs))
      ∙ ap (placed at) (sym (slots-append es fs))

  pub joined-end : base + total (slots_of fs) ≡ at + total (slots_of (es ++ fs))
  joined-end =
      let t : total (slots_of (es ++ fs)) ≡ total (slots_of es) + total (slots_of fs) = ap total (slots-append es fs) ∙ total-append (slots_of es) (slots_of fs) in
      omega (arith, t, starts)

-- what stands from a place on, moved to the front, and the end cut off
pub moved-front : {X : Type 0} (xs : List X) (end : ℕ) → end ≤ length xs → take (length xs - end) (paste xs 0 (drop end xs) (length xs - end)) ≡ drop end xs
moved-front xs end m =
    let n = length-drop end xs in
    ap (λ k. take k (paste xs 0 (drop end xs) (length xs - end))) (let e : length xs - end ≡ 0 + (length xs - end) = omega (arith, m) in e)
    ∙ take-paste xs 0 (drop end xs) (length xs - end) (omega (arith, m)) (omega (arith, n))
    ∙ take_rest xs end
