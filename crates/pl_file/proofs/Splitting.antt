-- Rows that are cut into chunks, and put in the place of others.
use Rattle.std.proofs.Common.{◌≡◌, ℕ, ◌+◌, ◌-◌, ◌<◌, ◌≤◌, List, [], ◌∷◌, ◌++◌, Some, refl, sym, ◌∙◌, ap, subst, length, take, drop, arith}
use Rattle.std.proofs.lemmas.List.{append-nil, drop_all, append_assoc, take-append-drop, take-append-le, take_at, drop_at, take-set, drop-set, length-append, length-take, length-drop, take-take}
use Rattle.std.specs.Prelude.{slice_get, slice_set}
use Rattle.std.proofs.lemmas.Option.{slice_get_within}
use Rattle.pl_segments.specs.declared.slice.Slice.{Slice}
use Rattle.std.proofs.Math.Seq.{drop-append_seam}
use Rattle.pl_segments.specs.Slots.{total}
use Rattle.pl_segments.proofs.SlotLemmas.{total-append}
use Rattle.pl_file.specs.Rows.{Row, flat, most_in_chunk, piece, AreChunks, AreEmpty, Adds}
use Rattle.pl_file.proofs.Chunking.{flat-append, chunks-append, chunks-mixed, chunk-at, last-row, push-front}

-- rows are added, which have the first slots of a row, and a row has those that are left
pub record Adding (old now : List Row) (whole left : Row) : Type 0 where
  pub added : List Row
  pub is : now ≡ old ++ added
  pub slots : flat added ++ left.slots ≡ whole.slots
  pub chunks : AreChunks whole.base added
  pub base : left.base ≡ whole.base + total (flat added)

-- some in the place of those before them
pub turned : {X : Type 0} (fs ps qs : List X) (from count : ℕ) → from ≡ length fs → count ≡ length ps →
    take from (fs ++ (ps ++ qs)) ++ (drop count (drop from (fs ++ (ps ++ qs))) ++ take count (drop from (fs ++ (ps ++ qs)))) ≡ fs ++ (qs ++ ps)
turned fs ps qs from count e f =
    let xs = fs ++ (ps ++ qs) in
    let t : take from xs ≡ fs = ap (λ n. take n xs) e ∙ take_at fs (ps ++ qs) (length fs) refl in
    let d : drop from xs ≡ ps ++ qs = ap (λ n. drop n xs) e ∙ drop-append_seam fs (ps ++ qs) in
    let u : drop count (ps ++ qs) ≡ qs = ap (λ n. drop n (ps ++ qs)) f ∙ drop-append_seam ps qs in
    let v : take count (ps ++ qs) ≡ ps = ap (λ n. take n (ps ++ qs)) f ∙ take_at ps qs (length ps) refl in
    (λ i. t i ++ (drop count (d i) ++ take count (d i))) ∙ (λ i. fs ++ (u i ++ v i))

pub turned-length : {X : Type 0} (xs : List X) (from count : ℕ) → length (take from xs ++ (drop count (drop from xs) ++ take count (drop from xs))) ≡ length xs
turned-length xs from count =
    let a = length-append (take from xs) (drop count (drop from xs) ++ take count (drop from xs)) in
    let b = length-append (drop count (drop from xs)) (take count (drop from xs)) in
    let t = length-take from xs in
    let d = length-drop from xs in
    let e = length-drop count (drop from xs) in
    let u = length-take count (drop from xs) in
    omega (arith, a, b, t, d, e, u)

-- some rows in three parts, of which the middle one goes, and those behind that come before the last part
module _ {X : Type 0} (xs : List X) (first last len : ℕ) (order : first ≤ last) (within : last ≤ len) (most : len ≤ length xs) where
  abbrev pub front : List X
  front = take first xs

  abbrev pub gone : List X
  gone = drop first (take last xs)

  abbrev pub stays : List X
  stays = drop last (take len xs)

  abbrev pub more : List X
  more = drop len xs

  front-length : length (take first xs) ≡ first
  front-length = let l = length-take first xs in omega (arith, l, order, within, most)

  gone-length : length (drop first (take last xs)) ≡ last - first
  gone-length = let l = length-take last xs in let d = length-drop first (take last xs) in omega (arith, l, d, order, within, most)

  stays-length : length (drop last (take len xs)) ≡ len - last
  stays-length = let l = length-take len xs in let d = length-drop last (take len xs) in omega (arith, l, d, order, within, most)

  more-length : length (drop len xs) ≡ length xs - len
  more-length = length-drop len xs

  parts : front ++ ((gone ++ stays) ++ more) ≡ xs
  parts =
      ap (λ ys. front ++ ys) (append_assoc gone stays more)
      ∙ sym (append_assoc front gone (stays ++ more))
      ∙ ap (λ ys. (ys ++ gone) ++ (stays ++ more)) (sym (take-take first last xs order))
      ∙ ap (λ ys. ys ++ (stays ++ more)) (take-append-drop first (take last xs))
      ∙ sym (append_assoc (take last xs) stays more)
      ∙ ap (λ ys. (ys ++ stays) ++ more) (sym (take-take last len xs within))
      ∙ ap (λ ys. ys ++ more) (take-append-drop last (take len xs))
      ∙ take-append-drop len xs

  -- both turns, and the end cut off
  module _ (ys zs : List X) (one : ys ≡ take first xs ++ (drop (len - first) (drop first xs) ++ take (len - first) (drop first xs)))
      (two : zs ≡ take (first + (length xs - len)) ys ++ (drop (last - first) (drop (first + (length xs - len)) ys) ++ take (last - first) (drop (first + (length xs - len)) ys))) where
    ys-are : ys ≡ (front ++ more) ++ (gone ++ stays)
    ys-are =
        let a = length-append gone stays in
        let n = gone-length in
        let m = stays-length in
        one
        ∙ ap (λ ws. take first ws ++ (drop (len - first) (drop first ws) ++ take (len - first) (drop first ws))) (sym parts)
        ∙ turned front (gone ++ stays) more first (len - first) (sym front-length) (omega (arith, a, n, m, order, within))
        ∙ sym (append_assoc front more (gone ++ stays))

    zs-are : zs ≡ ((front ++ more) ++ stays) ++ gone
    zs-are =
        let a = length-append front more in
        let f = front-length in
        let m = more-length in
        let from = first + (length xs - len) in
        two
        ∙ ap (λ ws. take from ws ++ (drop (last - first) (drop from ws) ++ take (last - first) (drop from ws))) ys-are
        ∙ turned (front ++ more) gone stays from (last - first) (omega (arith, a, f, m)) (sym gone-length)
        ∙ sym (append_assoc (front ++ more) stays gone)

    pub moved : take (length xs - (last - first)) zs ≡ take first xs ++ (drop len xs ++ drop last (take len xs))
    moved =
        let a = length-append (front ++ more) stays in
        let b = length-append front more in
        let f = front-length in
        let m = more-length in
        let s = stays-length in
        ap (take (length xs - (last - first))) zs-are
        ∙ take_at ((front ++ more) ++ stays) gone (length xs - (last - first)) (omega (arith, a, b, f, m, s, order, within, most))
        ∙ append_assoc front more stays

-- rows of no slots, one more and one less
pub empty-push : (rs : List Row) (r : Row) → AreEmpty rs → r.slots ≡ [] → piece ≤ r.capacity → AreEmpty (rs ++ r ∷ [])
empty-push [] r ok none room = (none, room, tt)
empty-push (s ∷ rs) r ok none room = (ok.0, ok.1, empty-push rs r ok.2 none room)

pub empty-left : (rs ss : List Row) → AreEmpty (rs ++ ss) → AreEmpty rs
empty-left [] ss ok = tt
empty-left (r ∷ rs) ss ok = (ok.0, ok.1, empty-left rs ss ok.2)

pub empty-right : (rs ss : List Row) → AreEmpty (rs ++ ss) → AreEmpty ss
empty-right [] ss ok = ok
empty-right (r ∷ rs) ss ok = empty-right rs ss ok.2

-- nothing is added yet
pub adding-first : (old : List Row) (whole : Row) → Adding old old whole whole
adding-first old whole = record {
  added = [];
  is = sym (append-nil old);
  slots = refl;
  chunks = tt;
  base = let e : whole.base ≡ whole.base + 0 = omega arith in e;
}

-- and then a chunk with the first of the slots that are left
module _ {old now : List Row} {whole left : Row} (a : Adding old now whole left) (more : List Row) (front rest : Row) (count : ℕ)
    (is : more ≡ now ++ front ∷ []) (slots : front.slots ≡ take count left.slots) (base : front.base ≡ left.base) (behind : rest.slots ≡ drop count left.slots)
    (after : rest.base ≡ left.base + total (take count left.slots)) (some : 1 ≤ count) (most : count ≤ most_in_chunk) (there : count ≤ length left.slots) where
  flat-more : flat (a.added ++ front ∷ []) ≡ flat a.added ++ take count left.slots
  flat-more = flat-append a.added (front ∷ []) ∙ ap (λ ys. flat a.added ++ ys) (append-nil front.slots ∙ slots)

  pub adding-next : Adding old more whole rest
  adding-next =
      let n = ap length slots in
      let l = length-take count left.slots in
      let f = ap total flat-more in
      let t = total-append (flat a.added) (take count left.slots) in
      record {
        added = a.added ++ front ∷ [];
        is = is ∙ ap (λ rs. rs ++ front ∷ []) a.is ∙ append_assoc old a.added (front ∷ []);
        slots = (λ i. flat-more i ++ behind i)
            ∙ append_assoc (flat a.added) (take count left.slots) (drop count left.slots)
            ∙ ap (λ ys. flat a.added ++ ys) (take-append-drop count left.slots)
            ∙ a.slots;
        chunks = chunks-append whole.base a.added (front ∷ []) a.chunks
            (record { base = base ∙ a.base; some = omega (arith, n, l, some, there); most = omega (arith, n, l, most) }, tt);
        base = let b = a.base in omega (arith, after, b, f, t);
      }

-- and last what is left
module _ {old now : List Row} {whole left : Row} (a : Adding old now whole left) (more : List Row) (last : Row)
    (is : more ≡ now ++ last ∷ []) (slots : last.slots ≡ left.slots) (base : last.base ≡ left.base) (some : 1 ≤ length left.slots) (most : length left.slots ≤ most_in_chunk) where
  pub adding-last : Adds old more whole
  adding-last =
      let n = ap length slots in
      record {
        added = a.added ++ last ∷ [];
        is = is ∙ ap (λ rs. rs ++ last ∷ []) a.is ∙ append_assoc old a.added (last ∷ []);
        slots = flat-append a.added (last ∷ []) ∙ ap (λ ys. flat a.added ++ ys) (append-nil last.slots ∙ slots) ∙ a.slots;
        chunks = chunks-append whole.base a.added (last ∷ []) a.chunks
            (record { base = base ∙ a.base; some = omega (arith, n, some); most = omega (arith, n, most) }, tt);
      }

-- one in the place of another
pub set-parts : {X : Type 0} (xs : List X) (i : ℕ) (x : X) → i < length xs → slice_set xs i x ≡ take i xs ++ (x ∷ drop (i + 1) xs)
set-parts xs i x l = sym (take-append-drop i (slice_set xs i x)) ∙ (λ j. take-set xs i x j ++ drop-set xs i x l j)

-- rows in the place of others, which have the slots of one
module _ (rs ms : List Row) (middle : Row) (first last : ℕ) (slots : flat ms ≡ middle.slots) (are : AreChunks middle.base ms) (ok : AreChunks 0 rs)
    (starts : middle.base ≡ total (flat (take first rs))) (ends : last < length rs → middle.base + total middle.slots ≡ total (flat (take last rs))) where
  pub placed-slots : flat (take first rs ++ (ms ++ drop last rs)) ≡ flat (take first rs) ++ (middle.slots ++ flat (drop last rs))
  placed-slots =
      flat-append (take first rs) (ms ++ drop last rs)
      ∙ ap (λ ys. flat (take first rs) ++ ys) (flat-append ms (drop last rs) ∙ ap (λ ys. ys ++ flat (drop last rs)) slots)

  pub placed-chunks : AreChunks 0 (take first rs ++ (ms ++ drop last rs))
  placed-chunks =
      chunks-mixed rs ms first last ok (subst (λ k. AreChunks k ms) starts are)
      (λ l. let e = ends l in let s = ap total slots in omega (arith, e, s, starts))

-- what is added behind some, and moved to its place among them
pub moved-added : {X : Type 0} (xs ms : List X) (first last len : ℕ) → len ≡ length xs → first ≤ length xs →
    take first (xs ++ ms) ++ (drop len (xs ++ ms) ++ drop last (take len (xs ++ ms))) ≡ take first xs ++ (ms ++ drop last xs)
moved-added xs ms first last len e l =
    (λ i. take-append-le first xs ms l i ++ (drop_at xs ms len (sym e) i ++ drop last (take_at xs ms len (sym e) i)))

-- the last chunk with another slot as its last
module _ (rs : List Row) (r t : Row) (got : slice_get rs (length rs - 1) ≡ Some r) where
  last-set : slice_set rs (length rs - 1) t ≡ take (length rs - 1) rs ++ ((t ∷ []) ++ drop (length rs) rs)
  last-set =
      let l = slice_get_within rs (length rs - 1) r got in
      let e : length rs - 1 + 1 ≡ length rs = omega (arith, l) in
      set-parts rs (length rs - 1) t l ∙ ap (λ k. take (length rs - 1) rs ++ (t ∷ drop k rs)) e

  pub last-set_front : (zs : List Slice) (x : Slice) → r.slots ≡ zs ++ x ∷ [] → take (length (flat rs) - 1) (flat rs) ≡ flat (take (length rs - 1) rs) ++ zs
  last-set_front zs x e =
      let front = flat (take (length rs - 1) rs) in
      push-front (flat rs) (front ++ zs) x (last-row rs r got ∙ ap (λ ys. front ++ ys) e ∙ sym (append_assoc front zs (x ∷ [])))

  pub last-set_slots : (zs : List Slice) (x y : Slice) → r.slots ≡ zs ++ x ∷ [] → t.slots ≡ zs ++ y ∷ [] → flat (slice_set rs (length rs - 1) t) ≡ take (length (flat rs) - 1) (flat rs) ++ y ∷ []
  last-set_slots zs x y e f =
      let front = flat (take (length rs - 1) rs) in
      let none : drop (length rs) rs ≡ [] = drop_all (length rs) rs (omega arith) in
      ap flat last-set
      ∙ flat-append (take (length rs - 1) rs) ((t ∷ []) ++ drop (length rs) rs)
      ∙ ap (λ ss. front ++ (t.slots ++ flat ss)) none
      ∙ ap (λ ys. front ++ ys) (append-nil t.slots ∙ f)
      ∙ sym (append_assoc front zs (y ∷ []))
      ∙ ap (λ ys. ys ++ y ∷ []) (sym (last-set_front zs x e))

  -- more slots behind its own
  pub last-set_more : (ys : List Slice) → t.slots ≡ r.slots ++ ys → flat (slice_set rs (length rs - 1) t) ≡ flat rs ++ ys
  last-set_more ys e =
      let front = flat (take (length rs - 1) rs) in
      let none : drop (length rs) rs ≡ [] = drop_all (length rs) rs (omega arith) in
      ap flat last-set
      ∙ flat-append (take (length rs - 1) rs) ((t ∷ []) ++ drop (length rs) rs)
      ∙ ap (λ ss. front ++ (t.slots ++ flat ss)) none
      ∙ ap (λ zs. front ++ zs) (append-nil t.slots ∙ e)
      ∙ sym (append_assoc front r.slots ys)
      ∙ ap (λ zs. zs ++ ys) (sym (last-row rs r got))

  pub last-set_chunks : AreChunks 0 rs → t.base ≡ r.base → 1 ≤ length t.slots → length t.slots ≤ most_in_chunk → AreChunks 0 (slice_set rs (length rs - 1) t)
  last-set_chunks ok base some most =
      let c = chunk-at 0 rs (length rs - 1) r ok got in
      let b = c.base in
      let k : 0 + total (flat (take (length rs - 1) rs)) ≡ total (flat (take (length rs - 1) rs)) = omega arith in
      subst (AreChunks 0) (sym last-set)
      (chunks-mixed rs (t ∷ []) (length rs - 1) (length rs) ok
      (record { base = base ∙ b ∙ k; some = some; most = most }, tt)
      (λ l. absurd (omega (arith, l))))
