-- The last of some things in the place of as many before them.
use Rattle.std.proofs.Common.{◌≡◌, ℕ, suc, ◌+◌, ◌-◌, ◌<◌, ◌≤◌, List, [], ◌∷◌, ◌++◌, sym, ◌∙◌, ap, length, take, drop, arith}
use Rattle.std.specs.Prelude.{slice_set, slice_index_or}
use Rattle.std.specs.List.{swap_remove}
use Rattle.std.proofs.Math.Seq.{take-suc, drop-cons, get_or-append_seam, set-append_seam}
use Rattle.std.proofs.lemmas.List.{append_assoc, length-append, length-take, take_at, take_all, drop_all, drop-append-le, take-append-drop}

-- the last takes the place of one
pub swapped : {X : Type 0} (fs bs : List X) (y z d : X) → swap_remove (fs ++ (y ∷ (bs ++ z ∷ []))) (length fs) d ≡ fs ++ (z ∷ bs)
swapped fs bs y z d =
    let xs = fs ++ (y ∷ (bs ++ z ∷ [])) in
    let front = fs ++ (y ∷ bs) in
    let whole : xs ≡ front ++ z ∷ [] = sym (append_assoc fs (y ∷ bs) (z ∷ [])) in
    let l = length-append front (z ∷ []) in
    let w = ap length whole in
    let at : length xs - 1 ≡ length front = omega (arith, l, w) in
    let last : slice_index_or xs (length xs - 1) d ≡ z = (λ i. slice_index_or (whole i) (at i) d) ∙ get_or-append_seam front z [] d in
    let n = length-append fs (z ∷ bs) in
    let m = length-append fs (y ∷ bs) in
    ap (λ v. take (length xs - 1) (slice_set xs (length fs) v)) last
    ∙ ap (take (length xs - 1)) (set-append_seam fs y (bs ++ z ∷ []) z ∙ sym (append_assoc fs (z ∷ bs) (z ∷ [])))
    ∙ take_at (fs ++ (z ∷ bs)) (z ∷ []) (length xs - 1) (omega (arith, at, n, m))

-- some things while the last of them take the place of as many before `last`, one after another, of which those from q on did
abbrev pub underway : {X : Type 0} → List X → ℕ → ℕ → ℕ → ℕ → List X
underway xs first last len q = take q xs ++ (drop (len + (q - first)) xs ++ drop last (take (len + (q - first)) xs))

module _ {X : Type 0} (xs : List X) (first last len : ℕ) (order : first ≤ last) (within : last ≤ len) (most : length xs ≡ len + (last - first)) where
  pub underway-first : xs ≡ underway xs first last len last
  underway-first =
      let none : drop (len + (last - first)) xs ≡ [] = drop_all (len + (last - first)) xs (omega (arith, most)) in
      let all : take (len + (last - first)) xs ≡ xs = take_all (len + (last - first)) xs (omega (arith, most)) in
      sym (take-append-drop last xs) ∙ (λ i. take last xs ++ (sym none i ++ drop last (sym all i)))

  pub underway-next : (q : ℕ) (d : X) → first ≤ q → q < last → swap_remove (underway xs first last len (q + 1)) q d ≡ underway xs first last len q
  underway-next q d from below =
      let k = len + (q - first) in
      let e : len + (q + 1 - first) ≡ suc k = omega (arith, from) in
      let y = slice_index_or xs q d in
      let z = slice_index_or xs k d in
      let bs = drop (suc k) xs ++ drop last (take k xs) in
      let lq = length-take q xs in
      let lk = length-take k xs in
      let s : q + 1 ≡ suc q = omega arith in
      let here : take (q + 1) xs ≡ take q xs ++ y ∷ [] = ap (λ n. take n xs) s ∙ take-suc xs q d (omega (arith, most, order, within, from, below)) in
      let there : drop last (take (suc k) xs) ≡ drop last (take k xs) ++ z ∷ [] = ap (drop last) (take-suc xs k d (omega (arith, most, from, below))) ∙ drop-append-le last (take k xs) (z ∷ []) (omega (arith, lk, most, within, from, below)) in
      let shape : underway xs first last len (q + 1) ≡ take q xs ++ (y ∷ (bs ++ z ∷ [])) =
      (λ i. here i ++ (drop (e i) xs ++ drop last (take (e i) xs)))
      ∙ ap (λ ws. (take q xs ++ y ∷ []) ++ (drop (suc k) xs ++ ws)) there
      ∙ append_assoc (take q xs) (y ∷ []) (drop (suc k) xs ++ (drop last (take k xs) ++ z ∷ []))
      ∙ ap (λ ws. take q xs ++ (y ∷ ws)) (sym (append_assoc (drop (suc k) xs) (drop last (take k xs)) (z ∷ []))) in
      let at : q ≡ length (take q xs) = omega (arith, lq, most, order, within, below) in
      (λ i. swap_remove (shape i) (at i) d)
      ∙ swapped (take q xs) bs y z d
      ∙ ap (λ ws. take q xs ++ (ws ++ drop last (take k xs))) (sym (drop-cons xs k d (omega (arith, most, from, below))))
