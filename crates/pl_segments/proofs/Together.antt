-- A last slot and a slot that is pushed become one.
use Rattle.std.proofs.Common.{◌≡◌, ◌+◌, ◌≤◌, List, [], ◌∷◌, ◌++◌, sym, ◌∙◌, ap, subst, arith}
use Rattle.std.proofs.lemmas.List.{append-nil, append_assoc}
use Rattle.pl_segments.specs.declared.slice.Slice.{Slice}
use Rattle.pl_segments.specs.Segments.{Map}
use Rattle.pl_segments.specs.Slices.{reads, all_read}
use Rattle.pl_segments.specs.Turns.{Holds, Turns}
use Rattle.pl_segments.specs.Slots.{AllSolid, last_len}
use Rattle.pl_segments.proofs.Turning.{naming-append, read-append, lie-left, lie-right, turns-behind, read-behind}
use Rattle.pl_segments.proofs.SlotLemmas.{solid-append, solid-left, solid-right, last-len}

-- some of the slices that are held
pub holds-left : (m : Map) (xs ys : List Slice) → Holds m (xs ++ ys) → Holds m xs
holds-left m xs ys h = record { lie = lie-left m xs ys h.lie; few = λ key. let a = h.few key in let b = naming-append xs ys key in omega (arith, a, b) }

pub holds-right : (m : Map) (xs ys : List Slice) → Holds m (xs ++ ys) → Holds m ys
holds-right m xs ys h = record { lie = lie-right m xs ys h.lie; few = λ key. let a = h.few key in let b = naming-append xs ys key in omega (arith, a, b) }

module _ (m n : Map) (xs front : List Slice) (x y s : Slice) (shape : xs ≡ front ++ x ∷ []) where
  pub all-together : xs ++ s ∷ [] ≡ front ++ (x ∷ s ∷ [])
  all-together = ap (λ zs. zs ++ s ∷ []) shape ∙ append_assoc front (x ∷ []) (s ∷ [])

  pub is-last : last_len xs ≡ x.len
  is-last = ap last_len shape ∙ last-len front x

  pub one-solid : AllSolid (xs ++ s ∷ []) → y.len ≡ x.len + s.len → AllSolid (front ++ y ∷ [])
  one-solid h len =
      let parts = subst AllSolid all-together h in
      let l = (solid-right front (x ∷ s ∷ []) parts).0 in
      solid-append front (y ∷ []) (solid-left front (x ∷ s ∷ []) parts) (omega (arith, l, len), tt)

  pub one-some : AllSolid (xs ++ s ∷ []) → 1 ≤ s.len
  one-some h = (solid-right front (x ∷ s ∷ []) (subst AllSolid all-together h)).1.0

  module _ (held : Holds m (xs ++ s ∷ [])) where
    all_held : Holds m (front ++ (x ∷ s ∷ []))
    all_held = subst (Holds m) all-together held

    pub both-held : Holds m (x ∷ s ∷ [])
    both-held = holds-right m front (x ∷ s ∷ []) all_held

    module _ (t : Turns m (x ∷ s ∷ []) n (y ∷ [])) where
      pub one-turns : Turns m (xs ++ s ∷ []) n (front ++ y ∷ [])
      one-turns = subst (λ zs. Turns m zs n (front ++ y ∷ [])) (sym all-together) (turns-behind m n front (x ∷ s ∷ []) (y ∷ []) all_held t)

      pub one-read : reads n y ≡ reads m x ++ reads m s → all_read n (front ++ y ∷ []) ≡ all_read m (xs ++ s ∷ [])
      one-read r =
          read-behind m n front (x ∷ s ∷ []) (y ∷ []) all_held t
          ∙ ap (λ bs. all_read m front ++ bs) (append-nil (reads n y) ∙ r ∙ ap (λ bs. reads m x ++ bs) (sym (append-nil (reads m s))))
          ∙ sym (read-append m front (x ∷ s ∷ []))
          ∙ ap (all_read m) (sym all-together)
