-- A slot that was put behind the others.
use Rattle.std.proofs.Common.{◌≡◌, ℕ, ◌≤◌, List, [], ◌∷◌, ◌++◌, Option, Some, None, sym, ◌∙◌, ap, subst, length, arith}
use Rattle.std.specs.Prelude.{is_some, IfSome}
use Rattle.std.specs.Option.{option_to_list}
use Rattle.std.proofs.lemmas.List.{append-nil}
use Rattle.pl_segments.specs.declared.slice.Slice.{Slice}
use Rattle.pl_segments.specs.Segments.{Segment, Map, AreGood, at}
use Rattle.pl_segments.specs.Slices.{reads, all_read}
use Rattle.pl_segments.specs.Turns.{Holds, Turns}
use Rattle.pl_segments.specs.Slots.{total, AllSolid}
use Rattle.pl_segments.proofs.Pushing.{push-turns, push-read}
use Rattle.pl_segments.proofs.SlotLemmas.{total-append, solid-append}
use Rattle.pl_file.specs.Rows.{AllWithin}
use Rattle.pl_file.specs.Added.{Adds, IsAdded}
use Rattle.pl_file.proofs.Editing.{lie-within}

module _ (m : Map) (xs : List Slice) (bytes : List ℕ) (held : Holds m xs) (solid : AllSolid xs) (some : 1 ≤ length bytes) (now : List (Option Segment)) (good : AreGood now) (ys : List Slice) where
  one-added : (x : Slice) → ys ≡ xs ++ x ∷ [] → Turns m [] (at now) (x ∷ []) → x.len ≡ length bytes → reads (at now) x ≡ bytes → Adds m xs bytes (at now) ys
  one-added x e t l r =
      let turned = push-turns m (at now) xs x bytes held t in
      let sum = total-append xs (x ∷ []) in
      let all = ap total e in
      record {
        turns = subst (Turns m xs (at now)) (sym e) turned;
        read = ap (all_read (at now)) e ∙ push-read m (at now) xs x bytes held t r;
        solid = subst AllSolid (sym e) (solid-append xs (x ∷ []) solid (omega (arith, l, some), tt));
        within = subst AllWithin (sym e) (lie-within now (xs ++ x ∷ []) good turned.lie);
        total = omega (arith, all, sum, l);
      }

  pub is-added : (o : Option Slice) → ys ≡ xs ++ option_to_list o → IfSome o (λ x. Turns m [] (at now) (x ∷ [])) → IfSome o (λ x. (x.len ≡ length bytes) × (reads (at now) x ≡ bytes)) → IsAdded m xs bytes (is_some o) (at now) ys
  is-added None e t r = e ∙ append-nil xs
  is-added (Some x) e t r = one-added x e t r.0 r.1
