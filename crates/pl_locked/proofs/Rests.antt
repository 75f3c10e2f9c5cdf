-- What is left of a journal behind the entries that were handed out.
use Rattle.std.proofs.Common.{◌≡◌, ℕ, ◌+◌, List, [], ◌∷◌, ◌++◌, length, refl, sym, ap, ◌∙◌, append_assoc, length-append, arith}
use Rattle.std.proofs.lemmas.List.{append-nil}
use Rattle.pl_model.specs.declared.history.Entry.{Entry}
use Rattle.pl_locked.specs.Views.{IsRest}

module _ {A : Type 0} (first : ℕ) (journal rest : List (Entry A)) where
  -- an entry more comes to the rest
  pub rest_push : (e : Entry A) → IsRest first journal rest → IsRest first (journal ++ e ∷ []) (rest ++ e ∷ [])
  rest_push e r = record { before = r.before; count = r.count; all = ap (λ j. j ++ e ∷ []) r.all ∙ append_assoc r.before rest (e ∷ []) }

  -- as many entries were handed out and are left as there are
  pub rest_count : IsRest first journal rest → first + length rest ≡ length journal
  rest_count r = let long = length-append r.before rest in let all = ap length r.all in omega (arith, long, all, r.count)

-- of a new journal nothing was handed out, and where all was, nothing is left
pub none_out : {A : Type 0} → IsRest {A = A} 0 [] []
none_out = record { before = []; count = refl; all = refl }

pub all_out : {A : Type 0} (journal : List (Entry A)) → IsRest (length journal) journal []
all_out journal = record { before = journal; count = refl; all = sym (append-nil journal) }
