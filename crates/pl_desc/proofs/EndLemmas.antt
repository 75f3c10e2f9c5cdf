-- The counts of nodes, before and after a change.
use Rattle.std.proofs.Common.{◌≡◌, ℕ, zero, suc, ◌≤◌, List, [], ◌∷◌, ◌++◌, refl, ◌∙◌, ap, length, take, replicate}
use Rattle.std.proofs.Math.Path.{fun_ext}
use Rattle.std.proofs.lemmas.List.{take_all}
use Rattle.pl_model.specs.declared.node.Node.{Node}
use Rattle.pl_model.specs.declared.node.Node.TheVariants.{Pipe, File}
use Rattle.pl_desc.specs.declared.ends.Ends.{Ends}
use Rattle.pl_desc.specs.declared.ends.Counts.{Counts}
use Rattle.pl_desc.specs.Ends.{no_ends, ends_in, ends_at}

-- a list that grows by counts of nothing
ends_more : (n : ℕ) (list : List Ends) (key : ℕ) → ends_in (list ++ replicate n no_ends) key ≡ ends_in list key
ends_more zero [] key = refl
ends_more (suc n) [] zero = refl
ends_more (suc n) [] (suc key) = ends_more n [] key
ends_more n (e ∷ list) zero = refl
ends_more n (e ∷ list) (suc key) = ends_more n list key

pub ends-grown : (list : List Ends) (k n : ℕ) → length list ≤ k → ends_in (take k list ++ replicate n no_ends) ≡ ends_in list
ends-grown list k n l = ap (λ xs. ends_in (xs ++ replicate n no_ends)) (take_all k list l) ∙ fun_ext (ends_more n list)

-- the same counts in other lists
pub ends-same : {A : Type 0} (counts other : Counts A) → ends_in other.pipes.items ≡ ends_in counts.pipes.items → ends_in other.files.items ≡ ends_in counts.files.items → ends_at other ≡ ends_at counts
ends-same counts other p f = fun_ext by
  where
    by : (node : Node) → ends_at other node ≡ ends_at counts node
    by (Pipe key) = ap (λ m. m key) p
    by (File key) = ap (λ m. m key) f

-- no counts
pub ends-none : {A : Type 0} (counts : Counts A) → counts.pipes.items ≡ [] → counts.files.items ≡ [] → (node : Node) → ends_at counts node ≡ no_ends
ends-none counts p f (Pipe key) = ap (λ list. ends_in list key) p
ends-none counts p f (File key) = ap (λ list. ends_in list key) f
