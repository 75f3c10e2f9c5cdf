-- What the bytes of the file of a name are at the kernel's keys.
use Rattle.std.proofs.Common.{◌≡◌, ◌≤◌, ℕ, Bool, true, false, cond, List, [], ◌∷◌, map, length, take, drop, Option, Some, None, IfSome, refl, sym, ◌∙◌, ap, subst, nat_eq, arith}
use Rattle.std.proofs.lemmas.List.{take_all}
use Rattle.std.specs.Prelude.{IsSome, option_map}
use Rattle.std.specs.Cmp.Lexicographic.{pointwise}
use Rattle.pl_model.specs.declared.node.Node.{Node}
use Rattle.pl_model.specs.declared.node.Node.TheVariants as node
use Rattle.pl_model.specs.Keys.{PipeNode, FileNode}
use Rattle.pl_model.specs.Keys.{Node as KeyNode}
use Rattle.pl_model.specs.Map.{Map, get}
use Rattle.pl_model.specs.Numbers.{most_bytes}
use Rattle.pl_model.specs.Numbered.{numbers, State}
use Rattle.pl_model.specs.Renaming.{Renamings, rename, rename_node}
use Rattle.pl_model.specs.State.{Core, bytes_on, file_bytes}
use Rattle.pl_desc.specs.Rows.{at}
use Rattle.pl_state.specs.Contents.{Contents, core_of, node_of}
use Rattle.pl_state.specs.Makes.{Stands, Tells, HasFile}
use Rattle.pl_naming.proofs.by_call.Unlinking.{get-keyed}

-- other keys tell of the same bytes
module _ (r : Renamings) where
  get-renamed : (names : Map (List ℕ) (KeyNode numbers)) (name : List ℕ)
      → get (pointwise nat_eq) (map (λ (e : List ℕ × KeyNode numbers). (e.0, rename_node r e.1)) names) name ≡ option_map (rename_node r) (get (pointwise nat_eq) names name)
  get-renamed [] name = refl
  get-renamed (e ∷ es) name = by (pointwise nat_eq e.0 name) (get-renamed es name)
    where
      renamed : Map (List ℕ) (KeyNode numbers)
      renamed = map (λ (e : List ℕ × KeyNode numbers). (e.0, rename_node r e.1)) es

      by : (b : Bool) → get (pointwise nat_eq) renamed name ≡ option_map (rename_node r) (get (pointwise nat_eq) es name)
          → cond b (Some (rename_node r e.1)) (get (pointwise nat_eq) renamed name) ≡ option_map (rename_node r) (cond b (Some e.1) (get (pointwise nat_eq) es name))
      by true rest = refl
      by false rest = rest

  bytes-renamed : {A : Type 0} (c : Core A numbers) (o : Option (KeyNode numbers)) → bytes_on (rename r c) (option_map (rename_node r) o) ≡ bytes_on c o
  bytes-renamed c None = refl
  bytes-renamed c (Some (PipeNode p)) = refl
  bytes-renamed c (Some (FileNode f)) = ap c.files (r.file.back-to f)

  file_bytes-renamed : {A : Type 0} (c : Core A numbers) (name : List ℕ) → file_bytes (rename r c) name ≡ file_bytes c name
  file_bytes-renamed c name = ap (bytes_on (rename r c)) (get-renamed c.names name) ∙ bytes-renamed c (get (pointwise nat_eq) c.names name)

module _ {A : Type 0} (k : Contents A) (name : List ℕ) where
  -- what a node that the name stands for holds
  abbrev held : Option Node → Option (List ℕ)
  held None = None
  held (Some (node.Pipe p)) = None
  held (Some (node.File f)) = at k.nodes.files f

  held-is : (o : Option Node) → bytes_on (core_of k) (option_map node_of o) ≡ held o
  unfolding core_of
  held-is None = refl
  held-is (Some (node.Pipe p)) = refl
  held-is (Some (node.File f)) = refl

  at_keys : (o : Option Node) → get (pointwise nat_eq) k.nodes.names name ≡ o → file_bytes (core_of k) name ≡ held o
  unfolding core_of
  at_keys o is = ap (bytes_on (core_of k)) (get-keyed k.nodes.names name ∙ ap (option_map node_of) is) ∙ held-is o

  of_state : (o : Option Node) → get (pointwise nat_eq) k.nodes.names name ≡ o → (s : State A) → Stands k s → file_bytes s.core name ≡ held o
  of_state o is s stands = ap (λ c. file_bytes c name) (sym stands.renamed) ∙ file_bytes-renamed stands.numbered (core_of k) name ∙ at_keys o is

  pub tells_none : get (pointwise nat_eq) k.nodes.names name ≡ None → Tells k name None
  tells_none is = λ s. λ stands. sym (of_state None is s stands)

  pub tells_none_of_pipe : (p : ℕ) → get (pointwise nat_eq) k.nodes.names name ≡ Some (node.Pipe p) → Tells k name None
  tells_none_of_pipe p is = λ s. λ stands. sym (of_state (Some (node.Pipe p)) is s stands)

  module _ (f : ℕ) (is : get (pointwise nat_eq) k.nodes.names name ≡ Some (node.File f)) where
    pub tells_some : (bytes : List ℕ) → at k.nodes.files f ≡ Some bytes → Tells k name (Some bytes)
    tells_some bytes here = λ s. λ stands. sym (of_state (Some (node.File f)) is s stands ∙ here)

    pub has_file : IsSome (at k.nodes.files f) → HasFile k name
    has_file here = λ s. λ stands. subst (λ o. IsSome o) (sym (of_state (Some (node.File f)) is s stands)) here

-- a read of as many bytes as there are, from the first on, gives them all
pub whole : (count : ℕ) (read : List ℕ) (o : Option (List ℕ)) → IsSome o → IfSome o (λ bytes. read ≡ take count (drop 0 bytes)) → IfSome o (λ bytes. count ≡ length bytes) → o ≡ Some read
whole count read None here is many = absurd (cc)
whole count read (Some bytes) here is many = ap (λ b. Some b) (sym (is ∙ take_all count bytes (omega (arith, many))))

-- and so no more than a file may have
pub fits : (count : ℕ) (read : List ℕ) (o : Option (List ℕ)) → IsSome o → IfSome o (λ bytes. read ≡ take count (drop 0 bytes)) → IfSome o (λ bytes. count ≡ length bytes) → count ≤ most_bytes → length read ≤ most_bytes
fits count read None here is many few = absurd (cc)
fits count read (Some bytes) here is many few = omega (arith, ap length (is ∙ take_all count bytes (omega (arith, many))), many, few)
