-- Whether a name stands for what is under a key.
use Rattle.std.proofs.Common.{◌≡◌, ◌≢◌, ℕ, ◌+◌, Bool, true, false, cond, List, [], ◌∷◌, Option, Some, None, IsSome, refl, sym, ◌∙◌, ap, subst, inl, inr, nat_lt, slice_set, arith}
use Rattle.std.specs.Prelude.{is_some, unwrap_or, ◌||◌, ◌&&◌}
use Rattle.std.specs.declared.vec.Vec.{Vec}
use Rattle.std.specs.declared.cmp.Ordering.{Ordering}
use Rattle.std.specs.declared.cmp.Ordering.TheVariants.{Less, Equal, Greater}
use Rattle.std.specs.Ordering.{nat_cmp, is_eq, match_ordering}
use Rattle.std.specs.Cmp.Lexicographic.{slice_cmp}
use Rattle.std.specs.List.{list_any}
use Rattle.std.specs.Map.{lookup, remove_entry}
use Rattle.std.specs.BTreeMap.{insert_entry, is_at}
use Rattle.std.proofs.lemmas.Bool.{eq-eqb}
use Rattle.std.proofs.lemmas.Bool.Decides.{eqb_tells}
use Rattle.std.proofs.lemmas.List.{get_or-set_same, get_or-set_other}
use Rattle.std.proofs.lemmas.List.Sums.{sum_by-cons}
use Rattle.pl_model.specs.declared.node.Node.{Node}
use Rattle.pl_model.specs.declared.node.Node.TheVariants as node
use Rattle.pl_model.specs.Nodes.{key_of, same_node, has_name}
use Rattle.pl_model.proofs.Counting.{some_counted, counts_one}
use Rattle.pl_model.proofs.Nodes.{same_node-refl, same_node-is}
use Rattle.pl_segments.specs.Segments.{at}
use Rattle.pl_nodes.specs.declared.content.Content.{Content}
use Rattle.pl_nodes.specs.declared.content.Content.TheVariants.{Pipe, File}
use Rattle.pl_nodes.specs.Contents.{with_named}
use Rattle.pl_nodes.specs.NodesView.{one_if, names_of, names_on, pipe_named, file_named, is_packet, named_packet, named_as, AreNamed}
use Rattle.pl_nodes.proofs.Keyed.{within}
use Rattle.pl_nodes.proofs.Names.{compares, past-head}

no-name : (b : Bool) (count : ℕ) → count + 1 ≡ one_if b → count ≡ 0
no-name true count e = omega (arith, e)
no-name false count e = omega (arith, e)

some-name : (b : Bool) (count : ℕ) → count + 1 ≡ one_if b → b ≡ true
some-name true count e = refl
some-name false count e = absurd (omega (arith, e))

pub none-found : (o : Option Node) → is_some o ≡ false → o ≡ None
none-found None none = refl
none-found (Some n) none = absurd (cc)

-- nothing has a name
pub named-none : (A : Type 0) (n : Node) → named_as {A = A} n None ≡ false
named-none A (node.Pipe p) = refl
named-none A (node.File f) = refl

module _ {A : Type 0} where
  -- what says of its name what something else said
  abbrev pub NamedAlike : (old new : Option (Content A)) → Type 0
  NamedAlike old new = (pipe_named new ≡ pipe_named old) × (file_named new ≡ file_named old)

  -- one change that says the same leaves the names true
  module _ (before after : List (Option (Content A))) (key : ℕ) (others : (q : ℕ) → q ≢ key → at after q ≡ at before q)
      (old new : Option (Content A)) (was : at before key ≡ old) (now : at after key ≡ new) (same : NamedAlike old new) where
    alike : (q : ℕ) → NamedAlike (at before q) (at after q)
    alike q = elim (eqb_tells q key) as (λ _. NamedAlike (at before q) (at after q)) [
      | inl e ↦
          subst (λ j. NamedAlike (at before j) (at after j)) (sym e.1)
          (ap pipe_named now ∙ same.0 ∙ sym (ap pipe_named was), ap file_named now ∙ same.1 ∙ sym (ap file_named was))
      | inr e ↦ (ap pipe_named (others q e.1), ap file_named (others q e.1))
    ]

    named-same : (n : Node) → named_as n (at after (key_of n)) ≡ named_as n (at before (key_of n))
    named-same (node.Pipe q) = (alike q).0
    named-same (node.File q) = (alike q).1

    pub still-named : (es : List (Vec ℕ A × Node)) → AreNamed es before → AreNamed es after
    still-named es named = λ n. named n ∙ ap (λ b. one_if b) (sym (named-same n))

  pub put-named : (contents : List (Option (Content A))) (key : ℕ) (old new : Content A) → at contents key ≡ Some old → NamedAlike (Some old) (Some new)
      → (es : List (Vec ℕ A × Node)) → AreNamed es contents → AreNamed es (slice_set contents key (Some new))
  put-named contents key old new there =
      still-named contents (slice_set contents key (Some new)) key (λ q d. get_or-set_other contents key q (Some new) None d)
      (Some old) (Some new) there (get_or-set_same contents key (Some new) None (within contents key old there))

  -- where one thing changed, and isn't a packet pipe with a name, none is
  pub still-plain : (before after : List (Option (Content A))) (key : ℕ) (others : (q : ℕ) → q ≢ key → at after q ≡ at before q) (new : Option (Content A)) (now : at after key ≡ new)
      → named_packet new ≡ false → ((q : ℕ) → named_packet (at before q) ≡ false) → (q : ℕ) → named_packet (at after q) ≡ false
  still-plain before after key others new now is plain q = elim (eqb_tells q key) as (λ _. named_packet (at after q) ≡ false) [
    | inl e ↦ ap (λ j. named_packet (at after j)) e.1 ∙ ap named_packet now ∙ is
    | inr e ↦ ap named_packet (others q e.1) ∙ plain q
  ]

  pub put-plain : (contents : List (Option (Content A))) (key : ℕ) (old new : Content A) → at contents key ≡ Some old → NamedAlike (Some old) (Some new) → is_packet (Some new) ≡ is_packet (Some old)
      → ((q : ℕ) → named_packet (at contents q) ≡ false) → (q : ℕ) → named_packet (at (slice_set contents key (Some new)) q) ≡ false
  put-plain contents key old new there alike kind plain =
      still-plain contents (slice_set contents key (Some new)) key (λ q d. get_or-set_other contents key q (Some new) None d)
      (Some new) (get_or-set_same contents key (Some new) None (within contents key old there)) ((λ i. alike.0 i && kind i) ∙ ap named_packet (sym there) ∙ plain key) plain

  module _ (n : Node) where
    came-head : (o : Ordering) (d e : Vec ℕ A × Node) (es rest : List (Vec ℕ A × Node)) (found : Option Node) → cond (is_eq o) (Some e.1) found ≡ None
        → names_on rest n ≡ one_if (same_node d.1 n) + names_on es n
        → names_on (match_ordering o (d ∷ e ∷ es) ((e.0, d.1) ∷ es) (e ∷ rest)) n ≡ one_if (same_node d.1 n) + names_on (e ∷ es) n
    came-head Less d e es rest found none more = sum_by-cons (λ (x : Vec ℕ A × Node). one_if (same_node x.1 n)) d (e ∷ es)
    came-head Equal d e es rest found none more = absurd (cc)
    came-head Greater d e es rest found none more =
        let new = sum_by-cons (λ (x : Vec ℕ A × Node). one_if (same_node x.1 n)) e rest in
        let old = sum_by-cons (λ (x : Vec ℕ A × Node). one_if (same_node x.1 n)) e es in
        omega (arith, new, old, more)

    -- a name that wasn't there comes
    came-one : (es : List (Vec ℕ A × Node)) (k : Vec ℕ A) (v : Node) → lookup (is_at (compares k.items)) es ≡ None
        → names_on (insert_entry (λ x y. slice_cmp nat_cmp x.items y.items) es k v) n ≡ one_if (same_node v n) + names_on es n
    came-one [] k v none = sum_by-cons (λ (x : Vec ℕ A × Node). one_if (same_node x.1 n)) (k, v) []
    came-one (e ∷ es) k v none =
        came-head (slice_cmp nat_cmp k.items e.0.items) (k, v) e es (insert_entry (λ x y. slice_cmp nat_cmp x.items y.items) es k v) (lookup (is_at (compares k.items)) es) none
        (came-one es k v (past-head (is_eq (slice_cmp nat_cmp k.items e.0.items)) e.1 (lookup (is_at (compares k.items)) es) none))

    gone-head : (here : Bool) (e : Vec ℕ A × Node) (v : Node) (es rest : List (Vec ℕ A × Node)) (found : Option Node) → cond here (Some e.1) found ≡ Some v
        → (found ≡ Some v → names_on rest n + one_if (same_node v n) ≡ names_on es n)
        → names_on (cond here es (e ∷ rest)) n + one_if (same_node v n) ≡ names_on (e ∷ es) n
    gone-head true e v es rest found is more =
        let old = sum_by-cons (λ (x : Vec ℕ A × Node). one_if (same_node x.1 n)) e es in
        let same : one_if (same_node e.1 n) ≡ one_if (same_node v n) = ap (λ o. one_if (same_node (unwrap_or o e.1) n)) is in
        omega (arith, old, same)
    gone-head false e v es rest found is more =
        let new = sum_by-cons (λ (x : Vec ℕ A × Node). one_if (same_node x.1 n)) e rest in
        let old = sum_by-cons (λ (x : Vec ℕ A × Node). one_if (same_node x.1 n)) e es in
        let fewer = more is in
        omega (arith, new, old, fewer)

    -- one that was there goes
    gone-one : (test : Vec ℕ A → Bool) (es : List (Vec ℕ A × Node)) (v : Node) → lookup test es ≡ Some v → names_on (remove_entry test es) n + one_if (same_node v n) ≡ names_on es n
    gone-one test [] v is = absurd (cc)
    gone-one test (e ∷ es) v is = gone-head (test e.0) e v es (remove_entry test es) (lookup test es) is (gone-one test es v)

  -- who is named, by the names
  module _ (es : List (Vec ℕ A × Node)) where
    mapped-any : (n : Node) (ds : List (Vec ℕ A × Node)) → has_name (names_of ds) n ≡ nat_lt 0 (names_on ds n)
    mapped-any n ds = any-mapped ds ∙ sym (some_counted (λ (e : Vec ℕ A × Node). same_node e.1 n) ds)
      where
        any-mapped : (xs : List (Vec ℕ A × Node)) → has_name (names_of xs) n ≡ list_any (λ (e : Vec ℕ A × Node). same_node e.1 n) xs
        any-mapped [] = refl
        any-mapped (x ∷ xs) = ap (λ b. same_node x.1 n || b) (any-mapped xs)

    pub named-is : (contents : List (Option (Content A))) → AreNamed es contents → (n : Node) → named_as n (at contents (key_of n)) ≡ has_name (names_of es) n
    named-is contents named n = sym (mapped-any n es ∙ ap (nat_lt 0) (named n) ∙ counts_one (named_as n (at contents (key_of n))))

  unnamed : (n : Node) (x : Content A) → named_as n (Some (with_named false x)) ≡ false
  unnamed (node.Pipe q) (Pipe p) = refl
  unnamed (node.Pipe q) (File f) = refl
  unnamed (node.File q) (Pipe p) = refl
  unnamed (node.File q) (File f) = refl

  -- what is named as one kind isn't as the other
  other-kind : (v n : Node) (x : Content A) → named_as v (Some x) ≡ true → same_node v n ≡ false → key_of n ≡ key_of v → named_as n (Some x) ≡ false
  other-kind (node.Pipe p) (node.Pipe q) x is apart same = absurd (let e = eq-eqb p q (sym same) in cc)
  other-kind (node.File p) (node.File q) x is apart same = absurd (let e = eq-eqb p q (sym same) in cc)
  other-kind (node.Pipe p) (node.File q) (Pipe y) is apart same = refl
  other-kind (node.Pipe p) (node.File q) (File y) is apart same = absurd (cc)
  other-kind (node.File p) (node.Pipe q) (Pipe y) is apart same = absurd (cc)
  other-kind (node.File p) (node.Pipe q) (File y) is apart same = refl

  -- a node with a new name comes
  module _ (es : List (Vec ℕ A × Node)) (name : Vec ℕ A) (before after : List (Option (Content A))) (v : Node) (new : Content A)
      (vacant : lookup (is_at (compares name.items)) es ≡ None) (others : (q : ℕ) → q ≢ key_of v → at after q ≡ at before q)
      (free : at before (key_of v) ≡ None) (comes : at after (key_of v) ≡ Some new) (is : named_as v (Some new) ≡ true) (named : AreNamed es before) where
    -- nobody else is said to have a name who hadn't
    others-alike : (n : Node) → same_node v n ≡ false → named_as n (at after (key_of n)) ≡ named_as n (at before (key_of n))
    others-alike n apart = elim (eqb_tells (key_of n) (key_of v)) as (λ _. named_as n (at after (key_of n)) ≡ named_as n (at before (key_of n))) [
      | inl e ↦
          ap (λ j. named_as n (at after j)) e.1 ∙ ap (named_as n) comes ∙ other-kind v n new is apart e.1
          ∙ sym (ap (λ j. named_as n (at before j)) e.1 ∙ ap (named_as n) free ∙ named-none A n)
      | inr e ↦ ap (named_as n) (others (key_of n) e.1)
    ]

    here : names_on (insert_entry (λ x y. slice_cmp nat_cmp x.items y.items) es name v) v ≡ one_if (named_as v (at after (key_of v)))
    here =
        let more = came-one v es name v vacant in
        let one : one_if (same_node v v) ≡ 1 = ap (λ b. one_if b) (same_node-refl v) in
        let was : names_on es v ≡ 0 = named v ∙ ap (λ o. one_if (named_as v o)) free ∙ ap (λ b. one_if b) (named-none A v) in
        let now : one_if (named_as v (at after (key_of v))) ≡ 1 = ap (λ o. one_if (named_as v o)) comes ∙ ap (λ b. one_if b) is in
        omega (arith, more, one, was, now)

    pub new-named : AreNamed (insert_entry (λ x y. slice_cmp nat_cmp x.items y.items) es name v) after
    new-named n = by (same_node v n) refl
      where
        by : (b : Bool) → same_node v n ≡ b → names_on (insert_entry (λ x y. slice_cmp nat_cmp x.items y.items) es name v) n ≡ one_if (named_as n (at after (key_of n)))
        by true same =
            subst (λ m. names_on (insert_entry (λ x y. slice_cmp nat_cmp x.items y.items) es name v) m ≡ one_if (named_as m (at after (key_of m)))) (same_node-is v n same) here
        by false apart =
            let more = came-one n es name v vacant in
            let none : one_if (same_node v n) ≡ 0 = ap (λ b. one_if b) apart in
            let was = named n ∙ ap (λ b. one_if b) (sym (others-alike n apart)) in
            omega (arith, more, none, was)

  named-there : (n : Node) (o : Option (Content A)) → named_as n o ≡ true → IsSome o
  named-there (node.Pipe q) None is = is
  named-there (node.File q) None is = is
  named-there n (Some x) is = refl

  -- a name goes, and what it stood for says so
  module _ (test : Vec ℕ A → Bool) (es : List (Vec ℕ A × Node)) (v : Node) (found : lookup test es ≡ Some v) (contents : List (Option (Content A))) (named : AreNamed es contents) where
    counted : names_on (remove_entry test es) v + 1 ≡ one_if (named_as v (at contents (key_of v)))
    counted =
        let fewer = gone-one v test es v found in
        let one : one_if (same_node v v) ≡ 1 = ap (λ b. one_if b) (same_node-refl v) in
        let was = named v in
        omega (arith, fewer, one, was)

    was-named : named_as v (at contents (key_of v)) ≡ true
    was-named = some-name (named_as v (at contents (key_of v))) (names_on (remove_entry test es) v) counted

    pub is-there : IsSome (at contents (key_of v))
    is-there = named-there v (at contents (key_of v)) was-named

    module _ (x : Content A) (there : at contents (key_of v) ≡ Some x) where
      put : at (slice_set contents (key_of v) (Some (with_named false x))) (key_of v) ≡ Some (with_named false x)
      put = get_or-set_same contents (key_of v) (Some (with_named false x)) None (within contents (key_of v) x there)

      unnamed-here : (n : Node) → key_of n ≡ key_of v → named_as n (at (slice_set contents (key_of v) (Some (with_named false x))) (key_of n)) ≡ false
      unnamed-here n same = ap (λ j. named_as n (at (slice_set contents (key_of v) (Some (with_named false x))) j)) same ∙ ap (named_as n) put ∙ unnamed n x

      others-named : (n : Node) → same_node v n ≡ false → named_as n (at (slice_set contents (key_of v) (Some (with_named false x))) (key_of n)) ≡ named_as n (at contents (key_of n))
      others-named n apart = elim (eqb_tells (key_of n) (key_of v)) as (λ _. named_as n (at (slice_set contents (key_of v) (Some (with_named false x))) (key_of n)) ≡ named_as n (at contents (key_of n))) [
        | inl e ↦
            unnamed-here n e.1
            ∙ sym (ap (λ j. named_as n (at contents j)) e.1 ∙ ap (named_as n) there ∙ other-kind v n x (sym (ap (named_as v) there) ∙ was-named) apart e.1)
        | inr e ↦ ap (named_as n) (get_or-set_other contents (key_of v) (key_of n) (Some (with_named false x)) None e.1)
      ]

      pub gone-named : AreNamed (remove_entry test es) (slice_set contents (key_of v) (Some (with_named false x)))
      gone-named n = by (same_node v n) refl
        where
          by : (b : Bool) → same_node v n ≡ b → names_on (remove_entry test es) n ≡ one_if (named_as n (at (slice_set contents (key_of v) (Some (with_named false x))) (key_of n)))
          by true same =
              subst (λ m. names_on (remove_entry test es) m ≡ one_if (named_as m (at (slice_set contents (key_of v) (Some (with_named false x))) (key_of m)))) (same_node-is v n same)
              (no-name (named_as v (at contents (key_of v))) (names_on (remove_entry test es) v) counted ∙ sym (ap (λ b. one_if b) (unnamed-here v refl)))
          by false apart =
              let fewer = gone-one n test es v found in
              let none : one_if (same_node v n) ≡ 0 = ap (λ b. one_if b) apart in
              let was = named n ∙ ap (λ b. one_if b) (sym (others-named n apart)) in
              omega (arith, fewer, none, was)
