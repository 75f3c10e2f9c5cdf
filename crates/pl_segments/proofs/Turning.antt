-- Changes of a store and of slices that hold its segments: one after another, and beside other slices.
use Rattle.std.proofs.Common.{◌≡◌, ℕ, ◌+◌, ◌≤◌, List, [], ◌∷◌, ◌++◌, refl, sym, ◌∙◌, ap, nat_eq, arith}
use Rattle.std.proofs.lemmas.Bool.{eq-eqb}
use Rattle.std.proofs.lemmas.List.{append-nil, append_assoc}
use Rattle.pl_segments.specs.declared.slice.Slice.{Slice}
use Rattle.pl_segments.specs.Segments.{Map, set_at, filled, holders, less_held}
use Rattle.pl_segments.specs.Slices.{Lies, reads, all_read, AllLie, one_if, naming}
use Rattle.pl_segments.specs.Turns.{Begins, Holds, Turns}
use Rattle.pl_segments.proofs.Changing.{begins-same, reads-begun, lies-begun, released-filled}

-- slices after slices
pub naming-append : (xs ys : List Slice) (key : ℕ) → naming (xs ++ ys) key ≡ naming xs key + naming ys key
naming-append [] ys key = let e : naming ys key ≡ 0 + naming ys key = omega arith in e
naming-append (x ∷ xs) ys key = let r = naming-append xs ys key in (let e : one_if (nat_eq x.segment key) + naming (xs ++ ys) key ≡ one_if (nat_eq x.segment key) + naming xs key + naming ys key = omega (arith, r) in e)

pub read-append : (m : Map) (xs ys : List Slice) → all_read m (xs ++ ys) ≡ all_read m xs ++ all_read m ys
read-append m [] ys = refl
read-append m (x ∷ xs) ys = ap (λ bs. reads m x ++ bs) (read-append m xs ys) ∙ sym (append_assoc (reads m x) (all_read m xs) (all_read m ys))

pub lie-append : (m : Map) (xs ys : List Slice) → AllLie m xs → AllLie m ys → AllLie m (xs ++ ys)
lie-append m [] ys p q = q
lie-append m (x ∷ xs) ys p q = (p.0, lie-append m xs ys p.1 q)

pub lie-left : (m : Map) (xs ys : List Slice) → AllLie m (xs ++ ys) → AllLie m xs
lie-left m [] ys p = tt
lie-left m (x ∷ xs) ys p = (p.0, lie-left m xs ys p.1)

pub lie-right : (m : Map) (xs ys : List Slice) → AllLie m (xs ++ ys) → AllLie m ys
lie-right m [] ys p = p
lie-right m (x ∷ xs) ys p = lie-right m xs ys p.1

begins-begins : (f g h : List ℕ) → Begins f g → Begins g h → Begins f h
begins-begins f g h a b = record { more = a.more ++ b.more; is = b.is ∙ ap (λ x. x ++ b.more) a.is ∙ append_assoc f a.more b.more }

-- nothing changes
pub turns-same : (m : Map) (xs : List Slice) → AllLie m xs → Turns m xs m xs
turns-same m xs lie = record { counted = λ key. refl; kept = λ key l. begins-same _ _ refl; lie = lie }

-- one change after another
pub turns-then : (m n o : Map) (xs ys zs : List Slice) → Turns m xs n ys → Turns n ys o zs → Turns m xs o zs
turns-then m n o xs ys zs t u = record {
  counted = λ key. let a = t.counted key in let b = u.counted key in omega arith;
  kept = λ key l. begins-begins _ _ _ (t.kept key l) (u.kept key (let a = t.counted key in omega arith));
  lie = u.lie;
}

-- the new slices are held where the old ones were
pub holds-turned : (m n : Map) (xs ys : List Slice) → Holds m xs → Turns m xs n ys → Holds n ys
holds-turned m n xs ys h t = record { lie = t.lie; few = λ key. let a = t.counted key in let b = h.few key in omega arith }

-- Slices that others hold: each segment has more holders than xs name it, by as many as these name it.
module _ (m n : Map) (xs ys : List Slice) (t : Turns m xs n ys) (others : List Slice) (few : (key : ℕ) → naming xs key + naming others key ≤ holders m key) where
  private_keep : (zs : List Slice) → ((key : ℕ) → naming zs key ≤ naming others key) → AllLie m zs → AllLie n zs × (all_read n zs ≡ all_read m zs)
  private_keep [] part lie = (tt, refl)
  private_keep (z ∷ zs) part lie =
      let key = z.segment in
      let one : one_if (nat_eq z.segment z.segment) ≡ 1 = ap one_if (eq-eqb z.segment z.segment refl) in
      let p = part z.segment in
      let f = few z.segment in
      let b = t.kept z.segment (omega (arith, one, p, f)) in
      let c = t.counted z.segment in
      let rest = private_keep zs (λ k. let q = part k in omega arith) lie.1 in
      ((lies-begun m n z b (omega (arith, one, p, f, c)) lie.0.within, rest.0), (λ i. reads-begun m n z b lie.0.within i ++ rest.1 i))

  pub others-lie : AllLie m others → AllLie n others
  others-lie lie = (private_keep others (λ key. omega arith) lie).0

  pub others-read : AllLie m others → all_read n others ≡ all_read m others
  others-read lie = (private_keep others (λ key. omega arith) lie).1

-- a change behind other slices
module _ (m n : Map) (before xs ys : List Slice) (h : Holds m (before ++ xs)) (t : Turns m xs n ys) where
  few_behind : (key : ℕ) → naming xs key + naming before key ≤ holders m key
  few_behind key = let a = h.few key in let b = naming-append before xs key in omega arith

  pub turns-behind : Turns m (before ++ xs) n (before ++ ys)
  turns-behind = record {
    counted = λ key. let a = naming-append before xs key in let b = naming-append before ys key in let c = t.counted key in omega arith;
    kept = λ key l. t.kept key (let a = naming-append before xs key in omega arith);
    lie = lie-append n before ys (others-lie m n xs ys t before few_behind (lie-left m before xs h.lie)) t.lie;
  }

  pub read-behind : all_read n (before ++ ys) ≡ all_read m before ++ all_read n ys
  read-behind = read-append n before ys ∙ ap (λ bs. bs ++ all_read n ys) (others-read m n xs ys t before few_behind (lie-left m before xs h.lie))

-- a change before other slices
module _ (m n : Map) (xs ys after : List Slice) (h : Holds m (xs ++ after)) (t : Turns m xs n ys) where
  few_before : (key : ℕ) → naming xs key + naming after key ≤ holders m key
  few_before key = let a = h.few key in let b = naming-append xs after key in omega arith

  pub turns-before : Turns m (xs ++ after) n (ys ++ after)
  turns-before = record {
    counted = λ key. let a = naming-append xs after key in let b = naming-append ys after key in let c = t.counted key in omega arith;
    kept = λ key l. t.kept key (let a = naming-append xs after key in omega arith);
    lie = lie-append n ys after t.lie (others-lie m n xs ys t after few_before (lie-right m xs after h.lie));
  }

  pub read-before : all_read n (ys ++ after) ≡ all_read n ys ++ all_read m after
  read-before = read-append n ys after ∙ ap (λ bs. all_read n ys ++ bs) (others-read m n xs ys t after few_before (lie-right m xs after h.lie))

-- two slices become one in a new segment
module _ (m n o p : Map) (a b x : Slice) (h : Holds m (a ∷ b ∷ [])) (t : Turns m [] n (x ∷ [])) where
  made : Turns m (a ∷ b ∷ []) n (a ∷ b ∷ x ∷ [])
  made = turns-behind m n (a ∷ b ∷ []) [] (x ∷ []) h t

  all_held : Holds n (a ∷ b ∷ x ∷ [])
  all_held = holds-turned m n (a ∷ b ∷ []) (a ∷ b ∷ x ∷ []) h made

  pub join-first : Lies n a
  join-first = made.lie.0

  module _ (u : Turns n (a ∷ []) o []) where
    first_gone : Turns n (a ∷ b ∷ x ∷ []) o (b ∷ x ∷ [])
    first_gone = turns-before n o (a ∷ []) [] (b ∷ x ∷ []) all_held u

    both_held : Holds o (b ∷ x ∷ [])
    both_held = holds-turned n o (a ∷ b ∷ x ∷ []) (b ∷ x ∷ []) all_held first_gone

    pub join-second : Lies o b
    join-second = first_gone.lie.0

    module _ (v : Turns o (b ∷ []) p []) where
      pub join-turns : Turns m (a ∷ b ∷ []) p (x ∷ [])
      join-turns =
          turns-then m n p (a ∷ b ∷ []) (a ∷ b ∷ x ∷ []) (x ∷ []) made
          (turns-then n o p (a ∷ b ∷ x ∷ []) (b ∷ x ∷ []) (x ∷ []) first_gone (turns-before o p (b ∷ []) [] (x ∷ []) both_held v))

      pub join-reads : reads p x ≡ reads n x
      join-reads =
          sym (append-nil (reads p x))
          ∙ others-read o p (b ∷ []) [] v (x ∷ []) (λ key. let f = both_held.few key in omega (arith, f)) (both_held.lie.1)
          ∙ others-read n o (a ∷ []) [] u (x ∷ []) (λ key. let f = all_held.few key in omega (arith, f)) (all_held.lie.1.1)
          ∙ append-nil (reads n x)

      -- and the new segment has the bytes that it had
      pub join-filled : o ≡ set_at n a.segment (less_held (n a.segment)) → p ≡ set_at o b.segment (less_held (o b.segment)) → filled p x.segment ≡ filled n x.segment
      join-filled one two =
          let own : one_if (nat_eq x.segment x.segment) ≡ 1 = ap one_if (eq-eqb x.segment x.segment refl) in
          let all = all_held.few x.segment in
          let both = both_held.few x.segment in
          released-filled o p b two x.segment (omega (arith, own, both)) ∙ released-filled n o a one x.segment (omega (arith, own, all))

-- a slice takes in the bytes of a second one, which is let go
module _ (m n o : Map) (a b y : Slice) (h : Holds m (a ∷ b ∷ [])) (t : Turns m (a ∷ []) n (y ∷ [])) where
  grown : Turns m (a ∷ b ∷ []) n (y ∷ b ∷ [])
  grown = turns-before m n (a ∷ []) (y ∷ []) (b ∷ []) h t

  pub grown-second : Lies n b
  grown-second = grown.lie.1.0

  module _ (u : Turns n (b ∷ []) o []) where
    grown_held : Holds n (y ∷ b ∷ [])
    grown_held = holds-turned m n (a ∷ b ∷ []) (y ∷ b ∷ []) h grown

    pub grown-turns : Turns m (a ∷ b ∷ []) o (y ∷ [])
    grown-turns = turns-then m n o (a ∷ b ∷ []) (y ∷ b ∷ []) (y ∷ []) grown (turns-behind n o (y ∷ []) (b ∷ []) [] grown_held u)

    pub grown-reads : reads o y ≡ reads n y
    grown-reads =
        sym (append-nil (reads o y))
        ∙ others-read n o (b ∷ []) [] u (y ∷ []) (λ key. let f = grown_held.few key in omega (arith, f)) t.lie
        ∙ append-nil (reads n y)

    -- and its segment has the bytes that it had
    pub grown-filled : o ≡ set_at n b.segment (less_held (n b.segment)) → filled o y.segment ≡ filled n y.segment
    grown-filled is =
        let own : one_if (nat_eq y.segment y.segment) ≡ 1 = ap one_if (eq-eqb y.segment y.segment refl) in
        let f = grown_held.few y.segment in
        released-filled n o b is y.segment (omega (arith, own, f))
