-- The calls that wait, as the machine has them, through each change.
use Rattle.std.proofs.Common.{◌≡◌, ◌≢◌, ℕ, ◌+◌, ◌≤◌, Bool, true, false, not, cond, [], ◌∷◌, ◌++◌, map, Option, Some, None, IfSome, IsSome, refl, sym, ◌∙◌, ap, subst, inl, inr, nat_eq, arith}
use Rattle.std.specs.Prelude.{option_map}
use Rattle.std.proofs.lemmas.Bool.{eq-eqb, ne_eqb}
use Rattle.std.proofs.lemmas.Bool.Decides.{eqb_tells}
use Rattle.pl_model.specs.Map.{Map, get, put, without}
use Rattle.pl_parked.specs.declared.call.ParkedCall.{ParkedCall}
use Rattle.pl_numbered.specs.Rising.{Rise}
use Rattle.pl_numbered.proofs.Rising.{Rise-lower, Rise-bounds}
use Rattle.pl_state.specs.Contents.{waiting_of, parked_of}

-- a map with the value under each number changed
module _ {X Y : Type 0} (f : X → Y) where
  abbrev each : Map ℕ X → Map ℕ Y
  each es = map (λ e. (e.0, f e.1)) es

  pub get-each : (es : Map ℕ X) (n : ℕ) → get nat_eq (each es) n ≡ option_map f (get nat_eq es n)
  get-each [] n = refl
  get-each (e ∷ es) n = by (nat_eq e.0 n) (get-each es n)
    where
      by : (b : Bool) → get nat_eq (each es) n ≡ option_map f (get nat_eq es n) → cond b (Some (f e.1)) (get nat_eq (each es) n) ≡ option_map f (cond b (Some e.1) (get nat_eq es n))
      by true rest = refl
      by false rest = rest

  put-each : (es : Map ℕ X) (n : ℕ) (x : X) → each (put nat_eq es n x) ≡ put nat_eq (each es) n (f x)
  put-each [] n x = refl
  put-each (e ∷ es) n x = by (nat_eq e.0 n) (put-each es n x)
    where
      by : (b : Bool) → each (put nat_eq es n x) ≡ put nat_eq (each es) n (f x) → each (cond b ((n, x) ∷ es) (e ∷ put nat_eq es n x)) ≡ cond b ((n, f x) ∷ each es) ((e.0, f e.1) ∷ put nat_eq (each es) n (f x))
      by true rest = refl
      by false rest = ap (λ ys. (e.0, f e.1) ∷ ys) rest

  without-each : (es : Map ℕ X) (n : ℕ) → each (without nat_eq es n) ≡ without nat_eq (each es) n
  without-each [] n = refl
  without-each (e ∷ es) n = by (nat_eq n e.0) (without-each es n)
    where
      by : (b : Bool) → each (without nat_eq es n) ≡ without nat_eq (each es) n → each (cond (not b) (e ∷ without nat_eq es n) (without nat_eq es n)) ≡ cond (not b) ((e.0, f e.1) ∷ without nat_eq (each es) n) (without nat_eq (each es) n)
      by true rest = rest
      by false rest = ap (λ ys. (e.0, f e.1) ∷ ys) rest

  pub more-each : (es : Map ℕ X) (n : ℕ) (x : X) → each (es ++ (n, x) ∷ []) ≡ each es ++ (n, f x) ∷ []
  more-each [] n x = refl
  more-each (e ∷ es) n x = ap (λ ys. (e.0, f e.1) ∷ ys) (more-each es n x)

-- what a changed map has at a number
module _ {X : Type 0} where
  pub get_more : (es : Map ℕ X) (n : ℕ) (x : X) (P : X → Type 0) → P x → (m : ℕ) → IfSome (get nat_eq es m) P → IfSome (get nat_eq (es ++ (n, x) ∷ []) m) P
  get_more [] n x P new m old = by (nat_eq n m)
    where
      by : (b : Bool) → IfSome (cond b (Some x) None) P
      by true = new
      by false = tt
  get_more (e ∷ es) n x P new m old = by (nat_eq e.0 m) old (get_more es n x P new m)
    where
      by : (b : Bool) → IfSome (cond b (Some e.1) (get nat_eq es m)) P → (IfSome (get nat_eq es m) P → IfSome (get nat_eq (es ++ (n, x) ∷ []) m) P) → IfSome (cond b (Some e.1) (get nat_eq (es ++ (n, x) ∷ []) m)) P
      by true h rest = h
      by false h rest = rest h

  pub get_put : (es : Map ℕ X) (n : ℕ) (x : X) (P : X → Type 0) → P x → (m : ℕ) → IfSome (get nat_eq es m) P → IfSome (get nat_eq (put nat_eq es n x) m) P
  get_put [] n x P new m old = by (nat_eq n m)
    where
      by : (b : Bool) → IfSome (cond b (Some x) None) P
      by true = new
      by false = tt
  get_put (e ∷ es) n x P new m old = elim (eqb_tells e.0 n) as (λ _. IfSome (get nat_eq (put nat_eq (e ∷ es) n x) m) P) [
    | inl t ↦ subst (λ b. IfSome (get nat_eq (cond b ((n, x) ∷ es) (e ∷ put nat_eq es n x)) m) P) (sym t.0) (here (nat_eq n m) (subst (λ k. IfSome (cond (nat_eq k m) (Some e.1) (get nat_eq es m)) P) t.1 old))
    | inr t ↦ subst (λ b. IfSome (get nat_eq (cond b ((n, x) ∷ es) (e ∷ put nat_eq es n x)) m) P) (sym t.0) (there (nat_eq e.0 m) old (get_put es n x P new m))
  ]
    where
      here : (b : Bool) → IfSome (cond b (Some e.1) (get nat_eq es m)) P → IfSome (cond b (Some x) (get nat_eq es m)) P
      here true h = new
      here false h = h

      there : (b : Bool) → IfSome (cond b (Some e.1) (get nat_eq es m)) P → (IfSome (get nat_eq es m) P → IfSome (get nat_eq (put nat_eq es n x) m) P) → IfSome (cond b (Some e.1) (get nat_eq (put nat_eq es n x) m)) P
      there true h rest = h
      there false h rest = rest h

  pub without_absent : (es : Map ℕ X) (n : ℕ) → get nat_eq (without nat_eq es n) n ≡ None
  without_absent [] n = refl
  without_absent (y ∷ ys) n = elim (eqb_tells n y.0) as (λ _. get nat_eq (without nat_eq (y ∷ ys) n) n ≡ None) [
    | inl t ↦ ap (λ b. get nat_eq (cond (not b) (y ∷ without nat_eq ys n) (without nat_eq ys n)) n) t.0 ∙ without_absent ys n
    | inr t ↦ ap (λ b. get nat_eq (cond (not b) (y ∷ without nat_eq ys n) (without nat_eq ys n)) n) t.0 ∙ ap (λ b. cond b (Some y.1) (get nat_eq (without nat_eq ys n) n)) (ne_eqb y.0 n (λ e. t.1 (sym e))) ∙ without_absent ys n
  ]

  pub without_other : (es : Map ℕ X) (n m : ℕ) → n ≢ m → get nat_eq (without nat_eq es n) m ≡ get nat_eq es m
  without_other [] n m other = refl
  without_other (y ∷ ys) n m other = elim (eqb_tells n y.0) as (λ _. get nat_eq (without nat_eq (y ∷ ys) n) m ≡ get nat_eq (y ∷ ys) m) [
    | inl t ↦
        ap (λ b. get nat_eq (cond (not b) (y ∷ without nat_eq ys n) (without nat_eq ys n)) m) t.0 ∙ without_other ys n m other
        ∙ sym (ap (λ b. cond b (Some y.1) (get nat_eq ys m)) (ne_eqb y.0 m (λ e. other (t.1 ∙ e))))
    | inr t ↦
        ap (λ b. get nat_eq (cond (not b) (y ∷ without nat_eq ys n) (without nat_eq ys n)) m) t.0
        ∙ ap (λ o. cond (nat_eq y.0 m) (Some y.1) o) (without_other ys n m other)
  ]

  pub get_without : (es : Map ℕ X) (n : ℕ) (P : X → Type 0) (m : ℕ) → IfSome (get nat_eq es m) P → IfSome (get nat_eq (without nat_eq es n) m) P
  get_without es n P m old = elim (eqb_tells n m) as (λ _. IfSome (get nat_eq (without nat_eq es n) m) P) [
    | inl t ↦ subst (λ o. IfSome o P) (sym (ap (λ k. get nat_eq (without nat_eq es n) k) (sym t.1) ∙ without_absent es n)) tt
    | inr t ↦ subst (λ o. IfSome o P) (sym (without_other es n m t.1)) old
  ]

  -- what is there is put there again
  pub put_same : (es : Map ℕ X) (n : ℕ) (x : X) → get nat_eq es n ≡ Some x → put nat_eq es n x ≡ es
  put_same [] n x h = absurd (cc)
  put_same (e ∷ es) n x h = elim (eqb_tells e.0 n) as (λ _. put nat_eq (e ∷ es) n x ≡ e ∷ es) [
    | inl t ↦
        (let is : Some e.1 ≡ Some x = sym (ap (λ b. cond b (Some e.1) (get nat_eq es n)) t.0) ∙ h in
        let same : e.1 ≡ x = cc in
        ap (λ b. cond b ((n, x) ∷ es) (e ∷ put nat_eq es n x)) t.0 ∙ (λ i. (sym t.1 i, sym same i) ∷ es))
    | inr t ↦ ap (λ b. cond b ((n, x) ∷ es) (e ∷ put nat_eq es n x)) t.0 ∙ ap (λ ys. e ∷ ys) (put_same es n x (sym (ap (λ b. cond b (Some e.1) (get nat_eq es n)) t.0) ∙ h))
  ]

  -- what is put twice, or put and taken away
  pub get_put_key : (es : Map ℕ X) (n : ℕ) (x : X) → get nat_eq (put nat_eq es n x) n ≡ Some x
  get_put_key [] n x = ap (λ b. cond b (Some x) None) (eq-eqb n n refl)
  get_put_key (e ∷ es) n x = by (nat_eq e.0 n) refl (get_put_key es n x)
    where
      by : (b : Bool) → nat_eq e.0 n ≡ b → get nat_eq (put nat_eq es n x) n ≡ Some x → get nat_eq (cond b ((n, x) ∷ es) (e ∷ put nat_eq es n x)) n ≡ Some x
      by true i rest = ap (λ b. cond b (Some x) (get nat_eq es n)) (eq-eqb n n refl)
      by false i rest = ap (λ b. cond b (Some e.1) (get nat_eq (put nat_eq es n x) n)) i ∙ rest

  pub put_put : (es : Map ℕ X) (n : ℕ) (x y : X) → put nat_eq (put nat_eq es n x) n y ≡ put nat_eq es n y
  put_put [] n x y = ap (λ b. cond b ((n, y) ∷ []) ((n, x) ∷ (n, y) ∷ [])) (eq-eqb n n refl)
  put_put (e ∷ es) n x y = by (nat_eq e.0 n) refl (put_put es n x y)
    where
      by : (b : Bool) → nat_eq e.0 n ≡ b → put nat_eq (put nat_eq es n x) n y ≡ put nat_eq es n y → put nat_eq (cond b ((n, x) ∷ es) (e ∷ put nat_eq es n x)) n y ≡ cond b ((n, y) ∷ es) (e ∷ put nat_eq es n y)
      by true i rest = ap (λ b. cond b ((n, y) ∷ es) ((n, x) ∷ put nat_eq es n y)) (eq-eqb n n refl)
      by false i rest = ap (λ b. cond b ((n, y) ∷ put nat_eq es n x) (e ∷ put nat_eq (put nat_eq es n x) n y)) i ∙ ap (λ ys. e ∷ ys) rest

  pub without_put : (es : Map ℕ X) (n : ℕ) (x : X) → without nat_eq (put nat_eq es n x) n ≡ without nat_eq es n
  without_put [] n x = ap (λ b. cond (not b) ((n, x) ∷ []) []) (eq-eqb n n refl)
  without_put (e ∷ es) n x = elim (eqb_tells e.0 n) as (λ _. without nat_eq (put nat_eq (e ∷ es) n x) n ≡ without nat_eq (e ∷ es) n) [
    | inl t ↦
        ap (λ b. without nat_eq (cond b ((n, x) ∷ es) (e ∷ put nat_eq es n x)) n) t.0
        ∙ ap (λ b. cond (not b) ((n, x) ∷ without nat_eq es n) (without nat_eq es n)) (eq-eqb n n refl)
        ∙ sym (ap (λ b. cond (not b) (e ∷ without nat_eq es n) (without nat_eq es n)) (eq-eqb n e.0 (sym t.1)))
    | inr t ↦
        ap (λ b. without nat_eq (cond b ((n, x) ∷ es) (e ∷ put nat_eq es n x)) n) t.0
        ∙ ap (λ b. cond (not b) (e ∷ without nat_eq (put nat_eq es n x) n) (without nat_eq (put nat_eq es n x) n)) (ne_eqb n e.0 (λ i. t.1 (sym i)))
        ∙ ap (λ ys. e ∷ ys) (without_put es n x)
        ∙ sym (ap (λ b. cond (not b) (e ∷ without nat_eq es n) (without nat_eq es n)) (ne_eqb n e.0 (λ i. t.1 (sym i))))
  ]

  pub Rise-put : (low next : ℕ) (es : Map ℕ X) (n : ℕ) (x y : X) → get nat_eq es n ≡ Some y → Rise low next es → Rise low next (put nat_eq es n x)
  Rise-put low next [] n x y h r = absurd (cc)
  Rise-put low next (e ∷ es) n x y h r = elim (eqb_tells e.0 n) as (λ _. Rise low next (put nat_eq (e ∷ es) n x)) [
    | inl t ↦ subst (λ b. Rise low next (cond b ((n, x) ∷ es) (e ∷ put nat_eq es n x))) (sym t.0) (subst (λ k. (low ≤ k) × Rise (k + 1) next es) t.1 r)
    | inr t ↦ subst (λ b. Rise low next (cond b ((n, x) ∷ es) (e ∷ put nat_eq es n x))) (sym t.0) (r.0, Rise-put (e.0 + 1) next es n x y (sym (ap (λ b. cond b (Some e.1) (get nat_eq es n)) t.0) ∙ h) r.1)
  ]

  pub Rise-without : (low next : ℕ) (es : Map ℕ X) (n : ℕ) → Rise low next es → Rise low next (without nat_eq es n)
  Rise-without low next [] n r = r
  Rise-without low next (e ∷ es) n r = by (nat_eq n e.0) (Rise-without (e.0 + 1) next es n r.1)
    where
      by : (b : Bool) → Rise (e.0 + 1) next (without nat_eq es n) → Rise low next (cond (not b) (e ∷ without nat_eq es n) (without nat_eq es n))
      by true rest = Rise-lower low (e.0 + 1) next (without nat_eq es n) (omega (arith, r.0)) rest
      by false rest = (r.0, rest)

  -- the next number has the call that was put under it
  pub get_next : (low next : ℕ) (es : Map ℕ X) (x : X) → Rise low next es → get nat_eq (es ++ (next, x) ∷ []) next ≡ Some x
  get_next low next [] x r = ap (λ b. cond b (Some x) None) (eq-eqb next next refl)
  get_next low next (e ∷ es) x r = ap (λ b. cond b (Some e.1) (get nat_eq (es ++ (next, x) ∷ []) next)) (ne_eqb e.0 next (λ s. absurd (let b = Rise-bounds (e.0 + 1) next es r.1 in omega (arith, s, b)))) ∙ get_next (e.0 + 1) next es x r.1

module _ {A : Type 0} where
  pub get-parked : (calls : Map ℕ (ParkedCall A)) (n : ℕ) → get nat_eq (parked_of calls) n ≡ option_map waiting_of (get nat_eq calls n)
  get-parked = get-each waiting_of

  pub put-parked : (calls : Map ℕ (ParkedCall A)) (n : ℕ) (c : ParkedCall A) → parked_of (put nat_eq calls n c) ≡ put nat_eq (parked_of calls) n (waiting_of c)
  put-parked = put-each waiting_of

  pub without-parked : (calls : Map ℕ (ParkedCall A)) (n : ℕ) → parked_of (without nat_eq calls n) ≡ without nat_eq (parked_of calls) n
  without-parked = without-each waiting_of

  pub more-parked : (calls : Map ℕ (ParkedCall A)) (n : ℕ) (c : ParkedCall A) → parked_of (calls ++ (n, c) ∷ []) ≡ parked_of calls ++ (n, waiting_of c) ∷ []
  more-parked = more-each waiting_of

-- a call that a slot lends
pub lent_some : {X Y : Type 0} (f : X → Y) (o : Option X) (y : Y) → option_map f o ≡ Some y → IsSome o
lent_some f None y h = absurd (cc)
lent_some f (Some x) y h = refl

pub lent_is : {X Y : Type 0} (f : X → Y) (o : Option X) (x : X) (y : Y) → option_map f o ≡ Some y → o ≡ Some x → f x ≡ y
lent_is f o x y h is = (let same : Some (f x) ≡ Some y = sym (ap (option_map f) is) ∙ h in cc)
