-- Lists by key, and maps that change at one key.
use Rattle.std.proofs.Common.{◌≡◌, ◌≢◌, ℕ, zero, suc, ◌<◌, Bool, true, false, List, [], ◌∷◌, Option, Some, None, refl, sym, ◌∙◌, ap, subst, inl, inr, nat_eq, length, map, slice_set, arith}
use Rattle.std.proofs.Math.Path.{fun_ext}
use Rattle.std.specs.Prelude.{if◌then◌else◌, option_map, Result, Ok, Err, IfOk, OnOk, OnErr, IfSome}
use Rattle.std.proofs.lemmas.Bool.{eq-eqb, ne_eqb, eqb-true}
use Rattle.std.proofs.lemmas.Bool.Decides.{eqb_tells}
use Rattle.pl_model.specs.Map.{set_at, change_at}
use Rattle.pl_segments.specs.Segments.{at}

-- what holds anyway, of an `Err`
pub on_err : {T E : Type 0} (r : Result T E) (P : Type 0) → P → OnErr r P
on_err (Ok x) P h = tt
on_err (Err e) P h = h

-- what follows from what holds where it succeeded
pub on_ok : {T E P Q : Type 0} (r : Result T E) → (P → Q) → OnOk r P → OnOk r Q
on_ok (Ok x) f h = f h
on_ok (Err e) f h = tt

-- a key with a value is within the list
pub within : {V : Type 0} (xs : List (Option V)) (k : ℕ) (x : V) → at xs k ≡ Some x → k < length xs
within [] k x e = absurd (cc)
within (y ∷ ys) zero x e = omega arith
within (y ∷ ys) (suc k) x e = let l : k < length ys = within ys k x e in omega arith

-- what was there is put back
pub put-back : {V : Type 0} (xs : List (Option V)) (k : ℕ) (x y : V) → at xs k ≡ Some x → y ≡ x → slice_set xs k (Some y) ≡ xs
put-back [] k x y there e = refl
put-back (z ∷ xs) zero x y there e = ap (λ o. o ∷ xs) (ap (λ v. Some v) e ∙ sym there)
put-back (z ∷ xs) (suc k) x y there e = ap (λ zs. z ∷ zs) (put-back xs k x y there e)

-- what is put reads as what was there
pub put-alike : {V W : Type 0} (f : Option V → W) (xs : List (Option V)) (key : ℕ) (o : Option V) → f o ≡ f (at xs key) → map f (slice_set xs key o) ≡ map f xs
put-alike f [] key o e = refl
put-alike f (x ∷ xs) zero o e = ap (λ y. y ∷ map f xs) e
put-alike f (x ∷ xs) (suc key) o e = ap (λ ys. f x ∷ ys) (put-alike f xs key o e)

-- a map that has this at a key and agrees elsewhere
pub is_set_at : {V : Type 0} (m n : ℕ → V) (k : ℕ) (v : V) → n k ≡ v → ((q : ℕ) → q ≢ k → n q ≡ m q) → n ≡ set_at nat_eq m k v
is_set_at m n k v here there = fun_ext (λ q. at_q q)
  where
    at_q : (q : ℕ) → n q ≡ (if nat_eq k q then v else m q)
    at_q q = elim (eqb_tells k q) as (λ _. n q ≡ (if nat_eq k q then v else m q)) [
      | inl e ↦ ap n (sym e.1) ∙ here ∙ ap (λ b. if b then v else m q) (sym e.0)
      | inr e ↦ there q (λ h. e.1 (sym h)) ∙ ap (λ b. if b then v else m q) (sym e.0)
    ]

-- a map that has the changed value at a key and agrees elsewhere
pub is_change_at : {V : Type 0} (m n : ℕ → Option V) (k : ℕ) (f : V → V) → n k ≡ option_map f (m k) → ((q : ℕ) → q ≢ k → n q ≡ m q) → n ≡ change_at k f m
is_change_at m n k f here there = fun_ext (λ q. at_q q)
  where
    at_q : (q : ℕ) → n q ≡ (if nat_eq k q then option_map f (m q) else m q)
    at_q q = elim (eqb_tells k q) as (λ _. n q ≡ (if nat_eq k q then option_map f (m q) else m q)) [
      | inl e ↦ ap n (sym e.1) ∙ here ∙ ap (λ j. option_map f (m j)) e.1 ∙ ap (λ b. if b then option_map f (m q) else m q) (sym e.0)
      | inr e ↦ there q (λ h. e.1 (sym h)) ∙ ap (λ b. if b then option_map f (m q) else m q) (sym e.0)
    ]

-- what is under the key then
pub change-here : {V : Type 0} (k : ℕ) (f : V → V) (m : ℕ → Option V) (x : V) → m k ≡ Some x → change_at k f m k ≡ Some (f x)
change-here k f m x e = ap (λ b. if b then option_map f (m k) else m k) (eq-eqb k k refl) ∙ ap (option_map f) e

-- a change at a key with a value
pub change_at-is : {V : Type 0} (k : ℕ) (f : V → V) (m : ℕ → Option V) (x : V) → m k ≡ Some x → change_at k f m ≡ set_at nat_eq m k (Some (f x))
change_at-is k f m x e = is_set_at m (change_at k f m) k (Some (f x))
    (change-here k f m x e)
    (λ q n. ap (λ b. if b then option_map f (m q) else m q) (ne_eqb k q (λ h. n (sym h))))

-- lists of one length with the same under each key
pub same-list : {V : Type 0} (xs ys : List (Option V)) → length xs ≡ length ys → at xs ≡ at ys → xs ≡ ys
same-list [] [] l e = refl
same-list [] (y ∷ ys) l e = absurd (omega (arith, l))
same-list (x ∷ xs) [] l e = absurd (omega (arith, l))
same-list (x ∷ xs) (y ∷ ys) l e = (λ i. e i zero ∷ same-list xs ys (omega (arith, l)) (λ j q. e j (suc q)) i)

-- what follows from what holds of an `Ok`
pub if_ok : {T E : Type 0} {P Q : T → Type 0} (r : Result T E) → ((x : T) → P x → Q x) → IfOk r P → IfOk r Q
if_ok (Ok x) f h = f x h
if_ok (Err e) f h = tt

-- changes at two keys, in either order
two-changes : {V : Type 0} (x y : Bool) (f g : V → V) (o : Option V) → (x ≡ true → y ≡ true → ⊥)
    → (if x then option_map f (if y then option_map g o else o) else (if y then option_map g o else o)) ≡ (if y then option_map g (if x then option_map f o else o) else (if x then option_map f o else o))
two-changes true true f g o d = absurd (d refl refl)
two-changes true false f g o d = refl
two-changes false y f g o d = refl

pub changes-swap : {V : Type 0} (a b : ℕ) (f g : V → V) (m : ℕ → Option V) → a ≢ b → change_at a f (change_at b g m) ≡ change_at b g (change_at a f m)
changes-swap a b f g m d = fun_ext (λ q. two-changes (nat_eq a q) (nat_eq b q) f g (m q) (λ x y. d (eqb-true a q x ∙ sym (eqb-true b q y))))

-- what is as it was at a key
no-change : {V : Type 0} (b : Bool) (f : V → V) (o : Option V) → ((x : V) → f x ≡ x) → (if b then option_map f o else o) ≡ o
no-change true f None e = refl
no-change true f (Some x) e = ap (λ y. Some y) (e x)
no-change false f o e = refl

pub unchanged : {V : Type 0} (k : ℕ) (f : V → V) (m : ℕ → Option V) → ((x : V) → f x ≡ x) → change_at k f m ≡ m
unchanged k f m e = fun_ext (λ q. no-change (nat_eq k q) f (m q) e)

-- another key has what it had
pub at-other : {V : Type 0} (k q : ℕ) (f : V → V) (m : ℕ → Option V) → k ≢ q → change_at k f m q ≡ m q
at-other k q f m d = ap (λ b. if b then option_map f (m q) else m q) (ne_eqb k q d)

pub other-still : {V : Type 0} (k q : ℕ) (f : V → V) (m n : ℕ → Option V) → n ≡ change_at k f m → k ≢ q → (P : Option V → Type 0) → P (m q) → P (n q)
other-still k q f m n is d P h = subst P (sym (ap (λ (h : ℕ → Option _). h q) is ∙ at-other k q f m d)) h

-- what follows from two facts of a `Some`
pub if_both : {V : Type 0} {P Q R : V → Type 0} (o : Option V) → ((x : V) → P x → Q x → R x) → IfSome o P → IfSome o Q → IfSome o R
if_both None f p q = tt
if_both (Some x) f p q = f x p q

-- changes that agree at the key
same-map : {V : Type 0} (f g : V → V) (o : Option V) → IfSome o (λ x. f x ≡ g x) → option_map f o ≡ option_map g o
same-map f g None same = refl
same-map f g (Some x) same = ap (λ y. Some y) same

pub change-alike : {V : Type 0} (k : ℕ) (f g : V → V) (m : ℕ → Option V) → IfSome (m k) (λ x. f x ≡ g x) → change_at k f m ≡ change_at k g m
change-alike k f g m same = fun_ext (λ q. at_q q)
  where
    at_q : (q : ℕ) → (if nat_eq k q then option_map f (m q) else m q) ≡ (if nat_eq k q then option_map g (m q) else m q)
    at_q q = elim (eqb_tells k q) as (λ _. (if nat_eq k q then option_map f (m q) else m q) ≡ (if nat_eq k q then option_map g (m q) else m q)) [
      | inl e ↦ ap (λ o. if nat_eq k q then o else m q) (same-map f g (m q) (subst (λ j. IfSome (m j) (λ x. f x ≡ g x)) e.1 same))
      | inr e ↦ ap (λ b. if b then option_map f (m q) else m q) e.0 ∙ sym (ap (λ b. if b then option_map g (m q) else m q) e.0)
    ]
