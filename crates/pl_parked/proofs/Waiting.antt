-- How opens that wait are listed.
use Rattle.std.proofs.Common.{◌≡◌, ◌≢◌, ℕ, ◌<◌, Bool, true, false, cond, not, Option, Some, None, Result, Ok, Err, IfSome, IfNone, refl, sym, ◌∙◌, ap, subst, nat_eq, arith}
use Rattle.std.specs.Prelude.{◌&&◌, ◌||◌, option_map, option_and_then}
use Rattle.std.specs.Option.{option_eq}
use Rattle.std.specs.Result.{is_err, OnOk, OnErr}
use Rattle.std.specs.Bool.{beq}
use Rattle.std.specs.declared.cmp.Ordering.{Ordering}
use Rattle.std.specs.declared.cmp.Ordering.TheVariants.{Less, Equal, Greater}
use Rattle.std.specs.Cmp.{ranks}
use Rattle.std.specs.Ordering.{nat_cmp, bool_cmp, ordering_then, is_gt, is_eq, MatchOrdering}
use Rattle.std.proofs.lemmas.Cmp.{nat_cmp_total, tied_itself}
use Rattle.std.proofs.lemmas.Bool.Decides.{nat_tests}
use Rattle.pl_model.specs.declared.calls.Call.{Call}
use Rattle.pl_model.specs.declared.calls.Call.TheVariants.{OpenName}
use Rattle.pl_model.specs.declared.calls.Mode.{Mode}
use Rattle.pl_model.specs.declared.calls.Mode.TheVariants.{Read, Write, Both}
use Rattle.pl_model.specs.Modes.{reads, writes}
use Rattle.pl_parked.specs.Meeting.{is_open_without, meets}
use Rattle.pl_parked.specs.declared.call.ParkedCall.{ParkedCall}
use Rattle.pl_parked.specs.declared.opens.WaitingOpen.{WaitingOpen}
use Rattle.pl_parked.specs.Waiting.{order, is_named, opens_to_read, key_of, waiting_open}

-- what an insertion and a removal leave
pub or-cond : (b other : Bool) → cond b true other ≡ (b || other)
or-cond true other = refl
or-cond false other = refl

pub but-not : (b other : Bool) → cond b false other ≡ (not b && other)
but-not true other = refl
but-not false other = refl

pub never : (b : Bool) → (b ≡ true → ⊥) → b ≡ false
never true h = absurd (h refl)
never false h = refl

pub differ : (a b : Bool) → beq a b ≡ false → a ≢ b
differ true true f e = cc
differ true false f e = cc
differ false true f e = cc
differ false false f e = cc

-- what holds of a value that there is
pub IfSome-is : {X : Type 0} (P : X → Type 0) (o : Option X) (x : X) → o ≡ Some x → IfSome o P → P x
IfSome-is P o x is h = subst (λ o. IfSome o P) is h

-- what is ensured of a result that is known
pub OnOk_by : {X E : Type 0} (P : Type 0) (o : Result X E) → false ≡ is_err o → OnOk o P → P
OnOk_by P (Ok x) e h = h
OnOk_by P (Err x) e h = absurd (cc)

pub OnErr_by : {X E : Type 0} (P : Type 0) (o : Result X E) → true ≡ is_err o → OnErr o P → P
OnErr_by P (Ok x) e h = absurd (cc)
OnErr_by P (Err x) e h = h

pub IfNone_then : {X : Type 0} {P Q : Type 0} (o : Option X) → IfNone o P → (P → Q) → IfNone o Q
IfNone_then None h then = then h
IfNone_then (Some x) h then = tt

-- the least key of a pipe's opens that read, or that write
pub least-first : (pipe : ℕ) (to_read : Bool) (n : ℕ) → is_gt (order (key_of pipe to_read 0) (key_of pipe to_read n)) ≡ false
least-first pipe to_read n = ap (λ o. is_gt (ordering_then o (ordering_then (bool_cmp to_read to_read) (nat_cmp 0 n)))) (tied_itself nat_cmp_total pipe) ∙ by to_read (nat_cmp 0 n) (ranks 0 n)
  where
    by : (b : Bool) (o : Ordering) → MatchOrdering o (0 < n) (0 ≡ n) (n < 0) → is_gt (ordering_then (bool_cmp b b) o) ≡ false
    by true Less h = refl
    by true Equal h = refl
    by true Greater h = absurd (omega arith)
    by false Less h = refl
    by false Equal h = refl
    by false Greater h = absurd (omega arith)

same_number : (p k : ℕ) (a b x y : Ordering) → MatchOrdering a (p < k) (p ≡ k) (k < p) → MatchOrdering b (k < p) (k ≡ p) (p < k)
    → is_gt (ordering_then a x) ≡ false → is_gt (ordering_then b y) ≡ false → (k ≡ p) × (is_gt x ≡ false) × (is_gt y ≡ false)
same_number p k Less Less x y m n f t = absurd (omega arith)
same_number p k Less Equal x y m n f t = absurd (omega arith)
same_number p k Less Greater x y m n f t = absurd (cc)
same_number p k Equal Less x y m n f t = absurd (omega arith)
same_number p k Equal Equal x y m n f t = (sym m, f, t)
same_number p k Equal Greater x y m n f t = absurd (cc)
same_number p k Greater b x y m n f t = absurd (cc)

same_test : (r s : Bool) (x y : Ordering) → is_gt (ordering_then (bool_cmp r s) x) ≡ false → is_gt (ordering_then (bool_cmp s r) y) ≡ false → s ≡ r
same_test true true x y f t = refl
same_test true false x y f t = absurd (cc)
same_test false true x y f t = absurd (cc)
same_test false false x y f t = refl

-- what stands between two of them is one of them
pub stands-between : (pipe : ℕ) (to_read : Bool) (n : ℕ) (key : WaitingOpen) → is_gt (order (key_of pipe to_read 0) key) ≡ false → is_gt (order key (key_of pipe to_read n)) ≡ false
    → (key.pipe ≡ pipe) × (key.reads ≡ to_read)
stands-between pipe to_read n key f t =
    let same = same_number pipe key.pipe (nat_cmp pipe key.pipe) (nat_cmp key.pipe pipe) (ordering_then (bool_cmp to_read key.reads) (nat_cmp 0 key.number)) (ordering_then (bool_cmp key.reads to_read) (nat_cmp key.number n)) (ranks pipe key.pipe) (ranks key.pipe pipe) f t in
    (same.0, same_test to_read key.reads (nat_cmp 0 key.number) (nat_cmp key.number n) same.1 same.2)

same_by : (o : Ordering) (n m : ℕ) → MatchOrdering o (n < m) (n ≡ m) (m < n) → is_eq o ≡ true → n ≡ m
same_by Less n m h e = absurd (cc)
same_by Equal n m h e = h
same_by Greater n m h e = absurd (cc)

same_key : (a b : Ordering) (n m : ℕ) → is_eq (ordering_then a (ordering_then b (nat_cmp n m))) ≡ true → n ≡ m
same_key Less b n m e = absurd (cc)
same_key Equal Less n m e = absurd (cc)
same_key Equal Equal n m e = same_by (nat_cmp n m) n m (ranks n m) e
same_key Equal Greater n m e = absurd (cc)
same_key Greater b n m e = absurd (cc)

-- the opens of one number
own-key : (pipe p n : ℕ) (r s : Bool) → is_eq (order (key_of p r n) (key_of pipe s n)) ≡ (nat_eq p pipe && beq r s)
own-key pipe p n r s = ap (λ o. is_eq (ordering_then (nat_cmp p pipe) (ordering_then (bool_cmp r s) o))) (tied_itself nat_cmp_total n) ∙ by (nat_cmp p pipe) r s (ranks p pipe)
  where
    tests : (r s : Bool) → is_eq (ordering_then (bool_cmp r s) Equal) ≡ beq r s
    tests true true = refl
    tests true false = refl
    tests false true = refl
    tests false false = refl

    by : (o : Ordering) (r s : Bool) → MatchOrdering o (p < pipe) (p ≡ pipe) (pipe < p) → is_eq (ordering_then o (ordering_then (bool_cmp r s) Equal)) ≡ (nat_eq p pipe && beq r s)
    by Less r s h = grind (arith, nat_tests)
    by Equal r s h = tests r s ∙ sym (ap (λ b. b && beq r s) (let e : nat_eq p pipe ≡ true = grind (arith, nat_tests) in e))
    by Greater r s h = grind (arith, nat_tests)

-- how a call with these fields is listed
abbrev listing : ℕ → Bool → Option Bool → Option ℕ → Option WaitingOpen
listing n met to_read fifo = cond met None (option_and_then (λ r. option_map (λ pipe. key_of pipe r n) fifo) to_read)

own_number : (n : ℕ) (met : Bool) (to_read : Option Bool) (fifo : Option ℕ) (key : WaitingOpen) → is_named (listing n met to_read fifo) key ≡ true → n ≡ key.number
own_number n true to_read fifo key h = absurd (cc)
own_number n false None fifo key h = absurd (cc)
own_number n false (Some r) None key h = absurd (cc)
own_number n false (Some r) (Some p) key h = same_key (nat_cmp p key.pipe) (bool_cmp r key.reads) n key.number h

-- an open with the mode meets what reads, or what writes
abbrev meets_it : Mode → Option Bool → Bool
meets_it mode None = false
meets_it mode (Some true) = writes mode
meets_it mode (Some false) = reads mode

-- what is listed is met by an open with the mode
abbrev named_met : Mode → ℕ → ℕ → Option WaitingOpen → Bool
named_met mode pipe n one = (reads mode && is_named one (key_of pipe false n)) || (writes mode && is_named one (key_of pipe true n))

-- what meets neither
pub neither : (a b : Bool) → ((a && false) || (b && false)) ≡ false
neither true true = refl
neither true false = refl
neither false true = refl
neither false false = refl

nothing : (b : Bool) → ((b && false) && true) ≡ false
nothing true = refl
nothing false = refl

spread : (r w b : Bool) (s : Bool) → ((r && (b && beq s false)) || (w && (b && beq s true))) ≡ ((b && cond s w r) && true)
spread r w false true = neither r w
spread r w false false = neither r w
spread true true true true = refl
spread true true true false = refl
spread true false true true = refl
spread true false true false = refl
spread false true true true = refl
spread false true true false = refl
spread false false true true = refl
spread false false true false = refl

by_fields : (mode : Mode) (pipe n : ℕ) (met : Bool) (to_read : Option Bool) (fifo : Option ℕ)
    → named_met mode pipe n (listing n met to_read fifo) ≡ ((option_eq nat_eq fifo (Some pipe) && meets_it mode to_read) && not met)
by_fields mode pipe n true to_read fifo = neither (reads mode) (writes mode) ∙ sym (never ((option_eq nat_eq fifo (Some pipe) && meets_it mode to_read) && false) (no (option_eq nat_eq fifo (Some pipe) && meets_it mode to_read)))
  where
    no : (b : Bool) → (b && false) ≡ true → ⊥
    no true h = cc
    no false h = cc
by_fields mode pipe n false None fifo = neither (reads mode) (writes mode) ∙ sym (nothing (option_eq nat_eq fifo (Some pipe)))
by_fields mode pipe n false (Some r) None = neither (reads mode) (writes mode)
by_fields mode pipe n false (Some true) (Some p) = (λ i. (reads mode && own-key pipe p n true false i) || (writes mode && own-key pipe p n true true i)) ∙ spread (reads mode) (writes mode) (nat_eq p pipe) true
by_fields mode pipe n false (Some false) (Some p) = (λ i. (reads mode && own-key pipe p n false false i) || (writes mode && own-key pipe p n false true i)) ∙ spread (reads mode) (writes mode) (nat_eq p pipe) false

module _ {A : Type 0} where
  pub waiting-is : (n : ℕ) (x : ParkedCall A) (met : Bool) (to_read : Option Bool) (fifo : Option ℕ) → x.met ≡ met → opens_to_read x.call ≡ to_read → x.fifo ≡ fifo
      → waiting_open n x ≡ listing n met to_read fifo
  waiting-is n x met to_read fifo m l f = λ i. listing n (m i) (l i) (f i)

  -- a call is listed under its own number
  pub other-number : (n : ℕ) (x : ParkedCall A) (key : WaitingOpen) → n ≢ key.number → is_named (waiting_open n x) key ≡ false
  other-number n x key other = never (is_named (waiting_open n x) key) (λ h. other (own_number n x.met (opens_to_read x.call) x.fifo key h))

  open_without : (mode : Mode) (call : Call A) → is_open_without mode call ≡ meets_it mode (opens_to_read call)
  open_without Read (OpenName name Read flags) = refl
  open_without Write (OpenName name Read flags) = refl
  open_without Both (OpenName name Read flags) = refl
  open_without Read (OpenName name Write flags) = refl
  open_without Write (OpenName name Write flags) = refl
  open_without Both (OpenName name Write flags) = refl
  open_without Read (OpenName name Both flags) = refl
  open_without Write (OpenName name Both flags) = refl
  open_without Both (OpenName name Both flags) = refl
  open_without mode call = refl

  -- a call is listed where an open meets it, if none met it before
  pub listed-met : (mode : Mode) (pipe n : ℕ) (x : ParkedCall A) → named_met mode pipe n (waiting_open n x) ≡ (meets pipe mode x && not x.met)
  listed-met mode pipe n x =
      by_fields mode pipe n x.met (opens_to_read x.call) x.fifo
      ∙ ap (λ b. (option_eq nat_eq x.fifo (Some pipe) && b) && not x.met) (sym (open_without mode x.call))

-- what follows from what holds of either
pub OnOk_then : {T E P Q : Type 0} (r : Result T E) → OnOk r P → (P → Q) → OnOk r Q
OnOk_then (Ok x) p then = then p
OnOk_then (Err e) p then = tt

pub OnErr_then : {T E P Q : Type 0} (r : Result T E) → OnErr r P → (P → Q) → OnErr r Q
OnErr_then (Ok x) p then = tt
OnErr_then (Err e) p then = then p
