-- That the machine's checks of a name, of an offset, of a capacity, of a splice and of a tee are the decisions on them.
use Rattle.std.proofs.Common.{◌≡◌, ℕ, Bool, true, false, cond, List, Option, Some, None, refl, ◌∙◌, ap, length}
use Rattle.std.specs.Prelude.{ℤ, pos, ◌+ℤ◌, ◌==◌, ◌&&◌, ◌||◌, not, is_some, is_none, nat_lt, Ok, Err}
use Rattle.std.specs.List.{list_any}
use Rattle.pl_model.specs.declared.replies.Errno.TheVariants.{EBUSY, EEXIST, EINVAL, ENAMETOOLONG, ENOENT, EOVERFLOW, EPERM, ESPIPE}
use Rattle.pl_model.specs.Numbers.{most_name_bytes, most_capacity, greatest_offset}
use Rattle.pl_model.specs.Keys.{Keys, Node}
use Rattle.pl_model.specs.declared.node.Node.{Node as CodeNode}
use Rattle.pl_model.specs.Trial.{Begins, refuse_if, found}
use Rattle.pl_model.specs.Capacity.{rounded_capacity}
use Rattle.pl_model.specs.Begin.{check_name, is_never_in_name, unsigned, is_too_far, is_pipe, is_same_pipe}
use Rattle.pl_decisions.specs.Capacities.{capacity_set}
use Rattle.pl_decisions.specs.Moves.{fault_of_splice, fault_of_tee, is_pipe as code_is_pipe, is_same_pipe as code_is_same_pipe}
use Rattle.pl_decisions.specs.declared.moves.SpliceSide.{SpliceSide}
use Rattle.pl_decisions.specs.Names.{fault_of_name, fault_of_open, unless_fault}
use Rattle.pl_decisions.specs.Offsets.{offset_sought, or_refused, within_offsets}

module _ {A : Type 0} {K : Keys} where
  pub check_name-is : (name : List ℕ) (next : Begins A K) → check_name name next ≡ unless_fault (fault_of_name name) next
  check_name-is name next = by (length name == 0) (nat_lt most_name_bytes (length name)) (list_any is_never_in_name name)
    where
      by : (empty long bad : Bool) → refuse_if empty ENOENT (refuse_if long ENAMETOOLONG (refuse_if bad EINVAL next))
          ≡ unless_fault (cond empty (Some ENOENT) (cond long (Some ENAMETOOLONG) (cond bad (Some EINVAL) None))) next
      by true long bad = refl
      by false true bad = refl
      by false false true = refl
      by false false false = refl

  -- the checks of an open, of what the name stands for
  pub check_open-is : {X : Type 0} (node : Option X) (creates is_exclusive : Bool) (next : Begins A K) →
      refuse_if (is_some node && (creates && is_exclusive)) EEXIST (refuse_if (is_none node && not creates) ENOENT next) ≡ unless_fault (fault_of_open (is_some node) creates is_exclusive) next
  check_open-is None true is_exclusive next = refl
  check_open-is None false is_exclusive next = refl
  check_open-is (Some x) true true next = refl
  check_open-is (Some x) true false next = refl
  check_open-is (Some x) false is_exclusive next = refl

  -- the last checks of a seek
  pub seek-is : (base : ℕ) (offset : ℤ) (next : ℕ → Begins A K) →
      found (unsigned (pos base +ℤ offset)) EINVAL (λ n. refuse_if (nat_lt greatest_offset n) EOVERFLOW (next n)) ≡ or_refused (offset_sought base offset) next
  seek-is base offset next = by (unsigned (pos base +ℤ offset))
    where
      past : (n : ℕ) (b : Bool) → refuse_if b EOVERFLOW (next n) ≡ or_refused (cond b (Err EOVERFLOW) (Ok n)) next
      past n true = refl
      past n false = refl

      by : (place : Option ℕ) → found place EINVAL (λ n. refuse_if (nat_lt greatest_offset n) EOVERFLOW (next n)) ≡ or_refused (within_offsets place) next
      by None = refl
      by (Some n) = past n (nat_lt greatest_offset n)

  -- the last checks of a size
  pub set_capacity-is : (size held limit : ℕ) (next : ℕ → Begins A K) →
      refuse_if (nat_lt most_capacity size || nat_lt limit (rounded_capacity size)) EPERM (refuse_if (nat_lt (rounded_capacity size) held) EBUSY (next (rounded_capacity size))) ≡ or_refused (capacity_set size held limit) next
  set_capacity-is size held limit next = by (nat_lt most_capacity size || nat_lt limit (rounded_capacity size)) (nat_lt (rounded_capacity size) held)
    where
      by : (large busy : Bool) → refuse_if large EPERM (refuse_if busy EBUSY (next (rounded_capacity size))) ≡ or_refused (cond large (Err EPERM) (cond busy (Err EBUSY) (Ok (rounded_capacity size)))) next
      by true busy = refl
      by false true = refl
      by false false = refl

  -- the checks of a splice, where the nodes a and b are those of its two sides
  pub check_splice-is : (from to : SpliceSide) (appends : Bool) (a b : Node K) (next : Begins A K) →
      is_pipe a ≡ code_is_pipe from.node → is_pipe b ≡ code_is_pipe to.node → is_same_pipe a b ≡ code_is_same_pipe from.node to.node →
      refuse_if ((is_pipe a && is_some from.given) || (is_pipe b && is_some to.given)) ESPIPE
      (refuse_if (is_too_far from.given || is_too_far to.given) EINVAL
      (refuse_if (not (is_pipe a) && not (is_pipe b)) EINVAL
      (refuse_if (is_same_pipe a b) EINVAL
      (refuse_if (not (is_pipe b) && appends) EINVAL next))))
      ≡ unless_fault (fault_of_splice from to appends) next
  check_splice-is from to appends a b next is_a is_b is_same =
      ap (λ x. checks x (is_pipe b) (is_same_pipe a b)) is_a
      ∙ ap (λ x. checks (code_is_pipe from.node) x (is_same_pipe a b)) is_b
      ∙ ap (checks (code_is_pipe from.node) (code_is_pipe to.node)) is_same
      ∙ by ((code_is_pipe from.node && is_some from.given) || (code_is_pipe to.node && is_some to.given)) (is_too_far from.given || is_too_far to.given)
      (not (code_is_pipe from.node) && not (code_is_pipe to.node)) (code_is_same_pipe from.node to.node) (not (code_is_pipe to.node) && appends)
    where
      refused_by : (offset far none same appended : Bool) → Begins A K
      refused_by offset far none same appended =
          refuse_if offset ESPIPE (refuse_if far EINVAL (refuse_if none EINVAL (refuse_if same EINVAL (refuse_if appended EINVAL next))))

      checks : (from_pipe to_pipe same : Bool) → Begins A K
      checks from_pipe to_pipe same =
          refused_by ((from_pipe && is_some from.given) || (to_pipe && is_some to.given)) (is_too_far from.given || is_too_far to.given)
          (not from_pipe && not to_pipe) same (not to_pipe && appends)

      by : (offset far none same appended : Bool) → refused_by offset far none same appended
          ≡ unless_fault (cond offset (Some ESPIPE) (cond far (Some EINVAL) (cond none (Some EINVAL) (cond same (Some EINVAL) (cond appended (Some EINVAL) None))))) next
      by true far none same appended = refl
      by false true none same appended = refl
      by false false true same appended = refl
      by false false false true appended = refl
      by false false false false true = refl
      by false false false false false = refl

  -- the checks of a tee
  pub check_tee-is : (from to : CodeNode) (a b : Node K) (next : Begins A K) →
      is_pipe a ≡ code_is_pipe from → is_pipe b ≡ code_is_pipe to → is_same_pipe a b ≡ code_is_same_pipe from to →
      refuse_if (not (is_pipe a && is_pipe b)) EINVAL (refuse_if (is_same_pipe a b) EINVAL next) ≡ unless_fault (fault_of_tee from to) next
  check_tee-is from to a b next is_a is_b is_same =
      ap (λ x. checks (not (x && is_pipe b)) (is_same_pipe a b)) is_a
      ∙ ap (λ x. checks (not (code_is_pipe from && x)) (is_same_pipe a b)) is_b
      ∙ ap (checks (not (code_is_pipe from && code_is_pipe to))) is_same
      ∙ by (not (code_is_pipe from && code_is_pipe to)) (code_is_same_pipe from to)
    where
      checks : (none same : Bool) → Begins A K
      checks none same = refuse_if none EINVAL (refuse_if same EINVAL next)

      by : (none same : Bool) → checks none same ≡ unless_fault (cond none (Some EINVAL) (cond same (Some EINVAL) None)) next
      by true same = refl
      by false true = refl
      by false false = refl
