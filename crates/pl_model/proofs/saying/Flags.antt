-- Flags by their names, read again: computed for each set of a table.
use Rattle.std.proofs.Common.{◌≡◌, ℕ, ◌<◌, ◌≤◌, Bool, true, false, cond, not, ◌&&◌, ◌||◌, List, [], ◌∷◌, map, sum, bit_and, refl, sym, ap, subst, ◌∙◌, arith}
use Rattle.std.specs.Prelude.{Option, Some, None, ◌==◌, codes}
use Rattle.std.specs.List.{list_all}
use Rattle.std.specs.Str.{bytes_eq}
use Rattle.std.proofs.lemmas.Bool.{eqb-true}
use Rattle.std.proofs.lemmas.Nat.{and_le_l}
use Rattle.pl_model.specs.declared.calls.Call.TheVariants.{Pipe}
use Rattle.pl_model.specs.declared.flags.OpenFlags.{OpenFlags}
use Rattle.pl_model.specs.declared.flags.SpliceFlags.{SpliceFlags}
use Rattle.pl_model.specs.declared.flags.PollMask.{PollMask}
use Rattle.pl_model.specs.declared.script.Version.TheVariants.{Two}
use Rattle.pl_model.specs.Numbers.{numbers_from}
use Rattle.pl_model.specs.Flags.{has, open_names, pipe_names, splice_names, mask_names, write_end_flags}
use Rattle.pl_model.specs.Words.{◌>>=◌, open_flag, pipe_flag, splice_flag, poll_flag, with_flags, flags_of, flags_if_any, open_flags_if_any, splice_flags_if_any, flags_or_none, poll_mask_of, as_open_flags, as_splice_flags, as_poll_mask}
use Rattle.pl_model.specs.Lines.{pipe_of}
use Rattle.pl_model.specs.Shown.{names_text, names_within, mask_text}
use Rattle.pl_model.specs.Said.{said_flags, are_named}
use Rattle.pl_model.proofs.saying.Joined.{IsWord, AreWords}
use Rattle.pl_model.proofs.saying.Below.{both, says, said, passes_below}
use Rattle.pl_model.proofs.saying.Seams.{not_this, is_word, word_by}

-- ---- every set of a table

-- what is to be shown of a set that has flags, each of the table
abbrev reads_back : (List ℕ → Option ℕ) → List (ℕ × List ℕ) → ℕ → Bool
reads_back flag_of table set = says (flags_of flag_of (names_within set table)) set && is_word (names_within set table)

abbrev test : (List ℕ → Option ℕ) → List (ℕ × List ℕ) → ℕ → Bool
test flag_of table set = (set == 0) || (not (are_named table set) || reads_back flag_of table set)

open_sets : list_all (test open_flag open_names) (numbers_from 32 0) ≡ true
unfolding numbers_from open_flag flags_of with_flags names_text
open_sets = refl

splice_sets : list_all (test splice_flag splice_names) (numbers_from 16 0) ≡ true
unfolding numbers_from splice_flag flags_of with_flags names_text
splice_sets = refl

mask_sets : list_all (test poll_flag mask_names) (numbers_from 62 0) ≡ true
unfolding numbers_from poll_flag flags_of with_flags names_text
mask_sets = refl

at_most : (total set : ℕ) → has total set ≡ true → set ≤ total
at_most total set h =
    let same : bit_and total set ≡ set = eqb-true (bit_and total set) set h in
    omega (arith, and_le_l total set)

passed : (zero named good : Bool) → zero ≡ false → named ≡ true → (zero || (not named || good)) ≡ true → good ≡ true
passed zero named good p q h = rw (p, q) at h

pub record SetBack (flag_of : List ℕ → Option ℕ) (table : List (ℕ × List ℕ)) (set : ℕ) : Type 0 where
  pub says_set : flags_of flag_of (names_within set table) ≡ Some set
  pub word : IsWord (names_within set table)

module _ (flag_of : List ℕ → Option ℕ) (table : List (ℕ × List ℕ)) (n : ℕ) (total : sum (map (λ n. n.0) table) < n) (sets : list_all (test flag_of table) (numbers_from n 0) ≡ true) where
  set_back : (set : ℕ) → are_named table set ≡ true → (set == 0) ≡ false → SetBack flag_of table set
  set_back set named some =
      let few : set ≤ sum (map (λ n. n.0) table) = at_most (sum (map (λ n. n.0) table)) set named in
      let good = passed (set == 0) (are_named table set) (reads_back flag_of table set) some named (passes_below (test flag_of table) n sets set (omega arith)) in
      let parts = both (says (flags_of flag_of (names_within set table)) set) (is_word (names_within set table)) good in
      record {
        says_set = said (flags_of flag_of (names_within set table)) set parts.0;
        word = word_by (names_within set table) parts.1;
      }

  if_any_by : (set : ℕ) (b : Bool) → are_named table set ≡ true → (set == 0) ≡ b → flags_if_any flag_of (cond b [] (names_within set table ∷ [])) ≡ Some set
  unfolding flags_if_any
  if_any_by set true named e = ap (λ x. Some x) (sym (eqb-true set 0 e))
  if_any_by set false named e = (set_back set named e).says_set

  if_any : (set : ℕ) → are_named table set ≡ true → flags_if_any flag_of (said_flags set table) ≡ Some set
  if_any set named = if_any_by set (set == 0) named refl

  flag_words_by : (set : ℕ) (b : Bool) → are_named table set ≡ true → (set == 0) ≡ b → AreWords (cond b [] (names_within set table ∷ []))
  flag_words_by set true named e = tt
  flag_words_by set false named e = ((set_back set named e).word, tt)

  flag_words : (set : ℕ) → are_named table set ≡ true → AreWords (said_flags set table)
  flag_words set named = flag_words_by set (set == 0) named refl

-- ---- of an open, and of a splice

pub open_back : (flags : OpenFlags) → are_named open_names flags.0 ≡ true → open_flags_if_any (said_flags flags.0 open_names) ≡ Some flags
open_back flags named = ap (λ o. o >>= λ bits. Some (as_open_flags bits)) (if_any open_flag open_names 32 (omega arith) open_sets flags.0 named)

pub open_words : (flags : OpenFlags) → are_named open_names flags.0 ≡ true → AreWords (said_flags flags.0 open_names)
open_words flags named = flag_words open_flag open_names 32 (omega arith) open_sets flags.0 named

pub splice_back : (flags : SpliceFlags) → are_named splice_names flags.0 ≡ true → splice_flags_if_any (said_flags flags.0 splice_names) ≡ Some flags
splice_back flags named = ap (λ o. o >>= λ bits. Some (as_splice_flags bits)) (if_any splice_flag splice_names 16 (omega arith) splice_sets flags.0 named)

pub splice_words : (flags : SpliceFlags) → are_named splice_names flags.0 ≡ true → AreWords (said_flags flags.0 splice_names)
splice_words flags named = flag_words splice_flag splice_names 16 (omega arith) splice_sets flags.0 named

-- ---- flags that may be `-`

no_open_flag : flags_of open_flag (codes "-") ≡ None
unfolding flags_of with_flags open_flag
no_open_flag = refl

no_poll_flag : flags_of poll_flag (codes "-") ≡ None
unfolding flags_of with_flags poll_flag
no_poll_flag = refl

no_open_names : names_within 0 open_names ≡ codes "-"
unfolding names_text
no_open_names = refl

no_mask_names : names_within 0 mask_names ≡ codes "-"
unfolding names_text
no_mask_names = refl

open_none : flags_or_none (codes "-") ≡ Some (as_open_flags 0)
unfolding flags_or_none
open_none = refl

mask_none : poll_mask_of (codes "-") ≡ Some (as_poll_mask 0)
unfolding poll_mask_of
mask_none = refl

open_some : (word : List ℕ) (bits : ℕ) → bytes_eq word (codes "-") ≡ false → flags_of open_flag word ≡ Some bits → flags_or_none word ≡ Some (as_open_flags bits)
unfolding flags_or_none
open_some word bits isnt says = rw (isnt, says) refl

mask_some : (word : List ℕ) (bits : ℕ) → bytes_eq word (codes "-") ≡ false → flags_of poll_flag word ≡ Some bits → poll_mask_of word ≡ Some (as_poll_mask bits)
unfolding poll_mask_of
mask_some word bits isnt says = rw (isnt, says) refl

abbrev SetFlBack : ℕ → Type 0
SetFlBack set = (flags_or_none (names_within set open_names) ≡ Some (as_open_flags set)) × IsWord (names_within set open_names)

set_fl_by : (set : ℕ) (b : Bool) → are_named open_names set ≡ true → (set == 0) ≡ b → SetFlBack set
set_fl_by set true named e =
    let none : flags_or_none (names_within 0 open_names) ≡ Some (as_open_flags 0) = ap flags_or_none no_open_names ∙ open_none in
    subst SetFlBack (sym (eqb-true set 0 e)) (none, rw no_open_names (word_by (codes "-") refl))
set_fl_by set false named e =
    let back = set_back open_flag open_names 32 (omega arith) open_sets set named e in
    (open_some (names_within set open_names) set (not_this (flags_of open_flag) (names_within set open_names) (codes "-") set back.says_set no_open_flag) back.says_set, back.word)

pub set_fl_back : (flags : OpenFlags) → are_named open_names flags.0 ≡ true → flags_or_none (names_within flags.0 open_names) ≡ Some flags
set_fl_back flags named = (set_fl_by flags.0 (flags.0 == 0) named refl).0

pub set_fl_word : (flags : OpenFlags) → are_named open_names flags.0 ≡ true → IsWord (names_within flags.0 open_names)
set_fl_word flags named = (set_fl_by flags.0 (flags.0 == 0) named refl).1

abbrev MaskBack : ℕ → Type 0
MaskBack set = (poll_mask_of (names_within set mask_names) ≡ Some (as_poll_mask set)) × IsWord (names_within set mask_names)

mask_by : (set : ℕ) (b : Bool) → are_named mask_names set ≡ true → (set == 0) ≡ b → MaskBack set
mask_by set true named e =
    let none : poll_mask_of (names_within 0 mask_names) ≡ Some (as_poll_mask 0) = ap poll_mask_of no_mask_names ∙ mask_none in
    subst MaskBack (sym (eqb-true set 0 e)) (none, rw no_mask_names (word_by (codes "-") refl))
mask_by set false named e =
    let back = set_back poll_flag mask_names 62 (omega arith) mask_sets set named e in
    (mask_some (names_within set mask_names) set (not_this (flags_of poll_flag) (names_within set mask_names) (codes "-") set back.says_set no_poll_flag) back.says_set, back.word)

pub mask_back : (mask : PollMask) → are_named mask_names mask.0 ≡ true → poll_mask_of (mask_text mask) ≡ Some mask
unfolding mask_text
mask_back mask named = (mask_by mask.0 (mask.0 == 0) named refl).0

pub mask_word : (mask : PollMask) → are_named mask_names mask.0 ≡ true → IsWord (mask_text mask)
unfolding mask_text
mask_word mask named = (mask_by mask.0 (mask.0 == 0) named refl).1

-- ---- of a pipe

pub pipe_back : {A : Type 0} (nonblock direct : Bool) → pipe_of {A = A} Two (said_flags (write_end_flags nonblock direct).0 pipe_names) ≡ Some (Pipe nonblock direct)
unfolding pipe_of flags_if_any flags_of with_flags pipe_flag names_text
pipe_back false false = refl
pipe_back false true = refl
pipe_back true false = refl
pipe_back true true = refl

pub pipe_words : (nonblock direct : Bool) → AreWords (said_flags (write_end_flags nonblock direct).0 pipe_names)
unfolding names_text
pipe_words false false = tt
pipe_words false true = (word_by (codes "direct") refl, tt)
pipe_words true false = (word_by (codes "nonblock") refl, tt)
pipe_words true true = (word_by (codes "nonblock,direct") refl, tt)
