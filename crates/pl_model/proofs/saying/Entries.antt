-- What a poll asks, and the smaller words of calls, read again.
use Rattle.std.proofs.Common.{◌≡◌, ℕ, ◌^◌, ◌<◌, Bool, true, false, List, [], ◌∷◌, map, refl, ap, ◌∙◌, arith, w32, SFits}
use Rattle.std.specs.Prelude.{ℤ, Option, Some, None, IfSome, codes}
use Rattle.std.specs.List.{All, list_all, before_first, after_first}
use Rattle.std.specs.Fmt.{decimal, signed_decimal}
use Rattle.std.proofs.lemmas.Bool.{ne_eqb}
use Rattle.std.proofs.lemmas.List.{length-append}
use Rattle.std.proofs.lemmas.List.Elements.{All-cons, All-head, All-tail, All-append, All-weaker}
use Rattle.pl_model.specs.declared.calls.Mode.{Mode}
use Rattle.pl_model.specs.declared.calls.Whence.{Whence}
use Rattle.pl_model.specs.declared.flags.PollMask.{PollMask}
use Rattle.pl_model.specs.Flags.{mask_names}
use Rattle.pl_model.specs.Words.{◌>>=◌, is_colon, signed, number, offset_of, mode_of, whence_of, wait_of, poll_mask_of, entry_of, entries_of}
use Rattle.pl_model.specs.Shown.{mode_text, mask_text}
use Rattle.pl_model.specs.Said.{said_offset, said_whence, said_wait, said_entry, are_named}
use Rattle.pl_model.proofs.saying.Joined.{IsWord, AreWords}
use Rattle.pl_model.proofs.saying.Below.{both}
use Rattle.pl_model.proofs.saying.Numerals.{number_of_decimal, decimal_word, signed_of_decimal, signed_digits, IsSignedDigit, signed_word, wider}
use Rattle.pl_model.proofs.saying.Seams.{not_this, word_by, before_seam, after_seam}
use Rattle.pl_model.proofs.saying.Flags.{mask_back, mask_word}

-- ---- words of a few forms

pub mode_back : (mode : Mode) → mode_of (mode_text mode) ≡ Some mode
unfolding mode_of
mode_back Mode.Read = refl
mode_back Mode.Write = refl
mode_back Mode.Both = refl

pub mode_word : (mode : Mode) → IsWord (mode_text mode)
mode_word Mode.Read = word_by (codes "r") refl
mode_word Mode.Write = word_by (codes "w") refl
mode_word Mode.Both = word_by (codes "rw") refl

pub whence_back : (whence : Whence) → whence_of (said_whence whence) ≡ Some whence
unfolding whence_of
whence_back Whence.Set = refl
whence_back Whence.Cur = refl
whence_back Whence.End = refl

pub whence_word : (whence : Whence) → IsWord (said_whence whence)
whence_word Whence.Set = word_by (codes "set") refl
whence_word Whence.Cur = word_by (codes "cur") refl
whence_word Whence.End = word_by (codes "end") refl

pub wait_back : (wait : Bool) → wait_of (said_wait wait) ≡ Some wait
unfolding wait_of
wait_back false = refl
wait_back true = refl

pub wait_word : (wait : Bool) → IsWord (said_wait wait)
wait_word false = word_by (codes "now") refl
wait_word true = word_by (codes "wait") refl

-- ---- an offset

no_number : number (2 ^ 64) (codes "-") ≡ None
unfolding number
no_number = refl

pub offset_back : (offset : Option ℕ) → IfSome offset (λ n. n < 2 ^ 64) → offset_of (said_offset offset) ≡ Some offset
unfolding offset_of
offset_back None fits = refl
offset_back (Some n) fits =
    let says : number (2 ^ 64) (decimal n) ≡ Some n = number_of_decimal (2 ^ 64) n fits fits in
    rw (not_this (number (2 ^ 64)) (decimal n) (codes "-") n says no_number, says) refl

pub offset_word : (offset : Option ℕ) → IfSome offset (λ n. n < 2 ^ 64) → IsWord (said_offset offset)
offset_word None fits = word_by (codes "-") refl
offset_word (Some n) fits = decimal_word n fits

-- ---- an entry

no_colon : (fd : ℤ) → SFits w32 fd → All (λ c. is_colon c ≡ false) (signed_decimal fd)
no_colon fd fits = All-weaker IsSignedDigit (λ c. is_colon c ≡ false) (λ c digit. ne_eqb c 58 (λ e. omega arith)) (signed_decimal fd) (signed_digits fd (wider fd fits))

entry_says : (word front behind : List ℕ) (fd : ℤ) (mask : PollMask) → before_first is_colon word ≡ front → after_first is_colon word ≡ behind → signed front ≡ Some fd → poll_mask_of behind ≡ Some mask → entry_of word ≡ Some (fd, mask)
unfolding entry_of
entry_says word front behind fd mask p q r s =
    let first : signed (before_first is_colon word) ≡ Some fd = ap signed p ∙ r in
    let second : poll_mask_of (after_first is_colon word) ≡ Some mask = ap poll_mask_of q ∙ s in
    rw (first, second) refl

entry_back : (e : ℤ × PollMask) → SFits w32 e.0 → are_named mask_names e.1.0 ≡ true → entry_of (said_entry e) ≡ Some e
entry_back e fits named =
    entry_says (said_entry e) (signed_decimal e.0) (mask_text e.1) e.0 e.1
    (before_seam is_colon 58 (mask_text e.1) refl (signed_decimal e.0) (no_colon e.0 fits)) (after_seam is_colon 58 (mask_text e.1) refl (signed_decimal e.0) (no_colon e.0 fits))
    (signed_of_decimal e.0 fits) (mask_back e.1 named)

entry_word : (e : ℤ × PollMask) → SFits w32 e.0 → are_named mask_names e.1.0 ≡ true → IsWord (said_entry e)
entry_word e fits named =
    let fd = signed_word e.0 (wider e.0 fits) in
    let mask = mask_word e.1 named in
    record {
      some = omega (arith, length-append (signed_decimal e.0) (58 ∷ mask_text e.1), fd.some);
      black = All-append (λ c. 32 < c) (signed_decimal e.0) (58 ∷ mask_text e.1) fd.black (All-cons (λ c. 32 < c) 58 (mask_text e.1) (omega arith) mask.black);
    }

abbrev pub Fits : ℤ × PollMask → Type 0
Fits e = SFits w32 e.0

abbrev pub is_named : ℤ × PollMask → Bool
is_named e = are_named mask_names e.1.0

next_entry : (first : Option (ℤ × PollMask)) (rest : Option (List (ℤ × PollMask))) (e : ℤ × PollMask) (es : List (ℤ × PollMask)) → first ≡ Some e → rest ≡ Some es → (first >>= λ e. rest >>= λ es. Some (e ∷ es)) ≡ Some (e ∷ es)
next_entry first rest e es p q = rw (p, q) refl

pub entries_back : (es : List (ℤ × PollMask)) → list_all is_named es ≡ true → All Fits es → entries_of (map said_entry es) ≡ Some es
unfolding entries_of
entries_back [] named fits = refl
entries_back (e ∷ es) named fits =
    let parts = both (is_named e) (list_all is_named es) named in
    next_entry (entry_of (said_entry e)) (entries_of (map said_entry es)) e es (entry_back e (All-head Fits e es fits) parts.0) (entries_back es parts.1 (All-tail Fits e es fits))

pub entries_words : (es : List (ℤ × PollMask)) → list_all is_named es ≡ true → All Fits es → AreWords (map said_entry es)
entries_words [] named fits = tt
entries_words (e ∷ es) named fits =
    let parts = both (is_named e) (list_all is_named es) named in
    (entry_word e (All-head Fits e es fits) parts.0, entries_words es parts.1 (All-tail Fits e es fits))
