-- The entries of a poll: a word cut at its colon, and words taken from the front of the line.
use Rattle.std.proofs.Common.{◌≡◌, ℕ, ◌+◌, ◌<◌, Bool, true, false, List, [], ◌∷◌, ◌++◌, length, take, drop, Option, Some, None, refl, sym, ap, ◌∙◌, arith}
use Rattle.std.specs.Prelude.{ℤ, Err, IsSomeAnd, position}
use Rattle.std.specs.List.{position_or_len}
use Rattle.std.proofs.lemmas.List.{append-nil, drop_all, length-append}
use Rattle.pl_model.specs.declared.flags.PollMask.{PollMask}
use Rattle.pl_model.specs.Words.{◌>>=◌, is_colon, signed, with_flags, flags_of, poll_flag, poll_mask_of, entry_of, entries_of}
use Rattle.pl_words.specs.declared.fault.LineFault.{LineFault}
use Rattle.pl_words.specs.declared.fault.LineFault.TheVariants.{Bad, NoMemory}
use Rattle.pl_words.specs.Parsed.{Gives, GivesTaking, EntriesTake}
use Rattle.pl_words.proofs.Places.{place_of, nowhere}
use Rattle.pl_words.proofs.Behind.{behind, one_more}

-- ---- one entry

-- a mask behind a descriptor
abbrev pub with_mask : Option PollMask → ℤ → Option (ℤ × PollMask)
with_mask mask fd = mask >>= λ asked. Some (fd, asked)

no_mask_of_nothing : poll_mask_of [] ≡ None
unfolding poll_mask_of flags_of with_flags poll_flag
no_mask_of_nothing = refl

without_mask : (fd : Option ℤ) → (fd >>= with_mask None) ≡ None
without_mask None = refl
without_mask (Some f) = refl

pub no_colon : (word : List ℕ) → position is_colon word ≡ None → entry_of word ≡ None
unfolding entry_of
no_colon word none =
    let past = nowhere is_colon word none in
    rw (drop_all (position_or_len is_colon word + 1) word (omega (arith, past)), no_mask_of_nothing) (without_mask (signed (take (position_or_len is_colon word) word)))

-- A word with a colon: what stands before it says a descriptor, and what stands behind it a mask.
module _ (word : List ℕ) (n : ℕ) (found : position is_colon word ≡ Some n) where
  at_colon : entry_of word ≡ (signed (take n word) >>= with_mask (poll_mask_of (drop (n + 1) word)))
  unfolding entry_of
  at_colon =
      let at = place_of is_colon word n found in
      rw at.0 refl

  pub fd_fails : (e : LineFault) → Gives (Err e) (signed (take n word)) → Gives (Err e) (entry_of word)
  fd_fails Bad none = at_colon ∙ ap (λ o. o >>= with_mask (poll_mask_of (drop (n + 1) word))) none
  fd_fails NoMemory none = absurd none

  pub mask_fails : (e : LineFault) → Gives (Err e) (poll_mask_of (drop (n + 1) word)) → Gives (Err e) (entry_of word)
  mask_fails Bad none = at_colon ∙ ap (λ o. signed (take n word) >>= with_mask o) none ∙ without_mask (signed (take n word))
  mask_fails NoMemory none = absurd none

  pub both_say : (fd : ℤ) (asked : PollMask) → signed (take n word) ≡ Some fd → poll_mask_of (drop (n + 1) word) ≡ Some asked → entry_of word ≡ Some (fd, asked)
  both_say fd asked f m = at_colon ∙ rw (f, m) refl

-- ---- all of them

-- The entries that the words in front say, where these are left: they are kept, or one of them found no memory.
pub record AreTaken (all left : List (List ℕ)) (wants : Bool) (kept : List (ℤ × PollMask)) : Type 0 where
  pub before : List (ℤ × PollMask)
  pub said : entries_of all ≡ behind before (entries_of left)
  pub same : wants ≡ false → kept ≡ before
  pub some : wants ≡ true → 0 < length before

pub none_taken : (words : List (List ℕ)) → AreTaken words words false []
none_taken words = record { before = []; said = nothing (entries_of words); same = λ kept. refl; some = λ wants. cc }
  where
    nothing : (said : Option (List (ℤ × PollMask))) → said ≡ behind [] said
    nothing None = refl
    nothing (Some entries) = refl

not_both : {b : Bool} → b ≡ true → b ≡ false → ⊥
not_both is isnt = cc

module _ (all left : List (List ℕ)) (wants : Bool) (kept : List (ℤ × PollMask)) (so_far : AreTaken all left wants kept) where
  first_of : (word : List ℕ) (rest : List (List ℕ)) → left ≡ word ∷ rest → entries_of left ≡ (entry_of word >>= λ e. entries_of rest >>= λ es. Some (e ∷ es))
  unfolding entries_of
  first_of word rest is = rw is refl

  -- one more, which was kept or found no memory
  pub one_taken : (word : List ℕ) (rest : List (List ℕ)) (entry : ℤ × PollMask) (wants' : Bool) (kept' : List (ℤ × PollMask))
      → left ≡ word ∷ rest → entry_of word ≡ Some entry → (wants' ≡ false → (wants ≡ false) × (kept' ≡ kept ++ entry ∷ [])) → AreTaken all rest wants' kept'
  one_taken word rest entry wants' kept' is says pushed = record {
    before = so_far.before ++ entry ∷ [];
    said = so_far.said ∙ ap (behind so_far.before) (first_of word rest is ∙ ap (λ o. o >>= λ e. entries_of rest >>= λ es. Some (e ∷ es)) says) ∙ one_more so_far.before entry (entries_of rest);
    same = λ keeps. let p = pushed keeps in p.1 ∙ ap (λ es. es ++ entry ∷ []) (so_far.same p.0);
    some = λ lacks. omega (arith, length-append so_far.before (entry ∷ []));
  }

  -- one more, where memory was wanting before
  pub one_passed : (word : List ℕ) (rest : List (List ℕ)) (entry : ℤ × PollMask) → left ≡ word ∷ rest → entry_of word ≡ Some entry → wants ≡ true
      → AreTaken all rest wants kept
  one_passed word rest entry is says lacks = one_taken word rest entry wants kept is says (λ keeps. absurd (not_both lacks keeps))

  pub one_fails : (word : List ℕ) (rest : List (List ℕ)) (e : LineFault) → left ≡ word ∷ rest → Gives (Err e) (entry_of word) → GivesTaking EntriesTake (Err e) (entries_of all)
  one_fails word rest Bad is none =
      so_far.said ∙ ap (behind so_far.before) (first_of word rest is ∙ ap (λ o. o >>= λ e. entries_of rest >>= λ es. Some (e ∷ es)) none)
  one_fails word rest NoMemory is none = absurd none

  said_by_all : left ≡ [] → entries_of all ≡ Some so_far.before
  unfolding entries_of
  said_by_all none = so_far.said ∙ ap (behind so_far.before) (ap entries_of none) ∙ ap (λ es. Some es) (append-nil so_far.before)

  pub all_taken : left ≡ [] → wants ≡ false → entries_of all ≡ Some kept
  all_taken none keeps = said_by_all none ∙ ap (λ es. Some es) (sym (so_far.same keeps))

  pub all_wanted : left ≡ [] → wants ≡ true → IsSomeAnd (entries_of all) EntriesTake
  all_wanted none lacks = rw (said_by_all none) (so_far.some lacks)
