-- The line of a step, in the parts that are put one behind another.
use Rattle.std.specs.Str.{bytes_eq}
use Rattle.std.proofs.Common.{◌≡◌, ℕ, ◌<◌, length, arith, Bool, true, false, List, [], ◌∷◌, ◌++◌, map, refl, sym, ap, append_assoc}
use Rattle.std.specs.Prelude.{ℤ, Option, ◌==◌, codes}
use Rattle.std.specs.List.{flat_map}
use Rattle.std.specs.Fmt.{decimal, signed_decimal}
use Rattle.std.proofs.lemmas.List.{append-nil}
use Rattle.pl_model.specs.declared.calls.Call.{Call}
use Rattle.pl_model.specs.declared.calls.Call.TheVariants.{OpenName, Splice, Tee, Poll, Lseek}
use Rattle.pl_model.specs.declared.calls.Step.TheVariants.{Begin}
use Rattle.pl_model.specs.declared.calls.Mode.{Mode}
use Rattle.pl_model.specs.declared.calls.Whence.{Whence}
use Rattle.pl_model.specs.declared.flags.OpenFlags.{OpenFlags}
use Rattle.pl_model.specs.declared.flags.SpliceFlags.{SpliceFlags}
use Rattle.pl_model.specs.declared.flags.PollMask.{PollMask}
use Rattle.pl_model.specs.Flags.{open_names, splice_names}
use Rattle.pl_model.specs.Shown.{mode_text, names_within}
use Rattle.pl_model.specs.Said.{spaced, said_byte, said_name, said_offset, said_whence, said_wait, said_flags, said_entry, call_words, step_words, said_step}
use Rattle.pl_lines.specs.Blanks.{behind_blank}

pub spaced_onto : (w : List ℕ) (ws : List (List ℕ)) → spaced (w ∷ ws) ≡ w ++ behind_blank ws
spaced_onto w [] = sym (append-nil w)
spaced_onto w (v ∷ ws) = refl

onto : (w : List ℕ) (ws : List (List ℕ)) → behind_blank (w ∷ ws) ≡ (codes " " ++ w) ++ behind_blank ws
onto w ws = ap (λ t. codes " " ++ t) (spaced_onto w ws)

-- ---- flags

pub without_flags : (set : ℕ) (table : List (ℕ × List ℕ)) → (set == 0) ≡ true → behind_blank (said_flags set table) ≡ []
without_flags set table e = rw e refl

pub with_flags : (set : ℕ) (table : List (ℕ × List ℕ)) → (set == 0) ≡ false → behind_blank (said_flags set table) ≡ codes " " ++ names_within set table
with_flags set table e = rw e refl

pub len_parts : (len set : ℕ) → behind_blank (decimal len ∷ said_flags set splice_names) ≡ (codes " " ++ decimal len) ++ behind_blank (said_flags set splice_names)
len_parts len set = onto (decimal len) (said_flags set splice_names)

-- ---- names

pub empty_name : (name : List ℕ) → length name ≡ 0 → said_name name ≡ codes "-"
unfolding said_name
empty_name [] none = refl
empty_name (c ∷ cs) none = absurd (omega arith)

pub dash_name : (name : List ℕ) → bytes_eq name (codes "-") ≡ true → said_name name ≡ codes "%2d"
unfolding said_name
dash_name [] is = absurd (cc)
dash_name (c ∷ cs) is = rw is refl

pub other_name : (name : List ℕ) → 0 < length name → bytes_eq name (codes "-") ≡ false → said_name name ≡ flat_map said_byte name
unfolding said_name
other_name [] some isnt = absurd (omega arith)
other_name (c ∷ cs) some isnt = rw isnt refl

-- ---- entries

pub entry_next : (e : ℤ × PollMask) (es : List (ℤ × PollMask)) → behind_blank (map said_entry (e ∷ es)) ≡ (codes " " ++ said_entry e) ++ behind_blank (map said_entry es)
entry_next e es = onto (said_entry e) (map said_entry es)

-- ---- calls

apart : (a b c d e : List ℕ) → ((a ++ 32 ∷ b) ++ 32 ∷ (c ++ 32 ∷ d)) ++ e ≡ a ++ 32 ∷ (b ++ 32 ∷ (c ++ 32 ∷ (d ++ e)))
apart a b c d e = simp append_assoc

module _ (A : Type 0) where
  pub open_parts : (name : List ℕ) (mode : Mode) (flags : OpenFlags)
      → behind_blank (call_words {A = A} (OpenName name mode flags)) ≡ (codes " open " ++ said_name name) ++ ((codes " " ++ mode_text mode) ++ behind_blank (said_flags flags.0 open_names))
  unfolding call_words
  open_parts name mode flags = ap (λ t. codes " open " ++ (said_name name ++ 32 ∷ t)) (spaced_onto (mode_text mode) (said_flags flags.0 open_names))

  pub splice_parts : (from : ℤ) (from_offset : Option ℕ) (to : ℤ) (to_offset : Option ℕ) (len : ℕ) (flags : SpliceFlags)
      → behind_blank (call_words {A = A} (Splice from from_offset to to_offset len flags))
      ≡ ((codes " splice " ++ (signed_decimal from ++ (codes " " ++ said_offset from_offset))) ++ (codes " " ++ (signed_decimal to ++ (codes " " ++ said_offset to_offset)))) ++ behind_blank (decimal len ∷ said_flags flags.0 splice_names)
  unfolding call_words
  splice_parts from from_offset to to_offset len flags =
      sym (ap (λ t. codes " splice " ++ t) (apart (signed_decimal from) (said_offset from_offset) (signed_decimal to) (said_offset to_offset) (behind_blank (decimal len ∷ said_flags flags.0 splice_names))))

  pub tee_parts : (from to : ℤ) (len : ℕ) (flags : SpliceFlags)
      → behind_blank (call_words {A = A} (Tee from to len flags))
      ≡ (codes " tee " ++ (signed_decimal from ++ (codes " " ++ signed_decimal to))) ++ behind_blank (decimal len ∷ said_flags flags.0 splice_names)
  unfolding call_words
  tee_parts from to len flags = sym (ap (λ t. codes " tee " ++ t) (append_assoc (signed_decimal from) (32 ∷ signed_decimal to) (behind_blank (decimal len ∷ said_flags flags.0 splice_names))))

  pub poll_parts : (entries : List (ℤ × PollMask)) (wait : Bool) → behind_blank (call_words {A = A} (Poll entries wait)) ≡ (codes " poll " ++ said_wait wait) ++ behind_blank (map said_entry entries)
  unfolding call_words
  poll_parts entries wait = ap (λ t. codes " poll " ++ t) (spaced_onto (said_wait wait) (map said_entry entries))

  pub lseek_parts : (fd offset : ℤ) (whence : Whence)
      → behind_blank (call_words {A = A} (Lseek fd offset whence)) ≡ ((codes " lseek " ++ signed_decimal fd) ++ (codes " " ++ signed_decimal offset)) ++ (codes " " ++ said_whence whence)
  unfolding call_words
  lseek_parts fd offset whence = sym (ap (λ t. codes " lseek " ++ t) (append_assoc (signed_decimal fd) (32 ∷ signed_decimal offset) (32 ∷ said_whence whence)))

  pub begin_parts : (pid : ℕ) (call : Call A) → said_step (Begin pid call) ≡ decimal pid ++ behind_blank (call_words call)
  unfolding said_step step_words
  begin_parts pid call = spaced_onto (decimal pid) (call_words call)
