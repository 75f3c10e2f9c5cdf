-- Flags that have names alone.
use Rattle.std.proofs.Common.{◌≡◌, ◌&&◌, ℕ, Bool, true, false, List, [], ◌∷◌, zero, suc, eq-eqb, refl, ap, ◌∙◌, if◌then◌else◌, nat_lt, MatchOption, rules}
use Rattle.std.specs.Prelude.{⊤, bit_and, bit_or}
use Rattle.std.specs.List.{list_all}
use Rattle.std.specs.declared.option.Option.TheVariants.{None, Some}
use Rattle.std.proofs.lemmas.Nat.{and_assoc, and_comm}
use Rattle.pl_model.specs.declared.flags.SpliceFlags.{SpliceFlags}
use Rattle.pl_model.specs.Flags.{has, creat, excl, trunc, append, nonblock, open_names, splice_names, mask_names}
use Rattle.pl_model.specs.Poll.{bits_if}
use Rattle.pl_model.specs.Said.{are_named}
use Rattle.pl_numbers.specs.Flags.{open_flags_of_bits, splice_flags_of_bits}
use Rattle.pl_polls.specs.declared.entries.PollEntry.{PollEntry}
use Rattle.pl_polls.specs.Entries.{asked}

-- the flags of an open, by which of them are set
named_opens : (a b c d e : Bool) → are_named open_names (bit_or (bit_or (bit_or (bit_or (bits_if a creat) (bits_if b excl)) (bits_if c trunc)) (bits_if d append)) (bits_if e nonblock)) ≡ true
named_opens true true true true true = refl
named_opens true true true true false = refl
named_opens true true true false true = refl
named_opens true true true false false = refl
named_opens true true false true true = refl
named_opens true true false true false = refl
named_opens true true false false true = refl
named_opens true true false false false = refl
named_opens true false true true true = refl
named_opens true false true true false = refl
named_opens true false true false true = refl
named_opens true false true false false = refl
named_opens true false false true true = refl
named_opens true false false true false = refl
named_opens true false false false true = refl
named_opens true false false false false = refl
named_opens false true true true true = refl
named_opens false true true true false = refl
named_opens false true true false true = refl
named_opens false true true false false = refl
named_opens false true false true true = refl
named_opens false true false true false = refl
named_opens false true false false true = refl
named_opens false true false false false = refl
named_opens false false true true true = refl
named_opens false false true true false = refl
named_opens false false true false true = refl
named_opens false false true false false = refl
named_opens false false false true true = refl
named_opens false false false true false = refl
named_opens false false false false true = refl
named_opens false false false false false = refl

pub opens_named : (bits : ℕ) → are_named open_names (open_flags_of_bits bits).0 ≡ true
opens_named bits = named_opens (has bits 64) (has bits 128) (has bits 512) (has bits 1024) (has bits 2048)

-- the flags of a splice, which are all numbers below 16
named_splices : (n : ℕ) → nat_lt 15 n ≡ false → are_named splice_names n ≡ true
named_splices zero few = refl
named_splices (suc zero) few = refl
named_splices (suc (suc zero)) few = refl
named_splices (suc (suc (suc zero))) few = refl
named_splices (suc (suc (suc (suc zero)))) few = refl
named_splices (suc (suc (suc (suc (suc zero))))) few = refl
named_splices (suc (suc (suc (suc (suc (suc zero)))))) few = refl
named_splices (suc (suc (suc (suc (suc (suc (suc zero))))))) few = refl
named_splices (suc (suc (suc (suc (suc (suc (suc (suc zero)))))))) few = refl
named_splices (suc (suc (suc (suc (suc (suc (suc (suc (suc zero))))))))) few = refl
named_splices (suc (suc (suc (suc (suc (suc (suc (suc (suc (suc zero)))))))))) few = refl
named_splices (suc (suc (suc (suc (suc (suc (suc (suc (suc (suc (suc zero))))))))))) few = refl
named_splices (suc (suc (suc (suc (suc (suc (suc (suc (suc (suc (suc (suc zero)))))))))))) few = refl
named_splices (suc (suc (suc (suc (suc (suc (suc (suc (suc (suc (suc (suc (suc zero))))))))))))) few = refl
named_splices (suc (suc (suc (suc (suc (suc (suc (suc (suc (suc (suc (suc (suc (suc zero)))))))))))))) few = refl
named_splices (suc (suc (suc (suc (suc (suc (suc (suc (suc (suc (suc (suc (suc (suc (suc zero))))))))))))))) few = refl
named_splices (suc (suc (suc (suc (suc (suc (suc (suc (suc (suc (suc (suc (suc (suc (suc (suc n)))))))))))))))) few = absurd (search rules)

pub splices_named : (bits : ℕ) → MatchOption (splice_flags_of_bits bits) ⊤ (λ flags. are_named splice_names flags.0 ≡ true)
splices_named bits = at (nat_lt 15 bits) refl
  where
    at : (b : Bool) → nat_lt 15 bits ≡ b → MatchOption (if b then None else Some (record { 0 = bits })) ⊤ (λ (flags : SpliceFlags). are_named splice_names flags.0 ≡ true)
    at true e = tt
    at false e = named_splices bits e

-- what a poll asks
mask_named : (events : ℕ) → bit_and 61 (bit_and events 61) ≡ bit_and events 61
mask_named events = and_comm 61 (bit_and events 61) ∙ and_assoc 61 events 61

pub polls_named : (entries : List PollEntry) → list_all (λ e. are_named mask_names e.1.0) (asked entries) ≡ true
polls_named [] = refl
polls_named (e ∷ es) = ap (λ b. b && list_all (λ e. are_named mask_names e.1.0) (asked es)) (eq-eqb (bit_and 61 (bit_and e.events 61)) (bit_and e.events 61) (mask_named e.events)) ∙ polls_named es
