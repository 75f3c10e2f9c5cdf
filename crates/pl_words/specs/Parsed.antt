-- What a parser answered, against what the words say.
use Rattle.std.specs.Prelude.{◌≡◌, ◌<◌, ◌^◌, ◌++◌, ◌+◌, ℕ, ℤ, List, [], ◌∷◌, length, Option, Some, None, Result, Ok, Err, IsSomeAnd, IfSome, if◌then◌else◌, nat_le, ◌==◌}
use Rattle.pl_model.specs.declared.flags.PollMask.{PollMask}
use Rattle.pl_model.specs.Numbers.{most_bytes}
use Rattle.pl_model.specs.Words.{◌>>=◌, number, signed, is_plain, hex_byte}
use Rattle.pl_words.specs.declared.fault.LineFault.{LineFault}
use Rattle.pl_words.specs.declared.fault.LineFault.TheVariants.{Bad, NoMemory}

-- the answer is what the words say, and `Bad` where they say nothing; no memory is taken, so none is wanting
abbrev pub Gives : {X : Type 0} → Result X LineFault → Option X → Type 0
Gives (Ok x) said = said ≡ Some x
Gives (Err Bad) said = said ≡ None
Gives (Err NoMemory) said = ⊥

-- the same of an answer that is read as a list of bytes, or as a pair with one
abbrev pub GivesAs : {X Y : Type 0} → (X → Y) → Result X LineFault → Option Y → Type 0
GivesAs read (Ok x) said = said ≡ Some (read x)
GivesAs read (Err Bad) said = said ≡ None
GivesAs read (Err NoMemory) said = ⊥

-- the same, but that memory may be wanting where what the words say takes some
abbrev pub GivesTaking : {X : Type 0} → (X → Type 0) → Result X LineFault → Option X → Type 0
GivesTaking Takes (Ok x) said = said ≡ Some x
GivesTaking Takes (Err Bad) said = said ≡ None
GivesTaking Takes (Err NoMemory) said = IsSomeAnd said Takes

-- Bytes take memory where there are some.
abbrev pub BytesTake : List ℕ → Type 0
BytesTake bytes = 0 < length bytes

-- So do the entries of a poll.
abbrev pub EntriesTake : List (ℤ × PollMask) → Type 0
EntriesTake entries = 0 < length entries

-- no more bytes than one write takes
abbrev pub one_write : Option (List ℕ) → Option (List ℕ)
one_write said = said >>= λ bytes. if nat_le (length bytes) most_bytes then Some bytes else None

-- The bytes of a piece were put behind those before, and `Bad` is answered where it says none. Memory is wanting only where there are
-- bytes before or in the piece; what was put then isn't told.
abbrev pub PutsPiece : {X : Type 0} → Result X LineFault → Option (List ℕ) → (before after : List ℕ) → Type 0
PutsPiece (Ok x) said before after = IsSomeAnd said (λ bytes. after ≡ before ++ bytes)
PutsPiece (Err Bad) said before after = said ≡ None
PutsPiece (Err NoMemory) said before after = IfSome said (λ bytes. 0 < length before + length bytes)

-- the first byte of a name, and the bytes of the word behind it
abbrev pub first_of_name : List ℕ → Option (ℕ × List ℕ)
first_of_name [] = None
first_of_name (c ∷ []) = if is_plain c then Some (c, []) else None
first_of_name (c ∷ d ∷ []) = if is_plain c then Some (c, d ∷ []) else None
first_of_name (c ∷ high ∷ low ∷ rest) =
    if c == 37 then (hex_byte high low >>= λ b. Some (b, rest))
    else if is_plain c then Some (c, high ∷ low ∷ rest)
    else None

-- the word of a list of one
abbrev pub only : List (List ℕ) → Option (List ℕ)
only (w ∷ []) = Some w
only _ = None

abbrev pub only_signed : List (List ℕ) → Option ℤ
only_signed ws = only ws >>= signed

-- below 2 ^ 64
abbrev pub only_number : List (List ℕ) → Option ℕ
only_number ws = only ws >>= number (2 ^ 64)

-- a descriptor and a word
abbrev pub fd_and_word : List (List ℕ) → Option (ℤ × List ℕ)
fd_and_word (fd ∷ w ∷ []) = signed fd >>= λ f. Some (f, w)
fd_and_word _ = None
