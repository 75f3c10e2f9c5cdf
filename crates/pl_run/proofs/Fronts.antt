-- Bytes that are written piece by piece.
use Rattle.std.proofs.Common.{ℕ, ◌+◌, ◌≤◌, List, ◌++◌, length, take, Option, Ok, Err, Result, arith}
use Rattle.std.specs.Io.KnownBytes.{Appends}
use Rattle.std.proofs.KnownBytes.{Appends-trans}
use Rattle.std.proofs.lemmas.List.{take-append-le, length-append}
use Rattle.std.proofs.Math.Seq.{take-append-add}
use Rattle.pl_script.specs.Streams.{WritesFront}

-- a front of the bytes was written
abbrev pub WritesSome : Option (List ℕ) → Option (List ℕ) → List ℕ → Type 0
WritesSome old new bytes = (count : ℕ) × (count ≤ length bytes) × Appends old new (take count bytes)

-- the writer stopped in the first piece
pub stops : (old new : Option (List ℕ)) (a b : List ℕ) → WritesSome old new a → WritesSome old new (a ++ b)
stops old new a b front =
    let few : front.0 ≤ length a = front.1 in
    (front.0, omega (arith, length-append a b, few), rw (take-append-le front.0 a b few) front.2)

-- the first piece was written, and a front of the next
pub goes_on : (old mid new : Option (List ℕ)) (a b : List ℕ) → Appends old mid a → WritesSome mid new b → WritesSome old new (a ++ b)
goes_on old mid new a b first next =
    let few : next.0 ≤ length b = next.1 in
    (length a + next.0, omega (arith, length-append a b, few), rw (take-append-add a b next.0) (Appends-trans old mid new a (take next.0 b) first next.2))

-- the first piece was written, and the next as far as it went
pub ends : {X E : Type 0} (old mid new : Option (List ℕ)) (a b : List ℕ) (r : Result X E) → Appends old mid a → WritesFront mid new r b → WritesFront old new r (a ++ b)
ends old mid new a b (Ok x) first next = Appends-trans old mid new a b first next
ends old mid new a b (Err e) first next = goes_on old mid new a b first next
