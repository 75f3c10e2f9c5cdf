-- One write after another.
use Rattle.std.proofs.Common.{◌≡◌, ℕ, ◌+◌, List, ◌++◌, take, drop, Option, arith}
use Rattle.std.proofs.KnownBytes.{Appends-trans}
use Rattle.std.specs.Io.KnownBytes.{Appends}
use Rattle.std.proofs.lemmas.List.{take-append-drop, drop-take, take-take}

-- n bytes, and then the next k of them
take_on : (n k : ℕ) (bytes : List ℕ) → take n bytes ++ take k (drop n bytes) ≡ take (n + k) bytes
take_on n k bytes =
    let front : take n (take (n + k) bytes) ≡ take n bytes = take-take n (n + k) bytes (omega arith) in
    let back : drop n (take (n + k) bytes) ≡ take k (drop n bytes) = drop-take n k bytes in
    rw (← front, ← back) (take-append-drop n (take (n + k) bytes))

-- n bytes were written, and then k of the rest
pub appends_more : (old mid new : Option (List ℕ)) (bytes rest : List ℕ) (n k m : ℕ) → Appends old mid (take n bytes) → Appends mid new (take k rest) → rest ≡ drop n bytes → m ≡ n + k → Appends old new (take m bytes)
appends_more old mid new bytes rest n k m written more at is =
    let both : take n bytes ++ take k rest ≡ take m bytes = rw (at, is) (take_on n k bytes) in
    rw (← both) (Appends-trans old mid new (take n bytes) (take k rest) written more)
