-- A file as contracts see it: a list of bytes.
use Rattle.std.specs.Prelude.{ℕ, ◌+◌, ◌-◌, min, List, [], ◌∷◌, ◌++◌, length, take, drop, replicate}

-- POSIX.1-2017, write and lseek: the bytes stand from the place on, what lay there before is gone, and what lies between the
-- end of the file and the place reads as zeros. A write of no bytes changes nothing.
abbrev pub written : ℕ → List ℕ → List ℕ → List ℕ
written place [] old = old
written place (b ∷ bytes) old = take place old ++ (replicate (place - length old) 0 ++ ((b ∷ bytes) ++ drop (place + length (b ∷ bytes)) old))

-- POSIX.1-2017, write: of so many bytes only those go in that stand below the greatest length of the file.
abbrev pub fitting : ℕ → ℕ → ℕ → ℕ
fitting count place most = min count (most - place)
