-- A talk with a far end: what was heard from it, and what it was told.
use Rattle.std.specs.Prelude.{◌≡◌, ℕ, List, [], ◌∷◌, ◌++◌, take, Bool, false, ◌==◌, Option, Some, option_map, Result, Ok, Err}
use Rattle.std.specs.Io.KnownBytes.{Appends, Consumes, Keeps, ReadConsumes, WriteAppends}

-- A moment at which the far end was listened to: all that it had said before, and all that it had been told. Numbers of lines
-- that were refused are told by another way.
pub record Moment : Type 0 where
  pub heard : List ℕ
  pub told : List ℕ
  pub refused : List ℕ

-- A talk so far. What was written is told once it was flushed. The talk is over once a read gave nothing.
pub record Talk : Type 0 where
  pub heard : List ℕ
  pub written : List ℕ
  pub told : List ℕ
  pub refused : List ℕ
  pub moments : List Moment
  pub is_over : Bool

-- nothing was said, and nobody listened
abbrev pub silence : Talk
silence = record { heard = []; written = []; told = []; refused = []; moments = []; is_over = false }

-- the moment that is now
abbrev pub now : Talk → Moment
now t = record { heard = t.heard; told = t.told; refused = t.refused }

-- after a read that came to this, into these bytes
abbrev pub listened : {E : Type 0} → Result ℕ E → List ℕ → Talk → Talk
listened (Ok n) bytes t = record t { heard = t.heard ++ take n bytes; moments = t.moments ++ now t ∷ []; is_over = n == 0 }
listened (Err e) bytes t = record t { moments = t.moments ++ now t ∷ [] }

-- after a write of these bytes that came to this
abbrev pub wrote : {E : Type 0} → Result ℕ E → List ℕ → Talk → Talk
wrote (Ok n) bytes t = record t { written = t.written ++ take n bytes }
wrote (Err e) bytes t = t

-- after a flush that came to this
abbrev pub flushed : {X E : Type 0} → Result X E → Talk → Talk
flushed (Ok x) t = record t { told = t.written }
flushed (Err e) t = t

-- after the line of this number was refused
abbrev pub refusing : ℕ → Talk → Talk
refusing n t = record t { refused = t.refused ++ n ∷ [] }

-- after all of these bytes were written and flushed
abbrev pub telling : List ℕ → Talk → Talk
telling bytes t = record t { written = t.written ++ bytes; told = t.written ++ bytes }

-- What is known of a far end: the talk with it so far, the bytes that it will still say, and all that it was written.
pub record Side : Type 0 where
  pub talk : Option Talk
  pub remaining : Option (List ℕ)
  pub contents : Option (List ℕ)

-- a read came to this, into these bytes
abbrev pub Hears : {E : Type 0} → (old new : Side) → Result ℕ E → List ℕ → Type 0
Hears old new result bytes = (new.talk ≡ option_map (listened result bytes) old.talk) × ReadConsumes old.remaining new.remaining result bytes × (new.contents ≡ old.contents)

-- a write of these bytes did
abbrev pub Takes : {E : Type 0} → (old new : Side) → Result ℕ E → List ℕ → Type 0
Takes old new result bytes = (new.talk ≡ option_map (wrote result bytes) old.talk) × WriteAppends old.contents new.contents result bytes × (new.remaining ≡ old.remaining)

-- a flush did
abbrev pub Flushes : {X E : Type 0} → (old new : Side) → Result X E → Type 0
Flushes old new result = (new.talk ≡ option_map (flushed result) old.talk) × Keeps old.contents new.contents × (new.remaining ≡ old.remaining)

-- the line of this number was refused
abbrev pub Refuses : (old new : Side) → ℕ → Type 0
Refuses old new n = (new.talk ≡ option_map (refusing n) old.talk) × (new.contents ≡ old.contents) × (new.remaining ≡ old.remaining)

-- This was said with a far end that began so, and is so now: it said what was heard, and has what was written. Where the talk with it
-- is known, and nothing was said before, it is this one.
pub record WasSaid (first now : Side) (t : Talk) : Type 0 where
  pub known : first.talk ≡ Some silence → now.talk ≡ Some t
  pub heard : Consumes first.remaining now.remaining t.heard
  pub written : Appends first.contents now.contents t.written
