-- Reads and writes of a regular file, at the kernel's keys.
use Rattle.std.specs.Prelude.{◌≡◌, ◌≤◌, ℕ, ◌+◌, ◌-◌, List, length, take, drop, IfSome, if◌then◌else◌}
use Rattle.pl_model.specs.declared.calls.Whence.{Whence}
use Rattle.pl_model.specs.declared.calls.Whence.TheVariants.{Set, Cur, End}
use Rattle.pl_model.specs.Flags.{has, append}
use Rattle.pl_model.specs.Map.{change_at}
use Rattle.pl_model.specs.Transfer.{put_bytes}
use Rattle.pl_desc.specs.Rows.{at}
use Rattle.pl_desc.specs.Descs.{Opened}
use Rattle.pl_state.specs.Contents.{Contents}

-- what is said of a description, and of the file's bytes
abbrev pub OfFile : {A : Type 0} → Contents A → (key file : ℕ) → (Opened → List ℕ → Type 0) → Type 0
OfFile k key file P = IfSome (at k.opened key) (λ o. IfSome (at k.nodes.files file) (λ bytes. P o bytes))

-- POSIX.1-2017, open, O_APPEND: where a write begins.
abbrev pub place_of : Opened → List ℕ → ℕ
place_of o held = if has o.flags.0 append then length held else o.offset

-- POSIX.1-2017, lseek: where an offset is counted from.
abbrev pub base_of : Opened → List ℕ → Whence → ℕ
base_of o held Set = 0
base_of o held Cur = o.offset
base_of o held End = length held

module _ {A : Type 0} (old : Contents A) (key file : ℕ) where
  -- POSIX.1-2017, read: of so many bytes from the offset on, which advances by what was read. Nothing else changed.
  pub record ReadsFile (n : ℕ) (bytes : List ℕ) (new : Contents A) : Type 0 where
    pub read : OfFile old key file (λ o held. bytes ≡ take n (drop o.offset held))
    pub opened : OfFile old key file (λ o held. at new.opened ≡ change_at key (λ x. record x { offset = o.offset + length bytes }) (at old.opened))
    pub rest : new ≡ record old { opened = new.opened }

  -- POSIX.1-2017, write: of as many bytes as the limit of a file's length leaves room for. Nothing else changed.
  pub record WritesFile (bytes : List ℕ) (count : ℕ) (new : Contents A) : Type 0 where
    pub wrote : OfFile old key file (λ o held. count ≡ length (take (old.limits.file_max - place_of o held) bytes))
    pub files : OfFile old key file (λ o held. at new.nodes.files ≡ change_at file (λ b. put_bytes b (place_of o held) (take (old.limits.file_max - place_of o held) bytes)) (at old.nodes.files))
    pub opened : OfFile old key file (λ o held. at new.opened ≡ change_at key (λ x. record x { offset = place_of o held + count }) (at old.opened))
    pub rest : new ≡ record old { opened = new.opened; nodes = record old.nodes { files = new.nodes.files; memory = new.nodes.memory } }

  -- no byte of a write fits
  abbrev pub IsFull : Type 0
  IsFull = OfFile old key file (λ o held. old.limits.file_max ≤ place_of o held)
