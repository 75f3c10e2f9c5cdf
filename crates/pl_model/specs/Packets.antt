-- Pipes in packet mode (pipe(2), O_DIRECT): a write makes packets, and a read takes one.
use Rattle.std.specs.Prelude.{ℕ, zero, suc, ◌-◌, ◌*◌, ◌/◌, ◌%◌, Bool, nat_le, List, [], ◌∷◌, ◌++◌, length, take, drop, replicate, Option, option_map, is_none, if◌then◌else◌}
use Rattle.std.specs.declared.option.Option.TheVariants.{None, Some}
use Rattle.pl_model.specs.Numbers.{pipe_buf}
use Rattle.pl_model.specs.State.{Pipe}

-- a length, but not that of nothing
abbrev pub one_length : ℕ → List ℕ
one_length zero = []
one_length (suc n) = suc n ∷ []

-- pipe(2), O_DIRECT: how long the packets of a write of n bytes are. Each has PIPE_BUF bytes, and a last one has those that are left.
abbrev pub piece_lengths : ℕ → List ℕ
piece_lengths n = replicate (n / pipe_buf) pipe_buf ++ one_length (n % pipe_buf)

-- how long packets are without the first n bytes of them all
abbrev pub without_front : ℕ → List ℕ → List ℕ
without_front n [] = []
without_front n (l ∷ ls) = if nat_le l n then without_front (n - l) ls else (l - n) ∷ ls

abbrev pub used_of : Option (List ℕ) → (held : ℕ) → ℕ
used_of None held = held
used_of (Some lengths) held = pipe_buf * length lengths

-- How much of its capacity a pipe takes: its bytes, or PIPE_BUF for each packet (our own).
abbrev pub used : Pipe → ℕ
used pipe = used_of pipe.packets (length pipe.bytes)

abbrev pub front_of : Option (List ℕ) → (held : ℕ) → ℕ
front_of None held = held
front_of (Some []) held = 0
front_of (Some (l ∷ ls)) held = l

-- pipe(2), O_DIRECT: how many bytes the next read can get, those of a byte queue or of the first packet.
abbrev pub front : Pipe → ℕ
front pipe = front_of pipe.packets (length pipe.bytes)

abbrev pub spent_of : Option (List ℕ) → (n : ℕ) → ℕ
spent_of None n = n
spent_of (Some []) n = n
spent_of (Some (l ∷ ls)) n = l

-- pipe(2), O_DIRECT: how many bytes a read takes that gives n of them. The rest of a packet is discarded.
abbrev pub spent : Pipe → ℕ → ℕ
spent pipe n = spent_of pipe.packets n

-- bytes come out as they went in, in pieces of any length
abbrev pub is_byte_queue : Pipe → Bool
is_byte_queue pipe = is_none pipe.packets

-- without its first n bytes
abbrev pub lose : ℕ → Pipe → Pipe
lose n pipe = record pipe { bytes = drop n pipe.bytes; packets = option_map (without_front n) pipe.packets }

-- with these bytes behind, which are packets of their own in a packet pipe
abbrev pub gain : List ℕ → Pipe → Pipe
gain bytes pipe = record pipe { bytes = pipe.bytes ++ bytes; packets = option_map (λ lengths. lengths ++ piece_lengths (length bytes)) pipe.packets }

-- the bytes, cut into pieces of these lengths
abbrev pub cut : List ℕ → (lengths : List ℕ) → List (List ℕ)
cut bytes [] = []
cut bytes (l ∷ ls) = take l bytes ∷ cut (drop l bytes) ls
