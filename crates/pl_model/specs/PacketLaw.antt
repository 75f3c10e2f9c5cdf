-- What packet pipes hold: packets, which come out as they went in, one at each read.
use Rattle.std.specs.Prelude.{◌≡◌, ℕ, ◌<◌, ◌≤◌, ◌↔◌, Bool, false, List, [], ◌∷◌, ◌++◌, length, take, drop, All, sum, IfSome, unwrap_or}
use Rattle.std.specs.List.{concat}
use Rattle.pl_model.specs.declared.calls.Limits.{Limits}
use Rattle.pl_model.specs.declared.calls.Step.{Step}
use Rattle.pl_model.specs.declared.replies.Reply.TheVariants.{Bytes}
use Rattle.pl_model.specs.Numbers.{pipe_buf}
use Rattle.pl_model.specs.State.{Core, Pipe}
use Rattle.pl_model.specs.Packets.{piece_lengths, front, spent, is_byte_queue, lose, gain, cut}
use Rattle.pl_model.specs.Trial.{Done, loses}
use Rattle.pl_model.specs.Transfer.{read_pipe}
use Rattle.pl_model.specs.Numbered.{numbers, State, opening, step}
use Rattle.pl_model.specs.Run.{after}

-- pipe(2), O_DIRECT: a packet has a byte at least, and PIPE_BUF bytes at most.
abbrev pub IsPacketLength : ℕ → Type 0
IsPacketLength n = (0 < n) × (n ≤ pipe_buf)

-- these are the lengths of packets that have so many bytes together
pub record Cuts (lengths : List ℕ) (held : ℕ) : Type 0 where
  pub each : All IsPacketLength lengths
  pub whole : sum lengths ≡ held

-- pipe(2), O_DIRECT: each byte of a packet pipe is in a packet. Nothing is said of a byte queue.
abbrev pub AreCut : Pipe → Type 0
AreCut pipe = IfSome pipe.packets (λ lengths. Cuts lengths (length pipe.bytes))

-- a packet pipe whose bytes are cut into packets, as those of each are in a state that a run comes to
pub record IsPacketPipe (pipe : Pipe) : Type 0 where
  pub kind : is_byte_queue pipe ≡ false
  pub cut : AreCut pipe

-- pipe(2), O_DIRECT: the packets of a pipe, from the front. A byte queue has none.
abbrev pub packets_of : Pipe → List (List ℕ)
packets_of pipe = cut pipe.bytes (unwrap_or pipe.packets [])

-- pipe(2), O_DIRECT: the packets of a write of these bytes.
abbrev pub pieces_of : List ℕ → List (List ℕ)
pieces_of bytes = cut bytes (piece_lengths (length bytes))

-- Packets hold these bytes, joined in order, and none is empty or too long.
pub record ArePackets (packets : List (List ℕ)) (bytes : List ℕ) : Type 0 where
  pub joined : concat packets ≡ bytes
  pub each : All (λ packet. IsPacketLength (length packet)) packets

-- A packet pipe is a list of packets.
abbrev pub HoldsPackets : Type 0
HoldsPackets = (pipe : Pipe) → IsPacketPipe pipe → ArePackets (packets_of pipe) pipe.bytes

-- There is nothing to be read where there are no packets, and only there.
abbrev pub HasNoneToRead : Type 0
HasNoneToRead = (pipe : Pipe) → IsPacketPipe pipe → (packets_of pipe ≡ []) ↔ (front pipe ≡ 0)

-- pipe(2), O_DIRECT: a read that gives n bytes gives the front of the first packet, and takes all of that packet. The others stay as they
-- are.
pub record TakesTheFirst (pipe : Pipe) (first : List ℕ) (rest : List (List ℕ)) : Type 0 where
  pub most : front pipe ≡ length first
  pub given : (n : ℕ) → n ≤ front pipe → take n pipe.bytes ≡ take n first
  pub taken : (n : ℕ) → take (spent pipe n) pipe.bytes ≡ first
  pub left : (n : ℕ) → packets_of (lose (spent pipe n) pipe) ≡ rest

abbrev pub ReadsTheFirst : Type 0
ReadsTheFirst =
    (pipe : Pipe) (first : List ℕ) (rest : List (List ℕ)) → IsPacketPipe pipe → packets_of pipe ≡ first ∷ rest →
    TakesTheFirst pipe first rest

-- pipe(2), O_DIRECT: so a read of n bytes is answered with the first packet, or with the first n bytes of it.
abbrev pub AnswersTheFirst : Type 0 → Type 0
AnswersTheFirst A =
    (s : Core A numbers) (p : ℕ) (pipe : Pipe) (first : List ℕ) (rest : List (List ℕ)) (n : ℕ) → IsPacketPipe pipe →
    packets_of pipe ≡ first ∷ rest → read_pipe s p pipe n ≡ Done s (loses p (length first)) (Bytes (take n first))

-- pipe(2), O_DIRECT: the packets of a write come behind those that were there, and join none of them.
abbrev pub WritesItsPackets : Type 0
WritesItsPackets =
    (pipe : Pipe) (bytes : List ℕ) → IsPacketPipe pipe → packets_of (gain bytes pipe) ≡ packets_of pipe ++ pieces_of bytes

-- pipe(2), O_DIRECT: a write of at most PIPE_BUF bytes is one packet, and of a longer one each PIPE_BUF bytes are one.
pub record IsCutIntoPackets (bytes : List ℕ) : Type 0 where
  pub packets : ArePackets (pieces_of bytes) bytes
  pub one : IsPacketLength (length bytes) → pieces_of bytes ≡ bytes ∷ []
  pub longer : pipe_buf < length bytes → pieces_of bytes ≡ take pipe_buf bytes ∷ pieces_of (drop pipe_buf bytes)

abbrev pub CutsWrites : Type 0
CutsWrites = (bytes : List ℕ) → IsCutIntoPackets bytes

-- each packet pipe is cut into its packets
abbrev pub HaveCuts : {A : Type 0} → Core A numbers → Type 0
HaveCuts s = (p : ℕ) → IfSome (s.pipes p) AreCut

abbrev pub OpensCut : Type 0 → Type 0
OpensCut A = (limits : Limits) → HaveCuts (opening {A = A} limits).core

abbrev pub StaysCut : Type 0 → Type 0
StaysCut A = (s : State A) (x : Step A) → HaveCuts s.core → HaveCuts (step s x).state.core

abbrev pub RunsCut : Type 0 → Type 0
RunsCut A = (s : State A) (xs : List (Step A × Bool)) → HaveCuts s.core → HaveCuts (after s xs).core
