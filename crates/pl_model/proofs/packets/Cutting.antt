-- Bytes that are cut into packets.
use Rattle.std.proofs.Common.{◌≡◌, ℕ, ◌≤◌, List, [], ◌∷◌, ◌++◌, length, take, drop, sym, ap, ◌∙◌, subst, sum, arith, length-drop}
use Rattle.std.specs.Prelude.{All}
use Rattle.std.specs.List.{concat}
use Rattle.std.proofs.lemmas.List.{nil_from_length, take-append-le, drop-append-le, take-append-drop, length-take-le, take_all}
use Rattle.std.proofs.lemmas.List.Elements.{All-nil, All-cons, All-head, All-tail}
use Rattle.pl_model.specs.Numbers.{pipe_buf}
use Rattle.pl_model.specs.Packets.{cut, piece_lengths}
use Rattle.pl_model.specs.PacketLaw.{IsPacketLength, Cuts, ArePackets, IsCutIntoPackets}
use Rattle.pl_model.proofs.packets.Lengths.{sum-cons, piece_lengths-sum, piece_lengths-within, piece_lengths_one, piece_lengths_more}

-- the first length is within the bytes
pub first_within : (l : ℕ) (ls bytes : List ℕ) → sum (l ∷ ls) ≡ length bytes → l ≤ length bytes
first_within l ls bytes whole = omega (arith, whole, sum-cons l ls)

-- the others are the lengths of what is behind
rest_whole : (l : ℕ) (ls bytes : List ℕ) → sum (l ∷ ls) ≡ length bytes → sum ls ≡ length (drop l bytes)
rest_whole l ls bytes whole = omega (arith, whole, sum-cons l ls, length-drop l bytes)

-- bytes behind them, cut at lengths of their own, are cut apart
pub cut-append : (bytes more lengths behind : List ℕ) → sum lengths ≡ length bytes → cut (bytes ++ more) (lengths ++ behind) ≡ cut bytes lengths ++ cut more behind
cut-append bytes more [] behind whole = ap (λ x. cut (x ++ more) behind) (nil_from_length bytes (sym whole))
cut-append bytes more (l ∷ ls) behind whole =
    let within : l ≤ length bytes = first_within l ls bytes whole in
    ap (λ x. x ∷ cut (drop l (bytes ++ more)) (ls ++ behind)) (take-append-le l bytes more within)
    ∙ ap (λ x. take l bytes ∷ cut x (ls ++ behind)) (drop-append-le l bytes more within)
    ∙ ap (λ x. take l bytes ∷ x) (cut-append (drop l bytes) more ls behind (rest_whole l ls bytes whole))

cut-joined : (bytes lengths : List ℕ) → sum lengths ≡ length bytes → concat (cut bytes lengths) ≡ bytes
cut-joined bytes [] whole = sym (nil_from_length bytes (sym whole))
cut-joined bytes (l ∷ ls) whole = ap (λ x. take l bytes ++ x) (cut-joined (drop l bytes) ls (rest_whole l ls bytes whole)) ∙ take-append-drop l bytes

abbrev IsPacket : List ℕ → Type 0
IsPacket packet = IsPacketLength (length packet)

cut-within : (bytes lengths : List ℕ) → sum lengths ≡ length bytes → All IsPacketLength lengths → All IsPacket (cut bytes lengths)
cut-within bytes [] whole all = All-nil IsPacket
cut-within bytes (l ∷ ls) whole all =
    All-cons IsPacket (take l bytes) (cut (drop l bytes) ls)
    (subst IsPacketLength (sym (length-take-le l bytes (first_within l ls bytes whole))) (All-head IsPacketLength l ls all))
    (cut-within (drop l bytes) ls (rest_whole l ls bytes whole) (All-tail IsPacketLength l ls all))

pub are_packets : (bytes lengths : List ℕ) → Cuts lengths (length bytes) → ArePackets (cut bytes lengths) bytes
are_packets bytes lengths c = record { joined = cut-joined bytes lengths c.whole; each = cut-within bytes lengths c.whole c.each }

pub piece_lengths-cuts : (n : ℕ) → Cuts (piece_lengths n) n
piece_lengths-cuts n = record { each = piece_lengths-within n; whole = piece_lengths-sum n }

pub cuts_writes : (bytes : List ℕ) → IsCutIntoPackets bytes
cuts_writes bytes =
    record {
      packets = are_packets bytes (piece_lengths (length bytes)) (piece_lengths-cuts (length bytes));
      one = λ within. ap (cut bytes) (piece_lengths_one (length bytes) within.0 within.1) ∙ ap (λ x. x ∷ []) (take_all (length bytes) bytes (omega arith));
      longer = λ over.
          ap (cut bytes) (piece_lengths_more (length bytes) (omega (arith, over)))
          ∙ ap (λ n. take pipe_buf bytes ∷ cut (drop pipe_buf bytes) (piece_lengths n)) (sym (length-drop pipe_buf bytes));
    }
