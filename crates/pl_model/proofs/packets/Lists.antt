-- A packet pipe is a list of packets.
use Rattle.std.proofs.Common.{◌≡◌, ℕ, ◌<◌, false, cond, not, List, [], ◌∷◌, ◌++◌, length, take, drop, refl, sym, ap, ◌∙◌, subst, arith, Option, unwrap_or, option_map}
use Rattle.std.specs.Prelude.{All, IfSome, ◌↔◌, is_none, nat_lt, min}
use Rattle.std.specs.declared.option.Option.TheVariants.{None, Some}
use Rattle.std.proofs.lemmas.Bool.{lt-ltb}
use Rattle.std.proofs.lemmas.List.{take-take, length-take-le, take_min}
use Rattle.std.proofs.lemmas.List.Elements.{All-head}
use Rattle.pl_model.specs.declared.cases.ReadCase.{ReadCase}
use Rattle.pl_model.specs.declared.replies.Reply.TheVariants.{Bytes}
use Rattle.pl_model.specs.State.{Core, Pipe}
use Rattle.pl_model.specs.Packets.{front, front_of, spent, spent_of, cut, piece_lengths}
use Rattle.pl_model.specs.Live.{writers}
use Rattle.pl_model.specs.Trial.{Done, loses}
use Rattle.pl_model.specs.Transfer.{read_row, read_pipe}
use Rattle.pl_model.specs.Numbered.{numbers}
use Rattle.pl_model.specs.PacketLaw.{IsPacketLength, Cuts, ArePackets, IsPacketPipe, packets_of, pieces_of, HoldsPackets, HasNoneToRead, TakesTheFirst, ReadsTheFirst, AnswersTheFirst, WritesItsPackets}
use Rattle.pl_model.proofs.packets.Lengths.{without_first}
use Rattle.pl_model.proofs.packets.Cutting.{first_within, cut-append, are_packets}

pub holds_packets : HoldsPackets
holds_packets pipe is = at pipe.packets is.kind is.cut where
  at : (o : Option (List ℕ)) → is_none o ≡ false → IfSome o (λ lengths. Cuts lengths (length pipe.bytes)) → ArePackets (cut pipe.bytes (unwrap_or o [])) pipe.bytes
  at None k c = absurd (cc)
  at (Some ls) k c = are_packets pipe.bytes ls c

pub has_none_to_read : HasNoneToRead
has_none_to_read pipe is = at pipe.packets is.kind is.cut where
  at : (o : Option (List ℕ)) → is_none o ≡ false → IfSome o (λ lengths. Cuts lengths (length pipe.bytes)) →
      (cut pipe.bytes (unwrap_or o []) ≡ []) ↔ (front_of o (length pipe.bytes) ≡ 0)
  at None k c = absurd (cc)
  at (Some []) k c = (λ e. refl, λ e. refl)
  at (Some (l ∷ ls)) k c = (λ e. absurd (cc), λ e. absurd (omega (arith, e, (All-head IsPacketLength l ls c.each).0)))

pub reads_the_first : ReadsTheFirst
reads_the_first pipe first rest is e = at pipe.packets is.kind is.cut e where
  at : (o : Option (List ℕ)) → is_none o ≡ false → IfSome o (λ lengths. Cuts lengths (length pipe.bytes)) →
      cut pipe.bytes (unwrap_or o []) ≡ first ∷ rest → TakesTheFirst (record pipe { packets = o }) first rest
  at None k c e = absurd (cc)
  at (Some []) k c e = absurd (cc)
  at (Some (l ∷ ls)) k c e =
      let one : take l pipe.bytes ≡ first = cc in
      let others : cut (drop l pipe.bytes) ls ≡ rest = cc in
      record {
        most = sym (length-take-le l pipe.bytes (first_within l ls pipe.bytes c.whole)) ∙ ap length one;
        given = λ n within. sym (take-take n l pipe.bytes within) ∙ ap (take n) one;
        taken = λ n. one;
        left = λ n. ap (cut (drop l pipe.bytes)) (without_first l ls c.each) ∙ others;
      }

-- as much goes out as the first packet has
spends_first : (pipe : Pipe) (first : List ℕ) (rest : List (List ℕ)) → IsPacketPipe pipe → packets_of pipe ≡ first ∷ rest → (n : ℕ) → spent pipe n ≡ length first
spends_first pipe first rest is e n = at pipe.packets is.kind is.cut e where
  at : (o : Option (List ℕ)) → is_none o ≡ false → IfSome o (λ lengths. Cuts lengths (length pipe.bytes)) → cut pipe.bytes (unwrap_or o []) ≡ first ∷ rest → spent_of o n ≡ length first
  at None k c e = absurd (cc)
  at (Some []) k c e = absurd (cc)
  at (Some (l ∷ ls)) k c e =
      let one : take l pipe.bytes ≡ first = cc in
      sym (length-take-le l pipe.bytes (first_within l ls pipe.bytes c.whole)) ∙ ap length one

some_first : (pipe : Pipe) (first : List ℕ) (rest : List (List ℕ)) → IsPacketPipe pipe → packets_of pipe ≡ first ∷ rest → 0 < length first
some_first pipe first rest is e =
    let each : All (λ packet. IsPacketLength (length packet)) (first ∷ rest) = subst (All (λ packet. IsPacketLength (length packet))) e (holds_packets pipe is).each in
    (All-head (λ packet. IsPacketLength (length packet)) first rest each).0

module _ {A : Type 0} (s : Core A numbers) (p : ℕ) (pipe : Pipe) (first : List ℕ) (rest : List (List ℕ)) (n : ℕ) (is : IsPacketPipe pipe) (e : packets_of pipe ≡ first ∷ rest) where
  given_first : take (min n (front pipe)) pipe.bytes ≡ take n first
  given_first =
      let takes : TakesTheFirst pipe first rest = reads_the_first pipe first rest is e in
      takes.given (min n (front pipe)) (omega arith) ∙ ap (λ k. take (min n k) first) takes.most ∙ take_min n first

  -- the row of a read
  gives_first : read_row s p pipe (ReadCase.Gives (min n (front pipe))) ≡ Done s (loses p (length first)) (Bytes (take n first))
  gives_first =
      ap (λ k. Done s (loses p k) (Bytes (take (min n (front pipe)) pipe.bytes))) (spends_first pipe first rest is e (min n (front pipe)))
      ∙ ap (λ b. Done s (loses p (length first)) (Bytes b)) given_first

  chosen : (other : ReadCase) → cond (nat_lt 0 (front pipe)) (ReadCase.Gives (min n (front pipe))) other ≡ ReadCase.Gives (min n (front pipe))
  chosen other =
      let some : 0 < front pipe = omega (arith, some_first pipe first rest is e, (reads_the_first pipe first rest is e).most) in
      ap (λ b. cond b (ReadCase.Gives (min n (front pipe))) other) (lt-ltb 0 (front pipe) some)

pub answers_the_first : {A : Type 0} → AnswersTheFirst A
unfolding read_pipe
answers_the_first s p pipe first rest n is e =
    ap (read_row s p pipe) (chosen s p pipe first rest n is e (cond (not (nat_lt 0 (writers s p))) ReadCase.EndOfFile ReadCase.Waits)) ∙ gives_first s p pipe first rest n is e

pub writes_its_packets : WritesItsPackets
writes_its_packets pipe bytes is = at pipe.packets is.kind is.cut where
  at : (o : Option (List ℕ)) → is_none o ≡ false → IfSome o (λ lengths. Cuts lengths (length pipe.bytes)) →
      cut (pipe.bytes ++ bytes) (unwrap_or (option_map (λ lengths. lengths ++ piece_lengths (length bytes)) o) []) ≡ cut pipe.bytes (unwrap_or o []) ++ pieces_of bytes
  at None k c = absurd (cc)
  at (Some ls) k c = cut-append pipe.bytes bytes ls (piece_lengths (length bytes)) c.whole
