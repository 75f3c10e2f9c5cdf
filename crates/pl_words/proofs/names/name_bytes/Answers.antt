use Rattle.std.proofs.Common.{◌≡◌, ◌<◌, [], ◌∷◌, ◌++◌, length, sym, rules, tests}
use Rattle.std.proofs.lemmas.Result.{err_from_is_err_and}
use Rattle.pl_words.proofs.NameLemmas.{name_more, name_done, name_fails, name_wants, name_none}
use Rattle.pl_words.proofs.names.name_bytes.Goals as goal
use Rattle.pl_words.proofs.names.name_bytes.Goals.{then-is_name_bytes, else-is_name_bytes}

pub returns-in_err-byte : goal.returns-in_err-byte
returns-in_err-byte g c =
    let p = err_from_is_err_and c.from_residual.result c.from_residual.ensures.1 in
    let some : 0 < length c.loop-rest.rest.now = search (rules, tests) in
    rw (p.1, p.2) (name_fails c.args.word.now c.loop-rest.bytes.items c.loop-rest.rest.now c.loop-rest.invariant c.in_err-byte.field-0.0 some c.in_err-byte.ensures)

pub returns-then-is_err : goal.returns-then-is_err
returns-then-is_err g c =
    let some : 0 < length c.loop-rest.rest.now = search (rules, tests) in
    let more = name_more c.args.word.now c.loop-rest.bytes.items c.loop-rest.rest.now c.loop-rest.invariant c.in_ok-byte.byte c.in_ok-byte.behind.now some c.in_ok-byte.ensures in
    elim c.if-is_name_bytes.branch [
      | then-is_name_bytes w ↦ rw w.result-is (name_wants c.args.word.now c.loop-rest.bytes.items c.in_ok-byte.behind.now c.in_ok-byte.byte more (sym w.if-is_name_bytes.ensures))
      | else-is_name_bytes w ↦ rw w.result-is (name_none c.args.word.now c.loop-rest.bytes.items c.in_ok-byte.behind.now c.in_ok-byte.byte more (sym w.if-is_name_bytes.ensures))
    ]

pub loop-rest-preserved : goal.loop-rest-preserved
loop-rest-preserved g c =
    let some : 0 < length c.loop-rest.rest.now = search (rules, tests) in
    let pushed : c.push.new.self.items ≡ c.loop-rest.bytes.items ++ c.in_ok-byte.byte ∷ [] = search rules in
    rw pushed (name_more c.args.word.now c.loop-rest.bytes.items c.loop-rest.rest.now c.loop-rest.invariant c.in_ok-byte.byte c.in_ok-byte.behind.now some c.in_ok-byte.ensures)

pub returns : goal.returns
returns g c =
    let empty : length c.loop-rest.rest.now ≡ 0 = search (rules, tests) in
    rw c.from_vec.ensures (name_done c.args.word.now c.loop-rest.bytes.items c.loop-rest.rest.now c.loop-rest.invariant empty)
