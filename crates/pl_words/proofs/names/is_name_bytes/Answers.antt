use Rattle.std.proofs.Common.{◌≡◌, ◌<◌, length, is_some, sym, ap, ◌∙◌, rules, tests}
use Rattle.pl_words.proofs.NameLemmas.{name_bytes-nil, is_name_more, is_no_name}
use Rattle.pl_words.proofs.names.is_name_bytes.Goals as goal

pub loop-rest-preserved : goal.loop-rest-preserved
loop-rest-preserved c =
    let some : 0 < length c.loop-rest.rest.now = search (rules, tests) in
    c.loop-rest.invariant ∙ is_name_more c.loop-rest.rest.now c.in-Ok.behind.now _ some c.in-Ok.ensures

pub returns-in-Err : goal.returns-in-Err
returns-in-Err c =
    let some : 0 < length c.loop-rest.rest.now = search (rules, tests) in
    sym (c.loop-rest.invariant ∙ is_no_name c.loop-rest.rest.now c.in-Err.field-0 some c.in-Err.ensures)

pub returns : goal.returns
returns c =
    let empty : length c.loop-rest.rest.now ≡ 0 = search (rules, tests) in
    sym (c.loop-rest.invariant ∙ ap is_some (name_bytes-nil c.loop-rest.rest.now empty))
