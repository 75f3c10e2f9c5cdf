use Rattle.std.proofs.Common.{◌≡◌, true, ◌∷◌, sym, ap, ◌∙◌, rules, tests, w32, SFits}
use Rattle.std.specs.Prelude.{codes}
use Rattle.std.specs.Str.{bytes_eq}
use Rattle.std.proofs.lemmas.Int.{to_z-of_z}
use Rattle.pl_model.specs.Words.{words, without_return}
use Rattle.pl_lines.proofs.Repeating.{writes_so_many}
use Rattle.pl_lines.proofs.parse.repeated_write.Goals as goal

pub returns-clause-said : goal.returns-clause-said
returns-clause-said g c =
    let fits : SFits w32 c.in-Ok.fd = search rules in
    let is : bytes_eq c.in_ok-name.name.now (codes "write") ≡ true = search (rules, tests) in
    let words_are : words (without_return c.args.bytes.now) ≡ c.in_ok-pid.pid.now ∷ (c.in_ok-name.name.now ∷ words c.in_ok-name.rest.now) =
    ap words (sym c.without_return-line.ensures) ∙ c.in_ok-pid.ensures ∙ ap (λ ws. c.in_ok-pid.pid.now ∷ ws) c.in_ok-name.ensures in
    rw (to_z-of_z w32 c.in-Ok.fd fits)
    (writes_so_many _ c.args.version c.args.bytes.now c.in_ok-pid.pid.now c.in_ok-name.name.now (words c.in_ok-name.rest.now) c.in-Ok-parse_u32.pid c.in-Ok.fd c.in-Ok.written.now c.in_ok-count.count words_are c.in-Ok-parse_u32.ensures is c.in-Ok.ensures c.in_ok-count.ensures)
