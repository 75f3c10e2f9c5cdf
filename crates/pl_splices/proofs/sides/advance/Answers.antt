use Rattle.std.proofs.Common.{◌≡◌, false, sym, ◌∙◌, ap}
use Rattle.std.specs.Prelude.{is_some, not, if◌then◌else◌}
use Rattle.pl_model.specs.Map.{change_at}
use Rattle.pl_desc.specs.Rows.{at}
use Rattle.pl_desc.specs.Descs.{Opened}
use Rattle.pl_splices.proofs.sides.advance.Goals as goal

pub returns-then-is_none-clause-opened : goal.returns-then-is_none-clause-opened
returns-then-is_none-clause-opened g c =
    let none : is_some c.args.side.given ≡ false = c.is_none.ensures ∙ ap not c.if-is_none.true in
    c.set_offset.ensures.opened
    ∙ sym (ap (λ b. if b then at c.args.descs.now.opened else change_at c.args.side.key (λ (x : Opened). record x { offset = c.args.offset }) (at c.args.descs.now.opened)) none)
