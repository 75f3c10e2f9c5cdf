use Rattle.std.proofs.Common.{◌≡◌, Some, refl, rules, w32, w64, SFits}
use Rattle.std.proofs.lemmas.Result.{err_from_is_err_and}
use Rattle.std.proofs.lemmas.Int.{to_z-of_z}
use Rattle.pl_model.specs.Words.{◌>>=◌, words, signed, signed_long, whence_of}
use Rattle.pl_model.specs.Lines.{lseek_of}
use Rattle.pl_model.specs.declared.calls.Call.TheVariants.{Lseek}
use Rattle.pl_lines.proofs.CallLemmas.{part_fails, lseek_says}
use Rattle.pl_lines.proofs.calls.lseek_call.Goals as goal
use Rattle.pl_lines.proofs.calls.lseek_call.Goals.{After-parse_i32}
use Rattle.pl_lines.proofs.calls.lseek_call.Given.{Over}

-- what the three words say
module _ (g : Over) (c : After-parse_i32 g) where
  says : lseek_of {A = g.row.A.Denot} (words c.args.rest.now)
      ≡ (signed c.in_ok-fd.fd.now >>= λ f. signed_long c.in_ok-offset.offset.now >>= λ o. whence_of c.in_ok-whence.whence.now >>= λ w. Some (Lseek f o w))
  says = lseek_says {A = g.row.A.Denot} (words c.args.rest.now) _ _ c.in_ok-fd.fd.now c.in_ok-offset.offset.now c.in_ok-whence.whence.now c.in_ok-fd.ensures c.in_ok-offset.ensures c.in_ok-whence.ensures

pub returns-in_err-parse_i32 : goal.returns-in_err-parse_i32
returns-in_err-parse_i32 g c =
    let p = err_from_is_err_and c.from_residual-in_err-parse_i32.result c.from_residual-in_err-parse_i32.ensures.1 in
    rw (p.1, p.2, says g (goal.at.returns-in_err-parse_i32 g c).After-parse_i32) (part_fails _ _ c.in_err-parse_i32.field-0.0 c.in_err-parse_i32.ensures)

pub returns-in_err-parse_i64 : goal.returns-in_err-parse_i64
returns-in_err-parse_i64 g c =
    let p = err_from_is_err_and c.from_residual-in_err-parse_i64.result c.from_residual-in_err-parse_i64.ensures.1 in
    rw (p.1, p.2, says g (goal.at.returns-in_err-parse_i64 g c).After-parse_i32, c.in_ok-parse_i32.ensures) (part_fails _ _ c.in_err-parse_i64.field-0.0 c.in_err-parse_i64.ensures)

pub returns-in_err-parse_whence : goal.returns-in_err-parse_whence
returns-in_err-parse_whence g c =
    let p = err_from_is_err_and c.from_residual-in_err-parse_whence.result c.from_residual-in_err-parse_whence.ensures.1 in
    rw (p.1, p.2, says g (goal.at.returns-in_err-parse_whence g c).After-parse_i32, c.in_ok-parse_i32.ensures, c.in_ok-parse_i64.ensures) (part_fails _ _ c.in_err-parse_whence.field-0.0 c.in_err-parse_whence.ensures)

pub returns : goal.returns
returns g c =
    let fd : SFits w32 c.in_ok-parse_i32.field-0 = search rules in
    let offset : SFits w64 c.in_ok-parse_i64.field-0 = search rules in
    rw (to_z-of_z w32 c.in_ok-parse_i32.field-0 fd, to_z-of_z w64 c.in_ok-parse_i64.field-0 offset, says g (goal.at.returns g c).After-parse_i32, c.in_ok-parse_i32.ensures, c.in_ok-parse_i64.ensures, c.in_ok-parse_whence.ensures) refl
