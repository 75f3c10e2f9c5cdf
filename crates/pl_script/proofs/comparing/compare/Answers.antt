use Rattle.std.proofs.Common.{◌≡◌, ◌<◌, false, inl, inr, sym, ◌∙◌, arith}
use Rattle.std.specs.Str.{bytes_eq}
use Rattle.pl_script.proofs.ToldTexts.{tallies_same, tallies_told, tallies_later}
use Rattle.pl_script.proofs.comparing.compare.Goals as goal
use Rattle.pl_script.proofs.comparing.compare.Goals.{then-all+in_ok-push_difference, then-all-via-then-all, then-all-via-else-all+then-checked-eq0, else-all+else-checked-eq0}

pub returns-then-eq-clause-done : goal.returns-then-eq-clause-done
returns-then-eq-clause-done g c = tallies_same c.args.all _ c.args.out.now.items c.args.checked.now (sym c.eq.ensures ∙ c.if-eq.true)

pub returns-clause-done : goal.returns-clause-done
returns-clause-done g c =
    let other : bytes_eq c.args.expects.now c.args.answered.now ≡ false = sym c.eq.ensures ∙ c.if-eq.false in
    elim c.if-all.branch [
      | then-all+in_ok-push_difference w ↦
          tallies_told c.args.all _ c.args.out.now.items c.if-all.out.items c.args.checked.now other
          (elim w.then-all.branch [
            | then-all-via-then-all w' ↦ inl w'.if-all.true
            | then-all-via-else-all+then-checked-eq0 w' ↦ inr w'.if-checked-eq0.true
          ])
          (rw w.out-is w.in_ok-push_difference.ensures.done)
      | else-all+else-checked-eq0 w ↦
          let some : 0 < c.args.checked.now.different = omega arith in
          rw w.out-is (tallies_later c.args.all _ c.args.out.now.items c.args.checked.now other w.if-all.false some)
    ]
