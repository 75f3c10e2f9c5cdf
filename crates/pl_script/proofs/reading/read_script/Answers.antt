use Rattle.std.proofs.Common.{◌≡◌, ◌+◌, ◌≤◌, length, arith, rules}
use Rattle.std.proofs.lemmas.Grind.{common_steps}
use Rattle.pl_model.specs.Numbers.{most_script_bytes}
use Rattle.pl_script.proofs.reading.read_script.Goals as goal

pub loop-i-preserved : goal.loop-i-preserved
loop-i-preserved g c =
    let grown : length c.extend_from_slice.new.self.items ≡ length c.loop-i.script.items + c.in-Ok.count = search rules in
    let short : length c.extend_from_slice.new.self.items ≤ most_script_bytes = omega (arith, grown, c.if-grown-gt-MAX_SCRIPT_BYTES.false) in
    record {
      each = omega (arith, grown, c.loop-i.invariant.each, c.if-count-eq0.false);
      short = short;
      chunk = search rules;
      taken = grind (arith, common_steps);
      spent = omega (arith, c.loop-i.invariant.spent, c.in-Ok.ensures.spends);
      kept = search rules;
    }
