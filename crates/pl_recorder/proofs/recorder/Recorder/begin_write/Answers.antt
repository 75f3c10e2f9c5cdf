use Rattle.std.proofs.Common.{ap, subst, string_bytes}
use Rattle.std.specs.Prelude.{is_some}
use Rattle.std.specs.String.Boundary.{IsSplitPoint}
use Rattle.pl_recorder.proofs.Entries.{begins}
use Rattle.pl_recorder.proofs.recorder.Recorder.begin_write.Goals as goal

pub invariant_of-self-2 : goal.invariant_of-self-2
invariant_of-self-2 g c =
    let settled = c.in_ok-start.ensures.settled in
    let added = c.in_ok-push_write.ensures.done in
    let split = begins _ _ (string_bytes c.push_write.new.text) c.in_ok-start.start added settled.whole (rw c.as_str.ensures.value at c.as_str.utf8) (rw c.as_str-2.ensures.value at c.as_str-2.utf8) in
    record {
      kept =
          record {
            within = c.settle.new.self.kept.within;
            begun = λ start e. (subst (IsSplitPoint (string_bytes c.push_write.new.text)) (let given = e in cc) split, ap is_some settled.told);
          };
    }
