use Rattle.bindingclay.proofs.Named.{opens_named, splices_named, polls_named}
use Rattle.pl_model.specs.Said.{is_sayable}
use Rattle.bindingclay.proofs.laws.sayable_steps.Goals as goal

pub returns : goal.returns
unfolding is_sayable
returns c =
    record {
      opens = λ pid bits name mode. opens_named bits;
      sets = λ pid bits fd. opens_named bits;
      splices = λ pid bits len from to from_offset to_offset. splices_named bits;
      tees = λ pid bits len from to. splices_named bits;
      polls = λ pid entries wait. polls_named entries;
    }
