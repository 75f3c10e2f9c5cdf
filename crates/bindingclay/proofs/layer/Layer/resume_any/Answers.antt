use Rattle.std.proofs.Common.{ap, refl, ◌∙◌, arith}
use Rattle.pl_model.specs.declared.calls.Step.TheVariants.{Resume}
use Rattle.pl_numbers.specs.Answers.{plain}
use Rattle.bindingclay.proofs.Moving.{too_short}
use Rattle.bindingclay.proofs.layer.Layer.resume_any.Goals as goal

pub returns-then-entries-gt0-clause-tries : goal.returns-then-entries-gt0-clause-tries
returns-then-entries-gt0-clause-tries c =
    let some = c.if-entries-gt0.true in
    let told = c.ready_entries-entries.ensures in
    record {
      polls = λ ready. (c.of_kind.ensures ∙ ap (λ n. plain n 7) told, refl, refl);
      others = λ none. absurd (omega (arith, some, told, none));
    }

pub returns-then-entries-gt0-clause-moved : goal.returns-then-entries-gt0-clause-moved
returns-then-entries-gt0-clause-moved c = too_short c.args.self.now.kernel (Resume c.args.number) c.of_kind.result _ c.of_kind.ensures

pub returns-clause-tries : goal.returns-clause-tries
returns-clause-tries c =
    let few = c.if-entries-gt0.false in
    let told = c.ready_entries-entries.ensures in
    record {
      polls = λ ready. absurd (omega (arith, few, told, ready));
      others = λ none. (c.gather.ensures.made, c.gather.ensures.bytes);
    }
