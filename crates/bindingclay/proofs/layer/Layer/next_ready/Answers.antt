use Rattle.bindingclay.proofs.layer.Layer.next_ready.Goals as goal

pub returns-clause-tells : goal.returns-clause-tells
returns-clause-tells c = (c.next_ready.result, c.answer_of_call.ensures, c.next_ready.ensures.told)
