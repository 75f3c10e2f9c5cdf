use Rattle.pl_lines.proofs.text.push_number.Goals as goal

pub returns : goal.returns
returns g c = rw (← c.format.ensures.text) c.push_two.ensures
