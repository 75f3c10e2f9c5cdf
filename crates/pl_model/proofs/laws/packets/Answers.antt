use Rattle.pl_model.proofs.packets.Staying.{step-cuts, run-cuts}
use Rattle.pl_model.proofs.packets.Lists.{holds_packets, has_none_to_read, reads_the_first, answers_the_first, writes_its_packets}
use Rattle.pl_model.proofs.packets.Cutting.{cuts_writes}
use Rattle.pl_model.proofs.laws.packets.Goals as goal

pub returns-clause-opening : goal.returns-clause-opening
returns-clause-opening g c = λ limits p. tt

pub returns-clause-step : goal.returns-clause-step
returns-clause-step g c = step-cuts

pub returns-clause-run : goal.returns-clause-run
returns-clause-run g c = run-cuts

pub returns-clause-holding : goal.returns-clause-holding
returns-clause-holding g c = holds_packets

pub returns-clause-nothing_to_read : goal.returns-clause-nothing_to_read
returns-clause-nothing_to_read g c = has_none_to_read

pub returns-clause-reading : goal.returns-clause-reading
returns-clause-reading g c = reads_the_first

pub returns-clause-answering : goal.returns-clause-answering
returns-clause-answering g c = answers_the_first

pub returns-clause-writing : goal.returns-clause-writing
returns-clause-writing g c = writes_its_packets

pub returns-clause-cutting : goal.returns-clause-cutting
returns-clause-cutting g c = cuts_writes
