use Rattle.std.proofs.Common.{refl}
use Rattle.pl_model.proofs.worked.packet_pipes.Goals as goal

pub returns-clause-small_writes_stay_apart : goal.returns-clause-small_writes_stay_apart
returns-clause-small_writes_stay_apart c = (refl, refl)

pub returns-clause-long_write_is_cut : goal.returns-clause-long_write_is_cut
returns-clause-long_write_is_cut c = (refl, refl)

pub returns-clause-read_drops_the_rest : goal.returns-clause-read_drops_the_rest
returns-clause-read_drops_the_rest c = (refl, refl)
