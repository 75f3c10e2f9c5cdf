use Rattle.std.proofs.Common.{◌≡◌, take}
use Rattle.std.specs.Prelude.{position}
use Rattle.pl_model.specs.Words.{is_star}
use Rattle.pl_words.proofs.Stars.{star_within, star_found, star_nowhere}
use Rattle.pl_words.proofs.bytes.star_of.Goals as goal

searched : (c : goal.After-place_of) → c.place_of.result ≡ position is_star (take c.min.result c.args.piece.now)
searched c = rw c.split_at.ensures.front at c.place_of.ensures.place

pub returns-clause-within : goal.returns-clause-within
returns-clause-within c = star_within c.args.piece.now c.min.result c.min.ensures c.place_of.result (searched c)

pub returns-clause-found : goal.returns-clause-found
returns-clause-found c = star_found c.args.piece.now c.min.result c.min.ensures c.place_of.result (searched c)

pub returns-clause-none : goal.returns-clause-none
returns-clause-none c = star_nowhere c.args.piece.now c.min.result c.min.ensures c.place_of.result (searched c)
