use Rattle.std.proofs.Common.{rules}
use Rattle.std.proofs.lemmas.Fn.{always_returns_same}
use Rattle.pl_numbered.proofs.Searched.{searched}
use Rattle.pl_numbered.proofs.entries.place_of.Goals as goal

-- the closure gives an entry's number
pub returns : goal.returns
returns g c =
    let facts = c.binary_search_by_key.ensures in
    let by_number = facts.position (λ e. e.0) (always_returns_same _ _ _ (λ a r f' k. search rules)) in
    rw c.ok.ensures.value (record {
      here = λ next rise. (searched c.args.number next c.args.entries.now rise _ facts.bound by_number).0;
      none = λ next rise. (searched c.args.number next c.args.entries.now rise _ facts.bound by_number).1;
    })
