use Rattle.std.proofs.Common.{◌≡◌, ◌-◌, ◌<◌, None, ap, ◌∙◌, length, arith, ⊎_elim, get_or}
use Rattle.std.proofs.lemmas.Bool.{cases_lt}
use Rattle.std.proofs.lemmas.List.{get_or-map}
use Rattle.pl_desc.specs.Rows.{at}
use Rattle.pl_desc.specs.TableView.{named, named_all}
use Rattle.pl_desc.proofs.TableLemmas.{named-none}
use Rattle.pl_desc.proofs.rows.used.Goals as goal

pub loop-used-preserved : goal.loop-used-preserved
loop-used-preserved c =
    let keys = c.args.keys.now in
    let row = c.loop-used.used - 1 in
    let inside : row < length keys = omega (arith, c.loop-used.invariant.few, c.loop-used-test.true) in
    let here : at (named_all keys) row ≡ None = get_or-map named keys row 0 None inside ∙ named-none (get_or keys row 0) c.if-keys-used.true in
    record {
      few = omega (arith, c.loop-used.invariant.few);
      free = λ k l. ⊎_elim (λ before. let is : k ≡ row = omega (arith, before, l) in ap (at (named_all keys)) is ∙ here) (c.loop-used.invariant.free k) (cases_lt k c.loop-used.used);
    }
