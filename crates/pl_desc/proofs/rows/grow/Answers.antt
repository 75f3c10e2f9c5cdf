use Rattle.std.proofs.Common.{◌≡◌, None, [], ◌∷◌, ◌++◌, sym, ◌∙◌, ap, subst, length, arith, nat_eq}
use Rattle.std.specs.Prelude.{if◌then◌else◌, true}
use Rattle.pl_masks.specs.Masks.{has}
use Rattle.pl_desc.specs.Rows.{at}
use Rattle.pl_desc.specs.TableView.{named_all}
use Rattle.pl_desc.specs.Vacant.{AreVacant}
use Rattle.pl_desc.proofs.TableLemmas.{named-push, at-push}
use Rattle.pl_desc.proofs.TableSteps.{length-named}
use Rattle.pl_desc.proofs.Vacant.{vacant-more}
use Rattle.pl_desc.proofs.rows.grow.Goals as goal

pub loop-row-preserved : goal.loop-row-preserved
loop-row-preserved g c =
    let keys = c.loop-row.keys.items in
    let so_far = c.loop-row.invariant in
    let is : named_all c.push_reserved.new.self.items ≡ named_all keys ++ None ∷ [] = ap named_all c.push_reserved.ensures.items ∙ named-push keys in
    let long : length (named_all keys) ≡ c.loop-row.row = length-named keys ∙ so_far.len in
    record {
      len = omega (arith, length-named c.push_reserved.new.self.items, c.push_reserved.ensures.len, so_far.len);
      places = λ k l. c.insert.ensures.places k (so_far.places k l);
      same = λ k. ap (λ names. at names k) is ∙ at-push (named_all keys) k ∙ so_far.same k;
      vacant = subst (λ names. AreVacant names c.insert.new.self) (sym is)
          (vacant-more (named_all keys) c.loop-row.free so_far.vacant c.insert.new.self
          (λ n. c.insert.ensures.value n ∙ ap (λ row. if nat_eq n row then true else has c.loop-row.free n) (sym long))
          (λ n l. c.insert.ensures.places n (so_far.places n (omega (arith, l, long, c.loop-row-test.true)))));
    }
