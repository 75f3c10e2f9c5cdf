use Rattle.std.proofs.Common.{◌≡◌, sym, subst, rules}
use Rattle.pl_desc.specs.TableView.{named_all, IsTable}
use Rattle.pl_desc.proofs.Vacant.{vacant-same}
use Rattle.pl_desc.proofs.table.Table.copy.Goals as goal

pub invariant_of-result : goal.invariant_of-result
invariant_of-result g c =
    let t = c.self.inside in
    let is : c.in_ok-keys.keys.items ≡ t.keys.items = search rules in
    subst (λ keys. IsTable keys t.most t.in_use c.in_ok-free.free) (sym is)
    (record {
      free = vacant-same (named_all t.keys.items) t.free c.self.invariant.free c.in_ok-free.free c.in_ok-free.ensures.same c.in_ok-free.ensures.places;
      counted = c.self.invariant.counted;
      few = c.self.invariant.few;
      within = c.self.invariant.within;
    })
