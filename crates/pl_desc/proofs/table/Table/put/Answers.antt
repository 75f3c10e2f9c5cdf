use Rattle.std.proofs.Common.{◌<◌, ◌+◌, ◌∙◌, ap, sym, subst, Some}
use Rattle.std.specs.Prelude.{slice_set, length}
use Rattle.pl_desc.specs.Rows.{at, Tabled}
use Rattle.pl_desc.specs.TableView.{named_all, padded}
use Rattle.pl_desc.proofs.OpenCounts.{opened}
use Rattle.std.proofs.lemmas.List.{length-set}
use Rattle.pl_desc.proofs.TableLemmas.{named-key}
use Rattle.pl_desc.proofs.TableSteps.{place, table-put, names-put}
use Rattle.pl_desc.proofs.table.Table.put.Goals as goal

pub invariant_of-self : goal.invariant_of-self
invariant_of-self g c =
    let t = c.self.inside in
    let row : c.args.fd < length t.keys.items = subst (λ t. c.args.fd < t.rows) (sym c.self.view_is) c.requires.row in
    let free = ap (λ t. at t.names c.args.fd) c.self.view_is ∙ c.requires.free in
    let is = named-key c.args.key c.requires.key in
    let count = opened (padded t.most (named_all t.keys.items)) c.args.fd (place t.keys.items t.most t.free c.self.invariant c.args.fd c.args.key (Some c.args.key) is row) c.args.key free in
    table-put t.keys.items t.most t.free c.self.invariant c.args.fd c.args.key (Some c.args.key) is row
    (t.in_use + 1) (ap (λ n. n + 1) c.self.invariant.counted ∙ sym count) c.remove.new.self c.remove.ensures.value c.remove.ensures.places

pub returns : goal.returns
returns g c =
    let t = c.self.inside in
    let row : c.args.fd < length t.keys.items = subst (λ t. c.args.fd < t.rows) (sym c.self.view_is) c.requires.row in
    let put : Tabled → Tabled = λ t. record t { names = slice_set t.names c.args.fd (Some c.args.key) } in
    (λ i. record {
      names = names-put t.keys.items t.most t.free c.self.invariant c.args.fd c.args.key (Some c.args.key) (named-key c.args.key c.requires.key) row i;
      rows = length-set t.keys.items c.args.fd c.args.key i;
    })
    ∙ ap put c.self.view_is
