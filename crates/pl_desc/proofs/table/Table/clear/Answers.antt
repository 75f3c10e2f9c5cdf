use Rattle.std.proofs.Common.{◌<◌, ◌-◌, arith, length, rules, ◌∙◌, ap, sym, subst, refl, None}
use Rattle.std.specs.Prelude.{slice_set, IsSome}
use Rattle.pl_desc.specs.Rows.{at, Tabled, no_key}
use Rattle.pl_desc.specs.TableView.{named_all, padded}
use Rattle.pl_desc.proofs.OpenCounts.{closed}
use Rattle.std.proofs.lemmas.List.{length-set}
use Rattle.pl_desc.proofs.TableLemmas.{named-none}
use Rattle.pl_desc.proofs.TableSteps.{has-row, place, table-put, names-put, length-named}
use Rattle.pl_desc.proofs.table.Table.clear.Goals as goal

pub invariant_of-self : goal.invariant_of-self
invariant_of-self g c =
    let t = c.self.inside in
    let row = has-row t.keys.items t.most t.free c.self.invariant c.args.fd (subst (λ t. IsSome (at t.names c.args.fd)) (sym c.self.view_is) c.requires) in
    let count = closed (padded t.most (named_all t.keys.items)) c.args.fd (place t.keys.items t.most t.free c.self.invariant c.args.fd no_key None (named-none no_key refl) row) (subst (λ t. IsSome (at t.names c.args.fd)) (sym c.self.view_is) c.requires) in
    table-put t.keys.items t.most t.free c.self.invariant c.args.fd no_key None (named-none no_key refl) row
    (t.in_use - 1) (omega (arith, count, c.self.invariant.counted)) c.insert.new.self c.insert.ensures.value c.insert.ensures.places

pub returns : goal.returns
returns g c =
    let t = c.self.inside in
    let row = has-row t.keys.items t.most t.free c.self.invariant c.args.fd (subst (λ t. IsSome (at t.names c.args.fd)) (sym c.self.view_is) c.requires) in
    let put : Tabled → Tabled = λ t. record t { names = slice_set t.names c.args.fd None } in
    (λ i. record {
      names = names-put t.keys.items t.most t.free c.self.invariant c.args.fd no_key None (named-none no_key refl) row i;
      rows = length-set t.keys.items c.args.fd no_key i;
    })
    ∙ ap put c.self.view_is

pub index_mut-requires : goal.index_mut-requires
index_mut-requires g c =
    let t = c.self.inside in
    let row : c.args.fd < length t.keys.items = has-row t.keys.items t.most t.free c.self.invariant c.args.fd (subst (λ t. IsSome (at t.names c.args.fd)) (sym c.self.view_is) c.requires) in
    search rules

pub insert-requires : goal.insert-requires
insert-requires g c =
    let t = c.self.inside in
    let row : c.args.fd < length t.keys.items = has-row t.keys.items t.most t.free c.self.invariant c.args.fd (subst (λ t. IsSome (at t.names c.args.fd)) (sym c.self.view_is) c.requires) in
    c.self.invariant.free.places c.args.fd (omega (arith, row, length-named t.keys.items))
