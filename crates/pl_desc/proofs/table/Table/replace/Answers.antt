use Rattle.std.proofs.Common.{◌≡◌, ◌<◌, ◌∙◌, ap, sym, subst, Some, length, rules}
use Rattle.std.specs.Prelude.{slice_set, IsSome}
use Rattle.std.proofs.lemmas.List.{length-set}
use Rattle.std.proofs.lemmas.Bool.{false≢true}
use Rattle.pl_desc.specs.Rows.{at, Tabled}
use Rattle.pl_desc.specs.TableView.{named, named_all, padded}
use Rattle.pl_desc.proofs.TableLemmas.{named-key, key-at, named-other, named-none}
use Rattle.pl_desc.proofs.Padding.{at-padded}
use Rattle.pl_desc.proofs.TableSteps.{has-row, table-replaced, names-put}
use Rattle.pl_desc.proofs.table.Table.replace.Goals as goal

pub index-named-requires : goal.index-named-requires
index-named-requires g c =
    let t = c.self.inside in
    let row : c.args.fd < length t.keys.items = has-row t.keys.items t.most t.free c.self.invariant c.args.fd (subst (λ t. IsSome (at t.names c.args.fd)) (sym c.self.view_is) c.requires.open) in
    search rules

pub index_mut-requires : goal.index_mut-requires
index_mut-requires g c =
    let t = c.self.inside in
    let row : c.args.fd < length t.keys.items = has-row t.keys.items t.most t.free c.self.invariant c.args.fd (subst (λ t. IsSome (at t.names c.args.fd)) (sym c.self.view_is) c.requires.open) in
    search rules

pub invariant_of-self : goal.invariant_of-self
invariant_of-self g c =
    let t = c.self.inside in
    let is-open = subst (λ t. IsSome (at t.names c.args.fd)) (sym c.self.view_is) c.requires.open in
    table-replaced t.keys.items t.most t.free c.self.invariant c.args.fd c.args.key (Some c.args.key) (named-key c.args.key c.requires.key)
    (has-row t.keys.items t.most t.free c.self.invariant c.args.fd is-open) (λ e. absurd (cc)) is-open

pub returns-clause-named : goal.returns-clause-named
returns-clause-named g c =
    let t = c.self.inside in
    let keys = t.keys.items in
    let key = c.index-named.result.now in
    let is-open = subst (λ t. IsSome (at t.names c.args.fd)) (sym c.self.view_is) c.requires.open in
    let row = has-row keys t.most t.free c.self.invariant c.args.fd is-open in
    let here : at (padded t.most (named_all keys)) c.args.fd ≡ named key = at-padded t.most (named_all keys) c.args.fd ∙ key-at keys c.args.fd key row c.index-named.ensures in
    ap (λ t. at t.names c.args.fd) (sym c.self.view_is) ∙ here ∙ named-other key (λ e. false≢true (subst (λ o. IsSome o) (here ∙ named-none key e) is-open))

pub returns-clause-names : goal.returns-clause-names
returns-clause-names g c =
    let t = c.self.inside in
    let row = has-row t.keys.items t.most t.free c.self.invariant c.args.fd (subst (λ t. IsSome (at t.names c.args.fd)) (sym c.self.view_is) c.requires.open) in
    let put : Tabled → Tabled = λ t. record t { names = slice_set t.names c.args.fd (Some c.args.key) } in
    (λ i. record {
      names = names-put t.keys.items t.most t.free c.self.invariant c.args.fd c.args.key (Some c.args.key) (named-key c.args.key c.requires.key) row i;
      rows = length-set t.keys.items c.args.fd c.args.key i;
    })
    ∙ ap put c.self.view_is
