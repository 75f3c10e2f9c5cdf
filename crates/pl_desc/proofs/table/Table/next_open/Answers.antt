use Rattle.std.proofs.Common.{◌≡◌, ℕ, ◌<◌, ◌≤◌, Some, None, sym, ◌∙◌, ap, subst, length, arith, ⊎_elim}
use Rattle.std.proofs.lemmas.Bool.{cases_lt}
use Rattle.std.proofs.lemmas.List.{get_or_past}
use Rattle.pl_desc.specs.Rows.{at}
use Rattle.pl_desc.specs.TableView.{named_all}
use Rattle.pl_desc.proofs.RowLemmas.{open-is, open-isnt}
use Rattle.pl_desc.proofs.Padding.{at-padded}
use Rattle.pl_desc.proofs.TableLemmas.{key-at, named-other, named-none}
use Rattle.pl_desc.proofs.TableSteps.{length-named}
use Rattle.pl_desc.proofs.table.Table.next_open.Goals as goal

pub returns-then-key : goal.returns-then-key
returns-then-key g c =
    let keys = c.self.inside.keys.items in
    let fd = c.loop-fd.fd in
    let key = c.index-key.result.now in
    let inside : fd < length keys = omega (arith, c.loop-fd-test.true, c.len.ensures) in
    let here : at c.args.self.now.names fd ≡ Some key = subst (λ t. at t.names fd ≡ Some key) c.self.view_is (at-padded c.self.inside.most (named_all keys) fd ∙ key-at keys fd key inside c.index-key.ensures ∙ named-other key c.if-key.true) in
    sym (open-is c.args.self.now.names c.args.least fd key c.loop-fd.invariant.low here c.loop-fd.invariant.none)

pub loop-fd-preserved : goal.loop-fd-preserved
loop-fd-preserved g c =
    let keys = c.self.inside.keys.items in
    let fd = c.loop-fd.fd in
    let key = c.index-key.result.now in
    let inside : fd < length keys = omega (arith, c.loop-fd-test.true, c.len.ensures) in
    let here : at c.args.self.now.names fd ≡ None = subst (λ t. at t.names fd ≡ None) c.self.view_is (at-padded c.self.inside.most (named_all keys) fd ∙ key-at keys fd key inside c.index-key.ensures ∙ named-none key c.if-key.false) in
    record {
      low = omega (arith, c.loop-fd.invariant.low);
      none = λ k low high. ⊎_elim (λ before. c.loop-fd.invariant.none k low before) (λ up. let is : k ≡ fd = omega (arith, up, high) in ap (at c.args.self.now.names) is ∙ here) (cases_lt k fd);
    }

pub returns : goal.returns
returns g c =
    let keys = c.self.inside.keys.items in
    let past : (k : ℕ) → length keys ≤ k → at c.args.self.now.names k ≡ None =
    λ k l. subst (λ t. at t.names k ≡ None) c.self.view_is (at-padded c.self.inside.most (named_all keys) k ∙ get_or_past (named_all keys) k None (omega (arith, l, length-named keys))) in
    sym (open-isnt c.args.self.now.names c.args.least (λ k low high. ⊎_elim (λ before. c.loop-fd.invariant.none k low (omega (arith, before, c.len.ensures, c.loop-fd-test.false))) (past k) (cases_lt k (length keys))))
