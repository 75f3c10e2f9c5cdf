use Rattle.std.proofs.Common.{◌≡◌, List, Option, ◌-◌, ◌∙◌, ap, sym, subst, length, arith, Some, None, ℕ}
use Rattle.std.specs.Prelude.{is_none}
use Rattle.pl_model.specs.Numbers.{first_from}
use Rattle.pl_desc.specs.Rows.{at}
use Rattle.pl_desc.specs.TableView.{named_all, padded}
use Rattle.pl_desc.proofs.First.{first_is, first_none}
use Rattle.pl_desc.proofs.Padding.{at-padded, length-padded}
use Rattle.pl_desc.proofs.TableSteps.{length-named}
use Rattle.pl_desc.proofs.Vacant.{IsFirstFree, free-from}
use Rattle.pl_desc.proofs.table.Table.lowest.Given.{Over}
use Rattle.pl_desc.proofs.table.Table.lowest.Goals.{After-unwrap_or-free}
use Rattle.pl_desc.proofs.table.Table.lowest.Goals as goal

module _ (g : Over) (c : After-unwrap_or-free g) where
  abbrev names : List (Option ℕ)
  names = named_all c.self.inside.keys.items

  first : IsFirstFree names c.args.least c.unwrap_or-free.result
  first = free-from names c.self.inside.free c.self.invariant.free c.args.least c.next.result c.next.ensures.some c.next.ensures.none c.max.result c.unwrap_or-free.result c.unwrap_or-free.ensures
      (omega (arith, c.max.ensures, c.len.ensures, length-named c.self.inside.keys.items))

pub returns-then-free-self : goal.returns-then-free-self
returns-then-free-self g c =
    let a = (goal.at.returns-then-free-self g c).After-unwrap_or-free in
    let t = c.self.inside in
    let names = padded t.most (named_all t.keys.items) in
    let first = first g a in
    let long = length-padded t.most (named_all t.keys.items) (omega (arith, c.self.invariant.few, length-named t.keys.items)) in
    let same : (k : ℕ) → is_none (at names k) ≡ is_none (at (named_all t.keys.items) k) = λ k. ap is_none (at-padded t.most (named_all t.keys.items) k) in
    subst (λ t. Some c.unwrap_or-free.result ≡ first_from (λ fd. is_none (at t.names fd)) (length t.names - c.args.least) c.args.least) c.self.view_is
    (sym (first_is (λ fd. is_none (at names fd)) (length names - c.args.least) c.args.least c.unwrap_or-free.result first.high (omega (arith, first.high, long, c.if-free-self.true)) (same c.unwrap_or-free.result ∙ first.free) (λ k low before. same k ∙ first.taken k low before)))

pub returns-else-free-self : goal.returns-else-free-self
returns-else-free-self g c =
    let a = (goal.at.returns-else-free-self g c).After-unwrap_or-free in
    let t = c.self.inside in
    let names = padded t.most (named_all t.keys.items) in
    let first = first g a in
    let long = length-padded t.most (named_all t.keys.items) (omega (arith, c.self.invariant.few, length-named t.keys.items)) in
    let same : (k : ℕ) → is_none (at names k) ≡ is_none (at (named_all t.keys.items) k) = λ k. ap is_none (at-padded t.most (named_all t.keys.items) k) in
    subst (λ t. None ≡ first_from (λ fd. is_none (at t.names fd)) (length t.names - c.args.least) c.args.least) c.self.view_is
    (sym (first_none (λ fd. is_none (at names fd)) (length names - c.args.least) c.args.least (λ k low before. same k ∙ first.taken k low (omega (arith, before, low, long, c.if-free-self.false)))))
