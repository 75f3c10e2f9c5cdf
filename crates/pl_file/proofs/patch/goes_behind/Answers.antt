use Rattle.std.proofs.Common.{◌≡◌, ◌-◌, ◌+◌, ◌∙◌, false, Some, ap, sym, nat_eq, length, take, slice_get}
use Rattle.std.specs.Prelude.{if◌then◌else◌}
use Rattle.std.proofs.lemmas.Bool.{eq-eqb, ne_eqb}
use Rattle.pl_file.specs.Joined.{goes_on, goes_behind}
use Rattle.pl_file.proofs.Chunking.{last-slot}
use Rattle.pl_file.proofs.Joining.{goes-last}
use Rattle.pl_file.proofs.patch.goes_behind.Given.{Over}
use Rattle.pl_file.proofs.patch.goes_behind.Goals.{After-get-last}
use Rattle.pl_file.proofs.patch.goes_behind.Goals as goal

module _ (g : Over) (c : After-get-last g) where
  last : goes_behind c.args.patch.now.slots c.args.part ≡ goes_on c.get-last.result c.args.part
  last =
      let xs = c.args.patch.now.slots in
      let x = c.get-last.result in
      let got : slice_get xs (length xs - 1) ≡ Some x = ap (λ n. slice_get xs (n - 1)) (sym c.len-2.ensures.value) ∙ c.get-last.ensures in
      ap (λ ys. goes_behind ys c.args.part) (last-slot xs x got) ∙ goes-last (take (length xs - 1) xs) x c.args.part

pub returns-then-last-part : goal.returns-then-last-part
returns-then-last-part g c =
    let x = c.get-last.result in
    let y = c.args.part in
    sym (last g (goal.at.returns-then-last-part g c).After-get-last ∙ ap (λ b. if b then nat_eq (x.from + x.len) y.from else false) (ne_eqb x.segment y.segment c.if-last-part.true))

pub returns : goal.returns
returns g c =
    let x = c.get-last.result in
    let y = c.args.part in
    sym (last g (goal.at.returns g c).After-get-last ∙ ap (λ b. if b then nat_eq (x.from + x.len) y.from else false) (eq-eqb x.segment y.segment c.if-last-part.false))
