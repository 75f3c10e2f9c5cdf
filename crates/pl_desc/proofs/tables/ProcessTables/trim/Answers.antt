use Rattle.std.proofs.Common.{◌≡◌, ◌+◌, ◌-◌, List, Option, None, [], ◌∷◌, ◌++◌, ap, ◌∙◌, sym, length, arith, nat_eq, refl, Some}
use Rattle.std.proofs.lemmas.List.{get_or_default}
use Rattle.std.proofs.lemmas.Bool.{false≢true}
use Rattle.std.specs.Prelude.{if◌then◌else◌, false, is_some}
use Rattle.pl_masks.specs.Masks.{has}
use Rattle.pl_desc.specs.Rows.{at, Tabled, table_of, naming}
use Rattle.pl_desc.specs.TablesView.{tables_in}
use Rattle.pl_desc.proofs.Vacant.{at-push, vacant-fewer}
use Rattle.pl_desc.proofs.RowLemmas.{table-push, naming-push}
use Rattle.pl_desc.proofs.Processes.{cut-last, tables-push}
use Rattle.pl_desc.proofs.tables.ProcessTables.trim.Goals as goal

is_none_of : {V : Type 0} (o : Option V) → is_some o ≡ false → o ≡ None
is_none_of None h = refl
is_none_of (Some x) h = absurd (false≢true (sym h))

pub loop-kept-preserved : goal.loop-kept-preserved
loop-kept-preserved g c =
    let list = c.loop-kept.self-inside.list.items in
    let less : List (Option Tabled) = c.truncate.new.self.items in
    let so_far = c.loop-kept.invariant in
    let row = c.loop-kept.kept - 1 in
    let long : length list ≡ row + 1 = omega (arith, so_far.all, c.loop-kept-test.true) in
    let left : length less ≡ row = omega (arith, c.truncate.ensures.len, long) in
    let here : at list row ≡ None = sym (get_or_default list row c.index.result.now None (omega (arith, long))) ∙ sym c.index.ensures ∙ is_none_of c.index.result.now c.if-is_none.ensures in
    let cut : list ≡ less ++ None ∷ [] = cut-last list row long here ∙ ap (λ xs. xs ++ None ∷ []) (sym c.truncate.ensures.items) in
    let tables : tables_in list ≡ tables_in less ++ None ∷ [] = ap tables_in cut ∙ tables-push less in
    record {
      all = sym left;
      fewer = omega (arith, left, long, so_far.fewer);
      tables = sym (ap table_of tables ∙ table-push (tables_in less)) ∙ so_far.tables;
      names = sym (ap naming tables ∙ naming-push (tables_in less)) ∙ so_far.names;
      vacant = vacant-fewer list c.loop-kept.self-inside.vacant so_far.vacant less c.remove.new.self
          (omega (arith, long, left)) (λ k. sym (ap (λ xs. at xs k) cut ∙ at-push less k))
          (λ n. c.remove.ensures.value n ∙ ap (λ row. if nat_eq n row then false else has c.loop-kept.self-inside.vacant n) (sym left))
          c.remove.ensures.places;
    }
