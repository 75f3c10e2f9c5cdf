use Rattle.std.proofs.Common.{◌≡◌, ℕ, List, length, sym, subst, ◌∙◌, ap, arith, slice_index_or}
use Rattle.std.proofs.lemmas.List.{get_or_default}
use Rattle.pl_least.specs.None.{none}
use Rattle.pl_least.specs.Tournament.{entry}
use Rattle.pl_least.proofs.Firsts.{IsLeast, all_none, here, no_lesser}
use Rattle.pl_least.proofs.least.Least.first.Given.{Over}
use Rattle.pl_least.proofs.least.Least.first.Goals.{After-least_of-least}
use Rattle.pl_least.proofs.least.Least.first.Goals as goal

-- what is known of the least entry, of the row as it stands
module _ (g : Over) (c : After-least_of-least g) where
  is_least : IsLeast c.args.self.now.entries.items c.args.self.now.places c.least_of-least.result
  is_least = subst (λ (entries : List ℕ). IsLeast entries c.args.self.now.places c.least_of-least.result) c.as_slice-entries.ensures.value (record {
    halves = ap length c.as_slice-entries.ensures.value ∙ c.args.self.now.kept.halves;
    second = c.least_of-least.ensures.second;
    least_of = c.least_of-least.ensures.least;
    most = c.least_of-least.ensures.most;
  })

  -- what the code reads
  read : slice_index_or c.as_slice-entries.result.now c.least_of-least.result 0 ≡ entry c.args.self.now.entries.items c.least_of-least.result
  read =
      let e = c.least_of-least.ensures in
      let halves = c.args.self.now.kept.halves in
      ap (λ (entries : List ℕ). slice_index_or entries c.least_of-least.result 0) c.as_slice-entries.ensures.value
      ∙ get_or_default c.args.self.now.entries.items c.least_of-least.result 0 none (let within = e.within in omega (arith, within, halves))

pub returns-then-entries-least-clause-none : goal.returns-then-entries-least-clause-none
returns-then-entries-least-clause-none g c = λ place.
    let a = (goal.at.returns-then-entries-least-clause-none g c).After-least_of-least in
    all_none c.args.self.now.entries.items c.args.self.now.places c.least_of-least.result (is_least g a) (sym (read g a) ∙ c.if-entries-least.true) place

pub returns-clause-some : goal.returns-clause-some
returns-clause-some g c =
    let a = (goal.at.returns-clause-some g c).After-least_of-least in
    let e = c.least_of-least.ensures in
    record {
      there = omega (arith, e.second, e.within);
      number = entry c.args.self.now.entries.items c.least_of-least.result;
      here = here c.args.self.now.entries.items c.args.self.now.places c.least_of-least.result (is_least g a) (λ e. c.if-entries-least.false (read g a ∙ e));
      least = no_lesser c.args.self.now.entries.items c.args.self.now.places c.least_of-least.result (is_least g a);
    }
