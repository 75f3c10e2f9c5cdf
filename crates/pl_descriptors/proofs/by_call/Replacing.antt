-- An open descriptor comes to name another description.
use Rattle.std.proofs.Common.{◌≡◌, ℕ, ◌+◌, Bool, true, false, cond, Some, IsSome, refl, sym, ◌∙◌, ap, nat_eq, nat_lt, arith}
use Rattle.std.specs.Prelude.{is_some}
use Rattle.std.proofs.lemmas.Bool.{eqb-true}
use Rattle.pl_model.proofs.Counting.{above}
use Rattle.pl_model.specs.Tables.{install}
use Rattle.pl_desc.specs.Rows.{at, is_pid, row_at, with_row, naming, count_at, change_count, one_more, one_less}
use Rattle.pl_desc.specs.Descs.{Descs, IsTidy, holders}
use Rattle.pl_state.specs.Contents.{contents, core_of}
use Rattle.pl_state.specs.Sound.{keeping}
use Rattle.pl_state.proofs.Known.{Known, parts_of}
use Rattle.pl_state.proofs.holders.Holding.{one_more_less}
use Rattle.pl_state.proofs.holders.GivenUp.{GivesUp}

-- The description that it is to name is held once more, and what it named has a loose hold.
module _ {A : Type 0} (m : Known A) (pid fd key named : ℕ) (here : IsSome (at m.descs.opened key)) (more : Descs) (more_loose : count_at more.loose ≡ change_count key one_more (count_at m.descs.loose)) (more_rest : more ≡ record m.descs { loose = more.loose })
    (loosed : Descs) (rows : row_at loosed.tables ≡ with_row (row_at more.tables) pid fd (Some key)) (pids : is_pid loosed.tables ≡ is_pid more.tables)
    (loose : count_at loosed.loose ≡ change_count named one_more (change_count key one_less (count_at more.loose))) (holds : holders loosed ≡ holders more) (rest : loosed ≡ record more { tables = loosed.tables; loose = loosed.loose }) (tidy : IsTidy loosed) where
  open m use {descs, nodes, calls, limits, sound, are}

  left : count_at loosed.loose ≡ change_count named one_more (count_at descs.loose)
  left = loose ∙ ap (λ (f : ℕ → ℕ). change_count named one_more (change_count key one_less f)) more_loose ∙ ap (change_count named one_more) (one_more_less key (count_at descs.loose))

  more_holds : (q : ℕ) → holders more q ≡ naming descs.tables q + change_count key one_more (count_at descs.loose) q
  more_holds q = (λ i. naming (more_rest i).tables q + more_loose i q)

  alive : (q : ℕ) → nat_lt 0 (holders loosed q) ≡ nat_lt 0 (holders descs q)
  alive q = ap (nat_lt 0) ((λ i. holds i q) ∙ more_holds q) ∙ by (nat_eq key q) refl
    where
      by : (b : Bool) → nat_eq key q ≡ b → nat_lt 0 (naming descs.tables q + cond b (count_at descs.loose q + 1) (count_at descs.loose q)) ≡ nat_lt 0 (holders descs q)
      by true e = above _ (omega arith) ∙ sym (above (holders descs q) (are.tidy.held q (ap (λ k. is_some (at descs.opened k)) (sym (eqb-true key q e)) ∙ here)))
      by false e = refl

  pub replace-gives : GivesUp (parts_of m) (install (core_of (contents descs nodes calls limits)) pid fd key) named loosed calls
  unfolding core_of
  replace-gives = record {
    alike = record { descriptions = refl; files = refl; names = refl };
    pipes_as_before = refl;
    agrees = record {
      processes = pids ∙ ap (λ (d : Descs). is_pid d.tables) more_rest;
      rows = rows ∙ ap (λ (d : Descs). with_row (row_at d.tables) pid fd (Some key)) more_rest;
      parked = refl;
      next_call = refl;
      limits = refl;
    };
    opened = ap (λ (d : Descs). d.opened) rest ∙ ap (λ (d : Descs). d.opened) more_rest;
    tidy = tidy;
    bounds = ap (λ (d : Descs). d.limits) rest ∙ ap (λ (d : Descs). d.limits) more_rest;
    held_as_before = alive;
    loose = λ q. (λ i. left i q) ∙ more_of (nat_eq named q) (count_at descs.loose q) (keeping calls.calls q) (are.counted q);
    rise = sound.rise;
    numbered = sound.numbered;
  }
    where
      more_of : (b : Bool) (n m : ℕ) → n ≡ m → cond b (n + 1) n ≡ m + cond b 1 0
      more_of true n m e = omega (arith, e)
      more_of false n m e = omega (arith, e)
