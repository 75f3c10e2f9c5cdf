-- What is told of a process, whatever keys the machine has.
use Rattle.std.proofs.Common.{◌≡◌, ℕ, zero, suc, ◌+◌, ◌<◌, ◌≤◌, Bool, true, false, cond, List, [], ◌∷◌, map, length, take, Option, Some, None, refl, sym, ◌∙◌, ap, arith, nat_eq}
use Rattle.std.specs.Prelude.{option_map, is_some, count_by}
use Rattle.std.proofs.Math.Path.{fun_ext}
use Rattle.std.proofs.Math.Seq.{take-length}
use Rattle.std.proofs.lemmas.List.Sums.{count_by_more_no, count_by_more_yes, sum_by-cons}
use Rattle.pl_model.specs.Map.{Map}
use Rattle.pl_model.specs.Tables.{descriptor_limit}
use Rattle.pl_model.specs.Numbered.{numbers, State}
use Rattle.pl_model.specs.Renaming.{Renamings, rename, rename_waiting}
use Rattle.pl_model.specs.State.{Core, Waiting, waiting_calls_of}
use Rattle.pl_desc.specs.Rows.{at, open_in, rows_in, rows_of, row_at, table_of}
use Rattle.pl_state.specs.Contents.{Contents, core_of, waiting_count}
use Rattle.pl_state.specs.Makes.{Stands}
use Rattle.pl_state.proofs.by_call.Begun.{waiting_calls-are}
use Rattle.pl_kernel.specs.declared.told_processes.ProcessFacts.{ProcessFacts}
use Rattle.pl_kernel.specs.ToldProcesses.{count_below, open_count_of, process_facts_by, TellsHoldings}

-- a list is counted by its places
counted-below : (xs : List (Option ℕ)) (n : ℕ) → n ≤ length xs → count_below (λ k. is_some (at xs k)) n ≡ open_in (take n xs)
unfolding count_below
counted-below xs zero few = refl
counted-below xs (suc n) few = by (counted-below xs n (omega (arith, few))) (is_some (at xs n)) refl
  where
    next : open_in (take (suc n) xs) ≡ open_in (take (n + 1) xs)
    next = let step : suc n ≡ n + 1 = omega arith in ap (λ k. open_in (take k xs)) step

    by : count_below (λ k. is_some (at xs k)) n ≡ open_in (take n xs) → (b : Bool) → is_some (at xs n) ≡ b → count_below (λ k. is_some (at xs k)) (suc n) ≡ open_in (take (suc n) xs)
    by rest b is = ap (λ b. count_below (λ k. is_some (at xs k)) n + cond b 1 0) is ∙ added b is ∙ sym next
      where
        added : (b : Bool) → is_some (at xs n) ≡ b → count_below (λ k. is_some (at xs k)) n + cond b 1 0 ≡ open_in (take (n + 1) xs)
        added true is = ap (λ k. k + 1) rest ∙ sym (count_by_more_yes is_some xs n None (omega (arith, few)) is)
        added false is = omega (arith, rest) ∙ sym (count_by_more_no is_some xs n None (omega (arith, few)) is)

-- other keys tell the same
module _ {A : Type 0} (r : Renamings) (c : Core A numbers) (pid : ℕ) where
  open-renamed : open_count_of (rename r c) pid ≡ open_count_of c pid
  open-renamed = ap (λ test. count_below test (descriptor_limit c.limits)) (fun_ext (λ fd. some-same (c.rows pid fd)))
    where
      some-same : (o : Option ℕ) → is_some (option_map r.description.to o) ≡ is_some o
      some-same None = refl
      some-same (Some d) = refl

  waiting-renamed : waiting_calls_of (rename r c) pid ≡ waiting_calls_of c pid
  waiting-renamed = by c.parked
    where
      one : ℕ × Waiting A numbers → ℕ
      one e = cond (nat_eq e.1.pid pid) 1 0

      renamed : ℕ × Waiting A numbers → ℕ × Waiting A numbers
      renamed e = (e.0, rename_waiting r e.1)

      by : (calls : Map ℕ (Waiting A numbers)) → count_by (λ e. nat_eq e.1.pid pid) (map renamed calls) ≡ count_by (λ e. nat_eq e.1.pid pid) calls
      by [] = refl
      by (e ∷ es) = sum_by-cons one (renamed e) (map renamed es) ∙ ap (λ n. one e + n) (by es) ∙ sym (sum_by-cons one e es)

  facts-renamed : process_facts_by (rename r c) pid ≡ process_facts_by c pid
  facts-renamed = λ i. cond (c.processes pid) (Some (record { descriptors = open-renamed i; waiting_calls = waiting-renamed i })) None

module _ {A : Type 0} (k : Contents A) (pid : ℕ) where
  -- a kernel tells what the machine under its keys has
  told-all : (told : Option ProcessFacts) → told ≡ process_facts_by (core_of k) pid → TellsHoldings k pid told
  told-all told is = λ s. λ stands.
      is ∙ sym (facts-renamed stands.numbered (core_of k) pid) ∙ ap (λ (c : Core A numbers). process_facts_by c pid) stands.renamed

  pub tells-none : table_of k.tables pid ≡ None → TellsHoldings k pid None
  unfolding core_of
  tells-none none = told-all None (sym (ap (λ b. cond b (Some (record { descriptors = open_count_of (core_of k) pid; waiting_calls = waiting_calls_of (core_of k) pid })) None) (ap is_some none)))

  -- its table has a place for each descriptor that there may be
  pub tells-some : (table : List (Option ℕ)) → table_of k.tables pid ≡ Some table → length table ≡ descriptor_limit k.limits → TellsHoldings k pid (Some (record { descriptors = open_in table; waiting_calls = waiting_count k pid }))
  unfolding core_of
  tells-some table is wide = told-all _ (
      (λ i. Some (record { descriptors = sym opens i; waiting_calls = sym (waiting_calls-are k pid) i }))
      ∙ sym (ap (λ b. cond b (Some (record { descriptors = open_count_of (core_of k) pid; waiting_calls = waiting_calls_of (core_of k) pid })) None) (ap is_some is)))
    where
      opens : count_below (λ fd. is_some (row_at k.tables pid fd)) (descriptor_limit k.limits) ≡ open_in table
      opens =
          ap (λ rows. count_below (λ fd. is_some (at rows fd)) (descriptor_limit k.limits)) rows
          ∙ counted-below table (descriptor_limit k.limits) (omega (arith, wide))
          ∙ ap open_in (ap (λ n. take n table) (sym wide) ∙ take-length table)
        where
          rows : rows_of k.tables pid ≡ table
          rows = ap rows_in is
