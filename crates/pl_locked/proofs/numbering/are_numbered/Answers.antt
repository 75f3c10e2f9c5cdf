use Rattle.std.proofs.Common.{◌≡◌, ◌≢◌, ℕ, ◌+◌, ◌<◌, ◌≤◌, List, [], length, take, sym, ap, ◌∙◌, arith, rules, add-one, nat_eq, ne_eqb, unwrap_or}
use Rattle.std.specs.HashMap.{get}
use Rattle.pl_model.specs.declared.history.Entry.{Entry}
use Rattle.pl_model.specs.History.{of}
use Rattle.pl_locked.proofs.Counting.{number_at, numbered-more, few_of, counts-more}
use Rattle.pl_locked.proofs.numbering.are_numbered.Goals as goal

pub returns-then-entry-before : goal.returns-then-entry-before
returns-then-entry-before g c =
    let h : List (Entry g.row.A.Denot) = c.args.entries.now in
    let i = c.loop-entry.entry-index in
    let e : Entry g.row.A.Denot = c.entry-item.result in
    let lt : i < length h = omega arith in
    let before : c.unwrap_or-before.result ≡ length (of e.caller (take i h)) = c.unwrap_or-before.ensures ∙ (ap (λ o. unwrap_or o 0) (c.copied.ensures ∙ c.get.ensures.value) ∙ c.loop-entry.invariant.counted e.caller) in
    (λ t. absurd (search rules), λ all. absurd (c.if-entry-before.true (number_at [] h i e lt c.entry-item.is all ∙ sym before)))

pub overflow_add-before : goal.overflow_add-before
overflow_add-before g c =
    let h : List (Entry g.row.A.Denot) = c.args.entries.now in
    let i = c.loop-entry.entry-index in
    let k = c.entry-item.result.caller in
    let lt : i < length h = omega arith in
    let before : c.unwrap_or-before.result ≡ length (of k (take i h)) = c.unwrap_or-before.ensures ∙ (ap (λ o. unwrap_or o 0) (c.copied.ensures ∙ c.get.ensures.value) ∙ c.loop-entry.invariant.counted k) in
    let few : length (of k (take i h)) ≤ i = few_of h i k in
    omega arith

pub loop-entry-preserved : goal.loop-entry-preserved
loop-entry-preserved g c =
    let h : List (Entry g.row.A.Denot) = c.args.entries.now in
    let i = c.loop-entry.entry-index in
    let e : Entry g.row.A.Denot = c.entry-item.result in
    let lt : i < length h = omega arith in
    let old : ℕ → ℕ = λ (k : ℕ). unwrap_or (get nat_eq c.loop-entry.counts k) 0 in
    let new : ℕ → ℕ = λ (k : ℕ). unwrap_or (get nat_eq c.insert.new.self k) 0 in
    let updates = c.in_ok-insert.ensures.updates in
    let found : c.unwrap_or-before.result ≡ old e.caller = c.unwrap_or-before.ensures ∙ ap (λ o. unwrap_or o 0) (c.copied.ensures ∙ c.get.ensures.value) in
    let here : new e.caller ≡ old e.caller + 1 = ap (λ o. unwrap_or o 0) updates.1 ∙ ap (λ n. n + 1) found in
    let there : (k : ℕ) → k ≢ e.caller → new k ≡ old k = λ k other. ap (λ o. unwrap_or o 0) (updates.2 k (ne_eqb e.caller k (λ x. other (sym x)))) in
    let number : e.number ≡ length (of e.caller (take i h)) = c.if-entry-before.false ∙ (found ∙ c.loop-entry.invariant.counted e.caller) in
    rw add-one record {
      counted = counts-more h i e old new lt c.entry-item.is c.loop-entry.invariant.counted here there;
      numbered = numbered-more [] h i e lt c.entry-item.is c.loop-entry.invariant.numbered number;
    }
