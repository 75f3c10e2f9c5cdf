use Rattle.std.proofs.Common.{rules, ◌≡◌, ◌+◌, List, [], ◌∷◌, ◌++◌, length, refl, sym, ap, ◌∙◌, subst, arith, append_assoc, length-append}
use Rattle.std.proofs.lemmas.List.{append-nil}
use Rattle.std.proofs.lemmas.List.Elements.{All-cons}
use Rattle.std.proofs.lemmas.List.Sums.{sum_by_push}
use Rattle.std.specs.List.{All}
use mathlib.Core.List.{IsPrefix}
use Rattle.pl_model.specs.declared.history.Entry.{Entry}
use Rattle.pl_model.specs.History.{of}
use Rattle.pl_locked.specs.Views.{CallerView, IsSub, Kept, total_handed, total_made}
use Rattle.pl_locked.proofs.Subs.{sub_later}
use Rattle.pl_locked.proofs.caller.gather.Goals as goal

-- the journal begins with what the caller has seen, and has what it made, in order
abbrev Seen : {A : Type 0} → List (Entry A) → CallerView A → Type 0
Seen journal c = IsPrefix c.seen journal × IsSub c.made (of c.number journal)

pub loop-caller-init : goal.loop-caller-init
loop-caller-init g c = record {
  parts = refl;
  amount = refl;
  bound = c.requires;
  out = refl;
  handed = refl;
  recorded = refl;
  gone = [];
  all = sym (append-nil c.args.callers.items);
  each = λ k d lt. absurd (omega arith);
}

pub loop-caller-preserved : goal.loop-caller-preserved
loop-caller-preserved g c =
    let A = g.row.A.Denot in
    let inv = c.loop-caller.invariant in
    let x : CallerView A = c.in-Some.caller in
    let rest : List (CallerView A) = c.pop.new.self.items in
    let journal : List (Entry A) = c.args.recorded.now.journal in
    let was : c.loop-caller.callers.items ≡ rest ++ x ∷ [] = c.in-Some.ensures.items in
    let same : c.loop-caller.recorded.journal ≡ journal = ap (λ (z : Kept A). z.journal) inv.recorded in
    let parts = c.into_parts-share.ensures in
    let begins : IsPrefix x.seen journal = subst (λ (h : List (Entry A)). IsPrefix h journal) parts.eye (subst (IsPrefix c.into_parts-share.result.2.seen) same c.take_in.ensures.earlier) in
    let own : IsSub x.made (of x.number journal) = sub_later x.number x.made x.seen journal parts.own begins in
    let sum : total_made c.loop-caller.callers.items ≡ total_made rest + length x.made = ap total_made was ∙ sum_by_push (λ (v : CallerView A). length v.made) rest x in
    let told : total_handed c.loop-caller.callers.items ≡ total_handed rest + x.handed = ap total_handed was ∙ sum_by_push (λ (v : CallerView A). v.handed) rest x in
    let long : length c.loop-caller.callers.items ≡ length rest + 1 = ap length was ∙ length-append rest (x ∷ []) in
    let p = c.merge.ensures.parts in
    let a = c.merge.ensures.amount in
    let s = parts.share in
    let h = parts.handed in
    let q = c.merge-in-Some.ensures.parts in
    let b = c.merge-in-Some.ensures.amount in
    let i0 = inv.parts in
    let i1 = inv.amount in
    let i2 = inv.out in
    let i3 = inv.handed in record {
      parts = omega arith;
      amount = omega arith;
      bound = c.merge.ensures.apart;
      out = omega arith;
      handed = omega arith;
      recorded = c.take_in.ensures.same ∙ inv.recorded;
      gone = x ∷ inv.gone;
      all = inv.all ∙ (ap (λ (l : List (CallerView A)). l ++ inv.gone) was ∙ append_assoc rest (x ∷ []) inv.gone);
      each = All-cons (Seen journal) x inv.gone (begins, own) inv.each;
    }

pub returns-clause-each : goal.returns-clause-each
returns-clause-each g c =
    let inv = c.loop-caller.invariant in
    let none : c.loop-caller.callers.items ≡ [] = search (rules, c.in_default.ensures.cases, c.in_default.ensures.items) in
    subst (All (Seen c.args.recorded.now.journal)) (sym (inv.all ∙ ap (λ l. l ++ inv.gone) none)) inv.each
