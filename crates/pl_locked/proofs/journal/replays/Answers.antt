use Rattle.std.proofs.Common.{◌≡◌, ◌<◌, List, length, take, refl, sym, ap, ◌∙◌, subst, arith, rules, add-one}
use Rattle.std.proofs.lemmas.List.{take_all}
use Rattle.pl_model.specs.declared.calls.Step.{Step}
use Rattle.pl_model.specs.Numbered.{State, opening, step}
use Rattle.pl_state.specs.Makes.{Stands}
use Rattle.pl_model.specs.declared.history.Entry.{Entry}
use Rattle.pl_locked.proofs.Replaying.{Goes, after_first, reply_at, goes-more, after-more}
use Rattle.pl_locked.proofs.journal.replays.Goals as goal

pub returns-then-not-is_same : goal.returns-then-not-is_same
returns-then-not-is_same g c =
    let A = g.row.A.Denot in
    let h : List (Entry A) = c.args.entries.now in
    let i = c.loop-entry.entry-index in
    let e : Entry A = c.entry-item.result in
    let lt : i < length h = omega arith in
    let s : State A = opening c.args.limits in
    let copy : c.in_ok-step.step ≡ e.step = c.in_ok-step.ensures in
    let told : c.in_ok-reply.reply ≡ (step (after_first s i h) c.in_ok-step.step).reply = (c.in_ok-reply.ensures.made _ c.loop-entry.invariant.stands).0 in
    let reply : c.in_ok-reply.reply ≡ (step (after_first s i h) e.step).reply = told ∙ ap (λ (x : Step A). (step (after_first s i h) x).reply) copy in
    (λ t. absurd (search rules), λ all. c.if-not-is_same.ensures.1 (reply ∙ sym (reply_at s h i e lt c.entry-item.is all)))

pub loop-entry-preserved : goal.loop-entry-preserved
loop-entry-preserved g c =
    let A = g.row.A.Denot in
    let h : List (Entry A) = c.args.entries.now in
    let i = c.loop-entry.entry-index in
    let e : Entry A = c.entry-item.result in
    let lt : i < length h = omega arith in
    let s : State A = opening c.args.limits in
    let copy : c.in_ok-step.step ≡ e.step = c.in_ok-step.ensures in
    let made = c.in_ok-reply.ensures.made (after_first s i h) c.loop-entry.invariant.stands in
    let reply : c.in_ok-reply.reply ≡ (step (after_first s i h) e.step).reply = made.0 ∙ ap (λ (x : Step A). (step (after_first s i h) x).reply) copy in
    let same : c.in_ok-reply.reply ≡ e.reply = c.if-not-is_same.ensures.0 (search rules) in
    let stands : Stands c.step.new.self (step (after_first s i h) e.step).state = subst (λ (x : Step A). Stands c.step.new.self (step (after_first s i h) x).state) copy made.1 in
    rw add-one record {
      stands = subst (Stands c.step.new.self) (sym (after-more s h i e lt c.entry-item.is)) stands;
      goes = goes-more s h i e lt c.entry-item.is c.loop-entry.invariant.goes (sym same ∙ reply);
    }

pub returns : goal.returns
returns g c =
    let h : List (Entry g.row.A.Denot) = c.args.entries.now in
    let all : take c.loop-entry.entry-index h ≡ h = take_all c.loop-entry.entry-index h (omega arith) in
    (λ t. subst (Goes (opening c.args.limits)) all c.loop-entry.invariant.goes, λ r. refl)
