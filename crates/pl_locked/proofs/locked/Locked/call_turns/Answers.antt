use Rattle.std.proofs.Common.{◌≡◌, ◌≤◌, inl, inr, refl, arith, length, subst}
use Rattle.pl_locked.specs.Views.{UsesTurns}
use Rattle.pl_locked.proofs.Calls.{begun, turn_more, uses_more, waits_sees}
use Rattle.pl_locked.proofs.locked.Locked.call_turns.Goals as goal

pub loop-turn-init : goal.loop-turn-init
loop-turn-init g c =
    let made = rw c.in-Parked.is at c.in-Ok.ensures.made in record {
      waits = (begun _ _ _ _ _ _ _ made, omega arith);
      turns = record { begun = c.step.new.me; began = (made, c.step.ensures.glances); turns = refl };
      seen = c.in-Ok.ensures.steps;
    }

pub loop-turn-preserved : goal.loop-turn-preserved
loop-turn-preserved g c =
    let turn = rw c.in-Ok-None.field-0-is at c.in-Ok-None.ensures.made in record {
      waits = turn_more _ _ _ _ _ _ _ _ _ c.loop-turn.invariant.waits turn;
      turns = uses_more _ _ _ _ _ _ _ _ _ c.loop-turn.invariant.turns turn;
      seen = c.in-Ok-None.ensures.seen c.in-Ok-None.field-0-is;
    }

pub returns-in-Ok-Some-clause-made : goal.returns-in-Ok-Some-clause-made
returns-in-Ok-Some-clause-made g c =
    let w = c.loop-turn.invariant.waits in
    let few : length w.0.turns ≤ c.loop-turn.turn = w.1 in
    let t = rw c.in-Ok-Some.field-0-is at c.in-Ok-Some.ensures.made in
    inr (inl (c.in-Parked.number, t.1, waits_sees _ _ _ _ _ _ _ _ w.0 t.2.0.0, omega arith, t.0, t.3.0))

pub returns-clause-made : goal.returns-clause-made
returns-clause-made g c =
    let w = c.loop-turn.invariant.waits in
    let few : length w.0.turns ≤ c.loop-turn.turn = w.1 in
    inr (inr (c.in-Parked.number, (w.0, omega arith), refl))

pub returns-clause-turns : goal.returns-clause-turns
returns-clause-turns g c number is =
    let same : c.in-Parked.number ≡ number = cc in
    let all : c.loop-turn.turn ≡ c.args.turns = omega arith in
    let used = rw all at c.loop-turn.invariant.turns in
    subst (λ n. UsesTurns c.args.turns g.N.Layer.limits g.N.Layer.max_steps c.args.pid c.args.call n c.args.me.now c.loop-turn.me) same used
