use Rattle.std.proofs.Common.{◌≡◌, ◌++◌, [], take, refl, sym, ◌∙◌, ap, append-nil, length, rules, tests}
use Rattle.std.specs.Prelude.{Ok, Err}
use Rattle.pl_script.proofs.LiveSteps.{nothing_left, wrote_so, wrote_more, written_so, cut_more}
use Rattle.pl_script.proofs.telling.write_each.Goals as goal

pub loop-rest-init : goal.loop-rest-init
loop-rest-init g c = record {
  front = [];
  cut = refl;
  talk = λ first t said. written_so first _ t t.written (t.written ++ []) (sym (append-nil t.written)) said;
  read = refl;
  write = refl;
}

pub loop-rest-preserved : goal.loop-rest-preserved
loop-rest-preserved g c = record {
  front = c.loop-rest.invariant.front ++ take c.in-Ok.count c.loop-rest.rest.now;
  cut = cut_more _ c.loop-rest.invariant.front c.loop-rest.rest.now _ c.in-Ok.count c.loop-rest.invariant.cut c.split_at.ensures.back;
  talk = λ first t said. wrote_more first _ _ t c.loop-rest.invariant.front c.loop-rest.rest.now c.in-Ok.count c.in-Ok.ensures.side (c.loop-rest.invariant.talk first t said);
  read = search rules;
  write = search rules;
}

pub returns-in_default-clause-talk : goal.returns-in_default-clause-talk
returns-in_default-clause-talk g c = λ first t said.
    (refl, (c.loop-rest.invariant.front, c.loop-rest.rest.now, c.loop-rest.invariant.cut, wrote_so first _ _ _ (c.loop-rest.invariant.talk first t said) (Err tt) c.loop-rest.rest.now c.in_default.ensures.side))

pub returns-then-count-eq0-clause-talk : goal.returns-then-count-eq0-clause-talk
returns-then-count-eq0-clause-talk g c = λ first t said.
    let wrote = wrote_so first _ _ _ (c.loop-rest.invariant.talk first t said) (Ok c.in-Ok.count) c.loop-rest.rest.now c.in-Ok.ensures.side in (
      refl,
      (
        c.loop-rest.invariant.front,
        c.loop-rest.rest.now,
        c.loop-rest.invariant.cut,
        written_so first _ t _ _ (ap (λ n. (t.written ++ c.loop-rest.invariant.front) ++ take n c.loop-rest.rest.now) c.if-count-eq0.true ∙ append-nil (t.written ++ c.loop-rest.invariant.front)) wrote,
      ),
    )

pub returns-clause-talk : goal.returns-clause-talk
returns-clause-talk g c = λ first t said.
    let none : length c.loop-rest.rest.now ≡ 0 = search (rules, tests) in
    written_so first _ t _ _ (ap (λ x. t.written ++ x) (sym (c.loop-rest.invariant.cut ∙ nothing_left c.loop-rest.invariant.front c.loop-rest.rest.now none))) (c.loop-rest.invariant.talk first t said)
