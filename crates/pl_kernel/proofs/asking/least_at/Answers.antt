use Rattle.std.proofs.Common.{◌≡◌, ◌≤◌, true, inr, refl, sym, ◌∙◌, ap, subst, Fits, w64, rules, arith}
use Rattle.std.specs.Prelude.{IfSome}
use Rattle.pl_waiters.specs.Queue.{waiter}
use Rattle.pl_kernel.specs.Progress.{is_ready}
use Rattle.pl_state.specs.Contents.{core_of}
use Rattle.pl_kernel.specs.Asking.{Covers, lesser_of}
use Rattle.pl_kernel.proofs.index.Nodes.{AreAsked, none-left, at-from, told-some, goes-on, ends, less-left, before-then}
use Rattle.pl_kernel.proofs.asking.least_at.Goals.{In-Some, In-Some-after}
use Rattle.pl_kernel.proofs.asking.least_at.Goals as goal

pub loop-next-smaller-then-next-from : goal.loop-next-smaller-then-next-from
loop-next-smaller-then-next-from g c =
    let key = c.loop-next.key in
    let next = c.in-Some.next in
    let some = c.in-Some.ensures.some in
    let low = c.if-next-from.true in
    let queue : Fits w64 next.queue = search rules in
    let number : Fits w64 c.args.from = search rules in
    less-left key.queue key.number (waiter next.node next.queue c.args.from) c.loop-next.invariant.1 (let q = queue.fits in omega (arith, q)) (let n = number.fits in omega (arith, n)) (before-then key next (waiter next.node next.queue c.args.from) some.0 some.2 (inr (refl, low)))

pub loop-next-preserved-then-next-from : goal.loop-next-preserved-then-next-from
loop-next-preserved-then-next-from g c =
    let number : Fits w64 c.args.from = search rules in
    (at-from (core_of c.args.state.now) c.args.waiters.now c.loop-next.waiters c.args.node c.args.from c.loop-next.key c.loop-next.least c.loop-next.invariant.0 c.in-Some.next c.in-Some.ensures.some.0 c.in-Some.ensures.first c.if-next-from.true, (let n = number.fits in omega (arith, n)))

pub returns-in_default-after-clause-covers : goal.returns-in_default-after-clause-covers
returns-in_default-after-clause-covers g c = λ queue low.
    let on = c.if-next-from.false in
    subst (λ told. Covers (core_of c.args.state.now) c.args.waiters.now c.args.node queue c.args.from told) (sym (c.lesser-least.ensures ∙ ap (λ o. lesser_of c.loop-next.least o) c.number_if_ready.ensures))
    (ends (core_of c.args.state.now) c.args.waiters.now c.loop-next.waiters c.args.node c.args.from c.loop-next.key c.loop-next.least c.loop-next.invariant.0 c.in-Some.next c.in-Some.ensures.some.0 c.in-Some.ensures.first
    (omega (arith, on)) c.ask-found.new.waiters c.ask-found.ensures.prunes c.in-Some.ensures.some.1 c.requires c.ask-found.result c.ask-found.ensures.ready c.ask-found.ensures.stuck c.ask-found.ensures.gone
    c.answered_to.result c.answered_to.ensures c.in_default-after.ensures.none queue low)

pub returns-in_default-after-clause-some : goal.returns-in_default-after-clause-some
returns-in_default-after-clause-some g c =
    let core = core_of c.args.state.now in
    let on = c.if-next-from.false in
    subst (λ told. IfSome told (λ n. (c.args.from ≤ n) × (is_ready core n ≡ true))) (sym (c.lesser-least.ensures ∙ ap (λ o. lesser_of c.loop-next.least o) c.number_if_ready.ensures))
    (told-some core c.args.waiters.now c.loop-next.waiters c.args.node c.args.from c.loop-next.key c.loop-next.least c.loop-next.invariant.0 c.in-Some.next c.in-Some.ensures.some.0 c.in-Some.ensures.first
    (omega (arith, on)) c.ask-found.new.waiters c.ask-found.ensures.prunes c.in-Some.ensures.some.1 c.requires c.ask-found.result c.ask-found.ensures.ready c.ask-found.ensures.stuck c.ask-found.ensures.gone)

pub loop-next-smaller : goal.loop-next-smaller
loop-next-smaller g c =
    let key = c.loop-next.key in
    let next = c.in-Some.next in
    let after = c.in-Some-after.after in
    let some = c.in-Some.ensures.some in
    let queue : Fits w64 after.queue = search rules in
    let number : Fits w64 after.number = search rules in
    less-left key.queue key.number after c.loop-next.invariant.1 (let q = queue.fits in omega (arith, q)) (let n = number.fits in omega (arith, n)) (before-then key next after some.0 some.2 c.in-Some-after.ensures.on)

pub loop-next-preserved : goal.loop-next-preserved
loop-next-preserved g c =
    let on = c.if-next-from.false in
    let past = c.in-Some-after.ensures.some in
    let number : Fits w64 c.in-Some-after.after.number = search rules in (
      subst (AreAsked (core_of c.args.state.now) c.args.waiters.now c.ask-found.new.waiters c.args.node c.args.from c.in-Some-after.after) (sym (c.lesser-least.ensures ∙ ap (λ o. lesser_of c.loop-next.least o) c.number_if_ready.ensures))
          (goes-on (core_of c.args.state.now) c.args.waiters.now c.loop-next.waiters c.args.node c.args.from c.loop-next.key c.loop-next.least c.loop-next.invariant.0 c.in-Some.next c.in-Some.ensures.some.0 c.in-Some.ensures.first
          (omega (arith, on)) c.ask-found.new.waiters c.ask-found.ensures.prunes c.in-Some.ensures.some.1 c.requires c.ask-found.result c.ask-found.ensures.ready c.ask-found.ensures.stuck c.ask-found.ensures.gone
          c.in-Some-after.after c.answered_to.result c.answered_to.ensures past.0 past.1),
      (let n = number.fits in omega (arith, n)),
    )

pub returns-clause-covers : goal.returns-clause-covers
returns-clause-covers g c = λ queue low.
    none-left (core_of c.args.state.now) c.args.waiters.now c.loop-next.waiters c.args.node c.args.from c.loop-next.key c.loop-next.least c.loop-next.invariant.0 c.in_default.ensures.none queue
