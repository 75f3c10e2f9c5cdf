use Rattle.std.proofs.Common.{◌≡◌, ◌+◌, ◌≤◌, ◌<◌, ◌⊎◌, ℕ, inl, inr, true, Some, refl, sym, ◌∙◌, ap, subst, arith}
use Rattle.std.specs.Prelude.{IfSome, IsSome}
use Rattle.std.proofs.lemmas.Bool.{cases_lt}
use Rattle.pl_least.specs.Numbers.{number_at}
use Rattle.pl_waiters.specs.Queue.{waiter}
use Rattle.pl_waiters.specs.Seen.{stands, least}
use Rattle.pl_state.specs.Contents.{core_of}
use Rattle.pl_kernel.specs.Progress.{is_ready}
use Rattle.pl_kernel.specs.Asking.{CoversNode, lesser_of}
use Rattle.pl_kernel.specs.Index.{is_open}
use Rattle.pl_kernel.proofs.index.Opening.{open-parked}
use Rattle.pl_kernel.proofs.index.First.{least-from}
use Rattle.pl_kernel.proofs.index.Nodes.{prunes-then, first-at-most, second-at-most, both-some}
use Rattle.pl_kernel.proofs.index.Settling.{pruned-knows, understood-fewer}
use Rattle.pl_kernel.proofs.asking.first_ready_from.Given.{Over}
use Rattle.pl_kernel.proofs.asking.first_ready_from.Goals.{After-lesser-least}
use Rattle.pl_kernel.proofs.asking.first_ready_from.Goals as goal

pub least_if_any-found-requires : goal.least_if_any-found-requires
least_if_any-found-requires g c =
    let p = c.loop-node.invariant.prunes in
    understood-fewer (core_of c.args.state.now) c.args.waiters.now c.loop-node.waiters p.fewer p.kept p.known c.requires.understood

-- one node more is covered
module _ (g : Over) (c : After-lesser-least g) where
  covered : (key : ℕ) → (key < c.loop-node.node) ⊎ (c.loop-node.node ≤ key) → key < c.loop-node.node + 1 → CoversNode (core_of c.args.state.now) c.args.waiters.now key c.args.from (lesser_of c.loop-node.least c.least_if_any-found.result)
  covered key (inl early) l m here queue low other on fits there ready =
      first-at-most c.loop-node.least c.least_if_any-found.result other (c.loop-node.invariant.covers key early m here queue low other on fits there ready)
  covered key (inr late) l m here queue low other on fits there ready =
      let same : key ≡ c.loop-node.node = omega (arith, late, l) in
      let p = c.loop-node.invariant.prunes in
      let now : stands c.loop-node.waiters (waiter key queue other) ≡ true = p.kept (waiter key queue other) (subst (λ o. IsSome o) (sym (open-parked (core_of c.args.state.now) (waiter key queue other) ready).1) refl) there in
      let found : least c.loop-node.waiters key ≡ Some m = ap (λ l. number_at l key) p.least_ones ∙ here in
      second-at-most c.loop-node.least c.least_if_any-found.result other
      (c.least_if_any-found.ensures.covers m (subst (λ n. least c.loop-node.waiters n ≡ Some m) same found) queue low other on fits (subst (λ n. stands c.loop-node.waiters (waiter n queue other) ≡ true) same now) (subst (λ n. is_open (core_of c.args.state.now) (waiter n queue other) ≡ true) same ready))

pub loop-node-preserved : goal.loop-node-preserved
loop-node-preserved g c =
    let w = (goal.at.loop-node-preserved g c).After-lesser-least in
    let core = core_of c.args.state.now in
    let inv = c.loop-node.invariant in
    let is = sym c.lesser-least.ensures in
    record {
      prunes = prunes-then core c.args.waiters.now c.loop-node.waiters c.least_if_any-found.new.waiters inv.prunes c.least_if_any-found.ensures.prunes;
      some = subst (λ o. IfSome o (λ n. (c.args.from ≤ n) × (is_ready core n ≡ true))) is (both-some (λ n. (c.args.from ≤ n) × (is_ready core n ≡ true)) c.loop-node.least c.least_if_any-found.result inv.some c.least_if_any-found.ensures.some);
      covers = λ key l. subst (CoversNode core c.args.waiters.now key c.args.from) is (covered g w key (cases_lt key c.loop-node.node) l);
    }

pub returns-clause-finds : goal.returns-clause-finds
returns-clause-finds g c =
    let core = core_of c.args.state.now in
    let r = c.requires in
    let inv = c.loop-node.invariant in
    least-from core c.args.waiters.now r.understood r.knows r.settled c.args.from c.loop-node.least
    (λ key m here. inv.covers key (let l = c.nodes-node-end.ensures.most key m here in let end = c.loop-node-test.false in omega (arith, l, end)) m here) inv.some

pub returns-clause-knows : goal.returns-clause-knows
returns-clause-knows g c = pruned-knows (core_of c.args.state.now) c.args.waiters.now c.loop-node.waiters c.loop-node.invariant.prunes c.requires.knows
