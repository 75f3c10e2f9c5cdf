use Rattle.std.proofs.Common.{◌≡◌, ◌∙◌, ℕ, Option, Some, None, true, refl, sym, subst}
use Rattle.std.specs.Prelude.{IfNone, IfSome}
use Rattle.pl_state.specs.Contents.{core_of}
use Rattle.pl_kernel.specs.Progress.{is_ready}
use Rattle.pl_kernel.specs.Asking.{FindsBelow}
use Rattle.pl_kernel.proofs.index.First.{nothing, it-is, least-below}
use Rattle.pl_kernel.proofs.index.Settling.{taken-out}
use Rattle.pl_kernel.proofs.asking.first_ready.Goals as goal

pub ask_node-least-requires-clause-knows : goal.ask_node-least-requires-clause-knows
ask_node-least-requires-clause-knows g c =
    taken-out (core_of c.args.state.now) c.loop.waiters c.loop.waiters c.in_ok-node.node (λ key. refl) (λ other apart. refl) refl refl c.loop.invariant.knows

none_of : (o : Option ℕ) (P : Type 0) → o ≡ None → IfNone o P → P
none_of None P off h = h
none_of (Some x) P off h = absurd (cc)

pub returns-in_err-node-clause-finds : goal.returns-in_err-node-clause-finds
returns-in_err-node-clause-finds g c =
    let inv = c.loop.invariant in
    let core = core_of c.args.state.now in
    subst (λ (o : Option ℕ). FindsBelow core 0 c.args.waiters.now.looked o) (sym c.from_residual.ensures)
    (subst (λ l. FindsBelow core 0 l None) inv.known (nothing core c.loop.waiters inv.understood inv.knows inv.settled (none_of c.first_node.result _ c.in_err-node.was c.first_node.ensures.none)))

pub returns-then-is_ready-clause-finds : goal.returns-then-is_ready-clause-finds
returns-then-is_ready-clause-finds g c =
    let inv = c.loop.invariant in
    let core = core_of c.args.state.now in
    subst (λ l. FindsBelow core 0 l (Some c.in_ok-number.number)) inv.known
    (it-is core c.loop.waiters inv.understood inv.knows inv.settled c.in_ok-node.node c.in_ok-number.number c.in_ok-node.ensures.some (sym c.in_ok-number.ensures) (sym c.is_ready.ensures ∙ c.if-is_ready.true))

-- it was asked before
pub returns-then-is_number-clause-finds : goal.returns-then-is_number-clause-finds
returns-then-is_number-clause-finds g c =
    let inv = c.loop.invariant in
    let core = core_of c.args.state.now in
    let is : c.args.asked ≡ Some c.in_ok-number.number = c.is_number.ensures c.if-is_number.true in
    subst (λ (o : Option ℕ). FindsBelow core 0 c.args.waiters.now.looked o) (sym is)
    (subst (λ l. FindsBelow core 0 l (Some c.in_ok-number.number)) inv.known
    (it-is core c.loop.waiters inv.understood inv.knows inv.settled c.in_ok-node.node c.in_ok-number.number c.in_ok-node.ensures.some (sym c.in_ok-number.ensures) (subst (λ (o : Option ℕ). IfSome o (λ n. is_ready core n ≡ true)) is c.requires.asked)))

-- all were asked
pub returns-clause-finds : goal.returns-clause-finds
returns-clause-finds g c = least-below (core_of c.args.state.now) 0 c.args.waiters.now.looked c.ask_all.result c.ask_all.ensures
