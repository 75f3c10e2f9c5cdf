use Rattle.std.proofs.Common.{◌≡◌, ◌≤◌, refl, sym, subst, take, length, IfSome, arith}
use Rattle.std.specs.Prelude.{min}
use Rattle.std.proofs.Math.Nat.{min-le_right}
use Rattle.pl_model.specs.Packets.{front, spent, lose}
use Rattle.pl_model.specs.Map.{change_at}
use Rattle.pl_model.specs.declared.calls.Step.TheVariants.{Resume}
use Rattle.pl_model.specs.declared.replies.Reply.TheVariants.{Bytes}
use Rattle.pl_model.specs.Settle.{settle}
use Rattle.pl_model.specs.Step.{without_call}
use Rattle.pl_model.specs.Transfer.{read_case}
use Rattle.pl_model.specs.declared.cases.ReadCase.TheVariants.{Gives}
use Rattle.pl_state.specs.KernelView.{view_of}
use Rattle.pl_state.specs.Contents.{Contents, core_of, nodes_of}
use Rattle.pl_state.specs.LastHold.{has_writer}
use Rattle.pl_state.specs.Makes.{MakesAtKeys}
use Rattle.pl_state.specs.Sound.{IsSound}
use Rattle.pl_desc.specs.Rows.{at}
use Rattle.pl_state.proofs.by_call.Begun.{pipe_there}
use Rattle.pl_state.proofs.by_call.Moving.{changed_sound}
use Rattle.pl_state.proofs.Known.{CallOnPipe, moved_view}
use Rattle.pl_transfers.specs.Again.{FindsAgain}
use Rattle.pl_transfers.proofs.by_call.GivesAgain.{gives-some, gone}
use Rattle.pl_transfers.proofs.by_call.Resuming.{resume-read-gives}
use Rattle.pl_transfers.proofs.waiting.give_again.Given.{Over}
use Rattle.pl_transfers.proofs.waiting.give_again.Goals.{After-kernel}
use Rattle.pl_transfers.proofs.waiting.give_again.Goals as goal

-- the read that waits, and its pipe
module _ (g : Over) (c : After-kernel g) where
  abbrev k : Contents g.row.A.Denot
  k = view_of c.kernel.inside

  found : FindsAgain k c.args.number c.args.read
  found = subst (λ (z : Contents g.row.A.Denot). FindsAgain z c.args.number c.args.read) (sym c.kernel.view_is) c.requires.found

  abbrev o : CallOnPipe k
  o =
      let p = pipe_there k c.kernel.invariant.0.whole c.args.read.key c.args.read.pipe found.on in
      record { sound = c.kernel.invariant.0; number = c.args.number; call = found.waits.call; here = found.waits.here; key = c.args.read.key; kept = found.waits.kept; pipe = c.args.read.pipe; on = found.on; held = p.0; there = p.1 }

  told : (c.args.read.count ≡ min c.args.read.n (front o.held)) × (front o.held ≤ length o.held.bytes)
  told = subst (λ z. IfSome z (λ x. (c.args.read.count ≡ min c.args.read.n (front x)) × (front x ≤ length x.bytes))) o.there found.held

  comes_to : read_case c.args.read.n (front o.held) (has_writer k.opened o.pipe) ≡ Gives c.args.read.count
  comes_to = gives-some c.args.read.n (front o.held) c.args.read.count (has_writer k.opened o.pipe) told.0 c.requires.some

  few : length c.args.into.now ≤ front o.held
  few =
      let low = min-le_right c.args.read.n (front o.held) in
      let size = c.requires.room in
      let is = told.0 in
      omega (arith, low, size, is)

pub invariant_of-kernel : goal.invariant_of-kernel
invariant_of-kernel g c =
    let v = (goal.at.invariant_of-kernel g c).After-kernel in
    let o = o g v in
    let m = c.args.read.count in
    let changed = subst (λ z. at c.read_pipe_into.new.self.pipes ≡ change_at o.pipe (λ x. lose (spent x z) x) (at c.kernel.inside.nodes.pipes)) c.requires.room c.read_pipe_into.ensures.ok in
    (subst (IsSound g.row.A.Denot) (moved_view c.kernel.inside c.read_pipe_into.new.self c.read_pipe_into.ensures.files) (changed_sound (view_of c.kernel.inside) o.sound o.key o.pipe o.on o.held o.there (nodes_of c.read_pipe_into.new.self) (λ x. lose (spent x m) x) refl changed), c.kernel.invariant.1)

pub returns-clause-done : goal.returns-clause-done
returns-clause-done g c =
    let v = (goal.at.returns-clause-done g c).After-kernel in
    let o = o g v in
    let m = c.args.read.count in
    let size = c.requires.room in
    let read = c.read_pipe_into.new.into in
    let changed = subst (λ z. at c.read_pipe_into.new.self.pipes ≡ change_at o.pipe (λ x. lose (spent x z) x) (at c.kernel.inside.nodes.pipes)) size c.read_pipe_into.ensures.ok in
    let came : read ≡ take m o.held.bytes = subst (λ z. read ≡ take z o.held.bytes) size (subst (λ h. IfSome h (λ x. read ≡ take (length c.args.into.now) x.bytes)) o.there c.read_pipe_into.ensures.bytes) in
    subst (λ z. MakesAtKeys z (Resume c.args.number) (Bytes read) c.end_call.new.kernel) c.kernel.view_is
    (resume-read-gives (k g v) o (found g v).waits.fd c.args.read.n (found g v).waits.asked m (comes_to g v) read came (nodes_of c.read_pipe_into.new.self) changed c.end_call.new.kernel
    (subst (λ z. core_of c.end_call.new.kernel ≡ settle (core_of z) (without_call (core_of z) c.args.number)) (sym (moved_view c.kernel.inside c.read_pipe_into.new.self c.read_pipe_into.ensures.files)) c.end_call.ensures.settled))

pub returns-clause-ended : goal.returns-clause-ended
returns-clause-ended g c = gone _ _ (core_of c.end_call.new.kernel) c.args.number c.end_call.ensures.settled
