use Rattle.std.proofs.Common.{◌≡◌, ℕ, ◌+◌, ◌-◌, min, true, false, List, refl, sym, ap, subst, ◌∙◌, length, IfSome, Some, None}
use Rattle.std.specs.Prelude.{◌==◌, ◌&&◌, nat_le, nat_lt, not, Bool, Option, IfNone, if◌then◌else◌}
use Rattle.std.proofs.lemmas.Bool.{ne_eqb}
use Rattle.pl_model.specs.declared.replies.Reply.{Reply}
use Rattle.pl_model.specs.declared.cases.WriteCase.{WriteCase}
use Rattle.pl_model.specs.Modes.{writes}
use Rattle.pl_model.specs.Numbers.{pipe_buf}
use Rattle.pl_model.specs.Transfer.{room, write_case}
use Rattle.pl_state.specs.KernelView.{view_of}
use Rattle.pl_model.specs.State.{Pipe}
use Rattle.pl_state.specs.declared.access.OpenEnd.{OpenEnd}
use Rattle.pl_state.specs.Contents.{Contents}
use Rattle.pl_state.specs.Opens.{Opens, of_end}
use Rattle.pl_desc.specs.Rows.{at}
use Rattle.pl_state.specs.LastHold.{has_reader}
use Rattle.pl_state.specs.Parking.{refusal_in}
use Rattle.pl_state.proofs.by_call.Begun.{pipe_there}
use Rattle.pl_transfers.proofs.by_call.Writing.{write-wants, write-broken, write-refused, write-waits-wants}
use Rattle.pl_state.proofs.Known.{Caller, caller}
use Rattle.pl_transfers.proofs.refused.refused_by_pipe.Given.{Over}
use Rattle.pl_transfers.proofs.refused.refused_by_pipe.Goals.{After-case_of_write}
use Rattle.pl_transfers.proofs.refused.refused_by_pipe.Goals as goal

-- the pipe, and what a write of so many bytes comes to
module _ (g : Over) (c : After-case_of_write g) where
  abbrev k : Contents g.row.A.Denot
  k = view_of c.kernel.inside

  abbrev o : OpenEnd
  o = c.args.end

  abbrev calls_on : Caller g.row.A.Denot
  calls_on = caller c.kernel.inside c.kernel.invariant c.args.kernel.now c.kernel.view_is c.args.pid c.requires.process

  on_end : Opens k writes c.args.pid c.args.fd (of_end o)
  on_end = subst (λ z. Opens z writes c.args.pid c.args.fd (of_end o)) (sym c.kernel.view_is) c.requires.opens

  on_pipe : (p : Pipe) × (at k.nodes.pipes o.pipe ≡ Some p)
  on_pipe = pipe_there k c.kernel.invariant.0.whole o.key o.pipe on_end.on

  -- why a call that would wait doesn't
  why : {said : Option (Reply g.row.A.Denot)} → refusal_in c.args.kernel.now c.args.pid o.nonblock ≡ said → refusal_in k c.args.pid o.nonblock ≡ said
  why {said} is = ap (λ (z : Contents g.row.A.Denot). refusal_in z c.args.pid o.nonblock) c.kernel.view_is ∙ is

  module _ (bytes : List ℕ) (many : length bytes ≡ c.args.count) where
    some : (length bytes == 0) ≡ false
    some = ne_eqb (length bytes) 0 (λ none. c.requires.some (sym many ∙ none))

    comes_to : write_case (length bytes) 0 (room on_pipe.0) (has_reader k.opened o.pipe) (not o.nonblock) ≡ c.case_of_write.result
    comes_to =
        let told = subst (λ z. IfSome (at z.nodes.pipes o.pipe) (λ x. c.case_of_write.result ≡ write_case c.args.count 0 (room x) (has_reader z.opened o.pipe) (not o.nonblock))) (sym c.kernel.view_is) c.case_of_write.ensures.case in
        ap (λ n. write_case n 0 (room on_pipe.0) (has_reader k.opened o.pipe) (not o.nonblock)) many
        ∙ sym (subst (λ z. IfSome z (λ x. c.case_of_write.result ≡ write_case c.args.count 0 (room x) (has_reader k.opened o.pipe) (not o.nonblock))) on_pipe.1 told)

-- a write of which nothing was taken isn't cut short
never_cut : (n space : ℕ) (has_reader may_wait : Bool) → write_case n 0 space has_reader may_wait ≡ WriteCase.CutShort → ⊥
never_cut n space false may_wait h = cc
never_cut n space true may_wait h = by (nat_le n pipe_buf) (nat_le n space) may_wait (nat_lt 0 space) (nat_le (n - 0) space) h
  where
    by : (small whole may_wait some rest : Bool)
        → (if small && whole then WriteCase.Ends 0 n else if small then WriteCase.Waits 0 0 else if not may_wait && some then WriteCase.Ends 0 (min n space) else if not may_wait then WriteCase.Waits 0 0 else if rest then WriteCase.Ends 0 n else WriteCase.Waits 0 (0 + space)) ≡ WriteCase.CutShort → ⊥
    by true true may_wait some rest h = cc
    by true false may_wait some rest h = cc
    by false whole false true rest h = cc
    by false whole false false rest h = cc
    by false whole true some true h = cc
    by false whole true some false h = cc

-- what is said of what an option holds, and where it holds nothing
if_told : {T : Type 0} {P : T → Type 0} (o : Option T) → ((x : T) → o ≡ Some x → P x) → IfSome o P
if_told None f = tt
if_told (Some x) f = f x refl

if_untold : {T P : Type 0} (o : Option T) → (o ≡ None → P) → IfNone o P
if_untold None f = f refl
if_untold (Some x) f = tt

pub returns-in-Broken-clause-some : goal.returns-in-Broken-clause-some
returns-in-Broken-clause-some g c =
    let w = (goal.at.returns-in-Broken-clause-some g c).After-case_of_write in
    let p = on_pipe g w in
    λ bytes many. rw (← c.kernel.view_is) (write-broken (calls_on g w) c.args.fd bytes (o g w) (on_end g w) (some g w bytes many) p.0 p.1 (comes_to g w bytes many ∙ c.in-Broken.is))

pub returns-in-Ends-clause-none : goal.returns-in-Ends-clause-none
returns-in-Ends-clause-none g c =
    let w = (goal.at.returns-in-Ends-clause-none g c).After-case_of_write in
    let p = on_pipe g w in
    λ bytes many. rw (← c.kernel.view_is) (write-wants (calls_on g w) c.args.fd bytes (o g w) (on_end g w) (some g w bytes many) p.0 p.1 c.in-Ends.from c.in-Ends.to (comes_to g w bytes many ∙ c.in-Ends.is))

pub returns-in-CutShort-clause-none : goal.returns-in-CutShort-clause-none
returns-in-CutShort-clause-none g c =
    let w = (goal.at.returns-in-CutShort-clause-none g c).After-case_of_write in
    λ bytes many. absurd (never_cut (length bytes) (room (on_pipe g w).0) (has_reader (k g w).opened (o g w).pipe) (not (o g w).nonblock) (comes_to g w bytes many ∙ c.in-CutShort.is))

pub returns-in-Waits-clause-some : goal.returns-in-Waits-clause-some
returns-in-Waits-clause-some g c =
    let w = (goal.at.returns-in-Waits-clause-some g c).After-case_of_write in
    let p = on_pipe g w in
    if_told c.refusal_to_wait.result (λ reply is bytes many. rw (← c.kernel.view_is) (write-refused (calls_on g w) c.args.fd bytes (o g w) (on_end g w) (some g w bytes many) p.0 p.1 c.in-Waits.from c.in-Waits.to (comes_to g w bytes many ∙ c.in-Waits.is) reply (why g w (sym c.refusal_to_wait.ensures ∙ is))))

pub returns-in-Waits-clause-none : goal.returns-in-Waits-clause-none
returns-in-Waits-clause-none g c =
    let w = (goal.at.returns-in-Waits-clause-none g c).After-case_of_write in
    let p = on_pipe g w in
    if_untold c.refusal_to_wait.result (λ is bytes many. rw (← c.kernel.view_is) (write-waits-wants (calls_on g w) c.args.fd bytes (o g w) (on_end g w) (some g w bytes many) p.0 p.1 c.in-Waits.from c.in-Waits.to (comes_to g w bytes many ∙ c.in-Waits.is) (why g w (sym c.refusal_to_wait.ensures ∙ is))))
