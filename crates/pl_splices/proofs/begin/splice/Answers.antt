use Rattle.std.proofs.Common.{◌≡◌, Some, None, sym, ap, subst, ◌∙◌, w32}
use Rattle.std.specs.Prelude.{◌&&◌, ◌||◌, option_map}
use Rattle.std.proofs.lemmas.Int.{to_z-of_z}
use Rattle.std.proofs.lemmas.Bool.{eq-eqb, ne_eqb}
use Rattle.pl_model.specs.declared.calls.Call.{Call}
use Rattle.pl_model.specs.declared.calls.Step.TheVariants.{Begin}
use Rattle.pl_model.specs.declared.flags.OpenFlags.{OpenFlags}
use Rattle.pl_model.specs.Flags.{has, append, splice_nonblock}
use Rattle.pl_model.specs.Modes.{reads, writes}
use Rattle.pl_model.specs.Begin.{open_for}
use Rattle.pl_desc.specs.Descs.{Opened}
use Rattle.pl_decisions.specs.Moves.{is_pipe}
use Rattle.pl_state.specs.KernelView.{view_of}
use Rattle.pl_state.specs.Contents.{Contents, core_of}
use Rattle.pl_state.specs.Opens.{Opens}
use Rattle.pl_state.proofs.Known.{Caller, caller}
use Rattle.pl_desc.specs.Rows.{at}
use Rattle.pl_splices.specs.Shares.{way_named, place_in}
use Rattle.pl_splices.proofs.by_call.Sharing.{by_step-same, by_way, way_named-is}
use Rattle.pl_splices.proofs.by_call.Checking.{splice-none, splice-unsourced, splice-untargeted, splice-refused, splice-passes}
use Rattle.pl_splices.proofs.begin.splice.Given.{Over}
use Rattle.pl_splices.proofs.begin.splice.Goals.{After-kernel, In-Some, In-Some-open_for, After-begin_move-arg-1, then-contains, else-contains+then-is_nonblocking_pipe, else-contains+else-is_nonblocking_pipe}
use Rattle.pl_splices.proofs.begin.splice.Goals as goal

abbrev calls : (g : Over) (c : After-kernel g) → Caller g.row.A.Denot
calls g c = caller c.kernel.inside c.kernel.invariant c.args.kernel.now c.kernel.view_is c.args.pid c.requires

source : (g : Over) (c : In-Some g) → Opens (view_of c.kernel.inside) reads c.args.pid c.args.from c.in-Some.source
source g c = subst (λ (z : Contents g.row.A.Denot). Opens z reads c.args.pid c.args.from c.in-Some.source) (sym c.kernel.view_is) (subst (λ z. Opens c.args.kernel.now reads c.args.pid z c.in-Some.source) (to_z-of_z w32 c.args.from c.ranges.from) c.in-Some.ensures.some)

target : (g : Over) (c : In-Some-open_for g) → Opens (view_of c.kernel.inside) writes c.args.pid c.args.to c.in-Some-open_for.target
target g c = subst (λ (z : Contents g.row.A.Denot). Opens z writes c.args.pid c.args.to c.in-Some-open_for.target) (sym c.kernel.view_is) (subst (λ z. Opens c.args.kernel.now writes c.args.pid z c.in-Some-open_for.target) (to_z-of_z w32 c.args.to c.ranges.to) c.in-Some-open_for.ensures.some)

pub returns-then-len-eq0-clause-done : goal.returns-then-len-eq0-clause-done
returns-then-len-eq0-clause-done g c =
    rw (← c.kernel.view_is) (splice-none (calls g (goal.at.returns-then-len-eq0-clause-done g c).After-kernel) c.args.from c.args.from_offset c.args.to c.args.to_offset c.args.len c.args.flags (eq-eqb c.args.len 0 c.if-len-eq0.true))

pub returns-in_default-clause-done : goal.returns-in_default-clause-done
returns-in_default-clause-done g c =
    let none : open_for reads (core_of (view_of c.kernel.inside)) c.args.pid c.args.from ≡ None = subst (λ (z : Contents g.row.A.Denot). open_for reads (core_of z) c.args.pid c.args.from ≡ None) (sym c.kernel.view_is)
    (subst (λ z. open_for reads (core_of c.args.kernel.now) c.args.pid z ≡ None) (to_z-of_z w32 c.args.from c.ranges.from) c.in_default.ensures.none) in
    rw (← c.kernel.view_is) (splice-unsourced (calls g (goal.at.returns-in_default-clause-done g c).After-kernel) c.args.from c.args.from_offset c.args.to c.args.to_offset c.args.len c.args.flags (ne_eqb c.args.len 0 c.if-len-eq0.false) none)

pub returns-in_default-open_for-clause-done : goal.returns-in_default-open_for-clause-done
returns-in_default-open_for-clause-done g c =
    let at_first = goal.at.returns-in_default-open_for-clause-done g c in
    let none : open_for writes (core_of (view_of c.kernel.inside)) c.args.pid c.args.to ≡ None = subst (λ (z : Contents g.row.A.Denot). open_for writes (core_of z) c.args.pid c.args.to ≡ None) (sym c.kernel.view_is)
    (subst (λ z. open_for writes (core_of c.args.kernel.now) c.args.pid z ≡ None) (to_z-of_z w32 c.args.to c.ranges.to) c.in_default-open_for.ensures.none) in
    rw (← c.kernel.view_is) (splice-untargeted (calls g at_first.After-kernel) c.args.from c.args.from_offset c.args.to c.args.to_offset c.args.len c.args.flags (ne_eqb c.args.len 0 c.if-len-eq0.false) c.in-Some.source (source g at_first.In-Some) none)

pub returns-in-Some-splice_fault-clause-done : goal.returns-in-Some-splice_fault-clause-done
returns-in-Some-splice_fault-clause-done g c =
    let at_fault = goal.at.returns-in-Some-splice_fault-clause-done g c in
    let b = target g at_fault.In-Some-open_for in
    let said : Some b.on.opened.flags ≡ Some c.flags.result = sym (ap (option_map (λ (o : Opened). o.flags)) b.on.here) ∙ c.flags.ensures in
    let same : b.on.opened.flags ≡ c.flags.result = cc in
    let appends : has b.on.opened.flags.0 append ≡ c.contains-appends.result = ap (λ (f : OpenFlags). has f.0 append) same ∙ sym (c.contains-appends.ensures tt) in
    rw (← c.kernel.view_is) (splice-refused (calls g at_fault.After-kernel) c.args.from c.args.from_offset c.args.to c.args.to_offset c.args.len c.args.flags (ne_eqb c.args.len 0 c.if-len-eq0.false)
    c.in-Some.source (source g at_fault.In-Some) c.in-Some-open_for.target b c.contains-appends.result appends c.in-Some-splice_fault.errno (sym c.splice_fault.ensures ∙ c.in-Some-splice_fault.is))

-- whether it may not wait
nonblocks : (g : Over) (c : After-begin_move-arg-1 g) → c.if-contains.nonblock ≡ (has c.args.flags.0 splice_nonblock || ((is_pipe c.in-Some.source.node && c.in-Some.source.nonblock) || (is_pipe c.in-Some-open_for.target.node && c.in-Some-open_for.target.nonblock)))
nonblocks g c =
    let flagged = has c.args.flags.0 splice_nonblock in
    let first = is_pipe c.in-Some.source.node && c.in-Some.source.nonblock in
    let second = is_pipe c.in-Some-open_for.target.node && c.in-Some-open_for.target.nonblock in
    elim c.if-contains.branch as (λ _. c.if-contains.nonblock ≡ (flagged || (first || second))) [
      | then-contains w ↦ w.nonblock-is ∙ w.if-contains.true ∙ ap (λ t. t || (first || second)) (sym (sym (c.contains.ensures tt) ∙ w.if-contains.true))
      | else-contains+then-is_nonblocking_pipe w ↦
          w.nonblock-is ∙ w.if-is_nonblocking_pipe.true ∙ (λ i. sym (sym (c.contains.ensures tt) ∙ w.if-contains.false) i || (sym (sym w.is_nonblocking_pipe.ensures ∙ w.if-is_nonblocking_pipe.true) i || second))
      | else-contains+else-is_nonblocking_pipe w ↦
          w.nonblock-is ∙ w.is_nonblocking_pipe-else-is_nonblocking_pipe.ensures ∙ (λ i. sym (sym (c.contains.ensures tt) ∙ w.if-contains.false) i || (sym (sym w.is_nonblocking_pipe.ensures ∙ w.if-is_nonblocking_pipe.false) i || second))
    ]

pub begin_move-requires-clause-begins : goal.begin_move-requires-clause-begins
begin_move-requires-clause-begins g c =
    let at_pass = goal.at.begin_move-requires-clause-begins g c in
    let b = target g at_pass.In-Some-open_for in
    let said : Some b.on.opened.flags ≡ Some c.flags.result = sym (ap (option_map (λ (o : Opened). o.flags)) b.on.here) ∙ c.flags.ensures in
    let same : b.on.opened.flags ≡ c.flags.result = cc in
    let appends : has b.on.opened.flags.0 append ≡ c.contains-appends.result = ap (λ (f : OpenFlags). has f.0 append) same ∙ sym (c.contains-appends.ensures tt) in
    rw (← c.kernel.view_is, to_z-of_z w32 c.args.from c.ranges.from, to_z-of_z w32 c.args.to c.ranges.to) (splice-passes (calls g at_pass.After-kernel) c.args.from c.args.from_offset c.args.to c.args.to_offset c.args.len c.args.flags (ne_eqb c.args.len 0 c.if-len-eq0.false)
    c.in-Some.source (source g at_pass.In-Some) c.in-Some-open_for.target b c.contains-appends.result appends (sym c.splice_fault.ensures ∙ c.in_default-splice_fault.is) c.if-contains.nonblock (nonblocks g c))

pub returns-then-len-eq0-clause-shares : goal.returns-then-len-eq0-clause-shares
returns-then-len-eq0-clause-shares g c = by_step-same c.args.kernel.now (Begin c.args.pid (Call.Splice c.args.from c.args.from_offset c.args.to c.args.to_offset c.args.len c.args.flags))

pub returns-in_default-clause-shares : goal.returns-in_default-clause-shares
returns-in_default-clause-shares g c = by_step-same c.args.kernel.now (Begin c.args.pid (Call.Splice c.args.from c.args.from_offset c.args.to c.args.to_offset c.args.len c.args.flags))

pub returns-in_default-open_for-clause-shares : goal.returns-in_default-open_for-clause-shares
returns-in_default-open_for-clause-shares g c = by_step-same c.args.kernel.now (Begin c.args.pid (Call.Splice c.args.from c.args.from_offset c.args.to c.args.to_offset c.args.len c.args.flags))

pub returns-in-Some-splice_fault-clause-shares : goal.returns-in-Some-splice_fault-clause-shares
returns-in-Some-splice_fault-clause-shares g c = by_step-same c.args.kernel.now (Begin c.args.pid (Call.Splice c.args.from c.args.from_offset c.args.to c.args.to_offset c.args.len c.args.flags))

pub returns-clause-shares : goal.returns-clause-shares
returns-clause-shares g c =
    let at_pass = goal.at.returns-clause-shares g c in
    let k = view_of c.kernel.inside in
    by_way c.args.kernel.now (Begin c.args.pid (Call.Splice c.args.from c.args.from_offset c.args.to c.args.to_offset c.args.len c.args.flags)) _ c.begin_move.new.kernel
    (subst (λ (z : Contents g.row.A.Denot). way_named z c.args.pid c.args.from c.args.to c.args.to_offset ≡ Some (record { from = c.in-Some.source.node; to = c.in-Some-open_for.target.node; place = place_in (at z.opened c.in-Some-open_for.target.key) c.args.to_offset })) c.kernel.view_is
    (way_named-is k c.args.pid c.args.from c.args.to c.args.to_offset c.in-Some.source c.in-Some-open_for.target (source g at_pass.In-Some) (target g at_pass.In-Some-open_for)))
    c.begin_move.ensures.shares
