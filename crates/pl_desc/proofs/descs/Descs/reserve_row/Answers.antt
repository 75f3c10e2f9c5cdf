use Rattle.std.proofs.Common.{ap, ◌∙◌, sym, subst, arith}
use Rattle.pl_desc.specs.Rows.{is_pid}
use Rattle.pl_desc.specs.Descs.{Descs, Room}
use Rattle.pl_desc.specs.Slots.{opened_in, loose_from, IsSound}
use Rattle.pl_desc.specs.DescsView.{view_of}
use Rattle.pl_desc.specs.Ends.{ends_at}
use Rattle.pl_desc.proofs.RowLemmas.{rows-length}
use Rattle.pl_desc.proofs.descs.Descs.reserve_row.Goals as goal

pub reserve_row-requires-clause-place : goal.reserve_row-requires-clause-place
reserve_row-requires-clause-place g c =
    let k = c.self.inside in
    let process = ap (λ d. is_pid d.tables c.args.pid) c.self.view_is ∙ c.requires.process in
    let limit = ap (λ d. d.limits.descriptors) c.self.view_is in
    omega (arith, c.requires.place, limit, rows-length k.tables.tables c.args.pid process c.self.invariant.wide)

pub invariant_of-self : goal.invariant_of-self
invariant_of-self g c =
    let k = c.self.inside in
    subst (λ ts. IsSound k.limits ts k.descriptions.slots (ends_at k.counts)) (sym c.reserve_row.ensures.tables) c.self.invariant

pub returns-clause-kept : goal.returns-clause-kept
returns-clause-kept g c =
    let k = c.self.inside in
    let room : Room = record (view_of k).room { rows = c.reserve_row.new.self.rows } in
    let others : Descs → Descs = λ d. record d { room = room } in
    (λ i. record { tables = c.reserve_row.ensures.tables i; opened = opened_in k.descriptions.slots; loose = loose_from 0 (c.reserve_row.ensures.tables i) k.descriptions.slots; room = room; limits = k.limits })
    ∙ ap others c.self.view_is
