use Rattle.std.proofs.Common.{ap, ◌∙◌, sym, subst}
use Rattle.pl_desc.specs.Descs.{Descs, Room}
use Rattle.pl_desc.specs.Slots.{opened_in, loose_from, IsSound}
use Rattle.pl_desc.specs.DescsView.{view_of}
use Rattle.pl_desc.specs.Ends.{ends_at}
use Rattle.pl_desc.proofs.descs.Descs.trim_rows.Goals as goal

pub invariant_of-self : goal.invariant_of-self
invariant_of-self g c =
    let k = c.self.inside in
    subst (λ ts. IsSound k.limits ts k.descriptions.slots (ends_at k.counts)) (sym c.trim_rows.ensures) c.self.invariant

pub returns : goal.returns
returns g c =
    let k = c.self.inside in
    let room : Room = record (view_of k).room { rows = c.trim_rows.new.self.rows } in
    let others : Descs → Descs = λ d. record d { room = room } in
    (λ i. record { tables = c.trim_rows.ensures i; opened = opened_in k.descriptions.slots; loose = loose_from 0 (c.trim_rows.ensures i) k.descriptions.slots; room = room; limits = k.limits })
    ∙ ap others c.self.view_is
