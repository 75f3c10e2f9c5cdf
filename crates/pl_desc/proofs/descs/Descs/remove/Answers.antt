use Rattle.std.proofs.Common.{◌≡◌, Some, ap, ◌∙◌, sym, subst, None, true, ◌<◌, arith, w32, to_z, of_z}
use Rattle.std.proofs.lemmas.Int.{to_z-of_z}
use Rattle.std.specs.Prelude.{ℤ, pos, is_some}
use lib.IntN.{nat_abs}
use lib.Dec.{T}
use lib.Signed.{non_neg}
use Rattle.std.proofs.Math.Path.{fun_ext}
use Rattle.pl_model.specs.Numbers.{most_descriptors}
use Rattle.pl_desc.specs.Descs.{holders}
use Rattle.pl_desc.proofs.Sound.{holders-are, tidy}
use Rattle.pl_desc.specs.Rows.{is_pid, rows_of, row_at, row_of, with_row, without_row, count_at, change_count, one_more}
use Rattle.pl_desc.specs.Slots.{loose_from, IsSound}
use Rattle.pl_desc.proofs.RowLemmas.{within, rows-length, row_of-some}
use Rattle.pl_desc.proofs.Steps.{sound-closed, loose-closed, pids-put, rows-put}
use Rattle.pl_desc.proofs.Known.{Known, known}
use Rattle.pl_desc.proofs.descs.Descs.remove.Given.{Over}
use Rattle.pl_desc.proofs.descs.Descs.remove.Goals.{After-clear-arg-1, After-clear}
use Rattle.pl_desc.proofs.descs.Descs.remove.Goals as goal

-- an open descriptor has a place
found : (g : Over) (c : After-clear-arg-1 g) → (nat_abs (to_z w32 (of_z w32 c.args.fd)) < most_descriptors) × (row_at c.self.inside.tables.tables c.args.pid (nat_abs (to_z w32 (of_z w32 c.args.fd))) ≡ Some c.in_ok-key.key) × (to_z w32 (of_z w32 c.args.fd) ≡ pos (nat_abs (to_z w32 (of_z w32 c.args.fd)))) × (is_pid c.self.inside.tables.tables c.args.pid ≡ true)
found g c =
    let z = to_z w32 (of_z w32 c.args.fd) in
    row_of-some c.self.inside.tables.tables c.args.pid c.in_ok-key.key z (ap (λ d. row_of d.tables c.args.pid z) c.self.view_is ∙ sym c.in_ok-key.ensures)

-- an open descriptor is closed
module _ (g : Over) (c : After-clear g) where
  abbrev m : Known
  m = known c.self.inside c.self.invariant

  abbrev z : ℤ
  z = to_z w32 (of_z w32 c.args.fd)

  named : row_of m.tables c.args.pid z ≡ Some c.in_ok-key.key
  named = ap (λ d. row_of d.tables c.args.pid z) c.self.view_is ∙ sym c.in_ok-key.ensures

  place : nat_abs z < m.limits.descriptors
  place =
      let row = row_of-some m.tables c.args.pid c.in_ok-key.key z named in
      subst (λ n. nat_abs z < n) (rows-length m.tables c.args.pid row.3 m.sound.wide) (within (rows_of m.tables c.args.pid) (nat_abs z) (ap is_some row.1))

  closed : IsSound m.limits c.clear.new.self.tables m.slots m.ends
  closed =
      let row = row_of-some m.tables c.args.pid c.in_ok-key.key z named in
      subst (λ ts. IsSound m.limits ts m.slots m.ends) (sym (ap (λ t. t.tables) c.clear.ensures)) (sound-closed m c.args.pid (nat_abs z) row.3 place c.in_ok-key.key row.1)

pub invariant_of-self : goal.invariant_of-self
invariant_of-self g c = closed g c

pub returns-clause-rows : goal.returns-clause-rows
returns-clause-rows g c =
    let row = row_of-some c.self.inside.tables.tables c.args.pid c.in_ok-key.key (z g c) (named g c) in
    ap (λ t. row_at t.tables) c.clear.ensures ∙ rows-put (m g c) c.args.pid (nat_abs (z g c)) row.3 (place g c) None
    ∙ ap (λ d. with_row (row_at d.tables) c.args.pid (nat_abs (z g c)) None) c.self.view_is
    ∙ ap (without_row (row_at c.args.self.now.tables) c.args.pid) (sym row.2 ∙ to_z-of_z w32 c.args.fd c.ranges.fd)

pub returns-clause-pids : goal.returns-clause-pids
returns-clause-pids g c =
    let m = m g c in
    let row = row_of-some m.tables c.args.pid c.in_ok-key.key (z g c) (named g c) in
    ap (λ t. is_pid t.tables) c.clear.ensures ∙ pids-put m c.args.pid (nat_abs (z g c)) row.3 (place g c) None ∙ ap (λ d. is_pid d.tables) c.self.view_is

pub returns-clause-loose : goal.returns-clause-loose
returns-clause-loose g c =
    let k = c.self.inside in
    let row = row_of-some k.tables.tables c.args.pid c.in_ok-key.key (z g c) (named g c) in
    ap (λ t. count_at (loose_from 0 t.tables k.descriptions.slots)) c.clear.ensures
    ∙ loose-closed (m g c) c.args.pid (nat_abs (z g c)) row.3 (place g c) c.in_ok-key.key row.1
    ∙ ap (λ d. change_count c.in_ok-key.key one_more (count_at d.loose)) c.self.view_is

pub returns-clause-holders : goal.returns-clause-holders
returns-clause-holders g c =
    let m = m g c in
    fun_ext (λ q. holders-are _ m.slots m.ends (closed g c) q ∙ sym (holders-are m.tables m.slots m.ends m.sound q)) ∙ ap (λ d. holders d) c.self.view_is

pub returns-clause-tidy : goal.returns-clause-tidy
returns-clause-tidy g c = tidy _ _ _ (invariant_of-self g c) _

pub clear-requires-clause-open : goal.clear-requires-clause-open
clear-requires-clause-open g c =
    let f = found g c in
    ap is_some f.1

pub overflow_cast-fd : goal.overflow_cast-fd
overflow_cast-fd g c =
    let i = (found g c).2 in
    (subst (λ z. T (non_neg z)) (sym i) tt, omega (arith, (found g c).0))
