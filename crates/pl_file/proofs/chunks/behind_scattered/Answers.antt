use Rattle.std.proofs.Common.{◌≡◌, ◌<◌, ◌+◌, ◌*◌, ◌/◌, ap, inl, inr, refl, sym, subst, length, arith}
use Rattle.std.proofs.lemmas.Bool.{cases_lt, ltb-true}
use Rattle.std.proofs.lemmas.Option.{slice_get_read}
use Rattle.pl_segments.specs.Slots.{total}
use Rattle.pl_file.specs.Rows.{slots_in}
use Rattle.pl_file.proofs.Chunking.{slots-in}
use Rattle.pl_file.proofs.chunks.behind_scattered.Goals as goal

pub loop-end-preserved : goal.loop-end-preserved
loop-end-preserved g c =
    let inv = c.loop-end.invariant in
    let from = inv.from in
    let test = c.loop-end-test.true in
    let row = c.index-rows-end-then-saturating_sub-lt-BYTES_TOGETHER in
    let here : 16 < length (slots_in c.args.rows.now c.loop-end.end) =
    (let l = ltb-true (2 * (total row.result.slots / 4096) + 16) (length row.result.slots) (sym c.if-is_scattered.ensures) in
    let e = ap length (slots-in c.args.rows.now c.loop-end.end row.result (slice_get_read c.args.rows.now (length c.args.rows.now) c.loop-end.end row.result refl (omega (arith, test)) row.is)) in
    omega (arith, l, e)) in
    record {
      from = omega (arith, from);
      most = omega (arith, test);
      many = λ l. elim (cases_lt c.args.chunk c.loop-end.end) as (λ _. 16 < length (slots_in c.args.rows.now c.args.chunk)) [
        | inl h ↦ inv.many h
        | inr h ↦ (let e : c.loop-end.end ≡ c.args.chunk = omega (arith, h, from) in subst (λ k. 16 < length (slots_in c.args.rows.now k)) e here)
      ];
    }
