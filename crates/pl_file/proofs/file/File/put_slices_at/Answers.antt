use Rattle.std.proofs.Common.{◌≡◌, ◌∙◌, ◌+◌, ◌-◌, ap, sym, subst, length, take, min, arith}
use Rattle.std.proofs.lemmas.List.{length-take, take_min}
use Rattle.pl_segments.specs.Segments.{segment_at}
use Rattle.pl_segments.specs.Slices.{all_read}
use Rattle.pl_segments.specs.Slots.{total, solid_of, drop_bytes, front_of}
use Rattle.pl_segments.specs.Turns.{Turns}
use Rattle.pl_segments.proofs.Turning.{turns-same}
use Rattle.pl_segments.proofs.SlotLemmas.{total-read}
use Rattle.pl_file.specs.File.{written}
use Rattle.pl_file.specs.Joined.{between}
use Rattle.pl_file.proofs.Editing.{written-none}
use Rattle.pl_file.proofs.file.File.put_slices_at.Goals as goal

pub returns-then-count-eq0-clause-becomes : goal.returns-then-count-eq0-clause-becomes
returns-then-count-eq0-clause-becomes g c =
    let m = segment_at c.args.store.now in
    let bytes = all_read m c.args.slices.now in
    let l = length-take (c.args.most - c.args.place) bytes in
    let t = total-read m c.args.slices.now c.requires.lie in
    let v = c.in_ok-count.ensures.value in
    let n = c.len_of.ensures in
    let s = ap total c.as_slice-slices.ensures in
    let z = c.if-count-eq0.true in
    record {
      turns = turns-same m c.args.self.now c.requires.held.lie;
      read = sym (written-none c.args.place (take (c.args.most - c.args.place) bytes) (all_read m c.args.self.now) (omega (arith, l, t, v, n, s, z)));
    }

pub returns-then-count-eq0-clause-between : goal.returns-then-count-eq0-clause-between
returns-then-count-eq0-clause-between g c = λ here. record { slots = λ some. absurd (omega (arith, some)); in_use = omega arith }

pub returns-clause-becomes : goal.returns-clause-becomes
returns-clause-becomes g c =
    let m = segment_at c.args.store.now in
    let bytes = all_read m c.args.slices.now in
    let count : c.in_ok-count.count ≡ min (c.args.most - c.args.place) (length bytes) =
    (let t = total-read m c.args.slices.now c.requires.lie in let v = c.in_ok-count.ensures.value in let n = c.len_of.ensures in let s = ap total c.as_slice-slices.ensures in omega (arith, t, v, n, s)) in
    let put : take c.in_ok-count.count (all_read m c.as_slice-slices.result.now) ≡ take (c.args.most - c.args.place) bytes =
    (λ i. take (count i) (all_read m (c.as_slice-slices.ensures i))) ∙ take_min (c.args.most - c.args.place) bytes in
    let done = c.in-Ok.ensures.becomes in
    record {
      turns = subst (λ xs. Turns m xs (segment_at c.put.new.store) c.put.new.chunks.slots) c.self.view_is done.turns;
      read = done.read ∙ (λ i. written c.args.place (put i) (all_read m (c.self.view_is i)));
    }

pub returns-clause-between : goal.returns-clause-between
returns-clause-between g c = λ here.
    let place = c.args.place in
    let count = c.in_ok-count.count in
    let within = ap total c.self.view_is in
    let done = c.in-Ok.ensures.between (omega (arith, here, within)) in
    record {
      slots = λ some. done.slots some ∙ (λ i. between (front_of place (c.self.view_is i)) (solid_of (front_of count (c.as_slice-slices.ensures i))) (drop_bytes (place + count) (c.self.view_is i)));
      in_use = done.in_use;
    }
