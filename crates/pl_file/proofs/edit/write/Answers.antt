use Rattle.std.proofs.Common.{◌≡◌, List, ◌∙◌, sym, subst, length, arith}
use Rattle.std.specs.Prelude.{OnOk}
use Rattle.std.proofs.lemmas.Result.{on_err_weaker}
use Rattle.pl_segments.specs.declared.slice.Slice.{Slice}
use Rattle.pl_segments.specs.Segments.{Segments, segment_at}
use Rattle.pl_segments.proofs.Turning.{holds-turned}
use Rattle.pl_file.specs.File.{written}
use Rattle.pl_file.specs.Written.{Becomes, IsFile}
use Rattle.pl_file.proofs.edit.write.Given.{Over}
use Rattle.pl_file.proofs.edit.write.Goals.{Then-branch, Else-branch}
use Rattle.pl_segments.specs.Slices.{all_read}
use Rattle.pl_segments.proofs.SlotLemmas.{total-read}
use Rattle.pl_file.specs.Added.{Adds, IsAdded}
use Rattle.pl_file.proofs.Editing.{written-end}
use Rattle.pl_file.proofs.edit.write.Goals as goal

-- the bytes were added at the end
module _ (g : Over) (c : Then-branch g) where
  done : Adds (segment_at c.args.store.now) c.args.chunks.now.slots c.args.bytes.now (segment_at c.append.new.store) c.append.new.chunks.slots
  done = subst (λ b. IsAdded (segment_at c.args.store.now) c.args.chunks.now.slots c.args.bytes.now b (segment_at c.append.new.store) c.append.new.chunks.slots) c.if-branch.true c.in_ok-append.ensures.added

pub returns-then-branch-clause-becomes : goal.returns-then-branch-clause-becomes
returns-then-branch-clause-becomes g c =
    let m = segment_at c.args.store.now in
    let xs = c.args.chunks.now.slots in
    let old = all_read m xs in
    let end : c.args.place ≡ length old = (let e = c.if-place-end.false in let d = c.end.ensures in let t = total-read m xs c.requires.file.held.lie in omega (arith, e, d, t)) in
    let added = done g (goal.at.returns-then-branch-clause-becomes g c).Then-branch in
    record { turns = added.turns; read = added.read ∙ sym (written-end c.args.place c.args.bytes.now old c.requires.some end) }

pub returns-then-branch-clause-file : goal.returns-then-branch-clause-file
returns-then-branch-clause-file g c =
    let m = segment_at c.args.store.now in
    let xs = c.args.chunks.now.slots in
    let added = done g (goal.at.returns-then-branch-clause-file g c).Then-branch in
    record {
      held = holds-turned m (segment_at c.append.new.store) xs c.append.new.chunks.slots c.requires.file.held added.turns;
      solid = added.solid;
      within = added.within;
      most = omega (arith, added.total, c.if-place-end.false, c.end.ensures, c.requires.fits);
    }

-- nothing was added, and all is as it was
module _ (g : Over) (c : Else-branch g) where
  slots : c.append.new.chunks.slots ≡ c.args.chunks.now.slots
  slots = subst (λ b. IsAdded (segment_at c.args.store.now) c.args.chunks.now.slots c.args.bytes.now b (segment_at c.append.new.store) c.append.new.chunks.slots) c.if-branch.false c.in_ok-append.ensures.added

  store : c.append.new.store ≡ c.args.store.now
  store = c.in_ok-append.ensures.none c.if-branch.false

pub write_within-requires-2-clause-file : goal.write_within-requires-2-clause-file
write_within-requires-2-clause-file g c =
    let k = (goal.at.write_within-requires-2-clause-file g c).Else-branch in
    subst (λ (s : Segments). IsFile (segment_at s) c.append.new.chunks.slots) (sym (store g k)) (subst (IsFile (segment_at c.args.store.now)) (sym (slots g k)) c.requires.file)

pub returns-clause-becomes : goal.returns-clause-becomes
returns-clause-becomes g c =
    let k = (goal.at.returns-clause-becomes g c).Else-branch in
    let n = segment_at c.write_within-2.new.store in
    let ys = c.write_within-2.new.chunks.slots in
    let new = written c.args.place c.args.bytes.now in
    subst (λ (xs : List Slice). OnOk c.write_within-2.result (Becomes (segment_at c.args.store.now) xs n ys (new (all_read (segment_at c.args.store.now) xs)))) (slots g k)
    (subst (λ (s : Segments). OnOk c.write_within-2.result (Becomes (segment_at s) c.append.new.chunks.slots n ys (new (all_read (segment_at s) c.append.new.chunks.slots)))) (store g k) c.write_within-2.ensures.becomes)

pub returns-clause-unchanged : goal.returns-clause-unchanged
returns-clause-unchanged g c =
    let k = (goal.at.returns-clause-unchanged g c).Else-branch in
    on_err_weaker c.write_within-2.result (λ same. (same.0 ∙ slots g k, same.1 ∙ store g k)) c.write_within-2.ensures.unchanged
