use Rattle.std.proofs.Common.{◌∙◌, [], ◌∷◌, ◌++◌, ap, sym, subst, arith}
use Rattle.pl_segments.specs.Segments.{segment_at}
use Rattle.pl_segments.specs.Slices.{all_read}
use Rattle.pl_segments.specs.Turns.{Turns}
use Rattle.pl_segments.specs.Slots.{AllSolid}
use Rattle.pl_segments.proofs.Turning.{turns-same}
use Rattle.pl_segments.proofs.Together.{is-last, one-solid, one-some, both-held, one-turns, one-read}
use Rattle.pl_file.proofs.Patching.{last-there, added-total, added-length}
use Rattle.pl_file.proofs.patch.push_joined.Goals as goal

pub pop-last-requires : goal.pop-last-requires
pop-last-requires g c = last-there c.args.patch.now.slots (λ e. c.if-len-eq0.false (c.last_len-len.ensures ∙ e))

pub join_reserved-joined-requires-clause-held : goal.join_reserved-joined-requires-clause-held
join_reserved-joined-requires-clause-held g c =
    let m = segment_at c.args.store.now in
    both-held m m c.args.patch.now.slots c.pop-last.new.self.slots c.pop-last.result c.pop-last.result c.args.slice c.pop-last.ensures.slots c.requires.held.held

pub join_reserved-joined-requires-clause-some : goal.join_reserved-joined-requires-clause-some
join_reserved-joined-requires-clause-some g c =
    let m = segment_at c.args.store.now in
    one-some m m c.args.patch.now.slots c.pop-last.new.self.slots c.pop-last.result c.pop-last.result c.args.slice c.pop-last.ensures.slots c.requires.held.solid

pub join_reserved-joined-requires-clause-most : goal.join_reserved-joined-requires-clause-most
join_reserved-joined-requires-clause-most g c =
    let m = segment_at c.args.store.now in
    let last = is-last m m c.args.patch.now.slots c.pop-last.new.self.slots c.pop-last.result c.pop-last.result c.args.slice c.pop-last.ensures.slots in
    let len = c.last_len-len.ensures in
    omega (arith, last, len)

pub push-requires-2-clause-room : goal.push-requires-2-clause-room
push-requires-2-clause-room g c =
    let l = added-length c.pop-last.new.self.slots c.args.patch.now.slots c.pop-last.result c.pop-last.ensures.slots in
    omega (arith, l, c.pop-last.ensures.capacity, c.requires.slots)

pub push-requires-2-clause-fits : goal.push-requires-2-clause-fits
push-requires-2-clause-fits g c =
    let t = added-total c.pop-last.new.self.slots c.args.patch.now.slots c.pop-last.result c.pop-last.ensures.slots in
    omega (arith, t, c.pop-last.ensures.base, c.join_reserved-joined.ensures.len, c.requires.fits)

pub returns-clause-patched : goal.returns-clause-patched
returns-clause-patched g c =
    let m = segment_at c.args.store.now in
    let n = segment_at c.join_reserved-joined.new.self in
    let xs = c.args.patch.now.slots in
    let shape = c.pop-last.ensures.slots in
    let both = c.join_reserved-joined.ensures in
    record {
      becomes = record {
        turns = subst (Turns m (xs ++ c.args.slice ∷ []) n) (sym c.push-2.ensures.slots)
            (one-turns m n xs c.pop-last.new.self.slots c.pop-last.result c.join_reserved-joined.result c.args.slice shape c.requires.held.held both.turns);
        read = ap (all_read n) c.push-2.ensures.slots
            ∙ one-read m n xs c.pop-last.new.self.slots c.pop-last.result c.join_reserved-joined.result c.args.slice shape c.requires.held.held both.turns both.reads;
      };
      solid = subst AllSolid (sym c.push-2.ensures.slots)
          (one-solid m m xs c.pop-last.new.self.slots c.pop-last.result c.join_reserved-joined.result c.args.slice shape c.requires.held.solid both.len);
      base = c.push-2.ensures.base ∙ c.pop-last.ensures.base;
      capacity = c.push-2.ensures.capacity ∙ c.pop-last.ensures.capacity;
    }

pub returns-clause-many : goal.returns-clause-many
returns-clause-many g c =
    let a = added-length c.pop-last.new.self.slots c.args.patch.now.slots c.pop-last.result c.pop-last.ensures.slots in
    let b = added-length c.pop-last.new.self.slots c.push-2.new.self.slots c.join_reserved-joined.result c.push-2.ensures.slots in
    omega (arith, a, b)

pub returns-clause-total : goal.returns-clause-total
returns-clause-total g c =
    let a = added-total c.pop-last.new.self.slots c.args.patch.now.slots c.pop-last.result c.pop-last.ensures.slots in
    let b = added-total c.pop-last.new.self.slots c.push-2.new.self.slots c.join_reserved-joined.result c.push-2.ensures.slots in
    omega (arith, a, b, c.join_reserved-joined.ensures.len)

pub returns-then-len-eq0-clause-total : goal.returns-then-len-eq0-clause-total
returns-then-len-eq0-clause-total g c = added-total c.args.patch.now.slots c.push.new.self.slots c.args.slice c.push.ensures.slots

pub returns-then-len-eq0-clause-patched : goal.returns-then-len-eq0-clause-patched
returns-then-len-eq0-clause-patched g c =
    let m = segment_at c.args.store.now in
    let zs = c.args.patch.now.slots ++ c.args.slice ∷ [] in
    record {
      becomes = record {
        turns = subst (Turns m zs m) (sym c.push.ensures.slots) (turns-same m zs c.requires.held.held.lie);
        read = ap (all_read m) c.push.ensures.slots;
      };
      solid = subst AllSolid (sym c.push.ensures.slots) c.requires.held.solid;
      base = c.push.ensures.base;
      capacity = c.push.ensures.capacity;
    }
