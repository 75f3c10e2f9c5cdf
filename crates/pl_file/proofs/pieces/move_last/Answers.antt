use Rattle.std.proofs.Common.{◌≡◌, ℕ, ◌+◌, ◌-◌, ◌++◌, ◌∙◌, ap, length, take, drop, arith}
use Rattle.pl_file.proofs.Splitting.{moved, turned-length}
use Rattle.pl_file.proofs.pieces.move_last.Goals as goal

pub returns : goal.returns
returns g c =
    let xs = c.args.rows.now.items in
    let first = c.args.first in
    let last = c.args.last in
    let len = c.args.len in
    let ys = c.rotate.new.rows.items in
    let zs = c.rotate-2.new.rows.items in
    let ok = c.args.rows.now.ok.0 in
    let ok2 = c.rotate-2.new.rows.ok.0 in
    let n = c.len.ensures in
    let m = c.len-2.ensures in
    let added : c.len.result - len ≡ length xs - len = omega (arith, n, ok) in
    let gone : last + (c.len.result - len) - (first + (c.len.result - len)) ≡ last - first = omega (arith, c.requires.order) in
    let one = c.rotate.ensures in
    let two = c.rotate-2.ensures ∙ (λ i. take (first + added i) ys ++ (drop (gone i) (drop (first + added i) ys) ++ take (gone i) (drop (first + added i) ys))) in
    let ly = ap length one ∙ turned-length xs first (len - first) in
    let lz = ap length two ∙ turned-length ys (first + (length xs - len)) (last - first) in
    let left : c.len-2.result - (last - first) ≡ length xs - (last - first) = omega (arith, m, ok2, ly, lz) in
    c.truncate.ensures.items ∙ ap (λ (k : ℕ). take k zs) left ∙ moved xs first last len c.requires.order c.requires.last c.requires.most ys zs one two
