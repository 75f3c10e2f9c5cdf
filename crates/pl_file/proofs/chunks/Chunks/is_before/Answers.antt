use Rattle.std.proofs.Common.{◌<◌, ◌∙◌, ap, sym, arith}
use Rattle.std.proofs.lemmas.Bool.{lt-ltb, le-ltb, ne_eqb}
use Rattle.pl_file.specs.Rows.{index_of}
use Rattle.pl_file.proofs.Chunking.{same-lt, index-less, index-plus}
use Rattle.pl_file.proofs.chunks.Chunks.is_before.Goals as goal

pub returns-then-spot-other : goal.returns-then-spot-other
returns-then-spot-other g c =
    let ns = c.args.self.now.lens in
    let a = c.args.spot in
    let b = c.args.other in
    let l = c.if-spot-other.true in
    lt-ltb a.chunk b.chunk l ∙ sym (lt-ltb (index_of ns a.chunk a.at) (index_of ns b.chunk b.at) (index-less ns a.chunk a.at b.chunk b.at c.requires.spot c.requires.other l))

pub returns-then-spot-other-2 : goal.returns-then-spot-other-2
returns-then-spot-other-2 g c =
    let ns = c.args.self.now.lens in
    let a = c.args.spot in
    let b = c.args.other in
    let e = ap (λ n. index_of ns n 0) c.if-spot-other-2.true in
    let p = index-plus ns a.chunk a.at in
    let q = index-plus ns b.chunk b.at in
    same-lt a.at b.at (index_of ns a.chunk a.at) (index_of ns b.chunk b.at) (λ l. omega (arith, l, e, p, q)) (λ l. omega (arith, l, e, p, q))

pub returns-else-spot-other-2 : goal.returns-else-spot-other-2
returns-else-spot-other-2 g c =
    let ns = c.args.self.now.lens in
    let a = c.args.spot in
    let b = c.args.other in
    let not = c.if-spot-other.false in
    let other = c.if-spot-other-2.false in
    let l : index_of ns b.chunk b.at < index_of ns a.chunk a.at = index-less ns b.chunk b.at a.chunk a.at c.requires.other c.requires.spot (omega (arith, not, other)) in
    ne_eqb a.chunk b.chunk other ∙ sym (le-ltb (index_of ns a.chunk a.at) (index_of ns b.chunk b.at) (omega (arith, l)))
