use Rattle.std.proofs.Common.{◌++◌, ◌∷◌, [], ◌∙◌, ap, sym, take, drop, arith}
use Rattle.std.proofs.lemmas.List.{length-drop}
use Rattle.pl_segments.specs.Slots.{total, solid_of, cut_front}
use Rattle.pl_file.specs.Rows.{index}
use Rattle.pl_file.proofs.Cutting.{here-fits, here-total, rest-here}
use Rattle.pl_file.proofs.cut.rest_cut.Goals as goal

pub overflow_add-result : goal.overflow_add-result
overflow_add-result g c =
    let fits = here-fits c.args.chunks.now.slots (index c.args.chunks.now c.find-here.result) c.get-slot.result c.get-slot.ensures c.requires.within in
    let len = c.min-skipped.ensures in
    omega (arith, fits, len)

pub returns-clause-rest : goal.returns-clause-rest
returns-clause-rest g c =
    let xs = c.args.chunks.now.slots in
    let i = index c.args.chunks.now c.find-here.result in
    let next = c.next.ensures.index in
    let len = c.min-skipped.ensures in
    let start = c.start.ensures in
    let sum = here-total xs i c.get-slot.result c.get-slot.ensures in
    record {
      is =
          rest-here xs i c.get-slot.result c.get-slot.ensures c.args.count c.min-skipped.result c.find-here.ensures.before c.find-here.ensures.after (omega (arith, len, start))
          ∙ ap (λ n. solid_of (cut_front c.min-skipped.result c.get-slot.result ∷ []) ++ drop n xs) (sym next);
      some = λ some.
          let n = length-drop (index c.args.chunks.now c.next.result) xs in
          let after = c.find-here.ensures.after (omega (arith, some, n, next)) in
          omega (arith, len, start, sum, after);
      starts = λ l.
          let after = c.find-here.ensures.after (omega (arith, l, next)) in
          let same = ap (λ n. total (take n xs)) next in
          omega (arith, after, same);
    }
