use Rattle.std.proofs.Common.{◌≡◌, ◌+◌, ◌-◌, ◌≤◌, length, drop, rules, sym, ap, ◌∙◌, arith}
use Rattle.std.proofs.lemmas.List.{drop-drop}
use Rattle.pl_script.proofs.WriteLemmas.{appends_more}
use Rattle.pl_script.proofs.writing.write_whole.Goals as goal

pub loop-rest-preserved : goal.loop-rest-preserved
loop-rest-preserved g c =
    let bytes = c.args.bytes.now in
    let rest = c.loop-rest.rest.now in
    let count = c.in-Ok.count in
    let n = length bytes - length rest in
    let len : length c.split_at.result.1.now + count ≡ length rest = c.split_at.ensures.back_len in
    let shorter : length rest ≤ length bytes = c.loop-rest.invariant.shorter in
    let m-is : length bytes - length c.split_at.result.1.now ≡ (length bytes - length rest) + count = omega arith in
    record {
      shorter = omega arith;
      rest = c.split_at.ensures.back ∙ ap (drop count) c.loop-rest.invariant.rest ∙ drop-drop count (length bytes - length rest) bytes ∙ ap (λ k. drop k bytes) (sym m-is);
      written = appends_more _ _ _ bytes rest (length bytes - length rest) count _ c.loop-rest.invariant.written c.in-Ok.ensures.bytes c.loop-rest.invariant.rest m-is;
      kept = search rules;
    }
