use Rattle.std.proofs.Common.{◌≡◌, ℕ, ◌+◌, ◌-◌, ◌≤◌, None, ap, sym, ◌∙◌, length, arith}
use Rattle.std.specs.Prelude.{if◌then◌else◌, false, nat_eq}
use Rattle.pl_masks.specs.Masks.{has}
use Rattle.pl_desc.specs.Rows.{at}
use Rattle.pl_desc.specs.TableView.{named_all}
use Rattle.pl_desc.proofs.TableLemmas.{at-cut}
use Rattle.pl_desc.proofs.TableSteps.{length-named}
use Rattle.pl_desc.proofs.Vacant.{vacant-fewer}
use Rattle.pl_desc.proofs.rows.trim.Goals as goal

pub loop-keys-preserved : goal.loop-keys-preserved
loop-keys-preserved g c =
    let keys = c.loop-keys.keys.items in
    let less = c.truncate.new.self.items in
    let so_far = c.loop-keys.invariant in
    let row = c.len-row.result - 1 in
    let long : length keys ≡ row + 1 = omega (arith, c.len-row.ensures, c.loop-keys-test.true, c.len-in-loop-keys.ensures) in
    let left : length less ≡ row = omega (arith, c.truncate.ensures.len, long) in
    let free : (k : ℕ) → row ≤ k → at (named_all keys) k ≡ None = λ k l. so_far.same k ∙ ap (λ xs. at (named_all xs) k) (sym c.deref.ensures.value) ∙ c.used-used.ensures.free k (omega (arith, l, long, c.loop-keys-test.true, c.len-in-loop-keys.ensures, c.max-kept.ensures)) in
    let same : (k : ℕ) → at (named_all less) k ≡ at (named_all keys) k = λ k. ap (λ xs. at (named_all xs) k) c.truncate.ensures.items ∙ at-cut keys row free k in
    record {
      fewer = omega (arith, left, long, so_far.fewer);
      same = λ k. same k ∙ so_far.same k;
      vacant = vacant-fewer (named_all keys) c.loop-keys.free so_far.vacant (named_all less) c.remove.new.self
          (omega (arith, long, left, length-named keys, length-named less)) same
          (λ n. c.remove.ensures.value n ∙ ap (λ row. if nat_eq n row then false else has c.loop-keys.free n) (sym (length-named less ∙ left)))
          c.remove.ensures.places;
    }
