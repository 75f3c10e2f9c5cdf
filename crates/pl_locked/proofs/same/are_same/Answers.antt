use Rattle.std.proofs.Common.{◌≡◌, nat_eq, ap}
use Rattle.std.proofs.lemmas.Bool.Decides.{Decides-eqb}
use Rattle.std.proofs.lemmas.Slice.Eq.{slice_eq-Decides}
use Rattle.std.specs.Bool.{Decides}
use Rattle.pl_model.specs.declared.flags.PollMask.{PollMask}
use Rattle.pl_locked.proofs.same.are_same.Goals as goal

-- two masks are equal where their bits are
same_bits : (m n : PollMask) → Decides (nat_eq m.0 n.0) (m ≡ n)
same_bits m n = (λ e. let d = (Decides-eqb m.0 n.0).0 e in λ i. record { 0 = d i }, λ e. (Decides-eqb m.0 n.0).1 (ap (λ (x : PollMask). x.0) e))

pub returns : goal.returns
returns c = slice_eq-Decides same_bits _ _ _ c.eq.ensures
