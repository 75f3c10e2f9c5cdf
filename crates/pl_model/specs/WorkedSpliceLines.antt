-- What lines of splices and tees ask, in small examples.
use Rattle.std.specs.Prelude.{◌≡◌, pos, neg_ℤ, Some, None, codes}
use Rattle.pl_model.specs.declared.calls.Call.{Call}
use Rattle.pl_model.specs.declared.calls.Step.TheVariants.{Begin}
use Rattle.pl_model.specs.declared.script.Line.TheVariants.{Do}
use Rattle.pl_model.specs.declared.script.Version.TheVariants.{One}
use Rattle.pl_model.specs.Words.{as_splice_flags}
use Rattle.pl_model.specs.Lines.{line}

-- the lines that splice and tee, and those that do neither
pub record LinesOfSplices (A : Type 0) : Type 0 where
  pub plain : line {A = A} One (codes "1 splice 0 - 3 - 5") ≡ Some (Some (Do (Begin 1 (Call.Splice (pos 0) None (pos 3) None 5 (as_splice_flags 0)))))
  -- an offset may be larger than any that is taken, as a descriptor may be none
  pub offsets :
      line {A = A} One (codes "1 splice 2 18446744073709551615 -1 010 4294967295")
      ≡ Some (Some (Do (Begin 1 (Call.Splice (pos 2) (Some 18446744073709551615) (neg_ℤ (pos 1)) (Some 10) 4294967295 (as_splice_flags 0)))))
  pub flags :
      line {A = A} One (codes "7 splice 0 1 2 3 4 gift,more,nonblock,move,more")
      ≡ Some (Some (Do (Begin 7 (Call.Splice (pos 0) (Some 1) (pos 2) (Some 3) 4 (as_splice_flags 15)))))
  pub one_flag : line {A = A} One (codes "1 splice 0 - 1 - 5 nonblock") ≡ Some (Some (Do (Begin 1 (Call.Splice (pos 0) None (pos 1) None 5 (as_splice_flags 2)))))
  pub far_offset : line {A = A} One (codes "1 splice 0 18446744073709551616 1 - 5") ≡ None
  pub no_offset : line {A = A} One (codes "1 splice 0 -1 1 - 5") ≡ None
  pub no_len : line {A = A} One (codes "1 splice 0 - 1 -") ≡ None
  pub dash_for_len : line {A = A} One (codes "1 splice 0 - 1 - -") ≡ None
  pub dash_for_flags : line {A = A} One (codes "1 splice 0 - 1 - 5 -") ≡ None
  pub flag_of_an_open : line {A = A} One (codes "1 splice 0 - 1 - 5 append") ≡ None
  pub two_lists : line {A = A} One (codes "1 splice 0 - 1 - 5 move more") ≡ None
  pub tee : line {A = A} One (codes "1 tee 0 3 5") ≡ Some (Some (Do (Begin 1 (Call.Tee (pos 0) (pos 3) 5 (as_splice_flags 0)))))
  pub tee_flags : line {A = A} One (codes "1 tee 0 3 5 move,gift") ≡ Some (Some (Do (Begin 1 (Call.Tee (pos 0) (pos 3) 5 (as_splice_flags 9)))))
  pub tee_no_len : line {A = A} One (codes "1 tee 0 3") ≡ None
  pub tee_offset : line {A = A} One (codes "1 tee 0 - 3 - 5") ≡ None
