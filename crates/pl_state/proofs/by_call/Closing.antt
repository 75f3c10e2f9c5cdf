-- What a close comes to at the kernel's keys.
use Rattle.std.proofs.Common.{◌≡◌, ℕ, ◌+◌, Bool, true, false, cond, Option, Some, None, refl, ◌∙◌, ap, nat_eq, nat_lt, arith, sym, w32, to_z, of_z, IsSome}
use Rattle.std.proofs.lemmas.Int.{to_z-of_z}
use Rattle.std.specs.Prelude.{FitsSigned, if◌then◌else◌, ℤ, pos, negsuc}
use Rattle.pl_model.specs.declared.calls.Call.{Call}
use Rattle.pl_model.specs.declared.calls.Step.{Step}
use Rattle.pl_model.specs.declared.calls.Step.TheVariants.{Begin}
use Rattle.pl_model.specs.declared.replies.Reply.TheVariants.{Fault}
use Rattle.pl_model.specs.declared.replies.Reply.TheVariants as reply
use Rattle.pl_model.specs.declared.replies.Errno.TheVariants.{EBADF}
use Rattle.pl_model.specs.Numbers.{most_descriptors}
use Rattle.pl_model.specs.State.{Core, Open}
use Rattle.pl_model.specs.Settle.{settle}
use Rattle.pl_model.specs.Trial.{Begins, found, answered}
use Rattle.pl_model.specs.Tables.{close_row}
use Rattle.pl_model.specs.Begin.{begin_close, natural}
use Rattle.pl_model.specs.Step.{begin, ended, stepped}
use Rattle.pl_model.specs.Numbered.{numbers}
use Rattle.pl_desc.specs.Rows.{at, Tables, is_pid, row_at, row_of, count_at, change_count, one_more, with_row, without_row}
use Rattle.pl_desc.specs.Descs.{Opened, Descs, IsTidy, holders}
use Rattle.pl_state.specs.Contents.{Contents, contents, core_of}
use Rattle.pl_state.specs.Sound.{keeping}
use Rattle.pl_state.specs.Makes.{MakesAtKeys}
use Rattle.pl_state.proofs.Known.{Known, Caller, parts_of}
use Rattle.pl_state.proofs.by_call.Begun.{open-none, open-is, does_plain, does_same, step-refused, step-answered, there}
use Rattle.pl_state.proofs.holders.GivenUp.{GivesUp}

-- a row of any whole number is one of the table, and without it the table is as the machine has it
pub without_row-is : (tables : Tables) (pid : ℕ) (fd : ℤ) (d : ℕ) → row_of tables pid fd ≡ Some d → without_row (row_at tables) pid fd ≡ with_row (row_at tables) pid (natural fd) None
without_row-is tables pid (pos n) d e = refl
without_row-is tables pid (negsuc n) d e = absurd (cc)

pub row_there : (tables : Tables) (pid : ℕ) (fd : ℤ) (d : ℕ) → row_of tables pid fd ≡ Some d → row_at tables pid (natural fd) ≡ Some d
row_there tables pid (pos n) d e = by (nat_lt n most_descriptors) e where
  by : (b : Bool) → (if b then row_at tables pid n else None) ≡ Some d → row_at tables pid n ≡ Some d
  by true h = h
  by false h = absurd (cc)
row_there tables pid (negsuc n) d e = absurd (cc)

-- the row that the code finds, at the bits of a whole number
pub row_found : (tables : Tables) (pid : ℕ) (fd : ℤ) → FitsSigned w32 fd → (found : Option ℕ) → found ≡ row_of tables pid (to_z w32 (of_z w32 fd)) → row_of tables pid fd ≡ found
row_found tables pid fd fits found is = ap (row_of tables pid) (sym (to_z-of_z w32 fd fits)) ∙ sym is

-- what a descriptor names is open
pub named_there : {A : Type 0} (m : Known A) (pid : ℕ) (fd : ℤ) (key : ℕ) → row_of m.descs.tables pid fd ≡ Some key → IsSome (at m.descs.opened key)
named_there m pid fd key row = m.are.tidy.named pid (natural fd) key (row_there m.descs.tables pid fd key row)

pub open_here : {A : Type 0} (m : Known A) (pid : ℕ) (fd : ℤ) (key : ℕ) → row_of m.descs.tables pid fd ≡ Some key → (o : Opened) × (at m.descs.opened key ≡ Some o)
open_here m pid fd key row = there (at m.descs.opened key) (named_there m pid fd key row)

-- a row gave up its key, which is loose
module _ {A : Type 0} (m : Known A) (pid fd d : ℕ) where
  open m use {descs, nodes, calls, limits, sound, are}

  pub close-gives : (loosed : Descs) → row_at loosed.tables ≡ with_row (row_at descs.tables) pid fd None → is_pid loosed.tables ≡ is_pid descs.tables → count_at loosed.loose ≡ change_count d one_more (count_at descs.loose)
      → holders loosed ≡ holders descs → loosed.opened ≡ descs.opened → loosed.limits ≡ descs.limits → IsTidy loosed → GivesUp (parts_of m) (close_row (core_of (contents descs nodes calls limits)) pid fd) d loosed calls
  unfolding core_of
  close-gives loosed rows pids loose holds same bounds tidy = record {
    alike = record { descriptions = refl; files = refl; names = refl };
    pipes_as_before = refl;
    agrees = record { processes = pids; rows = rows; parked = refl; next_call = refl; limits = refl };
    opened = same;
    tidy = tidy;
    bounds = bounds;
    held_as_before = λ q. (λ i. nat_lt 0 (holds i q));
    loose = λ q. (λ i. loose i q) ∙ more (nat_eq d q) (count_at descs.loose q) (keeping calls.calls q) (are.counted q);
    rise = sound.rise;
    numbered = sound.numbered;
  }
    where
      more : (b : Bool) (n m : ℕ) → n ≡ m → cond b (n + 1) n ≡ m + cond b 1 0
      more true n m e = omega (arith, e)
      more false n m e = omega (arith, e)

module _ {A : Type 0} (m : Caller A) (fd : ℤ) where
  open m use {kernel, descs, nodes, calls, limits, sound, are, pid, process}

  abbrev k : Contents A
  k = contents descs nodes calls limits

  abbrev c : Core A numbers
  c = core_of k

  abbrev call : Call A
  call = Call.Close fd

  abbrev x : Step A
  x = Begin pid call

  abbrev opened : Option (Open numbers) → Begins A numbers
  opened o = found o EBADF (λ o. answered (close_row c pid (natural fd)) reply.Unit)

  pub close-closed : row_of descs.tables pid fd ≡ None → MakesAtKeys k x (Fault EBADF) k
  unfolding begin begin_close
  close-closed none = does_same k sound x (stepped c (Fault EBADF)) (Fault EBADF) (step-refused k pid call process EBADF (ap opened (open-none k pid fd none))) refl refl

  module _ (d : ℕ) (row : row_of descs.tables pid fd ≡ Some d) where
    abbrev u : Core A numbers
    u = close_row c pid (natural fd)

    pub close-closes : (new : Contents A) → core_of new ≡ settle c u → MakesAtKeys k x reply.Unit new
    unfolding begin begin_close
    close-closes new settles =
        let o = open_here kernel pid fd d row in
        does_plain k new x (ended c (stepped u reply.Unit)) reply.Unit (step-answered k pid call process u reply.Unit (ap opened (open-is k pid fd d o.0 row o.1))) refl settles
