-- What a seek comes to at the kernel's keys.
use Rattle.std.proofs.Common.{◌≡◌, ℕ, List, [], Option, Some, None, refl, ◌∙◌, ap, length}
use Rattle.std.specs.Prelude.{ℤ, pos, ◌+ℤ◌, nat_lt, Ok, Err, unwrap_or}
use Rattle.pl_model.specs.declared.calls.Call.{Call}
use Rattle.pl_model.specs.declared.calls.Step.{Step}
use Rattle.pl_model.specs.declared.calls.Step.TheVariants.{Begin}
use Rattle.pl_model.specs.declared.calls.Whence.{Whence}
use Rattle.pl_model.specs.declared.calls.Whence.TheVariants.{Set, Cur, End}
use Rattle.pl_model.specs.declared.node.Node.TheVariants as node
use Rattle.pl_model.specs.declared.replies.Reply.TheVariants.{Offset, Fault}
use Rattle.pl_model.specs.declared.replies.Errno.{Errno}
use Rattle.pl_model.specs.declared.replies.Errno.TheVariants.{EBADF, EINVAL, EOVERFLOW, ESPIPE}
use Rattle.pl_model.specs.Numbers.{greatest_offset}
use Rattle.pl_model.specs.Map.{change_at}
use Rattle.pl_model.specs.State.{Core, Open}
use Rattle.pl_model.specs.Trial.{Begins, found, refuse_if, answered}
use Rattle.pl_model.specs.Transfer.{moved_to}
use Rattle.pl_model.specs.Begin.{begin_lseek, file_of, seek_base, unsigned}
use Rattle.pl_model.specs.Step.{begin, ended, stepped}
use Rattle.pl_model.specs.Numbered.{numbers}
use Rattle.pl_desc.specs.Rows.{at, row_of}
use Rattle.pl_desc.specs.Descs.{Opened}
use Rattle.pl_decisions.specs.Offsets.{offset_sought, or_refused}
use Rattle.pl_decisions.proofs.Deciding.{seek-is}
use Rattle.pl_state.specs.Contents.{Contents, contents, node_of, description_of, core_of}
use Rattle.pl_transfers.specs.Files.{base_of}
use Rattle.pl_state.specs.Makes.{MakesAtKeys}
use Rattle.pl_state.proofs.Known.{Caller}
use Rattle.pl_state.proofs.by_call.Begun.{open-none, open-is, does_plain, does_same, step-refused, step-answered}
use Rattle.pl_transfers.proofs.by_call.Redescribing.{redescribed}

module _ {A : Type 0} (m : Caller A) (fd offset : ℤ) (whence : Whence) where
  open m use {descs, nodes, calls, limits, sound, pid, process}

  abbrev k : Contents A
  k = contents descs nodes calls limits

  abbrev c : Core A numbers
  c = core_of k

  abbrev call : Call A
  call = Call.Lseek fd offset whence

  abbrev x : Step A
  x = Begin pid call

  abbrev at_file : Open numbers → ℕ → Begins A numbers
  at_file o f =
      found (unsigned (pos (seek_base c o.description f whence) +ℤ offset)) EINVAL (λ n.
      refuse_if (nat_lt greatest_offset n) EOVERFLOW (answered (moved_to c o.key o.description n) (Offset n)))

  abbrev seeks : Option (Open numbers) → Begins A numbers
  seeks o = found o EBADF (λ o. found (file_of o.description.node) ESPIPE (at_file o))

  pub seek-closed : row_of descs.tables pid fd ≡ None → MakesAtKeys k x (Fault EBADF) k
  unfolding begin begin_lseek
  seek-closed none = does_same k sound x (stepped c (Fault EBADF)) (Fault EBADF) (step-refused k pid call process EBADF (ap seeks (open-none k pid fd none))) refl refl

  module _ (d : ℕ) (row : row_of descs.tables pid fd ≡ Some d) (o : Opened) (here : at descs.opened d ≡ Some o) where
    abbrev open_here : Open numbers
    open_here = record { key = d; description = description_of o }

    pub seek-pipe : (p : ℕ) → o.node ≡ node.Pipe p → MakesAtKeys k x (Fault ESPIPE) k
    unfolding begin begin_lseek
    seek-pipe p on =
        does_same k sound x (stepped c (Fault ESPIPE)) (Fault ESPIPE)
        (step-refused k pid call process ESPIPE (ap seeks (open-is k pid fd d o row here) ∙ ap (λ n. found (file_of (node_of n)) ESPIPE (at_file open_here)) on)) refl refl

    module _ (f : ℕ) (on : o.node ≡ node.File f) (held : List ℕ) (there : at nodes.files f ≡ Some held) where
      abbrev next : ℕ → Begins A numbers
      next n = answered (moved_to c d (description_of o) n) (Offset n)

      base-is : seek_base c (description_of o) f whence ≡ base_of o held whence
      unfolding core_of
      base-is = elim whence as (λ w. seek_base c (description_of o) f w ≡ base_of o held w) [ Set ↦ refl | Cur ↦ refl | End ↦ ap (λ z. length (unwrap_or z [])) there ]

      came : begin c pid call ≡ or_refused (offset_sought (base_of o held whence) offset) next
      unfolding begin begin_lseek
      came =
          ap seeks (open-is k pid fd d o row here)
          ∙ ap (λ n. found (file_of (node_of n)) ESPIPE (at_file open_here)) on
          ∙ seek-is (seek_base c (description_of o) f whence) offset next
          ∙ ap (λ b. or_refused (offset_sought b offset) next) base-is

      pub seek-fault : (errno : Errno) → offset_sought (base_of o held whence) offset ≡ Err errno → MakesAtKeys k x (Fault errno) k
      seek-fault errno is = does_same k sound x (stepped c (Fault errno)) (Fault errno) (step-refused k pid call process errno (came ∙ ap (λ r. or_refused r next) is)) refl refl

      pub seek-made : (n : ℕ) → offset_sought (base_of o held whence) offset ≡ Ok n → (new : Contents A) → at new.opened ≡ change_at d (λ x. record x { offset = n }) (at k.opened) → new ≡ record k { opened = new.opened }
          → MakesAtKeys k x (Offset n) new
      seek-made n is new opened rest =
          does_plain k new x (ended c (stepped (moved_to c d (description_of o) n) (Offset n))) (Offset n)
          (step-answered k pid call process (moved_to c d (description_of o) n) (Offset n) (came ∙ ap (λ r. or_refused r next) is)) refl
          (redescribed k sound d o here (λ x. record x { offset = n }) (λ x. refl) refl new opened rest)
