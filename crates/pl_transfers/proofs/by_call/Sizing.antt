-- What the capacity of a pipe is, and is set to, at the kernel's keys.
use Rattle.std.proofs.Common.{◌≡◌, ℕ, Option, Some, None, refl, sym, ◌∙◌, ap, subst, Ok, Err, w32, FitsSigned, to_z, of_z}
use Rattle.std.specs.Prelude.{ℤ, nat_lt, ◌||◌, unwrap_or, option_and_then}
use Rattle.std.proofs.lemmas.Int.{to_z-of_z}
use Rattle.pl_model.specs.Packets.{used}
use Rattle.pl_model.specs.declared.calls.Call.{Call}
use Rattle.pl_model.specs.declared.calls.Step.{Step}
use Rattle.pl_model.specs.declared.calls.Step.TheVariants.{Begin}
use Rattle.pl_model.specs.declared.replies.Errno.{Errno}
use Rattle.pl_model.specs.declared.replies.Errno.TheVariants.{EBADF, EBUSY, EPERM}
use Rattle.pl_model.specs.declared.replies.Reply.TheVariants.{Size, Fault}
use Rattle.pl_model.specs.Numbers.{most_capacity}
use Rattle.pl_model.specs.Map.{change_at}
use Rattle.pl_model.specs.State.{Core, Open, Pipe, empty_pipe, set_pipe}
use Rattle.pl_model.specs.Trial.{Begins, pipe_at, found, refuse_if, answered}
use Rattle.pl_model.specs.Capacity.{rounded_capacity, pipe_of}
use Rattle.pl_model.specs.Begin.{open_fd, begin_get_pipe_sz, begin_set_pipe_sz}
use Rattle.pl_model.specs.Step.{begin, stepped}
use Rattle.pl_model.specs.Numbered.{numbers}
use Rattle.pl_desc.specs.Rows.{at}
use Rattle.pl_decisions.specs.Capacities.{capacity_set}
use Rattle.pl_decisions.specs.Offsets.{or_refused}
use Rattle.pl_decisions.proofs.Deciding.{set_capacity-is}
use Rattle.pl_state.specs.Contents.{Contents, Nodes, contents, with_pipes, core_of}
use Rattle.pl_state.specs.Sound.{IsWhole}
use Rattle.pl_state.specs.Makes.{MakesAtKeys, MayWantAtKeys}
use Rattle.pl_state.proofs.Known.{Caller}
use Rattle.pl_state.proofs.by_call.Begun.{pipe_there, does_plain, does_same, wants_plain, step-refused, step-answered}
use Rattle.pl_state.proofs.by_call.Moving.{put_core}
use Rattle.pl_transfers.specs.Capacities.{pipe_named, HasEnd}

-- the pipe that was told of a descriptor, which came as 32 bits
pub told_pipe : {A : Type 0} (k now : Contents A) → k ≡ now → (pid : ℕ) (fd : ℤ) → FitsSigned w32 fd → (told : Option ℕ) → told ≡ pipe_named (core_of now) pid (to_z w32 (of_z w32 fd)) → pipe_named (core_of k) pid fd ≡ told
told_pipe k now view pid fd fits told is = (λ i. pipe_named (core_of (view i)) pid fd) ∙ sym (is ∙ ap (pipe_named (core_of now) pid) (to_z-of_z w32 fd fits))

-- such a pipe is there
pub pipe_of_end : {A : Type 0} (k now : Contents A) → k ≡ now → IsWhole A k → (p : ℕ) → HasEnd now p → HasEnd k p × ((y : Pipe) × (at k.nodes.pipes p ≡ Some y))
pipe_of_end {A} k now view whole p end =
    let held : HasEnd k p = subst (λ (z : Contents A). HasEnd z p) (sym view) end in
    (held, pipe_there k whole held.0 p held.1)

module _ {A : Type 0} (m : Caller A) (fd : ℤ) where
  open m use {descs, nodes, calls, limits, sound, pid, process}

  abbrev k : Contents A
  k = contents descs nodes calls limits

  abbrev c : Core A numbers
  c = core_of k

  -- both checks of what a descriptor names are one
  module _ (next : ℕ → Begins A numbers) where
    found-named : (o : Option (Open numbers)) → found o EBADF (λ o. found (pipe_of o.description.node) EBADF next) ≡ found (option_and_then (λ o. pipe_of o.description.node) o) EBADF next
    found-named None = refl
    found-named (Some o) = refl

    named-is : (p : Option ℕ) → pipe_named c pid fd ≡ p → found (open_fd c pid fd) EBADF (λ o. found (pipe_of o.description.node) EBADF next) ≡ found p EBADF next
    named-is p is = found-named (open_fd c pid fd) ∙ ap (λ z. found z EBADF next) is

  tells : ℕ → Begins A numbers
  tells p = answered c (Size (pipe_at c p).capacity)

  pub get-none : pipe_named c pid fd ≡ None → MakesAtKeys k (Begin pid (Call.GetPipeSz fd)) (Fault EBADF) k
  unfolding begin begin_get_pipe_sz tells
  get-none none = does_same k sound (Begin pid (Call.GetPipeSz fd)) (stepped c (Fault EBADF)) (Fault EBADF) (step-refused k pid (Call.GetPipeSz fd) process EBADF (named-is tells None none)) refl refl

  pub get-some : (p : ℕ) → pipe_named c pid fd ≡ Some p → (y : Pipe) → at nodes.pipes p ≡ Some y → MakesAtKeys k (Begin pid (Call.GetPipeSz fd)) (Size y.capacity) k
  unfolding begin begin_get_pipe_sz tells core_of
  get-some p named y there =
      does_same k sound (Begin pid (Call.GetPipeSz fd)) (stepped c (Size y.capacity)) (Size y.capacity)
      (step-answered k pid (Call.GetPipeSz fd) process c (Size y.capacity) (named-is tells (Some p) named ∙ ap (λ z. answered c (Size (unwrap_or z empty_pipe).capacity)) there)) refl refl

  module _ (size : ℕ) where
    abbrev call : Call A
    call = Call.SetPipeSz fd size

    abbrev x : Step A
    x = Begin pid call

    abbrev sets : ℕ → Pipe → Begins A numbers
    sets p y =
        refuse_if (nat_lt most_capacity size || nat_lt c.limits.capacity_max (rounded_capacity size)) EPERM (refuse_if (nat_lt (rounded_capacity size) (used y)) EBUSY
        (answered (set_pipe c p (record y { capacity = rounded_capacity size })) (Size (rounded_capacity size))))

    pub set-none : pipe_named c pid fd ≡ None → MakesAtKeys k x (Fault EBADF) k
    unfolding begin begin_set_pipe_sz
    set-none none = does_same k sound x (stepped c (Fault EBADF)) (Fault EBADF) (step-refused k pid call process EBADF (named-is (λ p. sets p (pipe_at c p)) None none)) refl refl

    module _ (p : ℕ) (named : pipe_named c pid fd ≡ Some p) (y : Pipe) (there : at nodes.pipes p ≡ Some y) where
      abbrev set_to : ℕ → Begins A numbers
      set_to n = answered (set_pipe c p (record y { capacity = n })) (Size n)

      there_core : c.pipes p ≡ Some y
      unfolding core_of
      there_core = there

      limit-is : c.limits.capacity_max ≡ limits.capacity_max
      unfolding core_of
      limit-is = refl

      came : begin c pid call ≡ or_refused (capacity_set size (used y) limits.capacity_max) set_to
      unfolding begin begin_set_pipe_sz
      came = named-is (λ p. sets p (pipe_at c p)) (Some p) named ∙ ap (λ z. sets p (unwrap_or z empty_pipe)) there_core ∙ set_capacity-is size (used y) c.limits.capacity_max set_to
          ∙ ap (λ limit. or_refused (capacity_set size (used y) limit) set_to) limit-is

      pub set-fault : (errno : Errno) → capacity_set size (used y) limits.capacity_max ≡ Err errno → MakesAtKeys k x (Fault errno) k
      set-fault errno is = does_same k sound x (stepped c (Fault errno)) (Fault errno) (step-refused k pid call process errno (came ∙ ap (λ r. or_refused r set_to) is)) refl refl

      module _ (n : ℕ) (is : capacity_set size (used y) limits.capacity_max ≡ Ok n) where
        answers : begin c pid call ≡ set_to n
        answers = came ∙ ap (λ r. or_refused r set_to) is

        pub set-wants : MayWantAtKeys k x
        set-wants = wants_plain k k x _ (step-answered k pid call process (set_pipe c p (record y { capacity = n })) (Size n) answers) refl

        module _ (end : HasEnd k p) (pipes : Nodes) (after : at pipes.pipes ≡ change_at p (λ z. record z { capacity = n }) (at nodes.pipes)) where
          pub set-made : MakesAtKeys k x (Size n) (with_pipes k pipes)
          set-made =
              does_plain k (with_pipes k pipes) x _ (Size n) (step-answered k pid call process (set_pipe c p (record y { capacity = n })) (Size n) answers) refl
              (put_core k sound end.0 p end.1 y there (record y { capacity = n }) refl pipes (λ z. record z { capacity = n }) refl after)
