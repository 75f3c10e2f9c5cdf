-- What the sizes of a reply, told beforehand, say of the step.
use Rattle.std.proofs.Common.{◌≡◌, ◌≤◌, ℕ, ℤ, Bool, true, false, List, cond, length, min, refl, ap, ◌∙◌, sym, length-take-le}
use Rattle.pl_model.specs.declared.calls.Call.{Call}
use Rattle.pl_model.specs.declared.calls.Step.{Step}
use Rattle.pl_model.specs.declared.calls.Step.TheVariants.{Begin}
use Rattle.pl_model.specs.declared.replies.Reply.{Reply}
use Rattle.pl_model.specs.declared.replies.Reply.TheVariants.{Fault, NoProcess, NoCall, CallsSpent}
use Rattle.pl_model.specs.Begin.{open_for}
use Rattle.pl_model.specs.Modes.{reads}
use Rattle.pl_model.specs.Keys.{NewKeys, Drawing, Plain, Draws, drawn}
use Rattle.pl_model.specs.Memory.{is_frugal, is_refusal}
use Rattle.pl_model.specs.Step.{Stepped, core_step}
use Rattle.pl_model.specs.Numbered.{numbers}
use Rattle.pl_model.specs.StandsFor.{Comes}
use Rattle.pl_desc.specs.Rows.{is_pid}
use Rattle.pl_state.specs.Contents.{Contents, core_of}
use Rattle.pl_state.specs.Makes.{MakesAtKeys, MayWantAtKeys, WantsMemory}
use Rattle.pl_state.specs.declared.answered.Answered.{Answered}
use Rattle.pl_state.specs.declared.answered.Answered.TheVariants as Reading
use Rattle.pl_transfers.specs.ReadInto.{told, read_count}
use Rattle.pl_transfers.specs.Readable.{readable}
use Rattle.pl_kernel.specs.Buffers.{gives}
use Rattle.pl_kernel.specs.declared.sizes.ReplySizes.{ReplySizes}
use Rattle.pl_kernel.specs.Sizes.{no_list, sizes_of, sizes_begun, TellsSizes}
use Rattle.pl_kernel.proofs.Stepping.{wants}
use Rattle.pl_kernel.proofs.Listed.{sizes_told, reply-sizes}

-- the sizes of the machine's reply, at the kernel's keys
module _ {A : Type 0} (k : Contents A) where
  pub tells : (x : Step A) (sizes : ReplySizes) → sizes_told (core_of k) x ≡ sizes → TellsSizes k x sizes
  tells x sizes e = λ new. reply-sizes new (core_of k) x ∙ e

  module _ (pid : ℕ) (call : Call A) where
    pub nobody : is_pid k.tables pid ≡ false → sizes_told (core_of k) (Begin pid call) ≡ no_list
    unfolding core_of
    nobody h = ap (λ b. cond b (sizes_begun (core_of k) pid call) no_list) h

    pub somebody : is_pid k.tables pid ≡ true → sizes_told (core_of k) (Begin pid call) ≡ sizes_begun (core_of k) pid call
    unfolding core_of
    somebody h = ap (λ b. cond b (sizes_begun (core_of k) pid call) no_list) h

-- the reply has the sizes that were told
pub told_reply : {A : Type 0} (k new : Contents A) (x : Step A) (reply : Reply A) (sizes : ReplySizes) → MakesAtKeys k x reply new → TellsSizes k x sizes → sizes_of reply ≡ sizes
told_reply {A} k new x reply sizes does told = by (core_step (core_of k) x) does told
  where
    by : (d : Drawing numbers (Stepped A numbers)) → Comes (core_of k) d reply (core_of new) → ((keys : NewKeys numbers) → sizes_of (drawn keys d).reply ≡ sizes) → sizes_of reply ≡ sizes
    by (Plain h) does told = ap sizes_of does.0 ∙ told (record { description = 0; other_description = 0; pipe = 0; file = 0 })
    by (Draws f) does told = ap sizes_of does.2 ∙ told does.0

-- a read into the caller's bytes told as many as its reply has
count_told : (A : Type 0) (r : Answered ℕ) (bytes : List ℕ) → read_count r ≤ length bytes → read_count r ≡ (sizes_of {A = A} (told r bytes)).bytes
count_told A (Reading.Done n) bytes few = sym (length-take-le n bytes few)
count_told A (Reading.Fault e) bytes few = refl
count_told A (Reading.Parked n) bytes few = refl
count_told A Reading.NoProcess bytes few = refl
count_told A Reading.CallsSpent bytes few = refl

-- so it gave as many as the machine does
pub count_given : {A : Type 0} (k new : Contents A) (x : Step A) (r : Answered ℕ) (bytes : List ℕ) → read_count r ≤ length bytes → MakesAtKeys k x (told r bytes) new → read_count r ≡ (sizes_told (core_of k) x).bytes
count_given {A} k new x r bytes few does =
    count_told A r bytes few ∙ ap (λ (z : ReplySizes). z.bytes) (told_reply k new x (told r bytes) (sizes_told (core_of k) x) does (tells k x (sizes_told (core_of k) x) refl))

module _ {A : Type 0} (k : Contents A) (pid : ℕ) (fd : ℤ) (n : ℕ) where
  abbrev many : ℕ
  many = min n (readable (core_of k) (open_for reads (core_of k) pid fd))

  pub gives_nobody : is_pid k.tables pid ≡ false → gives k pid fd n ≡ 0
  unfolding core_of
  gives_nobody h = ap (λ b. cond b many 0) h

  pub gives_somebody : is_pid k.tables pid ≡ true → gives k pid fd n ≡ min n (readable (core_of k) (open_for reads (core_of k) pid fd))
  unfolding core_of
  gives_somebody h = ap (λ b. cond b many 0) h

  -- so many bytes the reply of a read has that is begun
  pub begun_gives : (sizes_told (core_of k) (Begin pid (Call.Read fd n))).bytes ≡ gives k pid fd n
  begun_gives = by ((core_of k).processes pid)
    where
      by : (b : Bool) → (cond b (record { bytes = many; masks = 0 }) no_list).bytes ≡ cond b many 0
      by true = refl
      by false = refl

-- a reply with a list says no to nothing
listed : {A : Type 0} (reply : Reply A) → (sizes_of reply ≡ no_list → ⊥) → is_refusal reply ≡ false
listed (Fault errno) some = absurd (some refl)
listed NoProcess some = absurd (some refl)
listed NoCall some = absurd (some refl)
listed CallsSpent some = absurd (some refl)
listed other some = refl

module _ {A : Type 0} (k : Contents A) (x : Step A) (sizes : ReplySizes) (told : TellsSizes k x sizes) (frugal : is_frugal x ≡ true → sizes ≡ no_list) (some : sizes ≡ no_list → ⊥) where
  may_want : MayWantAtKeys k x
  may_want = λ new. listed (drawn new (core_step (core_of k) x)).reply (λ none. some (sym (told new) ∙ none))

  -- so where room is asked for it, memory may be wanted for the step
  pub room_wanted : WantsMemory k x
  room_wanted = wants k x may_want (by (is_frugal x) refl)
    where
      by : (b : Bool) → is_frugal x ≡ b → is_frugal x ≡ false
      by true h = absurd (some (frugal h))
      by false h = h
