-- What a write comes to at the kernel's keys.
use Rattle.std.proofs.Common.{◌≡◌, ℕ, ◌-◌, true, false, cond, List, [], ◌∷◌, Option, Some, None, refl, ◌∙◌, ap, length, take, arith, subst, sym}
use Rattle.std.specs.Prelude.{if◌then◌else◌, not, ◌==◌, ℤ, slice_range, ◌&&◌}
use Rattle.pl_model.specs.Map.{change_at}
use Rattle.pl_model.specs.declared.calls.Call.{Call}
use Rattle.pl_model.specs.declared.calls.Step.{Step}
use Rattle.pl_model.specs.declared.calls.Step.TheVariants.{Begin}
use Rattle.pl_model.specs.declared.cases.WriteCase.{WriteCase}
use Rattle.pl_model.specs.declared.replies.Reply.{Reply}
use Rattle.pl_model.specs.declared.replies.Reply.TheVariants.{Count, Fault, Parked}
use Rattle.pl_model.specs.declared.replies.Errno.TheVariants.{EBADF, EPIPE}
use Rattle.pl_model.specs.Modes.{writes}
use Rattle.pl_model.specs.Keys.{Plain}
use Rattle.pl_model.specs.State.{Core, Open, Pipe, Waiting, set_pipe, can_wait}
use Rattle.pl_model.specs.Trial.{Begins, found, answered, tried, gains}
use Rattle.pl_model.specs.Packets.{gain}
use Rattle.pl_model.specs.Settle.{settle}
use Rattle.pl_model.specs.Transfer.{room, count, write_row, write_case}
use Rattle.pl_model.specs.Begin.{open_for, may_block, begin_write}
use Rattle.pl_model.specs.Step.{begin, core_step, ended, stepped, first_tried, waiting, parked}
use Rattle.pl_model.specs.Numbered.{numbers}
use Rattle.pl_state.specs.declared.access.OpenNode.{OpenNode}
use Rattle.pl_state.specs.declared.access.OpenEnd.{OpenEnd}
use Rattle.pl_desc.specs.Rows.{at}
use Rattle.pl_state.specs.Contents.{Contents, Nodes, with_pipes, contents, description_of, core_of}
use Rattle.pl_state.specs.Opens.{Opens, of_end}
use Rattle.pl_state.specs.LastHold.{has_reader}
use Rattle.pl_state.specs.Parking.{refusal_in, call_on, with_call, Adds}
use Rattle.pl_state.specs.Sound.{MayWait, MayKeep}
use Rattle.pl_state.specs.Makes.{MakesAtKeys, MayWantAtKeys}
use Rattle.pl_state.proofs.Known.{Caller}
use Rattle.pl_state.proofs.by_call.Begun.{open-found, may_block-is, does_plain, does_same, wants_plain, step-refused, step-answered, step-tried}
use Rattle.pl_state.proofs.by_call.Moving.{changed_core, flowed-in, flowed-still}
use Rattle.pl_transfers.proofs.by_call.Trying.{write-tries}
use Rattle.pl_state.proofs.waiting.ParkedCalls.{park_moves}
use Rattle.pl_transfers.proofs.by_call.Refusing.{refused, parks, is_left}

-- the bytes from the first on
pub from_first : (bytes : List ℕ) (from to : ℕ) → from ≡ 0 → slice_range bytes from to ≡ take to bytes
from_first bytes from to none = ap (λ n. slice_range bytes n to) none ∙ ap (λ n. take n bytes) (let all : to - 0 ≡ to = omega arith in all)

module _ {A : Type 0} (m : Caller A) (fd : ℤ) (bytes : List ℕ) where
  open m use {sound, pid, process}

  abbrev k : Contents A
  k = contents m.descs m.nodes m.calls m.limits

  abbrev c : Core A numbers
  c = core_of k

  abbrev call : Call A
  call = Call.Write fd bytes

  abbrev x : Step A
  x = Begin pid call

  abbrev opened : Option (Open numbers) → Begins A numbers
  opened o = found o EBADF (λ o. if length bytes == 0 then answered c (count 0) else tried c (o.key ∷ []) false (may_block o.description))

  pub write-closed : open_for writes c pid fd ≡ None → MakesAtKeys k x (Fault EBADF) k
  unfolding begin begin_write
  write-closed h = does_same k sound x (stepped c (Fault EBADF)) (Fault EBADF) (step-refused k pid call process EBADF (ap opened h)) refl refl

  module _ (e : OpenNode) (opens : Opens k writes pid fd e) where
    pub at_node : begin c pid call ≡ (if length bytes == 0 then answered c (count 0) else tried c (e.key ∷ []) false (may_block (description_of opens.on.opened)))
    unfolding begin begin_write
    at_node = ap opened (open-found k writes pid fd e opens)

    pub write-none : (length bytes == 0) ≡ true → MakesAtKeys k x (Count 0 false) k
    write-none z = does_same k sound x (stepped c (count 0)) (Count 0 false) (step-answered k pid call process c (count 0) (at_node ∙ ap (λ b. cond b (answered c (count 0)) (tried c (e.key ∷ []) false (may_block (description_of opens.on.opened)))) z)) refl refl

  module _ (o : OpenEnd) (opens : Opens k writes pid fd (of_end o)) where
    at_end : begin c pid call ≡ (if length bytes == 0 then answered c (count 0) else tried c (o.key ∷ []) false (may_block (description_of opens.on.opened)))
    at_end = at_node (of_end o) opens

    module _ (some : (length bytes == 0) ≡ false) (p : Pipe) (is : at k.nodes.pipes o.pipe ≡ Some p) where
      abbrev w : Waiting A numbers
      w = waiting pid call (o.key ∷ []) false

      -- which row of the table of writes holds
      abbrev pub Comes_to : WriteCase → Type 0
      Comes_to row = write_case (length bytes) 0 (room p) (has_reader k.opened o.pipe) (not o.nonblock) ≡ row

      came : (row : WriteCase) → Comes_to row → core_step c x ≡ Plain (ended c (first_tried c w (not o.nonblock && can_wait c pid) (write_row c o.pipe bytes 0 row)))
      came row r =
          step-tried k pid call process (o.key ∷ []) false (may_block (description_of opens.on.opened)) (write_row c o.pipe bytes 0 (write_case (length bytes) 0 (room p) (has_reader k.opened o.pipe) (may_block (description_of opens.on.opened))))
          (at_end ∙ ap (λ b. cond b (answered c (count 0)) (tried c (o.key ∷ []) false (may_block (description_of opens.on.opened)))) some)
          (write-tries k sound o.key o.pipe opens.on p is w refl fd bytes (may_block (description_of opens.on.opened)))
          ∙ ap (λ b. Plain (ended c (first_tried c w (b && can_wait c pid) (write_row c o.pipe bytes 0 (write_case (length bytes) 0 (room p) (has_reader k.opened o.pipe) b))))) (may_block-is k writes pid fd (of_end o) opens)
          ∙ ap (λ z. Plain (ended c (first_tried c w (not o.nonblock && can_wait c pid) (write_row c o.pipe bytes 0 z)))) r

      pub write-broken : Comes_to WriteCase.Broken → MakesAtKeys k x (Fault EPIPE) k
      write-broken r = does_same k sound x _ (Fault EPIPE) (came WriteCase.Broken r) refl (flowed-still k)

      module _ (from to : ℕ) (r : Comes_to (WriteCase.Waits from to)) where
        abbrev part : List ℕ
        part = slice_range bytes from to

        pub write-refused : (reply : Reply A) → refusal_in k pid o.nonblock ≡ Some reply → MakesAtKeys k x reply k
        write-refused reply h = does_same k sound x (stepped c reply) reply (came (WriteCase.Waits from to) r ∙ ap (λ z. Plain (ended c z)) (refused k w o.nonblock c (gains o.pipe part) to reply h)) refl refl

        module _ (left : refusal_in {A = A} k pid o.nonblock ≡ None) where
          waits : core_step c x ≡ Plain (ended c (record { state = parked (set_pipe c o.pipe (gain part p)) (record w { taken = to }); reply = Parked k.calls.next; flow = gains o.pipe part }))
          waits =
              came (WriteCase.Waits from to) r
              ∙ ap (λ z. Plain (ended c z)) (parks k w o.nonblock c (gains o.pipe part) to left ∙ ap (λ z. record { state = parked z (record w { taken = to }); reply = Parked k.calls.next; flow = gains o.pipe part }) (flowed-in k o.pipe p is part))

          pub write-waits : (new : Contents A) → MayWait {A = A} (Call.Write fd bytes) to → Adds (with_call k (call_on o.key pid call to)) o.pipe part new → MakesAtKeys k x (Parked k.calls.next) new
          write-waits new within adds = does_plain k new x _ (Parked k.calls.next) waits refl (park_moves k sound o.key opens.on.opened opens.on.here (is_left k pid o.nonblock left) pid call to tt within process (subst (MayKeep (call_on o.key pid call to)) (sym opens.on.node) tt) o.pipe opens.on p is part new adds)

          pub write-waits-wants : MayWantAtKeys k x
          write-waits-wants = wants_plain k k x _ waits refl

      module _ (from to : ℕ) (r : Comes_to (WriteCase.Ends from to)) where
        abbrev more : List ℕ
        more = slice_range bytes from to

        wrote : core_step c x ≡ Plain (ended c (record { state = set_pipe c o.pipe (gain more p); reply = count to; flow = gains o.pipe more }))
        wrote = came (WriteCase.Ends from to) r ∙ ap (λ z. Plain (ended c (record { state = z; reply = count to; flow = gains o.pipe more }))) (flowed-in k o.pipe p is more)

        pub write-ends : (part : List ℕ) → part ≡ more → (pipes : Nodes) → at pipes.pipes ≡ change_at o.pipe (gain part) (at k.nodes.pipes)
            → MakesAtKeys k x (Count to false) (with_pipes k pipes)
        write-ends part b pipes after = does_plain k (with_pipes k pipes) x _ (Count to false) wrote refl
            (changed_core k sound o.key o.pipe opens.on p is pipes (gain part) refl after ∙ ap (λ z. settle c (set_pipe c o.pipe (gain z p))) b)

        pub write-wants : MayWantAtKeys k x
        write-wants = wants_plain k k x _ wrote refl
