-- What a read comes to at the kernel's keys.
use Rattle.std.proofs.Common.{◌≡◌, ℕ, true, false, cond, List, [], ◌∷◌, Option, Some, None, refl, ◌∙◌, ap, take, subst, sym}
use Rattle.std.specs.Prelude.{if◌then◌else◌, not, ◌==◌, ℤ, ◌&&◌}
use Rattle.pl_model.specs.Map.{change_at}
use Rattle.pl_model.specs.declared.calls.Call.{Call}
use Rattle.pl_model.specs.declared.calls.Step.{Step}
use Rattle.pl_model.specs.declared.calls.Step.TheVariants.{Begin}
use Rattle.pl_model.specs.declared.cases.ReadCase.{ReadCase}
use Rattle.pl_model.specs.declared.replies.Reply.{Reply}
use Rattle.pl_model.specs.declared.replies.Reply.TheVariants.{Bytes, Fault, Parked, NoProcess, NoCall, CallsSpent}
use Rattle.pl_model.specs.declared.replies.Errno.TheVariants.{EBADF}
use Rattle.pl_model.specs.Modes.{reads}
use Rattle.pl_model.specs.Keys.{Plain}
use Rattle.pl_model.specs.Memory.{is_refusal}
use Rattle.pl_model.specs.State.{Core, Open, Pipe, Waiting, set_pipe, can_wait}
use Rattle.pl_model.specs.Trial.{Begins, found, answered, tried, loses, still}
use Rattle.pl_model.specs.Packets.{front, spent, lose}
use Rattle.pl_model.specs.Transfer.{read_row, read_case}
use Rattle.pl_model.specs.Begin.{open_for, may_block, begin_read}
use Rattle.pl_model.specs.Step.{begin, core_step, ended, stepped, first_tried, waiting, parked}
use Rattle.pl_model.specs.Numbered.{numbers}
use Rattle.pl_state.specs.declared.access.OpenNode.{OpenNode}
use Rattle.pl_state.specs.declared.access.OpenEnd.{OpenEnd}
use Rattle.pl_desc.specs.Rows.{at}
use Rattle.pl_state.specs.Contents.{Contents, Nodes, with_pipes, contents, description_of, core_of}
use Rattle.pl_state.specs.Opens.{Opens, of_end}
use Rattle.pl_state.specs.LastHold.{has_writer}
use Rattle.pl_state.specs.Parking.{refusal_in, call_on, with_call}
use Rattle.pl_state.specs.Makes.{MakesAtKeys, MayWantAtKeys, is_parked, ParksAtKeys}
use Rattle.pl_state.proofs.Known.{Caller}
use Rattle.pl_state.proofs.by_call.Begun.{open-found, may_block-is, does_plain, does_same, wants_plain, parks_plain, step-refused, step-answered, step-tried}
use Rattle.pl_state.proofs.by_call.Moving.{changed_core, flowed-out, flowed-still}
use Rattle.pl_transfers.proofs.by_call.Trying.{read-tries}
use Rattle.pl_state.proofs.waiting.ParkedCalls.{park_settles}
use Rattle.pl_transfers.proofs.by_call.Refusing.{refused, parks, is_left}
use Rattle.pl_state.specs.Sound.{MayKeep}

-- where a call is parked, memory may be wanted for it
parked_said : {A : Type 0} (reply : Reply A) → is_parked reply ≡ true → is_refusal reply ≡ false
parked_said (Parked number) h = refl
parked_said (Fault errno) h = absurd (cc)
parked_said NoProcess h = absurd (cc)
parked_said NoCall h = absurd (cc)
parked_said CallsSpent h = absurd (cc)
parked_said other h = absurd (cc)

module _ {A : Type 0} (m : Caller A) (fd : ℤ) (n : ℕ) where
  open m use {sound, pid, process}

  abbrev k : Contents A
  k = contents m.descs m.nodes m.calls m.limits

  abbrev c : Core A numbers
  c = core_of k

  abbrev call : Call A
  call = Call.Read fd n

  abbrev x : Step A
  x = Begin pid call

  abbrev opened : Option (Open numbers) → Begins A numbers
  opened o = found o EBADF (λ o. if n == 0 then answered c (Bytes []) else tried c (o.key ∷ []) false (may_block o.description))

  pub read-closed : open_for reads c pid fd ≡ None → MakesAtKeys k x (Fault EBADF) k
  unfolding begin begin_read
  read-closed h = does_same k sound x (stepped c (Fault EBADF)) (Fault EBADF) (step-refused k pid call process EBADF (ap opened h)) refl refl

  module _ (e : OpenNode) (opens : Opens k reads pid fd e) where
    pub at_node : begin c pid call ≡ (if n == 0 then answered c (Bytes []) else tried c (e.key ∷ []) false (may_block (description_of opens.on.opened)))
    unfolding begin begin_read
    at_node = ap opened (open-found k reads pid fd e opens)

    pub read-none : (n == 0) ≡ true → MakesAtKeys k x (Bytes []) k
    read-none z = does_same k sound x (stepped c (Bytes [])) (Bytes []) (step-answered k pid call process c (Bytes []) (at_node ∙ ap (λ b. cond b (answered c (Bytes [])) (tried c (e.key ∷ []) false (may_block (description_of opens.on.opened)))) z)) refl refl

  module _ (o : OpenEnd) (opens : Opens k reads pid fd (of_end o)) where
    at_end : begin c pid call ≡ (if n == 0 then answered c (Bytes []) else tried c (o.key ∷ []) false (may_block (description_of opens.on.opened)))
    at_end = at_node (of_end o) opens

    module _ (some : (n == 0) ≡ false) (p : Pipe) (is : at k.nodes.pipes o.pipe ≡ Some p) where
      abbrev w : Waiting A numbers
      w = waiting pid call (o.key ∷ []) false

      abbrev case : ReadCase
      case = read_case n (front p) (has_writer k.opened o.pipe)

      came : (row : ReadCase) → case ≡ row → core_step c x ≡ Plain (ended c (first_tried c w (not o.nonblock && can_wait c pid) (read_row c o.pipe p row)))
      came row r =
          step-tried k pid call process (o.key ∷ []) false (may_block (description_of opens.on.opened)) (read_row c o.pipe p row)
          (at_end ∙ ap (λ b. cond b (answered c (Bytes [])) (tried c (o.key ∷ []) false (may_block (description_of opens.on.opened)))) some)
          (read-tries k sound o.key o.pipe opens.on p is w refl fd n (may_block (description_of opens.on.opened)) ∙ ap (read_row c o.pipe p) r)
          ∙ ap (λ b. Plain (ended c (first_tried c w (b && can_wait c pid) (read_row c o.pipe p row)))) (may_block-is k reads pid fd (of_end o) opens)

      pub read-end : case ≡ ReadCase.EndOfFile → MakesAtKeys k x (Bytes []) k
      read-end r = does_same k sound x _ (Bytes []) (came ReadCase.EndOfFile r) refl (flowed-still k)

      pub read-refused : (reply : Reply A) → case ≡ ReadCase.Waits → refusal_in k pid o.nonblock ≡ Some reply → MakesAtKeys k x reply k
      read-refused reply r h = does_same k sound x (stepped c reply) reply (came ReadCase.Waits r ∙ ap (λ z. Plain (ended c z)) (refused k w o.nonblock c still 0 reply h)) refl refl

      module _ (r : case ≡ ReadCase.Waits) (left : refusal_in {A = A} k pid o.nonblock ≡ None) where
        waits : core_step c x ≡ Plain (ended c (record { state = parked c w; reply = Parked k.calls.next; flow = still }))
        waits = came ReadCase.Waits r ∙ ap (λ z. Plain (ended c z)) (parks k w o.nonblock c still 0 left ∙ ap (λ z. record { state = parked z w; reply = Parked k.calls.next; flow = still }) (flowed-still k))

        pub read-waits : MakesAtKeys k x (Parked k.calls.next) (with_call k (call_on o.key pid call 0))
        read-waits = does_plain k (with_call k (call_on o.key pid call 0)) x _ (Parked k.calls.next) waits refl (park_settles k sound o.key opens.on.opened opens.on.here (is_left k pid o.nonblock left) pid call 0 tt refl process (subst (MayKeep (call_on o.key pid call 0)) (sym opens.on.node) tt))

        pub read-waits-parks : ParksAtKeys k x
        read-waits-parks = parks_plain k k x _ waits refl

      module _ (many : ℕ) (r : case ≡ ReadCase.Gives many) where
        gave : core_step c x ≡ Plain (ended c (record { state = set_pipe c o.pipe (lose (spent p many) p); reply = Bytes (take many p.bytes); flow = loses o.pipe (spent p many) }))
        gave = came (ReadCase.Gives many) r ∙ ap (λ z. Plain (ended c (record { state = z; reply = Bytes (take many p.bytes); flow = loses o.pipe (spent p many) }))) (flowed-out k o.pipe p is (spent p many))

        pub read-gives : (bytes : List ℕ) → bytes ≡ take many p.bytes → (pipes : Nodes) → at pipes.pipes ≡ change_at o.pipe (λ x. lose (spent x many) x) (at k.nodes.pipes)
            → MakesAtKeys k x (Bytes bytes) (with_pipes k pipes)
        read-gives bytes b pipes after = does_plain k (with_pipes k pipes) x _ (Bytes bytes) gave (ap (λ z. Bytes z) b)
            (changed_core k sound o.key o.pipe opens.on p is pipes (λ x. lose (spent x many) x) refl after)

        pub read-wants : MayWantAtKeys k x
        read-wants = wants_plain k k x _ gave refl
