-- What the checks of a splice and of a tee come to at the kernel's keys.
use Rattle.std.proofs.Common.{◌≡◌, ℕ, Bool, true, false, cond, [], ◌∷◌, Option, Some, None, refl, sym, ◌∙◌, ap}
use Rattle.std.specs.Prelude.{◌||◌, ◌&&◌, not, ◌==◌, ℤ, is_some}
use Rattle.pl_model.specs.declared.calls.Call.{Call}
use Rattle.pl_model.specs.declared.calls.Step.{Step}
use Rattle.pl_model.specs.declared.calls.Step.TheVariants.{Begin}
use Rattle.pl_model.specs.declared.flags.SpliceFlags.{SpliceFlags}
use Rattle.pl_model.specs.declared.node.Node.{Node as CodeNode}
use Rattle.pl_model.specs.declared.node.Node.TheVariants as node
use Rattle.pl_model.specs.declared.replies.Errno.{Errno}
use Rattle.pl_model.specs.declared.replies.Errno.TheVariants.{EBADF, EINVAL, ESPIPE}
use Rattle.pl_model.specs.declared.replies.Reply.TheVariants.{Fault}
use Rattle.pl_model.specs.Flags.{has, append, splice_nonblock}
use Rattle.pl_model.specs.Modes.{reads, writes}
use Rattle.pl_model.specs.State.{Core, Open}
use Rattle.pl_model.specs.Trial.{Begins, found, answered, tried, refuse_if}
use Rattle.pl_model.specs.Transfer.{count}
use Rattle.pl_model.specs.Begin.{open_for, may_wait_between, is_pipe, is_same_pipe, is_too_far, begin_splice, begin_tee}
use Rattle.pl_model.specs.Step.{begin, stepped}
use Rattle.pl_model.specs.Numbered.{numbers}
use Rattle.pl_decisions.specs.Moves.{fault_of_splice, fault_of_tee, is_pipe as code_is_pipe, is_same_pipe as code_is_same_pipe}
use Rattle.pl_decisions.specs.Names.{unless_fault}
use Rattle.pl_decisions.proofs.Deciding.{check_splice-is, check_tee-is}
use Rattle.pl_state.specs.declared.access.OpenNode.{OpenNode}
use Rattle.pl_state.specs.Contents.{Contents, contents, node_of, description_of, core_of}
use Rattle.pl_state.specs.Opens.{Opens}
use Rattle.pl_state.specs.Makes.{MakesAtKeys}
use Rattle.pl_state.proofs.Known.{Caller}
use Rattle.pl_state.proofs.by_call.Begun.{open-found, does_same, step-refused, step-answered}

-- the kernel's nodes, as the machine has them
pipe-is : (n : CodeNode) → is_pipe (node_of n) ≡ code_is_pipe n
pipe-is (node.Pipe p) = refl
pipe-is (node.File f) = refl

same-pipe-is : (a b : CodeNode) → is_same_pipe (node_of a) (node_of b) ≡ code_is_same_pipe a b
same-pipe-is (node.Pipe p) (node.Pipe q) = refl
same-pipe-is (node.Pipe p) (node.File g) = refl
same-pipe-is (node.File f) (node.Pipe q) = refl
same-pipe-is (node.File f) (node.File g) = refl

not-or : (a b : Bool) → not (a || b) ≡ (not a && not b)
not-or true b = refl
not-or false b = refl

module _ {A : Type 0} (m : Caller A) where
  open m use {sound, pid, process}

  abbrev k : Contents A
  k = contents m.descs m.nodes m.calls m.limits

  abbrev c : Core A numbers
  c = core_of k

  -- whether the call may wait
  waits-between : (from to : ℤ) (flags : SpliceFlags) (source target : OpenNode) (a : Opens k reads pid from source) (b : Opens k writes pid to target) (nonblock : Bool)
      → nonblock ≡ (has flags.0 splice_nonblock || ((code_is_pipe source.node && source.nonblock) || (code_is_pipe target.node && target.nonblock)))
      → may_wait_between flags (description_of a.on.opened) (description_of b.on.opened) ≡ not nonblock
  waits-between from to flags source target a b nonblock is =
      (λ i. not (has flags.0 splice_nonblock) && not ((pipe-is a.on.opened.node i && sym a.waits i) || (pipe-is b.on.opened.node i && sym b.waits i)))
      ∙ (λ i. not (has flags.0 splice_nonblock) && not ((code_is_pipe (a.on.node i) && source.nonblock) || (code_is_pipe (b.on.node i) && target.nonblock)))
      ∙ sym (not-or (has flags.0 splice_nonblock) ((code_is_pipe source.node && source.nonblock) || (code_is_pipe target.node && target.nonblock)))
      ∙ ap not (sym is)

  module _ (from : ℤ) (from_offset : Option ℕ) (to : ℤ) (to_offset : Option ℕ) (len : ℕ) (flags : SpliceFlags) where
    abbrev splice_call : Call A
    splice_call = Call.Splice from from_offset to to_offset len flags

    abbrev splice_step : Step A
    splice_step = Begin pid splice_call

    abbrev splice_checks : Open numbers → Open numbers → Begins A numbers
    splice_checks source target =
        let a = source.description in
        let b = target.description in
        refuse_if ((is_pipe a.node && is_some from_offset) || (is_pipe b.node && is_some to_offset)) ESPIPE
        (refuse_if (is_too_far from_offset || is_too_far to_offset) EINVAL
        (refuse_if (not (is_pipe a.node) && not (is_pipe b.node)) EINVAL
        (refuse_if (is_same_pipe a.node b.node) EINVAL
        (refuse_if (not (is_pipe b.node) && has b.flags.0 append) EINVAL
        (tried c (source.key ∷ target.key ∷ []) false (may_wait_between flags a b))))))

    abbrev splice_target : Open numbers → Option (Open numbers) → Begins A numbers
    splice_target source o = found o EBADF (splice_checks source)

    abbrev splice_source : Option (Open numbers) → Begins A numbers
    splice_source o = found o EBADF (λ source. splice_target source (open_for writes c pid to))

    abbrev splice_len : Bool → Begins A numbers
    splice_len b = cond b (answered c (count 0)) (splice_source (open_for reads c pid from))

    splice-begins : (b : Bool) → (len == 0) ≡ b → begin c pid splice_call ≡ splice_len b
    unfolding begin begin_splice
    splice-begins b e = ap splice_len e

    pub splice-none : (len == 0) ≡ true → MakesAtKeys k splice_step (count 0) k
    splice-none z = does_same k sound splice_step (stepped c (count 0)) (count 0) (step-answered k pid splice_call process c (count 0) (splice-begins true z)) refl refl

    module _ (some : (len == 0) ≡ false) where
      pub splice-unsourced : open_for reads c pid from ≡ None → MakesAtKeys k splice_step (Fault EBADF) k
      splice-unsourced h = does_same k sound splice_step (stepped c (Fault EBADF)) (Fault EBADF) (step-refused k pid splice_call process EBADF (splice-begins false some ∙ ap splice_source h)) refl refl

      module _ (source : OpenNode) (a : Opens k reads pid from source) where
        abbrev first : Open numbers
        first = record { key = source.key; description = description_of a.on.opened }

        splice-sourced : begin c pid splice_call ≡ splice_target first (open_for writes c pid to)
        splice-sourced = splice-begins false some ∙ ap splice_source (open-found k reads pid from source a)

        pub splice-untargeted : open_for writes c pid to ≡ None → MakesAtKeys k splice_step (Fault EBADF) k
        splice-untargeted h = does_same k sound splice_step (stepped c (Fault EBADF)) (Fault EBADF) (step-refused k pid splice_call process EBADF (splice-sourced ∙ ap (splice_target first) h)) refl refl

        module _ (target : OpenNode) (b : Opens k writes pid to target) where
          abbrev second : Open numbers
          second = record { key = target.key; description = description_of b.on.opened }

          abbrev next : Begins A numbers
          next = tried c (source.key ∷ target.key ∷ []) false (may_wait_between flags first.description second.description)

          abbrev fault : Bool → Option Errno
          fault appends = fault_of_splice (record { node = source.node; given = from_offset }) (record { node = target.node; given = to_offset }) appends

          splice-checked : (appends : Bool) → has b.on.opened.flags.0 append ≡ appends → begin c pid splice_call ≡ unless_fault (fault appends) next
          splice-checked appends is =
              splice-sourced ∙ ap (splice_target first) (open-found k writes pid to target b)
              ∙ check_splice-is (record { node = source.node; given = from_offset }) (record { node = target.node; given = to_offset }) (has b.on.opened.flags.0 append) (node_of a.on.opened.node) (node_of b.on.opened.node) next
              (pipe-is a.on.opened.node ∙ ap code_is_pipe a.on.node) (pipe-is b.on.opened.node ∙ ap code_is_pipe b.on.node)
              (same-pipe-is a.on.opened.node b.on.opened.node ∙ (λ i. code_is_same_pipe (a.on.node i) (b.on.node i)))
              ∙ ap (λ t. unless_fault (fault t) next) is

          pub splice-refused : (appends : Bool) → has b.on.opened.flags.0 append ≡ appends → (errno : Errno) → fault appends ≡ Some errno → MakesAtKeys k splice_step (Fault errno) k
          splice-refused appends is errno h = does_same k sound splice_step (stepped c (Fault errno)) (Fault errno) (step-refused k pid splice_call process errno (splice-checked appends is ∙ ap (λ e. unless_fault e next) h)) refl refl

          pub splice-passes : (appends : Bool) → has b.on.opened.flags.0 append ≡ appends → fault appends ≡ None → (nonblock : Bool)
              → nonblock ≡ (has flags.0 splice_nonblock || ((code_is_pipe source.node && source.nonblock) || (code_is_pipe target.node && target.nonblock)))
              → begin c pid splice_call ≡ tried c (source.key ∷ target.key ∷ []) false (not nonblock)
          splice-passes appends is h nonblock waits =
              splice-checked appends is ∙ ap (λ e. unless_fault e next) h ∙ ap (tried c (source.key ∷ target.key ∷ []) false) (waits-between from to flags source target a b nonblock waits)

  module _ (from to : ℤ) (len : ℕ) (flags : SpliceFlags) where
    abbrev tee_call : Call A
    tee_call = Call.Tee from to len flags

    abbrev tee_step : Step A
    tee_step = Begin pid tee_call

    abbrev tee_checks : Open numbers → Open numbers → Begins A numbers
    tee_checks source target =
        let a = source.description in
        let b = target.description in
        refuse_if (not (is_pipe a.node && is_pipe b.node)) EINVAL
        (refuse_if (is_same_pipe a.node b.node) EINVAL
        (tried c (source.key ∷ target.key ∷ []) false (may_wait_between flags a b)))

    abbrev tee_target : Open numbers → Option (Open numbers) → Begins A numbers
    tee_target source o = found o EBADF (tee_checks source)

    abbrev tee_source : Option (Open numbers) → Begins A numbers
    tee_source o = found o EBADF (λ source. tee_target source (open_for writes c pid to))

    abbrev tee_len : Bool → Begins A numbers
    tee_len b = cond b (answered c (count 0)) (tee_source (open_for reads c pid from))

    tee-begins : (b : Bool) → (len == 0) ≡ b → begin c pid tee_call ≡ tee_len b
    unfolding begin begin_tee
    tee-begins b e = ap tee_len e

    pub tee-none : (len == 0) ≡ true → MakesAtKeys k tee_step (count 0) k
    tee-none z = does_same k sound tee_step (stepped c (count 0)) (count 0) (step-answered k pid tee_call process c (count 0) (tee-begins true z)) refl refl

    module _ (some : (len == 0) ≡ false) where
      pub tee-unsourced : open_for reads c pid from ≡ None → MakesAtKeys k tee_step (Fault EBADF) k
      tee-unsourced h = does_same k sound tee_step (stepped c (Fault EBADF)) (Fault EBADF) (step-refused k pid tee_call process EBADF (tee-begins false some ∙ ap tee_source h)) refl refl

      module _ (source : OpenNode) (a : Opens k reads pid from source) where
        abbrev tee_first : Open numbers
        tee_first = record { key = source.key; description = description_of a.on.opened }

        tee-sourced : begin c pid tee_call ≡ tee_target tee_first (open_for writes c pid to)
        tee-sourced = tee-begins false some ∙ ap tee_source (open-found k reads pid from source a)

        pub tee-untargeted : open_for writes c pid to ≡ None → MakesAtKeys k tee_step (Fault EBADF) k
        tee-untargeted h = does_same k sound tee_step (stepped c (Fault EBADF)) (Fault EBADF) (step-refused k pid tee_call process EBADF (tee-sourced ∙ ap (tee_target tee_first) h)) refl refl

        module _ (target : OpenNode) (b : Opens k writes pid to target) where
          abbrev tee_next : Begins A numbers
          tee_next = tried c (source.key ∷ target.key ∷ []) false (may_wait_between flags (description_of a.on.opened) (description_of b.on.opened))

          tee-checked : begin c pid tee_call ≡ unless_fault (fault_of_tee source.node target.node) tee_next
          tee-checked =
              tee-sourced ∙ ap (tee_target tee_first) (open-found k writes pid to target b)
              ∙ check_tee-is source.node target.node (node_of a.on.opened.node) (node_of b.on.opened.node) tee_next
              (pipe-is a.on.opened.node ∙ ap code_is_pipe a.on.node) (pipe-is b.on.opened.node ∙ ap code_is_pipe b.on.node)
              (same-pipe-is a.on.opened.node b.on.opened.node ∙ (λ i. code_is_same_pipe (a.on.node i) (b.on.node i)))

          pub tee-refused : (errno : Errno) → fault_of_tee source.node target.node ≡ Some errno → MakesAtKeys k tee_step (Fault errno) k
          tee-refused errno h = does_same k sound tee_step (stepped c (Fault errno)) (Fault errno) (step-refused k pid tee_call process errno (tee-checked ∙ ap (λ e. unless_fault e tee_next) h)) refl refl

          pub tee-passes : fault_of_tee source.node target.node ≡ None → (nonblock : Bool)
              → nonblock ≡ (has flags.0 splice_nonblock || ((code_is_pipe source.node && source.nonblock) || (code_is_pipe target.node && target.nonblock)))
              → begin c pid tee_call ≡ tried c (source.key ∷ target.key ∷ []) false (not nonblock)
          tee-passes h nonblock waits =
              tee-checked ∙ ap (λ e. unless_fault e tee_next) h ∙ ap (tried c (source.key ∷ target.key ∷ []) false) (waits-between from to flags source target a b nonblock waits)
