-- What a try of a call comes to at the kernel's keys.
use Rattle.std.proofs.Common.{◌≡◌, ℕ, Bool, [], ◌∷◌, List, Some, length, ◌∙◌, ap}
use Rattle.std.specs.Prelude.{ℤ, nat_lt, unwrap_or, option_map}
use Rattle.pl_model.specs.declared.node.Node.TheVariants as node
use Rattle.pl_model.specs.declared.calls.Call.TheVariants.{Read, Write}
use Rattle.pl_model.specs.State.{Core, Pipe, Waiting, empty_pipe}
use Rattle.pl_model.specs.Live.{readers, writers}
use Rattle.pl_model.specs.Packets.{front}
use Rattle.pl_model.specs.Transfer.{room, read_row, read_case, read_pipe, read_node, write_row, write_case, write_pipe, write_node}
use Rattle.pl_model.specs.Modes.{reads, writes as writes_mode}
use Rattle.pl_model.specs.Step.{try, with_kept, kept_at}
use Rattle.pl_model.specs.Numbered.{numbers}
use Rattle.pl_model.proofs.settling.WhoIsLive.{readers-is, writers-is}
use Rattle.pl_desc.specs.Rows.{at}
use Rattle.pl_state.specs.Contents.{Contents, node_of, description_of, core_of}
use Rattle.pl_state.specs.Opens.{OpenOn}
use Rattle.pl_state.specs.LastHold.{has_reader, has_writer}
use Rattle.pl_state.specs.Sound.{IsSound}
use Rattle.pl_state.proofs.by_call.Begun.{ends-is}

-- a call that keeps one description, whose pipe is there
module _ {A : Type 0} (k : Contents A) (sound : IsSound A k) (d p : ℕ) (on : OpenOn k d (node.Pipe p)) (y : Pipe) (is : at k.nodes.pipes p ≡ Some y) (w : Waiting A numbers) (kept : w.kept ≡ d ∷ []) where
  abbrev c : Core A numbers
  c = core_of k

  pub read-tries : (fd : ℤ) (n : ℕ) (may_wait : Bool) → try c w (Read fd n) may_wait ≡ read_row c p y (read_case n (front y) (has_writer k.opened p))
  unfolding try read_pipe core_of
  read-tries fd n may_wait =
      ap (λ ks. with_kept c (kept_at c ks 0) (λ o. read_node c o.key o.description o.description.node n)) kept
      ∙ ap (λ z. with_kept c (option_map (λ y. record { key = d; description = y }) (option_map description_of z)) (λ o. read_node c o.key o.description o.description.node n)) on.here
      ∙ ap (λ z. read_node c d (description_of on.opened) (node_of z) n) on.node
      ∙ ap (λ z. read_row c p (unwrap_or z empty_pipe) (read_case n (front (unwrap_or z empty_pipe)) (nat_lt 0 (writers c p)))) is
      ∙ ap (λ b. read_row c p y (read_case n (front y) b)) (writers-is c p ∙ ends-is k sound.whole writes_mode (node.Pipe p))

  pub write-tries : (fd : ℤ) (bytes : List ℕ) (may_wait : Bool) → try c w (Write fd bytes) may_wait ≡ write_row c p bytes w.taken (write_case (length bytes) w.taken (room y) (has_reader k.opened p) may_wait)
  unfolding try write_pipe core_of
  write-tries fd bytes may_wait =
      ap (λ ks. with_kept c (kept_at c ks 0) (λ o. write_node c o.key o.description o.description.node bytes w.taken may_wait)) kept
      ∙ ap (λ z. with_kept c (option_map (λ y. record { key = d; description = y }) (option_map description_of z)) (λ o. write_node c o.key o.description o.description.node bytes w.taken may_wait)) on.here
      ∙ ap (λ z. write_node c d (description_of on.opened) (node_of z) bytes w.taken may_wait) on.node
      ∙ ap (λ z. write_row c p bytes w.taken (write_case (length bytes) w.taken (room (unwrap_or z empty_pipe)) (nat_lt 0 (readers c p)) may_wait)) is
      ∙ ap (λ b. write_row c p bytes w.taken (write_case (length bytes) w.taken (room y) b may_wait)) (readers-is c p ∙ ends-is k sound.whole reads (node.Pipe p))
