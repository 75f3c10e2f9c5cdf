-- How many bytes a read gives, at the kernel's keys.
use Rattle.std.proofs.Common.{◌≡◌, ◌≤◌, ◌-◌, arith, ℕ, [], List, Option, Some, None, IfSome, refl, sym, ◌∙◌, ap, subst, nat_eq, length, drop, min}
use Rattle.std.specs.Prelude.{ℤ, unwrap_or, option_map}
use Rattle.std.proofs.lemmas.List.{length-drop}
use Rattle.pl_model.specs.declared.calls.Call.{Call}
use Rattle.pl_model.specs.declared.calls.Call.TheVariants.{Read}
use Rattle.pl_model.specs.declared.node.Node.TheVariants as node
use Rattle.pl_model.specs.Map.{get}
use Rattle.pl_model.specs.Modes.{reads}
use Rattle.pl_model.specs.State.{Core, Pipe, empty_pipe}
use Rattle.pl_model.specs.Packets.{front}
use Rattle.pl_model.specs.Begin.{open_for}
use Rattle.pl_model.specs.Step.{kept_at}
use Rattle.pl_model.specs.Numbered.{numbers}
use Rattle.pl_parked.specs.declared.call.ParkedCall.{ParkedCall}
use Rattle.pl_desc.specs.Rows.{at}
use Rattle.pl_desc.specs.Descs.{Opened}
use Rattle.pl_state.specs.declared.access.OpenNode.{OpenNode}
use Rattle.pl_state.specs.Contents.{Contents, core_of, description_of, node_of, waiting_of}
use Rattle.pl_state.specs.Opens.{Opens}
use Rattle.pl_state.specs.Parking.{ReadWaits}
use Rattle.pl_state.specs.Sound.{IsSound, IsWhole, IsWaiting, Keeps}
use Rattle.pl_state.proofs.by_call.Begun.{pipe_there, file_there, open-found}
use Rattle.pl_state.proofs.by_call.Resumed.{parked-is}
use Rattle.pl_transfers.specs.Readable.{readable, readable_on, bytes_of_try, bytes_again}

module _ {A : Type 0} (k : Contents A) where
  abbrev c : Core A numbers
  c = core_of k

  -- so many bytes are there to be read on the description of a key, if it is there
  abbrev pub AreReadable : (key r : ℕ) → Type 0
  AreReadable key r = IfSome (at k.opened key) (λ o. r ≡ readable_on c (description_of o) (node_of o.node))

  module _ (whole : IsWhole A k) (key : ℕ) (o : Opened) (here : at k.opened key ≡ Some o) where
    said : (r : ℕ) → r ≡ readable_on c (description_of o) (node_of o.node) → AreReadable key r
    said r is = subst (λ z. IfSome z (λ o. r ≡ readable_on c (description_of o) (node_of o.node))) (sym here) is

    pub readable-pipe : (p : ℕ) → o.node ≡ node.Pipe p → (held : ℕ) → IfSome (at k.nodes.pipes p) (λ x. held ≡ min (front x) (length x.bytes)) → AreReadable key held
    unfolding core_of
    readable-pipe p is held told =
        let there = pipe_there k whole key p (record { opened = o; here = here; node = is }) in
        let long : held ≡ min (front there.0) (length there.0.bytes) = subst (λ z. IfSome z (λ (x : Pipe). held ≡ min (front x) (length x.bytes))) there.1 told in
        said held (long ∙ sym (ap (λ n. readable_on c (description_of o) (node_of n)) is ∙ ap (λ z. min (front (unwrap_or z empty_pipe)) (length (unwrap_or z empty_pipe).bytes)) there.1))

    -- the front of a pipe is held
    pub readable-front : (p : ℕ) → o.node ≡ node.Pipe p → (n : ℕ) → IfSome (at k.nodes.pipes p) (λ x. n ≡ front x) → IfSome (at k.nodes.pipes p) (λ x. n ≤ length x.bytes) → AreReadable key n
    readable-front p is n told within = readable-pipe p is n (by (at k.nodes.pipes p) told within)
      where
        by : (z : Option Pipe) → IfSome z (λ x. n ≡ front x) → IfSome z (λ x. n ≤ length x.bytes) → IfSome z (λ x. n ≡ min (front x) (length x.bytes))
        by None told within = tt
        by (Some x) told within = omega (arith, told, within)

    pub readable-file : (f : ℕ) → o.node ≡ node.File f → (len : ℕ) → IfSome (at k.nodes.files f) (λ bytes. len ≡ length bytes) → AreReadable key (len - o.offset)
    unfolding core_of
    readable-file f is len told =
        let there = file_there k whole key f (record { opened = o; here = here; node = is }) in
        let long : len ≡ length there.0 = subst (λ z. IfSome z (λ (bytes : List ℕ). len ≡ length bytes)) there.1 told in
        said (len - o.offset) (
        ap (λ n. n - o.offset) long ∙ sym (length-drop o.offset there.0)
        ∙ sym (ap (λ n. readable_on c (description_of o) (node_of n)) is ∙ ap (λ z. length (drop o.offset (unwrap_or z []))) there.1))

  -- the same of a key whose description is known
  told_of : (key r : ℕ) (o : Opened) → at k.opened key ≡ Some o → AreReadable key r → r ≡ readable_on c (description_of o) (node_of o.node)
  told_of key r o here told = subst (λ z. IfSome z (λ o. r ≡ readable_on c (description_of o) (node_of o.node))) here told

  -- what a descriptor names
  pub readable-named : (pid : ℕ) (fd : ℤ) (o : OpenNode) → Opens k reads pid fd o → (r : ℕ) → AreReadable o.key r → r ≡ readable c (open_for reads c pid fd)
  readable-named pid fd o opens r told = told_of o.key r opens.on.opened opens.on.here told ∙ sym (ap (readable c) (open-found k reads pid fd o opens))

  module _ (sound : IsSound A k) (number : ℕ) where
    -- a parked read
    pub readable-kept : (key n : ℕ) (w : ReadWaits k number key n) (o : Opened) → at k.opened key ≡ Some o → (r : ℕ) → AreReadable key r → min n r ≡ bytes_again c (get nat_eq c.parked number)
    unfolding core_of
    readable-kept key n w o here r told =
        ap (min n) (told_of key r o here told
        ∙ sym (ap (λ z. readable c (option_map (λ x. record { key = key; description = x }) (option_map description_of z))) here))
        ∙ sym (ap (bytes_again c) (parked-is k sound number (Some w.call) w.here)
        ∙ ap (bytes_of_try c (waiting_of w.call)) w.asked
        ∙ ap (λ ks. min n (readable c (kept_at c ks 0))) w.kept)

    -- another call, or none
    other : (w : ParkedCall A) → get nat_eq k.calls.calls number ≡ Some w → ((key n : ℕ) → ReadWaits k number key n → ⊥) → IsWaiting A w → (call : Call A) → w.call ≡ call → bytes_of_try c (waiting_of w) call ≡ 0
    other w here none waits (Read fd n) is =
        let keeps = subst (λ z. Keeps z w.kept) is waits.keeps in
        absurd (none keeps.0 n (record { fd = fd; call = w; here = here; asked = is; kept = keeps.1 }))
    other w here none waits call is = refl

    pub none-readable : ((key n : ℕ) → ReadWaits k number key n → ⊥) → 0 ≡ bytes_again c (get nat_eq c.parked number)
    none-readable none = by (get nat_eq k.calls.calls number) refl (sound.waiting number)
      where
        by : (o : Option (ParkedCall A)) → get nat_eq k.calls.calls number ≡ o → IfSome o (IsWaiting A) → 0 ≡ bytes_again c (get nat_eq c.parked number)
        by None e waits = sym (ap (bytes_again c) (parked-is k sound number None e))
        by (Some w) e waits = sym (ap (bytes_again c) (parked-is k sound number (Some w) e) ∙ other w e none waits w.call refl)
