-- What a poll looks at of a description, at the kernel's keys.
use Rattle.std.proofs.Common.{◌≡◌, ℕ, Bool, true, false, Option, Some, None, IfSome, sym, ◌∙◌, ap, subst, length}
use Rattle.std.specs.Prelude.{nat_lt, unwrap_or, option_map, IsSome}
use Rattle.std.proofs.lemmas.Option.{same_Some}
use Rattle.pl_model.specs.declared.calls.Mode.{Mode}
use Rattle.pl_model.specs.declared.cases.Polled.{Polled}
use Rattle.pl_model.specs.declared.node.Node.TheVariants as node
use Rattle.pl_model.specs.declared.flags.PollMask.{PollMask}
use Rattle.pl_model.specs.State.{Core, Pipe, empty_pipe, described}
use Rattle.pl_model.specs.Live.{readers}
use Rattle.pl_model.specs.Modes.{reads}
use Rattle.pl_model.specs.Transfer.{room}
use Rattle.pl_model.specs.Poll.{polled, mask_of, mask_at}
use Rattle.pl_model.specs.Numbered.{numbers}
use Rattle.pl_model.proofs.settling.WhoIsLive.{readers-is}
use Rattle.pl_desc.specs.Rows.{at}
use Rattle.pl_desc.specs.Descs.{Opened, ends_on}
use Rattle.pl_state.specs.Contents.{Contents, node_of, description_of, core_of}
use Rattle.pl_state.specs.Sound.{IsWhole}
use Rattle.pl_state.proofs.by_call.Begun.{ends-is, pipe_there, there}
use Rattle.pl_polls.specs.Ends.{end_at}

module _ {A : Type 0} (k : Contents A) (whole : IsWhole A k) (key : ℕ) (some : IsSome (at k.opened key)) where
  abbrev c : Core A numbers
  c = core_of k

  abbrev found : (o : Opened) × (at k.opened key ≡ Some o)
  found = there (at k.opened key) some

  abbrev o : Opened
  o = found.0

  -- what is told of the description
  is_told : {X : Type 0} (f : Opened → X) (x : X) → option_map f (at k.opened key) ≡ Some x → f o ≡ x
  is_told f x told = same_Some (f o) x (sym (ap (option_map f) found.1) ∙ told)

  -- a mask of this is that of the description
  abbrev LooksAt : Polled → Type 0
  LooksAt x = (asked result : PollMask) → result ≡ mask_of x asked → IfSome (at k.opened key) (λ o. result ≡ mask_of (polled c (description_of o) (node_of o.node)) asked)

  said : (x : Polled) → ((asked : PollMask) → mask_of x asked ≡ mask_of (polled c (description_of o) (node_of o.node)) asked) → LooksAt x
  said x is = λ asked result told. subst (λ z. IfSome z (λ o. result ≡ mask_of (polled c (description_of o) (node_of o.node)) asked)) (sym found.1) (told ∙ is asked)

  module _ (p : ℕ) (told : option_map (λ (x : Opened). x.node) (at k.opened key) ≡ Some (node.Pipe p)) where
    is : o.node ≡ node.Pipe p
    is = is_told (λ (x : Opened). x.node) (node.Pipe p) told

    abbrev pipe : (y : Pipe) × (at k.nodes.pipes p ≡ Some y)
    pipe = pipe_there k whole key p (record { opened = o; here = found.1; node = is })

    of_pipe : (P : Pipe → Type 0) → IfSome (at k.nodes.pipes p) P → P pipe.0
    of_pipe P h = subst (λ z. IfSome z P) pipe.1 h

    -- what the machine looks at, by an end of this mode
    abbrev seen : Mode → Polled
    seen mode = Polled.Pipe mode (length pipe.0.bytes) (room pipe.0) (nat_lt 0 (readers c p)) pipe.0.hung

    looked : (mode : Mode) → option_map (λ (x : Opened). x.mode) (at k.opened key) ≡ Some mode → polled c (description_of o) (node_of o.node) ≡ seen mode
    unfolding core_of
    looked mode m =
        ap (λ n. polled c (description_of o) (node_of n)) is
        ∙ ap (λ z. Polled.Pipe o.mode (length (unwrap_or z empty_pipe).bytes) (room (unwrap_or z empty_pipe)) (nat_lt 0 (readers c p)) (unwrap_or z empty_pipe).hung) pipe.1
        ∙ ap seen (is_told (λ (x : Opened). x.mode) mode m)

    looks : (mode : Mode) → option_map (λ (x : Opened). x.mode) (at k.opened key) ≡ Some mode → (x : Polled) → ((asked : PollMask) → mask_of x asked ≡ mask_of (seen mode) asked) → LooksAt x
    looks mode m x same = said x (λ asked. same asked ∙ ap (λ y. mask_of y asked) (sym (looked mode m)))

    -- whether the pipe has a reader, by the count of its ends
    has_reader : (many : ℕ) → many ≡ ends_on reads k.opened (node.Pipe p) → nat_lt 0 many ≡ nat_lt 0 (readers c p)
    has_reader many r = ap (nat_lt 0) r ∙ sym (readers-is c p ∙ ends-is k whole reads (node.Pipe p))

    abbrev Holds : ℕ → Type 0
    Holds held = IfSome (at k.nodes.pipes p) (λ x. held ≡ length x.bytes)

    abbrev HasRoom : ℕ → Type 0
    HasRoom free = IfSome (at k.nodes.pipes p) (λ x. free ≡ room x)

    abbrev IsHung : Bool → Type 0
    IsHung hung = IfSome (at k.nodes.pipes p) (λ x. hung ≡ x.hung)

    pub looks_at_reader : option_map (λ (x : Opened). x.mode) (at k.opened key) ≡ Some Mode.Read → (held : ℕ) (hung : Bool) → Holds held → IsHung hung → LooksAt (Polled.Pipe Mode.Read held 0 true hung)
    looks_at_reader m held hung h g = looks Mode.Read m (Polled.Pipe Mode.Read held 0 true hung)
        (λ asked i. mask_of (Polled.Pipe Mode.Read (of_pipe (λ x. held ≡ length x.bytes) h i) (room pipe.0) (nat_lt 0 (readers c p)) (of_pipe (λ x. hung ≡ x.hung) g i)) asked)

    pub looks_at_writer : option_map (λ (x : Opened). x.mode) (at k.opened key) ≡ Some Mode.Write → (free many : ℕ) → HasRoom free → many ≡ ends_on reads k.opened (node.Pipe p) → LooksAt (Polled.Pipe Mode.Write 0 free (nat_lt 0 many) false)
    looks_at_writer m free many f r = looks Mode.Write m (Polled.Pipe Mode.Write 0 free (nat_lt 0 many) false)
        (λ asked i. mask_of (Polled.Pipe Mode.Write (length pipe.0.bytes) (of_pipe (λ x. free ≡ room x) f i) (has_reader many r i) pipe.0.hung) asked)

    pub looks_at_both : option_map (λ (x : Opened). x.mode) (at k.opened key) ≡ Some Mode.Both → (held free many : ℕ) (hung : Bool) → Holds held → HasRoom free → many ≡ ends_on reads k.opened (node.Pipe p) → IsHung hung
        → LooksAt (Polled.Pipe Mode.Both held free (nat_lt 0 many) hung)
    looks_at_both m held free many hung h f r g = looks Mode.Both m (Polled.Pipe Mode.Both held free (nat_lt 0 many) hung)
        (λ asked i. mask_of (Polled.Pipe Mode.Both (of_pipe (λ x. held ≡ length x.bytes) h i) (of_pipe (λ x. free ≡ room x) f i) (has_reader many r i) (of_pipe (λ x. hung ≡ x.hung) g i)) asked)

-- what is told of a pipe that is there is what the machine looks at of its ends
pub sees-end : {A : Type 0} (k : Contents A) → IsWhole A k → (p : ℕ) → IsSome (at k.nodes.pipes p) → (mode : Mode) (held free many : ℕ) (hung : Bool) → IfSome (at k.nodes.pipes p) (λ x. held ≡ length x.bytes) →
    IfSome (at k.nodes.pipes p) (λ x. free ≡ room x) → many ≡ ends_on reads k.opened (node.Pipe p) → IfSome (at k.nodes.pipes p) (λ x. hung ≡ x.hung) → Polled.Pipe mode held free (nat_lt 0 many) hung ≡ end_at (core_of k) p mode
unfolding core_of
sees-end k whole p some mode held free many hung h f r g = by (at k.nodes.pipes p) (λ i. at k.nodes.pipes p) some h f g
  where
    by : (o : Option Pipe) → at k.nodes.pipes p ≡ o → IsSome o → IfSome o (λ x. held ≡ length x.bytes) → IfSome o (λ x. free ≡ room x) → IfSome o (λ x. hung ≡ x.hung) → Polled.Pipe mode held free (nat_lt 0 many) hung ≡ end_at (core_of k) p mode
    by None at_none none h f g = absurd (let no : IsSome {T = Pipe} None = none in cc)
    by (Some x) at_some some h f g =
        (λ i. Polled.Pipe mode (h i) (f i) ((ap (nat_lt 0) r ∙ sym (readers-is (core_of k) p ∙ ends-is k whole reads (node.Pipe p))) i) (g i))
        ∙ ap (λ o. Polled.Pipe mode (length (unwrap_or o empty_pipe).bytes) (room (unwrap_or o empty_pipe)) (nat_lt 0 (readers (core_of k) p)) (unwrap_or o empty_pipe).hung) (sym at_some)

-- the mask of a description
pub mask_is : {A : Type 0} (k : Contents A) (key : ℕ) → IsSome (at k.opened key) → (asked m : PollMask) → IfSome (at k.opened key) (λ o. m ≡ mask_of (polled (core_of k) (description_of o) (node_of o.node)) asked)
    → m ≡ mask_at (core_of k) (described (core_of k) key) asked
unfolding core_of
mask_is k key there asked m h = by (at k.opened key) there h
  where
    by : (o : Option Opened) → IsSome o → IfSome o (λ o. m ≡ mask_of (polled (core_of k) (description_of o) (node_of o.node)) asked) → m ≡ mask_at (core_of k) (option_map (λ y. record { key = key; description = y }) (option_map description_of o)) asked
    by None i h = absurd (cc)
    by (Some o) i h = h
