-- What one try of a splice or a tee does, at the kernel's keys.
use Rattle.std.specs.Prelude.{◌≡◌, ◌≤◌, ℕ, Bool, true, false, [], ◌∷◌, take, Option, IfSome, nat_eq}
use Rattle.std.specs.declared.option.Option.TheVariants.{None, Some}
use Rattle.pl_model.specs.declared.calls.Call.{Call}
use Rattle.pl_model.specs.declared.calls.Call.TheVariants as call
use Rattle.pl_model.specs.declared.replies.Reply.{Reply}
use Rattle.pl_model.specs.Map.{get}
use Rattle.pl_model.specs.State.{Core}
use Rattle.pl_model.specs.Trial.{Trial, Flow, Done, Wait, still, flowed}
use Rattle.pl_model.specs.Transfer.{count}
use Rattle.pl_model.specs.Splice.{Side as MachineSide, side, try_move, moved, bytes_from, source_of, target_of, to_be_had, room_of}
use Rattle.pl_model.specs.Step.{with_both}
use Rattle.pl_model.specs.Numbered.{numbers}
use Rattle.pl_parked.specs.declared.call.ParkedCall.{ParkedCall}
use Rattle.pl_desc.specs.Rows.{at}
use Rattle.pl_state.specs.Contents.{Contents, node_of, core_of}
use Rattle.pl_state.specs.Opens.{OpenOn}
use Rattle.pl_state.specs.Sound.{AreApart, IsPipe}
use Rattle.pl_splices.specs.declared.sides.Side.{Side}
use Rattle.pl_splices.specs.Resembling.{Resembles}
use Rattle.pl_splices.specs.Sides.{side_of}

-- Both descriptions are open on their nodes, between which bytes may go. A tee is between pipes.
pub record Goes {A : Type 0} (k : Contents A) (from to : Side) (is_tee : Bool) : Type 0 where
  pub source : OpenOn k from.key from.node
  pub target : OpenOn k to.key to.node
  pub apart : AreApart from.node to.node
  pub pipes : is_tee ≡ true → IsPipe from.node × IsPipe to.node

-- what is said of both sides, as the machine has them
abbrev pub OfBoth : {A : Type 0} → Contents A → (from to : Side) → (MachineSide numbers → MachineSide numbers → Type 0) → Type 0
OfBoth k from to P = IfSome (at k.opened from.key) (λ x. IfSome (at k.opened to.key) (λ y. P (side_of from x) (side_of to y)))

-- so many bytes are there, and there is room for them
abbrev pub Fits : {A : Type 0} → Contents A → (from to : Side) → ℕ → Type 0
Fits k from to many = OfBoth k from to (λ a b. (many ≤ to_be_had (source_of (core_of k) a (node_of from.node))) × (many ≤ room_of (target_of (core_of k) b (node_of to.node))))

-- What a step left, in which only bytes and offsets changed, as this state and this flow have it.
pub record Leaves {A : Type 0} (old new : Contents A) (state : Core A numbers) (flow : Flow numbers) : Type 0 where
  pub left : core_of new ≡ flowed state flow
  pub like : Resembles (core_of old) (core_of new)
  pub calls : new.calls ≡ old.calls

-- splice(2), tee(2): so many bytes went over.
pub record GoesOver {A : Type 0} (old : Contents A) (from to : Side) (is_tee : Bool) (many : ℕ) (new : Contents A) : Type 0 where
  pub state : Core A numbers
  pub flow : Flow numbers
  pub came : OfBoth old from to (λ a b. moved (core_of old) a b is_tee (take many (bytes_from (core_of old) a a.description.node)) ≡ Done state flow (count many))
  pub leaves : Leaves old new state flow

-- the call is a splice, or a tee, of so many bytes at most, with these offsets given
abbrev pub IsMove : {A : Type 0} → Call A → (from to : Side) → (len : ℕ) → (is_tee : Bool) → Type 0
IsMove (call.Splice a x b y n flags) from to len is_tee = (x ≡ from.given) × (y ≡ to.given) × (n ≡ len) × (is_tee ≡ false)
IsMove (call.Tee a b n flags) from to len is_tee = (from.given ≡ None) × (to.given ≡ None) × (n ≡ len) × (is_tee ≡ true)
IsMove other from to len is_tee = ⊥

module _ {A : Type 0} (k : Contents A) (from to : Side) (len : ℕ) (is_tee : Bool) where
  -- what the machine's try of it comes to
  abbrev pub trial : Trial A numbers
  trial = with_both (core_of k) (from.key ∷ to.key ∷ []) (λ a b. try_move (core_of k) (side a from.given) (side b to.given) len is_tee)

  -- a try that ends was answered so, and left this
  pub record Ends (reply : Reply A) (new : Contents A) : Type 0 where
    pub state : Core A numbers
    pub flow : Flow numbers
    pub came : trial ≡ Done state flow reply
    pub leaves : Leaves k new state flow

  -- one that waits changes nothing
  pub record StillWaits (new : Contents A) : Type 0 where
    pub came : trial ≡ Wait (core_of k) still 0
    pub same : new ≡ k

  -- it ended with a reply, or waits
  abbrev pub Tries : Option (Reply A) → Contents A → Type 0
  Tries (Some reply) new = Ends reply new
  Tries None new = StillWaits new

  -- some bytes go over
  pub record WouldMove : Type 0 where
    pub state : Core A numbers
    pub flow : Flow numbers
    pub many : ℕ
    pub came : trial ≡ Done state flow (count many)

-- a call of the process that waits on two descriptions
abbrev pub call_between : {A : Type 0} → (from to pid : ℕ) → Call A → ParkedCall A
call_between from to pid call = record { pid = pid; call = call; kept = from ∷ to ∷ []; fifo = None; taken = 0; met = false }

-- the call of the number waits, and keeps the descriptions of these sides
pub record MoveWaits {A : Type 0} (k : Contents A) (number : ℕ) (from to : Side) (len : ℕ) (is_tee : Bool) : Type 0 where
  pub call : ParkedCall A
  pub here : get nat_eq k.calls.calls number ≡ Some call
  pub asked : IsMove call.call from to len is_tee
  pub kept : call.kept ≡ from.key ∷ to.key ∷ []
  pub none_taken : call.taken ≡ 0
