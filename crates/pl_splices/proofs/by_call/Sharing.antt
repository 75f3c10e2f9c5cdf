-- What a splice or a tee that moves nothing, is parked, or ends with its call, leaves of memory.
use Rattle.std.proofs.Common.{◌≡◌, ◌≤◌, ℕ, ℤ, Bool, true, false, List, [], ◌∷◌, Option, Some, None, IfSome, sym, ◌∙◌, ap, subst, arith}
use Rattle.std.specs.Prelude.{Result, Ok, Err, OnOk, OnErr, if◌then◌else◌, option_and_then}
use Rattle.pl_model.specs.declared.calls.Call.{Call}
use Rattle.pl_model.specs.declared.calls.Call.TheVariants as call
use Rattle.pl_model.specs.declared.calls.Step.{Step}
use Rattle.pl_model.specs.declared.calls.Step.TheVariants.{Resume}
use Rattle.pl_model.specs.declared.node.Node.{Node}
use Rattle.pl_model.specs.declared.node.Node.TheVariants.{Pipe, File}
use Rattle.pl_model.specs.Modes.{reads, writes}
use Rattle.pl_parked.specs.declared.call.ParkedCall.{ParkedCall}
use Rattle.pl_segments.specs.declared.slice.Slice.{Slice}
use Rattle.pl_segments.specs.Sharing.{slots_at}
use Rattle.pl_ring.specs.Parts.{strange}
use Rattle.pl_ring.proofs.Counting.{fresh-own, strange-less}
use Rattle.pl_desc.specs.Rows.{at, row_of}
use Rattle.pl_nodes.specs.Nodes.{Memory, Shrinks}
use Rattle.pl_state.specs.declared.access.OpenNode.{OpenNode}
use Rattle.pl_state.specs.Contents.{Contents}
use Rattle.pl_state.specs.Opens.{OpenOn, Opens}
use Rattle.pl_splices.specs.declared.sides.Side.{Side}
use Rattle.pl_splices.specs.Moves.{IsMove, MoveWaits}
use Rattle.pl_splices.specs.Shares.{Shares, SharesBetween, SharesByStep, Way, place_in, way_between, way_named, way_kept, way_waiting, way_of}

-- slots that were there aren't strange
strange-own : (xs ys : List Slice) → strange xs ys xs ≤ 3
strange-own xs ys =
    let less = strange-less xs ys xs in
    let none = fresh-own xs in
    omega (arith, less, none)

-- where nothing changed
pub shares-same : {A : Type 0} (k : Contents A) (m n : Node) (place : ℕ) → Shares k m n place k.nodes.memory
shares-same k (Pipe p) (Pipe q) place = record { few = omega arith; parts = strange-own (slots_at k.nodes.memory.slots q) (slots_at k.nodes.memory.slots p) }
shares-same k (Pipe p) (File f) place = λ within. record { fewer = omega arith; named_before = λ key h. h }
shares-same k (File f) n place = tt

pub by_step-same : {A : Type 0} (k : Contents A) (x : Step A) → SharesByStep k x k
by_step-same k x = by (way_of k x)
  where
    by : (o : Option Way) → IfSome o (λ way. Shares k way.from way.to way.place k.nodes.memory)
    by None = tt
    by (Some way) = shares-same k way.from way.to way.place

-- what goes takes none of it away
pub shares-shrunk : {A : Type 0} (k : Contents A) (m n : Node) (place : ℕ) (mid new : Memory) → Shares k m n place mid → Shrinks mid new → Shares k m n place new
shares-shrunk k (Pipe p) (Pipe q) place mid new shares less =
    let fewer = less.fewer in
    let few = shares.few in
    record { few = omega (arith, fewer, few); parts = by (less.slots q).0 (less.slots q).1 }
  where
    by : (goes : Bool) → slots_at new.slots q ≡ (if goes then [] else slots_at mid.slots q) → strange (slots_at k.nodes.memory.slots q) (slots_at k.nodes.memory.slots p) (slots_at new.slots q) ≤ 3
    by true e = subst (λ (ys : List Slice). strange (slots_at k.nodes.memory.slots q) (slots_at k.nodes.memory.slots p) ys ≤ 3) (sym e) (omega arith)
    by false e = subst (λ (ys : List Slice). strange (slots_at k.nodes.memory.slots q) (slots_at k.nodes.memory.slots p) ys ≤ 3) (sym e) shares.parts
shares-shrunk k (Pipe p) (File f) place mid new shares less = λ within.
    let was = shares within in
    let fewer = less.fewer in
    let few = was.fewer in
    record {
      fewer = omega (arith, fewer, few);
      named_before = λ key h. let l = less.fewer_named key in was.named_before key (omega (arith, l, h));
    }
shares-shrunk k (File f) n place mid new shares less = tt

-- what was done between nodes of these kinds, or was refused with nothing changed
pub between : {A T E : Type 0} (k new : Contents A) (from to : Side) (m n : Node) → from.node ≡ m → to.node ≡ n → (r : Result T E)
    → OnOk r (Shares k m n (place_in (at k.opened to.key) to.given) new.nodes.memory) → OnErr r (new ≡ k) → SharesBetween k from to new
between {A} {T} {E} k new from to m n is_from is_to r done same =
    subst (λ z. Shares k z to.node place new.nodes.memory) (sym is_from) (subst (λ z. Shares k m z place new.nodes.memory) (sym is_to) (by r done same))
  where
    place : ℕ
    place = place_in (at k.opened to.key) to.given

    by : (r : Result T E) → OnOk r (Shares k m n place new.nodes.memory) → OnErr r (new ≡ k) → Shares k m n place new.nodes.memory
    by (Ok x) done same = done
    by (Err e) done same = subst (λ (z : Contents A). Shares k m n place z.nodes.memory) (sym same) (shares-same k m n place)

pub from_a_file : {A : Type 0} (k new : Contents A) (from to : Side) (f : ℕ) → from.node ≡ File f → SharesBetween k from to new
from_a_file k new from to f is = subst (λ z. Shares k z to.node (place_in (at k.opened to.key) to.given) new.nodes.memory) (sym is) tt

-- the way of the bytes between what two descriptors name
module _ {A : Type 0} (k : Contents A) (pid : ℕ) where
  found : (fd : ℤ) (o : OpenNode) (key : row_of k.tables pid fd ≡ Some o.key) (on : OpenOn k o.key o.node) → option_and_then (at k.opened) (row_of k.tables pid fd) ≡ Some on.opened
  found fd o key on = ap (option_and_then (at k.opened)) key ∙ on.here

  pub way_named-is : (from to : ℤ) (given : Option ℕ) (source target : OpenNode) → Opens k reads pid from source → Opens k writes pid to target
      → way_named k pid from to given ≡ Some (record { from = source.node; to = target.node; place = place_in (at k.opened target.key) given })
  way_named-is from to given source target a b =
      (λ i. way_between (found from source a.row a.on i) (found to target b.row b.on i) given)
      ∙ (λ i. Some (record { from = a.on.node i; to = b.on.node i; place = place_in (sym b.on.here i) given }))

-- and between what a call keeps
module _ {A : Type 0} (k : Contents A) (number : ℕ) (from to : Side) (len : ℕ) (is_tee : Bool) (waits : MoveWaits k number from to len is_tee) (a : OpenOn k from.key from.node) (b : OpenOn k to.key to.node) where
  abbrev way : Way
  way = record { from = from.node; to = to.node; place = place_in (at k.opened to.key) to.given }

  kept-is : (given : Option ℕ) → given ≡ to.given → way_kept k (from.key ∷ to.key ∷ []) given ≡ Some way
  kept-is given e =
      (λ i. way_between (a.here i) (b.here i) (e i))
      ∙ (λ i. Some (record { from = a.node i; to = b.node i; place = place_in (sym b.here i) to.given }))

  waiting-is : (x : Call A) → IsMove x from to len is_tee → way_waiting k x (from.key ∷ to.key ∷ []) ≡ Some way
  waiting-is (call.Splice f f_given t t_given n flags) asked = kept-is t_given asked.1
  waiting-is (call.Tee f t n flags) asked = kept-is None (sym asked.1)
  waiting-is other asked = absurd asked

  pub way_resumed-is : way_of k (Resume number) ≡ Some way
  way_resumed-is =
      ap (option_and_then (λ (w : ParkedCall A). way_waiting k w.call w.kept)) waits.here
      ∙ ap (way_waiting k waits.call.call) waits.kept
      ∙ waiting-is waits.call.call waits.asked

-- bytes of a step go this way
pub by_way : {A : Type 0} (old : Contents A) (x : Step A) (road : Way) (new : Contents A) → way_of old x ≡ Some road → Shares old road.from road.to road.place new.nodes.memory → SharesByStep old x new
by_way old x road new is shares = subst (λ o. IfSome o (λ (way : Way). Shares old way.from way.to way.place new.nodes.memory)) (sym is) shares
