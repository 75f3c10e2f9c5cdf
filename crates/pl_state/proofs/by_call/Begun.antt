-- What a call comes to at the kernel's keys.
use Rattle.std.proofs.Common.{◌≡◌, ℕ, ◌+◌, Bool, true, false, cond, List, [], ◌∷◌, map, Option, Some, None, refl, sym, ◌∙◌, ap, subst}
use Rattle.std.specs.Prelude.{count_by, length, nat_eq, not, ◌&&◌, ◌||◌, nat_lt, ℤ, pos, negsuc, option_map, option_and_then, is_some, IfSome, IsSome}
use Rattle.std.proofs.lemmas.Bool.{eq-eqb}
use Rattle.std.proofs.lemmas.List.{length-map}
use Rattle.std.proofs.lemmas.List.Sums.{sum_by-cons}
use Rattle.pl_model.specs.Map.{Map}
use Rattle.pl_parked.specs.declared.call.ParkedCall.{ParkedCall}
use Rattle.pl_model.specs.declared.calls.Mode.{Mode}
use Rattle.pl_model.specs.declared.calls.Call.{Call}
use Rattle.pl_model.specs.declared.calls.Step.{Step}
use Rattle.pl_model.specs.declared.calls.Step.TheVariants.{Begin}
use Rattle.pl_model.specs.declared.replies.Reply.{Reply}
use Rattle.pl_model.specs.declared.replies.Reply.TheVariants.{Fault, NoProcess}
use Rattle.pl_model.specs.declared.replies.Errno.{Errno}
use Rattle.pl_model.specs.declared.node.Node.{Node}
use Rattle.pl_model.specs.declared.node.Node.TheVariants as node
use Rattle.pl_model.specs.Modes.{any_mode}
use Rattle.pl_model.specs.Keys.{NewKeys, Drawing, PipeNode, Plain, Draws, drawn, drawing_map}
use Rattle.pl_model.specs.State.{Core, Pipe, Waiting, described, row, waiting_calls_of, can_wait, can_name}
use Rattle.pl_model.specs.Live.{is_live, is_open, is_end}
use Rattle.pl_model.specs.Settle.{settle}
use Rattle.pl_model.specs.Trial.{Trial, Begun, Refused, Answered, Tried}
use Rattle.pl_model.specs.Begin.{open_fd, open_for, allowed, may_block}
use Rattle.pl_model.specs.Step.{Stepped, begin, begun, happen, core_step, ended, stepped, first_tried, waiting, try}
use Rattle.pl_model.specs.Numbered.{numbers}
use Rattle.pl_model.specs.StandsFor.{Comes}
use Rattle.pl_model.specs.Memory.{is_refusal}
use Rattle.pl_model.proofs.settling.WhoIsLive.{has_end, end_passes, settled-live}
use Rattle.pl_state.specs.declared.access.OpenNode.{OpenNode}
use Rattle.pl_desc.specs.Rows.{at, is_pid, row_of}
use Rattle.pl_desc.specs.Descs.{Opened, ends_on}
use Rattle.pl_state.specs.Contents.{Contents, IsThere, node_of, description_of, waiting_of, core_of, waiting_count, lets_wait, lets_name}
use Rattle.pl_state.specs.Opens.{OpenOn, Opens}
use Rattle.pl_state.specs.Sound.{IsSound, IsWhole}
use Rattle.pl_state.specs.Makes.{MakesAtKeys, MayWantAtKeys, is_parked, ParksAtKeys}
use Rattle.pl_state.proofs.holders.Ends.{has_end-is}

module _ {A : Type 0} (k new : Contents A) (x : Step A) where
  -- a step that takes no new keys
  pub does_plain : (h : Stepped A numbers) (reply : Reply A) → core_step (core_of k) x ≡ Plain h → reply ≡ h.reply → core_of new ≡ h.state → MakesAtKeys k x reply new
  does_plain h reply e r s = subst (λ a. Comes (core_of k) a reply (core_of new)) (sym e) (r, s)

  pub wants_plain : (h : Stepped A numbers) → core_step (core_of k) x ≡ Plain h → is_refusal h.reply ≡ false → MayWantAtKeys k x
  wants_plain h e r = λ new. ap (λ (a : Drawing numbers (Stepped A numbers)). is_refusal (drawn {X = Stepped A numbers} new a).reply) e ∙ r

  pub parks_plain : (h : Stepped A numbers) → core_step (core_of k) x ≡ Plain h → is_parked h.reply ≡ true → ParksAtKeys k x
  parks_plain h e r = λ new. ap (λ (a : Drawing numbers (Stepped A numbers)). is_parked (drawn {X = Stepped A numbers} new a).reply) e ∙ r

module _ {A : Type 0} (k : Contents A) (sound : IsSound A k) (x : Step A) where
  -- a step that changes nothing
  pub does_same : (h : Stepped A numbers) (reply : Reply A) → core_step (core_of k) x ≡ Plain (ended (core_of k) h) → reply ≡ h.reply → h.state ≡ core_of k → MakesAtKeys k x reply k
  does_same h reply e r s = does_plain k k x (ended (core_of k) h) reply e r (sym (ap (settle (core_of k)) s ∙ sound.settled))

module _ {A : Type 0} (k : Contents A) (pid : ℕ) (call : Call A) (process : is_pid k.tables pid ≡ true) where
  abbrev c : Core A numbers
  c = core_of k

  pub step-begin : core_step c (Begin pid call) ≡ drawing_map (ended c) (drawing_map (begun c pid call) (begin c pid call))
  unfolding core_step happen core_of
  step-begin = ap (λ b. drawing_map (ended c) (cond b (drawing_map (begun c pid call) (begin c pid call)) (Plain (stepped c NoProcess)))) process

  pub step-refused : (errno : Errno) → begin c pid call ≡ Plain (Refused errno) → core_step c (Begin pid call) ≡ Plain (ended c (stepped c (Fault errno)))
  step-refused errno e = step-begin ∙ ap (λ b. drawing_map (ended c) (drawing_map (begun c pid call) b)) e

  pub step-answered : (s : Core A numbers) (reply : Reply A) → begin c pid call ≡ Plain (Answered s reply) → core_step c (Begin pid call) ≡ Plain (ended c (stepped s reply))
  step-answered s reply e = step-begin ∙ ap (λ b. drawing_map (ended c) (drawing_map (begun c pid call) b)) e

  pub step-tried : (kept : List ℕ) (met may_wait : Bool) (t : Trial A numbers) → begin c pid call ≡ Plain (Tried c kept met may_wait) → try c (waiting pid call kept met) call may_wait ≡ t
      → core_step c (Begin pid call) ≡ Plain (ended c (first_tried c (waiting pid call kept met) (may_wait && can_wait c pid) t))
  step-tried kept met may_wait t e h =
      step-begin ∙ ap (λ b. drawing_map (ended c) (drawing_map (begun c pid call) b)) e
      ∙ ap (λ t. Plain (ended c (first_tried c (waiting pid call kept met) (may_wait && can_wait c pid) t))) h

  pub step-draws : (f : NewKeys numbers → Begun A numbers) → begin c pid call ≡ Draws f → core_step c (Begin pid call) ≡ Draws (λ new. ended c (begun c pid call (f new)))
  step-draws f e = step-begin ∙ ap (λ b. drawing_map (ended c) (drawing_map (begun c pid call) b)) e

module _ {A : Type 0} (k : Contents A) where
  abbrev core : Core A numbers
  core = core_of k

  pub waiting_calls-are : (pid : ℕ) → waiting_calls_of core pid ≡ waiting_count k pid
  unfolding core_of
  waiting_calls-are pid = of_process k.calls.calls
    where
      of_process : (calls : Map ℕ (ParkedCall A)) → count_by (λ (e : ℕ × Waiting A numbers). nat_eq e.1.pid pid) (map (λ (e : ℕ × ParkedCall A). (e.0, waiting_of e.1)) calls) ≡ count_by (λ (e : ℕ × ParkedCall A). nat_eq e.1.pid pid) calls
      of_process [] = refl
      of_process (e ∷ es) =
          sum_by-cons (λ (e : ℕ × Waiting A numbers). cond (nat_eq e.1.pid pid) 1 0) (e.0, waiting_of e.1) (map (λ (e : ℕ × ParkedCall A). (e.0, waiting_of e.1)) es)
          ∙ ap (λ n. cond (nat_eq e.1.pid pid) 1 0 + n) (of_process es)
          ∙ sym (sum_by-cons (λ (e : ℕ × ParkedCall A). cond (nat_eq e.1.pid pid) 1 0) e es)

  -- what the limits let be
  pub can_wait-is : (pid : ℕ) → can_wait core pid ≡ lets_wait k pid
  unfolding core_of
  can_wait-is pid =
      let of_process = waiting_calls-are pid in
      let all : length core.parked ≡ length k.calls.calls = length-map k.calls.calls (λ e. (e.0, waiting_of e.1)) in
      λ i. nat_lt (of_process i) k.limits.waiting_of_each && nat_lt (all i) k.limits.waiting_max

  pub can_name-is : can_name core ≡ lets_name k
  unfolding core_of
  can_name-is = ap (λ n. nat_lt n k.limits.names_max) (length-map k.nodes.names (λ e. (e.0, node_of e.1)))

  -- a call may wait, and fewer do than the limit
  pub may_wait-is : (pid : ℕ) (nonblock : Bool) → (not nonblock && can_wait core pid) ≡ not (nonblock || not (lets_wait k pid))
  may_wait-is pid nonblock = ap (λ b. not nonblock && b) (can_wait-is pid) ∙ both nonblock (lets_wait k pid)
    where
      both : (a b : Bool) → (not a && b) ≡ not (a || not b)
      both true b = refl
      both false true = refl
      both false false = refl

  pub row-is : (pid : ℕ) (fd : ℤ) → row core pid fd ≡ row_of k.tables pid fd
  unfolding core_of
  row-is pid (pos fd) = refl
  row-is pid (negsuc n) = refl

  -- the description that a descriptor names
  pub open-is : (pid : ℕ) (fd : ℤ) (d : ℕ) (x : Opened) → row_of k.tables pid fd ≡ Some d → at k.opened d ≡ Some x → open_fd core pid fd ≡ Some (record { key = d; description = description_of x })
  unfolding core_of
  open-is pid fd d x row here =
      ap (option_and_then (described core)) (row-is pid fd ∙ row)
      ∙ ap (λ z. option_map (λ y. record { key = d; description = y }) (option_map description_of z)) here

  pub open-none : (pid : ℕ) (fd : ℤ) → row_of k.tables pid fd ≡ None → open_fd core pid fd ≡ None
  open-none pid fd none = ap (option_and_then (described core)) (row-is pid fd ∙ none)

  module _ (test : Mode → Bool) (pid : ℕ) (fd : ℤ) where
    pub unopened-for : row_of k.tables pid fd ≡ None → open_for test core pid fd ≡ None
    unopened-for none = ap (allowed test) (open-none pid fd none)

    pub barred-for : (d : ℕ) (x : Opened) → row_of k.tables pid fd ≡ Some d → at k.opened d ≡ Some x → test x.mode ≡ false → open_for test core pid fd ≡ None
    barred-for d x row here barred = ap (allowed test) (open-is pid fd d x row here) ∙ ap (λ b. cond b (Some (record { key = d; description = description_of x })) None) barred

    pub open-found : (o : OpenNode) (opens : Opens k test pid fd o) → open_for test core pid fd ≡ Some (record { key = o.key; description = description_of opens.on.opened })
    open-found o opens = ap (allowed test) (open-is pid fd o.key opens.on.opened opens.row opens.on.here) ∙ ap (λ b. cond b (Some (record { key = o.key; description = description_of opens.on.opened })) None) opens.mode

    pub may_block-is : (o : OpenNode) (opens : Opens k test pid fd o) → may_block (description_of opens.on.opened) ≡ not o.nonblock
    may_block-is o opens = ap not (sym opens.waits)

-- what isn't there, and what is
pub not_there : {X : Type 0} (o : Option X) → is_some o ≡ false → o ≡ None
not_there None h = refl
not_there (Some x) h = absurd (cc)

pub there : {X : Type 0} (o : Option X) → IsSome o → (x : X) × (o ≡ Some x)
there {X} None i = absurd (let none : Option X = None in let j : IsSome none = i in cc)
there (Some x) i = (x, refl)

module _ {A : Type 0} (k : Contents A) (whole : IsWhole A k) where
  -- each description is live
  pub lives : (d : ℕ) (o : Opened) → at k.opened d ≡ Some o → is_live (core_of {A = A} k) d ≡ true
  unfolding core_of
  lives d o h = settled-live (core_of {A = A} k) whole.settled d (description_of o) (ap (option_map description_of) h)

  pub ends-is : (test : Mode → Bool) (n : Node) → has_end (core_of {A = A} k) test (node_of n) ≡ nat_lt 0 (ends_on test k.opened n)
  unfolding core_of
  ends-is test n = has_end-is (core_of {A = A} k) k.opened refl lives test n

  -- what a description is on is there
  node_there : (d : ℕ) (o : Opened) → at k.opened d ≡ Some o → IsThere k.nodes o.node
  node_there d o h = subst (λ z. IfSome z (λ y. IsThere k.nodes y.node)) h (whole.there.described d)

  pub pipe_there : (d p : ℕ) (on : OpenOn k d (node.Pipe p)) → (y : Pipe) × (at k.nodes.pipes p ≡ Some y)
  pipe_there d p on = there (at k.nodes.pipes p) (subst (IsThere k.nodes) on.node (node_there d on.opened on.here))

  pub file_there : (d f : ℕ) (on : OpenOn k d (node.File f)) → (y : List ℕ) × (at k.nodes.files f ≡ Some y)
  file_there d f on = there (at k.nodes.files f) (subst (IsThere k.nodes) on.node (node_there d on.opened on.here))

  -- and held
  pub pipe_held : (d p : ℕ) (on : OpenOn k d (node.Pipe p)) → is_open (core_of {A = A} k) (PipeNode p) ≡ true
  unfolding core_of
  pipe_held d p on = end_passes (core_of {A = A} k) any_mode (PipeNode p) d (lives d on.opened on.here)
      (ap (λ o. is_end {K = numbers} any_mode (PipeNode p) (option_map description_of o)) on.here ∙ ap (λ n. is_end {K = numbers} any_mode (PipeNode p) (Some (record (description_of on.opened) { node = node_of n }))) on.node ∙ (λ i. eq-eqb p p refl i && true))
