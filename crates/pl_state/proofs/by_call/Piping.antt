-- What making a pipe comes to at the kernel's keys.
use Rattle.std.proofs.Common.{◌∷◌, length, w32, to_z, ◌≡◌, ◌≢◌, ℕ, ◌+◌, ◌-◌, ◌<◌, ◌≤◌, Bool, true, false, cond, List, [], Option, Some, None, IfSome, IsSome, refl, sym, ◌∙◌, ap, subst, nat_eq, nat_lt, arith, map}
use Rattle.std.specs.Prelude.{◌&&◌, pos, option_map, is_some, is_none, FitsSigned}
use Rattle.std.proofs.lemmas.Bool.{eq-eqb, ne_eqb, lt-ltb, le-ltb}
use Rattle.std.proofs.lemmas.Int.{to_z_pos}
use Rattle.std.proofs.lemmas.List.Elements.{All-map}
use Rattle.pl_model.specs.declared.calls.Call.{Call}
use Rattle.pl_model.specs.declared.calls.Mode.TheVariants as mode
use Rattle.pl_model.specs.declared.node.Node.{Node}
use Rattle.pl_model.specs.declared.node.Node.TheVariants as node
use Rattle.pl_model.specs.declared.calls.Step.{Step}
use Rattle.pl_model.specs.declared.calls.Step.TheVariants.{Begin}
use Rattle.pl_model.specs.declared.replies.Reply.TheVariants.{Fds, Fault}
use Rattle.pl_model.specs.declared.replies.Errno.TheVariants.{EMFILE, ENFILE}
use Rattle.pl_model.specs.Numbers.{most_descriptors}
use Rattle.pl_model.specs.Flags.{nonblock_if, write_end_flags}
use Rattle.pl_model.specs.Map.{set_at, EachOnce}
use Rattle.std.specs.Cmp.Lexicographic.{pointwise}
use Rattle.pl_model.specs.Keys.{Node as KeyNode}
use Rattle.pl_model.specs.Keys.{NewKeys, Drawing, Draws, drawn}
use Rattle.std.specs.Prelude.{All, slice_index_or}
use Rattle.std.proofs.lemmas.List.Folds.{list_any_at}
use Rattle.pl_model.specs.State.{Core, Waiting, Description, Pipe, pipe_made}
use Rattle.pl_model.specs.Live.{live_count, in_rows}
use Rattle.std.specs.List.{list_any}
use Rattle.std.specs.Set.{is_member}
use Rattle.pl_model.specs.Settle.{settle}
use Rattle.pl_model.specs.Trial.{Begins, Begun, Answered, found, refuse_if}
use Rattle.pl_model.specs.Tables.{lowest, description_limit, descriptor_limit}
use Rattle.pl_model.specs.Begin.{begin_pipe, make_pipe}
use Rattle.pl_model.specs.Step.{Stepped, begin, core_step, ended, stepped, begun}
use Rattle.pl_model.specs.Numbered.{numbers}
use Rattle.pl_model.specs.StandsFor.{AreUnused, IsUnusedNode, Comes}
use Rattle.pl_model.specs.Memory.{is_refusal}
use Rattle.pl_model.proofs.settling.Members.{or_right}
use Rattle.pl_model.proofs.settling.Parking.{live-is}
use Rattle.pl_model.proofs.settling.Parking.{keeps as machine_keeps}
use Rattle.pl_model.proofs.settling.Changes.{pipe-settled}
use Rattle.pl_parked.specs.declared.call.ParkedCall.{ParkedCall}
use Rattle.pl_desc.specs.Rows.{at, Tables, is_pid, row_at, lowest_of, with_row}
use Rattle.pl_desc.specs.Descs.{Opened, Descs, fresh}
use Rattle.pl_desc.specs.Descs.{live_count as opened_count}
use Rattle.pl_desc.proofs.RowLemmas.{pid_in}
use Rattle.pl_desc.proofs.First.{first_found}
use Rattle.pl_state.specs.Contents.{Contents, Nodes, contents, node_of, description_of, parked_of, core_of, IsThere, desc_limits}
use Rattle.pl_state.specs.Sound.{IsSound, AreThere, WaitOnNodes}
use Rattle.pl_state.specs.Makes.{MakesAtKeys, MayWantAtKeys}
use Rattle.pl_state.proofs.Known.{Known, Caller}
use Rattle.pl_state.proofs.holders.Ends.{live_count-is}
use Rattle.pl_state.proofs.holders.Belonging.{belong-same}
use Rattle.pl_state.proofs.holders.Staying.{opened-live}
use Rattle.pl_state.proofs.by_call.Begun.{does_same, step-refused, step-draws}
use Rattle.pl_model.proofs.settling.FromSettled.{at_key}
use Rattle.pl_state.proofs.holders.There.{settled_after, there-put, there-added, map-set_at}
use Rattle.pl_state.proofs.holders.OnNodes.{keeps-map, wait-beside}
use Rattle.pl_desc.specs.declared.limits.DescLimits.{DescLimits}
use Rattle.pl_model.specs.declared.calls.Limits.{Limits}

module _ {A : Type 0} (m : Known A) where
  open m use {descs, nodes, calls, limits, are}

  abbrev state : Core A numbers
  state = core_of (contents descs nodes calls limits)

  pub counted : live_count state ≡ opened_count descs.opened
  counted = live_count-is state descs.opened (opened-live descs nodes calls limits are)

  pub kept_live : (d : ℕ) → machine_keeps state.parked d ≡ true → is_some (at descs.opened d) ≡ true
  kept_live d h = sym (opened-live descs nodes calls limits are d) ∙ live-is state d ∙ or_right (is_member nat_eq (in_rows state) d) _ h

-- the least free descriptor is free, and within the table
pub lowest_found : (tables : Tables) (most pid least fd : ℕ) → lowest_of tables most pid least ≡ Some fd → (row_at tables pid fd ≡ None) × (fd < most) × (least ≤ fd)
lowest_found tables most pid least fd h = (let f = first_found (λ fd. is_none (row_at tables pid fd)) (most - least) least fd h in (free (row_at tables pid fd) f.0, omega (arith, f.1, f.2), f.1)) where
  free : (o : Option ℕ) → is_none o ≡ true → o ≡ None
  free None h = refl
  free (Some d) h = absurd (cc)

-- by the limits of the descriptions and by those of the kernel it is the same one
pub lowest-limit : (descs : Descs) (limits : Limits) → descs.limits ≡ desc_limits limits → (pid least : ℕ) → lowest_of descs.tables (descriptor_limit limits) pid least ≡ lowest_of descs.tables descs.limits.descriptors pid least
lowest-limit descs limits bounds pid least = ap (λ (b : DescLimits). lowest_of descs.tables b.descriptors pid least) (sym bounds)

pub no_value : {X : Type 0} (o : Option X) → o ≡ None → IsSome o → ⊥
no_value None e h = cc
no_value (Some y) e h = cc

-- no parked call keeps a description that isn't there
pub none_kept : {A : Type 0} (m : Known A) (d : ℕ) → at m.descs.opened d ≡ None → list_any (λ (e : ℕ × ParkedCall A). is_member nat_eq e.1.kept d) m.calls.calls ≡ false
unfolding core_of
none_kept m d vacant = sym (keeps-map d m.calls.calls) ∙ by (machine_keeps (state m).parked d) refl
  where
    by : (b : Bool) → machine_keeps (state m).parked d ≡ b → b ≡ false
    by true e = absurd (no_value (at m.descs.opened d) vacant (kept_live m d e))
    by false e = refl

pub past_end : {X : Type 0} (xs : List (Option X)) → at xs (length xs) ≡ None
past_end [] = refl
past_end (x ∷ xs) = past_end xs

same_key : (m n : Node) → node_of m ≡ node_of n → m ≡ n
same_key (node.Pipe p) (node.Pipe q) e = (let s : p ≡ q = cc in ap (λ z. node.Pipe z) s)
same_key (node.Pipe p) (node.File g) e = absurd (cc)
same_key (node.File f) (node.Pipe q) e = absurd (cc)
same_key (node.File f) (node.File g) e = (let s : f ≡ g = cc in ap (λ z. node.File z) s)

-- the key of a node that isn't there is unused
module _ {A : Type 0} (k : Contents A) (there : AreThere (at k.opened) k.nodes) (n : Node) (absent : IsThere k.nodes n → ⊥) where
  differ : (m : Node) → IsThere k.nodes m → node_of m ≢ node_of n
  differ m h e = absent (subst (IsThere k.nodes) (same_key m n e) h)

  pub unused_node : IsUnusedNode (core_of k) (node_of n)
  unfolding core_of
  unused_node = record {
    descriptions = λ q. off (at k.opened q) (there.described q);
    names = All-map (λ (x : List ℕ × KeyNode numbers). x.1 ≢ node_of n) (λ (e : List ℕ × Node). (e.0, node_of e.1)) k.nodes.names (λ i e l. differ (slice_index_or k.nodes.names i e).1 (there.named i e l));
  }
    where
      off : (o : Option Opened) → IfSome o (λ o. IsThere k.nodes o.node) → IfSome (option_map description_of o) (λ y. y.node ≢ node_of n)
      off None h = tt
      off (Some o) h = differ o.node h

module _ {A : Type 0} (m : Caller A) (nonblock direct : Bool) where
  open m use {kernel, descs, nodes, calls, limits, sound, are, pid, process}

  abbrev k : Contents A
  k = contents descs nodes calls limits

  abbrev c : Core A numbers
  c = core_of k

  abbrev call : Call A
  call = Call.Pipe nonblock direct

  abbrev x : Step A
  x = Begin pid call

  abbrev bounds : DescLimits
  bounds = descs.limits

  lowest-is : (least : ℕ) → lowest c pid least ≡ lowest_of k.tables bounds.descriptors pid least
  unfolding lowest core_of
  lowest-is least = lowest-limit descs limits are.bounds pid least

  abbrev makes : ℕ → ℕ → NewKeys numbers → Begun A numbers
  makes first second new = Answered (make_pipe c new pid first second direct (nonblock_if nonblock) (write_end_flags nonblock direct)) (Fds (pos first) (pos second))

  abbrev second_found : ℕ → Option ℕ → Begins A numbers
  second_found first o = found o EMFILE (λ second. refuse_if (nat_lt (description_limit c.limits) (live_count c + 2)) ENFILE (Draws (makes first second)))

  abbrev first_found_at : Option ℕ → Begins A numbers
  first_found_at o = found o EMFILE (λ first. second_found first (lowest c pid (first + 1)))

  pub pipe-none : lowest_of k.tables bounds.descriptors pid 0 ≡ None → MakesAtKeys k x (Fault EMFILE) k
  unfolding begin begin_pipe
  pipe-none h = does_same k sound x (stepped c (Fault EMFILE)) (Fault EMFILE) (step-refused k pid call process EMFILE (ap first_found_at (lowest-is 0 ∙ h))) refl refl

  module _ (first : ℕ) (at_first : lowest_of k.tables bounds.descriptors pid 0 ≡ Some first) where
    begun_first : begin c pid call ≡ second_found first (lowest c pid (first + 1))
    unfolding begin begin_pipe
    begun_first = ap first_found_at (lowest-is 0 ∙ at_first)

    pub pipe-one : lowest_of k.tables bounds.descriptors pid (first + 1) ≡ None → MakesAtKeys k x (Fault EMFILE) k
    pipe-one h = does_same k sound x (stepped c (Fault EMFILE)) (Fault EMFILE) (step-refused k pid call process EMFILE (begun_first ∙ ap (second_found first) (lowest-is (first + 1) ∙ h))) refl refl

    pub first_free : (row_at k.tables pid first ≡ None) × (first < bounds.descriptors)
    first_free = let f = lowest_found k.tables bounds.descriptors pid 0 first at_first in (f.0, f.1)

    module _ (second : ℕ) (at_second : lowest_of k.tables bounds.descriptors pid (first + 1) ≡ Some second) where
      pub second_free : (row_at k.tables pid second ≡ None) × (second < bounds.descriptors) × (first < second)
      second_free = let f = lowest_found k.tables bounds.descriptors pid (first + 1) second at_second in (f.0, f.1, omega (arith, f.2))

      begun_second : begin c pid call ≡ refuse_if (nat_lt (description_limit c.limits) (live_count c + 2)) ENFILE (Draws (makes first second))
      begun_second = begun_first ∙ ap (second_found first) (lowest-is (first + 1) ∙ at_second)

      most : description_limit c.limits ≡ bounds.descriptions
      unfolding core_of
      most = ap (λ (b : DescLimits). b.descriptions) (sym are.bounds)

      pub pipe-many : bounds.descriptions < opened_count k.opened + 2 → MakesAtKeys k x (Fault ENFILE) k
      pipe-many many =
          let over : nat_lt (description_limit c.limits) (live_count c + 2) ≡ true = lt-ltb (description_limit c.limits) (live_count c + 2) (omega (arith, counted kernel, many, most)) in
          does_same k sound x (stepped c (Fault ENFILE)) (Fault ENFILE) (step-refused k pid call process ENFILE (begun_second ∙ ap (λ b. refuse_if b ENFILE (Draws (makes first second))) over)) refl refl

      module _ (few : opened_count k.opened + 2 ≤ bounds.descriptions) where
        draws : core_step c x ≡ Draws (λ new. ended c (begun c pid call (makes first second new)))
        draws =
            let under : nat_lt (description_limit c.limits) (live_count c + 2) ≡ false = le-ltb (description_limit c.limits) (live_count c + 2) (omega (arith, counted kernel, few, most)) in
            step-draws k pid call process (makes first second) (begun_second ∙ ap (λ b. refuse_if b ENFILE (Draws (makes first second))) under)

        pub pipe-wants : MayWantAtKeys {A = A} k x
        pipe-wants = λ new. ap (λ (a : Drawing numbers (Stepped A numbers)). is_refusal (drawn {X = Stepped A numbers} new a).reply) draws

        -- the ends and the pipe stand under keys that were vacant
        module _ (p d d' : ℕ) (vacant_pipe : at k.nodes.pipes p ≡ None) (vacant : at k.opened d ≡ None) (vacant' : at k.opened d' ≡ None) (apart : d ≢ d') (descs' : Descs) (nodes' : Nodes) (pids : is_pid descs'.tables ≡ is_pid k.tables)
            (rows : row_at descs'.tables ≡ with_row (with_row (row_at k.tables) pid first (Some d)) pid second (Some d'))
            (opened : at descs'.opened ≡ set_at nat_eq (set_at nat_eq (at k.opened) d (Some (fresh (node.Pipe p) mode.Read (nonblock_if nonblock)))) d' (Some (fresh (node.Pipe p) mode.Write (write_end_flags nonblock direct))))
            (pipes_are : at nodes'.pipes ≡ set_at nat_eq (at k.nodes.pipes) p (Some (pipe_made direct))) (files_are : at nodes'.files ≡ at k.nodes.files) (names_are : nodes'.names ≡ k.nodes.names) (limits_are : nodes'.limits ≡ k.nodes.limits) where
          abbrev new : Contents A
          new = contents descs' nodes' calls limits

          abbrev reader : Opened
          reader = fresh (node.Pipe p) mode.Read (nonblock_if nonblock)

          abbrev writer : Opened
          writer = fresh (node.Pipe p) mode.Write (write_end_flags nonblock direct)

          abbrev keys : NewKeys numbers
          keys = record { description = d; other_description = d'; pipe = p; file = length k.nodes.files }

          unused : AreUnused c keys
          unfolding core_of
          unused = record {
            description = record { rows = λ q j e. no_row d vacant q j e; descriptions = ap (option_map description_of) vacant; parked = no_kept d vacant };
            other_description = record { rows = λ q j e. no_row d' vacant' q j e; descriptions = ap (option_map description_of) vacant'; parked = no_kept d' vacant' };
            apart = apart;
            pipe = record { node = unused_node k sound.there (node.Pipe p) (no_value (at k.nodes.pipes p) vacant_pipe); pipes = vacant_pipe };
            file = record { node = unused_node k sound.there (node.File keys.file) (no_value (at k.nodes.files keys.file) (past_end k.nodes.files)); files = past_end k.nodes.files };
          }
            where
              no_kept : (d : ℕ) → at k.opened d ≡ None → All (λ (e : ℕ × Waiting A numbers). All (λ k. k ≢ d) e.1.kept) c.parked
              no_kept d v = λ i w l. λ j z m. λ same.
                  let e = slice_index_or c.parked i w in
                  let member : is_member nat_eq e.1.kept d ≡ true = list_any_at (nat_eq d) e.1.kept j z m (eq-eqb d (slice_index_or e.1.kept j z) (sym same)) in
                  let kept : machine_keeps c.parked d ≡ true = list_any_at (λ (e : ℕ × Waiting A numbers). is_member nat_eq e.1.kept d) c.parked i w l member in
                  no_value (at k.opened d) v (kept_live kernel d kept)

              no_row : (d : ℕ) → at k.opened d ≡ None → (q j : ℕ) → row_at k.tables q j ≡ Some d → ⊥
              no_row d v q j e = no_value (at k.opened d) v (are.tidy.named q j d e)

          core_is : core_of {A = A} new ≡ make_pipe c keys pid first second direct (nonblock_if nonblock) (write_end_flags nonblock direct)
          unfolding core_of
          core_is = λ i. record {
            processes = pids i;
            rows = rows i;
            descriptions = descriptions_are i;
            pipes = pipes_are i;
            files = files_are i;
            names = map (λ (e : List ℕ × Node). (e.0, node_of e.1)) (names_are i);
            parked = parked_of calls.calls;
            next_call = calls.next;
            limits = limits;
          }
            where
              descriptions_are : (λ q. option_map description_of (at new.opened q)) ≡ set_at nat_eq (set_at nat_eq (λ q. option_map description_of (at k.opened q)) d (Some (description_of reader))) d' (Some (description_of writer))
              descriptions_are =
                  ap (λ (m : ℕ → Option Opened). λ q. option_map description_of (m q)) opened
                  ∙ map-set_at description_of (set_at nat_eq (at k.opened) d (Some reader)) d' (Some writer)
                  ∙ ap (λ (m : ℕ → Option (Description numbers)). set_at nat_eq m d' (Some (description_of writer))) (map-set_at description_of (at k.opened) d (Some reader))

          within : (n : ℕ) → n < bounds.descriptors → n < descriptor_limit c.limits
          unfolding core_of
          within n l = let w = ap (λ (b : DescLimits). b.descriptors) are.bounds in omega (arith, l, w)

          high : core_of {A = A} new ≡ settle c (make_pipe c keys pid first second direct (nonblock_if nonblock) (write_end_flags nonblock direct))
          unfolding core_of
          high = core_is ∙ sym (pipe-settled (core_of {A = A} k) sound.settled keys unused pid first second direct (nonblock_if nonblock) (write_end_flags nonblock direct)
              (pid_in descs.tables pid process).0 (let h = (pid_in descs.tables pid process).1 in let n = ap (λ (b : DescLimits). b.processes) are.bounds in omega (arith, h, are.tidy.few, n)) process (within first first_free.1) (within second second_free.1) (λ e. absurd (omega (arith, second_free.2, e))) first_free.0 second_free.0)

          pipe-makes : MakesAtKeys k x (Fds (pos first) (pos second)) new
          pipe-makes = subst (λ a. Comes c a (Fds (pos first) (pos second)) (core_of new)) (sym draws) (keys, unused, refl, high)

          pipe-sound : IsSound A new
          pipe-sound =
              let here : IsSome (at nodes'.pipes p) = subst (λ (m : ℕ → Option Pipe). IsSome (m p)) (sym pipes_are) (subst (λ o. IsSome o) (sym (at_key (at k.nodes.pipes) p (Some (pipe_made direct)))) refl) in
              let one = there-added (at k.opened) nodes' (there-put (at k.opened) nodes nodes' p (pipe_made direct) pipes_are files_are names_are sound.there) d reader here in
              let both = there-added (set_at nat_eq (at k.opened) d (Some reader)) nodes' one d' writer here in
              record {
                whole = record {
                  rise = sound.rise;
                  numbered = sound.numbered;
                  there = subst (λ m. AreThere m nodes') (sym opened) both;
                  limit = limits_are ∙ sound.limit;
                  once = subst (EachOnce (pointwise nat_eq)) (sym names_are) sound.once;
                  settled = settled_after (core_of {A = A} new) c (make_pipe c keys pid first second direct (nonblock_if nonblock) (write_end_flags nonblock direct)) high;
                };
                waiting = sound.waiting;
                belong = belong-same calls.calls (is_pid k.tables) (is_pid new.tables) sound.belong pids;
                on_nodes = subst (WaitOnNodes calls.calls) (sym opened) (wait-beside d' calls.calls (set_at nat_eq (at k.opened) d (Some reader)) writer (none_kept kernel d' vacant')
                    (wait-beside d calls.calls (at k.opened) reader (none_kept kernel d vacant) sound.on_nodes));
              }

          -- the kernel is sound, and made the step
          pub pipe-made : (IsSound A new) × (MakesAtKeys k x (Fds (pos first) (pos second)) new)
          pipe-made = (pipe-sound, pipe-makes)

-- the rows with another place changed
pub with_row-other : (rows : ℕ → ℕ → Option ℕ) (pid fd other : ℕ) (d : Option ℕ) → other ≢ fd → with_row rows pid fd d pid other ≡ rows pid other
with_row-other rows pid fd other d apart = ap (λ b. cond (nat_eq pid pid && b) d (rows pid other)) (ne_eqb other fd apart) ∙ by (nat_eq pid pid)
  where
    by : (b : Bool) → cond (b && false) d (rows pid other) ≡ rows pid other
    by true = refl
    by false = refl

-- a place of a table fits a descriptor
pub fits_place : (n : ℕ) → n < most_descriptors → FitsSigned w32 (pos n)
fits_place n l = omega (arith, l)

-- and is the descriptor
pub to_z_place : (n : ℕ) → n < most_descriptors → to_z w32 n ≡ pos n
to_z_place n l = to_z_pos w32 n (omega (arith, l))
