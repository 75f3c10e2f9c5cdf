-- What a try leaves as it was at a node on which it is given no description.
use Rattle.std.proofs.Common.{◌≡◌, ℕ, zero, suc, ℤ, ◌+◌, Bool, true, false, cond, List, Option, length, refl, sym, ◌∙◌, ap, subst}
use Rattle.std.specs.Prelude.{◌||◌, ◌&&◌, IfSome, not, is_some, is_none, option_map, option_and_then, slice_get}
use Rattle.std.specs.declared.option.Option.TheVariants.{None, Some}
use Rattle.std.proofs.lemmas.Bool.{false_from_ne_true}
use Rattle.std.proofs.lemmas.List.Folds.{list_any_at}
use Rattle.std.proofs.lemmas.Option.{slice_get_within, get_or_from_slice_get}
use Rattle.pl_model.specs.declared.replies.Errno.TheVariants.{EINVAL}
use Rattle.pl_model.specs.declared.calls.Call.{Call}
use Rattle.pl_model.specs.declared.cases.ReadCase.{ReadCase}
use Rattle.pl_model.specs.declared.cases.WriteCase.{WriteCase}
use Rattle.pl_model.specs.declared.cases.MoveCase.{MoveCase}
use Rattle.pl_model.specs.declared.flags.PollMask.{PollMask}
use Rattle.pl_model.specs.declared.replies.Reply.TheVariants.{Fault}
use Rattle.pl_model.specs.Numbers.{first_from}
use Rattle.pl_model.specs.Keys.{Node, PipeNode, FileNode, same_node}
use Rattle.pl_model.specs.State.{Core, Pipe, Description, Open, Waiting, described, set_file}
use Rattle.pl_model.specs.Trial.{Trial, Flow, Done, Wait, still, flowed, lost, gained, pipe_at}
use Rattle.pl_model.specs.Transfer.{moved_to, read_row, write_row, read_case, write_case, read_pipe, write_pipe, read_file, write_file, read_node, write_node}
use Rattle.pl_model.specs.Splice.{Side, is_packet_pipe, move_case, move_row, source_of, target_of, source_advanced, target_put, advanced, leaves, enters, start, try_move}
use Rattle.pl_model.specs.Poll.{try_poll}
use Rattle.pl_model.specs.Tables.{lowest, lowest_pid}
use Rattle.pl_model.specs.Step.{with_kept, kept_at, opened_by, try, try_open}
use Rattle.pl_model.specs.Touching.{keeps_at}
use Rattle.pl_model.specs.Numbered.{numbers}
use Rattle.pl_model.proofs.settling.WhoIsLive.{is_on}
use Rattle.pl_model.proofs.touching.Changing.{Leaves, leaves_same, Off, no_two, row_set, description_set, pipe_set, file_set}

first_passes : (test : ℕ → Bool) (n k x : ℕ) → first_from test n k ≡ Some x → test x ≡ true
unfolding first_from
first_passes test zero k x h = absurd (cc)
first_passes test (suc n) k x h = by (test k) refl h (first_passes test n (k + 1) x)
  where
    by : (b : Bool) → test k ≡ b → (elim b as (λ _. Option ℕ) [ true ↦ Some k | false ↦ first_from test n (k + 1) ]) ≡ Some x → (first_from test n (k + 1) ≡ Some x → test x ≡ true) → test x ≡ true
    by true t h rest = (let same : k ≡ x = cc in ap test (sym same) ∙ t)
    by false t h rest = rest h

module _ {A : Type 0} (c : Core A numbers) where
  -- the least free descriptor is free
  pub lowest_free : (pid least fd : ℕ) → lowest c pid least ≡ Some fd → c.rows pid fd ≡ None
  unfolding lowest
  lowest_free pid least fd h = by (c.rows pid fd) (first_passes (λ fd. is_none (c.rows pid fd)) _ least fd h)
    where
      by : (o : Option ℕ) → is_none o ≡ true → o ≡ None
      by None t = refl
      by (Some d) t = absurd (cc)

  -- and the least free pid is that of no process
  pub child_free : (child : ℕ) → lowest_pid c ≡ Some child → c.processes child ≡ false
  unfolding lowest_pid
  child_free child h = by (c.processes child) (first_passes (λ pid. not (c.processes pid)) _ 1 child h)
    where
      by : (b : Bool) → not b ≡ true → b ≡ false
      by true t = absurd (cc)
      by false t = refl

module _ {A : Type 0} (c : Core A numbers) (node : Node numbers) where
  -- another node
  abbrev pub Away : Node numbers → Type 0
  Away other = same_node {K = numbers} other node ≡ false

  -- an open description that isn't on the node
  pub record OffOpen (o : Open numbers) : Type 0 where
    pub key : Off c node o.key
    pub away : Away o.description.node

  -- the description under a key of none on the node is no such description
  pub described_off : (d : ℕ) (o : Open numbers) → Off c node d → described c d ≡ Some o → OffOpen o
  described_off d o off h = at (c.descriptions d) refl h
    where
      away : (b : Bool) → (b && true) ≡ false → b ≡ false
      away true h = h
      away false h = refl

      at : (x : Option (Description numbers)) → c.descriptions d ≡ x → option_map (λ x. record { key = d; description = x }) x ≡ Some o → OffOpen o
      at None e h = absurd (cc)
      at (Some x) e h =
          let same : record { key = d; description = x } ≡ o = cc in
          subst OffOpen same (record { key = off; away = away (same_node x.node node) (ap (is_on node) (sym e) ∙ off) })

  -- one that is kept by a call that keeps none on the node
  kept_off : (w : Waiting A numbers) → keeps_at c node w ≡ false → (i : ℕ) (o : Open numbers) → kept_at c w.kept i ≡ Some o → OffOpen o
  kept_off w none i o h = at (slice_get w.kept i) refl h
    where
      off : (d : ℕ) → slice_get w.kept i ≡ Some d → Off c node d
      off d e =
          let on : ℕ → Bool = λ z. is_on node (c.descriptions z) in
          false_from_ne_true (on d) (λ t. no_two (list_any_at on w.kept i d (slice_get_within w.kept i d e) (ap on (get_or_from_slice_get w.kept i d d e) ∙ t)) none)

      at : (x : Option ℕ) → slice_get w.kept i ≡ x → option_and_then (described c) x ≡ Some o → OffOpen o
      at None e h = absurd (cc)
      at (Some d) e h = described_off d o (off d e) h

  -- bytes that flow elsewhere
  flow_leaves : (u : Core A numbers) (flow : Flow numbers) → Leaves c u node → IfSome flow.out (λ o. Away (PipeNode o.0)) → IfSome flow.into (λ i. Away (PipeNode i.0)) → Leaves c (flowed u flow) node
  unfolding flowed
  flow_leaves u flow l out into = entered (lost u flow.out) flow.into into (gone flow.out out)
    where
      gone : (o : Option (ℕ × ℕ)) → IfSome o (λ o. Away (PipeNode o.0)) → Leaves c (lost u o) node
      gone None away = l
      gone (Some o) away = pipe_set c node u l o.0 _ away

      entered : (v : Core A numbers) (o : Option (ℕ × List ℕ)) → IfSome o (λ i. Away (PipeNode i.0)) → Leaves c v node → Leaves c (gained v o) node
      entered v None away m = m
      entered v (Some i) away m = pipe_set c node v m i.0 _ away

  -- what the try leaves, with the bytes that flow
  abbrev pub TryLeaves : Trial A numbers → Type 0
  TryLeaves (Done u flow reply) = Leaves c (flowed u flow) node
  TryLeaves (Wait u flow taken) = Leaves c (flowed u flow) node

  -- no bytes flow
  pub still_leaves : (u : Core A numbers) → Leaves c u node → Leaves c (flowed u still) node
  unfolding flowed
  still_leaves u l = l

  -- nothing has changed
  same : Leaves c (flowed c still) node
  same = still_leaves c (leaves_same c node)

  tried_if : (b : Bool) (x y : Trial A numbers) → TryLeaves x → TryLeaves y → TryLeaves (cond b x y)
  tried_if true x y f g = f
  tried_if false x y f g = g

  tried_kept : (o : Option (Open numbers)) (next : Open numbers → Trial A numbers) → ((x : Open numbers) → o ≡ Some x → TryLeaves (next x)) → TryLeaves (with_kept c o next)
  tried_kept None next h = same
  tried_kept (Some x) next h = h x refl

  read_row_leaves : (p : ℕ) (pipe : Pipe) (row : ReadCase) → Away (PipeNode p) → TryLeaves (read_row c p pipe row)
  read_row_leaves p pipe (ReadCase.Gives n) away = flow_leaves c _ (leaves_same c node) away tt
  read_row_leaves p pipe ReadCase.EndOfFile away = same
  read_row_leaves p pipe ReadCase.Waits away = same

  write_row_leaves : (p : ℕ) (bytes : List ℕ) (t : ℕ) (row : WriteCase) → Away (PipeNode p) → TryLeaves (write_row c p bytes t row)
  write_row_leaves p bytes t WriteCase.Broken away = same
  write_row_leaves p bytes t WriteCase.CutShort away = same
  write_row_leaves p bytes t (WriteCase.Ends from to) away = flow_leaves c _ (leaves_same c node) tt away
  write_row_leaves p bytes t (WriteCase.Waits from to) away = flow_leaves c _ (leaves_same c node) tt away

  read_leaves : (d : ℕ) (x : Description numbers) (on : Node numbers) (n : ℕ) → Off c node d → Away x.node → Away on → TryLeaves (read_node c d x on n)
  unfolding read_pipe read_file
  read_leaves d x (PipeNode p) n off away here = read_row_leaves p (pipe_at c p) (read_case n _ _) here
  read_leaves d x (FileNode f) n off away here = still_leaves _ (description_set c node c (leaves_same c node) d _ off away)

  put_leaves : (d : ℕ) (x : Description numbers) (f : ℕ) (bytes : List ℕ) (offset : ℕ) → Off c node d → Away x.node → Away (FileNode f) → Leaves c (flowed (moved_to (set_file c f bytes) d x offset) still) node
  put_leaves d x f bytes offset off away here = still_leaves _ (description_set c node _ (file_set c node c (leaves_same c node) f bytes here) d (record x { offset = offset }) off away)

  write_leaves : (d : ℕ) (x : Description numbers) (on : Node numbers) (bytes : List ℕ) (t : ℕ) (may_wait : Bool) → Off c node d → Away x.node → Away on → TryLeaves (write_node c d x on bytes t may_wait)
  unfolding write_pipe write_file
  write_leaves d x (PipeNode p) bytes t may_wait off away here = write_row_leaves p bytes t (write_case (length bytes) t _ _ may_wait) here
  write_leaves d x (FileNode f) bytes t may_wait off away here = search (tried_if, same, put_leaves)

  -- a side of a move that isn't on the node
  record OffSide (x : Side numbers) : Type 0 where
    key : Off c node x.key
    away : Away x.description.node

  advanced_leaves : (s : Core A numbers) (x : Side numbers) (k : ℕ) → OffSide x → Leaves c s node → Leaves c (advanced s x k) node
  advanced_leaves s x k off l = at (is_some x.given)
    where
      at : (b : Bool) → Leaves c (cond b s (moved_to s x.key x.description (start x + k))) node
      at true = l
      at false = description_set c node s l x.key _ off.key off.away

  source_leaves : (s : Core A numbers) (x : Side numbers) (on : Node numbers) (k : ℕ) → OffSide x → Leaves c s node → Leaves c (source_advanced s x on k) node
  source_leaves s x (PipeNode p) k off l = l
  source_leaves s x (FileNode f) k off l = advanced_leaves s x k off l

  target_leaves : (s : Core A numbers) (x : Side numbers) (on : Node numbers) (bytes : List ℕ) → OffSide x → Away on → Leaves c s node → Leaves c (target_put s x on bytes) node
  target_leaves s x (PipeNode p) bytes off here l = l
  target_leaves s x (FileNode f) bytes off here l = advanced_leaves _ x (length bytes) off (file_set c node s l f _ here)

  away_out : (is_tee : Bool) (on : Node numbers) (k : ℕ) → Away on → IfSome (leaves is_tee on k) (λ o. Away (PipeNode o.0))
  away_out true on k here = tt
  away_out false (PipeNode p) k here = here
  away_out false (FileNode f) k here = tt

  away_into : (on : Node numbers) (bytes : List ℕ) → Away on → IfSome (enters on bytes) (λ i. Away (PipeNode i.0))
  away_into (PipeNode p) bytes here = here
  away_into (FileNode f) bytes here = tt

  move_row_leaves : (from to : Side numbers) (is_tee : Bool) (row : MoveCase) → OffSide from → OffSide to → TryLeaves (move_row c from to is_tee row)
  move_row_leaves from to is_tee MoveCase.Broken a b = same
  move_row_leaves from to is_tee MoveCase.EndOfInput a b = same
  move_row_leaves from to is_tee MoveCase.Waits a b = same
  move_row_leaves from to is_tee MoveCase.TooBig a b = same
  move_row_leaves from to is_tee (MoveCase.Moves k) a b =
      flow_leaves _ _
      (target_leaves (source_advanced c from from.description.node _) to to.description.node _ b b.away (source_leaves c from from.description.node _ a (leaves_same c node)))
      (away_out is_tee from.description.node _ a.away) (away_into to.description.node _ b.away)

  move_leaves : (from to : Side numbers) (len : ℕ) (is_tee : Bool) → OffSide from → OffSide to → TryLeaves (try_move c from to len is_tee)
  unfolding try_move
  move_leaves from to len is_tee a b =
      tried_if (is_packet_pipe c from.description.node || is_packet_pipe c to.description.node) (Done c still (Fault EINVAL)) _ same
      (move_row_leaves from to is_tee (move_case (source_of c from from.description.node) (target_of c to to.description.node) len) a b)

  -- a poll only looks, also at the node
  pub poll_leaves : (entries : List (ℤ × PollMask)) (kept : List ℕ) (may_wait : Bool) → TryLeaves (try_poll c entries kept may_wait)
  unfolding try_poll
  poll_leaves entries kept may_wait = search (tried_if, same)

  opened_leaves : (pid d : ℕ) (place : Option ℕ) → lowest c pid 0 ≡ place → TryLeaves (opened_by c pid d place)
  opened_leaves pid d None e = same
  opened_leaves pid d (Some fd) e = still_leaves _ (row_set c node c (leaves_same c node) pid fd (Some d) (λ k named. absurd (none_some (lowest_free c pid 0 fd e) named)))
    where
      none_some : {o : Option ℕ} {k : ℕ} → o ≡ None → o ≡ Some k → ⊥
      none_some e f = cc

  open_leaves : (w : Waiting A numbers) → TryLeaves (try_open c w)
  open_leaves w = tried_if w.met _ (Wait c still w.taken) (tried_kept (kept_at c w.kept 0) _ (λ o e. opened_leaves w.pid o.key (lowest c w.pid 0) refl)) same

  module _ (w : Waiting A numbers) (none : keeps_at c node w ≡ false) where
    moves : (from_given to_given : Option ℕ) (len : ℕ) (is_tee : Bool) (a b : Open numbers) → kept_at c w.kept 0 ≡ Some a → kept_at c w.kept 1 ≡ Some b →
        TryLeaves (try_move c (record { key = a.key; description = a.description; given = from_given }) (record { key = b.key; description = b.description; given = to_given }) len is_tee)
    moves from_given to_given len is_tee a b at_a at_b =
        let x = kept_off w none 0 a at_a in
        let y = kept_off w none 1 b at_b in
        move_leaves _ _ len is_tee (record { key = x.key; away = x.away }) (record { key = y.key; away = y.away })

    -- a try of a call that keeps no description on the node
    pub try_leaves : (call : Call A) (may_wait : Bool) → TryLeaves (try c w call may_wait)
    unfolding try
    try_leaves (Call.Read fd n) may_wait =
        tried_kept (kept_at c w.kept 0) _ (λ o e. let x = kept_off w none 0 o e in read_leaves o.key o.description o.description.node n x.key x.away x.away)
    try_leaves (Call.Write fd bytes) may_wait =
        tried_kept (kept_at c w.kept 0) _ (λ o e. let x = kept_off w none 0 o e in write_leaves o.key o.description o.description.node bytes w.taken may_wait x.key x.away x.away)
    try_leaves (Call.Splice from from_offset to to_offset len flags) may_wait =
        tried_kept (kept_at c w.kept 0) _ (λ a e. tried_kept (kept_at c w.kept 1) _ (λ b f. moves from_offset to_offset len false a b e f))
    try_leaves (Call.Tee from to len flags) may_wait =
        tried_kept (kept_at c w.kept 0) _ (λ a e. tried_kept (kept_at c w.kept 1) _ (λ b f. moves None None len true a b e f))
    try_leaves (Call.Poll entries wait) may_wait = poll_leaves entries w.kept may_wait
    try_leaves (Call.OpenName name mode flags) may_wait = open_leaves w
    try_leaves call may_wait = same
