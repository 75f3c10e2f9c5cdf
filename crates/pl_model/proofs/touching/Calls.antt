-- What a call that begins leaves as it was at a node that it doesn't touch.
use Rattle.std.proofs.Common.{◌≡◌, ◌≢◌, ℕ, ℤ, pos, negsuc, Bool, true, false, cond, List, [], ◌∷◌, Option, nat_eq, refl, sym, ◌∙◌, ap, subst, arith, ltb-true}
use Rattle.std.specs.Prelude.{◌||◌, ◌&&◌, IfSome, not, map, nat_lt, option_and_then}
use Rattle.std.specs.Set.{is_member}
use Rattle.std.specs.declared.option.Option.TheVariants.{None, Some}
use Rattle.std.proofs.lemmas.Bool.{or_parts, false_from_ne_true, lt-ltb}
use Rattle.pl_model.specs.declared.calls.Call.{Call}
use Rattle.pl_model.specs.declared.calls.Mode.{Mode}
use Rattle.pl_model.specs.declared.calls.Whence.{Whence}
use Rattle.pl_model.specs.declared.flags.OpenFlags.{OpenFlags}
use Rattle.pl_model.specs.declared.flags.SpliceFlags.{SpliceFlags}
use Rattle.pl_model.specs.declared.flags.PollMask.{PollMask}
use Rattle.pl_model.specs.Numbers.{most_descriptors}
use Rattle.pl_model.specs.Modes.{writes}
use Rattle.pl_model.specs.Flags.{has, trunc, status_flags}
use Rattle.pl_model.specs.Map.{Map}
use Rattle.pl_model.specs.Keys.{Node, NewKeys, PipeNode, FileNode, same_node}
use Rattle.pl_model.specs.State.{Core, Description, Open, Waiting, described, named, row, set_description, set_file}
use Rattle.pl_model.specs.Trial.{Begun, Refused, Answered, Tried, still, flowed}
use Rattle.pl_model.specs.Tables.{descriptor_limit, lowest_pid, install, close_row, describe, create_file, forget_name, fork}
use Rattle.pl_model.specs.Fifo.{create_fifo, meet}
use Rattle.pl_model.specs.Capacity.{set_capacity, pipe_of}
use Rattle.pl_model.specs.Begin.{open_fd, open_for, allowed, natural, is_descriptor, make_pipe, truncated, open_named, begin_pipe, begin_mkfifo, begin_open_name, begin_read, begin_write, begin_splice, begin_tee, begin_poll, begin_dup, begin_dup2, begin_dup_fd, begin_close, begin_lseek, begin_get_fl, begin_set_fl, begin_get_pipe_sz, begin_set_pipe_sz, begin_unlink, begin_fork}
use Rattle.pl_model.specs.Step.{try, begin, waiting}
use Rattle.pl_model.specs.Touching.{is_at, names_at, stands_at, touches_by}
use Rattle.pl_model.specs.Numbered.{numbers}
use Rattle.pl_model.specs.StandsFor.{IsUnusedNode, AreUnused}
use Rattle.pl_model.proofs.by_call.Ways.{LeadsTo, Refusable, begun_plain, ways}
use Rattle.pl_model.proofs.settling.Members.{and_left}
use Rattle.pl_model.proofs.settling.WhoIsLive.{is_on}
use Rattle.pl_model.proofs.settling.Parking.{keeps}
use Rattle.pl_model.proofs.settling.Opening.{same_is}
use Rattle.pl_model.proofs.settling.Meeting.{meeting, meet-kept}
use Rattle.pl_model.proofs.touching.Changing.{Leaves, leaves_same, Off, OffRow, row_set, description_set, pipe_set, file_set, names_set, calls_set, fork_leaves, exit_leaves}
use Rattle.pl_model.proofs.touching.Trying.{Away, OffOpen, TryLeaves, described_off, lowest_free, child_free, still_leaves, poll_leaves, try_leaves}

module _ {A : Type 0} where
  -- calls changed one by one that keep what they kept
  keeps_map : (f : ℕ × Waiting A numbers → ℕ × Waiting A numbers) → ((e : ℕ × Waiting A numbers) → (f e).1.kept ≡ e.1.kept) → (d : ℕ) (calls : Map ℕ (Waiting A numbers)) → keeps (map f calls) d ≡ keeps calls d
  keeps_map f same d [] = refl
  keeps_map f same d (e ∷ es) = λ i. is_member nat_eq (same e i) d || keeps_map f same d es i

module _ {A : Type 0} (c : Core A numbers) (node : Node numbers) where
  -- what the descriptor names isn't on the node
  open_off : (pid : ℕ) (fd : ℤ) (o : Open numbers) → open_fd c pid fd ≡ Some o → names_at c node pid fd ≡ false → OffOpen c node o
  open_off pid fd o h off = at (row c pid fd) h off
    where
      at : (d : Option ℕ) → option_and_then (described c) d ≡ Some o → is_at c node d ≡ false → OffOpen c node o
      at None h off = absurd (cc)
      at (Some d) h off = described_off c node d o off h

  open_for_off : (test : Mode → Bool) (pid : ℕ) (fd : ℤ) (o : Open numbers) → open_for test c pid fd ≡ Some o → names_at c node pid fd ≡ false → OffOpen c node o
  open_for_off test pid fd o h off = at (open_fd c pid fd) refl h
    where
      passed : (x : Open numbers) (b : Bool) → cond b (Some x) None ≡ Some o → x ≡ o
      passed x true h = cc
      passed x false h = absurd (cc)

      at : (x : Option (Open numbers)) → open_fd c pid fd ≡ x → allowed test x ≡ Some o → OffOpen c node o
      at None e h = absurd (cc)
      at (Some x) e h = subst (OffOpen c node) (passed x (test x.description.mode) h) (open_off pid fd x e off)

  -- a free descriptor names nothing on the node
  free_off : (pid fd : ℕ) → c.rows pid fd ≡ None → OffRow c node c pid fd
  free_off pid fd free k named = absurd (none_some free named)
    where
      none_some : {o : Option ℕ} → o ≡ None → o ≡ Some k → ⊥
      none_some e f = cc

  -- nor does one within the table that names nothing there
  row_off : (pid fd : ℕ) → nat_lt fd most_descriptors ≡ true → names_at c node pid (pos fd) ≡ false → OffRow c node c pid fd
  row_off pid fd within off k named = ap (is_at c node) (sym (ap (λ b. cond b (c.rows pid fd) None) within ∙ named)) ∙ off

  target_off : (pid : ℕ) (target : ℤ) → not (is_descriptor c.limits target) ≡ false → names_at c node pid target ≡ false → OffRow c node c pid (natural target)
  target_off pid (pos n) within off = at (nat_lt n (descriptor_limit c.limits)) refl within
    where
      at : (b : Bool) → nat_lt n (descriptor_limit c.limits) ≡ b → not b ≡ false → OffRow c node c pid n
      at true e h = row_off pid n (lt-ltb n most_descriptors (omega (arith, ltb-true n (descriptor_limit c.limits) e))) off
      at false e h = absurd (cc)
  target_off pid (negsuc n) within off = absurd (cc)

  closed_off : (pid : ℕ) (fd : ℤ) (o : Open numbers) → open_fd c pid fd ≡ Some o → names_at c node pid fd ≡ false → OffRow c node c pid (natural fd)
  closed_off pid (pos n) o h off = at (nat_lt n most_descriptors) refl h
    where
      at : (b : Bool) → nat_lt n most_descriptors ≡ b → option_and_then (described c) (cond b (c.rows pid n) None) ≡ Some o → OffRow c node c pid n
      at true e h = row_off pid n e off
      at false e h = absurd (cc)
  closed_off pid (negsuc n) o h off = absurd (cc)

  -- Of a call that begins: what it leaves, if it is answered, and what its first try leaves.
  abbrev pub Fine : (pid : ℕ) → Call A → Begun A numbers → Type 0
  Fine pid call (Refused errno) = Unit {0}
  Fine pid call (Answered u reply) = Leaves c u node
  Fine pid call (Tried u kept met may_wait) = TryLeaves c node (try u (waiting pid call kept met) call may_wait)

  fine_refusable : (pid : ℕ) (call : Call A) → Refusable (Fine pid call)
  fine_refusable pid call = record { refused = λ errno. tt }

  same : Leaves c c node
  same = leaves_same c node

  -- a call is tried on what descriptors name that isn't on the node
  tried_one : (pid : ℕ) (call : Call A) (test : Mode → Bool) (fd : ℤ) (o : Open numbers) (may_wait : Bool) → names_at c node pid fd ≡ false → open_for test c pid fd ≡ Some o →
      Fine pid call (Tried c (o.key ∷ []) false may_wait)
  tried_one pid call test fd o may_wait off h = try_leaves c node (waiting pid call (o.key ∷ []) false) (ap (λ b. b || false) (open_for_off test pid fd o h off).key) call may_wait

  tried_both : (pid : ℕ) (call : Call A) (test other : Mode → Bool) (from to : ℤ) (a b : Open numbers) (may_wait : Bool) → (names_at c node pid from || names_at c node pid to) ≡ false →
      open_for test c pid from ≡ Some a → open_for other c pid to ≡ Some b → Fine pid call (Tried c (a.key ∷ b.key ∷ []) false may_wait)
  tried_both pid call test other from to a b may_wait off h k =
      let off_a = (open_for_off test pid from a h (or_parts _ _ off).0).key in
      let off_b = (open_for_off other pid to b k (or_parts _ _ off).1).key in
      try_leaves c node (waiting pid call (a.key ∷ b.key ∷ []) false) (λ i. off_a i || (off_b i || false)) call may_wait

  read_fine : (new : NewKeys numbers) (pid : ℕ) (call : Call A) (fd : ℤ) (n : ℕ) → names_at c node pid fd ≡ false → LeadsTo new (Fine pid call) (begin_read c pid fd n)
  unfolding begin_read
  read_fine new pid call fd n off = search (ways, fine_refusable, tried_one, same) depth 14

  write_fine : (new : NewKeys numbers) (pid : ℕ) (call : Call A) (fd : ℤ) (bytes : List ℕ) → names_at c node pid fd ≡ false → LeadsTo new (Fine pid call) (begin_write c pid fd bytes)
  unfolding begin_write
  write_fine new pid call fd bytes off = search (ways, fine_refusable, tried_one, same) depth 14

  splice_fine : (new : NewKeys numbers) (pid : ℕ) (call : Call A) (from : ℤ) (from_offset : Option ℕ) (to : ℤ) (to_offset : Option ℕ) (len : ℕ) (flags : SpliceFlags) →
      (names_at c node pid from || names_at c node pid to) ≡ false → LeadsTo new (Fine pid call) (begin_splice c pid from from_offset to to_offset len flags)
  unfolding begin_splice
  splice_fine new pid call from from_offset to to_offset len flags off = search (ways, fine_refusable, tried_both, same) depth 16

  tee_fine : (new : NewKeys numbers) (pid : ℕ) (call : Call A) (from to : ℤ) (len : ℕ) (flags : SpliceFlags) →
      (names_at c node pid from || names_at c node pid to) ≡ false → LeadsTo new (Fine pid call) (begin_tee c pid from to len flags)
  unfolding begin_tee
  tee_fine new pid call from to len flags off = search (ways, fine_refusable, tried_both, same) depth 16

  poll_fine : (new : NewKeys numbers) (pid : ℕ) (entries : List (ℤ × PollMask)) (wait : Bool) → LeadsTo new (Fine pid (Call.Poll entries wait)) (begin_poll c pid entries wait)
  unfolding begin_poll try
  poll_fine new pid entries wait = search (ways, fine_refusable, poll_leaves, same) depth 14

  installs : (pid fd d : ℕ) → c.rows pid fd ≡ None → Leaves c (install c pid fd d) node
  installs pid fd d free = row_set c node c same pid fd (Some d) (free_off pid fd free)

  dup_fine : (new : NewKeys numbers) (pid : ℕ) (call : Call A) (fd : ℤ) → LeadsTo new (Fine pid call) (begin_dup c pid fd)
  unfolding begin_dup
  dup_fine new pid call fd = search (ways, fine_refusable, installs, lowest_free) depth 14

  dup_fd_fine : (new : NewKeys numbers) (pid : ℕ) (call : Call A) (fd least : ℤ) → LeadsTo new (Fine pid call) (begin_dup_fd c pid fd least)
  unfolding begin_dup_fd
  dup_fd_fine new pid call fd least = search (ways, fine_refusable, installs, lowest_free) depth 14

  installs_at : (pid : ℕ) (target : ℤ) (d : ℕ) → not (is_descriptor c.limits target) ≡ false → names_at c node pid target ≡ false → Leaves c (install c pid (natural target) d) node
  installs_at pid target d within off = row_set c node c same pid (natural target) (Some d) (target_off pid target within off)

  dup2_fine : (new : NewKeys numbers) (pid : ℕ) (call : Call A) (fd target : ℤ) → names_at c node pid target ≡ false → LeadsTo new (Fine pid call) (begin_dup2 c pid fd target)
  unfolding begin_dup2
  dup2_fine new pid call fd target off = search (ways, fine_refusable, installs_at) depth 14

  closes : (pid : ℕ) (fd : ℤ) (o : Open numbers) → open_fd c pid fd ≡ Some o → names_at c node pid fd ≡ false → Leaves c (close_row c pid (natural fd)) node
  closes pid fd o h off = row_set c node c same pid (natural fd) None (closed_off pid fd o h off)

  close_fine : (new : NewKeys numbers) (pid : ℕ) (call : Call A) (fd : ℤ) → names_at c node pid fd ≡ false → LeadsTo new (Fine pid call) (begin_close c pid fd)
  unfolding begin_close
  close_fine new pid call fd off = search (ways, fine_refusable, closes) depth 14

  sets : (pid : ℕ) (fd : ℤ) (o : Open numbers) (x : Description numbers) → open_fd c pid fd ≡ Some o → names_at c node pid fd ≡ false → x.node ≡ o.description.node → Leaves c (set_description c o.key x) node
  sets pid fd o x h off on =
      let away = open_off pid fd o h off in
      description_set c node c same o.key x away.key (ap (λ n. same_node n node) on ∙ away.away)

  lseek_fine : (new : NewKeys numbers) (pid : ℕ) (call : Call A) (fd offset : ℤ) (whence : Whence) → names_at c node pid fd ≡ false → LeadsTo new (Fine pid call) (begin_lseek c pid fd offset whence)
  unfolding begin_lseek
  lseek_fine new pid call fd offset whence off = search (ways, fine_refusable, sets) depth 14

  get_fl_fine : (new : NewKeys numbers) (pid : ℕ) (call : Call A) (fd : ℤ) → LeadsTo new (Fine pid call) (begin_get_fl c pid fd)
  unfolding begin_get_fl
  get_fl_fine new pid call fd = search (ways, fine_refusable, same) depth 14

  set_fl_fine : (new : NewKeys numbers) (pid : ℕ) (call : Call A) (fd : ℤ) (flags : OpenFlags) → names_at c node pid fd ≡ false → LeadsTo new (Fine pid call) (begin_set_fl c pid fd flags)
  unfolding begin_set_fl
  set_fl_fine new pid call fd flags off = search (ways, fine_refusable, sets) depth 14

  get_pipe_sz_fine : (new : NewKeys numbers) (pid : ℕ) (call : Call A) (fd : ℤ) → LeadsTo new (Fine pid call) (begin_get_pipe_sz c pid fd)
  unfolding begin_get_pipe_sz
  get_pipe_sz_fine new pid call fd = search (ways, fine_refusable, same) depth 14

  resizes : (pid : ℕ) (fd : ℤ) (o : Open numbers) (p size : ℕ) → open_fd c pid fd ≡ Some o → names_at c node pid fd ≡ false → pipe_of o.description.node ≡ Some p → Leaves c (set_capacity c p size) node
  resizes pid fd o p size h off is = pipe_set c node c same p _ (at o.description.node is (open_off pid fd o h off).away)
    where
      at : (n : Node numbers) → pipe_of n ≡ Some p → Away c node n → Away c node (PipeNode p)
      at (PipeNode q) is away = (let one : q ≡ p = cc in ap (λ k. same_node {K = numbers} (PipeNode k) node) (sym one) ∙ away)
      at (FileNode f) is away = absurd (cc)

  set_pipe_sz_fine : (new : NewKeys numbers) (pid : ℕ) (call : Call A) (fd : ℤ) (size : ℕ) → names_at c node pid fd ≡ false → LeadsTo new (Fine pid call) (begin_set_pipe_sz c pid fd size)
  unfolding begin_set_pipe_sz
  set_pipe_sz_fine new pid call fd size off = search (ways, fine_refusable, resizes) depth 14

  forgets : (name : List ℕ) → Leaves c (forget_name c name) node
  forgets name = names_set c node c same _

  unlink_fine : (new : NewKeys numbers) (pid : ℕ) (call : Call A) (name : List ℕ) → LeadsTo new (Fine pid call) (begin_unlink c name)
  unfolding begin_unlink
  unlink_fine new pid call name = search (ways, fine_refusable, forgets) depth 14

  forks : (pid child : ℕ) → lowest_pid c ≡ Some child → Leaves c (fork c pid child) node
  forks pid child h = fork_leaves c node pid child (child_free c child h)

  fork_fine : (new : NewKeys numbers) (pid : ℕ) (call : Call A) → LeadsTo new (Fine pid call) (begin_fork c pid)
  unfolding begin_fork
  fork_fine new pid call = search (ways, fine_refusable, forks) depth 14

-- Calls that take new keys, of a node on which a description is.
module _ {A : Type 0} (c : Core A numbers) (node : Node numbers) (new : NewKeys numbers) (unused : AreUnused c new) (d : ℕ) (on : is_on node (c.descriptions d) ≡ true) where
  away : (other : Node numbers) → IsUnusedNode c other → Away c node other
  away other free = false_from_ne_true (same_node other node) (λ h. at (c.descriptions d) (free.descriptions d) on (same_is other node h))
    where
      at : (x : Option (Description numbers)) → IfSome x (λ x. x.node ≢ other) → is_on node x ≡ true → other ≡ node → ⊥
      at None n on e = absurd (cc)
      at (Some x) n on e = n (same_is x.node node (and_left (same_node x.node node) true on) ∙ sym e)

  pipe_away : Away c node (PipeNode new.pipe)
  pipe_away = away (PipeNode new.pipe) unused.pipe.node

  file_away : Away c node (FileNode new.file)
  file_away = away (FileNode new.file) unused.file.node

  first_off : Off c node new.description
  first_off = ap (is_on node) unused.description.descriptions

  second_off : Off c node new.other_description
  second_off = ap (is_on node) unused.other_description.descriptions

  makes : (pid first second : ℕ) (packets : Bool) (of_reader of_writer : OpenFlags) → c.rows pid first ≡ None → c.rows pid second ≡ None → Leaves c (make_pipe c new pid first second packets of_reader of_writer) node
  makes pid first second packets of_reader of_writer free also =
      row_set c node _
      (description_set c node _ (row_set c node _ (description_set c node _ (pipe_set c node c (same c node) new.pipe _ pipe_away) new.description _ first_off pipe_away) pid first (Some new.description) (free_off c node pid first free)) new.other_description _ second_off pipe_away)
      pid second (Some new.other_description) (λ k named. by (nat_eq pid pid && nat_eq second first) k named)
    where
      by : (b : Bool) (k : ℕ) → cond b (Some new.description) (c.rows pid second) ≡ Some k → Off c node k
      by true k named = (let one : new.description ≡ k = cc in ap (λ z. is_on node (c.descriptions z)) (sym one) ∙ first_off)
      by false k named = free_off c node pid second also k named

  pipe_fine : (pid : ℕ) (call : Call A) (nonblock direct : Bool) → LeadsTo new (Fine c node pid call) (begin_pipe c pid nonblock direct)
  unfolding begin_pipe
  pipe_fine pid call nonblock direct = search (ways, fine_refusable, makes, lowest_free) depth 14

  makes_fifo : (name : List ℕ) → Leaves c (create_fifo c name new.pipe) node
  makes_fifo name = names_set c node _ (pipe_set c node c (same c node) new.pipe _ pipe_away) _

  mkfifo_fine : (pid : ℕ) (call : Call A) (name : List ℕ) → LeadsTo new (Fine c node pid call) (begin_mkfifo c name)
  unfolding begin_mkfifo
  mkfifo_fine pid call name = search (ways, fine_refusable, makes_fifo) depth 14

  meets : (p : ℕ) (mode : Mode) → Leaves c (meet c p mode) node
  meets p mode = calls_set c node c (same c node) (meet c p mode).parked c.next_call (λ k on kept. keeps_map (meeting c p mode) (meet-kept c p mode) k c.parked ∙ kept)

  -- a new description on another node
  describes : (s : Core A numbers) (other : Node numbers) (mode : Mode) (flags : OpenFlags) → Leaves c s node → Away c node other → Leaves c (describe s new.description other mode flags) node
  describes s other mode flags l here = description_set c node s l new.description _ first_off here

  -- which a free descriptor comes to name
  opens : (s : Core A numbers) (pid fd : ℕ) (other : Node numbers) (mode : Mode) (flags : OpenFlags) → Leaves c s node → Away c node other → s.rows pid fd ≡ None →
      Leaves c (install (describe s new.description other mode flags) pid fd new.description) node
  opens s pid fd other mode flags l here free = row_set c node _ (describes s other mode flags l here) pid fd (Some new.description) (λ k named. absurd (none_some free named))
    where
      none_some : {o : Option ℕ} {k : ℕ} → o ≡ None → o ≡ Some k → ⊥
      none_some e f = cc

  module _ (pid fd : ℕ) (free : c.rows pid fd ≡ None) (name : List ℕ) (mode : Mode) (flags : OpenFlags) where
    abbrev opening : Call A
    opening = Call.OpenName name mode flags

    creates : Leaves c (install (describe (create_file c name new.file) new.description (FileNode new.file) mode (status_flags flags)) pid fd new.description) node
    creates = opens _ pid fd (FileNode new.file) mode (status_flags flags) (names_set c node _ (file_set c node c (same c node) new.file _ file_away) _) file_away free

    opens_file : (f : ℕ) → Away c node (FileNode f) → Leaves c (install (describe (truncated c f mode flags) new.description (FileNode f) mode (status_flags flags)) pid fd new.description) node
    opens_file f here = at (has flags.0 trunc && writes mode)
      where
        at : (b : Bool) → Leaves c (install (describe (cond b (set_file c f []) c) new.description (FileNode f) mode (status_flags flags)) pid fd new.description) node
        at true = opens _ pid fd (FileNode f) mode (status_flags flags) (file_set c node c (same c node) f _ here) here free
        at false = opens _ pid fd (FileNode f) mode (status_flags flags) (same c node) here free

    opens_fifo : (p : ℕ) → Away c node (PipeNode p) → Leaves c (install (describe (meet c p mode) new.description (PipeNode p) mode (status_flags flags)) pid fd new.description) node
    opens_fifo p here = opens _ pid fd (PipeNode p) mode (status_flags flags) (meets p mode) here free

    waits : (p : ℕ) → Away c node (PipeNode p) → Leaves c (flowed (describe (meet c p mode) new.description (PipeNode p) mode (status_flags flags)) still) node
    waits p here = still_leaves c node _ (describes (meet c p mode) (PipeNode p) mode (status_flags flags) (meets p mode) here)

    waits_not : Leaves c (flowed c still) node
    waits_not = still_leaves c node c (same c node)

    named_fine : (o : Option (Node numbers)) → stands_at node o ≡ false → LeadsTo new (Fine c node pid opening) (open_named c pid fd name o mode flags)
    unfolding try
    named_fine None off = search (ways, fine_refusable, creates)
    named_fine (Some (FileNode f)) off = search (ways, opens_file)
    named_fine (Some (PipeNode p)) off = search (ways, fine_refusable, opens_fifo, waits, waits_not) depth 14

  open_fine : (pid : ℕ) (name : List ℕ) (mode : Mode) (flags : OpenFlags) → stands_at node (named c name) ≡ false → LeadsTo new (Fine c node pid (Call.OpenName name mode flags)) (begin_open_name c pid name mode flags)
  unfolding begin_open_name
  open_fine pid name mode flags off = search (ways, fine_refusable, named_fine, lowest_free) depth 14

  -- a call that begins and doesn't touch the node
  pub begin_fine : (pid : ℕ) (call : Call A) → touches_by c node pid call ≡ false → LeadsTo new (Fine c node pid call) (begin c pid call)
  unfolding begin touches_by
  begin_fine pid (Call.Pipe nonblock direct) off = pipe_fine pid _ nonblock direct
  begin_fine pid (Call.Mkfifo name) off = mkfifo_fine pid _ name
  begin_fine pid (Call.OpenName name mode flags) off = open_fine pid name mode flags off
  begin_fine pid (Call.Read fd n) off = read_fine c node new pid _ fd n off
  begin_fine pid (Call.Write fd bytes) off = write_fine c node new pid _ fd bytes off
  begin_fine pid (Call.Splice from from_offset to to_offset len flags) off = splice_fine c node new pid _ from from_offset to to_offset len flags off
  begin_fine pid (Call.Tee from to len flags) off = tee_fine c node new pid _ from to len flags off
  begin_fine pid (Call.Poll entries wait) off = poll_fine c node new pid entries wait
  begin_fine pid (Call.Dup fd) off = dup_fine c node new pid _ fd
  begin_fine pid (Call.Dup2 fd target) off = dup2_fine c node new pid _ fd target off
  begin_fine pid (Call.DupFd fd least) off = dup_fd_fine c node new pid _ fd least
  begin_fine pid (Call.Close fd) off = close_fine c node new pid _ fd off
  begin_fine pid (Call.Lseek fd offset whence) off = lseek_fine c node new pid _ fd offset whence off
  begin_fine pid (Call.GetFl fd) off = get_fl_fine c node new pid _ fd
  begin_fine pid (Call.SetFl fd flags) off = set_fl_fine c node new pid _ fd flags off
  begin_fine pid (Call.GetPipeSz fd) off = get_pipe_sz_fine c node new pid _ fd
  begin_fine pid (Call.SetPipeSz fd size) off = set_pipe_sz_fine c node new pid _ fd size off
  begin_fine pid (Call.Unlink name) off = unlink_fine c node new pid _ name
  begin_fine pid Call.Fork off = fork_fine c node new pid _
  begin_fine pid Call.Exit off = begun_plain new (Fine c node pid Call.Exit) _ (exit_leaves c node pid off)
