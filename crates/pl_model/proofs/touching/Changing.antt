-- What each change that a step is made of leaves as it was at a node that it isn't at.
use Rattle.std.proofs.Common.{◌≡◌, ◌≢◌, ℕ, Bool, true, false, cond, List, [], ◌∷◌, Option, Some, None, refl, sym, ◌∙◌, ap, nat_eq, arith}
use Rattle.std.specs.Prelude.{◌||◌, ◌&&◌, not}
use Rattle.std.specs.List.{list_any, filter}
use Rattle.std.specs.Set.{is_member}
use Rattle.std.proofs.lemmas.Bool.{false_from_ne_true, eqb-true, or_parts}
use Rattle.pl_model.specs.Numbers.{numbers_from}
use Rattle.pl_model.specs.Tables.{descriptor_limit}
use Rattle.pl_model.specs.Map.{Map, get, without, EachOnce}
use Rattle.pl_model.specs.Keys.{Node, PipeNode, FileNode, same_node}
use Rattle.pl_model.specs.State.{Core, Description, Pipe, Waiting, set_row, set_pipe, set_file, set_description}
use Rattle.pl_model.specs.Live.{in_rows, is_live}
use Rattle.pl_model.specs.Tables.{start, fork, exit}
use Rattle.pl_model.specs.Touching.{is_at, keeps_at, has_at}
use Rattle.pl_model.specs.Laws.{IsSettled}
use Rattle.pl_model.specs.Numbered.{numbers}
use Rattle.pl_model.proofs.settling.Members.{or_left, or_right, or_elim, member_passes, number_passes}
use Rattle.pl_model.proofs.settling.WhoIsLive.{Row, row_found, row_member, is_on, settled-live}
use Rattle.pl_model.proofs.settling.FromSettled.{at_other}
use Rattle.pl_model.proofs.settling.Parking.{keeps, live-is}
use Rattle.pl_model.proofs.settling.Meeting.{keeps_without}
use Rattle.pl_model.proofs.touching.SameAt.{SameAt, held_at}

-- no test both holds and doesn't
pub no_two : {b : Bool} → b ≡ true → b ≡ false → ⊥
no_two t f = cc

module _ {A : Type 0} where
  -- What names or keeps a description on the node still does so, and the same descriptions are on it, as they were.
  pub record Leaves (c u : Core A numbers) (node : Node numbers) : Type 0 where
    pub rows : (d : ℕ) → is_on node (c.descriptions d) ≡ true → Row c d → Row u d
    pub calls : (d : ℕ) → is_on node (c.descriptions d) ≡ true → keeps c.parked d ≡ true → keeps u.parked d ≡ true
    pub there : (d : ℕ) → is_on node (c.descriptions d) ≡ true → u.descriptions d ≡ c.descriptions d
    pub back : (d : ℕ) → is_on node (u.descriptions d) ≡ true → u.descriptions d ≡ c.descriptions d
    pub held : held_at u node ≡ held_at c node

  -- nothing has changed
  pub leaves_same : (c : Core A numbers) (node : Node numbers) → Leaves c c node
  leaves_same c node = record { rows = λ d o r. r; calls = λ d o k. k; there = λ d o. refl; back = λ d o. refl; held = refl }

  -- From a settled state nothing more is wanted, as all that is described there is live.
  pub leaves_ends : (c u : Core A numbers) (node : Node numbers) → IsSettled c → Leaves c u node → SameAt c u node
  leaves_ends c u node settled l = record { ends = record { forth = λ d live on. (forth d live on, l.there d on); back = λ d live on. (was d (c.descriptions d) refl (sym (l.back d on)) on, l.back d on) }; held = l.held }
    where
      forth : (d : ℕ) → is_live c d ≡ true → is_on node (c.descriptions d) ≡ true → is_live u d ≡ true
      forth d live on =
          live-is u d ∙ or_elim (is_member nat_eq (in_rows c) d) (keeps c.parked d)
          (λ r. or_left _ _ (row_member u d (l.rows d on (row_found c d r))))
          (λ k. or_right _ _ (l.calls d on k))
          (sym (live-is c d) ∙ live)

      was : (d : ℕ) (o : Option (Description numbers)) → c.descriptions d ≡ o → c.descriptions d ≡ u.descriptions d → is_on node (u.descriptions d) ≡ true → is_live c d ≡ true
      was d None e same on = absurd (no_two on (ap (is_on node) (sym same ∙ e)))
      was d (Some x) e same on = settled-live c settled d x e

-- Each is a change of a state s, to which the node was left.
module _ {A : Type 0} (c : Core A numbers) (node : Node numbers) where
  -- the description of c isn't on the node
  abbrev pub Off : ℕ → Type 0
  Off d = is_on node (c.descriptions d) ≡ false

  -- in the state s the descriptor names nothing on the node
  abbrev pub OffRow : Core A numbers → (pid fd : ℕ) → Type 0
  OffRow s pid fd = (k : ℕ) → s.rows pid fd ≡ Some k → Off k

  module _ (s : Core A numbers) (l : Leaves c s node) where
    -- a descriptor that names nothing on the node names this, or nothing
    pub row_set : (pid fd : ℕ) (o : Option ℕ) → OffRow s pid fd → Leaves c (set_row s pid fd o) node
    row_set pid fd o off = record { rows = λ d on r. rows d on (l.rows d on r); calls = l.calls; there = l.there; back = l.back; held = l.held }
      where
        names : (d q k : ℕ) → is_on node (c.descriptions d) ≡ true → s.rows q k ≡ Some d → (a b : Bool) → nat_eq q pid ≡ a → nat_eq k fd ≡ b → cond (a && b) o (s.rows q k) ≡ Some d
        names d q k on e true true at_q at_k = absurd (no_two on (off d ((λ i. s.rows (sym (eqb-true q pid at_q) i) (sym (eqb-true k fd at_k) i)) ∙ e)))
        names d q k on e true false at_q at_k = e
        names d q k on e false b at_q at_k = e

        rows : (d : ℕ) → is_on node (c.descriptions d) ≡ true → Row s d → Row (set_row s pid fd o) d
        rows d on r = record { pid = r.pid; fd = r.fd; low = r.low; high = r.high; process = r.process; within = r.within; names = names d r.pid r.fd on r.names (nat_eq r.pid pid) (nat_eq r.fd fd) refl refl }

    -- a key that is of no description on the node comes to have one on another node
    pub description_set : (d : ℕ) (x : Description numbers) → Off d → same_node x.node node ≡ false → Leaves c (set_description s d x) node
    description_set d x off away =
        record {
          rows = λ q on r. (let m = l.rows q on r in record { pid = m.pid; fd = m.fd; low = m.low; high = m.high; process = m.process; within = m.within; names = m.names });
          calls = l.calls;
          there = λ q on. there q on (nat_eq d q) refl;
          back = λ q on. back q (nat_eq d q) on;
          held = l.held;
        }
      where
        there : (q : ℕ) → is_on node (c.descriptions q) ≡ true → (b : Bool) → nat_eq d q ≡ b → cond b (Some x) (s.descriptions q) ≡ c.descriptions q
        there q on true e = absurd (no_two on (ap (λ z. is_on node (c.descriptions z)) (sym (eqb-true d q e)) ∙ off))
        there q on false e = l.there q on

        back : (q : ℕ) (b : Bool) → is_on node (cond b (Some x) (s.descriptions q)) ≡ true → cond b (Some x) (s.descriptions q) ≡ c.descriptions q
        back q true on = absurd (no_two on (λ i. away i && true))
        back q false on = l.back q on

    -- another pipe changes
    pub pipe_set : (p : ℕ) (pipe : Pipe) → same_node {K = numbers} (PipeNode p) node ≡ false → Leaves c (set_pipe s p pipe) node
    pipe_set p pipe away = record { rows = λ d on r. same_rows d (l.rows d on r); calls = l.calls; there = l.there; back = l.back; held = held node refl ∙ l.held }
      where
        same_rows : (d : ℕ) → Row s d → Row (set_pipe s p pipe) d
        same_rows d r = record { pid = r.pid; fd = r.fd; low = r.low; high = r.high; process = r.process; within = r.within; names = r.names }

        held : (n : Node numbers) → node ≡ n → held_at (set_pipe s p pipe) n ≡ held_at s n
        held (PipeNode q) e = (λ i. (cond ((ap (same_node {K = numbers} (PipeNode p)) (sym e) ∙ away) i) (Some pipe) (s.pipes q), None))
        held (FileNode f) e = refl

    -- another file changes
    pub file_set : (f : ℕ) (bytes : List ℕ) → same_node {K = numbers} (FileNode f) node ≡ false → Leaves c (set_file s f bytes) node
    file_set f bytes away = record { rows = λ d on r. same_rows d (l.rows d on r); calls = l.calls; there = l.there; back = l.back; held = held node refl ∙ l.held }
      where
        same_rows : (d : ℕ) → Row s d → Row (set_file s f bytes) d
        same_rows d r = record { pid = r.pid; fd = r.fd; low = r.low; high = r.high; process = r.process; within = r.within; names = r.names }

        held : (n : Node numbers) → node ≡ n → held_at (set_file s f bytes) n ≡ held_at s n
        held (PipeNode q) e = refl
        held (FileNode g) e = (λ i. (None, cond ((ap (same_node {K = numbers} (FileNode f)) (sym e) ∙ away) i) (Some bytes) (s.files g)))

    -- names stand for something else
    pub names_set : (names : Map (List ℕ) (Node numbers)) → Leaves c (record s { names = names }) node
    names_set names = record { rows = λ d on r. same_rows d (l.rows d on r); calls = l.calls; there = l.there; back = l.back; held = held node ∙ l.held }
      where
        same_rows : (d : ℕ) → Row s d → Row (record s { names = names }) d
        same_rows d r = record { pid = r.pid; fd = r.fd; low = r.low; high = r.high; process = r.process; within = r.within; names = r.names }

        held : (n : Node numbers) → held_at (record s { names = names }) n ≡ held_at s n
        held (PipeNode q) = refl
        held (FileNode g) = refl

    -- other calls are parked, of which some keep what was kept on the node
    pub calls_set : (calls : Map ℕ (Waiting A numbers)) (next : ℕ) → ((d : ℕ) → is_on node (c.descriptions d) ≡ true → keeps c.parked d ≡ true → keeps calls d ≡ true) →
        Leaves c (record s { parked = calls; next_call = next }) node
    calls_set calls next kept = record { rows = λ d on r. same_rows d (l.rows d on r); calls = kept; there = l.there; back = l.back; held = held node ∙ l.held }
      where
        same_rows : (d : ℕ) → Row s d → Row (record s { parked = calls; next_call = next }) d
        same_rows d r = record { pid = r.pid; fd = r.fd; low = r.low; high = r.high; process = r.process; within = r.within; names = r.names }

        held : (n : Node numbers) → held_at (record s { parked = calls; next_call = next }) n ≡ held_at s n
        held (PipeNode q) = refl
        held (FileNode g) = refl

  -- a process starts
  pub start_leaves : (pid : ℕ) → Leaves c (start c pid) node
  start_leaves pid = record { rows = λ d on r. rows d r; calls = λ d on k. k; there = λ d on. refl; back = λ d on. refl; held = held node }
    where
      there : (q : ℕ) (b : Bool) → c.processes q ≡ true → cond b true (c.processes q) ≡ true
      there q true is = refl
      there q false is = is

      rows : (d : ℕ) → Row c d → Row (start c pid) d
      rows d r = record { pid = r.pid; fd = r.fd; low = r.low; high = r.high; process = there r.pid (nat_eq pid r.pid) r.process; within = r.within; names = r.names }

      held : (n : Node numbers) → held_at (start c pid) n ≡ held_at c n
      held (PipeNode q) = refl
      held (FileNode g) = refl

  -- a process starts with another's descriptors
  pub fork_leaves : (pid child : ℕ) → c.processes child ≡ false → Leaves c (fork c pid child) node
  fork_leaves pid child free = record { rows = λ d on r. rows d r; calls = λ d on k. k; there = λ d on. refl; back = λ d on. refl; held = held node }
    where
      other : (q : ℕ) → c.processes q ≡ true → child ≢ q
      other q is e = no_two is (ap c.processes (sym e) ∙ free)

      rows : (d : ℕ) → Row c d → Row (fork c pid child) d
      rows d r = record {
        pid = r.pid;
        fd = r.fd;
        low = r.low;
        high = r.high;
        process = at_other c.processes child r.pid true (other r.pid r.process) ∙ r.process;
        within = r.within;
        names = (λ i. at_other c.rows child r.pid (c.rows pid) (other r.pid r.process) i r.fd) ∙ r.names;
      }

      held : (n : Node numbers) → held_at (fork c pid child) n ≡ held_at c n
      held (PipeNode q) = refl
      held (FileNode g) = refl

  -- no call that the process waits in keeps a description on the node, so those that do stay
  others_keep : (pid d : ℕ) → is_on node (c.descriptions d) ≡ true → (calls : Map ℕ (Waiting A numbers)) → list_any (λ e. nat_eq e.1.pid pid && keeps_at c node e.1) calls ≡ false →
      keeps calls d ≡ true → keeps (filter (λ e. not (nat_eq e.1.pid pid)) calls) d ≡ true
  others_keep pid d on [] none k = k
  others_keep pid d on (e ∷ es) none k = by (nat_eq e.1.pid pid) none (others_keep pid d on es)
    where
      by : (b : Bool) → ((b && keeps_at c node e.1) || list_any (λ e. nat_eq e.1.pid pid && keeps_at c node e.1) es) ≡ false
          → (list_any (λ e. nat_eq e.1.pid pid && keeps_at c node e.1) es ≡ false → keeps es d ≡ true → keeps (filter (λ e. not (nat_eq e.1.pid pid)) es) d ≡ true)
          → keeps (cond (not b) (e ∷ filter (λ e. not (nat_eq e.1.pid pid)) es) (filter (λ e. not (nat_eq e.1.pid pid)) es)) d ≡ true
      by true none rest =
          let n = or_parts (keeps_at c node e.1) _ none in
          rest n.1 (or_elim (is_member nat_eq e.1.kept d) (keeps es d) (λ m. absurd (no_two (member_passes (λ z. is_on node (c.descriptions z)) e.1.kept d m on) n.0)) (λ h. h) k)
      by false none rest = or_elim (is_member nat_eq e.1.kept d) (keeps es d) (λ m. or_left _ _ m) (λ h. or_right (is_member nat_eq e.1.kept d) _ (rest none h)) k

  -- a process that is at the node nowhere ends
  pub exit_leaves : (pid : ℕ) → has_at c node pid ≡ false → Leaves c (exit c pid) node
  exit_leaves pid off = record { rows = rows; calls = λ d on k. others_keep pid d on c.parked none.1 k; there = λ d on. refl; back = λ d on. refl; held = held node }
    where
      none : (list_any (λ fd. is_at c node (c.rows pid fd)) (numbers_from (descriptor_limit c.limits) 0) ≡ false) × (list_any (λ e. nat_eq e.1.pid pid && keeps_at c node e.1) c.parked ≡ false)
      none = or_parts _ _ off

      other : (d : ℕ) → is_on node (c.descriptions d) ≡ true → (r : Row c d) → pid ≢ r.pid
      other d on r e =
          let here : is_at c node (c.rows pid r.fd) ≡ true = ap (is_at c node) (ap (λ q. c.rows q r.fd) e ∙ r.names) ∙ on in
          no_two (number_passes (λ fd. is_at c node (c.rows pid fd)) (descriptor_limit c.limits) 0 r.fd (omega arith) (omega (arith, r.within)) here) none.0

      rows : (d : ℕ) → is_on node (c.descriptions d) ≡ true → Row c d → Row (exit c pid) d
      rows d on r = record {
        pid = r.pid;
        fd = r.fd;
        low = r.low;
        high = r.high;
        process = at_other c.processes pid r.pid false (other d on r) ∙ r.process;
        within = r.within;
        names = (λ i. at_other c.rows pid r.pid (λ fd. None) (other d on r) i r.fd) ∙ r.names;
      }

      held : (n : Node numbers) → held_at (exit c pid) n ≡ held_at c n
      held (PipeNode q) = refl
      held (FileNode g) = refl

  -- a call that keeps no description on the node ends
  pub without_keeps : (n : ℕ) (w : Waiting A numbers) → EachOnce nat_eq c.parked → get nat_eq c.parked n ≡ Some w → keeps_at c node w ≡ false →
      (d : ℕ) → is_on node (c.descriptions d) ≡ true → keeps c.parked d ≡ true → keeps (without nat_eq c.parked n) d ≡ true
  without_keeps n w once here off d on k =
      keeps_without c.parked n d w once here (false_from_ne_true _ (λ m. no_two (member_passes (λ z. is_on node (c.descriptions z)) w.kept d m on) off)) k
