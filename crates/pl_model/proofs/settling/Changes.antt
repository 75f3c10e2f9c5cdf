-- What the end of a step makes of each change that a call makes to a settled state.
use Rattle.std.proofs.Common.{◌≡◌, ◌≢◌, ℕ, ◌+◌, ◌<◌, ◌≤◌, Bool, true, false, cond, Option, Some, None, refl, sym, ◌∙◌, ap, inl, inr, nat_eq}
use Rattle.std.specs.Prelude.{◌||◌, ◌&&◌}
use Rattle.std.specs.List.{list_any}
use Rattle.std.proofs.Math.Path.{fun_ext}
use Rattle.std.proofs.lemmas.Bool.{eq-eqb, ne_eqb}
use Rattle.std.proofs.lemmas.Bool.Decides.{eqb_tells}
use Rattle.pl_model.specs.declared.calls.Mode.{Mode}
use Rattle.pl_model.specs.declared.calls.Mode.TheVariants as mode
use Rattle.pl_model.specs.declared.flags.OpenFlags.{OpenFlags}
use Rattle.pl_model.specs.Tables.{descriptor_limit, process_limit}
use Rattle.pl_model.specs.Modes.{any_mode, reads, writes}
use Rattle.pl_model.specs.Map.{set_at}
use Rattle.pl_model.specs.Keys.{Node, NewKeys, PipeNode, FileNode, same_node}
use Rattle.pl_model.specs.State.{Core, Description, Pipe, pipe_made, set_pipe, set_description}
use Rattle.pl_model.specs.Live.{in_rows, in_parked, pids, in_use, is_live, is_end, is_open, has_name}
use Rattle.pl_model.specs.Settle.{settle, settled_pipe, is_kept, is_hung, with_ends}
use Rattle.pl_model.specs.Tables.{install, close_row}
use Rattle.pl_model.specs.Begin.{make_pipe}
use Rattle.pl_model.specs.Numbered.{numbers}
use Rattle.pl_model.specs.StandsFor.{AreUnused}
use Rattle.pl_model.specs.Laws.{IsSettled}
use Rattle.pl_model.proofs.settling.Members.{or_left}
use Rattle.pl_model.proofs.settling.FromSettled.{at_other, at_key, changed-settled}
use Rattle.pl_model.proofs.settling.WhoIsLive.{Row, row_live, live_same, is_on, has_end, end_passes, SameEnds, settled_pipe-is, tidy, settled-live, settled-kept, settled-file, kept-same, settled_pipe-same}

-- a pipe with an end changes, and is hung as it was
module _ {A : Type 0} (c : Core A numbers) (settled : IsSettled c) (p : ℕ) (x : Pipe) (is : c.pipes p ≡ Some x) (held : is_open c (PipeNode p) ≡ true) where
  same_live : (z : Pipe) (d : ℕ) → is_live (set_pipe c p z) d ≡ is_live c d
  unfolding in_rows in_parked pids
  same_live z d = refl

  pub put-settled : (z : Pipe) → z.hung ≡ x.hung → settle c (set_pipe c p z) ≡ set_pipe c p z
  put-settled z same_hung = changed-settled c (set_pipe c p z) settled (record { descriptions = refl; files = refl; names = refl }) (same_live z) p x z is held same_hung refl

-- a free descriptor comes to name what a row names
module _ {A : Type 0} (c : Core A numbers) (pid fd d : ℕ) (free : c.rows pid fd ≡ None) (from : Row c d) where
  abbrev installed : Core A numbers
  installed = install c pid fd d

  pub installed_live : (q : ℕ) → is_live installed q ≡ is_live c q
  installed_live q = live_same c installed refl q
      (λ r. record { pid = r.pid; fd = r.fd; low = r.low; high = r.high; process = r.process; within = r.within; names = stands r.pid r.fd r.names })
      (λ r. by r (nat_eq r.pid pid && nat_eq r.fd fd) refl)
    where
      stands : (p k : ℕ) → c.rows p k ≡ Some q → installed.rows p k ≡ Some q
      stands p k e = elim (eqb_tells p pid) as (λ _. installed.rows p k ≡ Some q) [
        | inl t ↦ elim (eqb_tells k fd) as (λ _. installed.rows p k ≡ Some q) [
          | inl s ↦ (let none : None ≡ Some q = sym free ∙ (λ i. c.rows (sym t.1 i) (sym s.1 i)) ∙ e in absurd (cc))
          | inr s ↦ (λ i. cond (t.0 i && s.0 i) (Some d) (c.rows p k)) ∙ e
        ]
        | inr t ↦ (λ i. cond (t.0 i && nat_eq k fd) (Some d) (c.rows p k)) ∙ e
      ]

      by : (r : Row installed q) (b : Bool) → (nat_eq r.pid pid && nat_eq r.fd fd) ≡ b → Row c q
      by r true t = (
          let is : Some d ≡ Some q = sym (ap (λ b. cond b (Some d) (c.rows r.pid r.fd)) t) ∙ r.names in
          let same : d ≡ q = cc in
          record { pid = from.pid; fd = from.fd; low = from.low; high = from.high; process = from.process; within = from.within; names = from.names ∙ ap (λ z. Some z) same })
      by r false t = record {
        pid = r.pid;
        fd = r.fd;
        low = r.low;
        high = r.high;
        process = r.process;
        within = r.within;
        names = sym (ap (λ b. cond b (Some d) (c.rows r.pid r.fd)) t) ∙ r.names;
      }

-- a descriptor names what it named
pub install-same : {A : Type 0} (c : Core A numbers) (pid fd d : ℕ) → c.rows pid fd ≡ Some d → install c pid fd d ≡ c
install-same c pid fd d named = λ i. record c { rows = fun_ext (λ q. fun_ext (λ k. at q k)) i }
  where
    at : (q k : ℕ) → cond (nat_eq q pid && nat_eq k fd) (Some d) (c.rows q k) ≡ c.rows q k
    at q k = elim (eqb_tells q pid) as (λ _. cond (nat_eq q pid && nat_eq k fd) (Some d) (c.rows q k) ≡ c.rows q k) [
      | inl t ↦ elim (eqb_tells k fd) as (λ _. cond (nat_eq q pid && nat_eq k fd) (Some d) (c.rows q k) ≡ c.rows q k) [
        | inl s ↦ (λ i. cond (t.0 i && s.0 i) (Some d) (c.rows q k)) ∙ sym ((λ i. c.rows (t.1 i) (s.1 i)) ∙ named)
        | inr s ↦ (λ i. cond (t.0 i && s.0 i) (Some d) (c.rows q k))
      ]
      | inr t ↦ (λ i. cond (t.0 i && nat_eq k fd) (Some d) (c.rows q k))
    ]

-- a description gives its place to one on the same node, of the same mode
module _ {A : Type 0} (c : Core A numbers) (settled : IsSettled c) (d : ℕ) (x y : Description numbers) (described : c.descriptions d ≡ Some x)
    (same_place : y.node ≡ x.node) (same_mode : y.mode ≡ x.mode) where
  abbrev replaced : Core A numbers
  replaced = set_description c d y

  replaced_live : (q : ℕ) → is_live replaced q ≡ is_live c q
  unfolding in_rows in_parked pids
  replaced_live q = refl

  same_end : (test : Mode → Bool) (on : Node numbers) (q : ℕ) → is_end test on (replaced.descriptions q) ≡ is_end test on (c.descriptions q)
  same_end test on q = elim (eqb_tells d q) as (λ _. is_end test on (replaced.descriptions q) ≡ is_end test on (c.descriptions q)) [
    | inl t ↦
        ap (λ b. is_end test on (cond b (Some y) (c.descriptions q))) t.0
        ∙ (λ i. same_node (same_place i) on && test (same_mode i))
        ∙ sym (ap (λ z. is_end test on (c.descriptions z)) (sym t.1) ∙ ap (is_end test on) described)
    | inr t ↦ ap (λ b. is_end test on (cond b (Some y) (c.descriptions q))) t.0
  ]

  replaced_ends : (test : Mode → Bool) (on : Node numbers) → has_end replaced test on ≡ has_end c test on
  unfolding in_rows in_parked pids
  replaced_ends test on = λ i. list_any (fun_ext (same_end test on) i) (in_use c)

  replaced_kept : (on : Node numbers) → is_kept replaced on ≡ is_kept c on
  replaced_kept on = ap (λ b. b || has_name c on) (replaced_ends any_mode on)

  replaced_pipe : (p : ℕ) (z : Pipe) → settled_pipe c replaced p z ≡ settled_pipe c c p z
  replaced_pipe p z =
      settled_pipe-is c replaced p z
      ∙ (λ i. with_ends (replaced_ends any_mode (PipeNode p) i) (replaced_ends reads (PipeNode p) i) (replaced_ends writes (PipeNode p) i) (is_hung (c.pipes p) || has_end c writes (PipeNode p)) z)
      ∙ sym (settled_pipe-is c c p z)

  pub replace-settled : settle c replaced ≡ replaced
  replace-settled = tidy c replaced live
      (λ p z e. (replaced_kept (PipeNode p) ∙ (settled-kept c settled p z e).0, replaced_pipe p z ∙ (settled-kept c settled p z e).1))
      (λ f z e. replaced_kept (FileNode f) ∙ settled-file c settled f z e)
    where
      live : (q : ℕ) (z : Description numbers) → replaced.descriptions q ≡ Some z → is_live replaced q ≡ true
      live q z e = replaced_live q ∙ (elim (eqb_tells d q) as (λ _. is_live c q ≡ true) [
        | inl t ↦ ap (is_live c) (sym t.1) ∙ settled-live c settled d x described
        | inr t ↦ settled-live c settled q z (sym (at_other c.descriptions d q (Some y) t.1) ∙ e)
      ])

-- a pipe is made, its ends at two free descriptors of a process
module _ {A : Type 0} (c : Core A numbers) (settled : IsSettled c) (new : NewKeys numbers) (unused : AreUnused c new) (pid first second : ℕ) (packets : Bool) (of_reader of_writer : OpenFlags)
    (low : 1 ≤ pid) (high : pid < 1 + process_limit c.limits) (process : c.processes pid ≡ true)
    (first_within : first < descriptor_limit c.limits) (second_within : second < descriptor_limit c.limits) (apart : first ≢ second)
    (first_free : c.rows pid first ≡ None) (second_free : c.rows pid second ≡ None) where
  abbrev made : Core A numbers
  made = make_pipe c new pid first second packets of_reader of_writer

  abbrev node : Node numbers
  node = PipeNode new.pipe

  abbrev end_of : Mode → OpenFlags → Description numbers
  end_of m flags = record { node = node; mode = m; flags = flags; offset = 0 }

  -- a row of before stands
  row_stands : (q k : ℕ) (d : ℕ) → c.rows q k ≡ Some d → made.rows q k ≡ Some d
  row_stands q k d e =
      elim (eqb_tells q pid) as (λ _. made.rows q k ≡ Some d) [
        | inl t ↦
            (let there : c.rows pid k ≡ Some d = ap (λ z. c.rows z k) (sym t.1) ∙ e in
            let not_first : k ≢ first = λ s. (let none : None ≡ Some d = sym first_free ∙ ap (c.rows pid) (sym s) ∙ there in absurd (cc)) in
            let not_second : k ≢ second = λ s. (let none : None ≡ Some d = sym second_free ∙ ap (c.rows pid) (sym s) ∙ there in absurd (cc)) in
            (λ i. cond (nat_eq q pid && ne_eqb k second not_second i) (Some new.other_description) (cond (nat_eq q pid && nat_eq k first) (Some new.description) (c.rows q k)))
            ∙ (λ i. cond (no (nat_eq q pid) i) (Some new.other_description) (cond (nat_eq q pid && ne_eqb k first not_first i) (Some new.description) (c.rows q k)))
            ∙ (λ i. cond (no (nat_eq q pid) i) (Some new.description) (c.rows q k)) ∙ e)
        | inr t ↦ (λ i. cond (t.0 i && nat_eq k second) (Some new.other_description) (cond (t.0 i && nat_eq k first) (Some new.description) (c.rows q k))) ∙ e
      ]
    where
      no : (b : Bool) → (b && false) ≡ false
      no true = refl
      no false = refl

  first_row : made.rows pid first ≡ Some new.description
  first_row =
      (λ i. cond (eq-eqb pid pid refl i && ne_eqb first second apart i) (Some new.other_description) (cond (nat_eq pid pid && nat_eq first first) (Some new.description) (c.rows pid first)))
      ∙ (λ i. cond (eq-eqb pid pid refl i && eq-eqb first first refl i) (Some new.description) (c.rows pid first))

  second_row : made.rows pid second ≡ Some new.other_description
  second_row = λ i. cond (eq-eqb pid pid refl i && eq-eqb second second refl i) (Some new.other_description) (cond (nat_eq pid pid && nat_eq second first) (Some new.description) (c.rows pid second))

  -- and there are no other rows
  row_was : (q k : ℕ) (d : ℕ) → d ≢ new.description → d ≢ new.other_description → made.rows q k ≡ Some d → c.rows q k ≡ Some d
  row_was q k d n m e = by (nat_eq q pid && nat_eq k second) (nat_eq q pid && nat_eq k first) e
    where
      by : (b a : Bool) → cond b (Some new.other_description) (cond a (Some new.description) (c.rows q k)) ≡ Some d → c.rows q k ≡ Some d
      by true a e = absurd (m cc)
      by false true e = absurd (n cc)
      by false false e = e

  made_live : (d : ℕ) → d ≢ new.description → d ≢ new.other_description → is_live made d ≡ is_live c d
  made_live d n m = live_same c made refl d
      (λ r. record { pid = r.pid; fd = r.fd; low = r.low; high = r.high; process = r.process; within = r.within; names = row_stands r.pid r.fd d r.names })
      (λ r. record { pid = r.pid; fd = r.fd; low = r.low; high = r.high; process = r.process; within = r.within; names = row_was r.pid r.fd d n m r.names })

  first_live : is_live made new.description ≡ true
  first_live = row_live made new.description (record { pid = pid; fd = first; low = low; high = high; process = process; within = first_within; names = first_row })

  second_live : is_live made new.other_description ≡ true
  second_live = row_live made new.other_description (record { pid = pid; fd = second; low = low; high = high; process = process; within = second_within; names = second_row })

  abbrev first_map : ℕ → Option (Description numbers)
  first_map = set_at nat_eq c.descriptions new.description (Some (end_of mode.Read of_reader))

  second_described : made.descriptions new.other_description ≡ Some (end_of mode.Write of_writer)
  second_described = at_key first_map new.other_description (Some (end_of mode.Write of_writer))

  first_described : made.descriptions new.description ≡ Some (end_of mode.Read of_reader)
  first_described = at_other first_map new.other_description new.description (Some (end_of mode.Write of_writer)) (λ e. unused.apart (sym e)) ∙ at_key c.descriptions new.description (Some (end_of mode.Read of_reader))

  other_described : (d : ℕ) → d ≢ new.description → d ≢ new.other_description → made.descriptions d ≡ c.descriptions d
  other_described d n m = at_other first_map new.other_description d (Some (end_of mode.Write of_writer)) (λ e. m (sym e)) ∙ at_other c.descriptions new.description d (Some (end_of mode.Read of_reader)) (λ e. n (sym e))

  -- one of the new descriptions, or an old one
  data Which (d : ℕ) : Type 0 where
    First : d ≡ new.description → Which d
    Second : d ≡ new.other_description → Which d
    Old : d ≢ new.description → d ≢ new.other_description → Which d

  which : (d : ℕ) → Which d
  which d = elim (eqb_tells d new.description) [
    | inl t ↦ First t.1
    | inr t ↦ elim (eqb_tells d new.other_description) [ inl s ↦ Second s.1 | inr s ↦ Old t.1 s.1 ]
  ]

  -- an old node has the ends that it had
  made_ends : (old : Node numbers) → same_node {K = numbers} node old ≡ false → SameEnds c made old
  made_ends old off = record { forth = λ d l o. forth d (which d) l o; back = λ d l o. back d (which d) l o }
    where
      gone : (d : ℕ) → c.descriptions d ≡ None → is_on old (c.descriptions d) ≡ true → ⊥
      gone d e o = (let f : false ≡ true = sym (ap (is_on old) e) ∙ o in cc)

      elsewhere : (m : Mode) (flags : OpenFlags) (d : ℕ) → made.descriptions d ≡ Some (end_of m flags) → is_on old (made.descriptions d) ≡ true → ⊥
      elsewhere m flags d e o = (let f : false ≡ true = sym ((λ i. off i && true)) ∙ sym (ap (is_on old) e) ∙ o in cc)

      forth : (d : ℕ) → Which d → is_live c d ≡ true → is_on old (c.descriptions d) ≡ true → (is_live made d ≡ true) × (made.descriptions d ≡ c.descriptions d)
      forth d (First e) l o = absurd (gone d (ap c.descriptions e ∙ unused.description.descriptions) o)
      forth d (Second e) l o = absurd (gone d (ap c.descriptions e ∙ unused.other_description.descriptions) o)
      forth d (Old n m) l o = (made_live d n m ∙ l, other_described d n m)

      back : (d : ℕ) → Which d → is_live made d ≡ true → is_on old (made.descriptions d) ≡ true → (is_live c d ≡ true) × (made.descriptions d ≡ c.descriptions d)
      back d (First e) l o = absurd (elsewhere mode.Read of_reader d (ap made.descriptions e ∙ first_described) o)
      back d (Second e) l o = absurd (elsewhere mode.Write of_writer d (ap made.descriptions e ∙ second_described) o)
      back d (Old n m) l o = (sym (made_live d n m) ∙ l, other_described d n m)

  on_new : (test : Mode → Bool) (m : Mode) (flags : OpenFlags) (d : ℕ) → made.descriptions d ≡ Some (end_of m flags) → test m ≡ true → is_end test node (made.descriptions d) ≡ true
  on_new test m flags d e h = ap (is_end test node) e ∙ (λ i. eq-eqb new.pipe new.pipe refl i && h i)

  pub pipe-settled : settle c made ≡ made
  pipe-settled = tidy c made (λ d x e. live d x (which d) e) kept (λ f x e. kept-same c made refl (FileNode f) (made_ends (FileNode f) refl) ∙ settled-file c settled f x e)
    where
      live : (d : ℕ) (x : Description numbers) → Which d → made.descriptions d ≡ Some x → is_live made d ≡ true
      live d x (First e) is = ap (is_live made) e ∙ first_live
      live d x (Second e) is = ap (is_live made) e ∙ second_live
      live d x (Old n m) is = made_live d n m ∙ settled-live c settled d x (sym (other_described d n m) ∙ is)

      has_reader : has_end made reads node ≡ true
      has_reader = end_passes made reads node new.description first_live (on_new reads mode.Read of_reader new.description first_described refl)

      has_writer : has_end made writes node ≡ true
      has_writer = end_passes made writes node new.other_description second_live (on_new writes mode.Write of_writer new.other_description second_described refl)

      has_any : has_end made any_mode node ≡ true
      has_any = end_passes made any_mode node new.description first_live (on_new any_mode mode.Read of_reader new.description first_described refl)

      here : settled_pipe c made new.pipe (pipe_made packets) ≡ pipe_made packets
      here =
          settled_pipe-is c made new.pipe (pipe_made packets)
          ∙ (λ i. with_ends (has_any i) (has_reader i) (has_writer i) (is_hung (c.pipes new.pipe) || has_end c writes node) (pipe_made packets))

      kept : (p : ℕ) (x : Pipe) → made.pipes p ≡ Some x → (is_kept made (PipeNode p) ≡ true) × (settled_pipe c made p x ≡ x)
      kept p x e = elim (eqb_tells new.pipe p) as (λ _. (is_kept made (PipeNode p) ≡ true) × (settled_pipe c made p x ≡ x)) [
        | inl t ↦
            let x_is : pipe_made packets ≡ x = (let s : Some (pipe_made packets) ≡ Some x = ap (λ b. cond b (Some (pipe_made packets)) (c.pipes p)) (sym t.0) ∙ e in cc) in
            (ap (λ k. is_kept made (PipeNode k)) (sym t.1) ∙ or_left (has_end made any_mode node) _ has_any, ap (λ k. settled_pipe c made k x) (sym t.1) ∙ ap (settled_pipe c made new.pipe) (sym x_is) ∙ here ∙ x_is)
        | inr t ↦
            let was : c.pipes p ≡ Some x = sym (at_other c.pipes new.pipe p (Some (pipe_made packets)) t.1) ∙ e in
            let same = made_ends (PipeNode p) t.0 in
            (kept-same c made refl (PipeNode p) same ∙ (settled-kept c settled p x was).0, settled_pipe-same c made refl p x same ∙ (settled-kept c settled p x was).1)
      ]

-- a descriptor is closed, and rows that name something else stay
module _ {A : Type 0} (c : Core A numbers) (pid fd gone : ℕ) (named : c.rows pid fd ≡ Some gone) where
  abbrev closed : Core A numbers
  closed = close_row c pid fd

  pub same_row : (q k d : ℕ) → d ≢ gone → c.rows q k ≡ Some d → closed.rows q k ≡ Some d
  same_row q k d n e = elim (eqb_tells q pid) as (λ _. closed.rows q k ≡ Some d) [
    | inl t ↦ elim (eqb_tells k fd) as (λ _. closed.rows q k ≡ Some d) [
      | inl s ↦ absurd (n (let other : Some d ≡ Some gone = sym e ∙ (λ i. c.rows (t.1 i) (s.1 i)) ∙ named in cc))
      | inr s ↦ (λ i. cond (t.0 i && s.0 i) None (c.rows q k)) ∙ e
    ]
    | inr t ↦ (λ i. cond (t.0 i && nat_eq k fd) None (c.rows q k)) ∙ e
  ]
