-- What the end of a step makes of what calls do to files and their names.
use Rattle.std.proofs.Common.{◌≡◌, ◌≢◌, ℕ, ◌+◌, ◌<◌, ◌≤◌, Bool, true, false, not, cond, List, [], ◌∷◌, Option, Some, None, refl, sym, ◌∙◌, ap, inl, inr, nat_eq, suc, arith}
use Rattle.std.specs.Prelude.{◌||◌, All, option_map}
use Rattle.std.specs.declared.cmp.Ordering.{Ordering}
use Rattle.std.specs.declared.cmp.Ordering.TheVariants.{Less, Equal, Greater}
use Rattle.std.specs.List.{list_any}
use Rattle.std.specs.Ordering.{nat_cmp, match_ordering}
use Rattle.std.specs.Cmp.Lexicographic.{slice_cmp, pointwise}
use Rattle.std.proofs.lemmas.Bool.{true≢false, eq-eqb}
use Rattle.std.proofs.lemmas.Bool.Decides.{eqb_tells}
use Rattle.pl_model.specs.declared.calls.Mode.{Mode}
use Rattle.pl_model.specs.declared.flags.OpenFlags.{OpenFlags}
use Rattle.pl_model.specs.Tables.{descriptor_limit, process_limit}
use Rattle.pl_model.specs.Modes.{any_mode}
use Rattle.pl_model.specs.Map.{Map, get, kept_if, put_in_order, set_at, without}
use Rattle.pl_model.specs.Keys.{Node, PipeNode, FileNode, same_node}
use Rattle.pl_model.specs.State.{Core, Description, Pipe, named, set_file, set_description}
use Rattle.pl_model.specs.Live.{in_rows, in_parked, pids, readers, writers, has_name}
use Rattle.pl_model.specs.Settle.{settle, settled_pipe, is_kept}
use Rattle.pl_model.specs.Tables.{install, describe, create_file, forget_name}
use Rattle.pl_model.specs.Numbered.{numbers}
use Rattle.pl_model.specs.StandsFor.{IsUnusedDescription}
use Rattle.pl_model.specs.Laws.{IsSettled}
use Rattle.pl_model.proofs.settling.Members.{or_left, or_right}
use Rattle.pl_model.proofs.settling.Names.{apart, missed}
use Rattle.pl_model.proofs.settling.Changes.{replace-settled}
use Rattle.pl_model.proofs.settling.FromSettled.{at_other}
use Rattle.pl_model.proofs.settling.Opening.{same_refl, row-old, row-new, opened-settled}
use Rattle.pl_model.proofs.settling.WhoIsLive.{has_end, settles_to}

-- the bytes of a file change in what was tidy
module _ {A : Type 0} (before u : Core A numbers) (settled : settle before u ≡ u) (f : ℕ) (x : List ℕ) (there : u.files f ≡ Some x) (bytes : List ℕ) where
  abbrev written : Core A numbers
  written = set_file u f bytes

  passed : (b : Bool) → kept_if b (Some x) ≡ Some x → b ≡ true
  passed true e = refl
  passed false e = absurd (cc)

  still_kept : is_kept u (FileNode f) ≡ true
  unfolding settle
  still_kept = passed (is_kept u (FileNode f)) (ap (kept_if (is_kept u (FileNode f))) (sym there) ∙ ap (λ z. z.files f) settled ∙ there)

  pub written-settled : settle before written ≡ written
  unfolding settle readers writers in_rows in_parked pids
  written-settled = settles_to before written u.descriptions u.pipes written.files (λ d. ap (λ z. z.descriptions d) settled) (λ p. ap (λ z. z.pipes p) settled) at_file
    where
      at_file : (g : ℕ) → kept_if (is_kept u (FileNode g)) (written.files g) ≡ written.files g
      at_file g = elim (eqb_tells f g) as (λ _. kept_if (is_kept u (FileNode g)) (written.files g) ≡ written.files g) [
        | inl t ↦
            let here : written.files g ≡ Some bytes = ap (λ b. cond b (Some bytes) (u.files g)) t.0 in
            ap (kept_if (is_kept u (FileNode g))) here ∙ ap (λ b. kept_if b (Some bytes)) (ap (λ k. is_kept u (FileNode k)) (sym t.1) ∙ still_kept) ∙ sym here
        | inr t ↦
            let here : written.files g ≡ u.files g = at_other u.files f g (Some bytes) t.1 in
            ap (kept_if (is_kept u (FileNode g))) here ∙ ap (λ z. z.files g) settled ∙ sym here
      ]

-- the same by a description of the file, whose offset changes
pub write-settled : {A : Type 0} (c : Core A numbers) → IsSettled c → (d : ℕ) (x y : Description numbers) → c.descriptions d ≡ Some x → y.node ≡ x.node → y.mode ≡ x.mode
    → (f : ℕ) (held : List ℕ) → c.files f ≡ Some held → (bytes : List ℕ) → settle c (set_description (set_file c f bytes) d y) ≡ set_description (set_file c f bytes) d y
write-settled c settled d x y described same_place same_mode f held there bytes =
    written-settled c (set_description c d y) (replace-settled c settled d x y described same_place same_mode) f held there bytes

-- A file is opened, at a free descriptor of a process, where other files and names are as they were.
module _ {A : Type 0} (c : Core A numbers) (settled : IsSettled c) (files : ℕ → Option (List ℕ)) (names : Map (List ℕ) (Node numbers)) (f : ℕ)
    (other_names : (node : Node numbers) → same_node {K = numbers} (FileNode f) node ≡ false → list_any (λ e. same_node {K = numbers} e.1 node) names ≡ has_name c node)
    (other_files : (g : ℕ) → f ≢ g → files g ≡ c.files g)
    (d : ℕ) (unused : IsUnusedDescription c d) (pid fd : ℕ) (low : 1 ≤ pid) (high : pid < 1 + process_limit c.limits) (process : c.processes pid ≡ true) (within : fd < descriptor_limit c.limits)
    (free : c.rows pid fd ≡ None) (mode : Mode) (flags : OpenFlags) where
  abbrev file_opened : Core A numbers
  file_opened = install (describe (record c { files = files; names = names }) d (FileNode f) mode flags) pid fd d

  pub open-settled : settle c file_opened ≡ file_opened
  open-settled = opened-settled c settled files names (FileNode f) other_names (λ g off. other_files g (λ e. absurd (true≢false (sym (eq-eqb f g e) ∙ off))))
      d unused mode flags file_opened.rows c.parked c.next_call
      (row-old c pid fd d free low high process within file_opened.descriptions c.pipes files names)
      (row-new c pid fd d free low high process within file_opened.descriptions c.pipes files names)
      c.pipes (λ p on. absurd (cc)) (λ p off. refl)

-- ---- names

-- a name that stands for nothing comes to stand for a node: what the other names stand for is as it was
module _ (name : List ℕ) (node : Node numbers) (t : Node numbers → Bool) (off : t node ≡ false) where
  put_by : (o : Ordering) (e : List ℕ × Node numbers) (es put : Map (List ℕ) (Node numbers)) → o ≢ Equal → list_any (λ e. t e.1) put ≡ list_any (λ e. t e.1) es
      → list_any (λ e. t e.1) (match_ordering o ((name, node) ∷ e ∷ es) ((e.0, node) ∷ es) (e ∷ put)) ≡ list_any (λ e. t e.1) (e ∷ es)
  put_by Less e es put n rest = λ i. off i || (t e.1 || list_any (λ e. t e.1) es)
  put_by Equal e es put n rest = absurd (n refl)
  put_by Greater e es put n rest = ap (λ b. t e.1 || b) rest

  pub put-others : (es : Map (List ℕ) (Node numbers)) → get (pointwise nat_eq) es name ≡ None → list_any (λ e. t e.1) (put_in_order (slice_cmp nat_cmp) es name node) ≡ list_any (λ e. t e.1) es
  put-others [] none = λ i. off i || false
  put-others (e ∷ es) none =
      let past = missed (pointwise nat_eq e.0 name) e.1 (get (pointwise nat_eq) es name) none in
      put_by (slice_cmp nat_cmp name e.0) e es (put_in_order (slice_cmp nat_cmp) es name node) (apart name e.0 past.0) (put-others es past.1)

-- and the node is what a name stands for
pub put-here : (name : List ℕ) (node : Node numbers) (es : Map (List ℕ) (Node numbers)) → list_any (λ e. same_node {K = numbers} e.1 node) (put_in_order (slice_cmp nat_cmp) es name node) ≡ true
put-here name node [] = or_left (same_node {K = numbers} node node) _ (same_refl node)
put-here name node (e ∷ es) = by (slice_cmp nat_cmp name e.0) (put_in_order (slice_cmp nat_cmp) es name node) (put-here name node es)
  where
    by : (o : Ordering) (put : Map (List ℕ) (Node numbers)) → list_any (λ e. same_node {K = numbers} e.1 node) put ≡ true
        → list_any (λ e. same_node {K = numbers} e.1 node) (match_ordering o ((name, node) ∷ e ∷ es) ((e.0, node) ∷ es) (e ∷ put)) ≡ true
    by Less put rest = or_left (same_node {K = numbers} node node) _ (same_refl node)
    by Equal put rest = or_left (same_node {K = numbers} node node) _ (same_refl node)
    by Greater put rest = or_right (same_node {K = numbers} e.1 node) _ rest

module _ {A : Type 0} (c : Core A numbers) (settled : IsSettled c) (f d pid fd : ℕ) (unused : IsUnusedDescription c d) (low : 1 ≤ pid) (high : pid < 1 + process_limit c.limits)
    (process : c.processes pid ≡ true) (within : fd < descriptor_limit c.limits) (free : c.rows pid fd ≡ None) (mode : Mode) (flags : OpenFlags) where
  -- a file that is there is opened
  pub reopen-settled : settle c (install (describe c d (FileNode f) mode flags) pid fd d) ≡ install (describe c d (FileNode f) mode flags) pid fd d
  reopen-settled = open-settled c settled c.files c.names f (λ node off. refl) (λ g n. refl) d unused pid fd low high process within free mode flags

  -- and loses its bytes
  pub truncate-settled : (x : List ℕ) → c.files f ≡ Some x →
      settle c (install (describe (set_file c f []) d (FileNode f) mode flags) pid fd d) ≡ install (describe (set_file c f []) d (FileNode f) mode flags) pid fd d
  truncate-settled x there = written-settled c (install (describe c d (FileNode f) mode flags) pid fd d) reopen-settled f x there []

  -- a file is made, and opened
  pub create-settled : (name : List ℕ) → named c name ≡ None →
      settle c (install (describe (create_file c name f) d (FileNode f) mode flags) pid fd d) ≡ install (describe (create_file c name f) d (FileNode f) mode flags) pid fd d
  create-settled name none =
      open-settled c settled (create_file c name f).files (create_file c name f).names f
      (λ node off. put-others name (FileNode f) (λ n. same_node {K = numbers} n node) off c.names none)
      (λ g n. at_other c.files f g (Some []) n)
      d unused pid fd low high process within free mode flags

-- a name is taken away: what the other names stand for is as it was
module _ (name : List ℕ) (node : Node numbers) (t : Node numbers → Bool) (off : t node ≡ false) where
  pub without-others : (es : Map (List ℕ) (Node numbers)) → All (λ e. pointwise nat_eq name e.0 ≡ true → e.1 ≡ node) es
      → list_any (λ e. t e.1) (without (pointwise nat_eq) es name) ≡ list_any (λ e. t e.1) es
  without-others [] only = refl
  without-others (e ∷ es) only = at (pointwise nat_eq name e.0) refl (without-others es (λ k x l. only (suc k) x (omega arith)))
    where
      at : (b : Bool) → pointwise nat_eq name e.0 ≡ b → list_any (λ e. t e.1) (without (pointwise nat_eq) es name) ≡ list_any (λ e. t e.1) es
          → list_any (λ e. t e.1) (cond (not b) (e ∷ without (pointwise nat_eq) es name) (without (pointwise nat_eq) es name)) ≡ list_any (λ e. t e.1) (e ∷ es)
      at false same rest = ap (λ b. t e.1 || b) rest
      at true same rest = rest ∙ (λ i. sym (ap t (only 0 e (omega arith) same) ∙ off) i || list_any (λ e. t e.1) es)

-- A name stood for the node, and stands for nothing now: only that node is looked at.
module _ {A : Type 0} (c : Core A numbers) (settled : IsSettled c) (name : List ℕ) (node : Node numbers)
    (only : All (λ e. pointwise nat_eq name e.0 ≡ true → e.1 ≡ node) c.names) where
  abbrev forgotten : Core A numbers
  forgotten = forget_name c name

  abbrev pub pipes_unnamed : Node numbers → ℕ → Option Pipe
  pipes_unnamed (PipeNode p) = set_at nat_eq c.pipes p (option_map (settled_pipe c forgotten p) (kept_if (is_kept forgotten (PipeNode p)) (c.pipes p)))
  pipes_unnamed (FileNode f) = c.pipes

  abbrev pub files_unnamed : Node numbers → ℕ → Option (List ℕ)
  files_unnamed (PipeNode p) = c.files
  files_unnamed (FileNode f) = set_at nat_eq c.files f (kept_if (is_kept forgotten (FileNode f)) (c.files f))

  other_kept : (other : Node numbers) → same_node {K = numbers} node other ≡ false → is_kept forgotten other ≡ is_kept c other
  unfolding in_rows in_parked pids
  other_kept other off = ap (λ b. has_end c any_mode other || b) (without-others name node (λ n. same_node {K = numbers} n other) off c.names only)

  abbrev at_pipe : ℕ → Option Pipe
  at_pipe p = option_map (settled_pipe c forgotten p) (kept_if (is_kept forgotten (PipeNode p)) (c.pipes p))

  abbrev at_file : ℕ → Option (List ℕ)
  at_file f = kept_if (is_kept forgotten (FileNode f)) (c.files f)

  other_pipe : (p : ℕ) → same_node {K = numbers} node (PipeNode p) ≡ false → at_pipe p ≡ c.pipes p
  unfolding settle readers writers in_rows in_parked pids
  other_pipe p off = ap (λ b. option_map (settled_pipe c c p) (kept_if b (c.pipes p))) (other_kept (PipeNode p) off) ∙ ap (λ z. z.pipes p) settled

  other_file : (f : ℕ) → same_node {K = numbers} node (FileNode f) ≡ false → at_file f ≡ c.files f
  unfolding settle
  other_file f off = ap (λ b. kept_if b (c.files f)) (other_kept (FileNode f) off) ∙ ap (λ z. z.files f) settled

  pipes_at : (n : Node numbers) → node ≡ n → (p : ℕ) → at_pipe p ≡ pipes_unnamed n p
  pipes_at (FileNode f) is p = other_pipe p (ap (λ n. same_node {K = numbers} n (PipeNode p)) is)
  pipes_at (PipeNode q) is p = elim (eqb_tells q p) as (λ _. at_pipe p ≡ pipes_unnamed (PipeNode q) p) [
    | inl t ↦ ap at_pipe (sym t.1) ∙ sym (ap (λ b. cond b (at_pipe q) (c.pipes p)) t.0)
    | inr t ↦ other_pipe p (ap (λ n. same_node {K = numbers} n (PipeNode p)) is ∙ t.0) ∙ sym (at_other c.pipes q p (at_pipe q) t.1)
  ]

  files_at : (n : Node numbers) → node ≡ n → (f : ℕ) → at_file f ≡ files_unnamed n f
  files_at (PipeNode p) is f = other_file f (ap (λ n. same_node {K = numbers} n (FileNode f)) is)
  files_at (FileNode g) is f = elim (eqb_tells g f) as (λ _. at_file f ≡ files_unnamed (FileNode g) f) [
    | inl t ↦ ap at_file (sym t.1) ∙ sym (ap (λ b. cond b (at_file g) (c.files f)) t.0)
    | inr t ↦ other_file f (ap (λ n. same_node {K = numbers} n (FileNode f)) is ∙ t.0) ∙ sym (at_other c.files g f (at_file g) t.1)
  ]

  pub unlink-settled : settle c forgotten ≡ record forgotten { pipes = pipes_unnamed node; files = files_unnamed node }
  unfolding settle in_rows in_parked pids
  unlink-settled = settles_to c forgotten c.descriptions (pipes_unnamed node) (files_unnamed node) (λ d. ap (λ z. z.descriptions d) settled) (pipes_at node refl) (files_at node refl)
