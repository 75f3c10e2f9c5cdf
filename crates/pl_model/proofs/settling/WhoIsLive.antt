-- What settling comes to, where it is known who is live.
use Rattle.std.proofs.Common.{◌≡◌, ℕ, ◌+◌, ◌<◌, ◌≤◌, Bool, true, false, List, Option, Some, None, refl, sym, ◌∙◌, ap, nat_eq, nat_lt, arith}
use Rattle.std.proofs.Math.Path.{fun_ext}
use Rattle.std.specs.Prelude.{◌||◌, ◌&&◌, option_map}
use Rattle.std.specs.List.{list_any, flat_map, filter_map}
use Rattle.std.specs.Set.{is_member}
use Rattle.std.proofs.lemmas.List.Folds.{list_any-append}
use Rattle.std.proofs.lemmas.Bool.{eq-eqb, eqb-true}
use Rattle.pl_model.specs.declared.calls.Mode.{Mode}
use Rattle.pl_model.specs.Numbers.{numbers_from}
use Rattle.pl_model.specs.Tables.{descriptor_limit, process_limit}
use Rattle.pl_model.specs.Modes.{any_mode, reads, writes}
use Rattle.pl_model.specs.Map.{kept_if}
use Rattle.pl_model.specs.Keys.{Node, PipeNode, FileNode, same_node}
use Rattle.pl_model.specs.State.{Core, Description, Pipe, Waiting}
use Rattle.pl_model.specs.Live.{in_use, in_rows, in_parked, pids, is_live, is_end, is_open, readers, writers, live_with}
use Rattle.pl_model.specs.Settle.{settle, settled_pipe, with_ends, is_kept, is_hung}
use Rattle.pl_model.specs.Numbered.{numbers}
use Rattle.pl_model.specs.Laws.{IsSettled}
use Rattle.pl_model.proofs.settling.Members.{both_ways, and_left, and_right, or_left, member_found, member_passes, some_count, is_here, member_filter_map, member_flat, any_filter, any_number, number_passes}

-- what is kept of nothing
pub nothing_kept : {X : Type 0} (b : Bool) → ◌≡◌ {A = Option X} (kept_if b None) None
nothing_kept true = refl
nothing_kept false = refl

-- a row of a process names the description
pub record Row {A : Type 0} (c : Core A numbers) (d : ℕ) : Type 0 where
  pub pid : ℕ
  pub fd : ℕ
  pub low : 1 ≤ pid
  pub high : pid < 1 + process_limit c.limits
  pub process : c.processes pid ≡ true
  pub within : fd < descriptor_limit c.limits
  pub names : c.rows pid fd ≡ Some d

module _ {A : Type 0} (c : Core A numbers) (d : ℕ) where
  in_row : ℕ → Bool
  in_row pid = list_any (λ fd. is_here d (c.rows pid fd)) (numbers_from (descriptor_limit c.limits) 0)

  in_rows-is : is_member nat_eq (in_rows c) d ≡ list_any (λ pid. c.processes pid && in_row pid) (numbers_from (process_limit c.limits) 1)
  unfolding in_rows pids in_row
  in_rows-is =
      member_flat d (λ pid. filter_map (c.rows pid) (numbers_from (descriptor_limit c.limits) 0)) (pids c)
      ∙ ap (λ f. list_any f (pids c)) (fun_ext (λ pid. member_filter_map d (c.rows pid) (numbers_from (descriptor_limit c.limits) 0)))
      ∙ any_filter (λ pid. list_any (λ fd. is_here d (c.rows pid fd)) (numbers_from (descriptor_limit c.limits) 0)) c.processes (numbers_from (process_limit c.limits) 1)

  here_is : (o : Option ℕ) → is_here d o ≡ true → o ≡ Some d
  here_is None h = absurd (cc)
  here_is (Some y) h = ap (λ z. Some z) (sym (eqb-true d y h))

  pub row_found : is_member nat_eq (in_rows c) d ≡ true → Row c d
  unfolding in_row
  row_found h =
      let p = any_number (λ pid. c.processes pid && in_row pid) (process_limit c.limits) 1 (sym in_rows-is ∙ h) in
      let f = any_number (λ fd. is_here d (c.rows p.0 fd)) (descriptor_limit c.limits) 0 (and_right (c.processes p.0) _ p.3) in
      record { pid = p.0; fd = f.0; low = p.1; high = p.2; process = and_left (c.processes p.0) _ p.3; within = omega (arith, f.2); names = here_is _ f.3 }

  pub row_member : Row c d → is_member nat_eq (in_rows c) d ≡ true
  unfolding in_row
  row_member r =
      let here : is_here d (c.rows r.pid r.fd) ≡ true = ap (is_here d) r.names ∙ eq-eqb d d refl in
      let there : in_row r.pid ≡ true = number_passes (λ fd. is_here d (c.rows r.pid fd)) (descriptor_limit c.limits) 0 r.fd (omega arith) (omega (arith, r.within)) here in
      in_rows-is ∙ number_passes (λ pid. c.processes pid && in_row pid) (process_limit c.limits) 1 r.pid r.low r.high ((λ i. r.process i && there i))

  pub row_live : Row c d → is_live c d ≡ true
  row_live r = list_any-append (nat_eq d) (in_rows c) (in_parked c) ∙ or_left (is_member nat_eq (in_rows c) d) _ (row_member r)

module _ {A : Type 0} (c u : Core A numbers) (same_parked : u.parked ≡ c.parked) where
  -- the same rows name the description, and the same calls keep it
  pub live_same : (d : ℕ) → (Row c d → Row u d) → (Row u d → Row c d) → is_live u d ≡ is_live c d
  unfolding in_parked
  live_same d forth back =
      list_any-append (nat_eq d) (in_rows u) (in_parked u)
      ∙ ap (λ ps. is_member nat_eq (in_rows u) d || is_member nat_eq (flat_map (λ (w : ℕ × Waiting A numbers). w.1.kept) ps) d) same_parked
      ∙ ap (λ b. b || is_member nat_eq (in_parked c) d)
      (both_ways (is_member nat_eq (in_rows u) d) (is_member nat_eq (in_rows c) d) (λ h. row_member c d (back (row_found u d h))) (λ h. row_member u d (forth (row_found c d h))))
      ∙ sym (list_any-append (nat_eq d) (in_rows c) (in_parked c))

-- the description is on the node
abbrev pub is_on : Node numbers → Option (Description numbers) → Bool
is_on node o = is_end any_mode node o

pub on_end : (test : Mode → Bool) (node : Node numbers) (o : Option (Description numbers)) → is_end test node o ≡ true → is_on node o ≡ true
on_end test node None h = h
on_end test node (Some x) h = (λ i. and_left (same_node x.node node) (test x.mode) h i && true)

module _ {A : Type 0} (c : Core A numbers) (test : Mode → Bool) (node : Node numbers) where
  -- a live description on the node has a mode that passes the test
  abbrev pub has_end : Bool
  has_end = list_any (λ d. is_end test node (c.descriptions d)) (in_use c)

  pub live_with-is : nat_lt 0 (live_with test c node) ≡ has_end
  live_with-is = some_count (λ d. is_end test node (c.descriptions d)) (in_use c)

  pub end_found : has_end ≡ true → (d : ℕ) × (is_live c d ≡ true) × (is_end test node (c.descriptions d) ≡ true)
  end_found h = member_found (λ d. is_end test node (c.descriptions d)) (in_use c) h

  pub end_passes : (d : ℕ) → is_live c d ≡ true → is_end test node (c.descriptions d) ≡ true → has_end ≡ true
  end_passes d l h = member_passes (λ d. is_end test node (c.descriptions d)) (in_use c) d l h

pub readers-is : {A : Type 0} (c : Core A numbers) (p : ℕ) → nat_lt 0 (readers c p) ≡ has_end c reads (PipeNode p)
unfolding readers
readers-is c p = live_with-is c reads (PipeNode p)

pub writers-is : {A : Type 0} (c : Core A numbers) (p : ℕ) → nat_lt 0 (writers c p) ≡ has_end c writes (PipeNode p)
unfolding writers
writers-is c p = live_with-is c writes (PipeNode p)

-- The live descriptions on the node are the same in both.
pub record SameEnds {A : Type 0} (c u : Core A numbers) (node : Node numbers) : Type 0 where
  pub forth : (d : ℕ) → is_live c d ≡ true → is_on node (c.descriptions d) ≡ true → (is_live u d ≡ true) × (u.descriptions d ≡ c.descriptions d)
  pub back : (d : ℕ) → is_live u d ≡ true → is_on node (u.descriptions d) ≡ true → (is_live c d ≡ true) × (u.descriptions d ≡ c.descriptions d)

module _ {A : Type 0} (c u : Core A numbers) (node : Node numbers) (same : SameEnds c u node) where
  pub has_end-same : (test : Mode → Bool) → has_end u test node ≡ has_end c test node
  has_end-same test =
      both_ways (has_end u test node) (has_end c test node)
      (λ h.
      let e = end_found u test node h in
      let s = same.back e.0 e.1 (on_end test node _ e.2) in
      end_passes c test node e.0 s.0 (ap (is_end test node) (sym s.1) ∙ e.2))
      (λ h.
      let e = end_found c test node h in
      let s = same.forth e.0 e.1 (on_end test node _ e.2) in
      end_passes u test node e.0 s.0 (ap (is_end test node) s.1 ∙ e.2))

module _ {A : Type 0} (before u : Core A numbers) (p : ℕ) where
  pub settled_pipe-is : (x : Pipe) → settled_pipe before u p x ≡ with_ends (has_end u any_mode (PipeNode p)) (has_end u reads (PipeNode p)) (has_end u writes (PipeNode p)) (is_hung (before.pipes p) || has_end before writes (PipeNode p)) x
  settled_pipe-is x = λ i. with_ends (is_open u (PipeNode p)) (readers-is u p i) (writers-is u p i) (is_hung (before.pipes p) || writers-is before p i) x

module _ {A : Type 0} (before u : Core A numbers) where
  -- settling gives these, where it does so at each key
  pub settles_to : (ds : ℕ → Option (Description numbers)) (ps : ℕ → Option Pipe) (fs : ℕ → Option (List ℕ)) →
      ((d : ℕ) → kept_if (is_live u d) (u.descriptions d) ≡ ds d) →
      ((p : ℕ) → option_map (settled_pipe before u p) (kept_if (is_kept u (PipeNode p)) (u.pipes p)) ≡ ps p) →
      ((f : ℕ) → kept_if (is_kept u (FileNode f)) (u.files f) ≡ fs f) →
      settle before u ≡ record u { descriptions = ds; pipes = ps; files = fs }
  unfolding settle
  settles_to ds ps fs at_d at_p at_f = λ i. record u { descriptions = fun_ext at_d i; pipes = fun_ext at_p i; files = fun_ext at_f i }

  -- nothing has to be tidied
  pub tidy :
      ((d : ℕ) (x : Description numbers) → u.descriptions d ≡ Some x → is_live u d ≡ true) →
      ((p : ℕ) (x : Pipe) → u.pipes p ≡ Some x → (is_kept u (PipeNode p) ≡ true) × (settled_pipe before u p x ≡ x)) →
      ((f : ℕ) (x : List ℕ) → u.files f ≡ Some x → is_kept u (FileNode f) ≡ true) →
      settle before u ≡ u
  tidy live kept files = settles_to u.descriptions u.pipes u.files (λ d. at_d d (u.descriptions d) refl) (λ p. at_p p (u.pipes p) refl) (λ f. at_f f (u.files f) refl)
    where
      at_d : (d : ℕ) (o : Option (Description numbers)) → u.descriptions d ≡ o → kept_if (is_live u d) o ≡ o
      at_d d None e = nothing_kept (is_live u d)
      at_d d (Some x) e = ap (λ b. kept_if b (Some x)) (live d x e)

      at_p : (p : ℕ) (o : Option Pipe) → u.pipes p ≡ o → option_map (settled_pipe before u p) (kept_if (is_kept u (PipeNode p)) o) ≡ o
      at_p p None e = ap (option_map (settled_pipe before u p)) (nothing_kept (is_kept u (PipeNode p)))
      at_p p (Some x) e = ap (λ b. option_map (settled_pipe before u p) (kept_if b (Some x))) (kept p x e).0 ∙ ap (λ y. Some y) (kept p x e).1

      at_f : (f : ℕ) (o : Option (List ℕ)) → u.files f ≡ o → kept_if (is_kept u (FileNode f)) o ≡ o
      at_f f None e = nothing_kept (is_kept u (FileNode f))
      at_f f (Some x) e = ap (λ b. kept_if b (Some x)) (files f x e)

-- what a settled state is known to have
module _ {A : Type 0} (c : Core A numbers) (settled : IsSettled c) where
  passed : {V : Type 0} (b : Bool) (x : V) → kept_if b (Some x) ≡ Some x → b ≡ true
  passed true x e = refl
  passed false x e = absurd (cc)

  pub settled-live : (d : ℕ) (x : Description numbers) → c.descriptions d ≡ Some x → is_live c d ≡ true
  unfolding settle
  settled-live d x e = passed (is_live c d) x (ap (kept_if (is_live c d)) (sym e) ∙ ap (λ z. z.descriptions d) settled ∙ e)

  kept_same : (p : ℕ) (b : Bool) (x : Pipe) → option_map (settled_pipe c c p) (kept_if b (Some x)) ≡ Some x → (b ≡ true) × (settled_pipe c c p x ≡ x)
  kept_same p true x e = (refl, cc)
  kept_same p false x e = absurd (cc)

  pub settled-kept : (p : ℕ) (x : Pipe) → c.pipes p ≡ Some x → (is_kept c (PipeNode p) ≡ true) × (settled_pipe c c p x ≡ x)
  unfolding settle
  settled-kept p x e = kept_same p (is_kept c (PipeNode p)) x (ap (λ o. option_map (settled_pipe c c p) (kept_if (is_kept c (PipeNode p)) o)) (sym e) ∙ ap (λ z. z.pipes p) settled ∙ e)

  pub settled-file : (f : ℕ) (x : List ℕ) → c.files f ≡ Some x → is_kept c (FileNode f) ≡ true
  unfolding settle
  settled-file f x e = passed (is_kept c (FileNode f)) x (ap (kept_if (is_kept c (FileNode f))) (sym e) ∙ ap (λ z. z.files f) settled ∙ e)

-- a node that the same ends are on, and the same names stand for, is kept as before
module _ {A : Type 0} (c u : Core A numbers) (same_names : u.names ≡ c.names) where
  pub kept-same : (node : Node numbers) → SameEnds c u node → is_kept u node ≡ is_kept c node
  kept-same node same = λ i. has_end-same c u node same any_mode i || list_any (λ e. same_node e.1 node) (same_names i)

  -- and a pipe settles as before
  pub settled_pipe-same : (p : ℕ) (x : Pipe) → SameEnds c u (PipeNode p) → settled_pipe c u p x ≡ settled_pipe c c p x
  settled_pipe-same p x same =
      settled_pipe-is c u p x
      ∙ (λ i. with_ends (has_end-same c u (PipeNode p) same any_mode i) (has_end-same c u (PipeNode p) same reads i) (has_end-same c u (PipeNode p) same writes i) (is_hung (c.pipes p) || has_end c writes (PipeNode p)) x)
      ∙ sym (settled_pipe-is c c p x)
