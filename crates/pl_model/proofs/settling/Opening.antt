-- What the end of a step makes of a description that comes to be on a node.
use Rattle.std.proofs.Common.{◌≡◌, ◌≢◌, ℕ, ◌+◌, ◌<◌, ◌≤◌, Bool, true, false, cond, List, Option, Some, None, refl, sym, ◌∙◌, ap, inl, inr, nat_eq}
use Rattle.std.specs.Prelude.{◌||◌, ◌&&◌, option_map}
use Rattle.std.specs.List.{list_any}
use Rattle.std.proofs.lemmas.Bool.{eq-eqb, eqb-true}
use Rattle.std.proofs.lemmas.Bool.Decides.{eqb_tells}
use Rattle.pl_model.specs.declared.calls.Mode.{Mode}
use Rattle.pl_model.specs.declared.flags.OpenFlags.{OpenFlags}
use Rattle.pl_model.specs.Tables.{descriptor_limit, process_limit}
use Rattle.pl_model.specs.Modes.{any_mode, reads, writes}
use Rattle.pl_model.specs.Map.{Map, kept_if}
use Rattle.pl_model.specs.Keys.{Node, PipeNode, FileNode, same_node}
use Rattle.pl_model.specs.State.{Core, Description, Pipe, Waiting}
use Rattle.pl_model.specs.Live.{is_live, is_end, has_name}
use Rattle.pl_model.specs.Settle.{settle, settled_pipe, is_kept, is_hung, with_ends}
use Rattle.pl_model.specs.Tables.{install, describe}
use Rattle.pl_model.specs.Numbered.{numbers}
use Rattle.pl_model.specs.StandsFor.{IsUnusedDescription}
use Rattle.pl_model.specs.Laws.{IsSettled}
use Rattle.pl_model.proofs.settling.Members.{both_ways, and_right, or_left, or_right, or_elim}
use Rattle.pl_model.proofs.settling.FromSettled.{at_other, at_key}
use Rattle.pl_model.proofs.settling.WhoIsLive.{nothing_kept, row_live, live_same, is_on, has_end, end_found, end_passes, SameEnds, has_end-same, settled_pipe-is, settles_to, settled-live, settled-kept, settled-file}

-- nodes by numbers that are one are the same
pub same_is : (n m : Node numbers) → same_node {K = numbers} n m ≡ true → n ≡ m
same_is (PipeNode p) (PipeNode q) h = ap (λ k. PipeNode k) (eqb-true p q h)
same_is (FileNode f) (FileNode g) h = ap (λ k. FileNode k) (eqb-true f g h)
same_is (PipeNode p) (FileNode g) h = absurd (cc)
same_is (FileNode f) (PipeNode q) h = absurd (cc)

pub same_refl : (n : Node numbers) → same_node {K = numbers} n n ≡ true
same_refl (PipeNode p) = eq-eqb p p refl
same_refl (FileNode f) = eq-eqb f f refl

-- A free descriptor comes to name the description: the rows are those of before, and one more.
module _ {A : Type 0} (c : Core A numbers) (pid fd d : ℕ) (free : c.rows pid fd ≡ None) where
  abbrev installed : Core A numbers
  installed = install c pid fd d

  -- a row of before stands
  pub row_stands : (q k z : ℕ) → c.rows q k ≡ Some z → installed.rows q k ≡ Some z
  row_stands q k z e = elim (eqb_tells q pid) as (λ _. installed.rows q k ≡ Some z) [
    | inl t ↦ elim (eqb_tells k fd) as (λ _. installed.rows q k ≡ Some z) [
      | inl s ↦ (let none : None ≡ Some z = sym free ∙ (λ i. c.rows (sym t.1 i) (sym s.1 i)) ∙ e in absurd (cc))
      | inr s ↦ (λ i. cond (t.0 i && s.0 i) (Some d) (c.rows q k)) ∙ e
    ]
    | inr t ↦ (λ i. cond (t.0 i && nat_eq k fd) (Some d) (c.rows q k)) ∙ e
  ]

  -- and there is one row more
  pub row_was : (q k z : ℕ) → z ≢ d → installed.rows q k ≡ Some z → c.rows q k ≡ Some z
  row_was q k z n e = by (nat_eq q pid && nat_eq k fd) e
    where
      by : (b : Bool) → cond b (Some d) (c.rows q k) ≡ Some z → c.rows q k ≡ Some z
      by true e = absurd (n cc)
      by false e = e

  pub row_here : installed.rows pid fd ≡ Some d
  row_here = λ i. cond (eq-eqb pid pid refl i && eq-eqb fd fd refl i) (Some d) (c.rows pid fd)

  -- so the other descriptions are live that were, and this one is, whatever stands under the keys
  module _ (low : 1 ≤ pid) (high : pid < 1 + process_limit c.limits) (process : c.processes pid ≡ true) (within : fd < descriptor_limit c.limits)
      (descriptions : ℕ → Option (Description numbers)) (pipes : ℕ → Option Pipe) (files : ℕ → Option (List ℕ)) (names : Map (List ℕ) (Node numbers)) where
    abbrev over : Core A numbers
    over = record installed { descriptions = descriptions; pipes = pipes; files = files; names = names }

    pub row-old : (z : ℕ) → z ≢ d → is_live over z ≡ is_live c z
    row-old z n = live_same c over refl z
        (λ r. record { pid = r.pid; fd = r.fd; low = r.low; high = r.high; process = r.process; within = r.within; names = row_stands r.pid r.fd z r.names })
        (λ r. record { pid = r.pid; fd = r.fd; low = r.low; high = r.high; process = r.process; within = r.within; names = row_was r.pid r.fd z n r.names })

    pub row-new : is_live over d ≡ true
    row-new = row_live over d (record { pid = pid; fd = fd; low = low; high = high; process = process; within = within; names = row_here })

-- A description is opened on a node, where other nodes' files and names are as they were: a row or a parked call comes to name it,
-- and what they name else they named.
module _ {A : Type 0} (c : Core A numbers) (settled : IsSettled c) (files : ℕ → Option (List ℕ)) (names : Map (List ℕ) (Node numbers)) (node : Node numbers)
    (other_names : (other : Node numbers) → same_node {K = numbers} node other ≡ false → list_any (λ e. same_node {K = numbers} e.1 other) names ≡ has_name c other)
    (other_files : (g : ℕ) → same_node {K = numbers} node (FileNode g) ≡ false → files g ≡ c.files g)
    (d : ℕ) (unused : IsUnusedDescription c d) (mode : Mode) (flags : OpenFlags) (rows : ℕ → ℕ → Option ℕ) (calls : Map ℕ (Waiting A numbers)) (next : ℕ) where
  abbrev opened : Core A numbers
  opened = record (describe (record c { files = files; names = names }) d node mode flags) { rows = rows; parked = calls; next_call = next }

  module _ (old_live : (z : ℕ) → z ≢ d → is_live opened z ≡ is_live c z) (new_live : is_live opened d ≡ true) where
    abbrev end : Description numbers
    end = record { node = node; mode = mode; flags = flags; offset = 0 }

    new_described : opened.descriptions d ≡ Some end
    new_described = at_key c.descriptions d (Some end)

    old_described : (z : ℕ) → z ≢ d → opened.descriptions z ≡ c.descriptions z
    old_described z n = at_other c.descriptions d z (Some end) (λ e. n (sym e))

    -- another node has the ends that it had
    old_ends : (other : Node numbers) → same_node {K = numbers} node other ≡ false → SameEnds c opened other
    old_ends other off = record { forth = forth; back = back }
      where
        forth : (z : ℕ) → is_live c z ≡ true → is_on other (c.descriptions z) ≡ true → (is_live opened z ≡ true) × (opened.descriptions z ≡ c.descriptions z)
        forth z l o = elim (eqb_tells z d) as (λ _. (is_live opened z ≡ true) × (opened.descriptions z ≡ c.descriptions z)) [
          | inl t ↦ (let f : false ≡ true = sym (ap (is_on other) (ap c.descriptions t.1 ∙ unused.descriptions)) ∙ o in absurd (cc))
          | inr t ↦ (old_live z t.1 ∙ l, old_described z t.1)
        ]

        back : (z : ℕ) → is_live opened z ≡ true → is_on other (opened.descriptions z) ≡ true → (is_live c z ≡ true) × (opened.descriptions z ≡ c.descriptions z)
        back z l o = elim (eqb_tells z d) as (λ _. (is_live c z ≡ true) × (opened.descriptions z ≡ c.descriptions z)) [
          | inl t ↦ (let f : false ≡ true = sym ((λ i. off i && true)) ∙ sym (ap (is_on other) (ap opened.descriptions t.1 ∙ new_described)) ∙ o in absurd (cc))
          | inr t ↦ (sym (old_live z t.1) ∙ l, old_described z t.1)
        ]

    old_kept : (other : Node numbers) → same_node {K = numbers} node other ≡ false → is_kept opened other ≡ is_kept c other
    old_kept other off = λ i. has_end-same c opened other (old_ends other off) any_mode i || other_names other off i

    old_pipe : (p : ℕ) (x : Pipe) → same_node {K = numbers} node (PipeNode p) ≡ false → settled_pipe c opened p x ≡ settled_pipe c c p x
    old_pipe p x off =
        let same = old_ends (PipeNode p) off in
        settled_pipe-is c opened p x
        ∙ (λ i. with_ends (has_end-same c opened (PipeNode p) same any_mode i) (has_end-same c opened (PipeNode p) same reads i) (has_end-same c opened (PipeNode p) same writes i) (is_hung (c.pipes p) || has_end c writes (PipeNode p)) x)
        ∙ sym (settled_pipe-is c c p x)

    -- the node has the ends that it had, and the new one
    pub ends_is : (test : Mode → Bool) → has_end opened test node ≡ (test mode || has_end c test node)
    ends_is test = both_ways (has_end opened test node) (test mode || has_end c test node) forth (or_elim (test mode) (has_end c test node) new old)
      where
        forth : has_end opened test node ≡ true → (test mode || has_end c test node) ≡ true
        forth h =
            let e = end_found opened test node h in
            elim (eqb_tells e.0 d) as (λ _. (test mode || has_end c test node) ≡ true) [
              | inl t ↦ or_left (test mode) _ (and_right (same_node {K = numbers} node node) (test mode) (sym (ap (is_end test node) (ap opened.descriptions t.1 ∙ new_described)) ∙ e.2))
              | inr t ↦ or_right (test mode) _ (end_passes c test node e.0 (sym (old_live e.0 t.1) ∙ e.1) (ap (is_end test node) (sym (old_described e.0 t.1)) ∙ e.2))
            ]

        new : test mode ≡ true → has_end opened test node ≡ true
        new h = end_passes opened test node d new_live (ap (is_end test node) new_described ∙ (λ i. same_refl node i && h i))

        old : has_end c test node ≡ true → has_end opened test node ≡ true
        old h =
            let e = end_found c test node h in
            elim (eqb_tells e.0 d) as (λ _. has_end opened test node ≡ true) [
              | inl t ↦ (let f : false ≡ true = sym (ap (is_end test node) (ap c.descriptions t.1 ∙ unused.descriptions)) ∙ e.2 in absurd (cc))
              | inr t ↦ end_passes opened test node e.0 (old_live e.0 t.1 ∙ e.1) (ap (is_end test node) (old_described e.0 t.1) ∙ e.2)
            ]

    -- so the node is kept
    here_kept : (other : Node numbers) → same_node {K = numbers} node other ≡ true → is_kept opened other ≡ true
    here_kept other on = ap (is_kept opened) (sym (same_is node other on)) ∙ or_left (has_end opened any_mode node) _ (ends_is any_mode)

    -- the pipe that the node may be is as its ends have it, and all else stays
    module _ (pipes : ℕ → Option Pipe) (here : (p : ℕ) → same_node {K = numbers} node (PipeNode p) ≡ true → option_map (settled_pipe c opened p) (c.pipes p) ≡ pipes p)
        (other_pipes : (p : ℕ) → same_node {K = numbers} node (PipeNode p) ≡ false → pipes p ≡ c.pipes p) where
      pub opened-settled : settle c opened ≡ record opened { pipes = pipes }
      opened-settled = settles_to c opened opened.descriptions pipes files
          (λ z. at_description z (opened.descriptions z) refl)
          (λ p. at_pipe p (same_node {K = numbers} node (PipeNode p)) refl)
          (λ g. at_file g (files g) refl)
        where
          live : (z : ℕ) (x : Description numbers) → opened.descriptions z ≡ Some x → is_live opened z ≡ true
          live z x e = elim (eqb_tells z d) as (λ _. is_live opened z ≡ true) [
            | inl t ↦ ap (is_live opened) t.1 ∙ new_live
            | inr t ↦ old_live z t.1 ∙ settled-live c settled z x (sym (old_described z t.1) ∙ e)
          ]

          at_description : (z : ℕ) (o : Option (Description numbers)) → opened.descriptions z ≡ o → kept_if (is_live opened z) o ≡ o
          at_description z None e = nothing_kept (is_live opened z)
          at_description z (Some x) e = ap (λ b. kept_if b (Some x)) (live z x e)

          stays : (p : ℕ) (o : Option Pipe) → c.pipes p ≡ o → same_node {K = numbers} node (PipeNode p) ≡ false → option_map (settled_pipe c opened p) (kept_if (is_kept opened (PipeNode p)) o) ≡ o
          stays p None e off = ap (option_map (settled_pipe c opened p)) (nothing_kept (is_kept opened (PipeNode p)))
          stays p (Some x) e off =
              let was = settled-kept c settled p x e in
              ap (λ b. option_map (settled_pipe c opened p) (kept_if b (Some x))) (old_kept (PipeNode p) off ∙ was.0) ∙ ap (λ y. Some y) (old_pipe p x off ∙ was.1)

          at_pipe : (p : ℕ) (b : Bool) → same_node {K = numbers} node (PipeNode p) ≡ b → option_map (settled_pipe c opened p) (kept_if (is_kept opened (PipeNode p)) (c.pipes p)) ≡ pipes p
          at_pipe p true on = ap (λ b. option_map (settled_pipe c opened p) (kept_if b (c.pipes p))) (here_kept (PipeNode p) on) ∙ here p on
          at_pipe p false off = stays p (c.pipes p) refl off ∙ sym (other_pipes p off)

          kept : (g : ℕ) (x : List ℕ) → files g ≡ Some x → (b : Bool) → same_node {K = numbers} node (FileNode g) ≡ b → is_kept opened (FileNode g) ≡ true
          kept g x e true on = here_kept (FileNode g) on
          kept g x e false off = old_kept (FileNode g) off ∙ settled-file c settled g x (sym (other_files g off) ∙ e)

          at_file : (g : ℕ) (o : Option (List ℕ)) → files g ≡ o → kept_if (is_kept opened (FileNode g)) o ≡ o
          at_file g None e = nothing_kept (is_kept opened (FileNode g))
          at_file g (Some x) e = ap (λ b. kept_if b (Some x)) (kept g x e (same_node {K = numbers} node (FileNode g)) refl)
