-- What the end of a step makes of what calls do to FIFOs.
use Rattle.std.proofs.Common.{◌≡◌, ◌≢◌, ℕ, ◌+◌, ◌<◌, ◌≤◌, Bool, true, false, cond, List, Option, Some, None, refl, sym, ◌∙◌, ap, inl, inr, nat_eq}
use Rattle.std.specs.Prelude.{◌||◌, IfSome, option_map}
use Rattle.std.proofs.lemmas.Bool.{and_right, false_from_ne_true, eqb-true}
use Rattle.std.proofs.lemmas.Bool.Decides.{eqb_tells}
use Rattle.pl_model.specs.declared.calls.Mode.{Mode}
use Rattle.pl_model.specs.declared.calls.Mode.TheVariants.{Read, Write, Both}
use Rattle.pl_model.specs.declared.flags.OpenFlags.{OpenFlags}
use Rattle.pl_model.specs.Tables.{descriptor_limit, process_limit}
use Rattle.pl_model.specs.Modes.{any_mode, reads, writes}
use Rattle.pl_model.specs.Map.{Map, set_at}
use Rattle.pl_model.specs.Keys.{Node, PipeNode, FileNode, same_node}
use Rattle.pl_model.specs.State.{Core, Description, Pipe, Waiting, empty_pipe, named, set_pipe}
use Rattle.pl_model.specs.Live.{in_rows, in_parked, pids, is_live, readers, writers}
use Rattle.pl_model.specs.Settle.{settle, settled_pipe, is_kept, is_hung, hangs, with_ends}
use Rattle.pl_model.specs.Tables.{install, describe}
use Rattle.pl_model.specs.Fifo.{create_fifo}
use Rattle.pl_model.specs.Numbered.{numbers}
use Rattle.pl_model.specs.StandsFor.{IsUnusedDescription, IsUnusedPipe}
use Rattle.pl_model.specs.Laws.{IsSettled}
use Rattle.pl_model.proofs.settling.Members.{and_left, or_right}
use Rattle.pl_model.proofs.settling.FromSettled.{at_other}
use Rattle.pl_model.proofs.settling.WhoIsLive.{is_on, on_end, has_end, end_found, end_passes, settled_pipe-is, tidy, settled-live, settled-kept, settled-file}
use Rattle.pl_model.proofs.settling.Files.{put-others, put-here}
use Rattle.pl_model.proofs.settling.Opening.{same_is, row-old, row-new, ends_is, opened-settled}

-- a name that stands for nothing comes to stand for a new pipe, which its name alone keeps
module _ {A : Type 0} (c : Core A numbers) (settled : IsSettled c) (name : List ℕ) (p : ℕ) (none : named c name ≡ None) (unused : IsUnusedPipe c p) where
  abbrev made : Core A numbers
  made = create_fifo c name p

  abbrev node : Node numbers
  node = PipeNode p

  not_on : (o : Option (Description numbers)) → IfSome o (λ x. x.node ≢ node) → is_on node o ≡ true → ⊥
  not_on None n h = absurd (cc)
  not_on (Some x) n h = n (same_is x.node node (and_left (same_node x.node node) true h))

  no_ends : has_end made any_mode node ≡ false
  unfolding in_rows in_parked pids
  no_ends = false_from_ne_true (has_end c any_mode node) (λ h. let e = end_found c any_mode node h in not_on (c.descriptions e.0) (unused.node.descriptions e.0) e.2)

  other_kept : (other : Node numbers) → same_node {K = numbers} node other ≡ false → is_kept made other ≡ is_kept c other
  unfolding in_rows in_parked pids
  other_kept other off = ap (λ b. has_end c any_mode other || b) (put-others name node (λ n. same_node {K = numbers} n other) off c.names none)

  other_pipe : (q : ℕ) (x : Pipe) → settled_pipe c made q x ≡ settled_pipe c c q x
  unfolding readers writers in_rows in_parked pids
  other_pipe q x = refl

  here : settled_pipe c made p empty_pipe ≡ empty_pipe
  here =
      settled_pipe-is c made p empty_pipe
      ∙ (λ i. with_ends (no_ends i) (has_end made reads node) (has_end made writes node) (is_hung (c.pipes p) || has_end c writes node) empty_pipe)

  pub mkfifo-settled : settle c made ≡ made
  unfolding in_rows in_parked pids
  mkfifo-settled = tidy c made (λ d x e. settled-live c settled d x e) kept (λ f x e. other_kept (FileNode f) refl ∙ settled-file c settled f x e)
    where
      kept : (q : ℕ) (x : Pipe) → made.pipes q ≡ Some x → (is_kept made (PipeNode q) ≡ true) × (settled_pipe c made q x ≡ x)
      kept q x e = elim (eqb_tells p q) as (λ _. (is_kept made (PipeNode q) ≡ true) × (settled_pipe c made q x ≡ x)) [
        | inl t ↦
            let x_is : empty_pipe ≡ x = (let s : Some empty_pipe ≡ Some x = ap (λ b. cond b (Some empty_pipe) (c.pipes q)) (sym t.0) ∙ e in cc) in
            (ap (λ k. is_kept made (PipeNode k)) (sym t.1) ∙ or_right (has_end made any_mode node) _ (put-here name node c.names), ap (λ k. settled_pipe c made k x) (sym t.1) ∙ ap (settled_pipe c made p) (sym x_is) ∙ here ∙ x_is)
        | inr t ↦
            let was = settled-kept c settled q x (sym (at_other c.pipes p q (Some empty_pipe) t.1) ∙ e) in
            (other_kept (PipeNode q) t.0 ∙ was.0, other_pipe q x ∙ was.1)
      ]

-- a settled pipe that has a writer isn't hung
quiet : {A : Type 0} (c : Core A numbers) → IsSettled c → (p : ℕ) (x : Pipe) → c.pipes p ≡ Some x → has_end c writes (PipeNode p) ≡ true → x.hung ≡ false
quiet c settled p x there h =
    let e = end_found c writes (PipeNode p) h in
    let any : has_end c any_mode (PipeNode p) ≡ true = end_passes c any_mode (PipeNode p) e.0 e.1 (on_end writes (PipeNode p) _ e.2) in
    let had = is_hung (c.pipes p) || has_end c writes (PipeNode p) in
    let is : x ≡ record x { hung = hangs (has_end c reads (PipeNode p)) true had } =
    sym (settled-kept c settled p x there).1 ∙ settled_pipe-is c c p x ∙ (λ i. with_ends (any i) (has_end c reads (PipeNode p)) (h i) had x) in
    ap (λ (y : Pipe). y.hung) is ∙ and_right (has_end c reads (PipeNode p)) false refl

-- one more end that writes leaves a pipe that isn't hung, and one that only reads leaves it hung or not as it was
hangs_opened : (mode : Mode) (reader writer hung : Bool) → (writer ≡ true → hung ≡ false) → hangs (reads mode || reader) (writes mode || writer) (hung || writer) ≡ cond (writes mode) false hung
hangs_opened Read reader true hung quiet = sym (quiet refl)
hangs_opened Read reader false true quiet = refl
hangs_opened Read reader false false quiet = refl
hangs_opened Write true writer hung quiet = refl
hangs_opened Write false writer hung quiet = refl
hangs_opened Both reader writer hung quiet = refl

-- A pipe that is there is opened: a row or a parked call comes to name the new description, and what they name else they named.
module _ {A : Type 0} (c : Core A numbers) (settled : IsSettled c) (p d : ℕ) (unused : IsUnusedDescription c d) (mode : Mode) (flags : OpenFlags) (x : Pipe) (there : c.pipes p ≡ Some x) where
  abbrev left_open : Pipe
  left_open = record x { hung = cond (writes mode) false x.hung }

  module _ (rows : ℕ → ℕ → Option ℕ) (calls : Map ℕ (Waiting A numbers)) (next : ℕ) where
    abbrev fifo_opened : Core A numbers
    fifo_opened = record (describe c d (PipeNode p) mode flags) { rows = rows; parked = calls; next_call = next }

    module _ (old_live : (z : ℕ) → z ≢ d → is_live fifo_opened z ≡ is_live c z) (new_live : is_live fifo_opened d ≡ true) where
      ends : (test : Mode → Bool) → has_end fifo_opened test (PipeNode p) ≡ (test mode || has_end c test (PipeNode p))
      ends test = ends_is c settled c.files c.names (PipeNode p) (λ other off. refl) (λ g off. refl) d unused mode flags rows calls next old_live new_live test

      at_pipe : settled_pipe c fifo_opened p x ≡ left_open
      at_pipe =
          settled_pipe-is c fifo_opened p x
          ∙ (λ i. with_ends (ends any_mode i) (ends reads i) (ends writes i) (is_hung (there i) || has_end c writes (PipeNode p)) x)
          ∙ ap (λ b. record x { hung = b }) (hangs_opened mode (has_end c reads (PipeNode p)) (has_end c writes (PipeNode p)) x.hung (quiet c settled p x there))

      at_key_of : (q : ℕ) → nat_eq p q ≡ true → option_map (settled_pipe c fifo_opened q) (c.pipes q) ≡ set_at nat_eq c.pipes p (Some left_open) q
      at_key_of q on =
          (λ i. option_map (settled_pipe c fifo_opened (sym (eqb-true p q on) i)) (c.pipes (sym (eqb-true p q on) i)))
          ∙ ap (option_map (settled_pipe c fifo_opened p)) there
          ∙ ap (λ y. Some y) at_pipe
          ∙ sym (ap (λ b. cond b (Some left_open) (c.pipes q)) on)

      pub fifo-settled : settle c fifo_opened ≡ record (describe (set_pipe c p left_open) d (PipeNode p) mode flags) { rows = rows; parked = calls; next_call = next }
      fifo-settled =
          opened-settled c settled c.files c.names (PipeNode p) (λ other off. refl) (λ g off. refl) d unused mode flags rows calls next old_live new_live
          (set_at nat_eq c.pipes p (Some left_open)) at_key_of (λ q off. ap (λ b. cond b (Some left_open) (c.pipes q)) off)

-- a pipe that is there is opened by its name
module _ {A : Type 0} (c : Core A numbers) (settled : IsSettled c) (p d pid fd : ℕ) (unused : IsUnusedDescription c d) (low : 1 ≤ pid) (high : pid < 1 + process_limit c.limits)
    (process : c.processes pid ≡ true) (within : fd < descriptor_limit c.limits) (free : c.rows pid fd ≡ None) (mode : Mode) (flags : OpenFlags) (x : Pipe) (there : c.pipes p ≡ Some x) where
  abbrev opened : Core A numbers
  opened = install (describe c d (PipeNode p) mode flags) pid fd d

  abbrev left : Pipe
  left = record x { hung = cond (writes mode) false x.hung }

  pub open_fifo-settled : settle c opened ≡ install (describe (set_pipe c p left) d (PipeNode p) mode flags) pid fd d
  open_fifo-settled =
      fifo-settled c settled p d unused mode flags x there opened.rows c.parked c.next_call
      (row-old c pid fd d free low high process within opened.descriptions c.pipes c.files c.names)
      (row-new c pid fd d free low high process within opened.descriptions c.pipes c.files c.names)
