-- The end of a step leaves what is the same at an open node.
use Rattle.std.proofs.Common.{◌≡◌, ℕ, true, List, Option, Some, None, refl, sym, ◌∙◌, ap}
use Rattle.std.specs.Prelude.{◌||◌, option_map}
use Rattle.pl_model.specs.Modes.{any_mode, reads, writes}
use Rattle.pl_model.specs.Map.{kept_if}
use Rattle.pl_model.specs.Keys.{Node, PipeNode, FileNode}
use Rattle.pl_model.specs.State.{Core, Pipe}
use Rattle.pl_model.specs.Live.{in_rows, in_parked, pids, is_live, is_open, has_name}
use Rattle.pl_model.specs.Settle.{settle, settled_pipe, is_kept, is_hung, with_ends}
use Rattle.pl_model.specs.Numbered.{numbers}
use Rattle.pl_model.specs.Laws.{IsSettled}
use Rattle.pl_model.proofs.settling.Members.{or_left}
use Rattle.pl_model.proofs.settling.WhoIsLive.{is_on, has_end, end_passes, SameEnds, has_end-same, settled_pipe-is, settled-kept}
use Rattle.pl_model.proofs.touching.SameAt.{SameAt, held_at}

module _ {A : Type 0} (c u : Core A numbers) where
  live_after : (d : ℕ) → is_live (settle c u) d ≡ is_live u d
  unfolding settle in_rows in_parked pids
  live_after d = refl

  described_after : (d : ℕ) → is_live u d ≡ true → (settle c u).descriptions d ≡ u.descriptions d
  unfolding settle
  described_after d live = ap (λ b. kept_if b (u.descriptions d)) live

  ends_after : (node : Node numbers) → SameEnds c u node → SameEnds c (settle c u) node
  ends_after node same = record {
    forth = λ d l o. let s = same.forth d l o in (live_after d ∙ s.0, described_after d s.0 ∙ s.1);
    back = λ d l o.
        let live : is_live u d ≡ true = sym (live_after d) ∙ l in
        let s = same.back d live (ap (is_on node) (sym (described_after d live)) ∙ o) in
        (s.0, described_after d live ∙ s.1);
  }

  -- The ends alone say what becomes of a pipe.
  pipe-same : (p : ℕ) (x : Pipe) → SameEnds c u (PipeNode p) → settled_pipe c u p x ≡ settled_pipe c c p x
  pipe-same p x same =
      settled_pipe-is c u p x
      ∙ (λ i. with_ends (has_end-same c u (PipeNode p) same any_mode i) (has_end-same c u (PipeNode p) same reads i) (has_end-same c u (PipeNode p) same writes i) (is_hung (c.pipes p) || has_end c writes (PipeNode p)) x)
      ∙ sym (settled_pipe-is c c p x)

  module _ (settled : IsSettled c) where
    held_after : (node : Node numbers) → SameAt c u node → is_kept u node ≡ true → held_at (settle c u) node ≡ held_at c node
    unfolding settle
    held_after (PipeNode p) same kept =
        let was : u.pipes p ≡ c.pipes p = ap (λ (z : Option Pipe × Option (List ℕ)). z.0) same.held in
        λ i. (((λ j. option_map (settled_pipe c u p) (kept_if (kept j) (was j))) ∙ at (c.pipes p) refl) i, None)
      where
        at : (o : Option Pipe) → c.pipes p ≡ o → option_map (settled_pipe c u p) o ≡ o
        at None e = refl
        at (Some x) e = ap (λ y. Some y) (pipe-same p x same.ends ∙ (settled-kept c settled p x e).1)
    held_after (FileNode f) same kept =
        let was : u.files f ≡ c.files f = ap (λ (z : Option Pipe × Option (List ℕ)). z.1) same.held in
        λ i. (None, kept_if (kept i) (was i))

    pub settle-same : (node : Node numbers) (d : ℕ) → is_live c d ≡ true → is_on node (c.descriptions d) ≡ true → SameAt c u node → SameAt c (settle c u) node
    settle-same node d live on same =
        let opened : is_open u node ≡ true = has_end-same c u node same.ends any_mode ∙ end_passes c any_mode node d live on in
        record { ends = ends_after node same.ends; held = held_after node same (or_left (is_open u node) (has_name u node) opened) }
