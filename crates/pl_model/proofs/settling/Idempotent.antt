-- The end of a step leaves nothing more to settle.
use Rattle.std.proofs.Common.{ap, ℕ, Bool, true, false, cond, Option, List, [], ◌∷◌, ◌≡◌, refl, ◌∙◌, nat_eq, nat_lt}
use Rattle.std.specs.Prelude.{◌||◌, option_map}
use Rattle.std.specs.declared.option.Option.TheVariants.{None, Some}
use Rattle.std.specs.List.{list_any, filter}
use Rattle.std.specs.Set.{is_member, distinct_count}
use Rattle.std.proofs.Math.Path.{fun_ext}
use Rattle.std.proofs.lemmas.Bool.{eq-eqb}
use Rattle.pl_model.specs.declared.calls.Mode.{Mode}
use Rattle.pl_model.specs.Modes.{any_mode, reads, writes}
use Rattle.pl_model.specs.Map.{kept_if}
use Rattle.pl_model.specs.Keys.{Node, PipeNode, FileNode}
use Rattle.pl_model.specs.State.{Core, Pipe}
use Rattle.pl_model.specs.Live.{in_use, in_rows, in_parked, pids, is_live, is_end, is_open, readers, writers, live_with, has_name}
use Rattle.pl_model.specs.Settle.{settle, settled_pipe, with_ends, hangs, is_kept, is_hung, had_writer}
use Rattle.pl_model.specs.Numbered.{numbers}

kept_twice : {X : Type 0} (b : Bool) (o : Option X) → kept_if b (kept_if b o) ≡ kept_if b o
kept_twice true o = refl
kept_twice false o = refl

or_true : (b : Bool) → (b || true) ≡ true
or_true true = refl
or_true false = refl

-- two tests that agree on the members of a list
filter_agree : (t u : ℕ → Bool) (xs : List ℕ) → ((d : ℕ) → is_member nat_eq xs d ≡ true → t d ≡ u d) → filter t xs ≡ filter u xs
filter_agree t u [] h = refl
filter_agree t u (x ∷ xs) h =
    (λ i. cond (h x (ap (λ b. b || is_member nat_eq xs x) (eq-eqb x x refl)) i) (x ∷ filter t xs) (filter t xs))
    ∙ ap (λ ys. cond (u x) (x ∷ ys) ys) (filter_agree t u xs (λ d m. h d (ap (λ b. nat_eq d x || b) m ∙ or_true (nat_eq d x))))

any_agree : (t u : ℕ → Bool) (xs : List ℕ) → ((d : ℕ) → is_member nat_eq xs d ≡ true → t d ≡ u d) → list_any t xs ≡ list_any u xs
any_agree t u [] h = refl
any_agree t u (x ∷ xs) h =
    (λ i. h x (ap (λ b. b || is_member nat_eq xs x) (eq-eqb x x refl)) i || list_any t xs)
    ∙ ap (λ b. u x || b) (any_agree t u xs (λ d m. h d (ap (λ b. nat_eq d x || b) m ∙ or_true (nat_eq d x))))

hung_again : (r w h : Bool) → hangs r w (hangs r w h || w) ≡ hangs r w h
hung_again false w h = refl
hung_again true true h = refl
hung_again true false true = refl
hung_again true false false = refl

settled_twice : (held r w had : Bool) (x : Pipe) → with_ends held r w ((with_ends held r w had x).hung || w) (with_ends held r w had x) ≡ with_ends held r w had x
settled_twice true r w had x = λ i. record x { hung = hung_again r w had i }
settled_twice false r w had x = refl

module _ {A : Type 0} (before u : Core A numbers) where
  abbrev s : Core A numbers
  s = settle before u

  same_ends : (test : Mode → Bool) (node : Node numbers) (d : ℕ) → is_live u d ≡ true → is_end test node (s.descriptions d) ≡ is_end test node (u.descriptions d)
  unfolding settle
  same_ends test node d l = ap (λ b. is_end test node (kept_if b (u.descriptions d))) l

  same_use : in_use s ≡ in_use u
  unfolding settle in_rows in_parked pids
  same_use = refl

  same_counts : (test : Mode → Bool) (node : Node numbers) → live_with test s node ≡ live_with test u node
  same_counts test node =
      ap (λ xs. distinct_count nat_eq (filter (λ d. is_end test node (s.descriptions d)) xs)) same_use
      ∙ ap (λ xs. distinct_count nat_eq xs) (filter_agree (λ d. is_end test node (s.descriptions d)) (λ d. is_end test node (u.descriptions d)) (in_use u) (λ d m. same_ends test node d m))

  same_readers : (p : ℕ) → readers s p ≡ readers u p
  unfolding readers
  same_readers p = same_counts reads (PipeNode p)

  same_writers : (p : ℕ) → writers s p ≡ writers u p
  unfolding writers
  same_writers p = same_counts writes (PipeNode p)

  same_held : (node : Node numbers) → is_open s node ≡ is_open u node
  same_held node =
      ap (λ xs. list_any (λ d. is_end any_mode node (s.descriptions d)) xs) same_use
      ∙ any_agree (λ d. is_end any_mode node (s.descriptions d)) (λ d. is_end any_mode node (u.descriptions d)) (in_use u) (λ d m. same_ends any_mode node d m)

  same_kept : (node : Node numbers) → is_kept s node ≡ is_kept u node
  unfolding settle
  same_kept node = ap (λ b. b || has_name u node) (same_held node)

  -- a pipe settled once more
  settled_again : (p : ℕ) (x : Pipe) → s.pipes p ≡ Some (settled_pipe before u p x) → settled_pipe s s p (settled_pipe before u p x) ≡ settled_pipe before u p x
  settled_again p x e =
      let node : Node numbers = PipeNode p in
      let y : Pipe = settled_pipe before u p x in
      (λ i. with_ends (same_held node i) (nat_lt 0 (same_readers p i)) (nat_lt 0 (same_writers p i)) (is_hung (e i) || nat_lt 0 (same_writers p i)) y)
      ∙ settled_twice (is_open u node) (nat_lt 0 (readers u p)) (nat_lt 0 (writers u p)) (had_writer before p) x

  pipe_again : (p : ℕ) (b : Bool) (o : Option Pipe) → s.pipes p ≡ option_map (settled_pipe before u p) (kept_if b o) → option_map (settled_pipe s s p) (kept_if b (option_map (settled_pipe before u p) (kept_if b o))) ≡ option_map (settled_pipe before u p) (kept_if b o)
  pipe_again p false o e = refl
  pipe_again p true None e = refl
  pipe_again p true (Some x) e = ap (λ y. Some y) (settled_again p x e)

  pub settled : settle s s ≡ s
  unfolding settle in_rows in_parked pids
  settled = λ i. record s {
    descriptions = fun_ext (λ d. kept_twice (is_live u d) (u.descriptions d)) i;
    pipes = fun_ext (λ p. ap (λ b. option_map (settled_pipe s s p) (kept_if b (s.pipes p))) (same_kept (PipeNode p)) ∙ pipe_again p (is_kept u (PipeNode p)) (u.pipes p) refl) i;
    files = fun_ext (λ f. ap (λ b. kept_if b (s.files f)) (same_kept (FileNode f)) ∙ kept_twice (is_kept u (FileNode f)) (u.files f)) i;
  }
