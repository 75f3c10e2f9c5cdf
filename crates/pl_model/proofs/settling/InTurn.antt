-- What leaves in turn is settled as if it left at once.
use Rattle.std.proofs.Common.{◌≡◌, ℕ, Bool, true, false, Option, Some, None, refl, sym, ◌∙◌, ap, nat_lt}
use Rattle.std.specs.Prelude.{◌||◌, ◌&&◌, not, option_map}
use Rattle.std.specs.List.{list_any}
use Rattle.pl_model.specs.declared.calls.Mode.{Mode}
use Rattle.pl_model.specs.Modes.{any_mode, reads, writes}
use Rattle.pl_model.specs.Map.{kept_if}
use Rattle.pl_model.specs.Keys.{Node, PipeNode, FileNode, same_node}
use Rattle.pl_model.specs.State.{Core, Pipe}
use Rattle.pl_model.specs.Live.{in_rows, in_parked, pids, is_live, is_end}
use Rattle.pl_model.specs.Live.{writers as count_writers}
use Rattle.pl_model.specs.Settle.{settle, settled_pipe, is_kept, is_hung, had_writer, with_ends, hangs}
use Rattle.pl_model.specs.Numbered.{numbers}
use Rattle.pl_model.specs.Laws.{HasFewer, with_held_of}
use Rattle.pl_model.proofs.settling.Members.{or_left, or_right, or_elim}
use Rattle.pl_model.proofs.settling.WhoIsLive.{has_end, end_found, end_passes, SameEnds, has_end-same, writers-is, settled_pipe-is, settles_to, kept-same}

-- a pipe that settles twice, with fewer ends each time
tidy_twice : (hv hu rv ru wv wu hb : Bool) → (hv ≡ true → hu ≡ true) → (rv ≡ true → ru ≡ true) → (wu ≡ true → hb ≡ true) → (x : Pipe)
    → with_ends hv rv wv ((with_ends hu ru wu hb x).hung || wu) (with_ends hu ru wu hb x) ≡ with_ends hv rv wv hb x
tidy_twice false hu rv ru wv wu hb h r w x = refl
tidy_twice true hu rv ru wv wu hb h r w x =
    ap (λ b. with_ends true rv wv ((with_ends b ru wu hb x).hung || wu) (with_ends b ru wu hb x)) (h refl)
    ∙ ap (λ z. record x { hung = z }) (flags rv ru wv wu hb r w)
  where
    had : (wu hb : Bool) → (wu ≡ true → hb ≡ true) → ((not wu && hb) || wu) ≡ hb
    had true hb w = sym (w refl)
    had false true w = refl
    had false false w = refl

    flags : (rv ru wv wu hb : Bool) → (rv ≡ true → ru ≡ true) → (wu ≡ true → hb ≡ true) → hangs rv wv (hangs ru wu hb || wu) ≡ hangs rv wv hb
    flags false ru wv wu hb r w = refl
    flags true ru wv wu hb r w = ap (λ b. hangs true wv (hangs b wu hb || wu)) (r refl) ∙ ap (hangs true wv) (had wu hb w)

kept_less : {X : Type 0} (a b : Bool) (o : Option X) → (a ≡ true → b ≡ true) → kept_if a (kept_if b o) ≡ kept_if a o
kept_less false b o h = refl
kept_less true b o h = ap (λ c. kept_if c o) (h refl)

module _ {A : Type 0} (b u v : Core A numbers) (fewer : HasFewer u v) (had : (p : ℕ) → nat_lt 0 (count_writers u p) ≡ true → had_writer b p ≡ true) where
  abbrev s : Core A numbers
  s = settle b u

  abbrev w : Core A numbers
  w = with_held_of s v

  same_live : (d : ℕ) → is_live w d ≡ is_live v d
  unfolding in_rows in_parked pids
  same_live d = refl

  settled_live : (d : ℕ) → is_live s d ≡ is_live u d
  unfolding settle in_rows in_parked pids
  settled_live d = refl

  still_there : (d : ℕ) → is_live u d ≡ true → s.descriptions d ≡ u.descriptions d
  unfolding settle
  still_there d l = ap (λ c. kept_if c (u.descriptions d)) l

  there : (d : ℕ) → is_live v d ≡ true → w.descriptions d ≡ v.descriptions d
  there d l = still_there d (fewer.live d l) ∙ sym (λ i. fewer.descriptions i d)

  ends : (node : Node numbers) → SameEnds v w node
  ends node = record { forth = λ d l o. (same_live d ∙ l, there d l); back = λ d l o. (sym (same_live d) ∙ l, there d (sym (same_live d) ∙ l)) }

  settled_ends : (node : Node numbers) → SameEnds u s node
  settled_ends node = record { forth = λ d l o. (settled_live d ∙ l, still_there d l); back = λ d l o. (sym (settled_live d) ∙ l, still_there d (sym (settled_live d) ∙ l)) }

  kept_as : (node : Node numbers) → is_kept w node ≡ is_kept v node
  kept_as node = kept-same v w refl node (ends node)

  -- an end that is left was there before
  no_more : (test : Mode → Bool) (node : Node numbers) → has_end v test node ≡ true → has_end u test node ≡ true
  no_more test node h =
      let e = end_found v test node h in
      end_passes u test node e.0 (fewer.live e.0 e.1) (sym (λ i. is_end test node (fewer.descriptions i e.0)) ∙ e.2)

  kept_before : (node : Node numbers) → is_kept v node ≡ true → is_kept u node ≡ true
  kept_before node k = or_elim (has_end v any_mode node) (list_any (λ e. same_node e.1 node) v.names)
      (λ h. or_left _ _ (no_more any_mode node h))
      (λ h. or_right (has_end u any_mode node) _ (sym (λ i. list_any (λ e. same_node e.1 node) (fewer.names i)) ∙ h)) k

  module _ (p : ℕ) where
    abbrev node : Node numbers
    node = PipeNode p

    abbrev hb : Bool
    hb = is_hung (b.pipes p) || has_end b writes node

    had_it : has_end u writes node ≡ true → hb ≡ true
    had_it h = sym (ap (λ c. is_hung (b.pipes p) || c) (writers-is b p)) ∙ had p (writers-is u p ∙ h)

    twice : (x : Pipe) → s.pipes p ≡ Some (settled_pipe b u p x) → settled_pipe s w p (settled_pipe b u p x) ≡ settled_pipe b v p x
    twice x is =
        let y = settled_pipe b u p x in
        let t = with_ends (has_end u any_mode node) (has_end u reads node) (has_end u writes node) hb x in
        settled_pipe-is s w p y
        ∙ (λ i. with_ends (has_end-same v w node (ends node) any_mode i) (has_end-same v w node (ends node) reads i) (has_end-same v w node (ends node) writes i) (is_hung (is i) || has_end-same u s node (settled_ends node) writes i) y)
        ∙ ap (λ z. with_ends (has_end v any_mode node) (has_end v reads node) (has_end v writes node) (z.hung || has_end u writes node) z) (settled_pipe-is b u p x)
        ∙ tidy_twice (has_end v any_mode node) (has_end u any_mode node) (has_end v reads node) (has_end u reads node) (has_end v writes node) (has_end u writes node) hb
        (no_more any_mode node) (no_more reads node) had_it x
        ∙ sym (settled_pipe-is b v p x)

    by_kept : (kv ku : Bool) (o : Option Pipe) → (kv ≡ true → ku ≡ true) → s.pipes p ≡ option_map (settled_pipe b u p) (kept_if ku o)
        → option_map (settled_pipe s w p) (kept_if kv (option_map (settled_pipe b u p) (kept_if ku o))) ≡ option_map (settled_pipe b v p) (kept_if kv o)
    by_kept false ku o h is = refl
    by_kept true false o h is = absurd (let f : false ≡ true = h refl in cc)
    by_kept true true None h is = refl
    by_kept true true (Some x) h is = ap (λ z. Some z) (twice x is)

    at_pipe : option_map (settled_pipe s w p) (kept_if (is_kept w node) (w.pipes p)) ≡ option_map (settled_pipe b v p) (kept_if (is_kept v node) (v.pipes p))
    unfolding settle
    at_pipe =
        ap (λ c. option_map (settled_pipe s w p) (kept_if c (s.pipes p))) (kept_as node)
        ∙ by_kept (is_kept v node) (is_kept u node) (u.pipes p) (kept_before node) refl
        ∙ ap (λ o. option_map (settled_pipe b v p) (kept_if (is_kept v node) o)) (sym (λ i. fewer.pipes i p))

  at_description : (d : ℕ) → kept_if (is_live w d) (w.descriptions d) ≡ kept_if (is_live v d) (v.descriptions d)
  unfolding settle
  at_description d =
      ap (λ c. kept_if c (s.descriptions d)) (same_live d)
      ∙ kept_less (is_live v d) (is_live u d) (u.descriptions d) (fewer.live d)
      ∙ ap (kept_if (is_live v d)) (sym (λ i. fewer.descriptions i d))

  at_file : (f : ℕ) → kept_if (is_kept w (FileNode f)) (w.files f) ≡ kept_if (is_kept v (FileNode f)) (v.files f)
  unfolding settle
  at_file f =
      ap (λ c. kept_if c (s.files f)) (kept_as (FileNode f))
      ∙ kept_less (is_kept v (FileNode f)) (is_kept u (FileNode f)) (u.files f) (kept_before (FileNode f))
      ∙ ap (kept_if (is_kept v (FileNode f))) (sym (λ i. fewer.files i f))

  pub in_turn : settle s w ≡ settle b v
  in_turn =
      settles_to s w (λ d. kept_if (is_live v d) (v.descriptions d)) (λ p. option_map (settled_pipe b v p) (kept_if (is_kept v (PipeNode p)) (v.pipes p))) (λ f. kept_if (is_kept v (FileNode f)) (v.files f)) at_description at_pipe at_file
      ∙ sym (settles_to b v (λ d. kept_if (is_live v d) (v.descriptions d)) (λ p. option_map (settled_pipe b v p) (kept_if (is_kept v (PipeNode p)) (v.pipes p))) (λ f. kept_if (is_kept v (FileNode f)) (v.files f)) (λ d. refl) (λ p. refl) (λ f. refl))
