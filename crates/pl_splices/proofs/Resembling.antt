-- A state in which only bytes and offsets changed is tidy as before.
use Rattle.std.proofs.Common.{◌≡◌, ℕ, Bool, true, false, cond, List, Option, Some, None, IsSome, refl, sym, ◌∙◌, ap, subst, inl, inr, nat_eq}
use Rattle.std.proofs.Math.Path.{fun_ext}
use Rattle.std.specs.Prelude.{◌||◌, ◌&&◌, nat_lt}
use Rattle.std.specs.List.{list_any}
use Rattle.std.specs.Set.{is_member}
use Rattle.std.proofs.lemmas.Bool.Decides.{eqb_tells}
use Rattle.pl_model.specs.declared.calls.Mode.{Mode}
use Rattle.pl_model.specs.Modes.{any_mode, reads, writes}
use Rattle.pl_model.specs.Map.{set_at}
use Rattle.pl_model.specs.Keys.{Node, PipeNode, FileNode, same_node}
use Rattle.pl_model.specs.State.{Core, Description, Pipe, set_pipe, set_file, set_description}
use Rattle.pl_model.specs.Live.{in_rows, in_parked, pids, is_live, is_end, is_open, readers, writers as writers_of}
use Rattle.pl_model.specs.Settle.{settle, settled_pipe, is_kept, is_hung, had_writer, with_ends}
use Rattle.pl_model.specs.Numbered.{numbers}
use Rattle.pl_model.specs.Laws.{IsSettled}
use Rattle.pl_model.proofs.settling.FromSettled.{settle-before}
use Rattle.pl_model.proofs.settling.WhoIsLive.{has_end, writers-is, settled_pipe-is, tidy, settled-live, settled-kept, settled-file}
use Rattle.pl_splices.specs.Resembling.{IsLikePipe, Resembles}

some-is : {X : Type 0} (o : Option X) → IsSome o → (x : X) × (o ≡ Some x)
some-is {X} None i = absurd (let none : Option X = None in let j : IsSome none = i in cc)
some-is (Some x) i = (x, refl)

module _ {A : Type 0} (c u : Core A numbers) (like : Resembles c u) where
  same_ends : (test : Mode → Bool) (node : Node numbers) → has_end u test node ≡ has_end c test node
  same_ends test node = λ i. list_any (fun_ext (like.ends test node) i) (like.used i)

  pub same-open : (node : Node numbers) → is_open u node ≡ is_open c node
  same-open node = same_ends any_mode node

  same_live : (d : ℕ) → is_live u d ≡ is_live c d
  same_live d = ap (λ xs. is_member nat_eq xs d) like.used

  same_kept : (node : Node numbers) → is_kept u node ≡ is_kept c node
  same_kept node = λ i. same_ends any_mode node i || list_any (λ e. same_node e.1 node) (like.names i)

  same_pipe : (p : ℕ) (x : Pipe) → settled_pipe c u p x ≡ settled_pipe c c p x
  same_pipe p x =
      settled_pipe-is c u p x
      ∙ (λ i. with_ends (same_ends any_mode (PipeNode p) i) (same_ends reads (PipeNode p) i) (same_ends writes (PipeNode p) i) (is_hung (c.pipes p) || has_end c writes (PipeNode p)) x)
      ∙ sym (settled_pipe-is c c p x)

  pub same-writers : (p : ℕ) → had_writer u p ≡ had_writer c p
  same-writers p = (λ i. hung (c.pipes p) (u.pipes p) (like.pipes p) i || (writers-is u p ∙ same_ends writes (PipeNode p) ∙ sym (writers-is c p)) i)
    where
      hung : (old new : Option Pipe) → IsLikePipe (is_open c (PipeNode p)) old new → is_hung new ≡ is_hung old
      hung None None h = refl
      hung (Some x) (Some y) h = h.0
      hung None (Some y) h = absurd h
      hung (Some x) None h = absurd h

  -- settling from the one is settling from the other
  pub settles-from : (s : Core A numbers) → settle u s ≡ settle c s
  settles-from s = settle-before u c s same-writers

  module _ (settled : IsSettled c) where
    pipe_tidy : (p : ℕ) (z : Pipe) → u.pipes p ≡ Some z → (is_kept u (PipeNode p) ≡ true) × (settled_pipe c u p z ≡ z)
    pipe_tidy p z e = by (c.pipes p) refl (subst (IsLikePipe (is_open c (PipeNode p)) (c.pipes p)) e (like.pipes p))
      where
        by : (o : Option Pipe) → c.pipes p ≡ o → IsLikePipe (is_open c (PipeNode p)) o (Some z) → (is_kept u (PipeNode p) ≡ true) × (settled_pipe c u p z ≡ z)
        by None is h = absurd h
        by (Some x) is h =
            let kept = settled-kept c settled p x is in
            (same_kept (PipeNode p) ∙ kept.0, same_pipe p z ∙ at (is_open c (PipeNode p)) refl kept.1)
          where
            tests : (b : Bool) → Pipe → Pipe
            tests b y = with_ends b (nat_lt 0 (readers c p)) (nat_lt 0 (writers_of c p)) (had_writer c p) y

            at : (b : Bool) → is_open c (PipeNode p) ≡ b → settled_pipe c c p x ≡ x → settled_pipe c c p z ≡ z
            at true is_held was =
                let same : tests true x ≡ x = ap (λ b. tests b x) (sym is_held) ∙ was in
                ap (λ b. tests b z) is_held ∙ ap (λ b. record z { hung = b }) (ap (λ (y : Pipe). y.hung) same ∙ sym h.0)
            at false shut was = ap (settled_pipe c c p) (h.1 shut) ∙ was ∙ sym (h.1 shut)

    pub resembling-settled : settle c u ≡ u
    resembling-settled = tidy c u
        (λ d x e. same_live d ∙ (let o = some-is (c.descriptions d) (like.described d (subst (λ o. IsSome o) (sym e) refl)) in settled-live c settled d o.0 o.1))
        pipe_tidy
        (λ f x e. same_kept (FileNode f) ∙ (let o = some-is (c.files f) (like.files f (subst (λ o. IsSome o) (sym e) refl)) in settled-file c settled f o.0 o.1))

like_same : (b : Bool) (o : Option Pipe) → IsLikePipe b o o
like_same b None = tt
like_same b (Some x) = (refl, λ _. refl)

pub resembles-refl : {A : Type 0} (c : Core A numbers) → Resembles c c
resembles-refl c = record { used = refl; ends = λ test node d. refl; described = λ d i. i; pipes = λ p. like_same (is_open c (PipeNode p)) (c.pipes p); files = λ f i. i; names = refl }

-- one after the other
pub resembles-then : {A : Type 0} (c u v : Core A numbers) → Resembles c u → Resembles u v → Resembles c v
resembles-then c u v r s = record {
  used = s.used ∙ r.used;
  ends = λ test node d. s.ends test node d ∙ r.ends test node d;
  described = λ d i. r.described d (s.described d i);
  pipes = λ p. by (is_open c (PipeNode p)) (is_open u (PipeNode p)) (same-open c u r (PipeNode p)) (c.pipes p) (u.pipes p) (v.pipes p) (r.pipes p) (s.pipes p);
  files = λ f i. r.files f (s.files f i);
  names = s.names ∙ r.names;
}
  where
    by : (b b' : Bool) → b' ≡ b → (x y z : Option Pipe) → IsLikePipe b x y → IsLikePipe b' y z → IsLikePipe b x z
    by b b' e None None None h g = tt
    by b b' e (Some x) (Some y) (Some z) h g = (g.0 ∙ h.0, λ shut. g.1 (e ∙ shut) ∙ h.1 shut)
    by b b' e None None (Some z) h g = absurd g
    by b b' e None (Some y) z h g = absurd h
    by b b' e (Some x) None z h g = absurd h
    by b b' e (Some x) (Some y) None h g = absurd g

-- a pipe with an end has other bytes
pub resembles-pipe : {A : Type 0} (c : Core A numbers) (p : ℕ) (x y : Pipe) → c.pipes p ≡ Some x → y.hung ≡ x.hung → is_open c (PipeNode p) ≡ true → Resembles c (set_pipe c p y)
unfolding in_rows in_parked pids
resembles-pipe c p x y is hung held = record { used = refl; ends = λ test node d. refl; described = λ d i. i; pipes = at; files = λ f i. i; names = refl }
  where
    at : (q : ℕ) → IsLikePipe (is_open c (PipeNode q)) (c.pipes q) (set_at nat_eq c.pipes p (Some y) q)
    at q = elim (eqb_tells p q) as (λ _. IsLikePipe (is_open c (PipeNode q)) (c.pipes q) (set_at nat_eq c.pipes p (Some y) q)) [
      | inl t ↦ subst (λ z. IsLikePipe (is_open c (PipeNode q)) (c.pipes q) z) (sym (ap (λ b. cond b (Some y) (c.pipes q)) t.0))
          (subst (λ z. IsLikePipe (is_open c (PipeNode q)) z (Some y)) (sym (ap c.pipes (sym t.1) ∙ is)) (hung, λ shut. absurd (let f : true ≡ false = sym held ∙ ap (λ z. is_open c (PipeNode z)) t.1 ∙ shut in cc)))
      | inr t ↦ subst (λ z. IsLikePipe (is_open c (PipeNode q)) (c.pipes q) z) (sym (ap (λ b. cond b (Some y) (c.pipes q)) t.0)) (like_same (is_open c (PipeNode q)) (c.pipes q))
    ]

-- a file that is there has other bytes
pub resembles-file : {A : Type 0} (c : Core A numbers) (f : ℕ) (held bytes : List ℕ) → c.files f ≡ Some held → Resembles c (set_file c f bytes)
unfolding in_rows in_parked pids
resembles-file c f held bytes is = record { used = refl; ends = λ test node d. refl; described = λ d i. i; pipes = λ p. like_same (is_open c (PipeNode p)) (c.pipes p); files = at; names = refl }
  where
    at : (g : ℕ) → IsSome (set_at nat_eq c.files f (Some bytes) g) → IsSome (c.files g)
    at g i = elim (eqb_tells f g) as (λ _. IsSome (c.files g)) [
      | inl t ↦ subst (λ o. IsSome o) (sym (ap c.files (sym t.1) ∙ is)) refl
      | inr t ↦ subst (λ o. IsSome o) (ap (λ b. cond b (Some bytes) (c.files g)) t.0) i
    ]

-- a description is on what it was on
pub resembles-description : {A : Type 0} (c : Core A numbers) (d : ℕ) (x y : Description numbers) → c.descriptions d ≡ Some x → y.node ≡ x.node → y.mode ≡ x.mode → Resembles c (set_description c d y)
unfolding in_rows in_parked pids
resembles-description c d x y is node mode = record { used = refl; ends = ends; described = at; pipes = λ p. like_same (is_open c (PipeNode p)) (c.pipes p); files = λ f i. i; names = refl }
  where
    ends : (test : Mode → Bool) (on : Node numbers) (q : ℕ) → is_end test on (set_at nat_eq c.descriptions d (Some y) q) ≡ is_end test on (c.descriptions q)
    ends test on q = elim (eqb_tells d q) as (λ _. is_end test on (set_at nat_eq c.descriptions d (Some y) q) ≡ is_end test on (c.descriptions q)) [
      | inl t ↦
          ap (λ b. is_end test on (cond b (Some y) (c.descriptions q))) t.0
          ∙ (λ i. same_node (node i) on && test (mode i))
          ∙ sym (ap (λ z. is_end test on (c.descriptions z)) (sym t.1) ∙ ap (is_end test on) is)
      | inr t ↦ ap (λ b. is_end test on (cond b (Some y) (c.descriptions q))) t.0
    ]

    at : (q : ℕ) → IsSome (set_at nat_eq c.descriptions d (Some y) q) → IsSome (c.descriptions q)
    at q i = elim (eqb_tells d q) as (λ _. IsSome (c.descriptions q)) [
      | inl t ↦ subst (λ o. IsSome o) (sym (ap c.descriptions (sym t.1) ∙ is)) refl
      | inr t ↦ subst (λ o. IsSome o) (ap (λ b. cond b (Some y) (c.descriptions q)) t.0) i
    ]
