-- What settling makes of a settled state in which the bytes of one pipe may have changed, and one description of it may
-- have gone. Calls differ only in whom they leave live.
use Rattle.std.proofs.Common.{◌≡◌, ◌≢◌, ℕ, Bool, true, false, cond, List, Option, Some, None, refl, sym, ◌∙◌, ap, inl, inr, nat_eq}
use Rattle.std.proofs.Math.Path.{fun_ext}
use Rattle.std.specs.Prelude.{◌||◌, ◌&&◌, not, nat_lt, option_map}
use Rattle.std.proofs.lemmas.Bool.{eq-eqb, ne_eqb}
use Rattle.std.proofs.lemmas.Bool.Decides.{eqb_tells}
use Rattle.pl_model.specs.declared.calls.Mode.{Mode}
use Rattle.pl_model.specs.Modes.{any_mode, reads, writes}
use Rattle.pl_model.specs.Map.{kept_if, set_at}
use Rattle.pl_model.specs.Keys.{Node, PipeNode, FileNode, same_node}
use Rattle.pl_model.specs.State.{Core, Description, Pipe, empty_pipe, set_pipe}
use Rattle.pl_model.specs.Live.{in_rows, in_parked, pids, is_live, is_open, readers, writers}
use Rattle.pl_model.specs.Settle.{settle, settled_pipe, is_kept, is_hung, had_writer, with_ends}
use Rattle.pl_model.specs.Numbered.{numbers}
use Rattle.pl_model.specs.Laws.{IsSettled}
use Rattle.pl_model.proofs.settling.WhoIsLive.{nothing_kept, is_on, has_end, SameEnds, has_end-same, settled_pipe-is, settles_to, tidy, settled-live, settled-kept, settled-file, kept-same, settled_pipe-same}

-- what a map has at another key, and at the key
pub at_other : {X : Type 0} (m : ℕ → X) (k q : ℕ) (x : X) → k ≢ q → set_at nat_eq m k x q ≡ m q
at_other m k q x n = ap (λ b. cond b x (m q)) (ne_eqb k q n)

pub at_key : {X : Type 0} (m : ℕ → X) (k : ℕ) (x : X) → set_at nat_eq m k x k ≡ x
at_key m k x = ap (λ b. cond b x (m k)) (eq-eqb k k refl)

pub at_same : {X : Type 0} (m : ℕ → X) (k : ℕ) (x : X) → m k ≡ x → m ≡ set_at nat_eq m k x
at_same m k x e = fun_ext (λ q. elim (eqb_tells k q) as (λ _. m q ≡ set_at nat_eq m k x q) [
  | inl t ↦ ap m (sym t.1) ∙ e ∙ sym (ap (λ b. cond b x (m q)) t.0)
  | inr t ↦ sym (at_other m k q x t.1)
])

-- Of the state before a step, settling only asks which pipes had a writer.
pub settle-before : {A : Type 0} (b c u : Core A numbers) → ((p : ℕ) → had_writer b p ≡ had_writer c p) → settle b u ≡ settle c u
unfolding settle
settle-before b c u same = λ i. record u {
  descriptions = λ d. kept_if (is_live u d) (u.descriptions d);
  pipes = λ p. option_map (with_ends (is_open u (PipeNode p)) (nat_lt 0 (readers u p)) (nat_lt 0 (writers u p)) (same p i)) (kept_if (is_kept u (PipeNode p)) (u.pipes p));
  files = λ f. kept_if (is_kept u (FileNode f)) (u.files f);
}

-- what else a pipe is than hung is none of that
pub had-writer-put : {A : Type 0} (c : Core A numbers) (p : ℕ) (x y : Pipe) → y.hung ≡ x.hung → c.pipes p ≡ Some x → (q : ℕ) → had_writer (set_pipe c p y) q ≡ had_writer c q
unfolding writers in_rows in_parked pids
had-writer-put c p x y same is q = ap (λ b. b || nat_lt 0 (writers c q)) (elim (eqb_tells p q) as (λ _. is_hung (set_at nat_eq c.pipes p (Some y) q) ≡ is_hung (c.pipes q)) [
  | inl t ↦ ap (λ b. is_hung (cond b (Some y) (c.pipes q))) t.0 ∙ same ∙ sym (ap is_hung (ap c.pipes (sym t.1) ∙ is))
  | inr t ↦ ap (λ b. is_hung (cond b (Some y) (c.pipes q))) t.0
])

-- what settling looks at and the step didn't touch
pub record Alike {A : Type 0} (c u : Core A numbers) : Type 0 where
  pub descriptions : u.descriptions ≡ c.descriptions
  pub files : u.files ≡ c.files
  pub names : u.names ≡ c.names

-- the same descriptions are live
module _ {A : Type 0} (c u : Core A numbers) (settled : IsSettled c) (alike : Alike c u) (live : (d : ℕ) → is_live u d ≡ is_live c d) where
  same_ends : (node : Node numbers) → SameEnds c u node
  same_ends node = record { forth = λ d l o. (live d ∙ l, (λ i. alike.descriptions i d)); back = λ d l o. (sym (live d) ∙ l, (λ i. alike.descriptions i d)) }

  described_live : (d : ℕ) (y : Description numbers) → u.descriptions d ≡ Some y → is_live u d ≡ true
  described_live d y e = live d ∙ settled-live c settled d y (sym (λ i. alike.descriptions i d) ∙ e)

  file_kept : (f : ℕ) (y : List ℕ) → u.files f ≡ Some y → is_kept u (FileNode f) ≡ true
  file_kept f y e = kept-same c u alike.names (FileNode f) (same_ends (FileNode f)) ∙ settled-file c settled f y (sym (λ i. alike.files i f) ∙ e)

  pipe_kept : (q : ℕ) (y : Pipe) → c.pipes q ≡ Some y → (is_kept u (PipeNode q) ≡ true) × (settled_pipe c u q y ≡ y)
  pipe_kept q y was = (
    kept-same c u alike.names (PipeNode q) (same_ends (PipeNode q)) ∙ (settled-kept c settled q y was).0,
    settled_pipe-same c u alike.names q y (same_ends (PipeNode q)) ∙ (settled-kept c settled q y was).1,
  )

  -- nothing else changed
  pub same-settled : u.pipes ≡ c.pipes → settle c u ≡ u
  same-settled pipes = tidy c u described_live (λ q y e. pipe_kept q y (sym (λ i. pipes i q) ∙ e)) file_kept

  -- a pipe with an end changed, and is hung as it was
  module _ (p : ℕ) (x z : Pipe) (is : c.pipes p ≡ Some x) (held : is_open c (PipeNode p) ≡ true) (same_hung : z.hung ≡ x.hung)
      (pipes : u.pipes ≡ set_at nat_eq c.pipes p (Some z)) where
    here : settled_pipe c u p z ≡ z
    here =
        let had = is_hung (c.pipes p) || has_end c writes (PipeNode p) in
        let h = has_end c reads (PipeNode p) && (not (has_end c writes (PipeNode p)) && had) in
        let was : record x { hung = h } ≡ x = ap (λ b. cond b (record x { hung = h }) empty_pipe) (sym held) ∙ sym (settled_pipe-is c c p x) ∙ (settled-kept c settled p x is).1 in
        settled_pipe-same c u alike.names p z (same_ends (PipeNode p))
        ∙ settled_pipe-is c c p z
        ∙ ap (λ b. cond b (record z { hung = h }) empty_pipe) held
        ∙ ap (λ b. record z { hung = b }) (ap (λ (y : Pipe). y.hung) was ∙ sym same_hung)

    kept : (q : ℕ) (y : Pipe) → u.pipes q ≡ Some y → (is_kept u (PipeNode q) ≡ true) × (settled_pipe c u q y ≡ y)
    kept q y e = elim (eqb_tells p q) as (λ _. (is_kept u (PipeNode q) ≡ true) × (settled_pipe c u q y ≡ y)) [
      | inl t ↦
          let set : set_at nat_eq c.pipes p (Some z) q ≡ Some y = sym (λ i. pipes i q) ∙ e in
          let y_is : z ≡ y = (let s : Some z ≡ Some y = ap (λ b. cond b (Some z) (c.pipes q)) (sym t.0) ∙ set in cc) in
          (ap (λ k. is_kept u (PipeNode k)) (sym t.1) ∙ (pipe_kept p x is).0, ap (λ k. settled_pipe c u k y) (sym t.1) ∙ ap (settled_pipe c u p) (sym y_is) ∙ here ∙ y_is)
      | inr t ↦ pipe_kept q y (sym (at_other c.pipes p q (Some z) t.1) ∙ sym (λ i. pipes i q) ∙ e)
    ]

    pub changed-settled : settle c u ≡ u
    changed-settled = tidy c u described_live kept file_kept

module _ {A : Type 0} (c u : Core A numbers) (gone : ℕ) where
  -- what is left of the descriptions
  abbrev pub left : Core A numbers
  left = record u { descriptions = set_at nat_eq c.descriptions gone None }

  -- what of the pipes and the files, where the description was on the node: only that node is looked at
  abbrev pub pipes_left : Node numbers → ℕ → Option Pipe
  pipes_left (PipeNode p) = set_at nat_eq c.pipes p (option_map (settled_pipe c left p) (kept_if (is_kept left (PipeNode p)) (c.pipes p)))
  pipes_left (FileNode f) = c.pipes

  abbrev pub files_left : Node numbers → ℕ → Option (List ℕ)
  files_left (PipeNode p) = c.files
  files_left (FileNode f) = set_at nat_eq c.files f (kept_if (is_kept left (FileNode f)) (c.files f))

-- A description isn't live any more, and all others are as they were.
module _ {A : Type 0} (c u : Core A numbers) (settled : IsSettled c) (alike : Alike c u) (same_pipes : u.pipes ≡ c.pipes) (gone : ℕ) (x : Description numbers)
    (described : c.descriptions gone ≡ Some x) (others : (d : ℕ) → d ≢ gone → is_live u d ≡ is_live c d) (dead : is_live u gone ≡ false) where
  abbrev rest : Core A numbers
  rest = left c u gone

  -- each description of before is there
  there : (d : ℕ) → u.descriptions d ≡ c.descriptions d
  there d = λ i. alike.descriptions i d

  live_of_left : (d : ℕ) → is_live rest d ≡ is_live u d
  unfolding in_rows in_parked pids
  live_of_left d = refl

  -- each description that is left is live
  pub left_lives : (d : ℕ) (y : Description numbers) → rest.descriptions d ≡ Some y → is_live rest d ≡ true
  left_lives d y e = elim (eqb_tells gone d) as (λ _. is_live rest d ≡ true) [
    | inl t ↦ (let none : None ≡ Some y = ap (λ b. cond b None (c.descriptions d)) (sym t.0) ∙ e in absurd (cc))
    | inr t ↦ live_of_left d ∙ others d (λ s. t.1 (sym s)) ∙ settled-live c settled d y (sym (at_other c.descriptions gone d None t.1) ∙ e)
  ]

  -- the live descriptions on a node are those that are left
  left_ends : (node : Node numbers) → SameEnds rest u node
  left_ends node = record { forth = λ d l o. (sym (live_of_left d) ∙ l, agree d (sym (live_of_left d) ∙ l)); back = λ d l o. (live_of_left d ∙ l, agree d l) }
    where
      agree : (d : ℕ) → is_live u d ≡ true → u.descriptions d ≡ rest.descriptions d
      agree d l = elim (eqb_tells gone d) as (λ _. u.descriptions d ≡ rest.descriptions d) [
        | inl t ↦ (let f : false ≡ true = sym dead ∙ ap (is_live u) t.1 ∙ l in absurd (cc))
        | inr t ↦ there d ∙ sym (at_other c.descriptions gone d None t.1)
      ]

  -- another node has the ends that it had
  other_ends : (node : Node numbers) → same_node x.node node ≡ false → SameEnds c u node
  other_ends node off = record { forth = forth; back = λ d l o. (at_live d l, there d) }
    where
      forth : (d : ℕ) → is_live c d ≡ true → is_on node (c.descriptions d) ≡ true → (is_live u d ≡ true) × (u.descriptions d ≡ c.descriptions d)
      forth d l o = elim (eqb_tells d gone) as (λ _. (is_live u d ≡ true) × (u.descriptions d ≡ c.descriptions d)) [
        | inl t ↦ (
            let here : is_on node (Some x) ≡ true = ap (is_on node) (sym described) ∙ ap (λ z. is_on node (c.descriptions z)) (sym t.1) ∙ o in
            let f : false ≡ true = (λ i. sym off i && true) ∙ here in
            absurd (cc))
        | inr t ↦ (others d t.1 ∙ l, there d)
      ]

      at_live : (d : ℕ) → is_live u d ≡ true → is_live c d ≡ true
      at_live d l = elim (eqb_tells d gone) as (λ _. is_live c d ≡ true) [
        | inl t ↦ (let f : false ≡ true = sym dead ∙ ap (is_live u) (sym t.1) ∙ l in absurd (cc))
        | inr t ↦ sym (others d t.1) ∙ l
      ]

  -- a node has the ends, and is kept, as what is left has it
  kept_as : (node : Node numbers) → is_kept u node ≡ is_kept rest node
  kept_as node = kept-same rest u refl node (left_ends node)

  pipe_as : (p : ℕ) (y : Pipe) → settled_pipe c u p y ≡ settled_pipe c rest p y
  pipe_as p y =
      settled_pipe-is c u p y
      ∙ (λ i. with_ends (ends any_mode i) (ends reads i) (ends writes i) (is_hung (c.pipes p) || has_end c writes (PipeNode p)) y)
      ∙ sym (settled_pipe-is c rest p y)
    where
      ends : (test : Mode → Bool) → has_end u test (PipeNode p) ≡ has_end rest test (PipeNode p)
      ends = has_end-same rest u (PipeNode p) (left_ends (PipeNode p))

  abbrev at_pipe : ℕ → Option Pipe → Option Pipe
  at_pipe q o = option_map (settled_pipe c u q) (kept_if (is_kept u (PipeNode q)) o)

  abbrev at_file : ℕ → Option (List ℕ) → Option (List ℕ)
  at_file f o = kept_if (is_kept u (FileNode f)) o

  -- what is of another node stays
  pipe_stays : (q : ℕ) → same_node x.node (PipeNode q) ≡ false → at_pipe q (c.pipes q) ≡ c.pipes q
  pipe_stays q off = by (c.pipes q) refl
    where
      by : (o : Option Pipe) → c.pipes q ≡ o → at_pipe q o ≡ o
      by None e = ap (option_map (settled_pipe c u q)) (nothing_kept (is_kept u (PipeNode q)))
      by (Some z) e =
          let same = other_ends (PipeNode q) off in
          ap (λ b. option_map (settled_pipe c u q) (kept_if b (Some z))) (kept-same c u alike.names (PipeNode q) same ∙ (settled-kept c settled q z e).0)
          ∙ ap (λ y. Some y) (settled_pipe-same c u alike.names q z same ∙ (settled-kept c settled q z e).1)

  file_stays : (f : ℕ) → same_node x.node (FileNode f) ≡ false → at_file f (c.files f) ≡ c.files f
  file_stays f off = by (c.files f) refl
    where
      by : (o : Option (List ℕ)) → c.files f ≡ o → at_file f o ≡ o
      by None e = nothing_kept (is_kept u (FileNode f))
      by (Some z) e = ap (λ b. kept_if b (Some z)) (kept-same c u alike.names (FileNode f) (other_ends (FileNode f) off) ∙ settled-file c settled f z e)

  -- what is of its own is as what is left of the ends has it
  pipe_goes : (q : ℕ) → at_pipe q (c.pipes q) ≡ option_map (settled_pipe c rest q) (kept_if (is_kept rest (PipeNode q)) (c.pipes q))
  pipe_goes q = λ i. option_map (fun_ext (pipe_as q) i) (kept_if (kept_as (PipeNode q) i) (c.pipes q))

  file_goes : (f : ℕ) → at_file f (c.files f) ≡ kept_if (is_kept rest (FileNode f)) (c.files f)
  file_goes f = ap (λ b. kept_if b (c.files f)) (kept_as (FileNode f))

  -- so all nodes are as before, but for its own
  pipes_at : (n : Node numbers) → x.node ≡ n → (q : ℕ) → at_pipe q (c.pipes q) ≡ pipes_left c u gone n q
  pipes_at (PipeNode p) is q = elim (eqb_tells p q) as (λ _. at_pipe q (c.pipes q) ≡ pipes_left c u gone (PipeNode p) q) [
    | inl t ↦ ap (λ k. at_pipe k (c.pipes k)) (sym t.1) ∙ pipe_goes p ∙ sym (ap (λ b. cond b (option_map (settled_pipe c rest p) (kept_if (is_kept rest (PipeNode p)) (c.pipes p))) (c.pipes q)) t.0)
    | inr t ↦ pipe_stays q ((λ i. same_node (is i) (PipeNode q)) ∙ t.0) ∙ sym (at_other c.pipes p q (option_map (settled_pipe c rest p) (kept_if (is_kept rest (PipeNode p)) (c.pipes p))) t.1)
  ]
  pipes_at (FileNode f) is q = pipe_stays q (λ i. same_node (is i) (PipeNode q))

  files_at : (n : Node numbers) → x.node ≡ n → (f : ℕ) → at_file f (c.files f) ≡ files_left c u gone n f
  files_at (PipeNode p) is f = file_stays f (λ i. same_node (is i) (FileNode f))
  files_at (FileNode g) is f = elim (eqb_tells g f) as (λ _. at_file f (c.files f) ≡ files_left c u gone (FileNode g) f) [
    | inl t ↦ ap (λ k. at_file k (c.files k)) (sym t.1) ∙ file_goes g ∙ sym (ap (λ b. cond b (kept_if (is_kept rest (FileNode g)) (c.files g)) (c.files f)) t.0)
    | inr t ↦ file_stays f ((λ i. same_node (is i) (FileNode f)) ∙ t.0) ∙ sym (at_other c.files g f (kept_if (is_kept rest (FileNode g)) (c.files g)) t.1)
  ]

  pub gone-settled : settle c u ≡ record rest { pipes = pipes_left c u gone x.node; files = files_left c u gone x.node }
  gone-settled = settles_to c u (set_at nat_eq c.descriptions gone None) (pipes_left c u gone x.node) (files_left c u gone x.node) at_d
      (λ q. (λ i. at_pipe q (same_pipes i q)) ∙ pipes_at x.node refl q)
      (λ f. (λ i. at_file f (alike.files i f)) ∙ files_at x.node refl f)
    where
      kept : (d : ℕ) (o : Option (Description numbers)) → c.descriptions d ≡ o → d ≢ gone → kept_if (is_live u d) o ≡ o
      kept d None e n = nothing_kept (is_live u d)
      kept d (Some z) e n = ap (λ b. kept_if b (Some z)) (others d n ∙ settled-live c settled d z e)

      at_d : (d : ℕ) → kept_if (is_live u d) (u.descriptions d) ≡ set_at nat_eq c.descriptions gone None d
      at_d d = elim (eqb_tells gone d) as (λ _. kept_if (is_live u d) (u.descriptions d) ≡ set_at nat_eq c.descriptions gone None d) [
        | inl t ↦ ap (λ b. kept_if b (u.descriptions d)) (ap (is_live u) (sym t.1) ∙ dead) ∙ sym (ap (λ b. cond b None (c.descriptions d)) t.0)
        | inr t ↦ ap (kept_if (is_live u d)) (there d) ∙ kept d (c.descriptions d) refl (λ s. t.1 (sym s)) ∙ sym (at_other c.descriptions gone d None t.1)
      ]
