-- What is kept under keys goes on standing for the state, whichever unused keys a step takes.
use Rattle.std.specs.Prelude.{ℕ, zero, suc, ◌+◌, ◌≤◌, ◌≡◌, ◌≢◌, nat_eq, Bool, true, false, List, [], ◌∷◌, map, Option, Some, None, All, IfSome, if◌then◌else◌, option_map}
use Rattle.std.proofs.Common.{refl, sym, ◌∙◌, ap, subst, inl, inr, arith}
use Rattle.std.proofs.lemmas.List.Folds.{map_fixed, list_any-append, list_any_none}
use Rattle.std.specs.Set.{is_member}
use Rattle.std.specs.List.{list_any, flat_map, filter_map, cons_option}
use Rattle.std.specs.Prelude.{◌||◌, ◌&&◌}
use Rattle.std.proofs.lemmas.Bool.{eq-eqb, ne_eqb}
use Rattle.std.proofs.lemmas.Bool.Decides.{eqb_tells}
use Rattle.pl_model.specs.declared.calls.Mode.{Mode}
use Rattle.pl_model.specs.declared.calls.Step.{Step}
use Rattle.pl_model.specs.declared.replies.Reply.{Reply}
use Rattle.pl_model.specs.Keys.{Node, NewKeys, PipeNode, FileNode, Drawing, Plain, Draws, drawn, drawing_map, same_node}
use Rattle.pl_model.specs.State.{Core, Description, Waiting}
use Rattle.pl_model.specs.Numbers.{numbers_from}
use Rattle.pl_model.specs.Tables.{descriptor_limit}
use Rattle.pl_model.specs.Live.{is_live, in_rows, in_parked, in_use, pids, is_end, is_open, has_name}
use Rattle.pl_model.specs.Settle.{settle, settled_pipe, is_kept}
use Rattle.pl_model.specs.Modes.{any_mode}
use Rattle.pl_model.specs.Map.{kept_if}
use Rattle.pl_model.specs.Trial.{Flow}
use Rattle.pl_model.specs.Step.{Stepped, happen, core_step, ended}
use Rattle.pl_model.specs.Numbered.{numbers, State, next_numbers, step_of, step}
use Rattle.pl_model.specs.Renaming.{Renaming, Renamings, rename, rename_node, rename_description, rename_waiting, rename_flow, rename_stepped, rename_back, rename_drawing}
use Rattle.pl_model.specs.StandsFor.{IsUnusedDescription, IsUnusedNode, IsUnusedPipe, IsUnusedFile, AreUnused, IsBelowCounters, StandsFor, Comes}
use Rattle.pl_model.proofs.renaming.Renames.{core_step-rename}

unfoldable exchange : ℕ → ℕ → ℕ → ℕ
exchange a b x = if nat_eq x a then b else (if nat_eq x b then a else x)

exchange_twice : (a b x : ℕ) → exchange a b (exchange a b x) ≡ x
unfolding exchange
exchange_twice a b x = grind arith

-- changes two numbers for each other
abbrev swap : ℕ → ℕ → Renaming
swap a b = record { to = exchange a b; back = exchange a b; to-back = exchange_twice a b; back-to = exchange_twice a b }

abbrev same : Renaming
same = record { to = λ x. x; back = λ x. x; to-back = λ x. refl; back-to = λ x. refl }

abbrev after : Renaming → Renaming → Renaming
after r q = record {
  to = λ x. r.to (q.to x);
  back = λ x. q.back (r.back x);
  to-back = λ b. ap r.to (q.to-back (r.back b)) ∙ r.to-back b;
  back-to = λ a. ap q.back (r.back-to (q.to a)) ∙ q.back-to a;
}

abbrev all_after : Renamings → Renamings → Renamings
all_after r q = record { description = after r.description q.description; pipe = after r.pipe q.pipe; file = after r.file q.file }

exchange-other : (a b x : ℕ) → x ≢ a → x ≢ b → exchange a b x ≡ x
unfolding exchange
exchange-other a b x n m = grind arith

exchange-first : (a b : ℕ) → exchange a b a ≡ b
unfolding exchange
exchange-first a b = grind arith

exchange-second : (a b : ℕ) → exchange a b b ≡ a
unfolding exchange
exchange-second a b = grind arith

map_same : {X : Type 0} (f : X → X) → ((x : X) → f x ≡ x) → (xs : List X) → map f xs ≡ xs
map_same f h [] = refl
map_same f h (x ∷ xs) = λ i. h x i ∷ map_same f h xs i

map_both : {X Y Z : Type 0} (f : Y → Z) (g : X → Y) (h : X → Z) → ((x : X) → f (g x) ≡ h x) → (xs : List X) → map f (map g xs) ≡ map h xs
map_both f g h e [] = refl
map_both f g h e (x ∷ xs) = λ i. e x i ∷ map_both f g h e xs i

abbrev one_desc : Renaming → Renamings
one_desc r = record { description = r; pipe = same; file = same }

abbrev one_nodes : Renaming → Renaming → Renamings
one_nodes r q = record { description = same; pipe = r; file = q }

fixed_option : {X : Type 0} (f : X → X) (o : Option X) → IfSome o (λ x. f x ≡ x) → option_map f o ≡ o
fixed_option f None h = refl
fixed_option f (Some x) h = ap (λ y. Some y) h

kept_node : (r : Renaming) (x : Node numbers) → rename_node (one_desc r) x ≡ x
kept_node r (PipeNode p) = refl
kept_node r (FileNode f) = refl

unmoved_description : (r : Renaming) (x : Description numbers) → rename_description (one_desc r) x ≡ x
unmoved_description r x = λ i. record { node = kept_node r x.node i; mode = x.mode; flags = x.flags; offset = x.offset }

same_option_description : (r : Renaming) (o : Option (Description numbers)) → option_map (rename_description (one_desc r)) o ≡ o
same_option_description r None = refl
same_option_description r (Some x) = ap (λ y. Some y) (unmoved_description r x)

-- an option that is not one of two values
fixed_name : (a b : ℕ) (o : Option ℕ) → o ≢ Some a → o ≢ Some b → option_map (exchange a b) o ≡ o
fixed_name a b None n m = refl
fixed_name a b (Some x) n m = ap (λ y. Some y) (exchange-other a b x (λ e. n (ap (λ y. Some y) e)) (λ e. m (ap (λ y. Some y) e)))

-- a map that has nothing at two keys
fixed_map : {V : Type 0} (a b : ℕ) (m : ℕ → Option V) → m a ≡ None → m b ≡ None → (x : ℕ) → m (exchange a b x) ≡ m x
fixed_map {V} a b m na nb x =
    elim (eqb_tells x a) as (λ _. m (exchange a b x) ≡ m x) [
      | inl e ↦ ap m (ap (exchange a b) e.1 ∙ exchange-first a b) ∙ nb ∙ sym na ∙ ap m (sym e.1)
      | inr e ↦ elim (eqb_tells x b) as (λ _. m (exchange a b x) ≡ m x) [
        | inl f ↦ ap m (ap (exchange a b) f.1 ∙ exchange-second a b) ∙ na ∙ sym nb ∙ ap m (sym f.1)
        | inr f ↦ ap m (exchange-other a b x e.1 f.1)
      ]
    ]

module _ {A : Type 0} (c : Core A numbers) where
  -- two unused numbers of descriptions may change places
  fixed_desc : (a b : ℕ) → IsUnusedDescription c a → IsUnusedDescription c b → rename (one_desc (swap a b)) c ≡ c
  fixed_desc a b ua ub = λ i. record {
    processes = c.processes;
    rows = λ pid fd. fixed_name a b (c.rows pid fd) (ua.rows pid fd) (ub.rows pid fd) i;
    descriptions = λ d. (same_option_description (swap a b) (c.descriptions (exchange a b d)) ∙ fixed_map a b c.descriptions ua.descriptions ub.descriptions d) i;
    pipes = c.pipes;
    files = c.files;
    names = map_same (λ e. (e.0, rename_node (one_desc (swap a b)) e.1)) (λ e j. (e.0, kept_node (swap a b) e.1 j)) c.names i;
    parked = map_fixed (λ e. (e.0, rename_waiting (one_desc (swap a b)) e.1)) c.parked (λ k d h. fixed_parked _ (ua.parked k d h) (ub.parked k d h)) i;
    next_call = c.next_call;
    limits = c.limits;
  }
    where
      fixed_parked : (e : ℕ × Waiting A numbers) → All (λ k. k ≢ a) e.1.kept → All (λ k. k ≢ b) e.1.kept → (e.0, rename_waiting (one_desc (swap a b)) e.1) ≡ e
      fixed_parked e na nb = λ i. (
        e.0,
        record {
          pid = e.1.pid;
          call = e.1.call;
          kept = map_fixed (exchange a b) e.1.kept (λ k d h. exchange-other a b _ (na k d h) (nb k d h)) i;
          taken = e.1.taken;
          met = e.1.met;
        },
      )

  -- two unused numbers of pipes, and two of files, may change places
  fixed_nodes : (a b f g : ℕ) → IsUnusedPipe c a → IsUnusedPipe c b → IsUnusedFile c f → IsUnusedFile c g → rename (one_nodes (swap a b) (swap f g)) c ≡ c
  fixed_nodes a b f g ua ub uf ug = λ i. record {
    processes = c.processes;
    rows = λ pid fd. same_name (c.rows pid fd) i;
    descriptions = λ d. fixed_option (rename_description (one_nodes (swap a b) (swap f g))) (c.descriptions d) (both (c.descriptions d) (ua.node.descriptions d) (ub.node.descriptions d) (uf.node.descriptions d) (ug.node.descriptions d)) i;
    pipes = λ p. fixed_map a b c.pipes ua.pipes ub.pipes p i;
    files = λ p. fixed_map f g c.files uf.files ug.files p i;
    names = map_fixed (λ e. (e.0, rename_node (one_nodes (swap a b) (swap f g)) e.1)) c.names (λ k d h. named _ (ua.node.names k d h) (ub.node.names k d h) (uf.node.names k d h) (ug.node.names k d h)) i;
    parked = map_same (λ e. (e.0, rename_waiting (one_nodes (swap a b) (swap f g)) e.1)) (λ e j. (e.0, record { pid = e.1.pid; call = e.1.call; kept = map_same (λ k. k) (λ _. refl) e.1.kept j; taken = e.1.taken; met = e.1.met })) c.parked i;
    next_call = c.next_call;
    limits = c.limits;
  }
    where
      same_name : (o : Option ℕ) → option_map (λ x. x) o ≡ o
      same_name None = refl
      same_name (Some x) = refl

      node : (x : Node numbers) → x ≢ PipeNode a → x ≢ PipeNode b → x ≢ FileNode f → x ≢ FileNode g → rename_node (one_nodes (swap a b) (swap f g)) x ≡ x
      node (PipeNode p) n m k l = ap (λ q. PipeNode q) (exchange-other a b p (λ e. n (ap (λ q. PipeNode q) e)) (λ e. m (ap (λ q. PipeNode q) e)))
      node (FileNode p) n m k l = ap (λ q. FileNode q) (exchange-other f g p (λ e. k (ap (λ q. FileNode q) e)) (λ e. l (ap (λ q. FileNode q) e)))

      named : (e : List ℕ × Node numbers) → e.1 ≢ PipeNode a → e.1 ≢ PipeNode b → e.1 ≢ FileNode f → e.1 ≢ FileNode g → (e.0, rename_node (one_nodes (swap a b) (swap f g)) e.1) ≡ e
      named e n m k l = λ j. (e.0, node e.1 n m k l j)

      both : (o : Option (Description numbers)) → IfSome o (λ x. x.node ≢ PipeNode a) → IfSome o (λ x. x.node ≢ PipeNode b) → IfSome o (λ x. x.node ≢ FileNode f) → IfSome o (λ x. x.node ≢ FileNode g) → IfSome o (λ x. rename_description (one_nodes (swap a b) (swap f g)) x ≡ x)
      both None n m k l = tt
      both (Some x) n m k l = λ i. record { node = node x.node n m k l i; mode = x.mode; flags = x.flags; offset = x.offset }

-- names under one renaming and then another
both_option : {X Y Z : Type 0} (f : Y → Z) (g : X → Y) (h : X → Z) → ((x : X) → f (g x) ≡ h x) → (o : Option X) → option_map f (option_map g o) ≡ option_map h o
both_option f g h e None = refl
both_option f g h e (Some x) = λ i. Some (e x i)

module _ (r q : Renamings) where
  both_node : (x : Node numbers) → rename_node r (rename_node q x) ≡ rename_node (all_after r q) x
  both_node (PipeNode p) = refl
  both_node (FileNode f) = refl

  both_description : (x : Description numbers) → rename_description r (rename_description q x) ≡ rename_description (all_after r q) x
  both_description x = λ i. record { node = both_node x.node i; mode = x.mode; flags = x.flags; offset = x.offset }

  rename_after : {A : Type 0} (c : Core A numbers) → rename r (rename q c) ≡ rename (all_after r q) c
  rename_after {A} c = λ i. record {
    processes = c.processes;
    rows = λ pid fd. both_option r.description.to q.description.to (all_after r q).description.to (λ _. refl) (c.rows pid fd) i;
    descriptions = λ d. both_option (rename_description r) (rename_description q) (rename_description (all_after r q)) both_description (c.descriptions ((all_after r q).description.back d)) i;
    pipes = (rename (all_after r q) c).pipes;
    files = (rename (all_after r q) c).files;
    names = map_both (λ (e : List ℕ × Node numbers). (e.0, rename_node r e.1)) (λ (e : List ℕ × Node numbers). (e.0, rename_node q e.1)) (λ (e : List ℕ × Node numbers). (e.0, rename_node (all_after r q) e.1)) (λ e j. (e.0, both_node e.1 j)) c.names i;
    parked = map_both (λ (e : ℕ × Waiting A numbers). (e.0, rename_waiting r e.1)) (λ (e : ℕ × Waiting A numbers). (e.0, rename_waiting q e.1)) (λ (e : ℕ × Waiting A numbers). (e.0, rename_waiting (all_after r q) e.1)) (λ e j. (
      e.0,
      record {
        pid = e.1.pid;
        call = e.1.call;
        taken = e.1.taken;
        met = e.1.met;
        kept = map_both r.description.to q.description.to (all_after r q).description.to (λ _. refl) e.1.kept j;
      },
    )) c.parked i;
    next_call = c.next_call;
    limits = c.limits;
  }

  flow_after : (f : Flow numbers) → rename_flow r (rename_flow q f) ≡ rename_flow (all_after r q) f
  flow_after f = λ i. record {
    out = both_option (λ (o : ℕ × ℕ). (r.pipe.to o.0, o.1)) (λ (o : ℕ × ℕ). (q.pipe.to o.0, o.1)) (λ (o : ℕ × ℕ). (r.pipe.to (q.pipe.to o.0), o.1)) (λ _. refl) f.out i;
    into = both_option (λ (o : ℕ × List ℕ). (r.pipe.to o.0, o.1)) (λ (o : ℕ × List ℕ). (q.pipe.to o.0, o.1)) (λ (o : ℕ × List ℕ). (r.pipe.to (q.pipe.to o.0), o.1)) (λ _. refl) f.into i;
  }

all_unmap : {X Y : Type 0} (P : X → Type 0) (f : Y → X) (ys : List Y) → All P (map f ys) → All (λ y. P (f y)) ys
all_unmap P f [] h k d l = absurd (omega arith)
all_unmap P f (y ∷ ys) h zero d l = h 0 (f y) (omega arith)
all_unmap P f (y ∷ ys) h (suc k) d l = all_unmap P f ys (λ j e m. h (suc j) e (omega arith)) k d (omega arith)

-- what was unused under other names is unused
module _ {A : Type 0} (r : Renamings) (c : Core A numbers) where
  no_option : {X Y : Type 0} (f : X → Y) (o : Option X) → option_map f o ≡ None → o ≡ None
  no_option f None e = refl
  no_option f (Some x) e = absurd (cc)

  unused_desc : (d : ℕ) → IsUnusedDescription (rename r c) d → IsUnusedDescription c (r.description.back d)
  unused_desc d u = record {
    rows = λ pid fd e. u.rows pid fd (ap (option_map r.description.to) e ∙ ap (λ y. Some y) (r.description.to-back d));
    descriptions = no_option (rename_description r) (c.descriptions (r.description.back d)) u.descriptions;
    parked = λ k x h j n m q. all_unmap (λ n. n ≢ d) r.description.to _ (all_unmap (λ (e : ℕ × Waiting A numbers). All (λ n. n ≢ d) e.1.kept) (λ e. (e.0, rename_waiting r e.1)) c.parked u.parked k x h) j n m (ap r.description.to q ∙ r.description.to-back d);
  }

  unused_node : (node from : Node numbers) → ((y : Node numbers) → y ≡ from → rename_node r y ≡ node) → IsUnusedNode (rename r c) node → IsUnusedNode c from
  unused_node node from moved u = record {
    descriptions = λ d. at (c.descriptions d) (subst (λ e. IfSome (option_map (rename_description r) (c.descriptions e)) (λ x. x.node ≢ node)) (r.description.back-to d) (u.descriptions (r.description.to d)));
    names = λ k e h q. all_unmap (λ e. e.1 ≢ node) (λ e. (e.0, rename_node r e.1)) c.names u.names k e h (moved _ q);
  }
    where
      at : (o : Option (Description numbers)) → IfSome (option_map (rename_description r) o) (λ x. x.node ≢ node) → IfSome o (λ x. x.node ≢ from)
      at None h = tt
      at (Some x) h = λ e. h (moved x.node e)

  unused_pipe : (p : ℕ) → IsUnusedPipe (rename r c) p → IsUnusedPipe c (r.pipe.back p)
  unused_pipe p u = record { node = unused_node (PipeNode p) (PipeNode (r.pipe.back p)) (λ y q. ap (rename_node r) q ∙ ap (λ y. PipeNode y) (r.pipe.to-back p)) u.node; pipes = u.pipes }

  unused_file : (p : ℕ) → IsUnusedFile (rename r c) p → IsUnusedFile c (r.file.back p)
  unused_file p u = record { node = unused_node (FileNode p) (FileNode (r.file.back p)) (λ y q. ap (rename_node r) q ∙ ap (λ y. FileNode y) (r.file.to-back p)) u.node; files = u.files }

module _ {A : Type 0} (π : Renamings) where
  at_names : (fresh : NewKeys numbers) (a : Drawing numbers (Stepped A numbers)) → drawn fresh (rename_drawing π a) ≡ rename_stepped π (drawn (rename_back π fresh) a)
  at_names fresh (Plain r) = refl
  at_names fresh (Draws f) = refl

module _ {A : Type 0} (k : Core A numbers) (x : Step A) (π : Renamings) (fixes : rename π k ≡ k) where
  fixed_act : rename_drawing π (core_step k x) ≡ core_step k x
  fixed_act = sym (core_step-rename π k x) ∙ ap (λ c. core_step c x) fixes

  -- other unused names give the same under a change of names
  moved_names : (fresh : NewKeys numbers) → drawn fresh (core_step k x) ≡ rename_stepped π (drawn (rename_back π fresh) (core_step k x))
  moved_names fresh = ap (drawn fresh) (sym fixed_act) ∙ at_names π fresh (core_step k x)

-- the keys of the next numbers are unused
pub unused_numbers : {A : Type 0} (k : Core A numbers) (s : State A) (stands : StandsFor k s) → AreUnused k (rename_back stands.numbered (next_numbers s))
unused_numbers k s stands =
    let at : (d : ℕ) → s.next_description ≤ d → IsUnusedDescription (rename stands.numbered k) d = λ d h. subst (λ c. IsUnusedDescription c d) (sym stands.renamed) (stands.below.descriptions d h) in
    record {
      description = unused_desc stands.numbered k s.next_description (at s.next_description (omega arith));
      other_description = unused_desc stands.numbered k (s.next_description + 1) (at (s.next_description + 1) (omega arith));
      apart = λ e. let n : s.next_description ≡ s.next_description + 1 = sym (stands.numbered.description.to-back s.next_description) ∙ ap stands.numbered.description.to e ∙ stands.numbered.description.to-back (s.next_description + 1) in omega arith;
      pipe = unused_pipe stands.numbered k s.next_pipe (subst (λ c. IsUnusedPipe c s.next_pipe) (sym stands.renamed) (stands.below.pipes s.next_pipe (omega arith)));
      file = unused_file stands.numbered k s.next_file (subst (λ c. IsUnusedFile c s.next_file) (sym stands.renamed) (stands.below.files s.next_file (omega arith)));
    }

-- some keys are unused, wherever keys stand for numbers
pub unused_keys : {A : Type 0} (k : Core A numbers) (s : State A) → StandsFor k s → (keys : NewKeys numbers) × AreUnused k keys
unused_keys k s stands = (rename_back stands.numbered (next_numbers s), unused_numbers k s stands)

module _ {A : Type 0} (k : Core A numbers) (s : State A) (x : Step A) (keys : NewKeys numbers) (stands : StandsFor k s) (unused : AreUnused k keys) where
  r : Renamings
  r = stands.numbered

  b : NewKeys numbers
  unfolding r
  b = rename_back r (next_numbers s)

  -- takes the second of the keys out of the way of the first
  e : ℕ
  unfolding b
  e = exchange keys.description b.description keys.other_description

  π : Renamings
  unfolding b e
  π = all_after (one_desc (swap e b.other_description)) (all_after (one_desc (swap keys.description b.description)) (one_nodes (swap keys.pipe b.pipe) (swap keys.file b.file)))

  unused_b : AreUnused k b
  unfolding r b
  unused_b = unused_numbers k s stands

  unused_e : IsUnusedDescription k e
  unfolding e
  unused_e = elim (eqb_tells keys.other_description b.description) as (λ _. IsUnusedDescription k (exchange keys.description b.description keys.other_description)) [
    | inl h ↦ subst (IsUnusedDescription k) (sym (ap (exchange keys.description b.description) h.1 ∙ exchange-second keys.description b.description)) unused.description
    | inr h ↦ subst (IsUnusedDescription k) (sym (exchange-other keys.description b.description keys.other_description (λ q. unused.apart (sym q)) h.1)) unused.other_description
  ]

  fixes : rename π k ≡ k
  unfolding π
  fixes =
      sym (rename_after (one_desc (swap e b.other_description)) (all_after (one_desc (swap keys.description b.description)) (one_nodes (swap keys.pipe b.pipe) (swap keys.file b.file))) k)
      ∙ ap (rename (one_desc (swap e b.other_description)))
      (sym (rename_after (one_desc (swap keys.description b.description)) (one_nodes (swap keys.pipe b.pipe) (swap keys.file b.file)) k)
      ∙ ap (rename (one_desc (swap keys.description b.description))) (fixed_nodes k keys.pipe b.pipe keys.file b.file unused.pipe unused_b.pipe unused.file unused_b.file)
      ∙ fixed_desc k keys.description b.description unused.description unused_b.description)
      ∙ fixed_desc k e b.other_description unused_e unused_b.other_description

  back_keys : rename_back π b ≡ keys
  unfolding π e
  back_keys = λ i. record {
    description = first i;
    other_description = second i;
    pipe = exchange-second keys.pipe b.pipe i;
    file = exchange-second keys.file b.file i;
  }
    where
      e' : ℕ
      e' = exchange keys.description b.description keys.other_description

      not_e : b.description ≢ e'
      not_e h = unused.apart (sym (exchange_twice keys.description b.description keys.description) ∙ ap (exchange keys.description b.description) (exchange-first keys.description b.description ∙ h) ∙ exchange_twice keys.description b.description keys.other_description)

      first : exchange keys.description b.description (exchange e' b.other_description b.description) ≡ keys.description
      first = ap (exchange keys.description b.description) (exchange-other e' b.other_description b.description not_e unused_b.apart) ∙ exchange-second keys.description b.description

      second : exchange keys.description b.description (exchange e' b.other_description b.other_description) ≡ keys.other_description
      second = ap (exchange keys.description b.description) (exchange-second e' b.other_description) ∙ exchange_twice keys.description b.description keys.other_description

  -- what the step comes to in the state is what it comes to under the keys
  same_result : drawn (next_numbers s) (core_step s.core x) ≡ rename_stepped (all_after stands.numbered π) (drawn keys (core_step k x))
  unfolding b r
  same_result =
      ap (λ c. drawn (next_numbers s) (core_step c x)) (sym stands.renamed)
      ∙ ap (drawn (next_numbers s)) (core_step-rename stands.numbered k x)
      ∙ at_names stands.numbered (next_numbers s) (core_step k x)
      ∙ ap (rename_stepped stands.numbered)
      (moved_names k x π fixes b ∙ ap (λ f. rename_stepped π (drawn f (core_step k x))) back_keys)
      ∙ (λ i. record { state = rename_after stands.numbered π (drawn keys (core_step k x)).state i; reply = (drawn keys (core_step k x)).reply; flow = flow_after stands.numbered π (drawn keys (core_step k x)).flow i })

  core_of_step : (a : Drawing numbers (Stepped A numbers)) → (step_of s a).state.core ≡ (drawn (next_numbers s) a).state
  core_of_step (Plain z) = refl
  core_of_step (Draws f) = refl

  reply_of_step : (a : Drawing numbers (Stepped A numbers)) → (step_of s a).reply ≡ (drawn (next_numbers s) a).reply
  reply_of_step (Plain z) = refl
  reply_of_step (Draws f) = refl

  -- the machine's step answers what the step under the keys does
  pub same_reply : (drawn keys (core_step k x)).reply ≡ (step s x).reply
  unfolding step
  same_reply = sym (reply_of_step (core_step s.core x) ∙ ap (λ z. z.reply) same_result)

  -- and what is left under the keys stands for the state that it leaves
  pub stands_after : IsBelowCounters (step s x).state → StandsFor (drawn keys (core_step k x)).state (step s x).state
  unfolding step
  stands_after below = record {
    numbered = all_after stands.numbered π;
    renamed = sym (core_of_step (core_step s.core x) ∙ ap (λ z. z.state) same_result);
    below = below;
  }

all_fixed : {X : Type 0} (f : X → X) (xs : List X) → map f xs ≡ xs → All (λ x. f x ≡ x) xs
all_fixed f [] e k d l = absurd (omega arith)
all_fixed f (x ∷ xs) e zero d l = cc
all_fixed f (x ∷ xs) e (suc k) d l = (let t : map f xs ≡ xs = cc in all_fixed f xs t k d (omega arith))

not_moved : (d : ℕ) → exchange d (d + 1) d ≡ d → ⊥
not_moved d e = absurd (omega (arith, exchange-first d (d + 1), e))

pipe_fixed : (p f : ℕ) (y : Node numbers) → rename_node (one_nodes (swap p (p + 1)) (swap f (f + 1))) y ≡ y → y ≢ PipeNode p
pipe_fixed p f y h e =
    let one : PipeNode (exchange p (p + 1) p) ≡ PipeNode p = ap (rename_node (one_nodes (swap p (p + 1)) (swap f (f + 1)))) (sym e) ∙ h ∙ e in
    not_moved p cc

file_fixed : (p f : ℕ) (y : Node numbers) → rename_node (one_nodes (swap p (p + 1)) (swap f (f + 1))) y ≡ y → y ≢ FileNode f
file_fixed p f y h e =
    let one : FileNode (exchange f (f + 1) f) ≡ FileNode f = ap (rename_node (one_nodes (swap p (p + 1)) (swap f (f + 1)))) (sym e) ∙ h ∙ e in
    not_moved f cc

fixed_description : (r : Renamings) (node : Node numbers) → ((y : Node numbers) → rename_node r y ≡ y → y ≢ node) → (o : Option (Description numbers)) → option_map (rename_description r) o ≡ o → IfSome o (λ y. y.node ≢ node)
fixed_description r node off None f = tt
fixed_description r node off (Some y) f =
    let g : rename_description r y ≡ y = cc in
    off y.node (ap (λ z. z.node) g)

none_flat : {X : Type 0} (d : ℕ) (f : X → List ℕ) (xs : List X) → All (λ x. is_member nat_eq (f x) d ≡ false) xs → is_member nat_eq (flat_map f xs) d ≡ false
none_flat d f [] h = refl
none_flat d f (x ∷ xs) h = list_any-append (nat_eq d) (f x) (flat_map f xs) ∙ (λ i. h 0 x (omega arith) i || none_flat d f xs (λ k y l. h (suc k) y (omega arith)) i)

none_filter_map : (d : ℕ) (h : ℕ → Option ℕ) → ((k : ℕ) → h k ≢ Some d) → (ks : List ℕ) → is_member nat_eq (filter_map h ks) d ≡ false
none_filter_map d h n [] = refl
none_filter_map d h n (k ∷ ks) = by (none_filter_map d h n ks) (h k) refl
  where
    by : is_member nat_eq (filter_map h ks) d ≡ false → (o : Option ℕ) → h k ≡ o → is_member nat_eq (cons_option o (filter_map h ks)) d ≡ false
    by rest None e = rest
    by rest (Some y) e = λ i. ne_eqb d y (λ q. n k (e ∙ ap (λ z. Some z) (sym q))) i || rest i

none_kept : (d : ℕ) (ks : List ℕ) → All (λ k. k ≢ d) ks → is_member nat_eq ks d ≡ false
none_kept d ks h = list_any_none (nat_eq d) ks (λ k x l. ne_eqb d _ (λ e. h k x l (sym e)))

none_held : (t : ℕ → Bool) (xs : List ℕ) → ((d : ℕ) → is_member nat_eq xs d ≡ true → t d ≡ false) → list_any t xs ≡ false
none_held t [] h = refl
none_held t (x ∷ xs) h =
    (λ i. h x (ap (λ b. b || is_member nat_eq xs x) (eq-eqb x x refl)) i || list_any t xs)
    ∙ none_held t xs (λ d m. h d (ap (λ b. nat_eq d x || b) m ∙ or_true (nat_eq d x)))
  where
    or_true : (b : Bool) → (b || true) ≡ true
    or_true true = refl
    or_true false = refl

off_node : (z node : Node numbers) → z ≢ node → same_node {K = numbers} z node ≡ false
off_node (PipeNode q) (PipeNode p) n = ne_eqb q p (λ e. n (ap (λ z. PipeNode z) e))
off_node (FileNode q) (FileNode p) n = ne_eqb q p (λ e. n (ap (λ z. FileNode z) e))
off_node (PipeNode q) (FileNode p) n = refl
off_node (FileNode q) (PipeNode p) n = refl

not_end : (test : Mode → Bool) (node : Node numbers) (o : Option (Description numbers)) → IfSome o (λ y. y.node ≢ node) → is_end test node o ≡ false
not_end test node None h = refl
not_end test node (Some y) h = ap (λ b. b && test y.mode) (off_node y.node node h)

-- A step takes no names but the next ones: other unused names may change places in what it leaves.
module _ {A : Type 0} (s : State A) (x : Step A) (below : IsBelowCounters s) where
  same_next_desc : (a b : ℕ) (z : Drawing numbers (Stepped A numbers)) → (step_of s z).state.next_description ≤ a → (step_of s z).state.next_description ≤ b
      → drawn (rename_back (one_desc (swap a b)) (next_numbers s)) z ≡ drawn (next_numbers s) z
  same_next_desc a b (Plain r) h l = refl
  same_next_desc a b (Draws f) h l = λ i. f (record {
    description = exchange-other a b s.next_description (λ e. absurd (omega arith)) (λ e. absurd (omega arith)) i;
    other_description = exchange-other a b (s.next_description + 1) (λ e. absurd (omega arith)) (λ e. absurd (omega arith)) i;
    pipe = s.next_pipe;
    file = s.next_file;
  })

  same_next_nodes : (a b f g : ℕ) (z : Drawing numbers (Stepped A numbers)) → (step_of s z).state.next_pipe ≤ a → (step_of s z).state.next_pipe ≤ b → (step_of s z).state.next_file ≤ f → (step_of s z).state.next_file ≤ g
      → drawn (rename_back (one_nodes (swap a b) (swap f g)) (next_numbers s)) z ≡ drawn (next_numbers s) z
  same_next_nodes a b f g (Plain r) h l m n = refl
  same_next_nodes a b f g (Draws d) h l m n = λ i. d (record {
    description = s.next_description;
    other_description = s.next_description + 1;
    pipe = exchange-other a b s.next_pipe (λ e. absurd (omega arith)) (λ e. absurd (omega arith)) i;
    file = exchange-other f g s.next_file (λ e. absurd (omega arith)) (λ e. absurd (omega arith)) i;
  })

  rises_desc : (z : Drawing numbers (Stepped A numbers)) → s.next_description ≤ (step_of s z).state.next_description
  rises_desc (Plain r) = omega arith
  rises_desc (Draws f) = omega arith

  rises_pipe : (z : Drawing numbers (Stepped A numbers)) → s.next_pipe ≤ (step_of s z).state.next_pipe
  rises_pipe (Plain r) = omega arith
  rises_pipe (Draws f) = omega arith

  rises_file : (z : Drawing numbers (Stepped A numbers)) → s.next_file ≤ (step_of s z).state.next_file
  rises_file (Plain r) = omega arith
  rises_file (Draws f) = omega arith

  core_after : (z : Drawing numbers (Stepped A numbers)) → (step_of s z).state.core ≡ (drawn (next_numbers s) z).state
  core_after (Plain r) = refl
  core_after (Draws f) = refl

  left_desc : (a b : ℕ) → (step s x).state.next_description ≤ a → (step s x).state.next_description ≤ b → rename (one_desc (swap a b)) (step s x).state.core ≡ (step s x).state.core
  unfolding step
  left_desc a b h l =
      let π : Renamings = one_desc (swap a b) in
      let z : Drawing numbers (Stepped A numbers) = core_step s.core x in
      let fixes : rename π s.core ≡ s.core = fixed_desc s.core a b (below.descriptions a (omega (arith, rises_desc z))) (below.descriptions b (omega (arith, rises_desc z))) in
      sym (ap (λ r. r.state) (moved_names s.core x π fixes (next_numbers s) ∙ ap (rename_stepped π) (same_next_desc a b z h l)) ∙ ap (rename π) (sym (core_after z))) ∙ sym (core_after z)

  left_nodes : (a b f g : ℕ) → (step s x).state.next_pipe ≤ a → (step s x).state.next_pipe ≤ b → (step s x).state.next_file ≤ f → (step s x).state.next_file ≤ g → rename (one_nodes (swap a b) (swap f g)) (step s x).state.core ≡ (step s x).state.core
  unfolding step
  left_nodes a b f g h l m n =
      let π : Renamings = one_nodes (swap a b) (swap f g) in
      let z : Drawing numbers (Stepped A numbers) = core_step s.core x in
      let fixes : rename π s.core ≡ s.core = fixed_nodes s.core a b f g (below.pipes a (omega (arith, rises_pipe z))) (below.pipes b (omega (arith, rises_pipe z))) (below.files f (omega (arith, rises_file z))) (below.files g (omega (arith, rises_file z))) in
      sym (ap (λ r. r.state) (moved_names s.core x π fixes (next_numbers s) ∙ ap (rename_stepped π) (same_next_nodes a b f g z h l m n)) ∙ ap (rename π) (sym (core_after z))) ∙ sym (core_after z)

  -- what the step left before its end
  unsettled : Core A numbers
  unsettled = (drawn (next_numbers s) (happen s.core x)).state

  core_ended : (z : Drawing numbers (Stepped A numbers)) → (step_of s (drawing_map (ended s.core) z)).state.core ≡ settle s.core (drawn (next_numbers s) z).state
  core_ended (Plain r) = refl
  core_ended (Draws f) = refl

  is_settled : (step s x).state.core ≡ settle s.core unsettled
  unfolding step core_step unsettled
  is_settled = core_ended (happen s.core x)

  abbrev m : ℕ
  m = (step s x).state.next_description

  abbrev left : Core A numbers
  left = (step s x).state.core

  no_row : (d : ℕ) → m ≤ d → (pid fd : ℕ) → left.rows pid fd ≢ Some d
  no_row d h pid fd e =
      let moved : option_map (exchange d (d + 1)) (left.rows pid fd) ≡ left.rows pid fd = ap (λ z. z.rows pid fd) (left_desc d (d + 1) h (omega arith)) in
      let one : Some (exchange d (d + 1) d) ≡ Some d = ap (option_map (exchange d (d + 1))) (sym e) ∙ moved ∙ e in
      let two : exchange d (d + 1) d ≡ d = cc in
      absurd (omega (arith, exchange-first d (d + 1), two))

  no_kept : (d : ℕ) → m ≤ d → All (λ (e : ℕ × Waiting A numbers). All (λ k. k ≢ d) e.1.kept) left.parked
  no_kept d h k y l j i q e =
      let one = all_fixed (λ e. (e.0, rename_waiting (one_desc (swap d (d + 1))) e.1)) left.parked (ap (λ z. z.parked) (left_desc d (d + 1) h (omega arith))) k y l in
      let two = all_fixed (exchange d (d + 1)) _ (ap (λ (c : ℕ × Waiting A numbers). c.1.kept) one) j i q in
      not_moved d (ap (exchange d (d + 1)) (sym e) ∙ two ∙ e)

  -- what the step leaves is as it was with the numbers from p and f on exchanged
  fixed_left : (p f : ℕ) → (step s x).state.next_pipe ≤ p → (step s x).state.next_file ≤ f → rename (one_nodes (swap p (p + 1)) (swap f (f + 1))) left ≡ left
  fixed_left p f h l = left_nodes p (p + 1) f (f + 1) h (omega arith) l (omega arith)

  no_node : (p f : ℕ) (node : Node numbers) → (step s x).state.next_pipe ≤ p → (step s x).state.next_file ≤ f → ((y : Node numbers) → rename_node (one_nodes (swap p (p + 1)) (swap f (f + 1))) y ≡ y → y ≢ node) → IsUnusedNode left node
  no_node p f node h l off = record {
    descriptions = λ d. fixed_description (one_nodes (swap p (p + 1)) (swap f (f + 1))) node off (left.descriptions d) (ap (λ z. z.descriptions d) (fixed_left p f h l));
    names = λ k y m. off _ (ap (λ e. e.1) (all_fixed (λ e. (e.0, rename_node (one_nodes (swap p (p + 1)) (swap f (f + 1))) e.1)) left.names (ap (λ z. z.names) (fixed_left p f h l)) k y m));
  }

  no_desc : (d : ℕ) → m ≤ d → left.descriptions d ≡ None
  unfolding settle in_rows in_parked pids
  no_desc d h =
      let rows : is_member nat_eq (in_rows left) d ≡ false = none_flat d (λ pid. filter_map (left.rows pid) (numbers_from (descriptor_limit left.limits) 0)) (pids left) (λ k pid l. none_filter_map d (left.rows _) (no_row d h _) (numbers_from (descriptor_limit left.limits) 0)) in
      let parked : is_member nat_eq (in_parked left) d ≡ false = none_flat d (λ (c : ℕ × Waiting A numbers). c.1.kept) left.parked (λ k y l. none_kept d _ (no_kept d h k y l)) in
      let dead : is_live left d ≡ false = list_any-append (nat_eq d) (in_rows left) (in_parked left) ∙ (λ i. rows i || parked i) in
      let same : is_live unsettled d ≡ false = ap (λ z. is_live z d) (sym is_settled) ∙ dead in
      ap (λ z. z.descriptions d) is_settled ∙ ap (λ b. kept_if b (unsettled.descriptions d)) same

  -- a node that nothing is on or stands for was not kept
  not_kept : (node : Node numbers) → IsUnusedNode left node → is_kept unsettled node ≡ false
  unfolding settle
  not_kept node u =
      let kept : (d : ℕ) → is_live unsettled d ≡ true → left.descriptions d ≡ unsettled.descriptions d = λ d l. ap (λ z. z.descriptions d) is_settled ∙ ap (λ b. kept_if b (unsettled.descriptions d)) l in
      let held : is_open unsettled node ≡ false = none_held (λ d. is_end any_mode node (unsettled.descriptions d)) (in_use unsettled) (λ d l. ap (is_end any_mode node) (sym (kept d l)) ∙ not_end any_mode node (left.descriptions d) (u.descriptions d)) in
      let unnamed : has_name unsettled node ≡ false = ap (λ z. has_name z node) (sym is_settled) ∙ list_any_none (λ e. same_node e.1 node) left.names (λ k y l. off_node _ node (u.names k y l)) in
      λ i. held i || unnamed i

  no_pipe : (p : ℕ) → IsUnusedNode left (PipeNode p) → left.pipes p ≡ None
  unfolding settle
  no_pipe p u = ap (λ z. z.pipes p) is_settled ∙ ap (λ b. option_map (settled_pipe s.core unsettled p) (kept_if b (unsettled.pipes p))) (not_kept (PipeNode p) u)

  no_file : (f : ℕ) → IsUnusedNode left (FileNode f) → left.files f ≡ None
  unfolding settle
  no_file f u = ap (λ z. z.files f) is_settled ∙ ap (λ b. kept_if b (unsettled.files f)) (not_kept (FileNode f) u)

  unused_pipes : (p : ℕ) → (step s x).state.next_pipe ≤ p → IsUnusedPipe left p
  unused_pipes p h = (
      let f : ℕ = (step s x).state.next_file in
      let u : IsUnusedNode left (PipeNode p) = no_node p f (PipeNode p) h (omega arith) (pipe_fixed p f) in
      record { node = u; pipes = no_pipe p u })

  unused_files : (f : ℕ) → (step s x).state.next_file ≤ f → IsUnusedFile left f
  unused_files f h = (
      let p : ℕ = (step s x).state.next_pipe in
      let u : IsUnusedNode left (FileNode f) = no_node p f (FileNode f) (omega arith) h (file_fixed p f) in
      record { node = u; files = no_file f u })

  pub below_step : IsBelowCounters (step s x).state
  below_step = record {
    descriptions = λ d h. record { rows = no_row d h; descriptions = no_desc d h; parked = no_kept d h };
    pipes = unused_pipes;
    files = unused_files;
  }

-- Whichever unused keys a step under keys took, it answered what the machine's step does, and what it left stands for the state after.
module _ {A : Type 0} (k new : Core A numbers) (s : State A) (x : Step A) (reply : Reply A) (stands : StandsFor k s) where
  pub came : (a : Drawing numbers (Stepped A numbers)) → core_step k x ≡ a → Comes k a reply new → (reply ≡ (step s x).reply) × StandsFor new (step s x).state
  unfolding step
  came (Plain r) e c =
      let same : core_step s.core x ≡ Plain (rename_stepped stands.numbered r) = ap (λ z. core_step z x) (sym stands.renamed) ∙ core_step-rename stands.numbered k x ∙ ap (rename_drawing stands.numbered) e in (
        c.0 ∙ sym (ap (λ a. (step_of s a).reply) same),
        record {
          numbered = stands.numbered;
          renamed = ap (rename stands.numbered) c.1 ∙ sym (ap (λ a. (step_of s a).state.core) same);
          below = below_step s x stands.below;
        },
      )
  came (Draws f) e c =
      let taken : drawn c.0 (core_step k x) ≡ f c.0 = ap (drawn c.0) e in (
        c.2 ∙ sym (ap (λ r. r.reply) taken) ∙ same_reply k s x c.0 stands c.1,
        subst (λ z. StandsFor z (step s x).state) (ap (λ r. r.state) taken ∙ sym c.3) (stands_after k s x c.0 stands c.1 (below_step s x stands.below)),
      )
