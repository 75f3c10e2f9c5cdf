-- A step under other names is the step, under other names: the machine only compares names.
use Rattle.std.specs.Prelude.{ℕ, nat_eq, Bool, List, [], ◌∷◌, map, Option, Some, None, option_map}
use mathlib.Core.Path.{◌≡◌, PathP, refl, sym, ◌∙◌, ap, subst, transport, transport_refl, path_j, from_path_p}
use mathlib.Core.Equiv.{◌≃◌, iso_to_equiv}
use Rattle.std.proofs.Common.{inl, inr}
use Rattle.std.proofs.lemmas.Bool.{eq-eqb, ne_eqb}
use Rattle.std.proofs.lemmas.Bool.Decides.{eqb_tells}
use Rattle.pl_model.specs.declared.calls.Step.{Step}
use Rattle.pl_model.specs.Keys.{Node, NewKeys, Drawing, PipeNode, FileNode, Plain, Draws}
use Rattle.pl_model.specs.State.{Core, Description, Pipe, Waiting}
use Rattle.pl_model.specs.Settle.{settle}
use Rattle.pl_model.specs.Trial.{Flow}
use Rattle.pl_model.specs.Step.{Stepped, core_step}
use Rattle.pl_model.specs.Numbered.{numbers}
use Rattle.pl_model.specs.Waking.{can_progress}
use Rattle.pl_model.specs.Touching.{touches}
use Rattle.pl_model.specs.Renaming.{Renaming, Renamings, rename, rename_node, rename_description, rename_keys, rename_waiting, rename_flow, rename_stepped, rename_back, rename_drawing}

abbrev equiv : Renaming → ℕ ≃ ℕ
equiv r = iso_to_equiv (record { fun = r.to; inv = r.back; rinv = r.to-back; linv = r.back-to })

abbrev line : Renaming → ℕ ≡ ℕ
line r = λ i. V i ℕ ℕ (equiv r)

line-to : (r : Renaming) (a : ℕ) → transport (line r) a ≡ r.to a
unfolding transport
line-to r a = refl

-- functions over a line of types, from what they give at each value
over_path : {B C : Type 0} (p : B ≡ C) (X : 𝕀 → Type 0) (f : B → X 0) (g : C → X 1) → ((b : B) → PathP X (f b) (g (transport p b))) → PathP (λ i. p i → X i) f g
over_path {B} p X f g h =
    path_j
    (λ C p. (g : C → X 1) → ((b : B) → PathP X (f b) (g (transport p b))) → PathP (λ i. p i → X i) f g)
    (λ g h i b. subst (λ y. PathP X (f b) (g y)) (transport_refl b) (h b) i)
    p g h

over : (r : Renaming) (X : 𝕀 → Type 0) (f : ℕ → X 0) (g : ℕ → X 1) → ((b : ℕ) → PathP X (f b) (g (r.to b))) → PathP (λ i. line r i → X i) f g
over r X f g h = over_path (line r) X f g (λ b. subst (λ y. PathP X (f b) (g y)) (sym (line-to r b)) (h b))

-- a name, and the name it becomes
point : (r : Renaming) (a : ℕ) → PathP (λ i. line r i) a (r.to a)
point r a = λ i. vin i a (r.to a)

same : (r : Renaming) (a b : ℕ) → nat_eq a b ≡ nat_eq (r.to a) (r.to b)
same r a b = elim (eqb_tells a b) as (λ _. nat_eq a b ≡ nat_eq (r.to a) (r.to b)) [
  | inl e ↦ e.0 ∙ sym (eq-eqb (r.to a) (r.to b) (ap r.to e.1))
  | inr e ↦ e.0 ∙ sym (ne_eqb (r.to a) (r.to b) (λ q. e.1 (sym (r.back-to a) ∙ ap r.back q ∙ r.back-to b)))
]

same_line : (r : Renaming) → PathP (λ i. line r i → line r i → Bool) nat_eq nat_eq
same_line r = over r (λ i. line r i → Bool) nat_eq nat_eq (λ a. over r (λ i. Bool) (nat_eq a) (nat_eq (r.to a)) (λ b. same r a b))

transport_is : {B C : Type 0} (p : B ≡ C) (b : B) → coe 0 1 (i. p i) b ≡ transport p b
unfolding transport
transport_is p b = refl

module _ (r : Renamings) where
  abbrev names_line : numbers ≡ numbers
  names_line = λ i. record {
    Description = line r.description i;
    Pipe = line r.pipe i;
    File = line r.file i;
    same_description = same_line r.description i;
    same_pipe = same_line r.pipe i;
    same_file = same_line r.file i;
  }

  node_line : (x : Node numbers) → PathP (λ i. Node (names_line i)) x (rename_node r x)
  node_line (PipeNode p) = λ i. PipeNode (point r.pipe p i)
  node_line (FileNode f) = λ i. FileNode (point r.file f i)

  description_line : (x : Description numbers) → PathP (λ i. Description (names_line i)) x (rename_description r x)
  description_line x = λ i. record { node = node_line x.node i; mode = x.mode; flags = x.flags; offset = x.offset }

  keys_line : (x : NewKeys numbers) → PathP (λ i. NewKeys (names_line i)) x (rename_keys r x)
  keys_line x = λ i. record { description = point r.description x.description i; other_description = point r.description x.other_description i; pipe = point r.pipe x.pipe i; file = point r.file x.file i }

  option_line : (X : 𝕀 → Type 0) (f : X 0 → X 1) → ((x : X 0) → PathP X x (f x)) → (o : Option (X 0)) → PathP (λ i. Option (X i)) o (option_map f o)
  option_line X f h None = λ i. None
  option_line X f h (Some x) = λ i. Some (h x i)

  list_line : (X : 𝕀 → Type 0) (f : X 0 → X 1) → ((x : X 0) → PathP X x (f x)) → (xs : List (X 0)) → PathP (λ i. List (X i)) xs (map f xs)
  list_line X f h [] = λ i. []
  list_line X f h (x ∷ xs) = λ i. h x i ∷ list_line X f h xs i

  waiting_line : {A : Type 0} (x : Waiting A numbers) → PathP (λ i. Waiting A (names_line i)) x (rename_waiting r x)
  waiting_line x = λ i. record {
    pid = x.pid;
    call = x.call;
    kept = list_line (λ i. line r.description i) r.description.to (point r.description) x.kept i;
    taken = x.taken;
    met = x.met;
  }

  flow_line : (x : Flow numbers) → PathP (λ i. Flow (names_line i)) x (rename_flow r x)
  flow_line x = λ i. record {
    out = option_line (λ i. line r.pipe i × ℕ) (λ o. (r.pipe.to o.0, o.1)) (λ o i. (point r.pipe o.0 i, o.1)) x.out i;
    into = option_line (λ i. line r.pipe i × List ℕ) (λ o. (r.pipe.to o.0, o.1)) (λ o i. (point r.pipe o.0 i, o.1)) x.into i;
  }

  core_line : {A : Type 0} (c : Core A numbers) → PathP (λ i. Core A (names_line i)) c (rename r c)
  core_line {A} c = λ i. record {
    processes = c.processes;
    rows = λ pid fd. option_line (λ i. line r.description i) r.description.to (point r.description) (c.rows pid fd) i;
    descriptions = over r.description (λ i. Option (Description (names_line i))) c.descriptions (rename r c).descriptions
        (λ d. subst (λ e. PathP (λ i. Option (Description (names_line i))) (c.descriptions d) (option_map (rename_description r) (c.descriptions e))) (sym (r.description.back-to d))
        (option_line (λ i. Description (names_line i)) (rename_description r) description_line (c.descriptions d))) i;
    pipes = over r.pipe (λ i. Option Pipe) c.pipes (rename r c).pipes (λ p. ap c.pipes (sym (r.pipe.back-to p))) i;
    files = over r.file (λ i. Option (List ℕ)) c.files (rename r c).files (λ f. ap c.files (sym (r.file.back-to f))) i;
    names = list_line (λ i. List ℕ × Node (names_line i)) (λ e. (e.0, rename_node r e.1)) (λ e i. (e.0, node_line e.1 i)) c.names i;
    parked = list_line (λ i. ℕ × Waiting A (names_line i)) (λ e. (e.0, rename_waiting r e.1)) (λ e i. (e.0, waiting_line e.1 i)) c.parked i;
    next_call = c.next_call;
    limits = c.limits;
  }

  stepped_line : {A : Type 0} (x : Stepped A numbers) → PathP (λ i. Stepped A (names_line i)) x (rename_stepped r x)
  stepped_line x = λ i. record { state = core_line x.state i; reply = x.reply; flow = flow_line x.flow i }

  back_keys : (b : NewKeys numbers) → rename_back r (rename_keys r b) ≡ b
  back_keys b = λ i. record { description = r.description.back-to b.description i; other_description = r.description.back-to b.other_description i; pipe = r.pipe.back-to b.pipe i; file = r.file.back-to b.file i }

  draws_line : {A : Type 0} (f : NewKeys numbers → Stepped A numbers) → PathP (λ i. NewKeys (names_line i) → Stepped A (names_line i)) f (λ fresh. rename_stepped r (f (rename_back r fresh)))
  draws_line {A} f =
      let X : 𝕀 → Type 0 = λ i. Stepped A (names_line i) in
      let after : NewKeys numbers → Stepped A numbers = λ fresh. rename_stepped r (f (rename_back r fresh)) in
      let moved : (b : NewKeys numbers) → rename_keys r b ≡ transport (λ i. NewKeys (names_line i)) b = λ b. sym (from_path_p (λ i. NewKeys (names_line i)) (keys_line b)) ∙ transport_is (λ i. NewKeys (names_line i)) b in
      over_path (λ i. NewKeys (names_line i)) X f after
      (λ b. subst (λ y. PathP X (f b) (after y)) (moved b)
      (subst (λ y. PathP X (f b) (rename_stepped r (f y))) (sym (back_keys b)) (stepped_line (f b))))

  drawing_line : {A : Type 0} (x : Drawing numbers (Stepped A numbers)) → PathP (λ i. Drawing (names_line i) (Stepped A (names_line i))) x (rename_drawing r x)
  drawing_line (Plain x) = λ i. Plain (stepped_line x i)
  drawing_line (Draws f) = λ i. Draws (draws_line f i)

  -- a step under other names is the step, under other names
  pub core_step-rename : {A : Type 0} (c : Core A numbers) (x : Step A) → core_step (rename r c) x ≡ rename_drawing r (core_step c x)
  core_step-rename {A} c x =
      sym (from_path_p (λ i. Drawing (names_line i) (Stepped A (names_line i))) (λ i. core_step {K = names_line i} (core_line c i) x))
      ∙ from_path_p (λ i. Drawing (names_line i) (Stepped A (names_line i))) (drawing_line (core_step c x))

  -- what settles under other names is what settles, under other names
  pub settle-rename : {A : Type 0} (before c : Core A numbers) → settle (rename r before) (rename r c) ≡ rename r (settle before c)
  settle-rename {A} before c =
      sym (from_path_p (λ i. Core A (names_line i)) (λ i. settle {K = names_line i} (core_line before i) (core_line c i)))
      ∙ from_path_p (λ i. Core A (names_line i)) (core_line (settle before c))

  -- a call gets on under other names where it does
  pub can_progress-rename : {A : Type 0} (c : Core A numbers) (number : ℕ) → can_progress (rename r c) number ≡ can_progress c number
  can_progress-rename {A} c number = sym (λ i. can_progress {K = names_line i} (core_line c i) number)

  -- and a step touches the nodes under other names that it does
  pub touches-rename : {A : Type 0} (c : Core A numbers) (x : Step A) (node : Node numbers) → touches (rename r c) x (rename_node r node) ≡ touches c x node
  touches-rename {A} c x node = sym (λ i. touches {K = names_line i} (core_line c i) x (node_line node i))
