-- What is told of pipes and files, whatever keys the machine has.
use Rattle.std.proofs.Common.{◌≡◌, ℕ, Bool, true, false, cond, List, [], ◌∷◌, map, length, Option, Some, None, IfSome, IsSome, refl, sym, ◌∙◌, ap, subst, nat_eq, nat_lt}
use Rattle.std.specs.Prelude.{◌↔◌, ℤ, pos, negsuc, option_map, option_and_then, is_some, unwrap_or}
use Rattle.std.specs.Cmp.Lexicographic.{pointwise}
use Rattle.pl_model.specs.declared.node.Node.{Node}
use Rattle.pl_model.specs.Keys.{PipeNode, FileNode}
use Rattle.pl_model.specs.Keys.{Node as KeyNode}
use Rattle.pl_model.specs.Map.{Map, get}
use Rattle.pl_model.specs.Numbers.{most_descriptors}
use Rattle.pl_model.specs.Numbered.{numbers, State}
use Rattle.pl_model.specs.Renaming.{Renamings, rename, rename_node, rename_description}
use Rattle.pl_model.specs.State.{Core, Pipe, Open, Description, described, empty_pipe}
use Rattle.pl_model.specs.Begin.{open_fd}
use Rattle.pl_desc.specs.Rows.{at, Tables, table_of, rows_in, is_pid, row_in, row_of}
use Rattle.pl_desc.specs.Descs.{Opened}
use Rattle.pl_state.specs.Contents.{Contents, IsThere, core_of, node_of}
use Rattle.pl_state.specs.Makes.{Stands}
use Rattle.pl_state.specs.Sound.{IsSound}
use Rattle.pl_state.proofs.by_call.Begun.{open-none, open-is}
use Rattle.pl_naming.proofs.by_call.Unlinking.{get-keyed, named_has}
use Rattle.pl_kernel.specs.declared.told_nodes.NodeFacts.{NodeFacts}
use Rattle.pl_kernel.specs.declared.told_nodes.NodeKind.{NodeKind}
use Rattle.pl_kernel.specs.declared.told_nodes.NodeKind.TheVariants as kind
use Rattle.pl_kernel.specs.ToldNodes.{Place, OfFd, OfName, pipe_kind, shape_of, node_at, held_by, key_of, facts_at, facts_named, shape_told, which, TellsHeld, TellsShape, TellsWhich, TellsProcess}

-- the node of what is open
abbrev node_in : Option (Open numbers) → Option (KeyNode numbers)
node_in = option_map (λ o. o.description.node)

-- other keys tell the same
module _ (r : Renamings) where
  abbrev renamed_names : Map (List ℕ) (KeyNode numbers) → Map (List ℕ) (KeyNode numbers)
  renamed_names = map (λ (e : List ℕ × KeyNode numbers). (e.0, rename_node r e.1))

  name-renamed : (names : Map (List ℕ) (KeyNode numbers)) (name : List ℕ) → get (pointwise nat_eq) (renamed_names names) name ≡ option_map (rename_node r) (get (pointwise nat_eq) names name)
  name-renamed [] name = refl
  name-renamed (e ∷ es) name = by (pointwise nat_eq e.0 name) (name-renamed es name)
    where
      by : (b : Bool) → get (pointwise nat_eq) (renamed_names es) name ≡ option_map (rename_node r) (get (pointwise nat_eq) es name)
          → cond b (Some (rename_node r e.1)) (get (pointwise nat_eq) (renamed_names es) name) ≡ option_map (rename_node r) (cond b (Some e.1) (get (pointwise nat_eq) es name))
      by true rest = refl
      by false rest = rest

  -- two nodes that get one key are one
  same-renamed : (m n : KeyNode numbers) → rename_node r m ≡ rename_node r n → m ≡ n
  same-renamed (PipeNode p) (PipeNode q) same = ap (λ x. PipeNode x) (sym (r.pipe.back-to p) ∙ ap r.pipe.back (ap key_of same) ∙ r.pipe.back-to q)
  same-renamed (PipeNode p) (FileNode g) same = absurd (cc)
  same-renamed (FileNode f) (PipeNode q) same = absurd (cc)
  same-renamed (FileNode f) (FileNode g) same = ap (λ x. FileNode x) (sym (r.file.back-to f) ∙ ap r.file.back (ap key_of same) ∙ r.file.back-to g)

  module _ {A : Type 0} (c : Core A numbers) where
    described-renamed : (o : Option ℕ) → node_in (option_and_then (described (rename r c)) (option_map r.description.to o)) ≡ option_map (rename_node r) (node_in (option_and_then (described c) o))
    described-renamed None = refl
    described-renamed (Some d) =
        ap (λ e. node_in (option_map (λ x. record { key = r.description.to d; description = x }) (option_map (rename_description r) (c.descriptions e)))) (r.description.back-to d)
        ∙ by (c.descriptions d)
      where
        by : (o : Option (Description numbers)) → node_in (option_map (λ x. record { key = r.description.to d; description = x }) (option_map (rename_description r) o))
            ≡ option_map (rename_node r) (node_in (option_map (λ x. record { key = d; description = x }) o))
        by None = refl
        by (Some x) = refl

    open-renamed : (pid : ℕ) (fd : ℤ) → node_in (open_fd (rename r c) pid fd) ≡ option_map (rename_node r) (node_in (open_fd c pid fd))
    open-renamed pid (pos n) = by (nat_lt n most_descriptors)
      where
        by : (b : Bool) → node_in (option_and_then (described (rename r c)) (cond b (option_map r.description.to (c.rows pid n)) None))
            ≡ option_map (rename_node r) (node_in (option_and_then (described c) (cond b (c.rows pid n) None)))
        by true = described-renamed (c.rows pid n)
        by false = refl
    open-renamed pid (negsuc n) = refl

    node-renamed : (place : Place) → node_at (rename r c) place ≡ option_map (rename_node r) (node_at c place)
    node-renamed (OfFd pid fd) = by (c.processes pid)
      where
        by : (b : Bool) → cond b (node_in (open_fd (rename r c) pid fd)) None ≡ option_map (rename_node r) (cond b (node_in (open_fd c pid fd)) None)
        by true = open-renamed pid fd
        by false = refl
    node-renamed (OfName name) = name-renamed c.names name

    shape-renamed : (o : Option (KeyNode numbers)) → option_map (shape_of (rename r c)) (option_map (rename_node r) o) ≡ option_map (shape_of c) o
    shape-renamed None = refl
    shape-renamed (Some (PipeNode p)) = ap (λ q. Some (shape_of c (PipeNode q))) (r.pipe.back-to p)
    shape-renamed (Some (FileNode f)) = ap (λ q. Some (shape_of c (FileNode q))) (r.file.back-to f)

    held-renamed : (o : Option (KeyNode numbers)) → held_by (rename r c) (option_map (rename_node r) o) ≡ held_by c o
    held-renamed None = refl
    held-renamed (Some (PipeNode p)) = ap (λ q. held_by c (Some (PipeNode q))) (r.pipe.back-to p)
    held-renamed (Some (FileNode f)) = refl

-- the shape that is told is that of the node
shape-of_facts : {A : Type 0} (c : Core A numbers) (o : Option (KeyNode numbers)) → option_map shape_told (option_map (facts_at c) o) ≡ option_map (shape_of c) o
shape-of_facts c None = refl
shape-of_facts c (Some n) = refl

-- a pipe is never taken for a file
pipe-kind : (packets : Bool) → cond packets kind.PacketPipe kind.Pipe ≡ kind.File → ⊥
pipe-kind true is = cc
pipe-kind false is = cc

-- two nodes that are told alike are one
told-alike : {A : Type 0} (c : Core A numbers) (m n : KeyNode numbers) → which (facts_at c m) ≡ which (facts_at c n) → m ≡ n
told-alike c (PipeNode p) (PipeNode q) same = ap (λ x. PipeNode x) (ap (λ w. w.1) same)
told-alike c (PipeNode p) (FileNode g) same = absurd (pipe-kind (is_some (unwrap_or (c.pipes p) empty_pipe).packets) (ap (λ w. w.0) same))
told-alike c (FileNode f) (PipeNode q) same = absurd (pipe-kind (is_some (unwrap_or (c.pipes q) empty_pipe).packets) (sym (ap (λ w. w.0) same)))
told-alike c (FileNode f) (FileNode g) same = ap (λ x. FileNode x) (ap (λ w. w.1) same)

module _ {A : Type 0} (k : Contents A) where
  abbrev core : Core A numbers
  core = core_of k

  -- what a place stands for in a state
  at_state : (place : Place) (s : State A) (stands : Stands k s) → node_at s.core place ≡ option_map (rename_node stands.numbered) (node_at core place)
  at_state place s stands = ap (λ (z : Core A numbers). node_at z place) (sym stands.renamed) ∙ node-renamed stands.numbered core place

  pub tells_held : (pid : ℕ) (fd : ℤ) (told : Option ℕ) → told ≡ held_by core (node_at core (OfFd pid fd)) → TellsHeld k pid fd told
  tells_held pid fd told is = λ s. λ stands.
      is ∙ sym (held-renamed stands.numbered core (node_at core (OfFd pid fd)))
      ∙ ap (held_by (rename stands.numbered core)) (sym (node-renamed stands.numbered core (OfFd pid fd)))
      ∙ ap (λ (z : Core A numbers). held_by z (node_at z (OfFd pid fd))) stands.renamed

  pub tells_process : (pid : ℕ) (told : Bool) → told ≡ is_pid k.tables pid → TellsProcess k pid told
  unfolding core_of
  tells_process pid told is = λ s. λ stands. is ∙ ap (λ (z : Core A numbers). z.processes pid) stands.renamed

  module _ (place : Place) (told : Option NodeFacts) (is : told ≡ facts_named k place) where
    pub tells_shape : TellsShape k place told
    tells_shape = λ s. λ stands.
        ap (option_map shape_told) is
        ∙ shape-of_facts core (node_at core place)
        ∙ sym (shape-renamed stands.numbered core (node_at core place))
        ∙ ap (option_map (shape_of (rename stands.numbered core))) (sym (node-renamed stands.numbered core place))
        ∙ ap (λ (z : Core A numbers). option_map (shape_of z) (node_at z place)) stands.renamed

  -- other places that stand for the same
  module _ (place other : Place) (n : KeyNode numbers) (here : node_at core place ≡ Some n) where
    alike : (o : Option (KeyNode numbers)) → option_map which (option_map (facts_at core) o) ≡ Some (which (facts_at core n)) → o ≡ Some n
    alike None is = absurd (cc)
    alike (Some m) is = ap (λ x. Some x) (told-alike core m n (some-is (which (facts_at core m)) (which (facts_at core n)) is))
      where
        some-is : (a b : NodeKind × ℕ) → Some a ≡ Some b → a ≡ b
        some-is a b same = cc

    same-node : (r : Renamings) (o : Option (KeyNode numbers)) → option_map (rename_node r) o ≡ option_map (rename_node r) (Some n) → o ≡ Some n
    same-node r None is = absurd (cc)
    same-node r (Some m) is = ap (λ x. Some x) (same-renamed r m n (some-is (rename_node r m) (rename_node r n) is))
      where
        some-is : (a b : KeyNode numbers) → Some a ≡ Some b → a ≡ b
        some-is a b same = cc

    same-which : (s : State A) (stands : Stands k s) → (option_map which (facts_named k other) ≡ Some (which (facts_at core n))) ↔ (node_at s.core other ≡ node_at s.core place)
    same-which s stands =
        let r = stands.numbered in (
          λ is. at_state other s stands ∙ ap (option_map (rename_node r)) (alike (node_at core other) is ∙ sym here) ∙ sym (at_state place s stands),
          λ same.
              let one : node_at core other ≡ Some n = same-node r (node_at core other) (sym (at_state other s stands) ∙ same ∙ at_state place s stands ∙ ap (option_map (rename_node r)) here) in
              ap (λ o. option_map which (option_map (facts_at core) o)) one,
        )

  pub tells_which : (place : Place) (told : Option NodeFacts) → told ≡ facts_named k place → TellsWhich k place told
  tells_which place None is = tt
  tells_which place (Some facts) is = by (node_at core place) refl
    where
      by : (o : Option (KeyNode numbers)) → node_at core place ≡ o → TellsWhich k place (Some facts)
      by None here = absurd (let none : Some facts ≡ None = is ∙ ap (option_map (facts_at core)) here in cc)
      by (Some n) here =
          let told : Some facts ≡ Some (facts_at core n) = is ∙ ap (option_map (facts_at core)) here in
          let same : facts_at core n ≡ facts = cc in
          subst (λ f. TellsWhich k place (Some f)) same (λ other. λ s. λ stands. same-which place other n here s stands)

-- a row is that of a process
row-process : (tables : Tables) (pid : ℕ) (fd : ℤ) (key : ℕ) → row_of tables pid fd ≡ Some key → is_pid tables pid ≡ true
row-process tables pid fd key row = by (table_of tables pid) row
  where
    nothing : (b : Bool) (n : ℕ) → cond b (at {V = ℕ} [] n) None ≡ Some key → ⊥
    nothing true n is = cc
    nothing false n is = cc

    empty : (z : ℤ) → row_in [] z ≡ Some key → ⊥
    empty (pos n) is = nothing (nat_lt n most_descriptors) n is
    empty (negsuc n) is = cc

    by : (o : Option (List (Option ℕ))) → row_in (rows_in o) fd ≡ Some key → is_some o ≡ true
    by None is = absurd (empty fd is)
    by (Some table) is = refl

module _ {A : Type 0} (k : Contents A) where
  -- a descriptor that isn't open stands for nothing
  pub unopened : (pid : ℕ) (fd : ℤ) → row_of k.tables pid fd ≡ None → node_at (core_of k) (OfFd pid fd) ≡ None
  unopened pid fd none = by ((core_of k).processes pid)
    where
      by : (b : Bool) → cond b (node_in (open_fd (core_of k) pid fd)) None ≡ None
      by true = ap node_in (open-none k pid fd none)
      by false = refl

  -- one that is stands for what its description is on
  pub opened-on : (pid : ℕ) (fd : ℤ) (key : ℕ) (o : Opened) → row_of k.tables pid fd ≡ Some key → at k.opened key ≡ Some o → node_at (core_of k) (OfFd pid fd) ≡ Some (node_of o.node)
  unfolding core_of
  opened-on pid fd key o row here =
      ap (λ b. cond b (node_in (open_fd (core_of k) pid fd)) None) (row-process k.tables pid fd key row)
      ∙ ap node_in (open-is k pid fd key o row here)

  pub name-stands : (name : List ℕ) → node_at (core_of k) (OfName name) ≡ option_map node_of (get (pointwise nat_eq) k.nodes.names name)
  unfolding core_of
  name-stands name = get-keyed k.nodes.names name

  -- what a pipe and a file are told to be
  pub pipe-told : (p : ℕ) (packet : Bool) (held : ℕ) → IsSome (at k.nodes.pipes p) → IfSome (at k.nodes.pipes p) (λ x. packet ≡ is_some x.packets) → IfSome (at k.nodes.pipes p) (λ x. held ≡ length x.bytes)
      → record { kind = cond packet kind.PacketPipe kind.Pipe; size = held; key = p } ≡ facts_at (core_of k) (PipeNode p)
  unfolding core_of
  pipe-told p packet held = by (at k.nodes.pipes p)
    where
      by : (o : Option Pipe) → IsSome o → IfSome o (λ x. packet ≡ is_some x.packets) → IfSome o (λ x. held ≡ length x.bytes)
          → ◌≡◌ {A = NodeFacts} (record { kind = cond packet kind.PacketPipe kind.Pipe; size = held; key = p }) (record { kind = pipe_kind (unwrap_or o empty_pipe); size = length (unwrap_or o empty_pipe).bytes; key = p })
      by None there is many = absurd (cc)
      by (Some x) there is many = (λ i. record { kind = cond (is i) kind.PacketPipe kind.Pipe; size = many i; key = p })

  pub file-told : (f size : ℕ) → IsSome (at k.nodes.files f) → IfSome (at k.nodes.files f) (λ bytes. size ≡ length bytes) → record { kind = kind.File; size = size; key = f } ≡ facts_at (core_of k) (FileNode f)
  unfolding core_of
  file-told f size = by (at k.nodes.files f)
    where
      by : (o : Option (List ℕ)) → IsSome o → IfSome o (λ bytes. size ≡ length bytes) → ◌≡◌ {A = NodeFacts} (record { kind = kind.File; size = size; key = f }) (record { kind = kind.File; size = length (unwrap_or o []); key = f })
      by None there many = absurd (cc)
      by (Some bytes) there many = (λ i. record { kind = kind.File; size = many i; key = f })

  pub held-told : (p held : ℕ) → IsSome (at k.nodes.pipes p) → IfSome (at k.nodes.pipes p) (λ x. held ≡ length x.bytes) → Some held ≡ held_by (core_of k) (Some (PipeNode p))
  unfolding core_of
  held-told p held = by (at k.nodes.pipes p)
    where
      by : (o : Option Pipe) → IsSome o → IfSome o (λ x. held ≡ length x.bytes) → Some held ≡ Some (length (unwrap_or o empty_pipe).bytes)
      by None there many = absurd (cc)
      by (Some x) there many = ap (λ n. Some n) many

  -- what a name stands for is there
  pub name-there : IsSound A k → (name : List ℕ) (o : Option Node) → get (pointwise nat_eq) k.nodes.names name ≡ o → IfSome o (IsThere k.nodes)
  name-there sound name None stood = tt
  name-there sound name (Some n) stood = named_has (IsThere k.nodes) k.nodes.names name n sound.there.named stood
