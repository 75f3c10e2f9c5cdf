-- What taking a name away comes to at the kernel's keys.
use Rattle.std.proofs.Common.{◌≡◌, ℕ, Bool, true, false, cond, List, [], ◌∷◌, map, Option, Some, None, refl, sym, ◌∙◌, ap, subst, nat_eq, nat_lt, slice_index_or, suc, arith}
use Rattle.std.specs.Prelude.{◌||◌, not, is_none, option_map, All, IfSome}
use Rattle.std.specs.List.{list_any}
use Rattle.std.specs.Cmp.Lexicographic.{pointwise}
use Rattle.std.proofs.lemmas.List.Elements.{All-map, All-filter}
use Rattle.pl_model.specs.declared.calls.Call.{Call}
use Rattle.pl_model.specs.declared.calls.Mode.{Mode}
use Rattle.pl_model.specs.declared.calls.Step.{Step}
use Rattle.pl_model.specs.declared.calls.Step.TheVariants.{Begin}
use Rattle.pl_model.specs.declared.node.Node.{Node}
use Rattle.pl_model.specs.declared.node.Node.TheVariants as node
use Rattle.pl_model.specs.declared.replies.Reply.TheVariants as reply
use Rattle.pl_model.specs.declared.replies.Reply.TheVariants.{Fault}
use Rattle.pl_model.specs.declared.replies.Errno.{Errno}
use Rattle.pl_model.specs.declared.replies.Errno.TheVariants.{ENOENT}
use Rattle.pl_model.specs.Modes.{any_mode, reads, writes}
use Rattle.pl_model.specs.Map.{Map, EachOnce, get, kept_if, set_at, without}
use Rattle.pl_model.specs.Keys.{PipeNode}
use Rattle.pl_model.specs.Keys.{same_node as machine_same}
use Rattle.pl_model.specs.Keys.{Node as KeyNode}
use Rattle.pl_model.specs.State.{Core, Pipe, named}
use Rattle.pl_model.specs.Live.{in_rows, in_parked, pids}
use Rattle.pl_model.specs.Settle.{settle, settled_pipe, is_hung, with_ends}
use Rattle.pl_model.specs.Settle.{is_kept as machine_kept}
use Rattle.pl_model.specs.Tables.{forget_name}
use Rattle.pl_model.specs.Trial.{Begins, answered, refuse_if}
use Rattle.pl_model.specs.Begin.{begin_unlink}
use Rattle.pl_model.specs.Step.{begin, ended, stepped}
use Rattle.pl_model.specs.Numbered.{numbers}
use Rattle.pl_model.proofs.settling.Files.{unlink-settled, pipes_unnamed, files_unnamed}
use Rattle.pl_model.proofs.settling.Names.{once-only, without-once}
use Rattle.pl_model.proofs.settling.WhoIsLive.{has_end, settled_pipe-is}
use Rattle.pl_desc.specs.Rows.{at}
use Rattle.pl_desc.specs.Descs.{Opened, ends_on}
use Rattle.pl_decisions.specs.Names.{fault_of_name, unless_fault}
use Rattle.pl_decisions.proofs.Deciding.{check_name-is}
use Rattle.pl_state.specs.Contents.{Contents, Nodes, IsThere, contents, node_of, core_of}
use Rattle.pl_state.specs.LastHold.{Leaves, is_kept, ended_pipe, pipes_left, files_left}
use Rattle.pl_state.specs.Sound.{IsSound, AreThere}
use Rattle.pl_state.specs.Makes.{MakesAtKeys}
use Rattle.pl_state.proofs.Known.{Caller}
use Rattle.pl_state.proofs.holders.Ends.{has_name-is}
use Rattle.pl_state.proofs.holders.There.{settled_after, there-left}
use Rattle.pl_state.proofs.by_call.Begun.{ends-is, does_plain, does_same, step-refused, step-answered}

abbrev pub keyed : Map (List ℕ) Node → Map (List ℕ) (KeyNode numbers)
keyed names = map (λ (e : List ℕ × Node). (e.0, node_of e.1)) names

-- the names of nodes are those of their keys
pub get-keyed : (names : Map (List ℕ) Node) (name : List ℕ) → get (pointwise nat_eq) (keyed names) name ≡ option_map node_of (get (pointwise nat_eq) names name)
get-keyed [] name = refl
get-keyed (e ∷ es) name = by (pointwise nat_eq e.0 name) (get-keyed es name)
  where
    by : (b : Bool) → get (pointwise nat_eq) (keyed es) name ≡ option_map node_of (get (pointwise nat_eq) es name)
        → cond b (Some (node_of e.1)) (get (pointwise nat_eq) (keyed es) name) ≡ option_map node_of (cond b (Some e.1) (get (pointwise nat_eq) es name))
    by true rest = refl
    by false rest = rest

without-keyed : (names : Map (List ℕ) Node) (name : List ℕ) → without (pointwise nat_eq) (keyed names) name ≡ keyed (without (pointwise nat_eq) names name)
without-keyed [] name = refl
without-keyed (e ∷ es) name = by (pointwise nat_eq name e.0) (without-keyed es name)
  where
    by : (b : Bool) → without (pointwise nat_eq) (keyed es) name ≡ keyed (without (pointwise nat_eq) es name)
        → cond (not b) ((e.0, node_of e.1) ∷ without (pointwise nat_eq) (keyed es) name) (without (pointwise nat_eq) (keyed es) name) ≡ keyed (cond (not b) (e ∷ without (pointwise nat_eq) es name) (without (pointwise nat_eq) es name))
    by true rest = rest
    by false rest = ap (λ z. (e.0, node_of e.1) ∷ z) rest

-- what holds of all that names stand for holds of what a name stands for
pub named_has : (P : Node → Type 0) (names : Map (List ℕ) Node) (name : List ℕ) (n : Node) → All (λ (e : List ℕ × Node). P e.1) names → get (pointwise nat_eq) names name ≡ Some n → P n
named_has P [] name n all found = absurd (cc)
named_has P (e ∷ es) name n all found = by (pointwise nat_eq e.0 name) (named_has P es name n (λ k x l. all (suc k) x (omega arith))) found
  where
    by : (b : Bool) → (get (pointwise nat_eq) es name ≡ Some n → P n) → cond b (Some e.1) (get (pointwise nat_eq) es name) ≡ Some n → P n
    by true rest f = (let same : e.1 ≡ n = cc in subst P same (all 0 e (omega arith)))
    by false rest f = rest f

-- A name is taken away, and what it stood for is left to what has it open.
module _ {A : Type 0} (k : Contents A) (sound : IsSound A k) (name : List ℕ) (n : Node) (stood : get (pointwise nat_eq) k.nodes.names name ≡ Some n) where
  abbrev c : Core A numbers
  c = core_of k

  abbrev u : Core A numbers
  u = forget_name c name

  abbrev pub unnamed : Nodes
  unnamed = record k.nodes { names = without (pointwise nat_eq) k.nodes.names name }

  u_names : u.names ≡ keyed unnamed.names
  unfolding core_of
  u_names = without-keyed k.nodes.names name

  only : All (λ (e : List ℕ × KeyNode numbers). pointwise nat_eq name e.0 ≡ true → e.1 ≡ node_of n) c.names
  unfolding core_of
  only = All-map (λ (e : List ℕ × KeyNode numbers). pointwise nat_eq name e.0 ≡ true → e.1 ≡ node_of n) (λ (e : List ℕ × Node). (e.0, node_of e.1)) k.nodes.names
      (λ i e l same. ap node_of (once-only k.nodes.names name n sound.once stood i e l same))

  -- the same ends are left
  ends : (test : Mode → Bool) (m : Node) → has_end u test (node_of m) ≡ nat_lt 0 (ends_on test k.opened m)
  unfolding core_of in_rows in_parked pids
  ends test m = ends-is k sound.whole test m

  kept : (m : Node) → machine_kept u (node_of m) ≡ is_kept k.opened unnamed m
  kept m = λ i. ends any_mode m i || (ap named_so u_names ∙ has_name-is unnamed.names m) i
    where
      named_so : Map (List ℕ) (KeyNode numbers) → Bool
      named_so ns = list_any (λ e. machine_same {K = numbers} e.1 (node_of m)) ns

  ended-is : (p : ℕ) (y : Pipe) → at k.nodes.pipes p ≡ Some y → settled_pipe c u p y ≡ ended_pipe k.opened k.opened p y
  unfolding core_of
  ended-is p y is =
      settled_pipe-is c u p y
      ∙ (λ i. with_ends (ends any_mode (node.Pipe p) i) (ends reads (node.Pipe p) i) (ends writes (node.Pipe p) i) (ap is_hung is i || ends-is k sound.whole writes (node.Pipe p) i) y)

  pipe-is : (p : ℕ) (b : Bool) (y : Option Pipe) → at k.nodes.pipes p ≡ y → option_map (settled_pipe c u p) (kept_if b y) ≡ option_map (ended_pipe k.opened k.opened p) (kept_if b y)
  pipe-is p true (Some y) is = ap (λ z. Some z) (ended-is p y is)
  pipe-is p true None is = refl
  pipe-is p false y is = refl

  -- so the node is left as the machine leaves it
  pipes-are : (m : Node) → pipes_left k.opened k.opened unnamed m ≡ pipes_unnamed c sound.settled name (node_of n) only (node_of m)
  unfolding core_of
  pipes-are (node.Pipe p) = ap (λ z. set_at nat_eq (at k.nodes.pipes) p z)
      (ap (λ b. option_map (ended_pipe k.opened k.opened p) (kept_if b (at k.nodes.pipes p))) (sym (kept (node.Pipe p)))
      ∙ sym (pipe-is p (machine_kept u (PipeNode p)) (at k.nodes.pipes p) refl))
  pipes-are (node.File f) = refl

  files-are : (m : Node) → files_left k.opened unnamed m ≡ files_unnamed c sound.settled name (node_of n) only (node_of m)
  unfolding core_of
  files-are (node.Pipe p) = refl
  files-are (node.File f) = ap (λ b. set_at nat_eq (at k.nodes.files) f (kept_if b (at k.nodes.files f))) (sym (kept (node.File f)))

  pub still : (m : Node) → IsThere k.nodes m → IsThere unnamed m
  still (node.Pipe p) h = h
  still (node.File f) h = h

  pub unnamed_there : AreThere (at k.opened) unnamed
  unnamed_there = record {
    described = λ d. by (at k.opened d) (sound.there.described d);
    named = All-filter (λ (e : List ℕ × Node). not (pointwise nat_eq name e.0)) (λ (e : List ℕ × Node). IsThere unnamed e.1) k.nodes.names (λ i e l. still (slice_index_or k.nodes.names i e).1 (sound.there.named i e l));
  }
    where
      by : (o : Option Opened) → IfSome o (λ o. IsThere k.nodes o.node) → IfSome o (λ o. IsThere unnamed o.node)
      by None h = tt
      by (Some o) h = still o.node h

  module _ (nodes' : Nodes) (left : Leaves k.opened k.opened unnamed nodes' n) where
    abbrev new : Contents A
    new = record k { nodes = nodes' }

    pub unlinked : core_of new ≡ settle c u
    unfolding core_of
    unlinked =
        (λ i. record (core_of k) { pipes = (left.pipes ∙ pipes-are n) i; files = (left.files ∙ files-are n) i; names = (ap keyed left.names ∙ sym u_names) i })
        ∙ sym (unlink-settled c sound.settled name (node_of n) only)

    pub unlinked_sound : IsSound A new
    unlinked_sound = record {
      whole = record {
        rise = sound.rise;
        numbered = sound.numbered;
        there = there-left k.opened k.opened unnamed nodes' n left unnamed_there;
        limit = left.limits ∙ sound.limit;
        once = subst (EachOnce (pointwise nat_eq)) (sym left.names) (without-once k.nodes.names name sound.once);
        settled = settled_after (core_of new) c u unlinked;
      };
      waiting = sound.waiting;
      belong = sound.belong;
      on_nodes = sound.on_nodes;
    }

module _ {A : Type 0} (m : Caller A) (name : List ℕ) where
  open m use {descs, nodes, calls, limits, sound, pid, process}

  abbrev now : Contents A
  now = contents descs nodes calls limits

  abbrev core : Core A numbers
  core = core_of now

  abbrev call : Call A
  call = Call.Unlink name

  abbrev x : Step A
  x = Begin pid call

  abbrev forgets : Bool → Begins A numbers
  forgets missing = refuse_if missing ENOENT (answered (forget_name core name) reply.Unit)

  begun : begin core pid call ≡ unless_fault (fault_of_name name) (forgets (is_none (named core name)))
  unfolding begin begin_unlink
  begun = check_name-is name (forgets (is_none (named core name)))

  pub unlink-fault : (errno : Errno) → fault_of_name name ≡ Some errno → MakesAtKeys now x (Fault errno) now
  unlink-fault errno is = does_same now sound x (stepped core (Fault errno)) (Fault errno) (step-refused now pid call process errno (begun ∙ ap (λ f. unless_fault f (forgets (is_none (named core name)))) is)) refl refl

  module _ (good : fault_of_name name ≡ None) where
    checked : (o : Option Node) → get (pointwise nat_eq) nodes.names name ≡ o → begin core pid call ≡ forgets (is_none (option_map node_of o))
    unfolding core_of
    checked o is = begun ∙ ap (λ f. unless_fault f (forgets (is_none (named core name)))) good ∙ ap (λ z. forgets (is_none z)) (get-keyed nodes.names name ∙ ap (option_map node_of) is)

    pub unlink-missing : get (pointwise nat_eq) nodes.names name ≡ None → MakesAtKeys now x (Fault ENOENT) now
    unlink-missing none = does_same now sound x (stepped core (Fault ENOENT)) (Fault ENOENT) (step-refused now pid call process ENOENT (checked None none)) refl refl

    pub unlink-made : (n : Node) (stood : get (pointwise nat_eq) nodes.names name ≡ Some n) (nodes' : Nodes) → Leaves descs.opened descs.opened (unnamed now sound name n stood) nodes' n
        → MakesAtKeys now x reply.Unit (record now { nodes = nodes' })
    unlink-made n stood nodes' left =
        does_plain now (record now { nodes = nodes' }) x (ended core (stepped (forget_name core name) reply.Unit)) reply.Unit
        (step-answered now pid call process (forget_name core name) reply.Unit (checked (Some n) stood)) refl (unlinked now sound name n stood nodes' left)
