-- What settling makes of the kernel as a description is live no more.
use Rattle.std.proofs.Common.{◌≡◌, ◌≢◌, ℕ, Bool, true, false, List, map, Option, Some, None, refl, sym, ◌∙◌, ap, nat_eq, nat_lt}
use Rattle.std.specs.Prelude.{◌||◌, option_map}
use Rattle.std.specs.List.{list_any}
use Rattle.pl_model.specs.declared.calls.Mode.{Mode}
use Rattle.pl_model.specs.declared.node.Node.{Node}
use Rattle.pl_model.specs.declared.node.Node.TheVariants as node
use Rattle.pl_model.specs.Modes.{any_mode, reads, writes}
use Rattle.pl_model.specs.Map.{Map, kept_if, set_at}
use Rattle.pl_model.specs.Keys.{PipeNode, same_node}
use Rattle.pl_model.specs.Keys.{Node as KeyNode}
use Rattle.pl_model.specs.State.{Core, Pipe}
use Rattle.pl_model.specs.Live.{is_live}
use Rattle.pl_model.specs.Settle.{settle, settled_pipe, is_hung, with_ends}
use Rattle.pl_model.specs.Settle.{is_kept as machine_kept}
use Rattle.pl_model.specs.Numbered.{numbers}
use Rattle.pl_model.proofs.settling.WhoIsLive.{has_end, settled_pipe-is}
use Rattle.pl_model.proofs.settling.FromSettled.{Alike, left, left_lives, gone-settled}
use Rattle.pl_model.proofs.settling.FromSettled.{pipes_left as machine_pipes, files_left as machine_files}
use Rattle.pl_desc.specs.Rows.{at, is_pid, row_at}
use Rattle.pl_desc.specs.Descs.{Opened, ends_on}
use Rattle.pl_state.specs.Contents.{Contents, node_of, description_of, parked_of, core_of}
use Rattle.pl_state.specs.LastHold.{is_kept, ended_pipe, pipes_left, files_left, Leaves}
use Rattle.pl_state.specs.Sound.{IsWhole}
use Rattle.pl_state.proofs.holders.Ends.{has_end-is, has_name-is}
use Rattle.pl_state.proofs.by_call.Begun.{ends-is}
use Rattle.pl_state.proofs.holders.There.{map-set_at}

-- what of a core isn't its descriptions and pipes is the kernel's
pub record Agrees {A : Type 0} (new : Contents A) (u : Core A numbers) : Type 0 where
  pub processes : is_pid new.tables ≡ u.processes
  pub rows : row_at new.tables ≡ u.rows
  pub parked : parked_of new.calls.calls ≡ u.parked
  pub next_call : new.calls.next ≡ u.next_call
  pub limits : new.limits ≡ u.limits

-- the description is live no more
module _ {A : Type 0} (k : Contents A) (whole : IsWhole A k) (d : ℕ) (o : Opened) (here : at k.opened d ≡ Some o)
    (u : Core A numbers) (alike : Alike (core_of k) u) (pipes_as_before : u.pipes ≡ (core_of k).pipes)
    (others : (q : ℕ) → q ≢ d → is_live u q ≡ is_live (core_of k) q) (dead : is_live u d ≡ false)
    (new : Contents A) (agrees : Agrees new u) (opened : at new.opened ≡ set_at nat_eq (at k.opened) d None)
    (left_nodes : Leaves k.opened new.opened k.nodes new.nodes o.node) where
  abbrev c : Core A numbers
  c = core_of k

  here_described : c.descriptions d ≡ Some (description_of o)
  unfolding core_of
  here_described = ap (option_map description_of) here

  abbrev rest : Core A numbers
  rest = left c u d

  rest_described : rest.descriptions ≡ (λ q. option_map description_of (at new.opened q))
  unfolding core_of
  rest_described = sym (ap (λ (m : ℕ → Option Opened). λ q. option_map description_of (m q)) opened ∙ map-set_at description_of (at k.opened) d None)

  rest_lives : (q : ℕ) (f : Opened) → at new.opened q ≡ Some f → is_live rest q ≡ true
  rest_lives q f h = left_lives c u whole.settled alike pipes_as_before d (description_of o) here_described others dead q (description_of f) ((λ i. rest_described i q) ∙ ap (option_map description_of) h)

  -- the ends that are left are those of the descriptions that are open
  rest_ends : (test : Mode → Bool) (n : Node) → has_end rest test (node_of n) ≡ nat_lt 0 (ends_on test new.opened n)
  rest_ends test n = has_end-is rest new.opened rest_described rest_lives test n

  rest_kept : (n : Node) → machine_kept rest (node_of n) ≡ is_kept new.opened k.nodes n
  unfolding core_of
  rest_kept n = λ i. rest_ends any_mode n i || ((λ j. machine_named (alike.names j) n) ∙ has_name-is k.nodes.names n) i
    where
      machine_named : Map (List ℕ) (KeyNode numbers) → Node → Bool
      machine_named names n = list_any (λ e. same_node {K = numbers} e.1 (node_of n)) names

  ended-is : (p : ℕ) (y : Pipe) → at k.nodes.pipes p ≡ Some y → settled_pipe c rest p y ≡ ended_pipe k.opened new.opened p y
  unfolding core_of
  ended-is p y is =
      settled_pipe-is c rest p y
      ∙ (λ i. with_ends (rest_ends any_mode (node.Pipe p) i) (rest_ends reads (node.Pipe p) i) (rest_ends writes (node.Pipe p) i) (ap is_hung is i || ends-is k whole writes (node.Pipe p) i) y)

  -- so each node is left as the machine leaves it
  pipe-is : (p : ℕ) (b : Bool) (y : Option Pipe) → at k.nodes.pipes p ≡ y → option_map (settled_pipe c rest p) (kept_if b y) ≡ option_map (ended_pipe k.opened new.opened p) (kept_if b y)
  pipe-is p true (Some y) is = ap (λ z. Some z) (ended-is p y is)
  pipe-is p true None is = refl
  pipe-is p false y is = refl

  pipes-are : (n : Node) → pipes_left k.opened new.opened k.nodes n ≡ machine_pipes c u d (node_of n)
  unfolding core_of
  pipes-are (node.Pipe p) = ap (λ z. set_at nat_eq (at k.nodes.pipes) p z)
      (ap (λ b. option_map (ended_pipe k.opened new.opened p) (kept_if b (at k.nodes.pipes p))) (sym (rest_kept (node.Pipe p)))
      ∙ sym (pipe-is p (machine_kept rest (PipeNode p)) (at k.nodes.pipes p) refl))
  pipes-are (node.File f) = refl

  files-are : (n : Node) → files_left new.opened k.nodes n ≡ machine_files c u d (node_of n)
  unfolding core_of
  files-are (node.Pipe p) = refl
  files-are (node.File f) = ap (λ b. set_at nat_eq (at k.nodes.files) f (kept_if b (at k.nodes.files f))) (sym (rest_kept (node.File f)))

  pub leaves : core_of new ≡ settle c u
  unfolding core_of
  leaves =
      (λ i. record {
        processes = agrees.processes i;
        rows = agrees.rows i;
        descriptions = sym rest_described i;
        pipes = (left_nodes.pipes ∙ pipes-are o.node) i;
        files = (left_nodes.files ∙ files-are o.node) i;
        names = (ap (λ (ns : Map (List ℕ) Node). map (λ e. (e.0, node_of e.1)) ns) left_nodes.names ∙ sym alike.names) i;
        parked = agrees.parked i;
        next_call = agrees.next_call i;
        limits = agrees.limits i;
      })
      ∙ sym (gone-settled c u whole.settled alike pipes_as_before d (description_of o) here_described others dead)
