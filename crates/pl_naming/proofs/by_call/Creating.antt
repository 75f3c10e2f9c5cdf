-- What a file that is made leaves at the kernel's keys.
use Rattle.std.proofs.Common.{◌≡◌, ℕ, true, List, [], ◌∷◌, Option, Some, None, IfSome, IsSome, refl, sym, ◌∙◌, ap, subst, nat_eq, suc, zero, arith, slice_index_or}
use Rattle.std.specs.Prelude.{All, pos, option_map}
use Rattle.std.specs.declared.cmp.Ordering.{Ordering}
use Rattle.std.specs.declared.cmp.Ordering.TheVariants.{Less, Equal, Greater}
use Rattle.std.specs.Ordering.{nat_cmp, match_ordering}
use Rattle.std.specs.Cmp.Lexicographic.{pointwise, slice_cmp}
use Rattle.pl_model.specs.declared.calls.Call.{Call}
use Rattle.pl_model.specs.declared.calls.Mode.{Mode}
use Rattle.pl_model.specs.declared.calls.Step.TheVariants.{Begin}
use Rattle.pl_model.specs.declared.flags.OpenFlags.{OpenFlags}
use Rattle.pl_model.specs.declared.node.Node.{Node}
use Rattle.pl_model.specs.declared.node.Node.TheVariants as node
use Rattle.pl_model.specs.declared.replies.Reply.TheVariants.{Fd}
use Rattle.pl_model.specs.Flags.{status_flags}
use Rattle.pl_model.specs.Map.{Map, EachOnce, put_in_order, set_at}
use Rattle.pl_model.specs.Keys.{FileNode}
use Rattle.pl_model.specs.State.{Core, named}
use Rattle.pl_model.specs.Settle.{settle}
use Rattle.pl_model.specs.Tables.{install, describe, create_file}
use Rattle.pl_model.specs.Numbered.{numbers}
use Rattle.pl_model.proofs.settling.Files.{create-settled}
use Rattle.pl_model.proofs.settling.Names.{put-once}
use Rattle.pl_model.proofs.settling.FromSettled.{at_key}
use Rattle.pl_desc.specs.Rows.{at, is_pid, row_at, with_row}
use Rattle.pl_desc.specs.Descs.{Opened, Descs, fresh}
use Rattle.pl_desc.proofs.RowLemmas.{pid_in}
use Rattle.pl_state.specs.Contents.{Contents, Nodes, IsThere, contents, node_of, core_of, lets_name}
use Rattle.pl_state.specs.Sound.{IsSound, AreThere}
use Rattle.pl_state.specs.Makes.{MakesAtKeys}
use Rattle.pl_naming.specs.Openings.{MayOpen}
use Rattle.pl_state.proofs.Known.{Caller}
use Rattle.pl_state.proofs.holders.There.{set_some}
use Rattle.pl_naming.proofs.by_call.OpenedNode.{free, left, opened_sound, opened_makes}
use Rattle.pl_naming.proofs.by_call.Opening.{made, new-begun}
use Rattle.pl_naming.proofs.by_call.Unused.{unused}
use Rattle.pl_naming.proofs.by_call.Unlinking.{keyed, get-keyed}
use Rattle.pl_desc.specs.declared.limits.DescLimits.{DescLimits}

abbrev pub put : Map (List ℕ) Node → List ℕ → Node → Map (List ℕ) Node
put es name n = put_in_order (slice_cmp nat_cmp) es name n

pub put-keyed : (es : Map (List ℕ) Node) (name : List ℕ) (n : Node) → keyed (put es name n) ≡ put_in_order (slice_cmp nat_cmp) (keyed es) name (node_of n)
put-keyed [] name n = refl
put-keyed (e ∷ es) name n = by (slice_cmp nat_cmp name e.0) (put-keyed es name n)
  where
    by : (o : Ordering) → keyed (put es name n) ≡ put_in_order (slice_cmp nat_cmp) (keyed es) name (node_of n)
        → keyed (match_ordering o ((name, n) ∷ e ∷ es) ((e.0, n) ∷ es) (e ∷ put es name n))
        ≡ match_ordering o ((name, node_of n) ∷ (e.0, node_of e.1) ∷ keyed es) ((e.0, node_of n) ∷ keyed es) ((e.0, node_of e.1) ∷ put_in_order (slice_cmp nat_cmp) (keyed es) name (node_of n))
    by Less rest = refl
    by Equal rest = refl
    by Greater rest = ap (λ z. (e.0, node_of e.1) ∷ z) rest

pub put-all : (P : Node → Type 0) (es : Map (List ℕ) Node) (name : List ℕ) (n : Node) → P n → All (λ (e : List ℕ × Node). P e.1) es → All (λ (e : List ℕ × Node). P e.1) (put es name n)
put-all P [] name n h all zero x l = h
put-all P [] name n h all (suc k) x l = absurd (omega (arith, l))
put-all P (e ∷ es) name n h all i y m = by (slice_cmp nat_cmp name e.0) (put-all P es name n h (λ k x l. all (suc k) x (omega (arith, l)))) i y m
  where
    by : (o : Ordering) → All (λ (e : List ℕ × Node). P e.1) (put es name n) → All (λ (e : List ℕ × Node). P e.1) (match_ordering o ((name, n) ∷ e ∷ es) ((e.0, n) ∷ es) (e ∷ put es name n))
    by Less rest zero x l = h
    by Less rest (suc k) x l = all k x (omega (arith, l))
    by Equal rest zero x l = h
    by Equal rest (suc k) x l = all (suc k) x (omega (arith, l))
    by Greater rest zero x l = all zero x (omega arith)
    by Greater rest (suc k) x l = rest k x (omega (arith, l))

module _ {A : Type 0} (m : Caller A) (name : List ℕ) (mode : Mode) (flags : OpenFlags) (fd : ℕ) where
  open m use {descs, nodes, calls, limits, sound, are, pid, process}

  abbrev k : Contents A
  k = contents descs nodes calls limits

  abbrev c : Core A numbers
  c = core_of k

  module _ (may : MayOpen k pid name mode flags fd None) (can : lets_name k ≡ true) (f d : ℕ) (vacant_file : at nodes.files f ≡ None) (vacant : at descs.opened d ≡ None)
      (descs' : Descs) (nodes' : Nodes) (pids : is_pid descs'.tables ≡ is_pid descs.tables) (rows : row_at descs'.tables ≡ with_row (row_at descs.tables) pid fd (Some d))
      (opened : at descs'.opened ≡ set_at nat_eq (at descs.opened) d (Some (fresh (node.File f) mode (status_flags flags)))) (pipes_are : at nodes'.pipes ≡ at nodes.pipes)
      (files_are : at nodes'.files ≡ set_at nat_eq (at nodes.files) f (Some [])) (names_are : nodes'.names ≡ put nodes.names name (node.File f)) (limits_are : nodes'.limits ≡ nodes.limits) where
    abbrev new : Contents A
    new = contents descs' nodes' calls limits

    abbrev end : Core A numbers
    end = install (describe (create_file c name f) d (FileNode f) mode (status_flags flags)) pid fd d

    left_is : left m calls sound are fd may.lowest (node.File f) d vacant mode (status_flags flags) nodes' ≡ end
    unfolding core_of
    left_is = λ i. install (describe (record c { pipes = pipes_are i; files = files_are i; names = (ap keyed names_are ∙ put-keyed nodes.names name (node.File f)) i }) d (FileNode f) mode (status_flags flags)) pid fd d

    none : named c name ≡ None
    unfolding core_of
    none = get-keyed nodes.names name ∙ ap (option_map node_of) may.named

    end_settled : settle c end ≡ end
    unfolding core_of
    end_settled =
        let place = free m calls sound are fd may.lowest (node.File f) d vacant mode (status_flags flags) in
        create-settled (core_of k) sound.settled f d pid fd (unused m.kernel d vacant) (pid_in descs.tables pid process).0
        (let h = (pid_in descs.tables pid process).1 in let n = ap (λ (b : DescLimits). b.processes) are.bounds in omega (arith, h, are.tidy.few, n)) process place.1 place.0 mode (status_flags flags) name none

    still : (n : Node) → IsThere nodes n → IsThere nodes' n
    still (node.Pipe p) h = subst (λ z. IsSome (z p)) (sym pipes_are) h
    still (node.File g) h = subst (λ (z : ℕ → Option (List ℕ)). IsSome (z g)) (sym files_are) (set_some (at nodes.files) f g (Some []) (λ e. refl) h)

    here : IsSome (at nodes'.files f)
    here = subst (λ (z : ℕ → Option (List ℕ)). IsSome (z f)) (sym files_are) (subst (λ o. IsSome o) (sym (at_key (at nodes.files) f (Some []))) refl)

    there : AreThere (at descs.opened) nodes'
    there = record {
      described = λ q. by (at descs.opened q) (sound.there.described q);
      named = subst (All (λ (e : List ℕ × Node). IsThere nodes' e.1)) (sym names_are) (put-all (IsThere nodes') nodes.names name (node.File f) here (λ i e l. still (slice_index_or nodes.names i e).1 (sound.there.named i e l)));
    }
      where
        by : (o : Option Opened) → IfSome o (λ o. IsThere nodes o.node) → IfSome o (λ o. IsThere nodes' o.node)
        by None h = tt
        by (Some o) h = still o.node h

    once : EachOnce (pointwise nat_eq) nodes'.names
    once = subst (EachOnce (pointwise nat_eq)) (sym names_are) (put-once nodes.names name (node.File f) sound.once may.named)

    settles : settle c end ≡ left m calls sound are fd may.lowest (node.File f) d vacant mode (status_flags flags) nodes'
    settles = end_settled ∙ sym left_is

    pub created : (IsSound A new) × (MakesAtKeys k (Begin pid (Call.OpenName name mode flags)) (Fd (pos fd)) new)
    created = (
      opened_sound m calls sound are fd may.lowest (node.File f) d vacant mode (status_flags flags) descs' nodes' pids rows opened limits_are end settles there here once,
      opened_makes m calls sound are fd may.lowest (node.File f) d vacant mode (status_flags flags) descs' nodes' pids rows opened limits_are end settles there here once
          (Call.OpenName name mode flags) f vacant_file (made m name mode flags fd) (new-begun m name mode flags fd may true can) refl,
    )
