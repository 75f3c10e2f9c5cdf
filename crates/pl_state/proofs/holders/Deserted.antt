-- Where no process is and no name, nothing is.
use Rattle.std.proofs.Common.{◌≡◌, ℕ, Bool, true, false, cond, List, [], ◌∷◌, ◌++◌, Some, None, IfSome, refl, sym, ◌∙◌, ap, subst, map, nat_eq}
use Rattle.std.specs.Prelude.{IsTrue, ◌||◌, option_map}
use Rattle.std.specs.List.{list_any, filter, filter_map, flat_map}
use Rattle.std.proofs.lemmas.Bool.{eq-eqb}
use Rattle.pl_model.specs.declared.node.Node.{Node}
use Rattle.pl_model.specs.Numbers.{numbers_from}
use Rattle.pl_model.specs.Modes.{any_mode}
use Rattle.pl_model.specs.Map.{Map, get, kept_if}
use Rattle.pl_model.specs.Keys.{PipeNode, FileNode, same_node}
use Rattle.pl_model.specs.Keys.{Node as KeyNode}
use Rattle.pl_model.specs.State.{Core, Waiting}
use Rattle.pl_model.specs.Live.{pids, in_rows, in_parked, in_use, is_end}
use Rattle.pl_model.specs.Settle.{settle, settled_pipe, is_kept}
use Rattle.pl_model.specs.Numbered.{numbers, State}
use Rattle.pl_model.specs.Renaming.{rename_node}
use Rattle.pl_parked.specs.declared.call.ParkedCall.{ParkedCall}
use Rattle.pl_desc.specs.Rows.{at, is_pid}
use Rattle.pl_state.specs.Contents.{Contents, node_of, parked_of, core_of}
use Rattle.pl_state.specs.Sound.{IsSound, Belong}
use Rattle.pl_state.specs.Makes.{Stands, IsDeserted}
use Rattle.pl_model.specs.Tables.{process_limit, descriptor_limit}

none_pass : {X : Type 0} (test : X → Bool) → ((x : X) → test x ≡ false) → (xs : List X) → filter test xs ≡ []
none_pass test none [] = refl
none_pass test none (x ∷ xs) = ap (λ b. cond b (x ∷ filter test xs) (filter test xs)) (none x) ∙ none_pass test none xs

-- calls of processes, of which there is none
no_calls : {A : Type 0} (processes : ℕ → Bool) → ((pid : ℕ) → processes pid ≡ false) → (calls : Map ℕ (ParkedCall A)) → Belong calls processes → calls ≡ []
no_calls processes nobody [] belong = refl
no_calls processes nobody (e ∷ es) belong =
    let here : IsTrue (processes e.1.pid) = subst (λ b. IfSome (cond b (Some e.1) (get nat_eq es e.0)) (λ w. IsTrue (processes w.pid))) (eq-eqb e.0 e.0 refl) (belong e.0) in
    absurd (let f : false ≡ true = sym (nobody e.1.pid) ∙ here in cc)

no_names : {X Y : Type 0} (f : X → Y) (xs : List X) → map f xs ≡ [] → xs ≡ []
no_names f [] e = refl
no_names f (x ∷ xs) e = absurd (cc)

module _ {A : Type 0} (k : Contents A) (sound : IsSound A k) (nobody : (pid : ℕ) → is_pid k.tables pid ≡ false) (nameless : k.nodes.names ≡ []) where
  abbrev c : Core A numbers
  c = core_of k

  -- nothing is in use
  no_use : in_use c ≡ []
  unfolding in_rows in_parked pids core_of
  no_use = by (none_pass (is_pid k.tables) nobody (numbers_from (process_limit k.limits) 1)) (no_calls (is_pid k.tables) nobody k.calls.calls sound.belong)
    where
      by : filter (is_pid k.tables) (numbers_from (process_limit k.limits) 1) ≡ [] → k.calls.calls ≡ [] → in_use (core_of k) ≡ []
      by rows calls = λ i. flat_map (λ pid. filter_map ((core_of k).rows pid) (numbers_from (descriptor_limit k.limits) 0)) (rows i) ++ flat_map (λ (w : ℕ × Waiting A numbers). w.1.kept) (parked_of (calls i))

  not_kept : (n : KeyNode numbers) → is_kept c n ≡ false
  unfolding core_of
  not_kept n =
      (λ i. list_any (λ d. is_end any_mode n (c.descriptions d)) (no_use i) || list_any (λ (e : List ℕ × KeyNode numbers). same_node e.1 n) (map (λ (e : List ℕ × Node). (e.0, node_of e.1)) (nameless i)))

  pub no_pipe : (p : ℕ) → at k.nodes.pipes p ≡ None
  unfolding core_of settle
  no_pipe p = by sound.settled
    where
      by : settle (core_of {A = A} k) (core_of k) ≡ core_of k → at k.nodes.pipes p ≡ None
      by settled = ap (λ (z : Core A numbers). z.pipes p) (sym settled) ∙ ap (λ b. option_map (settled_pipe (core_of k) (core_of k) p) (kept_if b (at k.nodes.pipes p))) (not_kept (PipeNode p))

  pub no_file : (f : ℕ) → at k.nodes.files f ≡ None
  unfolding core_of settle
  no_file f = by sound.settled
    where
      by : settle (core_of {A = A} k) (core_of k) ≡ core_of k → at k.nodes.files f ≡ None
      by settled = ap (λ (z : Core A numbers). z.files f) (sym settled) ∙ ap (λ b. kept_if b (at k.nodes.files f)) (not_kept (FileNode f))

-- a kernel that stands for a state with no process and no name
module _ {A : Type 0} (k : Contents A) (s : State A) (stands : Stands k s) (deserted : IsDeserted s) where
  pub nobody_there : (pid : ℕ) → is_pid k.tables pid ≡ false
  unfolding core_of
  nobody_there pid = ap (λ (z : Core A numbers). z.processes pid) stands.renamed ∙ deserted.processes pid

  pub nameless_there : k.nodes.names ≡ []
  unfolding core_of
  nameless_there = no_names (λ (e : List ℕ × Node). (e.0, node_of e.1)) k.nodes.names (no_names (λ (e : List ℕ × KeyNode numbers). (e.0, rename_node stands.numbered e.1)) (map (λ (e : List ℕ × Node). (e.0, node_of e.1)) k.nodes.names) (ap (λ (z : Core A numbers). z.names) stands.renamed ∙ deserted.names))
