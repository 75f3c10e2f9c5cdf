-- In how many slots a pipe's bytes stand, whatever keys the machine has for it.
use Rattle.std.proofs.Common.{◌≡◌, ◌≤◌, ◌*◌, ◌/◌, ℕ, ℤ, pos, negsuc, Bool, true, false, nat_lt, Option, Some, None, refl, sym, ◌∙◌, ap, subst}
use Rattle.std.specs.Prelude.{option_map, option_and_then, unwrap_or, if◌then◌else◌}
use Rattle.pl_model.specs.Numbers.{most_descriptors}
use Rattle.pl_model.specs.Keys.{PipeNode, FileNode}
use Rattle.pl_model.specs.Keys.{Node as KeyNode}
use Rattle.pl_model.specs.State.{Core, Description, Open, Pipe, described, row, empty_pipe}
use Rattle.pl_model.specs.Trial.{pipe_at}
use Rattle.pl_model.specs.Capacity.{pipe_of}
use Rattle.pl_model.specs.Numbered.{numbers, State}
use Rattle.pl_model.specs.Renaming.{Renamings, rename, rename_node, rename_description}
use Rattle.pl_segments.specs.Segments.{segment_size}
use Rattle.pl_desc.specs.Rows.{at}
use Rattle.pl_state.specs.Contents.{Contents, core_of}
use Rattle.pl_state.specs.Makes.{Stands}
use Rattle.pl_transfers.specs.Capacities.{pipe_named, capacity_named, AreFew, WithinCapacity}

-- other keys name a pipe of the same capacity
module _ {A : Type 0} (r : Renamings) (c : Core A numbers) where
  row-renamed : (pid : ℕ) (fd : ℤ) → row (rename r c) pid fd ≡ option_map r.description.to (row c pid fd)
  row-renamed pid (negsuc n) = refl
  row-renamed pid (pos fd) = by (nat_lt fd most_descriptors)
    where
      by : (b : Bool) → (if b then option_map r.description.to (c.rows pid fd) else None) ≡ option_map r.description.to (if b then c.rows pid fd else None)
      by true = refl
      by false = refl

  capacity-renamed : (n : KeyNode numbers) → option_map (λ p. (pipe_at (rename r c) p).capacity) (pipe_of (rename_node r n)) ≡ option_map (λ p. (pipe_at c p).capacity) (pipe_of n)
  capacity-renamed (PipeNode p) = ap (λ q. Some (pipe_at c q).capacity) (r.pipe.back-to p)
  capacity-renamed (FileNode f) = refl

  abbrev capacity_of : (z : Core A numbers) → Option (Open numbers) → Option ℕ
  capacity_of z o = option_map (λ p. (pipe_at z p).capacity) (option_and_then (λ (o : Open numbers). pipe_of o.description.node) o)

  at-key : (d : Option ℕ) → capacity_of (rename r c) (option_and_then (described (rename r c)) (option_map r.description.to d)) ≡ capacity_of c (option_and_then (described c) d)
  at-key None = refl
  at-key (Some d) = ap (λ e. capacity_of (rename r c) (option_map (λ x. record { key = r.description.to d; description = x }) (option_map (rename_description r) (c.descriptions e)))) (r.description.back-to d) ∙ by (c.descriptions d)
    where
      by : (o : Option (Description numbers)) → capacity_of (rename r c) (option_map (λ x. record { key = r.description.to d; description = x }) (option_map (rename_description r) o)) ≡ capacity_of c (option_map (λ x. record { key = d; description = x }) o)
      by None = refl
      by (Some x) = capacity-renamed x.node

  pub capacity_named-renamed : (pid : ℕ) (fd : ℤ) → capacity_named (rename r c) pid fd ≡ capacity_named c pid fd
  capacity_named-renamed pid fd = ap (λ d. capacity_of (rename r c) (option_and_then (described (rename r c)) d)) (row-renamed pid fd) ∙ at-key (row c pid fd)

module _ {A : Type 0} (k : Contents A) (pid : ℕ) (fd : ℤ) where
  of_state : (s : State A) → Stands k s → capacity_named s.core pid fd ≡ capacity_named (core_of k) pid fd
  of_state s stands = ap (λ c. capacity_named c pid fd) (sym stands.renamed) ∙ capacity_named-renamed stands.numbered (core_of k) pid fd

  -- one that names a pipe with few slots
  pub within_some : (p : ℕ) → pipe_named (core_of k) pid fd ≡ Some p → (x : Pipe) → at k.nodes.pipes p ≡ Some x → (n : ℕ) → n ≤ 2 * x.capacity / segment_size → WithinCapacity k pid fd (Some n)
  unfolding core_of
  within_some p named x here n few = λ s. λ stands. subst (AreFew (Some n)) (sym (of_state s stands ∙ ap (option_map (λ p. (pipe_at (core_of k) p).capacity)) named ∙ ap (λ (o : Option Pipe). Some (unwrap_or o empty_pipe).capacity) here)) few
