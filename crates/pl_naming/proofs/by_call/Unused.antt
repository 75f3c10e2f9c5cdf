-- Keys that nothing uses.
use Rattle.std.proofs.Common.{◌≡◌, ◌≢◌, ℕ, ◌+◌, ◌≤◌, true, List, [], ◌∷◌, length, Option, None, refl, sym, ap, nat_eq, suc, zero, arith, slice_index_or}
use Rattle.std.specs.Prelude.{All, option_map}
use Rattle.std.specs.Set.{is_member}
use Rattle.std.proofs.lemmas.Bool.{eq-eqb}
use Rattle.std.proofs.lemmas.List.Folds.{list_any_at}
use Rattle.pl_model.specs.declared.node.Node.TheVariants as node
use Rattle.pl_model.specs.Keys.{NewKeys}
use Rattle.pl_model.specs.State.{Core, Waiting}
use Rattle.pl_model.specs.Numbered.{numbers}
use Rattle.pl_model.specs.StandsFor.{AreUnused, IsUnusedDescription}
use Rattle.pl_model.proofs.settling.Parking.{keeps as machine_keeps}
use Rattle.pl_desc.specs.Rows.{at}
use Rattle.pl_state.specs.Contents.{Contents, contents, description_of, core_of}
use Rattle.pl_state.proofs.Known.{Known}
use Rattle.pl_state.proofs.by_call.Piping.{kept_live, no_value, unused_node}

past : {X : Type 0} (xs : List (Option X)) (k : ℕ) → length xs ≤ k → at xs k ≡ None
past [] k l = refl
past (x ∷ xs) zero l = absurd (omega (arith, l))
past (x ∷ xs) (suc k) l = past xs k (omega (arith, l))

module _ {A : Type 0} (m : Known A) where
  open m use {descs, nodes, calls, limits, sound, are}

  abbrev k : Contents A
  k = contents descs nodes calls limits

  abbrev c : Core A numbers
  c = core_of k

  no_kept : (q : ℕ) → at k.opened q ≡ None → All (λ (e : ℕ × Waiting A numbers). All (λ j. j ≢ q) e.1.kept) c.parked
  no_kept q v = λ i w l. λ j z n. λ same.
      let e = slice_index_or c.parked i w in
      let member : is_member nat_eq e.1.kept q ≡ true = list_any_at (nat_eq q) e.1.kept j z n (eq-eqb q (slice_index_or e.1.kept j z) (sym same)) in
      let kept : machine_keeps c.parked q ≡ true = list_any_at (λ (e : ℕ × Waiting A numbers). is_member nat_eq e.1.kept q) c.parked i w l member in
      no_value (at k.opened q) v (kept_live m q kept)

  pub unused : (q : ℕ) → at k.opened q ≡ None → IsUnusedDescription c q
  unfolding core_of
  unused q v = record { rows = λ p j e. no_value (at k.opened q) v (are.tidy.named p j q e); descriptions = ap (option_map description_of) v; parked = no_kept q v }

  -- a description's key, and one beside it
  abbrev other : ℕ → ℕ
  other d = length k.opened + suc d

  abbrev pub keys : (d pipe file : ℕ) → NewKeys numbers
  keys d pipe file = record { description = d; other_description = other d; pipe = pipe; file = file }

  pub are_unused : (d pipe file : ℕ) → at k.opened d ≡ None → at k.nodes.pipes pipe ≡ None → at k.nodes.files file ≡ None → AreUnused c (keys d pipe file)
  unfolding core_of
  are_unused d pipe file vacant no_pipe no_file = record {
    description = unused d vacant;
    other_description = unused (other d) (past k.opened (other d) (omega arith));
    apart = λ e. absurd (omega (arith, e));
    pipe = record { node = unused_node k sound.there (node.Pipe pipe) (no_value (at k.nodes.pipes pipe) no_pipe); pipes = no_pipe };
    file = record { node = unused_node k sound.there (node.File file) (no_value (at k.nodes.files file) no_file); files = no_file };
  }
