-- What a kernel's state is known to be.
use Rattle.std.proofs.Common.{◌≡◌, ℕ, false, List, [], ◌∷◌, length, get_or, refl, subst, nat_eq}
use Rattle.std.specs.Prelude.{All, IsSome, IfSome, is_some, option_map}
use Rattle.std.specs.declared.option.Option.{Option}
use Rattle.std.specs.declared.option.Option.TheVariants.{None, Some}
use Rattle.std.proofs.lemmas.Bool.{eq-eqb}
use Rattle.std.proofs.lemmas.List.Folds.{list_any_at}
use Rattle.pl_model.specs.Keys.{NewKeys}
use Rattle.pl_model.specs.Map.{get}
use Rattle.pl_model.specs.Numbered.{numbers}
use Rattle.pl_model.specs.State.{Core, Description, Waiting}
use Rattle.pl_model.specs.StandsFor.{AreUnused}
use Rattle.pl_model.proofs.touching.SameAt.{IsFit, IsThereAt}
use Rattle.pl_parked.specs.declared.call.ParkedCall.{ParkedCall}
use Rattle.pl_desc.specs.Rows.{at, Tables, table_of, rows_in, is_pid, row_at}
use Rattle.pl_desc.specs.Descs.{Opened}
use Rattle.pl_model.specs.declared.node.Node.{Node}
use Rattle.pl_model.specs.declared.node.Node.TheVariants.{Pipe, File}
use Rattle.pl_state.specs.Contents.{Contents, contents, IsThere, core_of, description_of, node_of}
use Rattle.pl_state.specs.Sound.{IsWaiting, Keeps}
use Rattle.pl_state.proofs.Known.{Known, parts_of}
use Rattle.pl_state.proofs.waiting.Ending.{member_there}
use Rattle.pl_state.proofs.waiting.InOrder.{order_of}
use Rattle.pl_naming.proofs.by_call.Unused.{keys, are_unused}
use Rattle.pl_kernel.proofs.index.Leaving.{IsKnown}
use Rattle.pl_kernel.proofs.index.Touching.{call-found}

-- a process that isn't there names nothing
no_rows : (tables : Tables) (pid fd : ℕ) → is_pid tables pid ≡ false → row_at tables pid fd ≡ None
no_rows tables pid fd none = by (table_of tables pid) none
  where
    by : (o : Option (List (Option ℕ))) → is_some o ≡ false → at (rows_in o) fd ≡ None
    by None h = refl
    by (Some t) h = absurd (cc)

-- past the end of a list there is nothing
past : {X : Type 0} (xs : List (Option X)) → at xs (length xs) ≡ None
past [] = refl
past (x ∷ xs) = past xs

module _ {A : Type 0} (m : Known A) where
  open m use {descs, nodes, calls, limits, sound, are}

  abbrev k : Contents A
  k = contents descs nodes calls limits

  abbrev c : Core A numbers
  c = core_of k

  described : (d : ℕ) → IsSome (at descs.opened d) → IsSome (c.descriptions d)
  unfolding core_of
  described d some = by (at descs.opened d) some
    where
      by : (o : Option Opened) → IsSome o → IsSome (option_map description_of o)
      by None h = absurd (cc)
      by (Some o) h = h

  all_kept : (number : ℕ) (v : Waiting A numbers) → get nat_eq c.parked number ≡ Some v → All (λ d. IsSome (c.descriptions d)) v.kept
  all_kept number v here = (let f = call-found k number v here in subst (λ (z : Waiting A numbers). All (λ d. IsSome (c.descriptions d)) z.kept) f.2 (each f.0 f.1))
    where
      each : (w : ParkedCall A) → get nat_eq calls.calls number ≡ Some w → All (λ d. IsSome (c.descriptions d)) w.kept
      each w here i z l =
          let d = get_or w.kept i z in
          described d (member_there (parts_of m) number w here d (list_any_at (nat_eq d) w.kept i z l (eq-eqb d d refl)))

  there : (d : ℕ) (x : Description numbers) → c.descriptions d ≡ Some x → IsThereAt c x.node
  unfolding core_of
  there d x e = by (at descs.opened d) e (sound.there.described d)
    where
      on : (n : Node) → IsThere nodes n → IsThereAt c (node_of n)
      on (Pipe p) h = h
      on (File f) h = h

      by : (o : Option Opened) → option_map description_of o ≡ Some x → IfSome o (λ o. IsThere nodes o.node) → IsThereAt c x.node
      by None e h = absurd (cc)
      by (Some o) e h = (let same : description_of o ≡ x = cc in subst (λ (z : Description numbers). IsThereAt c z.node) same (on o.node h))

  fit : IsFit c
  unfolding core_of
  fit = record { settled = sound.settled; once = (order_of k sound).once; rows = λ pid fd none. no_rows descs.tables pid fd none; kept = all_kept; there = there }

  kept_as : (number : ℕ) (v : Waiting A numbers) → get nat_eq c.parked number ≡ Some v → Keeps v.call v.kept
  kept_as number v here =
      let f = call-found k number v here in
      let waits : IsWaiting A f.0 = subst (λ o. IfSome o (IsWaiting A)) f.1 (sound.waiting number) in
      subst (λ (z : Waiting A numbers). Keeps z.call z.kept) f.2 waits.keeps

  pub known : IsKnown c
  known = record { fit = fit; order = order_of k sound; keeps = kept_as }

  -- Some keys are unused.
  abbrev pub new_keys : NewKeys numbers
  new_keys = keys m (length descs.opened) (length nodes.pipes) (length nodes.files)

  pub unused : AreUnused c new_keys
  unused = are_unused m (length descs.opened) (length nodes.pipes) (length nodes.files) (past descs.opened) (past nodes.pipes) (past nodes.files)

-- The same of what the parts come to.
module _ {A : Type 0} (s : Contents A) (m : Known A) (is : contents m.descs m.nodes m.calls m.limits ≡ s) where
  pub known_in : IsKnown (core_of s)
  known_in = subst (λ (z : Contents A). IsKnown (core_of z)) is (known m)

  pub unused_in : AreUnused (core_of s) (new_keys m)
  unused_in = subst (λ (z : Contents A). AreUnused (core_of z) (new_keys m)) is (unused m)
