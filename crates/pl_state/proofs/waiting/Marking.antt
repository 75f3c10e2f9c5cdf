-- The opens that another open meets are those that it meets in the machine.
use Rattle.std.proofs.Common.{◌≡◌, ℕ, ◌+◌, Bool, true, false, cond, List, [], ◌∷◌, Option, Some, None, IfSome, IsSome, refl, sym, ◌∙◌, ap, subst, nat_eq, arith}
use Rattle.std.specs.Prelude.{◌&&◌, ◌||◌, map, option_map}
use Rattle.std.specs.List.{list_any}
use Rattle.std.specs.Option.{option_eq}
use Rattle.std.proofs.lemmas.Bool.{eq-eqb, eqb-true}
use Rattle.pl_model.specs.declared.calls.Call.{Call}
use Rattle.pl_model.specs.declared.calls.Call.TheVariants as call
use Rattle.pl_model.specs.declared.calls.Mode.{Mode}
use Rattle.pl_model.specs.declared.flags.OpenFlags.{OpenFlags}
use Rattle.pl_model.specs.declared.node.Node.{Node}
use Rattle.pl_model.specs.declared.node.Node.TheVariants as node
use Rattle.pl_model.specs.Map.{Map, get}
use Rattle.pl_model.specs.Modes.{any_mode, lacks_end_of}
use Rattle.pl_model.specs.Keys.{PipeNode}
use Rattle.pl_model.specs.State.{Core, Waiting}
use Rattle.pl_model.specs.Live.{is_end}
use Rattle.pl_model.specs.Fifo.{meet}
use Rattle.pl_model.specs.Fifo.{meets as machine_meets, is_open_without as machine_without}
use Rattle.pl_model.specs.Numbered.{numbers}
use Rattle.pl_parked.specs.declared.call.ParkedCall.{ParkedCall}
use Rattle.pl_numbered.specs.Rising.{Rise}
use Rattle.pl_parked.specs.Meeting.{meets, marked, all_marked, is_open_without as kernel_without}
use Rattle.pl_desc.specs.Rows.{at}
use Rattle.pl_desc.specs.Descs.{Opened}
use Rattle.pl_state.specs.Contents.{Contents, contents, description_of, waiting_of, parked_of, core_of}
use Rattle.pl_state.specs.Sound.{IsWaiting, Keeps, MayKeep, OnNode, KeepsNodes}
use Rattle.pl_state.proofs.Known.{Known, parts_of}
use Rattle.pl_state.proofs.waiting.Ending.{kept_there}
use Rattle.pl_state.proofs.holders.Holding.{absent_low}
use Rattle.pl_state.proofs.holders.OnNodes.{kept-one}

module _ {A : Type 0} (m : Known A) (p : ℕ) (mode : Mode) where
  open m use {descs, nodes, calls, limits, sound}

  abbrev k : Contents A
  k = contents descs nodes calls limits

  abbrev c : Core A numbers
  c = core_of k

  -- the call is met in the kernel where it is met in the machine
  abbrev IsAlike : ParkedCall A → Type 0
  IsAlike w = machine_meets c p mode (waiting_of w) ≡ meets p mode w

  -- an open that keeps a description waits at its pipe
  at_pipe : (w : ParkedCall A) (name : List ℕ) (own : Mode) (flags : OpenFlags) (o : Option Opened) → IsSome o → IfSome o (λ o. MayKeep (record w { call = call.OpenName name own flags }) o.node) → option_eq nat_eq w.fifo (Some p) ≡ (is_end {K = numbers} any_mode (PipeNode p) (option_map description_of o) || false)
  at_pipe w name own flags None here h = absurd (cc)
  at_pipe w name own flags (Some o) here h = by o.node h
    where
      pass : (b : Bool) → b ≡ ((b && true) || false)
      pass true = refl
      pass false = refl

      by : (n : Node) → MayKeep (record w { call = call.OpenName name own flags }) n → option_eq nat_eq w.fifo (Some p) ≡ (is_end {K = numbers} any_mode (PipeNode p) (Some (description_of (record o { node = n }))) || false)
      by (node.Pipe q) h = ap (λ f. option_eq nat_eq f (Some p)) h ∙ pass (nat_eq q p)
      by (node.File f) h = absurd h

  alike : (n : ℕ) (w : ParkedCall A) → get nat_eq calls.calls n ≡ Some w → IsAlike w
  unfolding core_of
  alike n w here = by w.call refl
    where
      waits : IsWaiting A w
      waits = subst (λ o. IfSome o (IsWaiting A)) here (sound.waiting n)

      on : KeepsNodes (at descs.opened) w
      on = subst (λ o. IfSome o (KeepsNodes (at descs.opened))) here (sound.on_nodes n)

      ends : List ℕ → Bool
      ends kept = list_any (λ d. is_end {K = numbers} any_mode (PipeNode p) (option_map description_of (at descs.opened d))) kept

      swap : (a b : Bool) → (a && b) ≡ (b && a)
      swap true true = refl
      swap true false = refl
      swap false true = refl
      swap false false = refl

      none : (b : Bool) → (b && false) ≡ false
      none true = refl
      none false = refl

      by : (x : Call A) → w.call ≡ x → IsAlike w
      by (call.OpenName name own flags) e =
          let only = subst (λ z. Keeps z w.kept) e waits.keeps in
          let kept_on = subst (λ z. OnNode (at descs.opened) (record w { call = z }) only.0) e (kept-one (at descs.opened) w only.0 only.1 on) in
          let same = at_pipe w name own flags (at descs.opened only.0) (kept_there (parts_of m) n w here only.0 only.1) kept_on in
          (λ i. (machine_without mode (e i) && ends (only.1 i))) ∙ ap (λ b. lacks_end_of own mode && b) (sym same) ∙ swap (lacks_end_of own mode) (option_eq nat_eq w.fifo (Some p)) ∙ (λ i. option_eq nat_eq w.fifo (Some p) && kernel_without mode (sym e i))
      by other e = (λ i. machine_without mode (e i) && ends w.kept) ∙ sym (none (option_eq nat_eq w.fifo (Some p))) ∙ (λ i. option_eq nat_eq w.fifo (Some p) && kernel_without mode (sym e i))

  one : (w : ParkedCall A) → IsAlike w → waiting_of (marked p mode w) ≡ cond (machine_meets c p mode (waiting_of w)) (record (waiting_of w) { met = true }) (waiting_of w)
  one w e = by (meets p mode w) ∙ ap (λ b. cond b (record (waiting_of w) { met = true }) (waiting_of w)) (sym e)
    where
      by : (b : Bool) → waiting_of (cond b (record w { met = true }) w) ≡ cond b (record (waiting_of w) { met = true }) (waiting_of w)
      by true = refl
      by false = refl

  abbrev met_entry : ℕ × Waiting A numbers → ℕ × Waiting A numbers
  met_entry e = (e.0, cond (machine_meets c p mode e.1) (record e.1 { met = true }) e.1)

  all_alike : (low next : ℕ) (es : Map ℕ (ParkedCall A)) → Rise low next es → ((n : ℕ) (w : ParkedCall A) → get nat_eq es n ≡ Some w → IsAlike w) → parked_of (all_marked p mode es) ≡ map met_entry (parked_of es)
  all_alike low next [] r h = refl
  all_alike low next (e ∷ es) r h = λ i. (e.0, one e.1 (h e.0 e.1 (ap (λ b. cond b (Some e.1) (get nat_eq es e.0)) (eq-eqb e.0 e.0 refl))) i) ∷ all_alike (e.0 + 1) next es r.1 (λ n w g. h n w (behind n w g)) i
    where
      behind : (n : ℕ) (w : ParkedCall A) → get nat_eq es n ≡ Some w → get nat_eq (e ∷ es) n ≡ Some w
      behind n w g = by (nat_eq e.0 n) refl
        where
          by : (b : Bool) → nat_eq e.0 n ≡ b → cond b (Some e.1) (get nat_eq es n) ≡ Some w
          by false is = g
          by true is = absurd (let same : e.0 ≡ n = eqb-true e.0 n is in let f : None ≡ Some w = sym (absent_low (e.0 + 1) next n es r.1 (omega (arith, same))) ∙ g in cc)

  pub marked-is : parked_of (all_marked p mode calls.calls) ≡ (meet c p mode).parked
  unfolding core_of
  marked-is = all_alike 0 calls.next calls.calls sound.rise alike
