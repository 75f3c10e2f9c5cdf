-- A parked call, between two states that are the same where it waits.
use Rattle.std.proofs.Common.{◌≡◌, ℕ, Bool, true, false, cond, List, [], ◌∷◌, Option, Some, None, inl, inr, refl, sym, ◌∙◌, ap, subst, nat_eq}
use Rattle.std.specs.Prelude.{All, IsSome, ◌||◌, ◌&&◌}
use Rattle.std.specs.Set.{is_member}
use Rattle.std.proofs.lemmas.Bool.Decides.{eqb_tells}
use Rattle.std.proofs.lemmas.List.Elements.{All-head, All-tail}
use Rattle.pl_model.specs.declared.calls.Limits.{Limits}
use Rattle.pl_model.specs.declared.calls.Step.{Step}
use Rattle.pl_model.specs.Modes.{any_mode}
use Rattle.pl_model.specs.Map.{Map, get}
use Rattle.pl_model.specs.Keys.{Node, NewKeys, Drawing, Plain, Draws, drawn, drawing_map}
use Rattle.pl_model.specs.State.{Core, Description, Waiting}
use Rattle.pl_model.specs.Live.{is_live, is_end, in_rows}
use Rattle.pl_model.specs.Settle.{settle}
use Rattle.pl_model.specs.Trial.{Flow, flowed, lost, gained}
use Rattle.pl_model.specs.Step.{Stepped, happen, core_step, ended}
use Rattle.pl_model.specs.Numbered.{numbers}
use Rattle.pl_model.specs.Waking.{progresses, can_progress}
use Rattle.pl_model.specs.Touching.{keeps_at}
use Rattle.pl_model.proofs.by_call.Keeps.{Changes, Keeps, happen-keeps}
use Rattle.pl_model.proofs.settling.Members.{or_left, or_right, member_passes}
use Rattle.pl_model.proofs.settling.WhoIsLive.{is_on}
use Rattle.pl_model.proofs.settling.Opening.{same_refl}
use Rattle.pl_model.proofs.settling.Parking.{keeps, live-is}
use Rattle.std.proofs.lemmas.Bool.{eqb-true}
use Rattle.pl_model.proofs.touching.SameAt.{SameAt, IsFit}
use Rattle.pl_model.proofs.touching.Ending.{settle-same}
use Rattle.pl_model.proofs.touching.Progress.{SameFor, progresses-same}

-- what holds of each element holds of a member
pub member_has : (P : ℕ → Type 0) (xs : List ℕ) → All P xs → (d : ℕ) → is_member nat_eq xs d ≡ true → P d
member_has P [] all d m = absurd (cc)
member_has P (x ∷ xs) all d m = at (member_has P xs (All-tail P x xs all) d)
  where
    at : (is_member nat_eq xs d ≡ true → P d) → P d
    at rest = elim (eqb_tells d x) as (λ _. P d) [
      | inl e ↦ subst P (sym e.1) (All-head P x xs all)
      | inr e ↦ rest (ap (λ b. b || is_member nat_eq xs d) (sym e.0) ∙ m)
    ]

-- a description is on its own node
on_own : (x : Description numbers) → is_on x.node (Some x) ≡ true
on_own x = λ i. same_refl x.node i && true

module _ {A : Type 0} where
  kept_found : (calls : Map ℕ (Waiting A numbers)) (n : ℕ) (w : Waiting A numbers) (d : ℕ) → get nat_eq calls n ≡ Some w → is_member nat_eq w.kept d ≡ true → keeps calls d ≡ true
  kept_found [] n w d here m = absurd (cc)
  kept_found (e ∷ es) n w d here m = at (nat_eq e.0 n) here (kept_found es n w d)
    where
      at : (b : Bool) → cond b (Some e.1) (get nat_eq es n) ≡ Some w → (get nat_eq es n ≡ Some w → is_member nat_eq w.kept d ≡ true → keeps es d ≡ true) → keeps (e ∷ es) d ≡ true
      at true h rest = (let is : e.1 ≡ w = cc in or_left _ (keeps es d) (ap (λ (z : Waiting A numbers). is_member nat_eq z.kept d) is ∙ m))
      at false h rest = or_right (is_member nat_eq e.1.kept d) _ (rest h m)

  flowed-limits : (s : Core A numbers) (flow : Flow numbers) → (flowed s flow).limits ≡ s.limits
  unfolding flowed
  flowed-limits s flow = into (lost s flow.out) flow.into ∙ out flow.out
    where
      into : (u : Core A numbers) (i : Option (ℕ × List ℕ)) → (gained u i).limits ≡ u.limits
      into u None = refl
      into u (Some i) = refl

      out : (o : Option (ℕ × ℕ)) → (lost s o).limits ≡ s.limits
      out None = refl
      out (Some o) = refl

  settled-limits : (before s : Core A numbers) → (settle before s).limits ≡ s.limits
  unfolding settle
  settled-limits before s = refl

  limits_kept : (new : NewKeys numbers) (l : Limits) → Keeps new (λ (s : Core A numbers). s.limits ≡ l)
  limits_kept new l =
      let changes : Changes new (λ (s : Core A numbers). s.limits ≡ l) = record {
        one = eqb-true;
        install = λ s pid fd k h. h;
        close_row = λ s pid fd h. h;
        describe_other = λ s n mode flags h. h;
        describe = λ s n mode flags h. h;
        set_description = λ s k x on h. h;
        new_pipe = λ s direct h. h;
        set_capacity = λ s p size h. h;
        set_file = λ s f bytes h. h;
        create_file = λ s name h. h;
        meet = λ s p mode h. h;
        create_fifo = λ s name h. h;
        forget_name = λ s name h. h;
        fork = λ s pid child h. h;
        exit = λ s pid h. h;
      } in
      record {
        changes = changes;
        start = λ s pid h. h;
        flowed = λ s flow h. flowed-limits s flow ∙ h;
        parked = λ s w h. h;
        parked_again = λ s c w h. h;
        without_call = λ s c h. h;
        settle = λ before s h. settled-limits before s ∙ h;
      }

  -- A step leaves the limits.
  pub happen-limits : (c : Core A numbers) (x : Step A) (new : NewKeys numbers) → (drawn new (happen c x)).state.limits ≡ c.limits
  happen-limits c x new = happen-keeps (limits_kept new c.limits) c x refl

  pub settled-parked : (before u : Core A numbers) → (settle before u).parked ≡ u.parked
  unfolding settle
  settled-parked before u = refl

  drawn_ended : (c : Core A numbers) (new : NewKeys numbers) (d : Drawing numbers (Stepped A numbers)) → drawn new (drawing_map (ended c) d) ≡ ended c (drawn new d)
  drawn_ended c new (Plain h) = refl
  drawn_ended c new (Draws f) = refl

  -- a step is what happens at once, settled
  pub core_step-is : (c : Core A numbers) (x : Step A) (new : NewKeys numbers) → drawn new (core_step c x) ≡ ended c (drawn new (happen c x))
  unfolding core_step
  core_step-is c x new = drawn_ended c new (happen c x)

-- a call that is parked
module _ {A : Type 0} (c : Core A numbers) (fit : IsFit c) (number : ℕ) (w : Waiting A numbers) (here : get nat_eq c.parked number ≡ Some w) where
  pub kept-live : (d : ℕ) → is_member nat_eq w.kept d ≡ true → is_live c d ≡ true
  kept-live d m = live-is c d ∙ or_right (is_member nat_eq (in_rows c) d) _ (kept_found c.parked number w d here m)

  -- Another state that is the same at each node where the call waits is the same for the call.
  pub same_for : (v : Core A numbers) → v.limits ≡ c.limits →
      ((node : Node numbers) (d : ℕ) → is_live c d ≡ true → is_on node (c.descriptions d) ≡ true → keeps_at c node w ≡ true → SameAt c v node) → SameFor c v w.kept
  same_for v limits same = record { limits = limits; described = λ d m. stands d m (c.descriptions d) refl (member_has (λ d. IsSome (c.descriptions d)) w.kept (fit.kept number w here) d m); at = at }
    where
      at : (d : ℕ) (x : Description numbers) → is_member nat_eq w.kept d ≡ true → c.descriptions d ≡ Some x → SameAt c v x.node
      at d x m e =
          let on : is_on x.node (c.descriptions d) ≡ true = ap (is_on x.node) e ∙ on_own x in
          same x.node d (kept-live d m) on (member_passes (λ d. is_end any_mode x.node (c.descriptions d)) w.kept d m on)

      stands : (d : ℕ) → is_member nat_eq w.kept d ≡ true → (o : Option (Description numbers)) → c.descriptions d ≡ o → IsSome (c.descriptions d) → v.descriptions d ≡ c.descriptions d
      stands d m None e i = absurd (let none : IsSome {T = Description numbers} None = subst (λ o. IsSome o) e i in cc)
      stands d m (Some x) e i = ((at d x m e).ends.forth d (kept-live d m) (ap (is_on x.node) e ∙ on_own x)).1

  -- the call stays as it is, and gets on where it did
  abbrev pub Stays : Core A numbers → Type 0
  Stays u = (get nat_eq u.parked number ≡ Some w) × (can_progress u number ≡ can_progress c number)

  pub stays : (u : Core A numbers) → get nat_eq u.parked number ≡ Some w → SameFor c u w.kept → Stays u
  stays u there same = (there, ap (progresses u) there ∙ progresses-same c u w same ∙ sym (ap (progresses c) here))

  -- what the end of a step leaves of a call
  pub ended-stays : (u : Core A numbers) → u.limits ≡ c.limits → get nat_eq u.parked number ≡ Some w →
      ((node : Node numbers) (d : ℕ) → is_live c d ≡ true → is_on node (c.descriptions d) ≡ true → keeps_at c node w ≡ true → SameAt c u node) → Stays (settle c u)
  ended-stays u limits there same = stays (settle c u) (ap (λ ps. get nat_eq ps number) (settled-parked c u) ∙ there)
      (same_for (settle c u) (settled-limits c u ∙ limits) (λ node d live on keeps. settle-same c u fit.settled node d live on (same node d live on keeps)))
