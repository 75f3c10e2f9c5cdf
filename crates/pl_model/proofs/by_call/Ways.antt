-- What holds of whatever the checks of a call lead to, and of whatever a try gives: one lemma for each way that these are made.
use Rattle.std.proofs.Common.{◌≡◌, Bool, true, false, cond, Option, refl}
use Rattle.std.specs.declared.option.Option.TheVariants.{None, Some}
use Rattle.pl_model.specs.declared.replies.Errno.{Errno}
use Rattle.pl_model.specs.Keys.{Keys, NewKeys, drawn, Draws, Plain}
use Rattle.pl_model.specs.State.{Core, Open}
use Rattle.pl_model.specs.Trial.{Trial, Done, Wait, Begun, Begins, Refused, Answered, Tried, refuse_if, found}
use Rattle.pl_model.specs.Step.{with_kept}

module _ {A : Type 0} {K : Keys} where
  -- the state that the checks lead to, if they lead to one, has the property
  abbrev pub BegunAll : (Core A K → Type 0) → Begun A K → Type 0
  BegunAll P (Refused errno) = Unit {0}
  BegunAll P (Answered s reply) = P s
  BegunAll P (Tried s kept met may_wait) = P s

  abbrev pub TrialAll : (Core A K → Type 0) → Trial A K → Type 0
  TrialAll P (Done s flow reply) = P s
  TrialAll P (Wait s flow taken) = P s

  -- the checks lead to what has the property, where these are the new keys
  unfoldable pub LeadsTo : NewKeys K → (Begun A K → Type 0) → Begins A K → Type 0
  LeadsTo new Q b = Q (drawn new b)

  -- any refusal has the property
  pub record Refusable (Q : Begun A K → Type 0) : Type 0 where
    pub refused : (errno : Errno) → Q (Refused errno)

  pub all_refusable : (P : Core A K → Type 0) → Refusable (BegunAll P)
  all_refusable P = record { refused = λ errno. tt }

  pub begun_found : {X : Type 0} (new : NewKeys K) (Q : Begun A K → Type 0) (o : Option X) (errno : Errno) (next : X → Begins A K) → Refusable Q → ((x : X) → o ≡ Some x → LeadsTo new Q (next x)) → LeadsTo new Q (found o errno next)
  unfolding LeadsTo
  begun_found new Q None errno next r h = r.refused errno
  begun_found new Q (Some x) errno next r h = h x refl

  pub begun_if : (new : NewKeys K) (Q : Begun A K → Type 0) (b : Bool) (x y : Begins A K) → (b ≡ true → LeadsTo new Q x) → (b ≡ false → LeadsTo new Q y) → LeadsTo new Q (cond b x y)
  begun_if new Q true x y f g = f refl
  begun_if new Q false x y f g = g refl

  pub begun_past : (new : NewKeys K) (Q : Begun A K → Type 0) (b : Bool) (errno : Errno) (next : Begins A K) → Refusable Q → (b ≡ false → LeadsTo new Q next) → LeadsTo new Q (refuse_if b errno next)
  unfolding LeadsTo
  begun_past new Q true errno next r h = r.refused errno
  begun_past new Q false errno next r h = h refl

  pub begun_plain : (new : NewKeys K) (Q : Begun A K → Type 0) (b : Begun A K) → Q b → LeadsTo new Q (Plain b)
  unfolding LeadsTo
  begun_plain new Q b h = h

  pub begun_draws : (new : NewKeys K) (Q : Begun A K → Type 0) (f : NewKeys K → Begun A K) → Q (f new) → LeadsTo new Q (Draws f)
  unfolding LeadsTo
  begun_draws new Q f h = h

  pub trial_if : (Q : Trial A K → Type 0) (b : Bool) (x y : Trial A K) → (b ≡ true → Q x) → (b ≡ false → Q y) → Q (cond b x y)
  trial_if Q true x y f g = f refl
  trial_if Q false x y f g = g refl

  pub trial_all_if : (P : Core A K → Type 0) (b : Bool) (x y : Trial A K) → (b ≡ true → TrialAll P x) → (b ≡ false → TrialAll P y) → TrialAll P (cond b x y)
  trial_all_if P = trial_if (TrialAll P)

  pub trial_kept : (P : Core A K → Type 0) (s : Core A K) (o : Option (Open K)) (next : Open K → Trial A K) → P s → ((x : Open K) → o ≡ Some x → TrialAll P (next x)) → TrialAll P (with_kept s o next)
  trial_kept P s None next p h = p
  trial_kept P s (Some x) next p h = h x refl

  pub ruleset ways = (begun_found, begun_past, begun_if, begun_plain, begun_draws, trial_all_if, trial_kept, all_refusable)
