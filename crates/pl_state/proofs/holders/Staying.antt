-- A kernel that holds the same descriptions as before has the same of them live.
use Rattle.std.proofs.Common.{◌≡◌, ℕ, Option, None, Some, IsSome, refl, sym, ◌∙◌, ap, subst, nat_lt}
use Rattle.std.specs.Prelude.{◌+◌, is_some, option_map}
use Rattle.pl_model.specs.declared.calls.Limits.{Limits}
use Rattle.pl_model.specs.State.{Core}
use Rattle.pl_model.specs.Live.{is_live}
use Rattle.pl_model.specs.Settle.{settle}
use Rattle.pl_model.specs.Numbered.{numbers}
use Rattle.pl_model.proofs.settling.FromSettled.{same-settled}
use Rattle.pl_model.proofs.Counting.{above}
use Rattle.pl_parked.specs.Calls.{Calls}
use Rattle.pl_desc.specs.Rows.{at, is_pid, naming}
use Rattle.pl_desc.specs.Descs.{Opened, Descs, holders}
use Rattle.pl_state.specs.Contents.{Nodes, contents, description_of, core_of}
use Rattle.pl_state.specs.Sound.{IsSound, Belong, AreThere, AreCounted}
use Rattle.pl_state.proofs.Known.{Known}
use Rattle.pl_state.proofs.holders.Holding.{lives-is}
use Rattle.pl_state.proofs.holders.There.{settled_after}
use Rattle.pl_state.proofs.holders.OnNodes.{wait-same}

module _ {A : Type 0} (descs : Descs) (nodes : Nodes) (calls : Calls A) (limits : Limits) (are : AreCounted A limits descs calls.calls) where
  -- a description is live exactly where it is open
  pub opened-live : (d : ℕ) → is_live (core_of (contents descs nodes calls limits)) d ≡ is_some (at descs.opened d)
  unfolding core_of
  opened-live d =
      lives-is (core_of (contents descs nodes calls limits)) descs.tables calls.calls refl refl refl descs.limits are.bounds are.tidy.few are.tidy.wide d
      ∙ ap (λ n. nat_lt 0 (naming descs.tables d + n)) (sym (are.counted d)) ∙ by (at descs.opened d) refl
    where
      by : (o : Option Opened) → at descs.opened d ≡ o → nat_lt 0 (holders descs d) ≡ is_some o
      by None e = ap (nat_lt 0) (are.tidy.bare d e)
      by (Some o) e = above (holders descs d) (are.tidy.held d (subst (λ z. IsSome z) (sym e) refl))

-- Rows and calls changed, and what is open didn't.
module _ {A : Type 0} (m : Known A) (descs' : Descs) (same : at descs'.opened ≡ at m.descs.opened) (are' : AreCounted A m.limits descs' m.calls.calls) where
  open m use {descs, nodes, calls, limits, sound, are}

  abbrev c : Core A numbers
  c = core_of (contents descs nodes calls limits)

  abbrev u : Core A numbers
  u = core_of (contents descs' nodes calls limits)

  pub stays-settled : settle c u ≡ u
  unfolding core_of
  stays-settled = same-settled c u sound.settled (record { descriptions = ap (λ (m : ℕ → Option Opened). λ d. option_map description_of (m d)) same; files = refl; names = refl })
      (λ d. opened-live descs' nodes calls limits are' d ∙ (λ i. is_some (same i d)) ∙ sym (opened-live descs nodes calls limits are d)) refl

  pub stays-sound : Belong calls.calls (is_pid descs'.tables) → IsSound A (contents descs' nodes calls limits)
  stays-sound belong = record {
    whole = record {
      rise = sound.rise;
      numbered = sound.numbered;
      there = subst (λ m. AreThere m nodes) (sym same) sound.there;
      limit = sound.limit;
      once = sound.once;
      settled = settled_after u c u (sym stays-settled);
    };
    waiting = sound.waiting;
    belong = belong;
    on_nodes = wait-same calls.calls (at descs.opened) (at descs'.opened) same sound.on_nodes;
  }
