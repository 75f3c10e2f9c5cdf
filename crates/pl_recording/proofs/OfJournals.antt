-- The record of a journal replays.
use Rattle.std.proofs.Common.{◌≡◌, List, [], ◌∷◌, true, refl, ap, sym, ◌∙◌}
use Rattle.std.specs.Prelude.{map}
use Rattle.std.proofs.lemmas.List.Elements.{All-map}
use Rattle.pl_model.specs.declared.history.Entry.{Entry}
use Rattle.pl_model.specs.History.{steps_of}
use Rattle.pl_model.specs.Numbered.{opening}
use Rattle.pl_model.specs.Run.{replies}
use Rattle.pl_model.specs.Said.{is_sayable, StepFits}
use Rattle.pl_model.specs.declared.calls.Step.{Step}
use Rattle.pl_model.specs.declared.replies.Reply.{Reply}
use Rattle.pl_recording.specs.Record.{made_in}
use Rattle.pl_recording.specs.Replay.{JournalsReplay}
use Rattle.pl_recording.proofs.Rerun.{records_replay}

module _ {A : Type 0} where
  steps_in : (h : List (Entry A)) → map (λ e. e.0) (made_in h) ≡ steps_of h
  steps_in [] = refl
  steps_in (e ∷ es) = ap (λ l. e.step ∷ l) (steps_in es)

  replies_in : (h : List (Entry A)) → map (λ e. e.1) (made_in h) ≡ map (λ (e : Entry A). e.reply) h
  replies_in [] = refl
  replies_in (e ∷ es) = ap (λ l. e.reply ∷ l) (replies_in es)

pub journals_replay : (A : Type 0) → JournalsReplay A
journals_replay A limits h legal sayable fit =
    records_replay A limits (made_in h)
    (record { sayable = All-map (λ (e : Step A × Reply A). is_sayable {A = A} e.0 ≡ true) _ h sayable; fit = All-map (λ (e : Step A × Reply A). StepFits {A = A} e.0) _ h fit; are_replies = replies_in h ∙ legal.replies ∙ ap (replies (opening limits)) (sym (steps_in h)) })
