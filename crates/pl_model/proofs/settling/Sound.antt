-- The invariant of the machine's states, and what of it stands at the start.
use Rattle.std.specs.Prelude.{Bool, true, false, List, [], ◌∷◌, option_map}
use Rattle.pl_model.specs.declared.calls.Limits.{Limits}
use Rattle.pl_model.specs.declared.calls.Step.{Step}
use Rattle.pl_model.specs.Keys.{Drawing, Plain, Draws, drawing_map, PipeNode, FileNode}
use Rattle.pl_model.specs.State.{Core, opening_core}
use Rattle.pl_model.specs.Live.{is_live}
use Rattle.pl_model.specs.Settle.{settle, settled_pipe, is_kept}
use Rattle.pl_model.specs.Step.{Stepped, happen, core_step, ended}
use Rattle.pl_model.specs.Numbered.{numbers, State, opening, next_numbers, step_of, step}
use Rattle.pl_model.specs.Run.{after}
use Rattle.pl_model.specs.Laws.{IsSettled, IsSound}
use Rattle.pl_model.proofs.settling.WhoIsLive.{nothing_kept}
use Rattle.pl_model.proofs.settling.Idempotent.{settled}
use Rattle.pl_model.proofs.renaming.Simulates.{below_step}
use Rattle.pl_model.proofs.streams.StreamRuns.{opening_below}

module _ {A : Type 0} where
  settled_after : (s : State A) (d : Drawing numbers (Stepped A numbers)) → IsSettled (step_of s (drawing_map (ended s.core) d)).state.core
  settled_after s (Plain h) = settled s.core h.state
  settled_after s (Draws f) = settled s.core (f (next_numbers s)).state

  pub step-settled : (s : State A) (x : Step A) → IsSettled (step s x).state.core
  unfolding step core_step
  step-settled s x = settled_after s (happen s.core x)

  pub opening-settled : (limits : Limits) → IsSettled (opening_core {A = A} {K = numbers} limits)
  unfolding settle
  opening-settled limits =
      let c : Core A numbers = opening_core limits in
      λ i. record c {
        descriptions = λ d. nothing_kept (is_live c d) i;
        pipes = λ p. option_map (settled_pipe c c p) (nothing_kept (is_kept c (PipeNode p)) i);
        files = λ f. nothing_kept (is_kept c (FileNode f)) i;
      }

  pub opening-sound : (limits : Limits) → IsSound (opening {A = A} limits)
  opening-sound limits = record { below = opening_below limits; settled = opening-settled limits }

  pub step-sound : (s : State A) (x : Step A) → IsSound s → IsSound (step s x).state
  step-sound s x sound = record { below = below_step s x sound.below; settled = step-settled s x }

  pub run-sound : (s : State A) (xs : List (Step A × Bool)) → IsSound s → IsSound (after s xs)
  run-sound s [] sound = sound
  run-sound s ((x, true) ∷ xs) sound = run-sound s xs sound
  run-sound s ((x, false) ∷ xs) sound = run-sound (step s x).state xs (step-sound s x sound)
