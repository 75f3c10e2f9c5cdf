use Rattle.std.proofs.Common.{◌≡◌, ℕ, ℤ, Bool, true, List, Option, refl, sym, ◌∙◌, ap, subst}
use Rattle.std.specs.List.{flat_map}
use Rattle.pl_model.specs.declared.calls.Call.{Call}
use Rattle.pl_model.specs.declared.calls.Call.TheVariants as call
use Rattle.pl_model.specs.declared.flags.PollMask.{PollMask}
use Rattle.pl_model.specs.declared.flags.SpliceFlags.{SpliceFlags}
use Rattle.pl_state.specs.Contents.{core_of}
use Rattle.pl_kernel.specs.Queues.{End, queue_of, ends, place_in, places, is_placed}
use Rattle.pl_kernel.specs.Index.{Adds}
use Rattle.pl_kernel.proofs.placing.place.Goals as goal

-- a call that is no poll, no splice and no tee
module _ {A : Type 0} (es : List (Option End)) where
  abbrev IsPlain : Call A → Type 0
  IsPlain x = (places x es ≡ flat_map (place_in (queue_of x)) es) × (is_placed x es ≡ true)

  plain : (x : Call A) → ((from : ℤ) (from_offset : Option ℕ) (to : ℤ) (to_offset : Option ℕ) (len : ℕ) (flags : SpliceFlags) → x ≡ call.Splice from from_offset to to_offset len flags → ⊥) →
      ((from to : ℤ) (len : ℕ) (flags : SpliceFlags) → x ≡ call.Tee from to len flags → ⊥) → ((entries : List (ℤ × PollMask)) (wait : Bool) → x ≡ call.Poll entries wait → ⊥) → IsPlain x
  plain (call.Splice from from_offset to to_offset len flags) s t p = absurd (s from from_offset to to_offset len flags refl)
  plain (call.Tee from to len flags) s t p = absurd (t from to len flags refl)
  plain (call.Poll entries wait) s t p = absurd (p entries wait refl)
  plain x s t p = (refl, refl)

pub returns-in_default : goal.returns-in_default
returns-in_default g c =
    let core = core_of c.args.state.now in
    let es = ends core c.args.kept.now in
    let d = c.in_default in
    let is = plain es c.args.call.now d.not-Splice d.not-Tee d.not-Poll in
    record {
      adds = subst (λ ps. Adds core c.args.waiters.now c.place_kept.new.waiters c.args.number ps c.place_kept.result) (ap (λ q. flat_map (place_in q) es) c.queue_of.ensures ∙ sym is.0) c.place_kept.ensures;
      whole = λ e. is.1;
    }
