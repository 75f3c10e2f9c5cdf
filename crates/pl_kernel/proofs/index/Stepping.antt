-- What is known once a step was made before which its nodes were touched.
use Rattle.std.proofs.Common.{◌≡◌, false, true, refl, sym, ◌∙◌, ap, subst}
use Rattle.std.specs.Prelude.{Result, Ok, Err, IfOk, OnErr}
use Rattle.pl_model.specs.declared.calls.Step.{Step}
use Rattle.pl_model.specs.declared.replies.Reply.{Reply}
use Rattle.pl_model.specs.Keys.{NewKeys, Drawing, Plain, Draws, drawn}
use Rattle.pl_model.specs.State.{Core}
use Rattle.pl_model.specs.Step.{Stepped, core_step}
use Rattle.pl_model.specs.Numbered.{numbers}
use Rattle.pl_model.specs.StandsFor.{AreUnused, Comes}
use Rattle.pl_waiters.specs.declared.waiters.Waiters.{Waiters}
use Rattle.pl_state.specs.Contents.{Contents, contents, core_of}
use Rattle.pl_state.specs.Makes.{MakesAtKeys}
use Rattle.pl_state.proofs.Known.{Known}
use Rattle.pl_kernel.specs.Index.{Knows, Touches, FindsNone}
use Rattle.pl_kernel.proofs.index.Leaving.{IsKnown, left}
use Rattle.pl_kernel.proofs.index.Known.{known_in, new_keys, unused_in}
use Rattle.pl_kernel.proofs.index.Knowing.{knows_on, knows-more}

-- a kernel that has these contents
pub record Sees {A : Type 0} (s : Contents A) : Type 0 where
  pub parts : Known A
  pub is : contents parts.descs parts.nodes parts.calls parts.limits ≡ s

module _ {A : Type 0} (s : Contents A) (old : Sees s) (new : Contents A) (now : Sees new) (x : Step A) where
  -- what it leaves, by keys that were unused
  abbrev Left : Type 0
  Left = (keys : NewKeys numbers) × AreUnused (core_of s) keys × (core_of new ≡ left (core_of s) x keys)

  left_by : (reply : Reply A) → (keys : NewKeys numbers) → AreUnused (core_of s) keys → (d : Drawing numbers (Stepped A numbers)) → core_step (core_of s) x ≡ d → Comes (core_of s) d reply (core_of new) → Left
  left_by reply keys unused (Plain h) is (replied, left) = (keys, unused, left ∙ ap (λ (z : Drawing numbers (Stepped A numbers)). (drawn keys z).state) (sym is))
  left_by reply keys unused (Draws f) is (drew, free, replied, left) = (drew, free, left ∙ ap (λ (z : Drawing numbers (Stepped A numbers)). (drawn drew z).state) (sym is))

  pub knows_made : (w u : Waiters A) → Knows (core_of s) w → Touches (core_of s) x w u → (reply : Reply A) → MakesAtKeys s x reply new → Knows (core_of new) u
  knows_made w u knows touches reply makes =
      let l = left_by reply (new_keys old.parts) (unused_in s old.parts old.is) (core_step (core_of s) x) refl makes in
      subst (λ (c : Core A numbers). Knows c u) (sym l.2) (knows_on (core_of s) (known_in s old.parts old.is) x l.0 l.1 (subst (λ (c : Core A numbers). IsKnown c) l.2 (known_in new now.parts now.is)) w u touches knows)

  pub knows_after : {X E : Type 0} (result : Result X E) (f : X → Reply A) (w u : Waiters A) → Knows (core_of s) w → Touches (core_of s) x w u → IfOk result (λ r. MakesAtKeys s x (f r) new) → OnErr result (new ≡ s) → Knows (core_of new) u
  knows_after (Ok r) f w u knows touches done undone = knows_made w u knows touches (f r) done
  knows_after (Err e) f w u knows touches done undone = subst (λ (z : Contents A). Knows (core_of z) u) (sym undone) (knows-more (core_of s) w u knows touches.no_less)

-- after a step it isn't known yet that no call can make progress
pub none-found : {A : Type 0} (c : Core A numbers) → FindsNone c false
none-found c e = absurd (let no : false ≡ true = e in cc)
