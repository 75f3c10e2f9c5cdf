use Rattle.std.proofs.Common.{◌≡◌, ◌+◌, ℤ, pos, negsuc, true, false, List, ◌∷◌, ◌++◌, drop, slice_index_or, Option, refl, sym, ◌∙◌, ap, subst, FitsSigned, w32, rules, arith}
use Rattle.std.specs.Prelude.{option_map}
use Rattle.std.proofs.lemmas.List.{drop_more, drop_all}
use Rattle.std.proofs.lemmas.Int.{to_z-of_z}
use Rattle.pl_model.specs.declared.flags.PollMask.{PollMask}
use Rattle.pl_model.specs.State.{Core}
use Rattle.pl_model.specs.Numbered.{numbers}
use Rattle.pl_state.specs.Contents.{core_of}
use Rattle.pl_kernel.specs.Queues.{End, end_of, ends, entry_place, poll_places, is_skipped, are_kept}
use Rattle.pl_kernel.specs.Index.{Adds}
use Rattle.pl_kernel.proofs.index.Touching.{member-at}
use Rattle.pl_kernel.proofs.index.Looking.{adds_none, adds_nothing, adds_short, adds_then}
use Rattle.pl_kernel.proofs.placing.place_poll.Given.{Over}
use Rattle.pl_kernel.proofs.placing.place_poll.Goals.{After-place_entry}
use Rattle.pl_kernel.proofs.placing.place_poll.Goals as goal

-- of an entry that is skipped there is no place
skipped : (e : ℤ × PollMask) (entries : List (ℤ × PollMask)) (es : List (Option End)) → is_skipped e.0 ≡ true → poll_places (e ∷ entries) es ≡ poll_places entries es
skipped (pos n, asked) entries es h = absurd (cc)
skipped (negsuc n, asked) entries es h = refl

skipped-kept : (e : ℤ × PollMask) (entries : List (ℤ × PollMask)) (es : List (Option End)) → is_skipped e.0 ≡ true → are_kept (e ∷ entries) es ≡ are_kept entries es
skipped-kept (pos n, asked) entries es h = absurd (cc)
skipped-kept (negsuc n, asked) entries es h = refl

-- any other one takes the next that is kept
first : (e : ℤ × PollMask) (entries : List (ℤ × PollMask)) (x : Option End) (es : List (Option End)) → is_skipped e.0 ≡ false → poll_places (e ∷ entries) (x ∷ es) ≡ entry_place e.1 x ++ poll_places entries es
first (pos n, asked) entries x es h = refl
first (negsuc n, asked) entries x es h = absurd (cc)

first-kept : (e : ℤ × PollMask) (entries : List (ℤ × PollMask)) (x : Option End) (es : List (Option End)) → is_skipped e.0 ≡ false → are_kept (e ∷ entries) (x ∷ es) ≡ are_kept entries es
first-kept (pos n, asked) entries x es h = refl
first-kept (negsuc n, asked) entries x es h = absurd (cc)

abbrev none : ℤ × PollMask
none = (pos 0, record { 0 = 0 })

pub loop-fd-preserved-then-is_skipped : goal.loop-fd-preserved-then-is_skipped
loop-fd-preserved-then-is_skipped g c =
    let core = core_of c.args.state.now in
    let entries = c.args.entries.now in
    let i = c.loop-fd.fd-index in
    let e = slice_index_or entries i none in
    let es = ends core (drop c.loop-fd.before c.args.kept.now) in
    let fits : FitsSigned w32 e.0 = search rules in
    let skip : is_skipped e.0 ≡ true = ap is_skipped (sym (to_z-of_z w32 e.0 fits)) ∙ sym c.is_skipped.ensures ∙ c.if-is_skipped.true in
    let here : drop i entries ≡ e ∷ drop (i + 1) entries = drop_more entries i none (omega (arith, c.loop-fd-test.true)) in
    record {
      adds = λ u done rest. c.loop-fd.invariant.adds u done (subst (λ ps. Adds core c.loop-fd.waiters u c.args.number ps done) (sym (ap (λ xs. poll_places xs es) here ∙ skipped e (drop (i + 1) entries) es skip)) rest);
      whole = λ rest. c.loop-fd.invariant.whole (ap (λ xs. are_kept xs es) here ∙ skipped-kept e (drop (i + 1) entries) es skip ∙ rest);
    }

-- an entry kept nothing
pub returns-then-before-kept-clause-adds : goal.returns-then-before-kept-clause-adds
returns-then-before-kept-clause-adds g c = c.loop-fd.invariant.adds c.loop-fd.waiters false (adds_nothing (core_of c.args.state.now) c.args.number c.loop-fd.waiters _)

pub place_entry-requires : goal.place_entry-requires
place_entry-requires g c = c.requires.described (slice_index_or c.args.kept.now c.loop-fd.before 0) (member-at c.args.kept.now c.loop-fd.before (omega (arith, c.if-before-kept.false)))

-- the next entry, which isn't skipped
module _ (g : Over) (c : After-place_entry g) where
  abbrev core : Core g.row.A.Denot numbers
  core = core_of c.args.state.now

  abbrev e : ℤ × PollMask
  e = slice_index_or c.args.entries.now c.loop-fd.fd-index none

  abbrev x : Option End
  x = option_map end_of (core.descriptions (slice_index_or c.args.kept.now c.loop-fd.before 0))

  abbrev es : List (Option End)
  es = ends core (drop (c.loop-fd.before + 1) c.args.kept.now)

  abbrev rest : List (ℤ × PollMask)
  rest = drop (c.loop-fd.fd-index + 1) c.args.entries.now

  stays : is_skipped e.0 ≡ false
  stays = (let fits : FitsSigned w32 e.0 = search rules in ap is_skipped (sym (to_z-of_z w32 e.0 fits)) ∙ sym c.is_skipped.ensures ∙ c.if-is_skipped.false)

  here : drop c.loop-fd.fd-index c.args.entries.now ≡ e ∷ rest
  here = drop_more c.args.entries.now c.loop-fd.fd-index none (omega (arith, c.loop-fd-test.true))

  kept_here : drop c.loop-fd.before c.args.kept.now ≡ slice_index_or c.args.kept.now c.loop-fd.before 0 ∷ drop (c.loop-fd.before + 1) c.args.kept.now
  kept_here = drop_more c.args.kept.now c.loop-fd.before 0 (omega (arith, c.if-before-kept.false))

  both : poll_places (drop c.loop-fd.fd-index c.args.entries.now) (ends core (drop c.loop-fd.before c.args.kept.now)) ≡ entry_place e.1 x ++ poll_places rest es
  both = (λ j. poll_places (here j) (ends core (kept_here j))) ∙ first e rest x es stays

pub returns-then-not-place_entry-clause-adds : goal.returns-then-not-place_entry-clause-adds
returns-then-not-place_entry-clause-adds g c =
    let w = (goal.at.returns-then-not-place_entry-clause-adds g c).After-place_entry in
    let now = c.place_entry.new.waiters in
    c.loop-fd.invariant.adds now false
    (subst (λ ps. Adds (core g w) c.loop-fd.waiters now c.args.number ps false) (sym (both g w))
    (adds_short (core g w) c.args.number c.loop-fd.waiters now (entry_place (e g w).1 (x g w)) (poll_places (rest g w) (es g w)) (subst (Adds (core g w) c.loop-fd.waiters now c.args.number (entry_place (e g w).1 (x g w))) c.if-not-place_entry.true c.place_entry.ensures)))

pub loop-fd-preserved : goal.loop-fd-preserved
loop-fd-preserved g c =
    let w = (goal.at.loop-fd-preserved g c).After-place_entry in
    let now = c.place_entry.new.waiters in
    let put = subst (Adds (core g w) c.loop-fd.waiters now c.args.number (entry_place (e g w).1 (x g w))) c.if-not-place_entry.false c.place_entry.ensures in
    record {
      adds = λ u done after. c.loop-fd.invariant.adds u done
          (subst (λ ps. Adds (core g w) c.loop-fd.waiters u c.args.number ps done) (sym (both g w))
          (adds_then (core g w) c.args.number c.loop-fd.waiters now u (entry_place (e g w).1 (x g w)) (poll_places (rest g w) (es g w)) done c.requires.parked put after));
      whole = λ after. c.loop-fd.invariant.whole ((λ j. are_kept (here g w j) (ends (core g w) (kept_here g w j))) ∙ first-kept (e g w) (rest g w) (x g w) (es g w) (stays g w) ∙ after);
    }

pub returns-clause-adds : goal.returns-clause-adds
returns-clause-adds g c =
    let core = core_of c.args.state.now in
    let es = ends core (drop c.loop-fd.before c.args.kept.now) in
    c.loop-fd.invariant.adds c.loop-fd.waiters true
    (subst (λ ps. Adds core c.loop-fd.waiters c.loop-fd.waiters c.args.number ps true) (sym (ap (λ xs. poll_places xs es) (drop_all c.loop-fd.fd-index c.args.entries.now (omega (arith, c.loop-fd-test.false))))) (adds_none core c.args.number c.loop-fd.waiters true))
