-- From one line of a live run to the next.
use Rattle.std.proofs.Common.{◌≡◌, ℕ, ◌+◌, ◌-◌, ◌<◌, ◌≤◌, Bool, true, false, not, cond, ◌&&◌, List, [], ◌∷◌, ◌++◌, length, take, drop, Option, Some, None, Ok, Err, inl, inr, refl, ap, ◌∙◌, sym, subst, append_assoc, arith}
use Rattle.std.specs.Prelude.{nat_le, nat_lt, ◌==◌, is_some, option_map, string_bytes, slice_index, codes, Result}
use Rattle.std.specs.Str.{bytes_eq}
use Rattle.std.proofs.lemmas.Bool.{eqb-true}
use Rattle.std.proofs.lemmas.Grind.{common_steps}
use Rattle.std.proofs.lemmas.List.{append-nil, length-append, take-append-drop}
use Rattle.std.specs.Io.KnownBytes.{Appends, Consumes}
use Rattle.std.proofs.KnownBytes.{Appends-nil, Appends-trans, Appends-kept, Consumes-nil, Consumes-trans, Consumes-kept}
use Rattle.pl_model.specs.declared.calls.Limits.{Limits}
use Rattle.pl_model.specs.declared.script.Line.TheVariants.{Do}
use Rattle.pl_model.specs.declared.script.Version.{Version}
use Rattle.pl_model.specs.declared.script.Version.TheVariants.{One, Two}
use Rattle.pl_model.specs.declared.replies.Reply.{Reply}
use Rattle.pl_model.specs.declared.replies.Outcome.TheVariants.{Replied}
use Rattle.pl_model.specs.Numbered.{State, opening}
use Rattle.pl_model.specs.Lines.{line}
use Rattle.pl_model.specs.Shown.{outcome_text}
use Rattle.pl_model.specs.Words.{without_return}
use Rattle.pl_model.specs.Script.{version_of_lines, names_version_2}
use Rattle.pl_state.specs.Makes.{Stands}
use Rattle.pl_script.specs.LineByLine.{IsRefused}
use Rattle.pl_script.specs.Talk.{Talk, now, silence, listened, wrote, flushed, refusing, Side, Hears, Takes, Flushes, Refuses, WasSaid}
use Rattle.pl_script.specs.Live.{most_line_bytes, is_good, number_unless, bad_lines}
use Rattle.pl_script.specs.LiveText.{IsRunLine, with_answer}
use Rattle.pl_script.specs.LiveSteps.{IsHeld, IsBehind, IsJudged}
use Rattle.pl_script.specs.declared.live_lines.Live.{Live}
use Rattle.pl_script.proofs.RunSteps.{replies}
use Rattle.pl_script.proofs.LiveBehind.{is_header_line, one_behind, bad_lines-push, header_alone, at_first, behind_version, behind_bad, behind_run, nothing_bad}

-- ---- what was said, with whatever faults

-- what is known of a talk that went on
goes_on : (f : Talk → Talk) (t : Talk) (old new : Option Talk) → new ≡ option_map f old → old ≡ Some t → new ≡ Some (f t)
goes_on f t old new e known = e ∙ ap (option_map f) known

pub nothing_said : (now : Side) → WasSaid now now silence
nothing_said now = record { known = λ e. e; heard = Consumes-nil now.remaining; written = Appends-nil now.contents }

module _ (first old new : Side) (t : Talk) (before : WasSaid first old t) where
  -- what it gave was heard
  pub heard_so : (r : Result ℕ (Unit {0})) (bytes : List ℕ) → Hears old new r bytes → WasSaid first new (listened r bytes t)
  heard_so (Ok n) bytes h = record {
    known = λ e. goes_on (λ (s : Talk). record s { heard = s.heard ++ take n bytes; moments = s.moments ++ now s ∷ []; is_over = n == 0 }) t old.talk new.talk h.0 (before.known e);
    heard = Consumes-trans first.remaining old.remaining new.remaining t.heard (take n bytes) before.heard h.1.0;
    written = subst (λ x. Appends first.contents x t.written) (sym h.2) before.written;
  }
  heard_so (Err e) bytes h = record {
    known = λ is. goes_on (λ (s : Talk). record s { moments = s.moments ++ now s ∷ [] }) t old.talk new.talk h.0 (before.known is);
    heard = Consumes-kept first.remaining old.remaining new.remaining t.heard before.heard h.1;
    written = subst (λ x. Appends first.contents x t.written) (sym h.2) before.written;
  }

  -- what it took was written
  pub wrote_so : (r : Result ℕ (Unit {0})) (bytes : List ℕ) → Takes old new r bytes → WasSaid first new (wrote r bytes t)
  wrote_so (Ok n) bytes h = record {
    known = λ e. goes_on (λ (s : Talk). record s { written = s.written ++ take n bytes }) t old.talk new.talk h.0 (before.known e);
    heard = subst (λ x. Consumes first.remaining x t.heard) (sym h.2) before.heard;
    written = Appends-trans first.contents old.contents new.contents t.written (take n bytes) before.written h.1;
  }
  wrote_so (Err e) bytes h = record {
    known = λ is. goes_on (λ (s : Talk). s) t old.talk new.talk h.0 (before.known is);
    heard = subst (λ x. Consumes first.remaining x t.heard) (sym h.2) before.heard;
    written = Appends-kept first.contents old.contents new.contents t.written before.written h.1;
  }

  pub flushed_so : (r : Result (Unit {0}) (Unit {0})) → Flushes old new r → WasSaid first new (flushed r t)
  flushed_so (Ok x) h = record {
    known = λ e. goes_on (λ (s : Talk). record s { told = s.written }) t old.talk new.talk h.0 (before.known e);
    heard = subst (λ x. Consumes first.remaining x t.heard) (sym h.2) before.heard;
    written = Appends-kept first.contents old.contents new.contents t.written before.written h.1;
  }
  flushed_so (Err e) h = record {
    known = λ is. goes_on (λ (s : Talk). s) t old.talk new.talk h.0 (before.known is);
    heard = subst (λ x. Consumes first.remaining x t.heard) (sym h.2) before.heard;
    written = Appends-kept first.contents old.contents new.contents t.written before.written h.1;
  }

  pub refused_so : (n : ℕ) → Refuses old new n → WasSaid first new (refusing n t)
  refused_so n h = record {
    known = λ e. goes_on (refusing n) t old.talk new.talk h.0 (before.known e);
    heard = subst (λ x. Consumes first.remaining x t.heard) (sym h.2) before.heard;
    written = subst (λ x. Appends first.contents x t.written) (sym h.1) before.written;
  }

-- ---- writing

-- the talk with this written instead of that
pub written_so : (first now : Side) (t : Talk) (these those : List ℕ) → these ≡ those → WasSaid first now (record t { written = these }) → WasSaid first now (record t { written = those })
written_so first now t these those same said = subst (λ x. WasSaid first now (record t { written = x })) same said

pub wrote_more : (first old new : Side) (t : Talk) (front bytes : List ℕ) (n : ℕ) → Takes {E = Unit {0}} old new (Ok n) bytes → WasSaid first old (record t { written = t.written ++ front })
    → WasSaid first new (record t { written = t.written ++ (front ++ take n bytes) })
wrote_more first old new t front bytes n h said =
    written_so first new t ((t.written ++ front) ++ take n bytes) (t.written ++ (front ++ take n bytes)) (append_assoc t.written front (take n bytes))
    (wrote_so first old new (record t { written = t.written ++ front }) said (Ok n) bytes h)

pub nothing_left : (front rest : List ℕ) → length rest ≡ 0 → front ++ rest ≡ front
nothing_left front [] e = append-nil front
nothing_left front (x ∷ xs) e = absurd (omega (arith, e))

pub cut_more : (bytes front rest back : List ℕ) (n : ℕ) → bytes ≡ front ++ rest → back ≡ drop n rest → bytes ≡ (front ++ take n rest) ++ back
cut_more bytes front rest back n e is = e ∙ ap (λ x. front ++ x) (sym (take-append-drop n rest)) ∙ sym (append_assoc front (take n rest) (drop n rest)) ∙ ap (λ x. (front ++ take n rest) ++ x) (sym is)

-- ---- one line

pub refused_line : (A : Type 0) (version : Version) (Stood : State A → Type 0) (bytes : List ℕ) (reply : Reply A) (before after : List ℕ) → IsRefused version Stood bytes reply
    → after ≡ before ++ (outcome_text version (Replied reply) ++ 10 ∷ []) → IsRunLine A version Stood Stood bytes before after
refused_line A version Stood bytes reply before after is said = inr (Do is.asked, false, is.asks, replies version Stood Stood (Do is.asked) is.asked reply before after refl is.made said)

too_long_is_bad : (A : Type 0) (v : Version) (l : List ℕ) (b : Bool) → nat_le (length l) most_line_bytes ≡ b → most_line_bytes < length l → b && is_some (line {A = A} v l) ≡ false
too_long_is_bad A v l true e long = absurd (grind (arith, e, long))
too_long_is_bad A v l false e long = refl

fits_by : (A : Type 0) (v : Version) (l : List ℕ) (b : Bool) → nat_le (length l) most_line_bytes ≡ b → length l ≤ most_line_bytes → (x : Bool) → is_some (line {A = A} v l) ≡ x → b && is_some (line {A = A} v l) ≡ x
fits_by A v l true e short x h = h
fits_by A v l false e short x h = absurd (grind (arith, e, short))

longer_by : (l : List ℕ) (b : Bool) → length l ≤ length (cond b (take (length l - 1) l) l) + 1
longer_by l true = grind (arith, common_steps)
longer_by l false = omega arith

longer : (l : List ℕ) → length l ≤ length (without_return l) + 1
unfolding without_return
longer l = longer_by l (nat_lt 0 (length l) && slice_index l (length l - 1) == 13)

unequal : (a b : List ℕ) → length b < length a → bytes_eq a b ≡ false
unequal a b lt = grind (arith, common_steps)

-- a line that is too long names no version
no_header : (ls : List (List ℕ)) (l : List ℕ) → most_line_bytes < length l → is_header_line ls l ≡ false
no_header ls l long =
    let none : names_version_2 l ≡ false = unequal (without_return l) (codes "piperun 2") (omega (arith, longer l, long)) in
    by (length ls == 0) (names_version_2 l) none
  where
    by : (a b : Bool) → b ≡ false → a && b ≡ false
    by true b e = e
    by false b e = refl

same_header : (ls : List (List ℕ)) (n : ℕ) (l held : List ℕ) (b : Bool) → n ≡ length ls → held ≡ l → b ≡ ((n == 0) && names_version_2 held) → is_header_line ls l ≡ b
same_header ls n l held b count same is = rw (is, count, same) refl

is_asking : (A : Type 0) (v : Version) (Old New : State A → Type 0) (l before after : List ℕ) → IsRunLine A v Old New l before after → is_some (line {A = A} v l) ≡ true
is_asking A v Old New l before after (inl silent) = ap is_some silent.0
is_asking A v Old New l before after (inr run) = ap is_some run.2

module _ {A : Type 0} (limits : Limits) (live new : Live A) (front refused : List ℕ) (ls : List (List ℕ)) (l : List ℕ) where
  pub judged_long : live.is_too_long ≡ true → Stands new.kernel ≡ Stands live.kernel → string_bytes new.out ≡ string_bytes live.out → new.version ≡ live.version
      → IsBehind limits live (front ++ string_bytes live.out) refused ls l → IsJudged limits new front ls l false
  judged_long long kernel out same at =
      let more : most_line_bytes < length l = rw long at at.held in
      let bad : is_good A (version_of_lines ls) l ≡ false = too_long_is_bad A (version_of_lines ls) l (nat_le (length l) most_line_bytes) refl more in
      let plain = no_header ls l more in
      record {
        behind = rw (kernel, out) (behind_bad (Stands live.kernel) ls l (front ++ string_bytes live.out) plain bad (λ s h. h) at.behind);
        version = same ∙ at.version ∙ sym (one_behind ls l plain).0;
        bad = bad_lines-push A ls l plain ∙ ap (λ b. bad_lines A ls ++ number_unless b (length ls + 1) []) bad;
      }

  pub judged_header : live.is_too_long ≡ false → ((live.lines == 0) && names_version_2 live.line.items) ≡ true → IsBehind limits live (front ++ string_bytes live.out) refused ls l
      → IsJudged limits (record live { version = Two }) front ls l true
  judged_header short named at =
      let held = rw short at at.held in
      let is : is_header_line ls l ≡ true = same_header ls live.lines l live.line.items true at.count held.0 (sym named) in
      let alone = header_alone A ls l is in
      record {
        behind = behind_version ls l (front ++ string_bytes live.out) is at.behind;
        version = sym alone.1;
        bad = alone.3 ∙ sym (append-nil (bad_lines A ls) ∙ ap (bad_lines A) alone.0 ∙ nothing_bad A);
      }

  -- a line that was run as one of the version
  pub judged_run : live.is_too_long ≡ false → ((live.lines == 0) && names_version_2 live.line.items) ≡ false → new.version ≡ live.version
      → IsRunLine A live.version (Stands live.kernel) (Stands new.kernel) live.line.items (string_bytes live.out) (string_bytes new.out)
      → IsBehind limits live (front ++ string_bytes live.out) refused ls l → IsJudged limits new front ls l true
  judged_run short plain same run at =
      let held = rw short at at.held in
      let is : is_header_line ls l ≡ false = same_header ls live.lines l live.line.items false at.count held.0 (sym plain) in
      let ran : IsRunLine A (version_of_lines ls) (Stands live.kernel) (Stands new.kernel) l (string_bytes live.out) (string_bytes new.out) = rw (at.version, held.0) at run in
      let good : is_good A (version_of_lines ls) l ≡ true = fits_by A (version_of_lines ls) l (nat_le (length l) most_line_bytes) refl held.1 true (is_asking A (version_of_lines ls) (Stands live.kernel) (Stands new.kernel) l (string_bytes live.out) (string_bytes new.out) ran) in
      record {
        behind = behind_run (Stands new.kernel) ls l front (string_bytes live.out) (string_bytes new.out) is good ran at.behind;
        version = same ∙ at.version ∙ sym (one_behind ls l is).0;
        bad = bad_lines-push A ls l is ∙ ap (λ b. bad_lines A ls ++ number_unless b (length ls + 1) []) good;
      }

  pub judged_bad : live.is_too_long ≡ false → ((live.lines == 0) && names_version_2 live.line.items) ≡ false → new.version ≡ live.version
      → (line {A = A} live.version live.line.items ≡ None) × ((s : State A) → Stands live.kernel s → Stands new.kernel s) × (string_bytes new.out ≡ string_bytes live.out)
      → IsBehind limits live (front ++ string_bytes live.out) refused ls l → IsJudged limits new front ls l false
  judged_bad short plain same stop at =
      let held = rw short at at.held in
      let is : is_header_line ls l ≡ false = same_header ls live.lines l live.line.items false at.count held.0 (sym plain) in
      let none : line {A = A} (version_of_lines ls) l ≡ None = rw (at.version, held.0) at stop.0 in
      let bad : is_good A (version_of_lines ls) l ≡ false = fits_by A (version_of_lines ls) l (nat_le (length l) most_line_bytes) refl held.1 false (ap is_some none) in
      record {
        behind = rw stop.2 (behind_bad (Stands new.kernel) ls l (front ++ string_bytes live.out) is bad stop.1 at.behind);
        version = same ∙ at.version ∙ sym (one_behind ls l is).0;
        bad = bad_lines-push A ls l is ∙ ap (λ b. bad_lines A ls ++ number_unless b (length ls + 1) []) bad;
      }

  -- the line was judged and counted
  pub counted_line : (good : Bool) (judged : Live A) → IsBehind limits live (front ++ string_bytes live.out) refused ls l → IsJudged limits judged front ls l good
      → (Stands new.kernel ≡ Stands judged.kernel) → string_bytes new.out ≡ string_bytes judged.out → new.version ≡ judged.version → new.is_too_long ≡ false → new.line.items ≡ []
      → new.lines ≡ live.lines + 1 → new.bad ≡ live.bad + length (number_unless good new.lines [])
      → IsBehind limits new (with_answer good (front ++ string_bytes new.out)) (refused ++ number_unless good new.lines []) (ls ++ l ∷ []) []
  counted_line good judged at is kernel out version short empty count bad =
      let n : new.lines ≡ length ls + 1 = count ∙ ap (λ k. k + 1) at.count in
      record {
        behind = rw (kernel, out) is.behind;
        version = version ∙ is.version;
        held = rw short (empty, omega arith);
        count = n ∙ sym (length-append ls (l ∷ []));
        refusals = ap (λ r. r ++ number_unless good new.lines []) at.refusals ∙ ap (λ k. bad_lines A ls ++ number_unless good k []) n ∙ sym is.bad;
        bad = bad ∙ ap (λ k. k + length (number_unless good new.lines [])) at.bad ∙ sym (length-append refused (number_unless good new.lines []));
      }

-- nothing was done
pub new_run : {A : Type 0} (limits : Limits) (live : Live A) → Stands live.kernel (opening limits) → string_bytes live.out ≡ [] → live.line.items ≡ [] → live.is_too_long ≡ false → live.version ≡ One → live.lines ≡ 0 → live.bad ≡ 0
    → IsBehind limits live (string_bytes live.out) [] [] []
new_run {A} limits live stands out empty short version count bad = record {
  behind = rw out (at_first stands);
  version = version;
  held = rw short (empty, omega arith);
  count = count;
  refusals = sym (nothing_bad A);
  bad = bad;
}

-- no byte of a line is held where none was read
pub none_held : (b : Bool) (items l : List ℕ) → (not b && (length items == 0)) ≡ true → IsHeld b items l → length l ≡ 0
none_held true items l e held = absurd cc
none_held false items l e held = rw (← held.0) (eqb-true (length items) 0 e)

pub some_held : (b : Bool) (items l : List ℕ) → (not b && (length items == 0)) ≡ false → IsHeld b items l → 0 < length l
some_held true items l e held = omega (arith, held)
some_held false items l e held = rw (← held.0) (grind (arith, e))
