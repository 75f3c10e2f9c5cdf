-- From one part of a live run to the next.
use Rattle.std.proofs.Common.{◌≡◌, ℕ, ◌+◌, ◌<◌, Bool, true, false, List, [], ◌∷◌, ◌++◌, length, take, Ok, Err, refl, ap, ◌∙◌, sym, subst, append_assoc, arith}
use Rattle.std.specs.Prelude.{string_bytes, Result, ◌==◌}
use Rattle.std.proofs.lemmas.List.{append-nil, length-append}
use Rattle.std.proofs.lemmas.List.Elements.{All-push, All-nil}
use Rattle.pl_model.specs.declared.calls.Limits.{Limits}
use Rattle.pl_model.specs.Script.{lines}
use Rattle.pl_state.specs.Makes.{Stands}
use Rattle.pl_script.specs.Talk.{Talk, Moment, now, refusing, telling, silence}
use Rattle.pl_script.specs.Live.{most_live_reads, ended_lines, number_unless, bad_answer, AreAnswered, IsPrompt, EndsBefore, IsToldAll, IsLiveRun}
use Rattle.pl_script.specs.LiveText.{HasNoFeed, with_answer}
use Rattle.pl_script.specs.LiveSteps.{IsHeld, IsBehind, IsAmid, IsUnderway, IsEnding, IsWrittenAll, is_unwritable}
use Rattle.pl_script.specs.declared.live_lines.Live.{Live}
use Rattle.pl_script.specs.declared.peer.LiveTotals.{LiveTotals}
use Rattle.pl_script.specs.declared.peer.LiveFault.{LiveFault}
use Rattle.pl_script.specs.declared.peer.LiveFault.TheVariants as faults
use Rattle.pl_script.proofs.LiveText.{no_feed-append, lines-feed, ended-feed, ended-none, lines-last, lines-nil}
use Rattle.pl_script.specs.Explaining.{why_of_held, why_live}
use Rattle.pl_script.proofs.LiveBehind.{answered_so_far}
use Rattle.pl_script.proofs.WhyBad.{why_heard}

empty : (xs : List ℕ) → length xs ≡ 0 → xs ≡ []
empty [] e = refl
empty (x ∷ xs) e = absurd (omega (arith, e))

true_false : true ≡ false → ⊥
true_false e = absurd cc

-- ---- one line

module _ {A : Type 0} (limits : Limits) (strict : Bool) (live new : Live A) (t : Talk) (ls : List (List ℕ)) (l : List ℕ) (others : List (List ℕ)) where
  -- memory was wanting for it
  pub wants : string_bytes new.out ≡ string_bytes live.out → IsAmid limits strict live t ls l (l ∷ others) → IsEnding A limits strict (string_bytes new.out) t (Err faults.NoMemory)
  wants same at = record {
    prompt = at.prompt;
    before = ls;
    later = l ∷ others;
    parts = at.parts;
    text = t.written ++ string_bytes new.out;
    answered = rw same (answered_so_far ls (t.written ++ string_bytes live.out) t.refused at.behind.behind at.behind.refusals);
    written = refl;
    ends = tt;
  }

  -- it is good
  pub passes : IsAmid limits strict live t ls l (l ∷ others) → IsBehind limits new (t.written ++ string_bytes new.out) (t.refused ++ number_unless true new.lines []) (ls ++ l ∷ []) [] → new.bad ≡ live.bad
      → IsAmid limits strict new t (ls ++ l ∷ []) [] others
  passes at next same = record {
    prompt = at.prompt;
    behind = rw (append-nil t.refused) at next;
    none_bad = λ is. same ∙ at.none_bad is;
    parts = at.parts ∙ sym (append_assoc ls (l ∷ []) others);
  }

  -- it is bad, and the run strict
  pub stops : strict ≡ true → IsAmid limits strict live t ls l (l ∷ others) → IsBehind limits new (with_answer false (t.written ++ string_bytes new.out)) (t.refused ++ number_unless false new.lines []) (ls ++ l ∷ []) []
      → string_bytes new.out ≡ string_bytes live.out → IsEnding A limits strict (string_bytes new.out) t (Err (faults.BadLine new.lines))
  stops is at next same =
      let none : t.refused ≡ [] = empty t.refused (sym at.behind.bad ∙ at.none_bad is) in
      record {
        prompt = at.prompt;
        before = ls;
        later = l ∷ others;
        parts = at.parts;
        text = t.written ++ string_bytes new.out;
        answered = rw same (answered_so_far ls (t.written ++ string_bytes live.out) t.refused at.behind.behind at.behind.refusals);
        written = refl;
        ends = (is, next.count ∙ length-append ls (l ∷ []), (l, others, refl, sym next.refusals ∙ ap (λ r. r ++ new.lines ∷ []) none));
      }

  -- what is wrong with it
  pub stops_why : (text refused : List ℕ) → IsAmid limits strict live t ls l (l ∷ others) → IsBehind limits new text refused (ls ++ l ∷ []) [] → new.why ≡ why_of_held new.version live.is_too_long live.line.items
      → new.why ≡ why_live t.heard new.lines
  stops_why text refused at next is = why_heard t.heard ls l others new.version new.lines live.is_too_long live.line.items new.why at.parts next.version (next.count ∙ length-append ls (l ∷ [])) at.behind.held is

-- ---- the same run, with another text that waits

module _ {A : Type 0} (limits : Limits) (live new : Live A) (text refused : List ℕ) (ls : List (List ℕ)) (l : List ℕ) where
  -- the same but for what is held of the line
  pub holding : (more : List ℕ) → Stands new.kernel ≡ Stands live.kernel → new.version ≡ live.version → new.lines ≡ live.lines → new.bad ≡ live.bad → IsHeld new.is_too_long new.line.items more
      → IsBehind limits live text refused ls l → IsBehind limits new text refused ls more
  holding more kernel version count bad held at = record {
    behind = rw kernel at.behind;
    version = version ∙ at.version;
    held = held;
    count = count ∙ at.count;
    refusals = at.refusals;
    bad = bad ∙ at.bad;
  }

-- a line is bad, and was answered so and refused
pub refuses_line : {A : Type 0} (limits : Limits) (strict : Bool) (live new answered : Live A) (t : Talk) (ls : List (List ℕ)) (l : List ℕ) (others : List (List ℕ))
    → strict ≡ false → IsAmid limits strict live t ls l (l ∷ others) → IsBehind limits new (with_answer false (t.written ++ string_bytes new.out)) (t.refused ++ number_unless false new.lines []) (ls ++ l ∷ []) []
    → Stands answered.kernel ≡ Stands new.kernel → answered.version ≡ new.version → answered.is_too_long ≡ new.is_too_long → answered.line.items ≡ new.line.items → answered.lines ≡ new.lines → answered.bad ≡ new.bad
    → string_bytes answered.out ≡ string_bytes new.out ++ bad_answer → IsAmid limits strict answered (refusing new.lines t) (ls ++ l ∷ []) [] others
refuses_line limits strict live new answered t ls l others lax at next kernel version long items count bad out =
    let text : t.written ++ string_bytes answered.out ≡ (t.written ++ string_bytes new.out) ++ bad_answer = ap (λ x. t.written ++ x) out ∙ sym (append_assoc t.written (string_bytes new.out) bad_answer) in
    record {
      prompt = at.prompt;
      behind = subst (λ x. IsBehind limits answered x (t.refused ++ new.lines ∷ []) (ls ++ l ∷ []) []) (sym text)
          (holding limits new answered ((t.written ++ string_bytes new.out) ++ bad_answer) (t.refused ++ new.lines ∷ []) (ls ++ l ∷ []) [] [] kernel version count bad (rw (long, items) next.held) next);
      none_bad = λ is. absurd (true_false (sym is ∙ lax));
      parts = at.parts ∙ sym (append_assoc ls (l ∷ []) others);
    }

module _ {A : Type 0} (limits : Limits) (strict : Bool) (live new : Live A) (t : Talk) (pending : List ℕ) where
  pub all_parts : (at : IsUnderway limits strict live t pending) → lines t.heard ≡ at.before ++ lines (at.line ++ pending)
  all_parts at = ap lines (sym (append-nil t.heard)) ∙ at.whole [] ∙ ap (λ x. at.before ++ lines (at.line ++ x)) (append-nil pending)

  -- all that waited was told
  pub told : Stands new.kernel ≡ Stands live.kernel → new.version ≡ live.version → new.is_too_long ≡ live.is_too_long → new.line.items ≡ live.line.items → new.lines ≡ live.lines → new.bad ≡ live.bad
      → string_bytes new.out ≡ [] → IsUnderway limits strict live t pending → IsUnderway limits strict new (telling (string_bytes live.out) t) pending
  told kernel version long items count bad out at = record {
    before = at.before;
    line = at.line;
    prompt = at.prompt;
    behind = subst (λ x. IsBehind limits new x t.refused at.before at.line) (sym (ap (λ x. (t.written ++ string_bytes live.out) ++ x) out ∙ append-nil (t.written ++ string_bytes live.out)))
        (holding limits live new (t.written ++ string_bytes live.out) t.refused at.before at.line at.line kernel version count bad (rw (long, items) at.behind.held) at.behind);
    none_bad = λ is. bad ∙ at.none_bad is;
    no_feed = at.no_feed;
    ended = at.ended;
    whole = at.whole;
  }

  -- a front of what waited was written
  pub told_part : (front more waiting : List ℕ) → string_bytes live.out ≡ front ++ more → IsUnderway limits strict live t pending → IsEnding A limits strict waiting (record t { written = t.written ++ front }) (Err faults.Write)
  told_part front more waiting cut at = record {
    prompt = at.prompt;
    before = at.before;
    later = lines (at.line ++ pending);
    parts = all_parts at;
    text = t.written ++ string_bytes live.out;
    answered = answered_so_far at.before (t.written ++ string_bytes live.out) t.refused at.behind.behind at.behind.refusals;
    written = (more, ap (λ x. t.written ++ x) cut ∙ sym (append_assoc t.written front more));
    ends = tt;
  }

  -- memory was wanting to hold a line
  pub wants_to_hold : string_bytes new.out ≡ string_bytes live.out → IsUnderway limits strict live t pending → IsEnding A limits strict (string_bytes new.out) t (Err faults.NoMemory)
  wants_to_hold same at = record {
    prompt = at.prompt;
    before = at.before;
    later = lines (at.line ++ pending);
    parts = all_parts at;
    text = t.written ++ string_bytes new.out;
    answered = rw same (answered_so_far at.before (t.written ++ string_bytes live.out) t.refused at.behind.behind at.behind.refusals);
    written = refl;
    ends = tt;
  }

  -- bytes that no line feed is among were taken in
  pub holds_all : HasNoFeed pending → Stands new.kernel ≡ Stands live.kernel → string_bytes new.out ≡ string_bytes live.out → new.version ≡ live.version → new.lines ≡ live.lines → new.bad ≡ live.bad
      → (at : IsUnderway limits strict live t pending) → IsHeld new.is_too_long new.line.items (at.line ++ pending) → IsUnderway limits strict new t []
  holds_all free kernel out version count bad at held = record {
    before = at.before;
    line = at.line ++ pending;
    prompt = at.prompt;
    behind = subst (λ x. IsBehind limits new x t.refused at.before (at.line ++ pending)) (sym (ap (λ x. t.written ++ x) out)) (holding limits live new (t.written ++ string_bytes live.out) t.refused at.before at.line (at.line ++ pending) kernel version count bad held at.behind);
    none_bad = λ is. bad ∙ at.none_bad is;
    no_feed = no_feed-append at.line pending at.no_feed free;
    ended = λ others. at.ended others ∙ ap (λ x. at.before ++ ended_lines x) (sym (append_assoc at.line pending others));
    whole = λ others. at.whole others ∙ ap (λ x. at.before ++ lines x) (sym (append_assoc at.line pending others));
  }

  -- bytes up to a line feed were taken in
  pub holds_line : (front back : List ℕ) → pending ≡ front ++ (10 ∷ back) → HasNoFeed front → Stands new.kernel ≡ Stands live.kernel → string_bytes new.out ≡ string_bytes live.out → new.version ≡ live.version → new.lines ≡ live.lines → new.bad ≡ live.bad
      → (at : IsUnderway limits strict live t pending) → IsHeld new.is_too_long new.line.items (at.line ++ front) → IsAmid limits strict new t at.before (at.line ++ front) ((at.line ++ front) ∷ lines back)
  holds_line front back cut free kernel out version count bad at held = record {
    prompt = at.prompt;
    behind = subst (λ x. IsBehind limits new x t.refused at.before (at.line ++ front)) (sym (ap (λ x. t.written ++ x) out)) (holding limits live new (t.written ++ string_bytes live.out) t.refused at.before at.line (at.line ++ front) kernel version count bad held at.behind);
    none_bad = λ is. bad ∙ at.none_bad is;
    parts = all_parts at ∙ ap (λ x. at.before ++ lines (at.line ++ x)) cut ∙ ap (λ x. at.before ++ lines x) (sym (append_assoc at.line front (10 ∷ back)))
        ∙ ap (λ x. at.before ++ x) (lines-feed (at.line ++ front) back (no_feed-append at.line front at.no_feed free));
  }

  -- a whole line was run, and others come behind it
  pub goes_behind : (front back : List ℕ) (later : Talk) → pending ≡ front ++ (10 ∷ back) → HasNoFeed front → (at : IsUnderway limits strict live t pending) → later.heard ≡ t.heard
      → IsAmid limits strict new later (at.before ++ (at.line ++ front) ∷ []) [] (lines back) → IsUnderway limits strict new later back
  goes_behind front back later cut free at same amid =
      let bytes : (others : List ℕ) → at.line ++ (pending ++ others) ≡ (at.line ++ front) ++ (10 ∷ (back ++ others)) =
      λ others. ap (λ x. at.line ++ (x ++ others)) cut ∙ ap (λ x. at.line ++ x) (append_assoc front (10 ∷ back) others) ∙ sym (append_assoc at.line front (10 ∷ (back ++ others))) in
      let whole_free = no_feed-append at.line front at.no_feed free in
      record {
        before = at.before ++ (at.line ++ front) ∷ [];
        line = [];
        prompt = amid.prompt;
        behind = amid.behind;
        none_bad = amid.none_bad;
        no_feed = tt;
        ended = λ others. ap (λ x. ended_lines (x ++ others)) same ∙ at.ended others ∙ ap (λ x. at.before ++ ended_lines x) (bytes others) ∙ ap (λ x. at.before ++ x) (ended-feed (at.line ++ front) (back ++ others) whole_free) ∙ sym (append_assoc at.before ((at.line ++ front) ∷ []) (ended_lines (back ++ others)));
        whole = λ others. ap (λ x. lines (x ++ others)) same ∙ at.whole others ∙ ap (λ x. at.before ++ lines x) (bytes others) ∙ ap (λ x. at.before ++ x) (lines-feed (at.line ++ front) (back ++ others) whole_free) ∙ sym (append_assoc at.before ((at.line ++ front) ∷ []) (lines (back ++ others)));
      }

-- ---- listening

module _ {A : Type 0} (limits : Limits) (strict : Bool) (live : Live A) (t : Talk) (at : IsUnderway limits strict live t []) where
  -- the lines that were ended are those that were answered
  all_ended : ended_lines t.heard ≡ at.before
  all_ended = ap ended_lines (sym (append-nil t.heard)) ∙ at.ended [] ∙ ap (λ x. at.before ++ ended_lines x) (append-nil at.line) ∙ ap (λ x. at.before ++ x) (ended-none at.line at.no_feed) ∙ append-nil at.before

  answered_all : t.told ≡ t.written → string_bytes live.out ≡ [] → AreAnswered A limits (ended_lines t.heard) t.told t.refused
  answered_all all none =
      let text : t.written ++ string_bytes live.out ≡ t.told = ap (λ x. t.written ++ x) none ∙ append-nil t.written ∙ sym all in
      rw (all_ended, ← text) (answered_so_far at.before (t.written ++ string_bytes live.out) t.refused at.behind.behind at.behind.refusals)

  -- the far end was listened to, and gave these bytes
  pub hears : (bytes : List ℕ) (over : Bool) → t.told ≡ t.written → string_bytes live.out ≡ []
      → IsUnderway limits strict live (record t { heard = t.heard ++ bytes; moments = t.moments ++ now t ∷ []; is_over = over }) bytes
  hears bytes over all none = record {
    before = at.before;
    line = at.line;
    prompt = All-push (IsPrompt A limits) t.moments (now t) at.prompt (answered_all all none);
    behind = at.behind;
    none_bad = at.none_bad;
    no_feed = at.no_feed;
    ended = λ others. ap ended_lines (append_assoc t.heard bytes others) ∙ at.ended (bytes ++ others);
    whole = λ others. ap lines (append_assoc t.heard bytes others) ∙ at.whole (bytes ++ others);
  }

  -- it is at its end
  pub hears_end : (count : ℕ) (buf : List ℕ) → count ≡ 0 → t.told ≡ t.written → string_bytes live.out ≡ []
      → IsUnderway limits strict live (record t { heard = t.heard ++ take count buf; moments = t.moments ++ now t ∷ []; is_over = count == 0 }) []
  hears_end count buf zero all none =
      subst (λ x. IsUnderway limits strict live (record t { heard = t.heard ++ take count buf; moments = t.moments ++ now t ∷ []; is_over = count == 0 }) x) (ap (λ n. take n buf) zero) (hears (take count buf) (count == 0) all none)

  -- it gave none, as it failed
  pub hears_nothing : (over : Bool) → t.told ≡ t.written → string_bytes live.out ≡ [] → IsUnderway limits strict live (record t { moments = t.moments ++ now t ∷ []; is_over = over }) []
  hears_nothing over all none = record {
    before = at.before;
    line = at.line;
    prompt = All-push (IsPrompt A limits) t.moments (now t) at.prompt (answered_all all none);
    behind = at.behind;
    none_bad = at.none_bad;
    no_feed = at.no_feed;
    ended = at.ended;
    whole = at.whole;
  }

  -- the run ends where all lines that were ended are answered
  pub ends_unread : IsEnding A limits strict (string_bytes live.out) t (Err faults.Read)
  ends_unread = record { prompt = at.prompt; before = at.before; later = lines (at.line ++ []); parts = all_parts limits strict live live t [] at; text = t.written ++ string_bytes live.out; answered = answered_so_far at.before (t.written ++ string_bytes live.out) t.refused at.behind.behind at.behind.refusals; written = refl; ends = sym all_ended }

  pub ends_endless : length t.moments ≡ most_live_reads → IsEnding A limits strict (string_bytes live.out) t (Err faults.TooLong)
  ends_endless all = record { prompt = at.prompt; before = at.before; later = lines (at.line ++ []); parts = all_parts limits strict live live t [] at; text = t.written ++ string_bytes live.out; answered = answered_so_far at.before (t.written ++ string_bytes live.out) t.refused at.behind.behind at.behind.refusals; written = refl; ends = (all, sym all_ended) }

  -- no line is left
  pub ends_well : t.is_over ≡ true → length at.line ≡ 0 → IsEnding A limits strict (string_bytes live.out) t (Ok (record { lines = live.lines; bad = live.bad }))
  ends_well over none = record {
    prompt = at.prompt;
    before = at.before;
    later = [];
    parts = all_parts limits strict live live t [] at ∙ ap (λ x. at.before ++ lines x) (append-nil at.line ∙ empty at.line none) ∙ ap (λ x. at.before ++ x) lines-nil;
    text = t.written ++ string_bytes live.out;
    answered = answered_so_far at.before (t.written ++ string_bytes live.out) t.refused at.behind.behind at.behind.refusals;
    written = refl;
    ends = (over, refl, at.behind.count, at.behind.bad, at.none_bad);
  }

  -- a last line lacks its line feed
  pub last_line : 0 < length at.line → IsAmid limits strict live t at.before at.line (at.line ∷ [])
  last_line some = record {
    prompt = at.prompt;
    behind = at.behind;
    none_bad = at.none_bad;
    parts = all_parts limits strict live live t [] at ∙ ap (λ x. at.before ++ lines x) (append-nil at.line) ∙ ap (λ x. at.before ++ x) (lines-last at.line at.no_feed some);
  }

-- no line is left behind the last one
pub ends_behind : {A : Type 0} (limits : Limits) (strict : Bool) (live : Live A) (t : Talk) (ls : List (List ℕ)) → t.is_over ≡ true → IsAmid limits strict live t ls [] [] → IsEnding A limits strict (string_bytes live.out) t (Ok (record { lines = live.lines; bad = live.bad }))
ends_behind limits strict live t ls over at = record {
  prompt = at.prompt;
  before = ls;
  later = [];
  parts = at.parts;
  text = t.written ++ string_bytes live.out;
  answered = answered_so_far ls (t.written ++ string_bytes live.out) t.refused at.behind.behind at.behind.refusals;
  written = refl;
  ends = (over, refl, at.behind.count, at.behind.bad, at.none_bad);
}

-- the far end was listened to once more
pub one_more : (before said after : List Moment) (m : Moment) (n : ℕ) → length before ≡ n → said ≡ before → after ≡ said ++ m ∷ [] → length after ≡ n + 1
one_more before said after m n count same more = ap length more ∙ length-append said (m ∷ []) ∙ ap (λ k. k + 1) (ap length same ∙ count)

-- before the first byte
pub underway_first : {A : Type 0} (limits : Limits) (strict : Bool) (live : Live A) → IsBehind limits live (string_bytes live.out) [] [] [] → live.bad ≡ 0 → IsUnderway limits strict live silence []
underway_first {A} limits strict live at bad = record {
  before = [];
  line = [];
  prompt = All-nil (IsPrompt A limits);
  behind = at;
  none_bad = λ is. bad;
  no_feed = tt;
  ended = λ others. refl;
  whole = λ others. refl;
}

-- ---- the end of a run

module _ (A : Type 0) (limits : Limits) (strict : Bool) (t : Talk) (waiting : List ℕ) where
  written_is : (result : Result LiveTotals LiveFault) (text : List ℕ) → is_unwritable result ≡ false → IsWrittenAll result t waiting text → t.written ++ waiting ≡ text
  written_is (Err faults.Write) text e h = absurd cc
  written_is (Ok x) text e h = h
  written_is (Err faults.Read) text e h = h
  written_is (Err faults.TooLong) text e h = h
  written_is (Err faults.NoMemory) text e h = h
  written_is (Err (faults.BadLine n)) text e h = h

  told_is : (result : Result LiveTotals LiveFault) (text : List ℕ) → is_unwritable result ≡ false → t.written ++ waiting ≡ text → IsToldAll result (telling waiting t) text
  told_is (Err faults.Write) text e h = absurd cc
  told_is (Ok x) text e h = (h, h)
  told_is (Err faults.Read) text e h = (h, h)
  told_is (Err faults.TooLong) text e h = (h, h)
  told_is (Err faults.NoMemory) text e h = (h, h)
  told_is (Err (faults.BadLine n)) text e h = (h, h)

  still_ends : (result : Result LiveTotals LiveFault) (ls later : List (List ℕ)) → EndsBefore A strict t result ls later → EndsBefore A strict (telling waiting t) result ls later
  still_ends (Err faults.Write) ls later h = tt
  still_ends (Ok x) ls later h = h
  still_ends (Err faults.Read) ls later h = h
  still_ends (Err faults.TooLong) ls later h = h
  still_ends (Err faults.NoMemory) ls later h = tt
  still_ends (Err (faults.BadLine n)) ls later h = h

  -- all that waited was told
  pub parts_well : (result : Result LiveTotals LiveFault) → is_unwritable result ≡ false → IsEnding A limits strict waiting t result → IsLiveRun A limits strict result (telling waiting t)
  parts_well result e at = record {
    prompt = at.prompt;
    before = at.before;
    later = at.later;
    parts = at.parts;
    text = at.text;
    answered = at.answered;
    told = told_is result at.text e (written_is result at.text e at.written);
    ends = still_ends result at.before at.later at.ends;
  }

  -- a front of it was written
  pub parts_cut : (result : Result LiveTotals LiveFault) (front more : List ℕ) → is_unwritable result ≡ false → waiting ≡ front ++ more → IsEnding A limits strict waiting t result
      → IsLiveRun A limits strict (Err faults.Write) (record t { written = t.written ++ front })
  parts_cut result front more e cut at = record {
    prompt = at.prompt;
    before = at.before;
    later = at.later;
    parts = at.parts;
    text = at.text;
    answered = at.answered;
    told = (more, sym (written_is result at.text e at.written) ∙ ap (λ x. t.written ++ x) cut ∙ sym (append_assoc t.written front more));
    ends = tt;
  }

  -- a write had failed before
  pub parts_unwritten : (result : Result LiveTotals LiveFault) → is_unwritable result ≡ true → IsEnding A limits strict waiting t result → IsLiveRun A limits strict result t
  parts_unwritten (Ok x) e at = absurd cc
  parts_unwritten (Err faults.Read) e at = absurd cc
  parts_unwritten (Err faults.TooLong) e at = absurd cc
  parts_unwritten (Err faults.NoMemory) e at = absurd cc
  parts_unwritten (Err (faults.BadLine n)) e at = absurd cc
  parts_unwritten (Err faults.Write) e at = record { prompt = at.prompt; before = at.before; later = at.later; parts = at.parts; text = at.text; answered = at.answered; told = at.written; ends = tt }
