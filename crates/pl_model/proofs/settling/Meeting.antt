-- What the end of a step makes of opens of FIFOs that meet those that wait, and of those that wait.
use Rattle.std.proofs.Common.{◌≡◌, ◌≢◌, ℕ, ◌+◌, ◌<◌, ◌≤◌, Bool, true, false, not, cond, List, [], ◌∷◌, Option, Some, None, refl, sym, ◌∙◌, ap, inl, inr, nat_eq, nat_lt}
use Rattle.std.proofs.lemmas.Bool.{eq-eqb, ne_eqb, eqb-true}
use Rattle.std.proofs.lemmas.Bool.Decides.{eqb_tells}
use Rattle.std.proofs.lemmas.Cmp.{nat_eq_equiv}
use Rattle.std.proofs.lemmas.List.Folds.{list_any-append}
use Rattle.std.proofs.lemmas.Grind.{flat_map-append}
use Rattle.std.specs.Prelude.{◌++◌, ◌||◌, map, option_map, if◌then◌else◌}
use Rattle.std.specs.List.{list_any, flat_map, filter}
use Rattle.std.specs.Set.{is_member, distinct_count}
use Rattle.pl_model.specs.declared.calls.Mode.{Mode}
use Rattle.pl_model.specs.declared.flags.OpenFlags.{OpenFlags}
use Rattle.pl_model.specs.Tables.{descriptor_limit, process_limit}
use Rattle.pl_model.specs.Modes.{any_mode, reads, writes}
use Rattle.pl_model.specs.Map.{Map, get, without, EachOnce, kept_if}
use Rattle.pl_model.specs.Keys.{PipeNode, FileNode}
use Rattle.pl_model.specs.State.{Core, Waiting, Pipe, set_pipe}
use Rattle.pl_model.specs.Live.{in_rows, in_parked, in_use, pids, is_live, is_end, has_name, readers, writers}
use Rattle.pl_model.specs.Settle.{settle, with_ends, had_writer}
use Rattle.pl_model.specs.Tables.{install, describe}
use Rattle.pl_model.specs.Step.{parked, without_call}
use Rattle.pl_model.specs.Fifo.{meet, meets}
use Rattle.pl_model.specs.Numbered.{numbers}
use Rattle.pl_model.specs.StandsFor.{IsUnusedDescription}
use Rattle.pl_model.specs.Laws.{IsSettled}
use Rattle.pl_model.proofs.settling.Fifos.{open_fifo-settled, fifo-settled}
use Rattle.pl_model.proofs.settling.Members.{both_ways, or_left, or_right, or_elim}
use Rattle.pl_model.proofs.settling.Parking.{keeps, live-is}
use Rattle.pl_model.proofs.settling.Opening.{row_stands, row_here, row-old}
use Rattle.pl_model.proofs.settling.WhoIsLive.{row_found, row_member, row_live}
use Rattle.pl_model.proofs.settling.FromSettled.{same-settled}
use Rattle.pl_model.proofs.settling.AtOnce.{drop_fewer}

module _ {A : Type 0} where
  -- the descriptions that the calls keep
  abbrev pub kept_by : Map ℕ (Waiting A numbers) → List ℕ
  kept_by calls = flat_map (λ (e : ℕ × Waiting A numbers). e.1.kept) calls

  -- the parked calls are others
  abbrev pub with_calls : Core A numbers → Map ℕ (Waiting A numbers) → Core A numbers
  with_calls u calls = record u { parked = calls }

  -- calls changed one by one that keep what they kept
  pub kept_by-map : (f : ℕ × Waiting A numbers → ℕ × Waiting A numbers) → ((e : ℕ × Waiting A numbers) → (f e).1.kept ≡ e.1.kept) → (calls : Map ℕ (Waiting A numbers)) → kept_by (map f calls) ≡ kept_by calls
  kept_by-map f same [] = refl
  kept_by-map f same (e ∷ es) = λ i. same e i ++ kept_by-map f same es i

-- Of the parked calls, settling only asks which descriptions they keep.
module _ {A : Type 0} (before u : Core A numbers) (calls : Map ℕ (Waiting A numbers)) (same : kept_by calls ≡ kept_by u.parked) where
  abbrev settled_by : List ℕ → Core A numbers
  settled_by used = record (with_calls u calls) {
    descriptions = λ d. kept_if (is_member nat_eq used d) (u.descriptions d);
    pipes = λ p. option_map
        (with_ends (list_any (λ d. is_end any_mode (PipeNode p) (u.descriptions d)) used) (nat_lt 0 (distinct_count nat_eq (filter (λ d. is_end reads (PipeNode p) (u.descriptions d)) used)))
        (nat_lt 0 (distinct_count nat_eq (filter (λ d. is_end writes (PipeNode p) (u.descriptions d)) used))) (had_writer before p))
        (kept_if (list_any (λ d. is_end any_mode (PipeNode p) (u.descriptions d)) used || has_name u (PipeNode p)) (u.pipes p));
    files = λ f. kept_if (list_any (λ d. is_end any_mode (FileNode f) (u.descriptions d)) used || has_name u (FileNode f)) (u.files f);
  }

  pub same_calls-settled : settle before (with_calls u calls) ≡ with_calls (settle before u) calls
  unfolding settle readers writers in_rows in_parked pids
  same_calls-settled = λ i. settled_by (in_rows u ++ same i)

-- the parked calls changed one by one
abbrev pub with_each : {A : Type 0} → (ℕ × Waiting A numbers → ℕ × Waiting A numbers) → Core A numbers → Core A numbers
with_each f u = with_calls u (map f u.parked)

module _ {A : Type 0} (f : ℕ × Waiting A numbers → ℕ × Waiting A numbers) (same : (e : ℕ × Waiting A numbers) → (f e).1.kept ≡ e.1.kept) where
  pub marked-in_parked : (c : Core A numbers) → in_parked (with_each f c) ≡ in_parked c
  unfolding in_parked
  marked-in_parked c = kept_by-map f same c.parked

  pub marked-in_use : (c : Core A numbers) → in_use (with_each f c) ≡ in_use c
  unfolding in_rows pids
  marked-in_use c = ap (λ ds. in_rows c ++ ds) (marked-in_parked c)

  pub marked-settled : (before u : Core A numbers) → settle before (with_each f u) ≡ with_calls (settle before u) (map f u.parked)
  marked-settled before u = same_calls-settled before u (map f u.parked) (kept_by-map f same u.parked)

module _ {A : Type 0} (c : Core A numbers) (p : ℕ) (mode : Mode) where
  -- a call that meets is met
  abbrev pub met_by : Waiting A numbers → Waiting A numbers
  met_by w = if meets c p mode w then record w { met = true } else w

  abbrev pub meeting : ℕ × Waiting A numbers → ℕ × Waiting A numbers
  meeting e = (e.0, met_by e.1)

  pub met_by-kept : (w : Waiting A numbers) → (met_by w).kept ≡ w.kept
  met_by-kept w = by (meets c p mode w)
    where
      by : (b : Bool) → (cond b (record w { met = true }) w).kept ≡ w.kept
      by true = refl
      by false = refl

  pub meet-kept : (e : ℕ × Waiting A numbers) → (meeting e).1.kept ≡ e.1.kept
  meet-kept e = met_by-kept e.1

  pub meet-in_use : in_use (meet c p mode) ≡ in_use c
  meet-in_use = marked-in_use meeting meet-kept c

  pub meet-get : (n : ℕ) → get nat_eq (meet c p mode).parked n ≡ option_map met_by (get nat_eq c.parked n)
  meet-get n = over c.parked
    where
      at : (b : Bool) (w : Waiting A numbers) (found was : Option (Waiting A numbers)) → found ≡ option_map met_by was → cond b (Some (met_by w)) found ≡ option_map met_by (cond b (Some w) was)
      at true w found was rest = refl
      at false w found was rest = rest

      over : (calls : Map ℕ (Waiting A numbers)) → get nat_eq (map meeting calls) n ≡ option_map met_by (get nat_eq calls n)
      over [] = refl
      over (e ∷ es) = at (nat_eq e.0 n) e.1 (get nat_eq (map meeting es) n) (get nat_eq es n) (over es)

-- that opens meet changes nothing of what settles
pub meet-settles : {A : Type 0} (before u : Core A numbers) (p : ℕ) (mode : Mode) → settle before (meet u p mode) ≡ with_calls (settle before u) (meet u p mode).parked
meet-settles before u p mode = marked-settled (meeting u p mode) (meet-kept u p mode) before u

-- a settled state in which opens meet is settled
pub meet-settled : {A : Type 0} (c : Core A numbers) → IsSettled c → (p : ℕ) (mode : Mode) → settle c (meet c p mode) ≡ meet c p mode
meet-settled c settled p mode = meet-settles c c p mode ∙ ap (λ u. with_calls u (meet c p mode).parked) settled

-- a pipe that is there is opened by its name, and meets the opens that wait
pub open_meets-settled : {A : Type 0} (c : Core A numbers) → IsSettled c → (p d pid fd : ℕ) → IsUnusedDescription c d → 1 ≤ pid → pid < 1 + process_limit c.limits →
    c.processes pid ≡ true → fd < descriptor_limit c.limits → c.rows pid fd ≡ None → (mode : Mode) (flags : OpenFlags) (x : Pipe) → c.pipes p ≡ Some x →
    settle c (install (describe (meet c p mode) d (PipeNode p) mode flags) pid fd d)
    ≡ install (describe (set_pipe (meet c p mode) p (record x { hung = cond (writes mode) false x.hung })) d (PipeNode p) mode flags) pid fd d
open_meets-settled c settled p d pid fd unused low high process within free mode flags x there =
    let f = meeting c p mode in
    marked-settled f (meet-kept c p mode) c (install (describe c d (PipeNode p) mode flags) pid fd d)
    ∙ ap (λ u. with_calls u (meet c p mode).parked) (open_fifo-settled c settled p d pid fd unused low high process within free mode flags x there)

-- An open waits, with its description: the parked call alone names it.
module _ {A : Type 0} (c : Core A numbers) (settled : IsSettled c) (p d : ℕ) (unused : IsUnusedDescription c d) (mode : Mode) (flags : OpenFlags) (x : Pipe) (there : c.pipes p ≡ Some x)
    (w : Waiting A numbers) (kept : w.kept ≡ d ∷ []) where
  abbrev waits : Core A numbers
  waits = parked (describe c d (PipeNode p) mode flags) w

  abbrev left : Pipe
  left = record x { hung = cond (writes mode) false x.hung }

  waits_live : (z : ℕ) → is_live waits z ≡ (is_member nat_eq (in_rows c) z || (keeps c.parked z || (nat_eq z d || false)))
  unfolding in_rows pids
  waits_live z =
      live-is waits z
      ∙ ap (λ b. is_member nat_eq (in_rows c) z || b) (list_any-append (λ (e : ℕ × Waiting A numbers). is_member nat_eq e.1.kept z) c.parked ((c.next_call, w) ∷ []))
      ∙ ap (λ ds. is_member nat_eq (in_rows c) z || (keeps c.parked z || (is_member nat_eq ds z || false))) kept
      ∙ no_more (is_member nat_eq (in_rows c) z) (keeps c.parked z) (nat_eq z d)
    where
      no_more : (a b e : Bool) → (a || (b || ((e || false) || false))) ≡ (a || (b || (e || false)))
      no_more a b true = refl
      no_more a b false = refl

  old_live : (z : ℕ) → z ≢ d → is_live waits z ≡ is_live c z
  old_live z n = waits_live z ∙ (λ i. is_member nat_eq (in_rows c) z || (keeps c.parked z || (ne_eqb z d n i || false))) ∙ as_was (is_member nat_eq (in_rows c) z) (keeps c.parked z) ∙ sym (live-is c z)
    where
      as_was : (a b : Bool) → (a || (b || false)) ≡ (a || b)
      as_was a true = refl
      as_was a false = refl

  new_live : is_live waits d ≡ true
  new_live = waits_live d ∙ or_right _ _ (or_right _ _ (or_left _ _ (eq-eqb d d refl)))

  pub await-settled : settle c waits ≡ parked (describe (set_pipe c p left) d (PipeNode p) mode flags) w
  await-settled = fifo-settled c settled p d unused mode flags x there c.rows waits.parked waits.next_call old_live new_live

  -- and meets the opens that wait for it
  pub wait_fifo-settled : settle c (parked (describe (meet c p mode) d (PipeNode p) mode flags) w) ≡ parked (describe (set_pipe (meet c p mode) p left) d (PipeNode p) mode flags) w
  wait_fifo-settled =
      let calls = (meet c p mode).parked ++ (c.next_call, w) ∷ [] in
      same_calls-settled c waits calls same ∙ ap (λ u. with_calls u calls) await-settled
    where
      same : kept_by ((meet c p mode).parked ++ (c.next_call, w) ∷ []) ≡ kept_by (c.parked ++ (c.next_call, w) ∷ [])
      same =
          flat_map-append (λ (e : ℕ × Waiting A numbers). e.1.kept) (meet c p mode).parked ((c.next_call, w) ∷ [])
          ∙ ap (λ ds. ds ++ kept_by ((c.next_call, w) ∷ [])) (kept_by-map (meeting c p mode) (meet-kept c p mode) c.parked)
          ∙ sym (flat_map-append (λ (e : ℕ × Waiting A numbers). e.1.kept) c.parked ((c.next_call, w) ∷ []))

module _ {A : Type 0} where
  -- no call has the number
  without_none : (calls : Map ℕ (Waiting A numbers)) (n : ℕ) → get nat_eq calls n ≡ None → without nat_eq calls n ≡ calls
  without_none [] n none = refl
  without_none (e ∷ es) n none = by (nat_eq e.0 n) refl none (without_none es n)
    where
      by : (b : Bool) → nat_eq e.0 n ≡ b → cond b (Some e.1) (get nat_eq es n) ≡ None → (get nat_eq es n ≡ None → without nat_eq es n ≡ es) → cond (not (nat_eq n e.0)) (e ∷ without nat_eq es n) (without nat_eq es n) ≡ e ∷ es
      by true is none rest = absurd (cc)
      by false is none rest = ap (λ b. cond (not b) (e ∷ without nat_eq es n) (without nat_eq es n)) (nat_eq_equiv.symm n e.0 ∙ is) ∙ ap (λ ds. e ∷ ds) (rest none)

  -- a call goes: a description that it didn't keep is kept by another
  pub keeps_without : (calls : Map ℕ (Waiting A numbers)) (n q : ℕ) (w : Waiting A numbers) → EachOnce nat_eq calls → get nat_eq calls n ≡ Some w → is_member nat_eq w.kept q ≡ false →
      keeps calls q ≡ true → keeps (without nat_eq calls n) q ≡ true
  keeps_without [] n q w once here not_kept k = k
  keeps_without (e ∷ es) n q w once here not_kept k = by (nat_eq e.0 n) refl here (keeps_without es n q w once.1)
    where
      by : (b : Bool) → nat_eq e.0 n ≡ b → cond b (Some e.1) (get nat_eq es n) ≡ Some w
          → (get nat_eq es n ≡ Some w → is_member nat_eq w.kept q ≡ false → keeps es q ≡ true → keeps (without nat_eq es n) q ≡ true)
          → keeps (cond (not (nat_eq n e.0)) (e ∷ without nat_eq es n) (without nat_eq es n)) q ≡ true
      by true is here rest =
          let same : e.1 ≡ w = cc in
          let off : is_member nat_eq e.1.kept q ≡ false = ap (λ (z : Waiting A numbers). is_member nat_eq z.kept q) same ∙ not_kept in
          ap (λ b. keeps (cond (not b) (e ∷ without nat_eq es n) (without nat_eq es n)) q) (nat_eq_equiv.symm n e.0 ∙ is)
          ∙ ap (λ ds. keeps ds q) (without_none es n (ap (get nat_eq es) (sym (eqb-true e.0 n is)) ∙ once.0))
          ∙ sym (ap (λ b. b || keeps es q) off) ∙ k
      by false is here rest =
          ap (λ b. keeps (cond (not b) (e ∷ without nat_eq es n) (without nat_eq es n)) q) (nat_eq_equiv.symm n e.0 ∙ is)
          ∙ or_elim (is_member nat_eq e.1.kept q) (keeps es q) (λ m. or_left _ _ m) (λ m. or_right (is_member nat_eq e.1.kept q) _ (rest here not_kept m)) k

-- An open that met gives its description a free descriptor, and its call ends: the description was live by the call, and is by the row.
module _ {A : Type 0} (c : Core A numbers) (settled : IsSettled c) (once : EachOnce nat_eq c.parked) (n d : ℕ) (w : Waiting A numbers) (here : get nat_eq c.parked n ≡ Some w) (kept : w.kept ≡ d ∷ [])
    (fd : ℕ) (low : 1 ≤ w.pid) (high : w.pid < 1 + process_limit c.limits) (process : c.processes w.pid ≡ true) (within : fd < descriptor_limit c.limits) (free : c.rows w.pid fd ≡ None) where
  abbrev ends : Core A numbers
  ends = without_call (install c w.pid fd d) n

  kept_here : (calls : Map ℕ (Waiting A numbers)) → get nat_eq calls n ≡ Some w → keeps calls d ≡ true
  kept_here [] there = absurd (cc)
  kept_here (e ∷ es) there = by (nat_eq e.0 n) there (kept_here es)
    where
      by : (b : Bool) → cond b (Some e.1) (get nat_eq es n) ≡ Some w → (get nat_eq es n ≡ Some w → keeps es d ≡ true) → (is_member nat_eq e.1.kept d || keeps es d) ≡ true
      by true there rest = (let same : e.1 ≡ w = cc in or_left _ _ (ap (λ (z : Waiting A numbers). is_member nat_eq z.kept d) same ∙ ap (λ ds. is_member nat_eq ds d) kept ∙ or_left _ _ (eq-eqb d d refl)))
      by false there rest = or_right (is_member nat_eq e.1.kept d) _ (rest there)

  was_live : is_live c d ≡ true
  was_live = live-is c d ∙ or_right (is_member nat_eq (in_rows c) d) _ (kept_here c.parked here)

  now_live : is_live ends d ≡ true
  now_live = row_live ends d (record { pid = w.pid; fd = fd; low = low; high = high; process = process; within = within; names = row_here c w.pid fd d free })

  forth : (q : ℕ) → q ≢ d → is_live ends q ≡ true → is_live c q ≡ true
  forth q apart l = sym (row-old c w.pid fd d free low high process within c.descriptions c.pipes c.files c.names q apart) ∙ (drop_fewer (install c w.pid fd d) n).live q l

  back : (q : ℕ) → q ≢ d → is_live c q ≡ true → is_live ends q ≡ true
  back q apart l =
      live-is ends q ∙ or_elim (is_member nat_eq (in_rows c) q) (keeps c.parked q)
      (λ m.
      let r = row_found c q m in
      or_left _ _ (row_member ends q (record { pid = r.pid; fd = r.fd; low = r.low; high = r.high; process = r.process; within = r.within; names = row_stands c w.pid fd d free r.pid r.fd q r.names })))
      (λ k. or_right (is_member nat_eq (in_rows ends) q) _ (keeps_without c.parked n q w once here (ap (λ ds. is_member nat_eq ds q) kept ∙ ap (λ b. b || false) (ne_eqb q d apart)) k))
      (sym (live-is c q) ∙ l)

  ends_live : (q : ℕ) → is_live ends q ≡ is_live c q
  ends_live q = elim (eqb_tells q d) as (λ _. is_live ends q ≡ is_live c q) [
    | inl t ↦ ap (is_live ends) t.1 ∙ now_live ∙ sym (ap (is_live c) t.1 ∙ was_live)
    | inr t ↦ both_ways _ _ (forth q t.1) (back q t.1)
  ]

  pub resume_fifo-settled : settle c ends ≡ ends
  resume_fifo-settled = same-settled c ends settled (record { descriptions = refl; files = refl; names = refl }) ends_live refl
