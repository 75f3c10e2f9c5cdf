-- What an exit comes to at the kernel's keys.
use Rattle.std.proofs.Common.{◌≡◌, ℕ, ◌+◌, ◌<◌, ◌≤◌, Bool, true, false, not, cond, [], ◌∷◌, length, Option, Some, None, IfSome, refl, sym, ◌∙◌, ap, subst, inl, inr, ⊎_elim, nat_eq, arith}
use Rattle.std.specs.Prelude.{◌||◌, ◌&&◌, option_map, is_some, IsSomeAnd, count_by}
use Rattle.std.specs.List.{list_any}
use Rattle.std.proofs.lemmas.Bool.{cases_lt, eq-eqb, ne_eqb}
use Rattle.std.proofs.lemmas.Bool.Decides.{eqb_tells}
use Rattle.pl_model.specs.declared.calls.Call.{Call}
use Rattle.pl_model.specs.declared.calls.Step.TheVariants.{Begin}
use Rattle.pl_model.specs.declared.replies.Reply.TheVariants as reply
use Rattle.pl_model.specs.Map.{Map, get, without, set_at}
use Rattle.pl_model.specs.State.{Core}
use Rattle.pl_model.specs.Settle.{settle}
use Rattle.pl_model.specs.Tables.{exit, end}
use Rattle.pl_model.specs.Step.{begin, ended, stepped, without_call}
use Rattle.pl_model.specs.Numbered.{numbers}
use Rattle.pl_model.proofs.settling.AtOnce.{IsExiting, is_others, exiting_ends}
use Rattle.pl_parked.specs.declared.call.ParkedCall.{ParkedCall}
use Rattle.pl_numbered.specs.Rising.{Rise}
use Rattle.pl_numbered.proofs.Rising.{Rise-bounds, get_first, get_later, get-low}
use Rattle.pl_desc.specs.Rows.{at, Tables, is_pid, rows_of, row_at, count_at, with_row}
use Rattle.pl_desc.specs.Descs.{Descs, IsTidy}
use Rattle.pl_desc.specs.Ends.{one_if}
use Rattle.pl_desc.proofs.SlotLemmas.{tally-change}
use Rattle.pl_state.specs.Contents.{Contents, contents, waiting_of, parked_of, core_of}
use Rattle.pl_state.specs.Sound.{IsSound, AreCounted}
use Rattle.pl_state.specs.Makes.{MakesAtKeys}
use Rattle.pl_state.proofs.Known.{Known}
use Rattle.pl_state.proofs.waiting.Calls.{get-parked, without-parked, without_absent, without_other}
use Rattle.pl_state.proofs.by_call.Begun.{does_plain, step-answered}
use Rattle.pl_state.proofs.holders.Belonging.{belong-fewer}
use Rattle.pl_state.proofs.holders.Staying.{stays-sound}

module _ {A : Type 0} where
  others_low : (low next pid n : ℕ) (es : Map ℕ (ParkedCall A)) → Rise low next es → n < low → list_any (λ e. nat_eq n e.0 && not (nat_eq e.1.pid pid)) (parked_of es) ≡ false
  others_low low next pid n [] r l = refl
  others_low low next pid n (y ∷ ys) r l =
      (λ i. (ne_eqb n y.0 (λ s. absurd (omega (arith, s, r.0, l))) i && not (nat_eq y.1.pid pid)) || list_any (λ e. nat_eq n e.0 && not (nat_eq e.1.pid pid)) (parked_of ys))
      ∙ others_low (y.0 + 1) next pid n ys r.1 (omega (arith, r.0, l))

  -- a number of a call of the process is none of another's
  no_others : (low next pid n : ℕ) (es : Map ℕ (ParkedCall A)) (c : ParkedCall A) → Rise low next es → get nat_eq es n ≡ Some c → nat_eq c.pid pid ≡ true → list_any (λ e. nat_eq n e.0 && not (nat_eq e.1.pid pid)) (parked_of es) ≡ false
  no_others low next pid n [] c r h own = absurd (cc)
  no_others low next pid n (y ∷ ys) c r h own = elim (eqb_tells y.0 n) as (λ _. list_any (λ e. nat_eq n e.0 && not (nat_eq e.1.pid pid)) (parked_of (y ∷ ys)) ≡ false) [
    | inl t ↦
        let is : Some y.1 ≡ Some c = sym (ap (λ b. cond b (Some y.1) (get nat_eq ys n)) t.0) ∙ h in
        let same : y.1 ≡ c = cc in
        (λ i. (eq-eqb n y.0 (sym t.1) i && not ((ap (λ z. nat_eq z.pid pid) same ∙ own) i)) || others_low (y.0 + 1) next pid n ys r.1 (omega (arith, t.1)) i)
    | inr t ↦
        (λ i. (ne_eqb n y.0 (λ s. t.1 (sym s)) i && not (nat_eq y.1.pid pid)) || list_any (λ e. nat_eq n e.0 && not (nat_eq e.1.pid pid)) (parked_of ys))
        ∙ no_others (y.0 + 1) next pid n ys c r.1 (sym (ap (λ b. cond b (Some y.1) (get nat_eq ys n)) t.0) ∙ h) own
  ]

  -- a number of a call that is parked is below the next one
  pub below_next : (low next n : ℕ) (es : Map ℕ (ParkedCall A)) (c : ParkedCall A) → Rise low next es → get nat_eq es n ≡ Some c → n < next
  below_next low next n [] c r h = absurd (cc)
  below_next low next n (y ∷ ys) c r h = elim (eqb_tells y.0 n) as (λ _. n < next) [
    | inl t ↦ (let rest = Rise-bounds (y.0 + 1) next ys r.1 in omega (arith, rest, t.1))
    | inr t ↦ below_next (y.0 + 1) next n ys c r.1 (sym (ap (λ b. cond b (Some y.1) (get nat_eq ys n)) t.0) ∙ h)
  ]

  -- no number's call is the process's, so none is
  none_any : (low next pid : ℕ) (es : Map ℕ (ParkedCall A)) → Rise low next es → ((n : ℕ) → IfSome (get nat_eq es n) (λ c. ¬ (c.pid ≡ pid))) → list_any (λ e. nat_eq e.1.pid pid) (parked_of es) ≡ false
  none_any low next pid [] r h = refl
  none_any low next pid (y ∷ ys) r h =
      ap (λ b. b || list_any (λ e. nat_eq e.1.pid pid) (parked_of ys)) (ne_eqb y.1.pid pid (subst (λ o. IfSome o (λ c. ¬ (c.pid ≡ pid))) (get_first y.0 y ys refl) (h y.0)))
      ∙ none_any (y.0 + 1) next pid ys r.1 (λ n. elim (eqb_tells y.0 n) as (λ _. IfSome (get nat_eq ys n) (λ c. ¬ (c.pid ≡ pid))) [
        | inl t ↦ subst (λ o. IfSome o (λ c. ¬ (c.pid ≡ pid))) (sym (get-low n (y.0 + 1) next ys r.1 (omega (arith, t.1)))) tt
        | inr t ↦ subst (λ o. IfSome o (λ c. ¬ (c.pid ≡ pid))) (get_later n y ys t.1) (h n)
      ])

  without_few : (es : Map ℕ (ParkedCall A)) (n : ℕ) → length (without nat_eq es n) ≤ length es
  without_few [] n = omega arith
  without_few (y ∷ ys) n = by (nat_eq n y.0) (without_few ys n)
    where
      by : (b : Bool) → length (without nat_eq ys n) ≤ length ys → length (cond (not b) (y ∷ without nat_eq ys n) (without nat_eq ys n)) ≤ length (y ∷ ys)
      by true l = omega (arith, l)
      by false l = omega (arith, l)

  -- there are fewer calls without one that is there
  pub without_fewer : (es : Map ℕ (ParkedCall A)) (n : ℕ) (c : ParkedCall A) → get nat_eq es n ≡ Some c → length (without nat_eq es n) < length es
  without_fewer [] n c h = absurd (cc)
  without_fewer (y ∷ ys) n c h = elim (eqb_tells y.0 n) as (λ _. length (without nat_eq (y ∷ ys) n) < length (y ∷ ys)) [
    | inl t ↦ subst (λ b. length (cond (not b) (y ∷ without nat_eq ys n) (without nat_eq ys n)) < length (y ∷ ys)) (sym (eq-eqb n y.0 (sym t.1))) (let l = without_few ys n in omega (arith, l))
    | inr t ↦
        subst (λ b. length (cond (not b) (y ∷ without nat_eq ys n) (without nat_eq ys n)) < length (y ∷ ys)) (sym (ne_eqb n y.0 (λ s. t.1 (sym s))))
        (let l = without_fewer ys n c (sym (ap (λ b. cond b (Some y.1) (get nat_eq ys n)) t.0) ∙ h) in omega (arith, l))
  ]

-- an open descriptor was closed, which named this key
module _ (tables new : Tables) (pid fd key : ℕ) (named : row_at tables pid fd ≡ Some key) (closed : row_at new ≡ with_row (row_at tables) pid fd None) where
  row_left : (q : ℕ) (b : Bool) → nat_eq q fd ≡ b → row_at new pid q ≡ cond b None (row_at tables pid q)
  row_left q b e = (λ i. closed i pid q) ∙ (λ i. cond (eq-eqb pid pid refl i && e i) None (row_at tables pid q))

  -- so that one less is open
  pub fewer_open : count_by is_some (rows_of new pid) < count_by is_some (rows_of tables pid)
  fewer_open =
      let was : one_if (is_some (row_at tables pid fd)) ≡ 1 = ap (λ o. one_if (is_some o)) named in
      let is : one_if (is_some (row_at new pid fd)) ≡ 0 = ap (λ o. one_if (is_some o)) (row_left fd true (eq-eqb fd fd refl)) in
      let change = tally-change is_some refl fd (rows_of tables pid) (rows_of new pid) (λ q other. row_left q false (ne_eqb q fd other)) in
      omega (arith, was, is, change)

-- the next call of a process
pub next_call : {A : Type 0} (es : Map ℕ (ParkedCall A)) (pid n : ℕ) → IsSomeAnd (get nat_eq es n) (λ c. c.pid ≡ pid) → (call : ParkedCall A) × (get nat_eq es n ≡ Some call) × (nat_eq call.pid pid ≡ true)
next_call es pid n h = by (get nat_eq es n) refl h
  where
    by : (o : Option (ParkedCall _)) → get nat_eq es n ≡ o → IsSomeAnd o (λ c. c.pid ≡ pid) → (call : ParkedCall _) × (get nat_eq es n ≡ Some call) × (nat_eq call.pid pid ≡ true)
    by None e i = absurd i
    by (Some c) e i = (c, e, eq-eqb c.pid pid i)

-- no call below the number is one of the process
abbrev pub NoneBelow : {A : Type 0} → Map ℕ (ParkedCall A) → ℕ → ℕ → Type 0
NoneBelow calls pid from = (n : ℕ) → n < from → IfSome (get nat_eq calls n) (λ c. ¬ (c.pid ≡ pid))

-- the machine tells the same processes
others : {A : Type 0} (pid : ℕ) (o p : Option (ParkedCall A)) → option_map waiting_of o ≡ option_map waiting_of p → IfSome p (λ c. ¬ (c.pid ≡ pid)) → IfSome o (λ c. ¬ (c.pid ≡ pid))
others pid None p same h = tt
others pid (Some c) None same h = absurd (cc)
others pid (Some c) (Some d) same h = λ own. h (let is : waiting_of d ≡ waiting_of c = cc in ap (λ w. w.pid) is ∙ own)

-- the calls of a process
module _ {A : Type 0} (k : Contents A) (sound : IsSound A k) (pid : ℕ) where
  pub own_call : (n : ℕ) (call : ParkedCall A) → get nat_eq k.calls.calls n ≡ Some call → nat_eq call.pid pid ≡ true → is_others (core_of k) pid n ≡ false
  unfolding core_of
  own_call n call here own = no_others 0 k.calls.next pid n k.calls.calls call sound.rise here own

  -- none is left, once there is none from the number on either
  pub no_call : (from : ℕ) → NoneBelow k.calls.calls pid from → ((n : ℕ) → from ≤ n → IfSome (get nat_eq k.calls.calls n) (λ c. ¬ (c.pid ≡ pid))) → list_any (λ e. nat_eq e.1.pid pid) (parked_of k.calls.calls) ≡ false
  no_call from below above = none_any 0 k.calls.next pid k.calls.calls sound.rise (λ n. ⊎_elim (below n) (above n) (cases_lt n from))

-- where none is left every call is another process's
none_of_it : {A : Type 0} (es : Map ℕ (ParkedCall A)) (pid : ℕ) → list_any (λ e. nat_eq e.1.pid pid) (parked_of es) ≡ false → (n : ℕ) → IfSome (get nat_eq es n) (λ c. ¬ (c.pid ≡ pid))
none_of_it [] pid none n = tt
none_of_it (y ∷ ys) pid none n =
    let split = neither (nat_eq y.1.pid pid) (list_any (λ e. nat_eq e.1.pid pid) (parked_of ys)) none in
    let rest = none_of_it ys pid split.1 n in
    by (nat_eq y.0 n) (λ own. let is = eq-eqb y.1.pid pid own in let f : true ≡ false = sym is ∙ split.0 in absurd (cc)) rest
  where
    neither : (a b : Bool) → a || b ≡ false → (a ≡ false) × (b ≡ false)
    neither true b h = absurd (cc)
    neither false b h = (refl, h)

    by : (b : Bool) → ¬ (y.1.pid ≡ pid) → IfSome (get nat_eq ys n) (λ c. ¬ (c.pid ≡ pid)) → IfSome (cond b (Some y.1) (get nat_eq ys n)) (λ c. ¬ (c.pid ≡ pid))
    by true here rest = here
    by false here rest = rest

-- a call of the process is dropped
module _ {A : Type 0} (k new : Contents A) (n : ℕ) (drops : core_of new ≡ settle (core_of k) (without_call (core_of k) n)) where
  pub drops_rows : row_at new.tables ≡ row_at k.tables
  unfolding core_of settle
  drops_rows = ap (λ (z : Core A numbers). z.rows) drops

  pub drops_process : is_pid new.tables ≡ is_pid k.tables
  unfolding core_of settle
  drops_process = ap (λ (z : Core A numbers). z.processes) drops

  calls_are : parked_of new.calls.calls ≡ without nat_eq (parked_of k.calls.calls) n
  unfolding core_of settle
  calls_are = ap (λ (z : Core A numbers). z.parked) drops

  pub drops_one : (c : ParkedCall A) → get nat_eq k.calls.calls n ≡ Some c → length new.calls.calls < length k.calls.calls
  drops_one c here =
      let fewer = without_fewer k.calls.calls n c here in
      let now : length new.calls.calls ≡ length (without nat_eq k.calls.calls n) = sym (size new.calls.calls) ∙ ap length (calls_are ∙ sym (without-parked k.calls.calls n)) ∙ size (without nat_eq k.calls.calls n) in
      omega (arith, fewer, now)
    where
      size : (es : Map ℕ (ParkedCall A)) → length (parked_of es) ≡ length es
      size [] = refl
      size (e ∷ es) = let rest = size es in omega (arith, rest)

  -- with it dropped there is none of the process up to its number, which was the least from one on below which there was none
  pub drops_through : (pid from : ℕ) → NoneBelow k.calls.calls pid from → ((other : ℕ) → from ≤ other → IfSome (get nat_eq k.calls.calls other) (λ c. c.pid ≡ pid → n ≤ other)) → NoneBelow new.calls.calls pid (n + 1)
  drops_through pid from below least m l = elim (eqb_tells n m) as (λ _. IfSome (get nat_eq new.calls.calls m) (λ c. ¬ (c.pid ≡ pid))) [
    | inl t ↦ others pid (get nat_eq new.calls.calls m) None (now ∙ ap (λ q. get nat_eq (without nat_eq (parked_of k.calls.calls) n) q) (sym t.1) ∙ without_absent (parked_of k.calls.calls) n) tt
    | inr t ↦ others pid (get nat_eq new.calls.calls m) (get nat_eq k.calls.calls m) (now ∙ without_other (parked_of k.calls.calls) n m t.1 ∙ get-parked k.calls.calls m)
        (⊎_elim (below m) (λ far. below_least (get nat_eq k.calls.calls m) (omega (arith, l, t.1)) (least m far)) (cases_lt m from))
  ]
    where
      now : option_map waiting_of (get nat_eq new.calls.calls m) ≡ get nat_eq (without nat_eq (parked_of k.calls.calls) n) m
      now = sym (get-parked new.calls.calls m) ∙ ap (λ ps. get nat_eq ps m) calls_are

      below_least : (o : Option (ParkedCall A)) → m < n → IfSome o (λ c. c.pid ≡ pid → n ≤ m) → IfSome o (λ c. ¬ (c.pid ≡ pid))
      below_least None l h = tt
      below_least (Some c) l h = λ own. absurd (let le = h own in omega (arith, le, l))

-- the process ends, of which nothing is left
module _ {A : Type 0} (old : Contents A) (pid : ℕ) (process : is_pid old.tables pid ≡ true) (m : Known A)
    (closed : (fd : ℕ) → row_at m.descs.tables pid fd ≡ None) (dropped : list_any (λ e. nat_eq e.1.pid pid) (parked_of m.calls.calls) ≡ false) (leaving : IsExiting (core_of old) pid (core_of (contents m.descs m.nodes m.calls m.limits)))
    (descs' : Descs) (pids : is_pid descs'.tables ≡ set_at nat_eq (is_pid m.descs.tables) pid false) (rows : row_at descs'.tables ≡ row_at m.descs.tables) (rest : descs' ≡ record m.descs { tables = descs'.tables; room = descs'.room }) (tidy : IsTidy descs') where
  open m use {descs, nodes, calls, limits, are}

  abbrev new : Contents A
  new = contents descs' nodes calls limits

  pub exit-held : AreCounted A limits descs' calls.calls
  exit-held = record { tidy = tidy; bounds = ap (λ z. z.limits) rest ∙ are.bounds; counted = λ d. ap (λ z. count_at z.loose d) rest ∙ are.counted d }

  pub exit-sound : IsSound A new
  exit-sound = stays-sound m descs' (ap (λ z. at z.opened) rest) exit-held (belong-fewer calls.calls (is_pid descs.tables) (is_pid descs'.tables) m.sound.belong pid pids (none_of_it calls.calls pid dropped))

  is : core_of new ≡ end (core_of (contents descs nodes calls limits)) pid
  unfolding core_of
  is = λ i. record (core_of (contents (rest i) nodes calls limits)) { processes = pids i; rows = rows i }

  left : settle (core_of old) (exit (core_of old) pid) ≡ end (core_of (contents descs nodes calls limits)) pid
  unfolding core_of
  left = exiting_ends (core_of old) pid (core_of (contents descs nodes calls limits)) closed dropped leaving

  pub exit-exits : MakesAtKeys old (Begin pid Call.Exit) reply.Unit new
  unfolding begin
  exit-exits = does_plain old new (Begin pid Call.Exit) (ended (core_of old) (stepped (exit (core_of old) pid) reply.Unit)) reply.Unit (step-answered old pid Call.Exit process (exit (core_of old) pid) reply.Unit refl) refl (is ∙ sym left)
