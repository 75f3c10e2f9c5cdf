use Rattle.std.proofs.Common.{◌≡◌, ℕ, ◌<◌, ◌≤◌, List, Option, Some, None, IfSome, IsSome, true, false, refl, sym, ◌∙◌, ap, subst, nat_eq, arith, ◌+◌, length, inl, inr, ⊎_elim}
use Rattle.std.specs.Prelude.{is_some, count_by, if◌then◌else◌, ◌&&◌}
use Rattle.std.specs.List.{list_any}
use Rattle.pl_model.specs.Map.{get}
use Rattle.pl_model.specs.Numbered.{numbers}
use Rattle.pl_model.specs.State.{Core}
use Rattle.pl_model.specs.Tables.{close_row}
use Rattle.pl_model.proofs.settling.AtOnce.{IsExiting, is_others, exiting_begins, exiting_closes, exiting_drops}
use Rattle.pl_parked.specs.declared.call.ParkedCall.{ParkedCall}
use Rattle.pl_desc.proofs.RowLemmas.{open-found, rows-length}
use Rattle.pl_state.proofs.by_call.Piping.{with_row-other}
use Rattle.std.proofs.lemmas.Bool.{eq-eqb, cases_lt}
use Rattle.std.proofs.lemmas.Bool.Decides.{eqb_tells}
use Rattle.pl_desc.specs.Rows.{is_pid, rows_of, row_at, with_row, at}
use Rattle.pl_state.specs.KernelView.{view_of}
use Rattle.pl_state.specs.Contents.{Contents, contents, nodes_of, parked_of, core_of}
use Rattle.pl_state.specs.LastHold.{Releases}
use Rattle.pl_state.proofs.by_call.Exiting.{NoneBelow, fewer_open, below_next, next_call, own_call, no_call, drops_rows, drops_process, drops_one, drops_through, exit-held, exit-sound, exit-exits}
use Rattle.pl_state.proofs.by_call.Closing.{close-gives}
use Rattle.pl_state.proofs.holders.Belonging.{belong-same}
use Rattle.pl_state.proofs.holders.GivenUp.{GivesUp, may_release, given, given_whole, given_held}
use Rattle.pl_state.proofs.Known.{Known, known, parts_of, still_sound}
use Rattle.pl_descriptors.proofs.processes.exit.Given.{Over}
use Rattle.pl_descriptors.proofs.processes.exit.Goals.{In-Some, After-release, In-Some-next_of_process, After-end-arg-1}
use Rattle.pl_descriptors.proofs.processes.exit.Goals as goal
use Rattle.pl_state.proofs.holders.OnNodes.{wait-released}
use Rattle.pl_state.specs.Sound.{WaitOnNodes}

pub loop-fd-init : goal.loop-fd-init
loop-fd-init g c =
    let A = g.row.A.Denot in
    let core = core_of (view_of c.kernel.inside) in
    record {
      kept = c.kernel.invariant;
      leaving = subst (λ (z : Contents A). IsExiting (core_of z) c.args.pid core) c.kernel.view_is (exiting_begins core c.args.pid c.kernel.invariant.0.settled);
      process = ap (λ (z : Contents A). is_pid z.tables c.args.pid) c.kernel.view_is ∙ c.requires;
      gone = λ fd l. absurd (omega (arith, l));
    }

-- the least open descriptor is closed, and its row a loose hold
module _ (g : Over) (c : In-Some g) where
  abbrev some_left : Known g.row.A.Denot
  some_left = known c.loop-fd.kernel-inside c.loop-fd.invariant.kept

  first : (row_at some_left.descs.tables c.args.pid c.in-Some.fd ≡ Some c.in-Some.key) × (c.loop-fd.least ≤ c.in-Some.fd) × (c.in-Some.fd < length (rows_of some_left.descs.tables c.args.pid)) × ((k : ℕ) → c.loop-fd.least ≤ k → k < c.in-Some.fd → row_at some_left.descs.tables c.args.pid k ≡ None)
  first = open-found (rows_of some_left.descs.tables c.args.pid) c.loop-fd.least c.in-Some.fd c.in-Some.key (sym c.in-Some.ensures.taken)

  named : row_at some_left.descs.tables c.args.pid c.in-Some.fd ≡ Some c.in-Some.key
  named = first.0

  -- nothing is open up to it
  none_before : (fd : ℕ) → fd < c.in-Some.fd + 1 → with_row (row_at some_left.descs.tables) c.args.pid c.in-Some.fd None c.args.pid fd ≡ None
  none_before fd l = elim (eqb_tells fd c.in-Some.fd) as (λ _. with_row (row_at some_left.descs.tables) c.args.pid c.in-Some.fd None c.args.pid fd ≡ None) [
    | inl e ↦ (λ i. if eq-eqb c.args.pid c.args.pid refl i && e.0 i then None else row_at some_left.descs.tables c.args.pid fd)
    | inr e ↦
        with_row-other (row_at some_left.descs.tables) c.args.pid c.in-Some.fd fd None e.1
        ∙ ⊎_elim (λ early. c.loop-fd.invariant.gone fd early) (λ late. first.3 fd late (omega (arith, l, e.1))) (cases_lt fd c.loop-fd.least)
  ]

  abbrev one_closed : Core g.row.A.Denot numbers
  one_closed = close_row (core_of (view_of c.loop-fd.kernel-inside)) c.args.pid c.in-Some.fd

  gives : GivesUp (parts_of some_left) one_closed c.in-Some.key c.take_fd.new.self c.loop-fd.kernel-inside.parked
  gives =
      let new = c.take_fd.ensures in
      close-gives some_left c.args.pid c.in-Some.fd c.in-Some.key c.take_fd.new.self c.in-Some.ensures.rows new.pids c.in-Some.ensures.loose new.holders (ap (λ z. z.opened) new.rest) (ap (λ z. z.limits) new.rest) new.tidy

-- the hold is given up
released : (g : Over) (c : After-release g) → Releases c.take_fd.new.self c.release.new.descs (nodes_of c.loop-fd.kernel-inside.nodes) (nodes_of c.release.new.nodes) c.in-Some.key
released g c = record { opened = c.release.ensures.opened; loose = c.release.ensures.loose; tables = c.release.ensures.tables; limits = c.release.ensures.limits; tidy = c.release.ensures.tidy; shrinks = c.release.ensures.shrinks; stays = λ last. ap nodes_of (c.release.ensures.stays last); leaves = c.release.ensures.leaves }

pub release-requires-clause-held : goal.release-requires-clause-held
release-requires-clause-held g c =
    let w = (goal.at.release-requires-clause-held g c).In-Some in
    (may_release (parts_of (some_left g w)) _ c.in-Some.key c.take_fd.new.self c.loop-fd.kernel-inside.parked (gives g w)).0

pub release-requires-clause-there : goal.release-requires-clause-there
release-requires-clause-there g c =
    let w = (goal.at.release-requires-clause-there g c).In-Some in
    (may_release (parts_of (some_left g w)) _ c.in-Some.key c.take_fd.new.self c.loop-fd.kernel-inside.parked (gives g w)).1

pub loop-fd-preserved : goal.loop-fd-preserved
loop-fd-preserved g c =
    let w = (goal.at.loop-fd-preserved g c).In-Some in
    let m = parts_of (some_left g w) in
    let u = one_closed g w in
    let d = c.release.new.descs in
    let ps = nodes_of c.release.new.nodes in
    let core = core_of c.args.kernel.now in
    let was = c.loop-fd.invariant in
    record {
      kept = (record { whole = given_whole m u c.in-Some.key c.take_fd.new.self m.calls (gives g w) d ps (released g c); waiting = was.kept.0.waiting; belong = belong-same m.calls.calls (is_pid m.descs.tables) (is_pid d.tables) was.kept.0.belong (ap is_pid c.release.ensures.tables ∙ c.take_fd.ensures.pids); on_nodes = wait-released m.calls.calls c.take_fd.new.self d m.nodes ps c.in-Some.key (released g c) (subst (λ os. WaitOnNodes m.calls.calls (at os)) (sym (gives g w).opened) was.kept.0.on_nodes) }, given_held m u c.in-Some.key c.take_fd.new.self m.calls (gives g w) d ps (released g c));
      leaving = subst (IsExiting core c.args.pid) (sym (given m u c.in-Some.key c.take_fd.new.self m.calls (gives g w) d ps (released g c))) (exiting_closes core c.args.pid (core_of (view_of c.loop-fd.kernel-inside)) c.in-Some.fd was.leaving);
      process = ap (λ ts. is_pid ts c.args.pid) c.release.ensures.tables ∙ (λ i. c.take_fd.ensures.pids i c.args.pid) ∙ was.process;
      gone = λ fd l. ap (λ ts. row_at ts c.args.pid fd) c.release.ensures.tables ∙ (λ i. c.in-Some.ensures.rows i c.args.pid fd) ∙ none_before g w fd l;
    }

pub overflow_add-least : goal.overflow_add-least
overflow_add-least g c =
    let w = (goal.at.overflow_add-least g c).In-Some in
    let m = some_left g w in
    let long = rows-length m.descs.tables c.args.pid c.loop-fd.invariant.process m.are.tidy.wide in
    omega (arith, (first g w).2, long, m.are.tidy.limited.descriptors)

pub loop-fd-smaller : goal.loop-fd-smaller
loop-fd-smaller g c =
    let open_were : List (Option ℕ) = rows_of c.loop-fd.kernel-inside.descs.tables c.args.pid in
    subst (λ ts. count_by is_some (rows_of ts c.args.pid) < count_by is_some open_were) (sym c.release.ensures.tables)
    (fewer_open c.loop-fd.kernel-inside.descs.tables c.take_fd.new.self.tables c.args.pid c.in-Some.fd c.in-Some.key (named g (goal.at.loop-fd-smaller g c).In-Some) c.in-Some.ensures.rows)

pub loop-number-init : goal.loop-number-init
loop-number-init g c =
    let was = c.loop-fd.invariant in
    let same = c.in_default.ensures.none in
    record {
      leaving = subst (λ d. IsExiting (core_of c.args.kernel.now) c.args.pid (core_of (contents d (nodes_of c.loop-fd.kernel-inside.nodes) c.loop-fd.kernel-inside.parked c.loop-fd.kernel-inside.limits))) (sym same) was.leaving;
      process = ap (λ d. is_pid d.tables c.args.pid) same ∙ was.process;
      closed = λ fd. ap (λ d. row_at d.tables c.args.pid fd) same ∙ ⊎_elim (λ early. was.gone fd early) (λ late. c.in_default.ensures.closed fd late) (cases_lt fd c.loop-fd.least);
      dropped = λ n l. absurd (omega (arith, l));
    }

pub invariant_of-kernel : goal.invariant_of-kernel
invariant_of-kernel g c = still_sound c.loop-fd.kernel-inside c.loop-fd.invariant.kept c.take_fd.new.self (sym c.in_default.ensures.none)

-- the call that goes next
module _ (g : Over) (c : In-Some-next_of_process g) where
  abbrev in_turn : Contents g.row.A.Denot
  in_turn = view_of c.kernel-in-loop-number.inside

  next : (e : ParkedCall g.row.A.Denot) × (get nat_eq in_turn.calls.calls c.in-Some-next_of_process.number ≡ Some e) × (nat_eq e.pid c.args.pid ≡ true)
  next = next_call in_turn.calls.calls c.args.pid c.in-Some-next_of_process.number c.in-Some-next_of_process.ensures.parked.1

pub end_call-requires : goal.end_call-requires
end_call-requires g c =
    let call = next g (goal.at.end_call-requires g c).In-Some-next_of_process in
    subst (λ (z : Contents g.row.A.Denot). IsSome (get nat_eq z.calls.calls c.in-Some-next_of_process.number)) c.kernel-in-loop-number.view_is (subst (λ o. IsSome o) (sym call.1) refl)

pub overflow_add-from : goal.overflow_add-from
overflow_add-from g c =
    let w = (goal.at.overflow_add-from g c).In-Some-next_of_process in
    let call = next g w in
    let sound = c.kernel-in-loop-number.invariant.0 in
    let below = below_next 0 (in_turn g w).calls.next c.in-Some-next_of_process.number (in_turn g w).calls.calls call.0 sound.rise call.1 in
    omega (arith, below, sound.numbered)

pub loop-number-smaller : goal.loop-number-smaller
loop-number-smaller g c =
    let S = c.loop-number.kernel in
    let call = next g (goal.at.loop-number-smaller g c).In-Some-next_of_process in
    let here : get nat_eq S.calls.calls c.in-Some-next_of_process.number ≡ Some call.0 = ap (λ (z : Contents g.row.A.Denot). get nat_eq z.calls.calls c.in-Some-next_of_process.number) (sym c.kernel-in-loop-number.view_is) ∙ call.1 in
    drops_one S c.end_call.new.kernel c.in-Some-next_of_process.number c.end_call.ensures.settled call.0 here

pub loop-number-preserved : goal.loop-number-preserved
loop-number-preserved g c =
    let A = g.row.A.Denot in
    let w = (goal.at.loop-number-preserved g c).In-Some-next_of_process in
    let call = next g w in
    let S = c.loop-number.kernel in
    let N = c.end_call.new.kernel in
    let C = core_of c.args.kernel.now in
    let pid = c.args.pid in
    let was = c.loop-number.invariant in
    let least = subst (λ (z : Contents A). (other : ℕ) → c.loop-number.from ≤ other → IfSome (get nat_eq z.calls.calls other) (λ call. call.pid ≡ pid → c.in-Some-next_of_process.number ≤ other)) c.kernel-in-loop-number.view_is c.in-Some-next_of_process.ensures.least in
    let own = subst (λ (z : Contents A). is_others (core_of z) pid c.in-Some-next_of_process.number ≡ false) c.kernel-in-loop-number.view_is (own_call (in_turn g w) c.kernel-in-loop-number.invariant.0 pid c.in-Some-next_of_process.number call.0 call.1 call.2) in
    record {
      leaving = subst (λ z. IsExiting C pid z) (sym c.end_call.ensures.settled) (exiting_drops C pid (core_of S) c.in-Some-next_of_process.number own was.leaving);
      process = (λ i. drops_process S N c.in-Some-next_of_process.number c.end_call.ensures.settled i pid) ∙ was.process;
      closed = λ fd. (λ i. drops_rows S N c.in-Some-next_of_process.number c.end_call.ensures.settled i pid fd) ∙ was.closed fd;
      dropped = drops_through S N c.in-Some-next_of_process.number c.end_call.ensures.settled pid c.loop-number.from was.dropped least;
    }

-- as the process ends, it names nothing, no call of it is parked, and the rest is as its exit leaves it
module _ (g : Over) (c : After-end-arg-1 g) where
  abbrev holds : Known g.row.A.Denot
  holds = known c.kernel-2.inside c.kernel-2.invariant

  closed : (fd : ℕ) → row_at holds.descs.tables c.args.pid fd ≡ None
  closed fd = ap (λ (z : Contents g.row.A.Denot). row_at z.tables c.args.pid fd) c.kernel-2.view_is ∙ c.loop-number.invariant.closed fd

  dropped : list_any (λ e. nat_eq e.1.pid c.args.pid) (parked_of holds.calls.calls) ≡ false
  dropped =
      let A = g.row.A.Denot in
      let below = subst (λ (z : Contents A). NoneBelow z.calls.calls c.args.pid c.loop-number.from) (sym c.kernel-2.view_is) c.loop-number.invariant.dropped in
      let above = subst (λ (z : Contents A). (n : ℕ) → c.loop-number.from ≤ n → IfSome (get nat_eq z.calls.calls n) (λ call. ¬ (call.pid ≡ c.args.pid))) (c.kernel-in-loop-number.view_is ∙ sym c.kernel-2.view_is) c.in_default-next_of_process.ensures.none in
      no_call (view_of c.kernel-2.inside) c.kernel-2.invariant.0 c.args.pid c.loop-number.from below above

  leaving : IsExiting (core_of c.args.kernel.now) c.args.pid (core_of (view_of c.kernel-2.inside))
  leaving = subst (λ (z : Contents g.row.A.Denot). IsExiting (core_of c.args.kernel.now) c.args.pid (core_of z)) (sym c.kernel-2.view_is) c.loop-number.invariant.leaving

pub end-requires-clause-closed : goal.end-requires-clause-closed
end-requires-clause-closed g c = closed g c

pub invariant_of-kernel-2 : goal.invariant_of-kernel-2
invariant_of-kernel-2 g c =
    let w = (goal.at.invariant_of-kernel-2 g c).After-end-arg-1 in
    let new = c.end.ensures in (
      exit-sound c.args.kernel.now c.args.pid c.requires (holds g w) (closed g w) (dropped g w) (leaving g w) c.end.new.self new.pids new.rows new.rest new.tidy,
      exit-held c.args.kernel.now c.args.pid c.requires (holds g w) (closed g w) (dropped g w) (leaving g w) c.end.new.self new.pids new.rows new.rest new.tidy,
    )

pub returns : goal.returns
returns g c =
    let w = (goal.at.returns g c).After-end-arg-1 in
    let new = c.end.ensures in
    exit-exits c.args.kernel.now c.args.pid c.requires (holds g w) (closed g w) (dropped g w) (leaving g w) c.end.new.self new.pids new.rows new.rest new.tidy
