-- A hold of a description is given up, at the kernel's keys.
use Rattle.std.proofs.Common.{◌≡◌, ◌≢◌, ℕ, ◌+◌, ◌-◌, ◌<◌, ◌≤◌, Bool, true, false, cond, List, map, Option, Some, None, IfSome, IsSome, refl, sym, ◌∙◌, ap, subst, inl, inr, nat_eq, nat_lt, arith}
use Rattle.std.specs.Prelude.{if◌then◌else◌, option_map}
use Rattle.std.proofs.lemmas.Bool.{false≢true, eq-eqb, ne_eqb}
use Rattle.std.proofs.lemmas.Bool.Decides.{eqb_tells}
use Rattle.pl_model.specs.declared.node.Node.{Node}
use Rattle.pl_model.specs.Map.{set_at, EachOnce}
use Rattle.std.specs.Cmp.Lexicographic.{pointwise}
use Rattle.pl_model.specs.State.{Core}
use Rattle.pl_model.specs.Live.{is_live}
use Rattle.pl_model.specs.Settle.{settle}
use Rattle.pl_model.specs.Numbers.{last_call}
use Rattle.pl_model.specs.Numbered.{numbers}
use Rattle.pl_model.proofs.settling.FromSettled.{Alike, same-settled}
use Rattle.pl_model.proofs.Counting.{above}
use Rattle.pl_numbered.specs.Rising.{Rise}
use Rattle.pl_parked.specs.Calls.{Calls}
use Rattle.pl_desc.specs.Rows.{at, is_pid, row_at, naming, count_at}
use Rattle.pl_desc.specs.Descs.{Opened, Descs, IsTidy, holders, last_hold}
use Rattle.pl_state.specs.Contents.{Contents, Nodes, IsThere, contents, node_limits, desc_limits, node_of, description_of, core_of}
use Rattle.pl_state.specs.LastHold.{Leaves, Releases}
use Rattle.pl_state.specs.Sound.{IsWhole, AreThere, AreCounted, keeping}
use Rattle.pl_state.proofs.Known.{Parts}
use Rattle.pl_state.proofs.by_call.Begun.{there}
use Rattle.pl_state.proofs.holders.Holding.{lives-is}
use Rattle.pl_state.proofs.holders.There.{settled_after, there-released}
use Rattle.pl_state.proofs.holders.Gone.{Agrees, leaves}

-- A row or a parked call named the description of a key, and does no more: its hold is loose, and is given up.
pub record GivesUp {A : Type 0} (m : Parts A) (u : Core A numbers) (key : ℕ) (loosed : Descs) (left : Calls A) : Type 0 where
  pub alike : Alike (core_of (contents m.descs m.nodes m.calls m.limits)) u
  pub pipes_as_before : u.pipes ≡ (core_of (contents m.descs m.nodes m.calls m.limits)).pipes
  pub agrees : Agrees (contents loosed m.nodes left m.limits) u
  pub opened : loosed.opened ≡ m.descs.opened
  pub tidy : IsTidy loosed
  pub bounds : loosed.limits ≡ m.descs.limits
  pub held_as_before : (q : ℕ) → nat_lt 0 (holders loosed q) ≡ nat_lt 0 (holders m.descs q)
  pub loose : (q : ℕ) → count_at loosed.loose q ≡ keeping left.calls q + cond (nat_eq key q) 1 0
  pub rise : Rise 0 left.next left.calls
  pub numbered : left.next ≤ last_call

module _ {A : Type 0} (m : Parts A) (u : Core A numbers) (key : ℕ) (loosed : Descs) (left : Calls A) (gives : GivesUp m u key loosed left) where
  open m use {nodes, whole}

  pub loose_key : count_at loosed.loose key ≡ keeping left.calls key + 1
  loose_key = gives.loose key ∙ ap (λ b. keeping left.calls key + cond b 1 0) (eq-eqb key key refl)

  pub may_release : (0 < count_at loosed.loose key) × (IfSome (at loosed.opened key) (λ o. IsThere nodes o.node))
  may_release = (omega (arith, loose_key), subst (λ os. IfSome (at os key) (λ o. IsThere nodes o.node)) (sym gives.opened) (whole.there.described key))

module _ {A : Type 0} (m : Parts A) (u : Core A numbers) (key : ℕ) (loosed : Descs) (left : Calls A) (gives : GivesUp m u key loosed left) (descs' : Descs) (nodes' : Nodes) (releases : Releases loosed descs' m.nodes nodes' key) where
  open m use {descs, nodes, calls, limits, whole, are}

  abbrev k : Contents A
  k = contents descs nodes calls limits

  abbrev c : Core A numbers
  c = core_of k

  abbrev new : Contents A
  new = contents descs' nodes' left limits

  live_before : (q : ℕ) → is_live c q ≡ nat_lt 0 (holders descs q)
  unfolding core_of
  live_before q = lives-is c descs.tables calls.calls refl refl refl descs.limits are.bounds are.tidy.few are.tidy.wide q ∙ ap (λ n. nat_lt 0 (naming descs.tables q + n)) (sym (are.counted q))

  live_after : (q : ℕ) → is_live u q ≡ nat_lt 0 (naming loosed.tables q + keeping left.calls q)
  live_after q = lives-is u loosed.tables left.calls (sym gives.agrees.processes) (sym gives.agrees.rows) (sym gives.agrees.parked) loosed.limits (gives.bounds ∙ are.bounds ∙ ap desc_limits gives.agrees.limits) gives.tidy.few gives.tidy.wide q

  others : (q : ℕ) → q ≢ key → is_live u q ≡ is_live c q
  others q other =
      live_after q ∙ ap (nat_lt 0) (
      let l : count_at loosed.loose q ≡ keeping left.calls q + 0 = gives.loose q ∙ ap (λ b. keeping left.calls q + cond b 1 0) (ne_eqb key q (λ s. other (sym s))) in
      let all : naming loosed.tables q + keeping left.calls q ≡ holders loosed q = omega (arith, l) in
      all)
      ∙ gives.held_as_before q ∙ sym (live_before q)

  abbrev loose_one : count_at loosed.loose key ≡ keeping left.calls key + 1
  loose_one = loose_key m u key loosed left gives

  -- it was there
  was_there : IsSome (at descs.opened key)
  was_there = by (at descs.opened key) refl
    where
      by : (o : Option Opened) → at descs.opened key ≡ o → IsSome o
      by (Some o) e = refl
      by None e = absurd (let none : holders descs key ≡ 0 = are.tidy.bare key e in false≢true (sym (ap (nat_lt 0) none) ∙ sym (gives.held_as_before key) ∙ above (holders loosed key) (omega (arith, loose_one))))

  agrees : Agrees new u
  agrees = record {
    processes = ap is_pid releases.tables ∙ gives.agrees.processes;
    rows = ap row_at releases.tables ∙ gives.agrees.rows;
    parked = gives.agrees.parked;
    next_call = gives.agrees.next_call;
    limits = gives.agrees.limits;
  }

  -- each loose hold is that of a call again
  pub given_held : AreCounted A limits descs' left.calls
  given_held = record { tidy = releases.tidy; bounds = releases.limits ∙ gives.bounds ∙ are.bounds; counted = counted }
    where
      less : (b : Bool) (n m : ℕ) → n ≡ m + cond b 1 0 → cond b (n - 1) n ≡ m
      less true n m e = omega (arith, e)
      less false n m e = omega (arith, e)

      counted : (q : ℕ) → count_at descs'.loose q ≡ keeping left.calls q
      counted q = (λ i. releases.loose i q) ∙ less (nat_eq key q) (count_at loosed.loose q) (keeping left.calls q) (gives.loose q)

  -- something else holds it
  module _ (last : last_hold loosed key ≡ false) where
    live : is_live u key ≡ true
    live = live_after key ∙ above _ (by (holders loosed key) refl)
      where
        not_one : holders loosed key ≢ 1
        not_one e = (let f : false ≡ true = sym last ∙ eq-eqb (holders loosed key) 1 e in cc)

        by : (n : ℕ) → holders loosed key ≡ n → 0 < naming loosed.tables key + keeping left.calls key
        by n e = elim (eqb_tells (naming loosed.tables key + keeping left.calls key) 0) as (λ _. 0 < naming loosed.tables key + keeping left.calls key) [
          | inl t ↦ absurd (not_one (let z = t.1 in omega (arith, z, loose_one)))
          | inr t ↦ (let z = t.1 in grind (arith, z))
        ]

    was_live : is_live c key ≡ true
    was_live = live_before key ∙ sym (gives.held_as_before key) ∙ above (holders loosed key) (omega (arith, loose_one))

    same_live : (q : ℕ) → is_live u q ≡ is_live c q
    same_live q = elim (eqb_tells q key) as (λ _. is_live u q ≡ is_live c q) [
      | inl t ↦ ap (is_live u) t.1 ∙ live ∙ sym was_live ∙ ap (is_live c) (sym t.1)
      | inr t ↦ others q t.1
    ]

    opened_as : at descs'.opened ≡ at descs.opened
    opened_as = releases.opened ∙ ap (λ b. if b then set_at nat_eq (at loosed.opened) key None else at loosed.opened) last ∙ ap at gives.opened

    new_is : core_of new ≡ u
    unfolding core_of
    new_is = λ i. record {
      processes = agrees.processes i;
      rows = agrees.rows i;
      descriptions = (ap (λ (m : ℕ → Option Opened). λ d. option_map description_of (m d)) opened_as ∙ sym gives.alike.descriptions) i;
      pipes = (ap (λ ns. at ns.pipes) (releases.stays last) ∙ sym gives.pipes_as_before) i;
      files = (ap (λ ns. at ns.files) (releases.stays last) ∙ sym gives.alike.files) i;
      names = (ap (λ ns. map (λ (e : List ℕ × Node). (e.0, node_of e.1)) ns.names) (releases.stays last) ∙ sym gives.alike.names) i;
      parked = agrees.parked i;
      next_call = agrees.next_call i;
      limits = agrees.limits i;
    }

    given_stays : core_of new ≡ settle c u
    given_stays = new_is ∙ sym (same-settled c u whole.settled gives.alike same_live gives.pipes_as_before)

  -- nothing does
  module _ (last : last_hold loosed key ≡ true) where
    dead : is_live u key ≡ false
    dead = live_after key ∙ ap (nat_lt 0) (let one : holders loosed key ≡ 1 = eqb_is (holders loosed key) last in let none : naming loosed.tables key + keeping left.calls key ≡ 0 = omega (arith, one, loose_one) in none)
      where
        eqb_is : (n : ℕ) → nat_eq n 1 ≡ true → n ≡ 1
        eqb_is n h = elim (eqb_tells n 1) as (λ _. n ≡ 1) [
          | inl t ↦ t.1
          | inr t ↦ absurd (let f : false ≡ true = sym t.0 ∙ h in cc)
        ]

    abbrev opened_here : (o : Opened) × (at descs.opened key ≡ Some o)
    opened_here = there (at descs.opened key) was_there

    opened_less : at descs'.opened ≡ set_at nat_eq (at descs.opened) key None
    opened_less = releases.opened ∙ ap (λ b. if b then set_at nat_eq (at loosed.opened) key None else at loosed.opened) last ∙ ap (λ os. set_at nat_eq (at os) key None) gives.opened

    nodes_less : Leaves descs.opened descs'.opened nodes nodes' opened_here.0.node
    nodes_less = subst (λ o. IfSome o (λ o. Leaves descs.opened descs'.opened nodes nodes' o.node)) opened_here.1 (subst (λ os. IfSome (at os key) (λ o. Leaves os descs'.opened nodes nodes' o.node)) gives.opened (releases.leaves last))

    given_goes : core_of new ≡ settle c u
    given_goes = leaves k whole key opened_here.0 opened_here.1 u gives.alike gives.pipes_as_before others dead new agrees opened_less nodes_less

  pub given : core_of new ≡ settle c u
  given = by (last_hold loosed key) refl
    where
      by : (b : Bool) → last_hold loosed key ≡ b → core_of new ≡ settle c u
      by true last = given_goes last
      by false last = given_stays last

  limit_stays : nodes'.limits ≡ node_limits limits
  limit_stays = by (last_hold loosed key) refl
    where
      by : (b : Bool) → last_hold loosed key ≡ b → nodes'.limits ≡ node_limits limits
      by true last = (nodes_less last).limits ∙ whole.limit
      by false last = ap (λ (ns : Nodes). ns.limits) (releases.stays last) ∙ whole.limit

  names_stay : nodes'.names ≡ nodes.names
  names_stay = by (last_hold loosed key) refl
    where
      by : (b : Bool) → last_hold loosed key ≡ b → nodes'.names ≡ nodes.names
      by true last = (nodes_less last).names
      by false last = ap (λ (ns : Nodes). ns.names) (releases.stays last)

  pub given_whole : IsWhole A new
  given_whole = record {
    rise = gives.rise;
    numbered = gives.numbered;
    there = (let o = there (at descs.opened key) was_there in there-released loosed descs' nodes nodes' key o.0 (ap (λ os. at os key) gives.opened ∙ o.1) releases (subst (λ os. AreThere (at os) nodes) (sym gives.opened) whole.there));
    limit = limit_stays;
    once = subst (EachOnce (pointwise nat_eq)) (sym names_stay) whole.once;
    settled = settled_after (core_of new) c u given;
  }
