-- Descriptors that are closed, calls that are dropped and processes that end one after another are settled as if they went
-- at once.
use Rattle.std.proofs.Common.{◌≡◌, ◌≢◌, ℕ, Bool, true, false, cond, List, [], ◌∷◌, Option, Some, None, refl, sym, ◌∙◌, ap, inl, inr, nat_eq, nat_lt}
use Rattle.std.proofs.Math.Path.{fun_ext}
use Rattle.std.specs.Prelude.{◌||◌, ◌&&◌, not}
use Rattle.std.specs.List.{list_any, filter}
use Rattle.std.specs.Set.{is_member}
use Rattle.std.proofs.lemmas.Bool.{eq-eqb, ne_eqb}
use Rattle.std.proofs.lemmas.Bool.Decides.{eqb_tells}
use Rattle.pl_model.specs.Modes.{writes}
use Rattle.pl_model.specs.Map.{Map, get, put, without}
use Rattle.pl_model.specs.Keys.{PipeNode}
use Rattle.pl_model.specs.State.{Core, Waiting}
use Rattle.pl_model.specs.Live.{in_rows, in_parked, pids, is_live, is_end}
use Rattle.pl_model.specs.Live.{writers as count_writers}
use Rattle.pl_model.specs.Settle.{settle, had_writer, is_hung}
use Rattle.pl_model.specs.Tables.{install, close_row, end, exit}
use Rattle.pl_model.specs.Step.{parked_again, without_call}
use Rattle.pl_model.specs.Numbered.{numbers}
use Rattle.pl_model.specs.Laws.{IsSettled, HasFewer, with_held_of}
use Rattle.pl_model.proofs.settling.Members.{or_left, or_right, or_elim, and_right, any_filter}
use Rattle.pl_model.proofs.settling.WhoIsLive.{Row, row_found, row_member, live_same, end_found, end_passes, writers-is}
use Rattle.pl_model.proofs.settling.FromSettled.{same-settled, at_other, at_same}
use Rattle.pl_model.proofs.settling.Idempotent.{settled}
use Rattle.pl_model.proofs.settling.InTurn.{in_turn}
use Rattle.pl_model.proofs.settling.Changes.{same_row, installed_live}
use Rattle.pl_model.proofs.settling.Parking.{keeps, live-is}

any_more : {X : Type 0} (p t : X → Bool) (xs : List X) → list_any (λ x. p x && t x) xs ≡ true → list_any t xs ≡ true
any_more p t [] h = h
any_more p t (x ∷ xs) h = or_elim (p x && t x) _ (λ k. or_left (t x) _ (and_right (p x) (t x) k)) (λ k. or_right (t x) _ (any_more p t xs k)) h

filter_all : {X : Type 0} (t : X → Bool) (xs : List X) → list_any t xs ≡ false → filter (λ x. not (t x)) xs ≡ xs
filter_all t [] h = refl
filter_all t (x ∷ xs) h = by (t x) h (filter_all t xs)
  where
    by : (b : Bool) → (b || list_any t xs) ≡ false → (list_any t xs ≡ false → filter (λ x. not (t x)) xs ≡ xs) → cond (not b) (x ∷ filter (λ x. not (t x)) xs) (filter (λ x. not (t x)) xs) ≡ x ∷ xs
    by true h rest = absurd (cc)
    by false h rest = ap (λ ys. x ∷ ys) (rest h)

module _ {A : Type 0} where
  pub fewer_same : (c : Core A numbers) → HasFewer c c
  fewer_same c = record { descriptions = refl; pipes = refl; files = refl; names = refl; live = λ d l. l }

  pub fewer_still : (c u v : Core A numbers) → HasFewer c u → HasFewer u v → HasFewer c v
  fewer_still c u v f g = record {
    descriptions = g.descriptions ∙ f.descriptions;
    pipes = g.pipes ∙ f.pipes;
    files = g.files ∙ f.files;
    names = g.names ∙ f.names;
    live = λ d l. f.live d (g.live d l);
  }

  -- less is live by fewer rows and fewer calls
  live_fewer : (u v : Core A numbers) (d : ℕ) → (Row v d → Row u d) → (keeps v.parked d ≡ true → keeps u.parked d ≡ true) → is_live v d ≡ true → is_live u d ≡ true
  live_fewer u v d rows calls l =
      live-is u d ∙ or_elim (is_member nat_eq (in_rows v) d) (keeps v.parked d)
      (λ r. or_left _ _ (row_member u d (rows (row_found v d r))))
      (λ k. or_right _ _ (calls k))
      (sym (live-is v d) ∙ l)

  pub close_fewer : (u : Core A numbers) (pid fd : ℕ) → HasFewer u (close_row u pid fd)
  close_fewer u pid fd = record { descriptions = refl; pipes = refl; files = refl; names = refl; live = λ d. live_fewer u (close_row u pid fd) d (λ r. back d r) (λ k. k) }
    where
      back : (d : ℕ) → Row (close_row u pid fd) d → Row u d
      back d r = record { pid = r.pid; fd = r.fd; low = r.low; high = r.high; process = r.process; within = r.within; names = was (nat_eq r.pid pid && nat_eq r.fd fd) r.names }
        where
          was : (b : Bool) → cond b None (u.rows r.pid r.fd) ≡ Some d → u.rows r.pid r.fd ≡ Some d
          was true e = absurd (cc)
          was false e = e

  pub drop_fewer : (u : Core A numbers) (n : ℕ) → HasFewer u (without_call u n)
  drop_fewer u n = record {
    descriptions = refl;
    pipes = refl;
    files = refl;
    names = refl;
    live = λ d. live_fewer u (without_call u n) d
        (λ r. record { pid = r.pid; fd = r.fd; low = r.low; high = r.high; process = r.process; within = r.within; names = r.names })
        (λ k. any_more (λ (e : ℕ × Waiting A numbers). not (nat_eq n e.0)) (λ e. is_member nat_eq e.1.kept d) u.parked (sym (any_filter (λ (e : ℕ × Waiting A numbers). is_member nat_eq e.1.kept d) (λ e. not (nat_eq n e.0)) u.parked) ∙ k));
  }

  -- a parked call keeps fewer descriptions
  keeps_less : (calls : Map ℕ (Waiting A numbers)) (n : ℕ) (w now : Waiting A numbers) (d : ℕ) → get nat_eq calls n ≡ Some w → (is_member nat_eq now.kept d ≡ true → is_member nat_eq w.kept d ≡ true) →
      keeps (put nat_eq calls n now) d ≡ true → keeps calls d ≡ true
  keeps_less [] n w now d here less k = absurd (cc)
  keeps_less (e ∷ es) n w now d here less k = by (nat_eq e.0 n) here k (keeps_less es n w now d)
    where
      by : (b : Bool) → cond b (Some e.1) (get nat_eq es n) ≡ Some w → keeps (cond b ((n, now) ∷ es) (e ∷ put nat_eq es n now)) d ≡ true →
          (get nat_eq es n ≡ Some w → (is_member nat_eq now.kept d ≡ true → is_member nat_eq w.kept d ≡ true) → keeps (put nat_eq es n now) d ≡ true → keeps es d ≡ true) → keeps (e ∷ es) d ≡ true
      by true h k rest = (let is : e.1 ≡ w = cc in or_elim (is_member nat_eq now.kept d) _ (λ m. or_left _ _ (ap (λ (z : Waiting A numbers). is_member nat_eq z.kept d) is ∙ less m)) (λ m. or_right _ _ m) k)
      by false h k rest = or_elim (is_member nat_eq e.1.kept d) _ (λ m. or_left _ _ m) (λ m. or_right _ _ (rest h less m)) k

  pub keep_fewer : (u : Core A numbers) (n : ℕ) (w now : Waiting A numbers) → get nat_eq u.parked n ≡ Some w → ((d : ℕ) → is_member nat_eq now.kept d ≡ true → is_member nat_eq w.kept d ≡ true) → HasFewer u (parked_again u n now)
  keep_fewer u n w now here less = record {
    descriptions = refl;
    pipes = refl;
    files = refl;
    names = refl;
    live = λ d. live_fewer u (parked_again u n now) d
        (λ r. record { pid = r.pid; fd = r.fd; low = r.low; high = r.high; process = r.process; within = r.within; names = r.names })
        (keeps_less u.parked n w now d here (less d));
  }

-- what is left of a state, settled, in which something more goes
module _ {A : Type 0} (c u v : Core A numbers) (fewer : HasFewer c u) (less : HasFewer u v) where
  had : (p : ℕ) → nat_lt 0 (count_writers u p) ≡ true → had_writer c p ≡ true
  had p h = or_right (is_hung (c.pipes p)) _ (
      let e = end_found u writes (PipeNode p) (sym (writers-is u p) ∙ h) in
      writers-is c p ∙ end_passes c writes (PipeNode p) e.0 (fewer.live e.0 e.1) (sym (λ i. is_end writes (PipeNode p) (fewer.descriptions i e.0)) ∙ e.2))

  pub goes : settle (settle c u) (with_held_of (settle c u) v) ≡ settle c v
  goes = in_turn c u v less had

  -- and who is live stays
  pub stays : ((d : ℕ) → is_live v d ≡ is_live u d) → settle c v ≡ with_held_of (settle c u) v
  unfolding settle in_rows in_parked pids
  stays same = sym goes ∙ same-settled (settle c u) (with_held_of (settle c u) v) (settled c u) (record { descriptions = refl; files = refl; names = less.names }) same refl

-- a descriptor comes to name what a row names, in place of something else
module _ {A : Type 0} (c : Core A numbers) (pid fd d gone : ℕ) (named : c.rows pid fd ≡ Some gone) (apart : d ≢ gone) (from : Row c d) where
  abbrev closed : Core A numbers
  closed = close_row c pid fd

  pub free : closed.rows pid fd ≡ None
  free = λ i. cond (eq-eqb pid pid refl i && eq-eqb fd fd refl i) None (c.rows pid fd)

  pub still_from : Row closed d
  still_from = record {
    pid = from.pid;
    fd = from.fd;
    low = from.low;
    high = from.high;
    process = from.process;
    within = from.within;
    names = same_row c pid fd gone named from.pid from.fd d apart from.names;
  }

  once_more : install closed pid fd d ≡ install c pid fd d
  once_more = λ i. record c { rows = fun_ext (λ q. fun_ext (λ k. at (nat_eq q pid && nat_eq k fd) (c.rows q k))) i }
    where
      at : (b : Bool) (o : Option ℕ) → cond b (Some d) (cond b None o) ≡ cond b (Some d) o
      at true o = refl
      at false o = refl

  installed_fewer : HasFewer closed (install closed pid fd d)
  installed_fewer = record { descriptions = refl; pipes = refl; files = refl; names = refl; live = λ q l. sym (installed_live closed pid fd d free still_from q) ∙ l }

  -- It is closed first, with what goes with it, and then names the other.
  pub instead-settled : settle c (install c pid fd d) ≡ install (settle c closed) pid fd d
  unfolding settle
  instead-settled = ap (settle c) (sym once_more) ∙ stays c closed (install closed pid fd d) (close_fewer c pid fd) installed_fewer (installed_live closed pid fd d free still_from)

-- A process is on its way out: `now` is what of c is left and settled, once some descriptors of the process were closed and
-- some of its calls dropped.
pub record IsExiting {A : Type 0} (c : Core A numbers) (pid : ℕ) (now : Core A numbers) : Type 0 where
  pub rest : Core A numbers
  pub fewer : HasFewer c rest
  pub same : exit rest pid ≡ exit c pid
  pub settles : now ≡ settle c rest

-- a call of this number is another process's
abbrev pub is_others : {A : Type 0} → Core A numbers → ℕ → ℕ → Bool
is_others c pid n = list_any (λ e. nat_eq n e.0 && not (nat_eq e.1.pid pid)) c.parked

module _ {A : Type 0} (c : Core A numbers) (pid : ℕ) where
  pub exiting_begins : IsSettled c → IsExiting c pid c
  exiting_begins settled = record { rest = c; fewer = fewer_same c; same = refl; settles = sym settled }

  -- a descriptor of it is closed
  pub exiting_closes : (now : Core A numbers) (fd : ℕ) → IsExiting c pid now → IsExiting c pid (settle now (close_row now pid fd))
  unfolding settle
  exiting_closes now fd l = record {
    rest = close_row l.rest pid fd;
    fewer = fewer_still c l.rest (close_row l.rest pid fd) l.fewer (close_fewer l.rest pid fd);
    same = ap (λ rows. record (exit l.rest pid) { rows = rows }) (fun_ext (λ q. at q)) ∙ l.same;
    settles = ap (λ z. settle z (close_row z pid fd)) l.settles ∙ goes c l.rest (close_row l.rest pid fd) l.fewer (close_fewer l.rest pid fd);
  }
    where
      at : (q : ℕ) → cond (nat_eq pid q) (λ k. None) (λ k. cond (nat_eq q pid && nat_eq k fd) None (l.rest.rows q k)) ≡ cond (nat_eq pid q) (λ k. None) (l.rest.rows q)
      at q = elim (eqb_tells pid q) as (λ _. cond (nat_eq pid q) (λ k. None) (λ k. cond (nat_eq q pid && nat_eq k fd) None (l.rest.rows q k)) ≡ cond (nat_eq pid q) (λ k. None) (l.rest.rows q)) [
        | inl t ↦ (λ i. cond (t.0 i) (λ k. None) (λ k. cond (nat_eq q pid && nat_eq k fd) None (l.rest.rows q k))) ∙ sym (ap (λ b. cond b (λ k. None) (l.rest.rows q)) t.0)
        | inr t ↦
            (λ i. cond (t.0 i) (λ k. None) (λ k. cond (ne_eqb q pid (λ e. t.1 (sym e)) i && nat_eq k fd) None (l.rest.rows q k)))
            ∙ sym (ap (λ b. cond b (λ k. None) (l.rest.rows q)) t.0)
      ]

  -- a call of it is dropped
  pub exiting_drops : (now : Core A numbers) (n : ℕ) → is_others now pid n ≡ false → IsExiting c pid now → IsExiting c pid (settle now (without_call now n))
  unfolding settle
  exiting_drops now n own l = record {
    rest = without_call l.rest n;
    fewer = fewer_still c l.rest (without_call l.rest n) l.fewer (drop_fewer l.rest n);
    same = ap (λ calls. record (exit l.rest pid) { parked = calls }) (not_its l.rest.parked (sym (ap (λ z. is_others z pid n) l.settles) ∙ own)) ∙ l.same;
    settles = ap (λ z. settle z (without_call z n)) l.settles ∙ goes c l.rest (without_call l.rest n) l.fewer (drop_fewer l.rest n);
  }
    where
      not_its : (calls : Map ℕ (Waiting A numbers)) → list_any (λ e. nat_eq n e.0 && not (nat_eq e.1.pid pid)) calls ≡ false → filter (λ e. not (nat_eq e.1.pid pid)) (without nat_eq calls n) ≡ filter (λ e. not (nat_eq e.1.pid pid)) calls
      not_its [] h = refl
      not_its (e ∷ es) h = by (nat_eq n e.0) (nat_eq e.1.pid pid) refl h (not_its es)
        where
          by : (b o : Bool) → nat_eq e.1.pid pid ≡ o → ((b && not o) || list_any (λ e. nat_eq n e.0 && not (nat_eq e.1.pid pid)) es) ≡ false
              → (list_any (λ e. nat_eq n e.0 && not (nat_eq e.1.pid pid)) es ≡ false → filter (λ e. not (nat_eq e.1.pid pid)) (without nat_eq es n) ≡ filter (λ e. not (nat_eq e.1.pid pid)) es)
              → filter (λ e. not (nat_eq e.1.pid pid)) (cond (not b) (e ∷ without nat_eq es n) (without nat_eq es n)) ≡ cond (not o) (e ∷ filter (λ e. not (nat_eq e.1.pid pid)) es) (filter (λ e. not (nat_eq e.1.pid pid)) es)
          by true true t h rest = rest h
          by true false t h rest = absurd (cc)
          by false o t h rest = (λ i. cond (not (t i)) (e ∷ filter (λ e. not (nat_eq e.1.pid pid)) (without nat_eq es n)) (filter (λ e. not (nat_eq e.1.pid pid)) (without nat_eq es n))) ∙ ap (λ z. cond (not o) (e ∷ z) z) (rest h)

  -- With no descriptor and no call left it ends, as if all had gone at once.
  module _ (now : Core A numbers) (closed : (fd : ℕ) → now.rows pid fd ≡ None) (dropped : list_any (λ e. nat_eq e.1.pid pid) now.parked ≡ false) (l : IsExiting c pid now) where
    abbrev rest : Core A numbers
    rest = l.rest

    no_row : (fd : ℕ) → rest.rows pid fd ≡ None
    unfolding settle
    no_row fd = sym (λ i. (l.settles i).rows pid fd) ∙ closed fd

    no_call : list_any (λ e. nat_eq e.1.pid pid) rest.parked ≡ false
    unfolding settle
    no_call = sym (λ i. list_any (λ e. nat_eq e.1.pid pid) (l.settles i).parked) ∙ dropped

    nothing_left : exit rest pid ≡ end rest pid
    nothing_left = λ i. record (end rest pid) {
      rows = sym (at_same rest.rows pid (λ fd. None) (fun_ext no_row)) i;
      parked = filter_all (λ (e : ℕ × Waiting A numbers). nat_eq e.1.pid pid) rest.parked no_call i;
    }

    ended_live : (d : ℕ) → is_live (end rest pid) d ≡ is_live rest d
    ended_live d = live_same rest (end rest pid) refl d
        (λ r. record { pid = r.pid; fd = r.fd; low = r.low; high = r.high; within = r.within; names = r.names; process = at_other rest.processes pid r.pid false (apart r) ∙ r.process })
        (λ r. record { pid = r.pid; fd = r.fd; low = r.low; high = r.high; within = r.within; names = r.names; process = was (nat_eq pid r.pid) (rest.processes r.pid) r.process })
      where
        apart : (r : Row rest d) → pid ≢ r.pid
        apart r e = (let none : None ≡ Some d = sym (no_row r.fd) ∙ ap (λ q. rest.rows q r.fd) e ∙ r.names in cc)

        was : (b p : Bool) → cond b false p ≡ true → p ≡ true
        was true p h = absurd (cc)
        was false p h = h

    ended_fewer : HasFewer rest (end rest pid)
    ended_fewer = record { descriptions = refl; pipes = refl; files = refl; names = refl; live = λ d h. sym (ended_live d) ∙ h }

    pub exiting_ends : settle c (exit c pid) ≡ end now pid
    unfolding settle
    exiting_ends = ap (settle c) (sym l.same ∙ nothing_left) ∙ stays c rest (end rest pid) l.fewer ended_fewer ended_live ∙ ap (λ z. end z pid) (sym l.settles)
