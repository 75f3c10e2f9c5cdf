-- What the places of a call say of its call, and of what it keeps.
use Rattle.std.proofs.Common.{◌≡◌, ℕ, ℤ, ◌+◌, pos, negsuc, Bool, true, false, List, [], ◌∷◌, ◌++◌, length, Option, ◌⊎◌, inl, inr, ⊎_elim, refl, sym, ◌∙◌, ap, subst, nat_eq, nat_lt, nat_le}
use Rattle.std.specs.Prelude.{not, ◌||◌, ◌&&◌, ◌==◌, bit_or, option_map, IsSome}
use Rattle.std.specs.List.{list_any, flat_map}
use Rattle.std.specs.Set.{is_member}
use Rattle.std.specs.declared.option.Option.TheVariants.{None, Some}
use Rattle.std.proofs.lemmas.Bool.{eq-eqb, eqb-true}
use Rattle.std.proofs.lemmas.List.Folds.{list_any-append}
use Rattle.pl_model.specs.declared.calls.Mode.{Mode}
use Rattle.pl_model.specs.declared.cases.Polled.{Polled}
use Rattle.pl_model.specs.declared.flags.PollMask.{PollMask}
use Rattle.pl_model.specs.Numbers.{pipe_buf}
use Rattle.pl_model.specs.Modes.{reads, writes}
use Rattle.pl_model.specs.Flags.{has, poll_in, poll_out}
use Rattle.pl_model.specs.Keys.{Node, PipeNode, FileNode}
use Rattle.pl_model.specs.State.{Core, Description, described}
use Rattle.pl_model.specs.Live.{readers}
use Rattle.pl_model.specs.Trial.{pipe_at}
use Rattle.pl_model.specs.Transfer.{room}
use Rattle.pl_model.specs.Poll.{bits_if, is_ready, mask_of, mask_at, polled}
use Rattle.pl_model.specs.Numbered.{numbers}
use Rattle.pl_model.proofs.settling.Members.{and_left, and_right, or_left, or_right, or_elim}
use Rattle.pl_kernel.specs.ToldNodes.{key_of}
use Rattle.pl_kernel.specs.Queues.{polls, kind_of, queue_of_entry, is_end_ready, finds, queue_at_source, queue_at_target, end_of, ends, place_in, entry_place, poll_places, move_places, are_kept, is_place}
use Rattle.pl_kernel.proofs.index.Deciding.{asked_at, is_found}

-- it is the first one, or one of the rest
pub first-or-rest : (k q : ℕ) (ps : List (ℕ × ℕ)) (key queue : ℕ) → is_place ((k, q) ∷ ps) key queue ≡ true → ((k ≡ key) × (q ≡ queue)) ⊎ (is_place ps key queue ≡ true)
first-or-rest k q ps key queue h = or_elim (nat_eq k key && nat_eq q queue) (is_place ps key queue)
    (λ e. inl (eqb-true k key (and_left (nat_eq k key) (nat_eq q queue) e), eqb-true q queue (and_right (nat_eq k key) (nat_eq q queue) e))) (λ r. inr r) h

pub place-first : (k q : ℕ) (ps : List (ℕ × ℕ)) → is_place ((k, q) ∷ ps) k q ≡ true
place-first k q ps = or_left (nat_eq k k && nat_eq q q) (is_place ps k q) (λ i. eq-eqb k k refl i && eq-eqb q q refl i)

pub place-next : (k q : ℕ) (ps : List (ℕ × ℕ)) (key queue : ℕ) → is_place ps key queue ≡ true → is_place ((k, q) ∷ ps) key queue ≡ true
place-next k q ps key queue h = or_right (nat_eq k key && nat_eq q queue) (is_place ps key queue) h

pub places-apart : (ps qs : List (ℕ × ℕ)) (key queue : ℕ) → is_place (ps ++ qs) key queue ≡ (is_place ps key queue || is_place qs key queue)
places-apart ps qs key queue = list_any-append (λ p. nat_eq p.0 key && nat_eq p.1 queue) ps qs

module _ {A : Type 0} (c : Core A numbers) where
  -- One of these descriptions is on the node of this key.
  pub record KeepsEnd (kept : List ℕ) (key : ℕ) : Type 0 where
    pub d : ℕ
    pub member : is_member nat_eq kept d ≡ true
    pub x : Description numbers
    pub here : c.descriptions d ≡ Some x
    pub at : key_of x.node ≡ key

  first-end : (d : ℕ) (ds : List ℕ) (x : Description numbers) (key : ℕ) → c.descriptions d ≡ Some x → key_of x.node ≡ key → KeepsEnd (d ∷ ds) key
  first-end d ds x key here at = record { d = d; member = or_left (nat_eq d d) (is_member nat_eq ds d) (eq-eqb d d refl); x = x; here = here; at = at }

  further-end : (d : ℕ) (ds : List ℕ) (key : ℕ) → KeepsEnd ds key → KeepsEnd (d ∷ ds) key
  further-end d ds key h = record { d = h.d; member = or_right (nat_eq h.d d) (is_member nat_eq ds h.d) h.member; x = h.x; here = h.here; at = h.at }

  -- a call that is no poll, no splice and no tee waits in one queue, at what it keeps
  pub in-queue : (q : ℕ) (kept : List ℕ) (key queue : ℕ) → is_place (flat_map (place_in q) (ends c kept)) key queue ≡ true → KeepsEnd kept key × (q ≡ queue)
  in-queue q [] key queue h = absurd (cc)
  in-queue q (d ∷ ds) key queue h = by (λ r. in-queue q ds key queue r) (c.descriptions d) refl
      (or_elim (is_place (place_in q (option_map end_of (c.descriptions d))) key queue) (is_place (flat_map (place_in q) (ends c ds)) key queue) (λ f. inl f) (λ r. inr r)
      (sym (places-apart (place_in q (option_map end_of (c.descriptions d))) (flat_map (place_in q) (ends c ds)) key queue) ∙ h))
    where
      Rest : Type 0
      Rest = is_place (flat_map (place_in q) (ends c ds)) key queue ≡ true → KeepsEnd ds key × (q ≡ queue)

      by : Rest → (o : Option (Description numbers)) → c.descriptions d ≡ o →
          (is_place (place_in q (option_map end_of (c.descriptions d))) key queue ≡ true) ⊎ (is_place (flat_map (place_in q) (ends c ds)) key queue ≡ true) → KeepsEnd (d ∷ ds) key × (q ≡ queue)
      by rest o is (inr r) = (let i = rest r in (further-end d ds key i.0, i.1))
      by rest None is (inl f) = absurd (let no : false ≡ true = sym (ap (λ o. is_place (place_in q (option_map end_of o)) key queue) is) ∙ f in cc)
      by rest (Some x) is (inl f) = ⊎_elim (λ e. (first-end d ds x key is e.0, e.1)) (λ r. absurd (cc)) (first-or-rest (key_of x.node) q [] key queue (sym (ap (λ o. is_place (place_in q (option_map end_of o)) key queue) is) ∙ f))

  pub to-queue : (q : ℕ) (kept : List ℕ) (d : ℕ) (x : Description numbers) → is_member nat_eq kept d ≡ true → c.descriptions d ≡ Some x → is_place (flat_map (place_in q) (ends c kept)) (key_of x.node) q ≡ true
  to-queue q [] d x m here = absurd (cc)
  to-queue q (k ∷ ks) d x m here =
      places-apart (place_in q (option_map end_of (c.descriptions k))) (flat_map (place_in q) (ends c ks)) (key_of x.node) q
      ∙ or_elim (nat_eq d k) (is_member nat_eq ks d)
      (λ e. or_left _ _ (ap (λ o. is_place (place_in q (option_map end_of o)) (key_of x.node) q) (ap c.descriptions (sym (eqb-true d k e)) ∙ here) ∙ place-first (key_of x.node) q []))
      (λ r. or_right (is_place (place_in q (option_map end_of (c.descriptions k))) (key_of x.node) q) _ (to-queue q ks d x r here)) m

  -- A splice or a tee waits at the two nodes of what it keeps.
  pub record KeepsBoth (kept : List ℕ) : Type 0 where
    pub a : ℕ
    pub b : ℕ
    pub rest : List ℕ
    pub both : kept ≡ a ∷ b ∷ rest
    pub from : Description numbers
    pub to : Description numbers
    pub from_here : c.descriptions a ≡ Some from
    pub to_here : c.descriptions b ≡ Some to

  both-places : (kept : List ℕ) (h : KeepsBoth kept) → move_places (ends c kept) ≡ (key_of h.from.node, queue_at_source h.from.node h.to.node) ∷ (key_of h.to.node, queue_at_target h.from.node h.to.node) ∷ []
  both-places kept h = ap (λ ks. move_places (ends c ks)) h.both ∙ (λ i. move_places (option_map end_of (h.from_here i) ∷ option_map end_of (h.to_here i) ∷ ends c h.rest))

  pub record MovePlace (kept : List ℕ) (key queue : ℕ) : Type 0 where
    pub both : KeepsBoth kept
    pub at : ((key_of both.from.node ≡ key) × (queue_at_source both.from.node both.to.node ≡ queue)) ⊎ ((key_of both.to.node ≡ key) × (queue_at_target both.from.node both.to.node ≡ queue))

  pub in-move : (kept : List ℕ) (key queue : ℕ) → is_place (move_places (ends c kept)) key queue ≡ true → MovePlace kept key queue
  in-move [] key queue h = absurd (cc)
  in-move (a ∷ []) key queue h = by (c.descriptions a) (ap (λ o. is_place (move_places (option_map end_of o ∷ [])) key queue) refl ∙ h)
    where
      by : (o : Option (Description numbers)) → is_place (move_places (option_map end_of o ∷ [])) key queue ≡ true → MovePlace (a ∷ []) key queue
      by None h = absurd (cc)
      by (Some x) h = absurd (cc)
  in-move (a ∷ b ∷ rest) key queue h = by (c.descriptions a) refl (c.descriptions b) refl
    where
      shown : (o p : Option (Description numbers)) → c.descriptions a ≡ o → c.descriptions b ≡ p → is_place (move_places (option_map end_of o ∷ option_map end_of p ∷ ends c rest)) key queue ≡ true
      shown o p e f = (λ i. is_place (move_places (option_map end_of (sym e i) ∷ option_map end_of (sym f i) ∷ ends c rest)) key queue) ∙ h

      by : (o : Option (Description numbers)) → c.descriptions a ≡ o → (p : Option (Description numbers)) → c.descriptions b ≡ p → MovePlace (a ∷ b ∷ rest) key queue
      by None e p f = absurd (let no : false ≡ true = shown None p e f in cc)
      by (Some x) e None f = absurd (let no : false ≡ true = shown (Some x) None e f in cc)
      by (Some x) e (Some y) f = record {
        both = record { a = a; b = b; rest = rest; both = refl; from = x; to = y; from_here = e; to_here = f };
        at = ⊎_elim (λ s. inl s)
            (λ r. ⊎_elim (λ t. inr t) (λ n. absurd (cc)) (first-or-rest (key_of y.node) (queue_at_target x.node y.node) [] key queue r))
            (first-or-rest (key_of x.node) (queue_at_source x.node y.node) ((key_of y.node, queue_at_target x.node y.node) ∷ []) key queue (shown (Some x) (Some y) e f));
      }

  pub at-source : (kept : List ℕ) (h : KeepsBoth kept) → is_place (move_places (ends c kept)) (key_of h.from.node) (queue_at_source h.from.node h.to.node) ≡ true
  at-source kept h = ap (λ ps. is_place ps (key_of h.from.node) (queue_at_source h.from.node h.to.node)) (both-places kept h) ∙ place-first (key_of h.from.node) (queue_at_source h.from.node h.to.node) ((key_of h.to.node, queue_at_target h.from.node h.to.node) ∷ [])

  pub at-target : (kept : List ℕ) (h : KeepsBoth kept) → is_place (move_places (ends c kept)) (key_of h.to.node) (queue_at_target h.from.node h.to.node) ≡ true
  at-target kept h = ap (λ ps. is_place ps (key_of h.to.node) (queue_at_target h.from.node h.to.node)) (both-places kept h)
      ∙ place-next (key_of h.from.node) (queue_at_source h.from.node h.to.node) ((key_of h.to.node, queue_at_target h.from.node h.to.node) ∷ []) (key_of h.to.node) (queue_at_target h.from.node h.to.node) (place-first (key_of h.to.node) (queue_at_target h.from.node h.to.node) [])

  -- A poll waits where it asks something.
  pub record PollPlace (entries : List (ℤ × PollMask)) (kept : List ℕ) (key queue : ℕ) : Type 0 where
    pub end : KeepsEnd kept key
    pub asked : PollMask
    pub of : queue_of_entry end.x.node end.x.mode asked ≡ queue
    -- what is found there is found by the poll
    pub counts : is_found c (Some end.d, asked) ≡ true → list_any (is_found c) (asked_at entries kept) ≡ true

  pub in-poll : (entries : List (ℤ × PollMask)) (kept : List ℕ) (key queue : ℕ) → is_place (poll_places entries (ends c kept)) key queue ≡ true → PollPlace entries kept key queue
  unfolding first-end further-end
  in-poll [] kept key queue h = absurd (cc)
  in-poll ((negsuc n, asked) ∷ entries) kept key queue h = (let p = in-poll entries kept key queue h in record { end = p.end; asked = p.asked; of = p.of; counts = p.counts })
  in-poll ((pos fd, asked) ∷ entries) [] key queue h = absurd (cc)
  in-poll ((pos fd, asked) ∷ entries) (d ∷ ds) key queue h = by (λ r. in-poll entries ds key queue r) (c.descriptions d) refl
      (or_elim (is_place (entry_place asked (option_map end_of (c.descriptions d))) key queue) (is_place (poll_places entries (ends c ds)) key queue) (λ f. inl f) (λ r. inr r)
      (sym (places-apart (entry_place asked (option_map end_of (c.descriptions d))) (poll_places entries (ends c ds)) key queue) ∙ h))
    where
      by : (is_place (poll_places entries (ends c ds)) key queue ≡ true → PollPlace entries ds key queue) → (o : Option (Description numbers)) → c.descriptions d ≡ o →
          (is_place (entry_place asked (option_map end_of (c.descriptions d))) key queue ≡ true) ⊎ (is_place (poll_places entries (ends c ds)) key queue ≡ true) → PollPlace ((pos fd, asked) ∷ entries) (d ∷ ds) key queue
      by rest o is (inr r) = (let p = rest r in record {
        end = further-end d ds key p.end;
        asked = p.asked;
        of = p.of;
        counts = λ f. or_right (is_found c (Some d, asked)) (list_any (is_found c) (asked_at entries ds)) (p.counts f);
      })
      by rest None is (inl f) = absurd (let no : false ≡ true = sym (ap (λ o. is_place (entry_place asked (option_map end_of o)) key queue) is) ∙ f in cc)
      by rest (Some x) is (inl f) = ⊎_elim
          (λ e. record { end = first-end d ds x key is e.0; asked = asked; of = e.1; counts = λ g. or_left (is_found c (Some d, asked)) (list_any (is_found c) (asked_at entries ds)) g })
          (λ r. absurd (cc)) (first-or-rest (key_of x.node) (queue_of_entry x.node x.mode asked) [] key queue (sym (ap (λ o. is_place (entry_place asked (option_map end_of o)) key queue) is) ∙ f))

  -- Something that a poll finds, where it asks it.
  pub record FindsAt (entries : List (ℤ × PollMask)) (kept : List ℕ) : Type 0 where
    pub d : ℕ
    pub x : Description numbers
    pub here : c.descriptions d ≡ Some x
    pub asked : PollMask
    pub place : is_place (poll_places entries (ends c kept)) (key_of x.node) (queue_of_entry x.node x.mode asked) ≡ true
    pub found : is_found c (Some d, asked) ≡ true

  pub finds-at : (entries : List (ℤ × PollMask)) (kept : List ℕ) → ((d : ℕ) → is_member nat_eq kept d ≡ true → IsSome (c.descriptions d)) → are_kept entries (ends c kept) ≡ true →
      list_any (is_found c) (asked_at entries kept) ≡ true → FindsAt entries kept
  finds-at [] kept described all h = absurd (cc)
  finds-at ((negsuc n, asked) ∷ entries) kept described all h = (let p = finds-at entries kept described all h in record { d = p.d; x = p.x; here = p.here; asked = p.asked; place = p.place; found = p.found })
  finds-at ((pos fd, asked) ∷ entries) [] described all h = absurd (cc)
  finds-at ((pos fd, asked) ∷ entries) (d ∷ ds) described all h = or_elim (is_found c (Some d, asked)) (list_any (is_found c) (asked_at entries ds)) first
      (λ r. rest (finds-at entries ds (λ e m. described e (or_right (nat_eq e d) (is_member nat_eq ds e) m)) all r)) h
    where
      apart : (key queue : ℕ) → is_place (poll_places ((pos fd, asked) ∷ entries) (ends c (d ∷ ds))) key queue ≡ (is_place (entry_place asked (option_map end_of (c.descriptions d))) key queue || is_place (poll_places entries (ends c ds)) key queue)
      apart key queue = places-apart (entry_place asked (option_map end_of (c.descriptions d))) (poll_places entries (ends c ds)) key queue

      first : is_found c (Some d, asked) ≡ true → FindsAt ((pos fd, asked) ∷ entries) (d ∷ ds)
      first f = by (c.descriptions d) refl (described d (or_left (nat_eq d d) (is_member nat_eq ds d) (eq-eqb d d refl)))
        where
          by : (o : Option (Description numbers)) → c.descriptions d ≡ o → IsSome (c.descriptions d) → FindsAt ((pos fd, asked) ∷ entries) (d ∷ ds)
          by None is some = absurd (let none : IsSome {T = Description numbers} None = subst (λ o. IsSome o) is some in cc)
          by (Some x) is some = (let q = queue_of_entry x.node x.mode asked in record {
            d = d;
            x = x;
            here = is;
            asked = asked;
            place = apart (key_of x.node) q ∙ or_left _ _ (ap (λ o. is_place (entry_place asked (option_map end_of o)) (key_of x.node) q) is ∙ place-first (key_of x.node) q []);
            found = f;
          })

      rest : FindsAt entries ds → FindsAt ((pos fd, asked) ∷ entries) (d ∷ ds)
      rest p = (let q = queue_of_entry p.x.node p.x.mode p.asked in record {
        d = p.d;
        x = p.x;
        here = p.here;
        asked = p.asked;
        place = apart (key_of p.x.node) q ∙ or_right (is_place (entry_place asked (option_map end_of (c.descriptions d))) (key_of p.x.node) q) _ p.place;
        found = p.found;
      })

  -- What is found of an entry is found by its queue, of the node.
  any-bit : (r w a h b n : Bool) → not (bit_or (bits_if r (bit_or (bits_if a 1) (bits_if h 16))) (bits_if w (bit_or (bits_if b 4) (bits_if n 8))) == 0) ≡ ((r && (a || h)) || (w && (b || n)))
  any-bit false false a h b n = refl
  any-bit true false true true b n = refl
  any-bit true false true false b n = refl
  any-bit true false false true b n = refl
  any-bit true false false false b n = refl
  any-bit false true a h true true = refl
  any-bit false true a h true false = refl
  any-bit false true a h false true = refl
  any-bit false true a h false false = refl
  any-bit true true true true true true = refl
  any-bit true true true true true false = refl
  any-bit true true true true false true = refl
  any-bit true true true true false false = refl
  any-bit true true true false true true = refl
  any-bit true true true false true false = refl
  any-bit true true true false false true = refl
  any-bit true true true false false false = refl
  any-bit true true false true true true = refl
  any-bit true true false true true false = refl
  any-bit true true false true false true = refl
  any-bit true true false true false false = refl
  any-bit true true false false true true = refl
  any-bit true true false false true false = refl
  any-bit true true false false false true = refl
  any-bit true true false false false false = refl

  pub ready-by-end : (p : ℕ) (mode : Mode) (asked : PollMask) →
      is_ready (mask_of (Polled.Pipe mode (length (pipe_at c p).bytes) (room (pipe_at c p)) (nat_lt 0 (readers c p)) (pipe_at c p).hung) asked) ≡ is_end_ready c p mode (has asked.0 poll_in) (has asked.0 poll_out)
  ready-by-end p mode asked = (let pipe = pipe_at c p in
      any-bit (reads mode) (writes mode) (has asked.0 poll_in && nat_lt 0 (length pipe.bytes)) pipe.hung (has asked.0 poll_out && nat_le pipe_buf (room pipe)) (not (nat_lt 0 (readers c p))))

  by-end : (p : ℕ) (mode : Mode) (i o : Bool) → is_end_ready c p mode i o ≡ finds c p (polls + (kind_of mode + (bits_if i 1 + bits_if o 2)))
  by-end p Mode.Read true true = refl
  by-end p Mode.Read true false = refl
  by-end p Mode.Read false true = refl
  by-end p Mode.Read false false = refl
  by-end p Mode.Write true true = refl
  by-end p Mode.Write true false = refl
  by-end p Mode.Write false true = refl
  by-end p Mode.Write false false = refl
  by-end p Mode.Both true true = refl
  by-end p Mode.Both true false = refl
  by-end p Mode.Both false true = refl
  by-end p Mode.Both false false = refl

  by-file : (f : ℕ) (b : Bool) → b ≡ finds c f (polls + bits_if b 1)
  by-file f true = refl
  by-file f false = refl

  pub found-is : (d : ℕ) (x : Description numbers) (asked : PollMask) → c.descriptions d ≡ Some x → is_found c (Some d, asked) ≡ finds c (key_of x.node) (queue_of_entry x.node x.mode asked)
  found-is d x asked here = ap (λ o. is_ready (mask_at c (option_map (λ y. record { key = d; description = y }) o) asked)) here ∙ on x.node refl
    where
      on : (node : Node numbers) → x.node ≡ node → is_ready (mask_of (polled c x x.node) asked) ≡ finds c (key_of x.node) (queue_of_entry x.node x.mode asked)
      on (PipeNode p) is =
          ap (λ n. is_ready (mask_of (polled c x n) asked)) is ∙ ready-by-end p x.mode asked ∙ by-end p x.mode (has asked.0 poll_in) (has asked.0 poll_out)
          ∙ ap (λ n. finds c (key_of n) (queue_of_entry n x.mode asked)) (sym is)
      on (FileNode f) is =
          ap (λ n. is_ready (mask_of (polled c x n) asked)) is ∙ by-file f (is_ready (mask_of Polled.File asked)) ∙ ap (λ n. finds c (key_of n) (queue_of_entry n x.mode asked)) (sym is)
