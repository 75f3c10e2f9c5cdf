-- What a poll comes to, as it begins and as it is tried again.
use Rattle.std.proofs.Common.{◌≡◌, ℕ, ℤ, pos, negsuc, ◌≤◌, Bool, true, false, cond, Option, List, [], ◌∷◌, length, nat_eq, refl, sym, ◌∙◌, ap, subst, arith}
use Rattle.std.specs.Prelude.{◌||◌, not, nat_lt, map, option_map, option_and_then, is_none, All, IsSome, ◌&&◌}
use Rattle.std.specs.List.{list_any, Contains}
use Rattle.std.specs.declared.option.Option.TheVariants.{None, Some}
use Rattle.std.proofs.lemmas.Bool.{ltb-false}
use Rattle.std.proofs.lemmas.List.Elements.{All-cons, All-nil, All-weaker, Contains-append_right}
use Rattle.pl_model.specs.declared.calls.Call.{Call}
use Rattle.pl_model.specs.declared.calls.Step.TheVariants.{Begin, Resume}
use Rattle.pl_model.specs.declared.flags.PollMask.{PollMask}
use Rattle.pl_model.specs.declared.replies.Reply.TheVariants.{Fault, NoProcess}
use Rattle.pl_model.specs.declared.replies.Errno.TheVariants.{EINVAL}
use Rattle.pl_model.specs.Numbers.{most_descriptors}
use Rattle.pl_model.specs.Tables.{entry_limit}
use Rattle.pl_model.specs.Flags.{no_mask}
use Rattle.pl_model.specs.Map.{get}
use Rattle.pl_model.specs.Keys.{Keys, Plain, drawing_map}
use Rattle.pl_model.specs.State.{Core, Description, Open, Waiting, described, row, can_wait}
use Rattle.pl_model.specs.Trial.{Done, Wait, still, flowed, Begun, Begins, Refused, Answered, Tried, answered, tried, refuse_if}
use Rattle.pl_model.specs.Poll.{masks, mask_at, is_ready, masks_reply, try_poll}
use Rattle.pl_model.specs.Begin.{open_fd, named_by, keys_of, is_negative, begin_poll}
use Rattle.pl_model.specs.Step.{try, begin, begun, happen, core_step, ended, first_tried, resumed, tried_again, stepped, waiting}

module _ {A : Type 0} {K : Keys} (s : Core A K) where
  -- what was found under a key is what the key has
  described-itself : (d : K.Description) (o : Open K) → described s d ≡ Some o → described s o.key ≡ Some o
  described-itself d o h = at (s.descriptions d) refl h where
    at : (x : Option (Description K)) → s.descriptions d ≡ x → option_map (λ x. record { key = d; description = x }) x ≡ Some o → described s o.key ≡ Some o
    at None e h = absurd (cc)
    at (Some x) e h =
        let same : record { key = d; description = x } ≡ o = cc in
        subst (λ (z : Open K). described s z.key ≡ Some z) same (ap (option_map (λ x. record { key = d; description = x })) e)

  module _ (pid : ℕ) where
    pub open-described : (fd : ℤ) (o : Open K) → open_fd s pid fd ≡ Some o → described s o.key ≡ Some o
    open-described fd o h = at (row s pid fd) h where
      at : (d : Option K.Description) → option_and_then (described s) d ≡ Some o → described s o.key ≡ Some o
      at None h = absurd (cc)
      at (Some d) h = described-itself d o h

    -- what is found of one entry as the poll begins
    abbrev pub entry_mask : ℤ × PollMask → PollMask
    entry_mask e = cond (is_negative e.0) no_mask (mask_at s (open_fd s pid e.0) e.1)

    -- and of all of them
    abbrev pub found_now : List (ℤ × PollMask) → List PollMask
    found_now entries = masks s entries (named_by s pid entries)

    abbrev pub kept_now : List (ℤ × PollMask) → List K.Description
    kept_now entries = keys_of (named_by s pid entries)

    -- each entry is looked at alone
    pub each-found : (entries : List (ℤ × PollMask)) → found_now entries ≡ map entry_mask entries
    each-found [] = refl
    each-found ((negsuc n, asked) ∷ entries) = ap (λ ms. no_mask ∷ ms) (each-found entries)
    each-found ((pos n, asked) ∷ entries) = ap (λ ms. mask_at s (open_fd s pid (pos n)) asked ∷ ms) (each-found entries)

    -- no more descriptions are kept than there are entries
    pub few-kept : (entries : List (ℤ × PollMask)) → length (kept_now entries) ≤ length entries
    few-kept [] = omega arith
    few-kept ((negsuc n, asked) ∷ entries) = omega (arith, few-kept entries)
    few-kept ((pos n, asked) ∷ entries) = at (open_fd s pid (pos n)) (few-kept entries) where
      at : (o : Option (Open K)) → length (kept_now entries) ≤ length entries → length (keys_of (o ∷ named_by s pid entries)) ≤ length ((pos n, asked) ∷ entries)
      at None few = omega (arith, few)
      at (Some o) few = omega (arith, few)

    pub most-kept : (entries : List (ℤ × PollMask)) → nat_lt (entry_limit s.limits) (length entries) ≡ false → length (kept_now entries) ≤ most_descriptors
    most-kept entries few = omega (arith, few-kept entries, ltb-false (entry_limit s.limits) (length entries) few)

    -- what is kept is described
    pub kept-described : (entries : List (ℤ × PollMask)) → All (λ d. IsSome (described s d)) (kept_now entries)
    kept-described [] = All-nil (λ d. IsSome (described s d))
    kept-described ((negsuc n, asked) ∷ entries) = kept-described entries
    kept-described ((pos n, asked) ∷ entries) = at (open_fd s pid (pos n)) refl (kept-described entries) where
      at : (o : Option (Open K)) → open_fd s pid (pos n) ≡ o → All (λ d. IsSome (described s d)) (kept_now entries) → All (λ d. IsSome (described s d)) (keys_of (o ∷ named_by s pid entries))
      at None e rest = rest
      at (Some o) e rest = All-cons (λ d. IsSome (described s d)) o.key (kept_now entries) (subst (λ z. IsSome z) (sym (open-described (pos n) o e)) refl) rest

    -- Where each descriptor that isn't negative is open, what is kept is what these name.
    pub kept-same : (entries : List (ℤ × PollMask)) → list_any is_none (named_by s pid entries) ≡ false → map (described s) (kept_now entries) ≡ named_by s pid entries
    kept-same [] h = refl
    kept-same ((negsuc n, asked) ∷ entries) h = kept-same entries h
    kept-same ((pos n, asked) ∷ entries) h = at (open_fd s pid (pos n)) refl h (kept-same entries) where
      at : (o : Option (Open K)) → open_fd s pid (pos n) ≡ o → list_any is_none (o ∷ named_by s pid entries) ≡ false →
          (list_any is_none (named_by s pid entries) ≡ false → map (described s) (kept_now entries) ≡ named_by s pid entries) → map (described s) (keys_of (o ∷ named_by s pid entries)) ≡ o ∷ named_by s pid entries
      at None e h rest = absurd (cc)
      at (Some o) e h rest = λ i. open-described (pos n) o e i ∷ rest h i

    -- An entry whose descriptor isn't open has a mask that isn't empty. So where nothing is found of the first, it is open,
    first-open : (o : Option (Open K)) (asked : PollMask) (ms : List PollMask) → list_any is_ready (mask_at s o asked ∷ ms) ≡ false → IsSome o × (list_any is_ready ms ≡ false)
    first-open None asked ms h = absurd (cc)
    first-open (Some o) asked ms h = (refl, later (is_ready (mask_at s (Some o) asked)) h) where
      later : (b : Bool) → (b || list_any is_ready ms) ≡ false → list_any is_ready ms ≡ false
      later true h = absurd (cc)
      later false h = h

    open-first : (o : Option (Open K)) (os : List (Option (Open K))) → IsSome o → list_any is_none os ≡ false → list_any is_none (o ∷ os) ≡ false
    open-first None os i h = absurd (cc)
    open-first (Some o) os i h = h

    -- and where nothing is found of any, all are open that aren't negative.
    pub all-named : (entries : List (ℤ × PollMask)) → list_any is_ready (found_now entries) ≡ false → list_any is_none (named_by s pid entries) ≡ false
    all-named [] h = refl
    all-named ((negsuc n, asked) ∷ entries) h = all-named entries h
    all-named ((pos n, asked) ∷ entries) h =
        let first = first-open (open_fd s pid (pos n)) asked (found_now entries) h in
        open-first (open_fd s pid (pos n)) (named_by s pid entries) first.0 (all-named entries first.1)

    -- the descriptor of the entry is negative, or open, and then these descriptions have what it names
    abbrev pub IsKeptIn : List K.Description → ℤ × PollMask → Type 0
    IsKeptIn kept e = is_negative e.0 ≡ false → (o : Open K) × (open_fd s pid e.0 ≡ Some o) × Contains kept o.key

    kept-later : (key : K.Description) (kept : List K.Description) (e : ℤ × PollMask) → IsKeptIn kept e → IsKeptIn (key ∷ kept) e
    kept-later key kept e is natural = ((is natural).0, (is natural).1, Contains-append_right (key ∷ []) kept (is natural).0.key (is natural).2)

    kept-first : (key : K.Description) (kept : List K.Description) → Contains (key ∷ kept) key
    kept-first key kept = (0, omega arith, refl)

    -- So a poll that waits keeps all that its descriptors name.
    pub all-kept : (entries : List (ℤ × PollMask)) → list_any is_ready (found_now entries) ≡ false → All (IsKeptIn (kept_now entries)) entries
    all-kept [] h = All-nil (IsKeptIn [])
    all-kept ((negsuc n, asked) ∷ entries) h = All-cons (IsKeptIn (kept_now entries)) (negsuc n, asked) entries (λ no. absurd (cc)) (all-kept entries h)
    all-kept ((pos n, asked) ∷ entries) h = at (open_fd s pid (pos n)) refl (first-open (open_fd s pid (pos n)) asked (found_now entries) h).0 (all-kept entries (first-open (open_fd s pid (pos n)) asked (found_now entries) h).1) where
      at : (o : Option (Open K)) → open_fd s pid (pos n) ≡ o → IsSome o → All (IsKeptIn (kept_now entries)) entries → All (IsKeptIn (keys_of (o ∷ named_by s pid entries))) ((pos n, asked) ∷ entries)
      at None e i rest = absurd (cc)
      at (Some o) e i rest =
          let kept = o.key ∷ kept_now entries in
          All-cons (IsKeptIn kept) (pos n, asked) entries (λ no. (o, e, kept-first o.key (kept_now entries)))
          (All-weaker (IsKeptIn (kept_now entries)) (IsKeptIn kept) (kept-later o.key (kept_now entries)) entries rest)

-- a poll that begins
module _ {A : Type 0} {K : Keys} (s : Core A K) (pid : ℕ) (entries : List (ℤ × PollMask)) (wait : Bool) (process : s.processes pid ≡ true) where
  abbrev call : Call A
  call = Call.Poll entries wait

  abbrev found : List PollMask
  found = found_now s pid entries

  abbrev w : Waiting A K
  w = waiting pid call (kept_now s pid entries) false

  abbrev checked : Begins A K
  checked = cond (list_any is_none (named_by s pid entries)) (answered s (masks_reply found)) (tried s (kept_now s pid entries) false wait)

  leads : (b : Begun A K) → begin s pid call ≡ Plain b → core_step s (Begin pid call) ≡ Plain (ended s (begun s pid call b))
  unfolding core_step happen
  leads b e =
      ap (λ z. drawing_map (ended s) (cond z (drawing_map (begun s pid call) (begin s pid call)) (Plain (stepped s NoProcess)))) process
      ∙ ap (λ z. drawing_map (ended s) (drawing_map (begun s pid call) z)) e

  begins : (over : Bool) → nat_lt (entry_limit s.limits) (length entries) ≡ over → begin s pid call ≡ refuse_if over EINVAL checked
  unfolding begin begin_poll
  begins over e = ap (λ z. refuse_if z EINVAL checked) e

  -- more entries than a poll may have
  pub poll-refused : nat_lt (entry_limit s.limits) (length entries) ≡ true → core_step s (Begin pid call) ≡ Plain (ended s (stepped s (Fault EINVAL)))
  poll-refused over = leads (Refused EINVAL) (begins true over)

  module _ (few : nat_lt (entry_limit s.limits) (length entries) ≡ false) where
    tries : list_any is_none (named_by s pid entries) ≡ false → (b : Bool) → (list_any is_ready found || not wait) ≡ b → try s w call wait ≡ cond b (Done s still (masks_reply found)) (Wait s still 0)
    unfolding try try_poll
    tries named b e =
        ap (λ os. let ms = masks s entries os in cond (list_any is_ready ms || not wait) (Done s still (masks_reply ms)) (Wait s still 0)) (kept-same s pid entries named)
        ∙ ap (λ z. cond z (Done s still (masks_reply found)) (Wait s still 0)) e

    -- each descriptor that isn't negative is open, so the poll is tried
    pub poll-tried : list_any is_none (named_by s pid entries) ≡ false → (b : Bool) → (list_any is_ready found || not wait) ≡ b →
        core_step s (Begin pid call) ≡ Plain (ended s (first_tried s w (wait && can_wait s pid) (cond b (Done s still (masks_reply found)) (Wait s still 0))))
    poll-tried named b e =
        leads (Tried s (kept_now s pid entries) false wait) (begins false few ∙ ap (λ z. cond z (answered s (masks_reply found)) (tried s (kept_now s pid entries) false wait)) named)
        ∙ ap (λ t. Plain (ended s (first_tried s w (wait && can_wait s pid) t))) (tries named b e)

    -- something is found, or the poll may not wait
    pub poll-answered : (list_any is_ready found || not wait) ≡ true → core_step s (Begin pid call) ≡ Plain (ended s (stepped s (masks_reply found)))
    unfolding flowed
    poll-answered some = at (list_any is_none (named_by s pid entries)) refl where
      at : (b : Bool) → list_any is_none (named_by s pid entries) ≡ b → core_step s (Begin pid call) ≡ Plain (ended s (stepped s (masks_reply found)))
      at true e = leads (Answered s (masks_reply found)) (begins false few ∙ ap (λ z. cond z (answered s (masks_reply found)) (tried s (kept_now s pid entries) false wait)) e)
      at false e = poll-tried e true some

  -- nothing is found, and the poll may wait
  pub poll-waits : nat_lt (entry_limit s.limits) (length entries) ≡ false → list_any is_ready found ≡ false → wait ≡ true → core_step s (Begin pid call) ≡ Plain (ended s (first_tried s w (can_wait s pid) (Wait s still 0)))
  poll-waits few none may =
      poll-tried few (all-named s pid entries none) false (λ i. none i || not (may i))
      ∙ ap (λ z. Plain (ended s (first_tried s w (z && can_wait s pid) (Wait s still 0)))) may

-- a poll that is tried again
module _ {A : Type 0} {K : Keys} (s : Core A K) (c : ℕ) (w : Waiting A K) (entries : List (ℤ × PollMask)) (wait : Bool) (here : get nat_eq s.parked c ≡ Some w) (is : w.call ≡ Call.Poll entries wait) where
  abbrev pub found_again : List PollMask
  found_again = masks s entries (map (described s) w.kept)

  again : (b : Bool) → list_any is_ready found_again ≡ b → core_step s (Resume c) ≡ Plain (ended s (tried_again c w (cond b (Done s still (masks_reply found_again)) (Wait s still 0))))
  unfolding core_step happen try try_poll
  again b e =
      ap (λ o. Plain (ended s (resumed s c o))) here
      ∙ ap (λ z. Plain (ended s (tried_again c w (try s w z true)))) is
      ∙ ap (λ z. Plain (ended s (tried_again c w (cond (z || false) (Done s still (masks_reply found_again)) (Wait s still 0))))) e
      ∙ ap (λ z. Plain (ended s (tried_again c w (cond z (Done s still (masks_reply found_again)) (Wait s still 0))))) (or-false b)
    where
      or-false : (b : Bool) → (b || false) ≡ b
      or-false true = refl
      or-false false = refl

  pub again-found : list_any is_ready found_again ≡ true → core_step s (Resume c) ≡ Plain (ended s (tried_again c w (Done s still (masks_reply found_again))))
  again-found some = again true some

  pub again-waits : list_any is_ready found_again ≡ false → core_step s (Resume c) ≡ Plain (ended s (tried_again c w (Wait s still 0)))
  again-waits none = again false none
