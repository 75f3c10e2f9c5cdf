-- The slots of two pipes become others, and with them the store: bytes go from the one to the other, or they exchange all that they have.
use Rattle.std.proofs.Common.{◌≡◌, ◌≢◌, ◌≤◌, ◌<◌, ℕ, ◌+◌, ◌⊎◌, Bool, true, false, List, [], ◌++◌, Option, Some, None, refl, sym, ◌∙◌, ap, subst, inl, inr, length, map, set, slice_set, nat_eq, arith}
use Rattle.std.proofs.lemmas.Bool.Decides.{eqb_tells}
use Rattle.std.proofs.lemmas.List.{get_or-set_same, get_or-set_other, length-map, length-set}
use Rattle.std.proofs.Math.Path.{fun_ext}
use Rattle.std.specs.Prelude.{is_some, ◌&&◌, option_map}
use Rattle.pl_model.specs.Map.{change_at}
use Rattle.pl_model.specs.State.{Pipe as PipeState}
use Rattle.std.specs.declared.vec.Vec.{Vec}
use Rattle.pl_model.specs.declared.node.Node.{Node}
use Rattle.pl_model.specs.declared.node.Node.TheVariants as node
use Rattle.pl_model.specs.Nodes.{key_of}
use Rattle.pl_model.specs.Numbers.{most_file_bytes}
use Rattle.pl_segments.specs.declared.slice.Slice.{Slice}
use Rattle.pl_segments.specs.Segments.{Map, Segments, at, segment_at}
use Rattle.pl_segments.specs.Slices.{AllLie, all_read, naming}
use Rattle.pl_segments.specs.Turns.{Turns}
use Rattle.pl_segments.specs.Sharing.{named, slots_at, AreShared}
use Rattle.pl_segments.proofs.Changing.{begins-same}
use Rattle.pl_segments.proofs.Turning.{naming-append, lie-append, lie-left, lie-right}
use Rattle.pl_segments.proofs.Shared.{named-set, shared-turned, others-same}
use Rattle.pl_nodes.specs.declared.content.PipeNode.{PipeNode}
use Rattle.pl_nodes.specs.declared.content.Content.{Content}
use Rattle.pl_nodes.specs.declared.content.Content.TheVariants.{Pipe}
use Rattle.pl_nodes.specs.declared.nodes.Nodes.TheInside.{Inside}
use Rattle.pl_nodes.specs.declared.queue.Queue.{Queue}
use Rattle.pl_nodes.specs.Nodes.{Nodes, SameFiles}
use Rattle.pl_nodes.specs.NodesView.{one_if, pipe_of, pipe_in, file_in, slots_in, lists, pipe_named, file_named, named_packet, named_as, AreNamed, view_of, IsSound}
use Rattle.pl_nodes.specs.Queue.{slots_of, packets_of}
use Rattle.pl_nodes.specs.Contents.{as_pipe}
use Rattle.pl_nodes.proofs.AtKey.{pipe-there}
use Rattle.pl_nodes.proofs.Keyed.{within, same-list, is_change_at, at-other, change-here}
use Rattle.pl_nodes.proofs.Lists.{lists-at, lists-length, same-named}
use Rattle.pl_nodes.proofs.OneChanged.{pipes_seen, files_seen, seen, seen-at, same-pipe, same-file}

-- a test of two numbers
abbrev Tells : ℕ → ℕ → Type 0
Tells a b = ((nat_eq a b ≡ true) × (a ≡ b)) ⊎ ((nat_eq a b ≡ false) × (a ≢ b))

-- What stands under two keys was set, and nothing else.
pub record AreSet {V : Type 0} (before after : List (Option V)) (from to : ℕ) (one two : V) : Type 0 where
  pub first : at after from ≡ Some one
  pub second : at after to ≡ Some two
  pub others : (j : ℕ) → j ≢ from → j ≢ to → at after j ≡ at before j
  pub long : length after ≡ length before

module _ {V : Type 0} (before : List (Option V)) (from to : ℕ) (apart : from ≢ to) (x y one two : V) (was_from : at before from ≡ Some x) (was_to : at before to ≡ Some y) where
  abbrev once_set : List (Option V)
  once_set = slice_set before from (Some one)

  pub both-set : AreSet before (slice_set (slice_set before from (Some one)) to (Some two)) from to one two
  both-set =
      let l = within before to y was_to in
      let n = length-set before from (Some one) in
      record {
        first = get_or-set_other once_set to from (Some two) None apart ∙ get_or-set_same before from (Some one) None (within before from x was_from);
        second = get_or-set_same once_set to (Some two) None (omega (arith, l, n));
        others = λ j d e. get_or-set_other once_set to j (Some two) None e ∙ get_or-set_other before from j (Some one) None d;
        long = length-set once_set to (Some two) ∙ n;
      }

-- the first one once more
pub set-again : {V : Type 0} (before after : List (Option V)) (from to : ℕ) → from ≢ to → (one two three : V) → AreSet before after from to one two → AreSet before (slice_set after from (Some three)) from to three two
set-again before after from to apart one two three is = record {
  first = get_or-set_same after from (Some three) None (within after from one is.first);
  second = get_or-set_other after from to (Some three) None (λ e. apart (sym e)) ∙ is.second;
  others = λ j d e. get_or-set_other after from j (Some three) None d ∙ is.others j d e;
  long = length-set after from (Some three) ∙ is.long;
}

-- slots that two exchange
pub exchange-turns : (m : Map) (ts ss q p : List Slice) → q ≡ ss → p ≡ ts → AllLie m ts → AllLie m ss → Turns m (ts ++ ss) m (q ++ p)
exchange-turns m ts ss q p got gave lie_t lie_s = subst (λ zs. Turns m (ts ++ ss) m (zs ++ p)) (sym got) (subst (λ zs. Turns m (ts ++ ss) m (ss ++ zs)) (sym gave) (record {
  counted = λ key. let a = naming-append ts ss key in let b = naming-append ss ts key in omega (arith, a, b);
  kept = λ key l. begins-same _ _ refl;
  lie = lie-append m ss ts lie_s lie_t;
}))

module _ {A : Type 0} (before after : List (Option (Content A))) (from to : ℕ) (apart : from ≢ to) (s t : PipeNode A) (p q : Queue A)
    (was_from : at before from ≡ Some (Pipe s)) (was_to : at before to ≡ Some (Pipe t)) (set_both : AreSet before after from to (Pipe (record s { queue = p })) (Pipe (record t { queue = q }))) where
  -- what holds of both and of the others holds under each key
  pub each : (P : (old new : Option (Content A)) → Type 0) → P (Some (Pipe s)) (Some (Pipe (record s { queue = p }))) → P (Some (Pipe t)) (Some (Pipe (record t { queue = q })))
      → ((j : ℕ) → j ≢ from → j ≢ to → P (at before j) (at before j)) → (j : ℕ) → P (at before j) (at after j)
  each P first second rest j = by (eqb_tells j from) (eqb_tells j to)
    where
      at_from : P (at before from) (at after from)
      at_from = subst (λ o. P o (at after from)) (sym was_from) (subst (P (Some (Pipe s))) (sym set_both.first) first)

      at_to : P (at before to) (at after to)
      at_to = subst (λ o. P o (at after to)) (sym was_to) (subst (P (Some (Pipe t))) (sym set_both.second) second)

      by : Tells j from → Tells j to → P (at before j) (at after j)
      by (inl e) other = subst (λ i. P (at before i) (at after i)) (sym e.1) at_from
      by (inr e) (inl f) = subst (λ i. P (at before i) (at after i)) (sym f.1) at_to
      by (inr e) (inr f) = subst (P (at before j)) (sym (set_both.others j e.1 f.1)) (rest j e.1 f.1)

  -- the slots under each key
  slots-from : slots_at (lists after) from ≡ slots_of p
  slots-from = lists-at after from ∙ ap slots_in set_both.first

  pub slots-to : slots_at (lists after) to ≡ slots_of q
  slots-to = lists-at after to ∙ ap slots_in set_both.second

  old-from : slots_at (lists before) from ≡ slots_of s.queue
  old-from = lists-at before from ∙ ap slots_in was_from

  old-to : slots_at (lists before) to ≡ slots_of t.queue
  old-to = lists-at before to ∙ ap slots_in was_to

  slots-other : (j : ℕ) → j ≢ from → j ≢ to → slots_at (lists after) j ≡ slots_at (lists before) j
  slots-other j d e = lists-at after j ∙ ap slots_in (set_both.others j d e) ∙ sym (lists-at before j)

  within-from : from < length (lists before)
  within-from = (let l = within before from (Pipe s) was_from in let e = lists-length before in omega (arith, l, e))

  within-to : to < length (lists before)
  within-to = (let l = within before to (Pipe t) was_to in let e = lists-length before in omega (arith, l, e))

  -- what holds of the slots of both and of the others
  each_slots : (P : ℕ → List Slice → Type 0) → P from (slots_of p) → P to (slots_of q) → ((j : ℕ) → j ≢ from → j ≢ to → P j (slots_at (lists before) j)) → (j : ℕ) → P j (slots_at (lists after) j)
  each_slots P first second rest j = by (eqb_tells j from) (eqb_tells j to)
    where
      by : Tells j from → Tells j to → P j (slots_at (lists after) j)
      by (inl e) other = subst (λ i. P i (slots_at (lists after) i)) (sym e.1) (subst (P from) (sym slots-from) first)
      by (inr e) (inl f) = subst (λ i. P i (slots_at (lists after) i)) (sym f.1) (subst (P to) (sym slots-to) second)
      by (inr e) (inr f) = subst (P j) (sym (slots-other j e.1 f.1)) (rest j e.1 f.1)

  -- two lists of slots, of which the second is set to these and the first to those
  abbrev with_two : List (List Slice) → (ys xs : List Slice) → List (List Slice)
  with_two all ys xs = set (set all to ys) from xs

  module _ (all : List (List Slice)) (ys xs : List Slice) (long : length all ≡ length (lists before)) where
    in_to : to < length all
    in_to = let l = within-to in omega (arith, l, long)

    in_from : from < length (set all to ys)
    in_from = let l = within-from in let n = length-set all to ys in omega (arith, l, long, n)

    two-to : slots_at (with_two all ys xs) to ≡ ys
    two-to = get_or-set_other (set all to ys) from to xs [] (λ e. apart (sym e)) ∙ get_or-set_same all to ys [] in_to

    two-from : slots_at (with_two all ys xs) from ≡ xs
    two-from = get_or-set_same (set all to ys) from xs [] in_from

    two-other : (j : ℕ) → j ≢ from → j ≢ to → slots_at (with_two all ys xs) j ≡ slots_at all j
    two-other j d e = get_or-set_other (set all to ys) from j xs [] d ∙ get_or-set_other all to j ys [] e

    two-named : (key : ℕ) → named (with_two all ys xs) key + naming (slots_at all to) key + naming (slots_at all from) key ≡ named all key + naming ys key + naming xs key
    two-named key =
        let one = named-set all to ys key in_to in
        let two = named-set (set all to ys) from xs key in_from in
        let e : naming (slots_at (set all to ys) from) key ≡ naming (slots_at all from) key = ap (λ zs. naming zs key) (get_or-set_other all to from ys [] apart) in
        omega (arith, one, two, e)

    two-long : length (with_two all ys xs) ≡ length (lists before)
    two-long = length-set (set all to ys) from xs ∙ length-set all to ys ∙ long

  module _ (m n : Map) (shared : AreShared m (lists before)) (turned : Turns m (slots_of t.queue ++ slots_of s.queue) n (slots_of q ++ slots_of p)) where
    -- all slots of both as those of the second, before and after
    abbrev joined : List (List Slice)
    joined = with_two (lists before) (slots_of t.queue ++ slots_of s.queue) []

    joined-to : slots_at joined to ≡ slots_of t.queue ++ slots_of s.queue
    joined-to = two-to (lists before) (slots_of t.queue ++ slots_of s.queue) [] refl

    joined-shared : AreShared m joined
    joined-shared = record {
      counted = λ key.
          let a = two-named (lists before) (slots_of t.queue ++ slots_of s.queue) [] refl key in
          let b = shared.counted key in
          let c = naming-append (slots_of t.queue) (slots_of s.queue) key in
          let d : naming (slots_at (lists before) to) key ≡ naming (slots_of t.queue) key = ap (λ zs. naming zs key) old-to in
          let e : naming (slots_at (lists before) from) key ≡ naming (slots_of s.queue) key = ap (λ zs. naming zs key) old-from in
          omega (arith, a, b, c, d, e);
      lie = λ j. lie_at j (eqb_tells j from) (eqb_tells j to);
    }
      where
        lie_at : (j : ℕ) → Tells j from → Tells j to → AllLie m (slots_at joined j)
        lie_at j (inl e) other = subst (λ i. AllLie m (slots_at joined i)) (sym e.1) (subst (AllLie m) (sym (two-from (lists before) (slots_of t.queue ++ slots_of s.queue) [] refl)) tt)
        lie_at j (inr e) (inl f) =
            subst (λ i. AllLie m (slots_at joined i)) (sym f.1)
            (subst (AllLie m) (sym joined-to) (lie-append m (slots_of t.queue) (slots_of s.queue) (subst (AllLie m) old-to (shared.lie to)) (subst (AllLie m) old-from (shared.lie from))))
        lie_at j (inr e) (inr f) = subst (AllLie m) (sym (two-other (lists before) (slots_of t.queue ++ slots_of s.queue) [] refl j e.1 f.1)) (shared.lie j)

    joined-turned : Turns m (slots_at joined to) n (slots_of q ++ slots_of p)
    joined-turned = subst (λ zs. Turns m zs n (slots_of q ++ slots_of p)) (sym joined-to) turned

    in_joined : to < length joined
    in_joined = let l = within-to in let e = two-long (lists before) (slots_of t.queue ++ slots_of s.queue) [] refl in omega (arith, l, e)

    joined-long : length (set joined to (slots_of q ++ slots_of p)) ≡ length (lists before)
    joined-long = length-set joined to (slots_of q ++ slots_of p) ∙ two-long (lists before) (slots_of t.queue ++ slots_of s.queue) [] refl

    joined-after : AreShared n (set joined to (slots_of q ++ slots_of p))
    joined-after = shared-turned m n joined to (slots_of q ++ slots_of p) in_joined joined-shared joined-turned

    -- all others read what they read
    pub others-read : (j : ℕ) → j ≢ from → j ≢ to → all_read n (slots_in (at before j)) ≡ all_read m (slots_in (at before j))
    others-read j d e =
        let was = two-other (lists before) (slots_of t.queue ++ slots_of s.queue) [] refl j d e ∙ lists-at before j in
        ap (all_read n) (sym was ∙ sym (get_or-set_other joined to j (slots_of q ++ slots_of p) [] e))
        ∙ others-same m n joined to (slots_of q ++ slots_of p) in_joined joined-shared joined-turned j e
        ∙ ap (all_read m) was

    -- parted again, they are the slots of after
    abbrev parted : List (List Slice)
    parted = with_two (set joined to (slots_of q ++ slots_of p)) (slots_of q) (slots_of p)

    are-parted : (j : ℕ) → slots_at (lists after) j ≡ slots_at parted j
    are-parted = each_slots (λ j zs. zs ≡ slots_at parted j)
        (sym (two-from (set joined to (slots_of q ++ slots_of p)) (slots_of q) (slots_of p) joined-long))
        (sym (two-to (set joined to (slots_of q ++ slots_of p)) (slots_of q) (slots_of p) joined-long))
        (λ j d e. sym (two-other (set joined to (slots_of q ++ slots_of p)) (slots_of q) (slots_of p) joined-long j d e ∙ get_or-set_other joined to j (slots_of q ++ slots_of p) [] e ∙ two-other (lists before) (slots_of t.queue ++ slots_of s.queue) [] refl j d e))

    pub changed-shared : AreShared n (lists after)
    changed-shared = record {
      counted = λ key.
          let a = two-named (set joined to (slots_of q ++ slots_of p)) (slots_of q) (slots_of p) joined-long key in
          let b = joined-after.counted key in
          let c = naming-append (slots_of q) (slots_of p) key in
          let d : naming (slots_at (set joined to (slots_of q ++ slots_of p)) to) key ≡ naming (slots_of q ++ slots_of p) key = ap (λ zs. naming zs key) (get_or-set_same joined to (slots_of q ++ slots_of p) [] in_joined) in
          let e : naming (slots_at (set joined to (slots_of q ++ slots_of p)) from) key ≡ 0 =
          ap (λ zs. naming zs key) (get_or-set_other joined to from (slots_of q ++ slots_of p) [] apart ∙ two-from (lists before) (slots_of t.queue ++ slots_of s.queue) [] refl) in
          let f = same-named parted (lists after) key are-parted in
          omega (arith, a, b, c, d, e, f);
      lie = each_slots (λ j zs. AllLie n zs)
          (lie-right n (slots_of q) (slots_of p) turned.lie)
          (lie-left n (slots_of q) (slots_of p) turned.lie)
          (λ j d e. subst (AllLie n) (get_or-set_other joined to j (slots_of q ++ slots_of p) [] e ∙ two-other (lists before) (slots_of t.queue ++ slots_of s.queue) [] refl j d e) (joined-after.lie j));
    }

    -- what is seen of the files
    pub changed-files : map (file_in n) after ≡ map (file_in m) before
    changed-files = same-list (map (file_in n) after) (map (file_in m) before) (length-map after (file_in n) ∙ set_both.long ∙ sym (length-map before (file_in m)))
        (fun_ext (λ j. seen-at files_seen n after j ∙ each (λ old new. file_in n new ≡ file_in m old) refl refl (λ i d e. same-file m n (at before i) (others-read i d e)) j ∙ sym (seen-at files_seen m before j)))

    -- and of the pipes
    pub changed-pipes : (f g : PipeState → PipeState) → pipe_of n (record s { queue = p }) ≡ f (pipe_of m s) → pipe_of n (record t { queue = q }) ≡ g (pipe_of m t)
        → seen pipes_seen n after ≡ change_at to g (change_at from f (seen pipes_seen m before))
    changed-pipes f g first second =
        is_change_at (change_at from f (seen pipes_seen m before)) (seen pipes_seen n after) to g
        (seen-at pipes_seen n after to ∙ ap (pipe_in n) set_both.second ∙ ap (λ x. Some x) second ∙ sym (ap (option_map g) (at-other from to f (seen pipes_seen m before) apart ∙ seen-at pipes_seen m before to ∙ ap (pipe_in m) was_to)))
        (λ j d. by j d (eqb_tells j from))
      where
        by : (j : ℕ) → j ≢ to → Tells j from → seen pipes_seen n after j ≡ change_at from f (seen pipes_seen m before) j
        by j d (inl e) =
            ap (seen pipes_seen n after) e.1 ∙ seen-at pipes_seen n after from ∙ ap (pipe_in n) set_both.first ∙ ap (λ x. Some x) first
            ∙ sym (ap (change_at from f (seen pipes_seen m before)) e.1 ∙ change-here from f (seen pipes_seen m before) (pipe_of m s) (seen-at pipes_seen m before from ∙ ap (pipe_in m) was_from))
        by j d (inr e) =
            seen-at pipes_seen n after j ∙ ap (pipe_in n) (set_both.others j e.1 d) ∙ same-pipe m n (at before j) (others-read j e.1 d) ∙ sym (seen-at pipes_seen m before j)
            ∙ sym (at-other from j f (seen pipes_seen m before) (λ h. e.1 (sym h)))

  -- no queue has more slots than the longest may
  pub changed-short : length (slots_of p) ≤ most_file_bytes → length (slots_of q) ≤ most_file_bytes → ((j : ℕ) → length (slots_at (lists before) j) ≤ most_file_bytes) → (j : ℕ) → length (slots_at (lists after) j) ≤ most_file_bytes
  changed-short first second short = each_slots (λ j zs. length zs ≤ most_file_bytes) first second (λ j d e. short j)

  -- what has a name says so
  pub changed-named : (es : List (Vec ℕ A × Node)) → AreNamed es before → AreNamed es after
  changed-named es named n = named n ∙ ap one_if (by n)
    where
      by : (n : Node) → named_as n (at before (key_of n)) ≡ named_as n (at after (key_of n))
      by (node.Pipe j) = each (λ old new. pipe_named old ≡ pipe_named new) refl refl (λ i d e. refl) j
      by (node.File j) = each (λ old new. file_named old ≡ file_named new) refl refl (λ i d e. refl) j

  pub changed-plain : packets_of p ≡ None → packets_of q ≡ None → ((j : ℕ) → named_packet (at before j) ≡ false) → (j : ℕ) → named_packet (at after j) ≡ false
  changed-plain none none_too plain j = each (λ old new. named_packet old ≡ false → named_packet new ≡ false)
      (λ h. plainly s.named (packets_of p) none) (λ h. plainly t.named (packets_of q) none_too) (λ i d e h. h) j (plain j)
    where
      plainly : (b : Bool) (o : Option (List ℕ)) → o ≡ None → (b && is_some o) ≡ false
      plainly true o none = ap is_some none
      plainly false o none = refl

-- what stands under a key, where another one was set
pub second-there : {A : Type 0} (contents : List (Option (Content A))) (from to : ℕ) → from ≢ to → (new x : Content A) (p : PipeNode A) → at (slice_set contents from (Some new)) to ≡ Some x → Some p ≡ as_pipe x
    → at contents to ≡ Some (Pipe p)
second-there contents from to apart new x p there is =
    sym (get_or-set_other contents from to (Some new) None (λ e. apart (sym e))) ∙ pipe-there (slice_set contents from (Some new)) to x p there is

-- The pipes under two keys, and the store, of nodes that are sound.
module _ {A : Type 0} (k : Inside A) (sound : IsSound k) (flat : Nodes) (is : view_of k ≡ flat) (from to : ℕ) (apart : from ≢ to) (s t : PipeNode A) (p q : Queue A)
    (was_from : at k.contents.slots from ≡ Some (Pipe s)) (was_to : at k.contents.slots to ≡ Some (Pipe t))
    (after : List (Option (Content A))) (set_both : AreSet k.contents.slots after from to (Pipe (record s { queue = p })) (Pipe (record t { queue = q })))
    (store : Segments) (turned : Turns (segment_at k.store) (slots_of t.queue ++ slots_of s.queue) (segment_at store) (slots_of q ++ slots_of p)) where
  abbrev pub with_both : Inside A
  with_both = record k { store = store; contents = record k.contents { slots = after } }

  pub both-sound : packets_of p ≡ None → packets_of q ≡ None → length (slots_of p) ≤ most_file_bytes → length (slots_of q) ≤ most_file_bytes → store.room ≤ k.limits.spare_max → IsSound with_both
  both-sound none none_too short short_too spare = record {
    shared = changed-shared k.contents.slots after from to apart s t p q was_from was_to set_both (segment_at k.store) (segment_at store) sound.shared turned;
    short = changed-short k.contents.slots after from to apart s t p q was_from was_to set_both short short_too sound.short;
    named = changed-named k.contents.slots after from to apart s t p q was_from was_to set_both k.names.entries sound.named;
    plain = changed-plain k.contents.slots after from to apart s t p q was_from was_to set_both none none_too sound.plain;
    most = sound.most;
    spare = spare;
  }

  pub both-files : SameFiles flat (view_of with_both)
  both-files = record {
    files = changed-files k.contents.slots after from to apart s t p q was_from was_to set_both (segment_at k.store) (segment_at store) sound.shared turned ∙ ap (λ (v : Nodes). v.files) is;
    names = ap (λ (v : Nodes). v.names) is;
    limits = ap (λ (v : Nodes). v.limits) is;
  }

  pub both-pipes : (f g : PipeState → PipeState) → pipe_of (segment_at store) (record s { queue = p }) ≡ f (pipe_of (segment_at k.store) s)
      → pipe_of (segment_at store) (record t { queue = q }) ≡ g (pipe_of (segment_at k.store) t) → at (view_of with_both).pipes ≡ change_at to g (change_at from f (at flat.pipes))
  both-pipes f g first second =
      changed-pipes k.contents.slots after from to apart s t p q was_from was_to set_both (segment_at k.store) (segment_at store) sound.shared turned f g first second
      ∙ ap (λ (v : Nodes). change_at to g (change_at from f (at v.pipes))) is

  pub both-slots : slots_at (view_of with_both).slots to ≡ slots_of q
  both-slots = slots-to k.contents.slots after from to apart s t p q was_from was_to set_both
