-- What comes under a free key, and what goes.
use Rattle.std.proofs.Common.{◌≡◌, ◌≤◌, ℕ, false, List, [], Some, None, refl, sym, ◌∙◌, ap, subst, inl, inr, length, set, arith}
use Rattle.std.proofs.lemmas.Bool.Decides.{eqb_tells}
use Rattle.std.proofs.lemmas.List.{get_or-set_same, get_or-set_other}
use Rattle.std.specs.declared.vec.Vec.{Vec}
use Rattle.std.specs.BTreeMap.{BTreeMap}
use Rattle.pl_model.specs.Numbers.{most_file_bytes}
use Rattle.pl_model.specs.declared.node.Node.{Node}
use Rattle.pl_model.specs.Nodes.{key_of, has_name}
use Rattle.pl_segments.specs.declared.slice.Slice.{Slice}
use Rattle.pl_segments.specs.Segments.{Segments, segment_at, at, live_count}
use Rattle.pl_segments.specs.Turns.{Turns}
use Rattle.pl_segments.specs.Sharing.{slots_at, AreShared}
use Rattle.slab.specs.Slab.{Slab, Updates}
use Rattle.pl_nodes.specs.declared.content.Content.{Content}
use Rattle.pl_nodes.specs.declared.upper.Upper.{Upper}
use Rattle.pl_nodes.specs.declared.nodes.Nodes.TheInside.{Inside}
use Rattle.pl_nodes.specs.Nodes.{Nodes, Shrinks, memory_of}
use Rattle.pl_nodes.specs.NodesView.{slots_in, lists, named_as, named_packet, AreNamed, view_of, IsSound}
use Rattle.pl_nodes.proofs.Slices.{all-lost}
use Rattle.pl_nodes.proofs.Named.{NamedAlike, still-named, still-plain, named-is}
use Rattle.pl_nodes.proofs.OneChanged.{pipes_seen, files_seen, seen-at, within-lists, gone-lists, gone-shared, new-lists, new-shared}

module _ {A : Type 0} (k : Inside A) (sound : IsSound k) where
  -- what has no name says so
  pub says-unnamed : (flat : Nodes) → view_of k ≡ flat → (n : Node) → has_name flat.names n ≡ false → named_as n (at k.contents.slots (key_of n)) ≡ false
  says-unnamed flat is n none = named-is k.names.entries k.contents.slots sound.named n ∙ ap (λ (v : Nodes). has_name v.names n) is ∙ none

  -- it goes
  module _ (store : Segments) (after : Slab (Content A)) (key : ℕ) (old : Content A) (there : at k.contents.slots key ≡ Some old)
      (turned : Turns (segment_at k.store) (slots_in (Some old)) (segment_at store) []) (u : Updates k.contents after key None) where
    gone-short : (q : ℕ) → length (slots_at (set (lists k.contents.slots) key []) q) ≤ most_file_bytes
    gone-short q = elim (eqb_tells q key) as (λ _. length (slots_at (set (lists k.contents.slots) key []) q) ≤ most_file_bytes) [
      | inl e ↦
          let is = ap (λ j. slots_at (set (lists k.contents.slots) key []) j) e.1 ∙ get_or-set_same (lists k.contents.slots) key [] [] (within-lists (segment_at k.store) k.contents.slots key old there sound.shared) in
          let none = ap (λ (xs : List Slice). length xs) is in
          omega (arith, none)
      | inr e ↦ subst (λ (xs : List Slice). length xs ≤ most_file_bytes) (sym (get_or-set_other (lists k.contents.slots) key q [] [] e.1)) (sound.short q)
    ]

    -- it had no name
    pub gone-sound : NamedAlike (Some old) None → store.room ≤ k.limits.spare_max → (upper : Upper) → IsSound (record k { store = store; contents = after; upper = upper })
    gone-sound alike spare upper = record {
      shared = gone-shared (segment_at k.store) (segment_at store) k.contents after key old there sound.shared turned u;
      short = λ q. subst (λ (xs : List Slice). length xs ≤ most_file_bytes) (sym (gone-lists (segment_at k.store) (segment_at store) k.contents after key old there sound.shared turned u q)) (gone-short q);
      named = still-named k.contents.slots after.slots key u.others (Some old) None there u.changed alike k.names.entries sound.named;
      plain = still-plain k.contents.slots after.slots key u.others None u.changed refl sound.plain;
      most = sound.most;
      spare = spare;
    }

    pub gone-shrinks : live_count store.held ≤ live_count k.store.held → (flat : Nodes) → view_of k ≡ flat → Shrinks (memory_of flat) (memory_of (view_of (record k { store = store; contents = after })))
    gone-shrinks fewer flat is =
        let gone = gone-lists (segment_at k.store) (segment_at store) k.contents after key old there sound.shared turned u in
        let shrinks = all-lost (memory_of (view_of k)) (memory_of (view_of (record k { store = store; contents = after }))) key gone fewer in
        subst (λ (v : Nodes). Shrinks (memory_of v) (memory_of (view_of (record k { store = store; contents = after })))) is shrinks

  -- where nothing is there is neither a pipe nor a file
  pub vacant-seen : (before : Slab (Content A)) → before.slots ≡ k.contents.slots → (key : ℕ) → at before.slots key ≡ None → (flat : Nodes) → view_of k ≡ flat → (at flat.pipes key ≡ None) × (at flat.files key ≡ None)
  vacant-seen before same key free flat is =
      let m = segment_at k.store in
      let none = ap (λ cs. at cs key) (sym same) ∙ free in (
        ap (λ (v : Nodes). at v.pipes key) (sym is) ∙ seen-at pipes_seen m k.contents.slots key ∙ ap (pipes_seen.see m) none,
        ap (λ (v : Nodes). at v.files key) (sym is) ∙ seen-at files_seen m k.contents.slots key ∙ ap (files_seen.see m) none,
      )

  -- it comes, in the place of nothing
  module _ (before after : Slab (Content A)) (same : before.slots ≡ k.contents.slots) (key : ℕ) (new : Content A) (free : at before.slots key ≡ None)
      (empty : slots_in (Some new) ≡ []) (u : Updates before after key (Some new)) where
    pub came-shared : AreShared (segment_at k.store) (lists before.slots)
    came-shared = subst (λ cs. AreShared (segment_at k.store) (lists cs)) (sym same) sound.shared

    pub came-unnamed : NamedAlike None (Some new) → AreNamed k.names.entries after.slots
    came-unnamed alike = still-named before.slots after.slots key u.others None (Some new) free u.changed alike k.names.entries (subst (λ cs. AreNamed k.names.entries cs) (sym same) sound.named)

    pub came-sound : (names : BTreeMap (Vec ℕ A) Node) → AreNamed names.entries after.slots → named_packet (Some new) ≡ false → (upper : Upper)
        → IsSound (record k { contents = after; names = names; upper = upper })
    came-sound names named is upper = record {
      shared = new-shared (segment_at k.store) before after key new free came-shared empty u;
      short = λ q.
          subst (λ (xs : List Slice). length xs ≤ most_file_bytes) (sym (new-lists (segment_at k.store) before after key new free came-shared empty u q ∙ ap (λ cs. slots_at (lists cs) q) same))
          (sound.short q);
      named = named;
      plain = still-plain before.slots after.slots key u.others (Some new) u.changed is (subst (λ cs. (q : ℕ) → named_packet (at cs q) ≡ false) (sym same) sound.plain);
      most = sound.most;
      spare = sound.spare;
    }

    pub came-slots : (flat : Nodes) → view_of k ≡ flat → (q : ℕ) → slots_at (lists after.slots) q ≡ slots_at flat.slots q
    came-slots flat is q = new-lists (segment_at k.store) before after key new free came-shared empty u q ∙ ap (λ cs. slots_at (lists cs) q) same ∙ ap (λ (v : Nodes). slots_at v.slots q) is
