-- A call on what is under one key, with the store of all.
use Rattle.std.proofs.Common.{◌≡◌, ◌≤◌, ℕ, false, ◌<◌, ◌^◌, List, [], Option, Some, None, refl, sym, ◌∙◌, ap, subst, slice_set, length, map, set, inl, inr, arith}
use Rattle.std.specs.Prelude.{option_map}
use Rattle.std.proofs.lemmas.Bool.Decides.{eqb_tells}
use Rattle.std.proofs.lemmas.List.{get_or-set_same, get_or-set_other}
use Rattle.pl_model.specs.Numbers.{most_file_bytes}
use Rattle.pl_segments.specs.declared.slice.Slice.{Slice}
use Rattle.pl_segments.specs.Segments.{Segments, segment_at, at, holders, live_count}
use Rattle.pl_segments.specs.Turns.{Holds, Turns}
use Rattle.pl_segments.specs.Sharing.{slots_at, AreShared}
use Rattle.pl_nodes.specs.declared.content.PipeNode.{PipeNode}
use Rattle.pl_nodes.specs.declared.content.FileNode.{FileNode}
use Rattle.pl_nodes.specs.declared.content.Content.{Content}
use Rattle.pl_nodes.specs.declared.content.Content.TheVariants.{Pipe, File}
use Rattle.pl_nodes.specs.declared.nodes.Nodes.TheInside.{Inside}
use Rattle.pl_nodes.specs.Contents.{as_pipe, as_file}
use Rattle.pl_nodes.specs.Nodes.{Nodes, Shrinks, memory_of}
use Rattle.pl_nodes.specs.NodesView.{pipe_in, file_in, slots_in, lists, names_of, one_if, is_packet, named_packet, AreNamed, view_of, IsSound}
use Rattle.pl_nodes.proofs.Keyed.{put-back, put-alike, within}
use Rattle.pl_nodes.proofs.Lists.{lists-at, lists-length, lists-set, named-few}
use Rattle.pl_nodes.proofs.Slices.{all-lost}
use Rattle.pl_nodes.proofs.Named.{NamedAlike, put-named, put-plain, named-none}
use Rattle.pl_nodes.proofs.OneChanged.{content-held, changed-shared}

-- what turned out to be a pipe, or a file, stands there as that
pub pipe-there : {A : Type 0} (contents : List (Option (Content A))) (key : ℕ) (x : Content A) (p : PipeNode A) → at contents key ≡ Some x → Some p ≡ as_pipe x → at contents key ≡ Some (Pipe p)
pipe-there contents key (Pipe y) p there is = there ∙ ap (λ o. option_map (λ z. Pipe z) o) (sym is)
pipe-there contents key (File y) p there is = absurd (cc)

pub file-there : {A : Type 0} (contents : List (Option (Content A))) (key : ℕ) (x : Content A) (f : FileNode A) → at contents key ≡ Some x → Some f ≡ as_file x → at contents key ≡ Some (File f)
file-there contents key (Pipe y) f there is = absurd (cc)
file-there contents key (File y) f there is = there ∙ ap (λ o. option_map (λ z. File z) o) (sym is)

module _ {A : Type 0} (k : Inside A) (key : ℕ) (old : Content A) (there : at k.contents.slots key ≡ Some old) (sound : IsSound k) where
  pub held : Holds (segment_at k.store) (slots_in (Some old))
  held = content-held (segment_at k.store) k.contents.slots key old there sound.shared

  -- it has as few slots as it may
  pub slots-short : length (slots_in (Some old)) ≤ most_file_bytes
  slots-short = subst (λ (xs : List Slice). length xs ≤ most_file_bytes) (lists-at k.contents.slots key ∙ ap slots_in there) (sound.short key)

  -- the slots that are seen under the key
  pub slots-flat : (flat : Nodes) → view_of k ≡ flat → slots_at flat.slots key ≡ slots_in (Some old)
  slots-flat flat is = ap (λ (v : Nodes). slots_at v.slots key) (sym is) ∙ lists-at k.contents.slots key ∙ ap slots_in there

  -- the nodes with another store, and other content under the key
  abbrev pub with_content : Segments → Content A → Inside A
  with_content store new = record k { store = store; contents = record k.contents { slots = slice_set k.contents.slots key (Some new) } }

  module _ (store : Segments) (new : Content A) where
    -- it has as few slots as it may
    still-short : length (slots_in (Some new)) ≤ most_file_bytes → (q : ℕ) → length (slots_at (lists (slice_set k.contents.slots key (Some new))) q) ≤ most_file_bytes
    still-short few q = elim (eqb_tells q key) as (λ _. length (slots_at (lists (slice_set k.contents.slots key (Some new))) q) ≤ most_file_bytes) [
      | inl e ↦
          let is = lists-at (slice_set k.contents.slots key (Some new)) q ∙ ap (λ j. slots_in (at (slice_set k.contents.slots key (Some new)) j)) e.1 ∙ ap slots_in (get_or-set_same k.contents.slots key (Some new) None (within k.contents.slots key old there)) in
          subst (λ (xs : List Slice). length xs ≤ most_file_bytes) (sym is) few
      | inr e ↦
          let is = lists-at (slice_set k.contents.slots key (Some new)) q ∙ ap slots_in (get_or-set_other k.contents.slots key q (Some new) None e.1) ∙ sym (lists-at k.contents.slots q) in
          subst (λ (xs : List Slice). length xs ≤ most_file_bytes) (sym is) (sound.short q)
    ]

    pub still-sound : Turns (segment_at k.store) (slots_in (Some old)) (segment_at store) (slots_in (Some new)) → length (slots_in (Some new)) ≤ most_file_bytes → NamedAlike (Some old) (Some new)
        → is_packet (Some new) ≡ is_packet (Some old) → store.room ≤ k.limits.spare_max → IsSound (with_content store new)
    still-sound turns few alike kind spare = record {
      shared = changed-shared (segment_at k.store) k.contents.slots key old there sound.shared (segment_at store) (slots_in (Some new)) turns new refl;
      short = still-short few;
      named = put-named k.contents.slots key old new there alike k.names.entries sound.named;
      plain = put-plain k.contents.slots key old new there alike kind sound.plain;
      most = sound.most;
      spare = spare;
    }

    -- it lost all its slots
    pub emptied-shrinks : slots_in (Some new) ≡ [] → live_count store.held ≤ live_count k.store.held → (flat : Nodes) → view_of k ≡ flat
        → Shrinks (memory_of flat) (memory_of (view_of (with_content store new)))
    emptied-shrinks none fewer flat is =
        let gone = lists-set k.contents.slots key (Some new) ∙ ap (set (lists k.contents.slots) key) none in
        let shrinks = all-lost (memory_of (view_of k)) (memory_of (view_of (with_content store new))) key (λ q. ap (λ ls. slots_at ls q) gone) fewer in
        subst (λ (v : Nodes). Shrinks (memory_of v) (memory_of (view_of (with_content store new)))) is shrinks

  -- it has the slots that it had
  pub still-memory : (new : Content A) → slots_in (Some new) ≡ slots_in (Some old) → (flat : Nodes) → view_of k ≡ flat → memory_of (view_of (with_content k.store new)) ≡ memory_of flat
  still-memory new same flat is =
      ap (λ (ls : List (List Slice)). record { slots = ls; segments = live_count k.store.held }) (put-alike slots_in k.contents.slots key (Some new) (same ∙ sym (ap slots_in there)))
      ∙ ap memory_of is

  -- where it was refused the content is as it was, and so are the segments
  module _ (store : Segments) (kept : store.held ≡ k.store.held) (new : Content A) (same : new ≡ old) where
    refused-contents : slice_set k.contents.slots key (Some new) ≡ k.contents.slots
    refused-contents = put-back k.contents.slots key old new there same

    pub refused-sound : store.room ≤ k.limits.spare_max → IsSound (with_content store new)
    refused-sound spare = record {
      shared = subst (λ m. AreShared m (lists (slice_set k.contents.slots key (Some new)))) (sym (ap at kept)) (subst (λ cs. AreShared (segment_at k.store) (lists cs)) (sym refused-contents) sound.shared);
      short = subst (λ cs. (q : ℕ) → length (slots_at (lists cs) q) ≤ most_file_bytes) (sym refused-contents) sound.short;
      named = subst (λ cs. AreNamed k.names.entries cs) (sym refused-contents) sound.named;
      plain = subst (λ cs. (q : ℕ) → named_packet (at cs q) ≡ false) (sym refused-contents) sound.plain;
      most = sound.most;
      spare = spare;
    }

    pub refused-seen : view_of (with_content store new) ≡ view_of k
    refused-seen = (λ i. record {
      pipes = map (pipe_in (at (kept i))) (refused-contents i);
      files = map (file_in (at (kept i))) (refused-contents i);
      slots = lists (refused-contents i);
      names = names_of k.names.entries;
      next = k.contents.vacant_key;
      segments = live_count (kept i);
      limits = k.limits;
    })

-- no segment has more holders than the count can tell
pub few-holders : {A : Type 0} (k : Inside A) → IsSound k → length k.contents.slots < 2 ^ 64 → (key : ℕ) → holders (segment_at k.store) key < 2 ^ 100
few-holders k sound short key =
    let named = named-few (lists k.contents.slots) most_file_bytes sound.short key in
    let counted = sound.shared.counted key in
    let len = lists-length k.contents.slots in
    omega (arith, named, counted, len, short)

-- where there is nothing all is well
pub empty-sound : {A : Type 0} (k : Inside A) → k.store.held ≡ [] → k.store.room ≡ 0 → k.contents.slots ≡ [] → k.names.entries ≡ [] → k.limits.file_max ≤ most_file_bytes → IsSound k
empty-sound {A} k none spare nothing nobody most = record {
  shared = subst (λ cs. AreShared (segment_at k.store) (lists cs)) (sym nothing) (record { counted = λ key. ap (λ held. holders (at held) key) none; lie = λ q. tt });
  short = λ q. subst (λ cs. length (slots_at (lists cs) q) ≤ most_file_bytes) (sym nothing) (omega arith);
  plain = λ q. ap (λ cs. named_packet (at cs q)) nothing;
  named = subst (λ es. AreNamed es k.contents.slots) (sym nobody) (subst (λ cs. AreNamed [] cs) (sym nothing) (λ n. ap one_if (sym (named-none A n))));
  most = most;
  spare = omega (arith, spare);
}
