-- A name goes from what it stood for.
use Rattle.std.proofs.Common.{◌≡◌, ◌≤◌, ℕ, false, Option, Some, None, refl, sym, ◌∙◌, ap, subst, length, map, slice_set}
use Rattle.std.specs.declared.vec.Vec.{Vec}
use Rattle.std.specs.BTreeMap.{BTreeMap}
use Rattle.std.proofs.lemmas.List.{get_or-set_same, get_or-set_other}
use Rattle.pl_model.specs.Numbers.{most_file_bytes}
use Rattle.pl_model.specs.declared.node.Node.{Node}
use Rattle.pl_segments.specs.Segments.{Map, segment_at, at, live_count}
use Rattle.pl_segments.specs.Sharing.{slots_at, AreShared}
use Rattle.pl_nodes.specs.declared.content.Content.{Content}
use Rattle.pl_nodes.specs.declared.content.Content.TheVariants.{Pipe, File}
use Rattle.pl_nodes.specs.declared.nodes.Nodes.TheInside.{Inside}
use Rattle.pl_nodes.specs.Contents.{with_named}
use Rattle.pl_nodes.specs.NodesView.{pipe_in, file_in, slots_in, names_of, named_packet, AreNamed, view_of, IsSound}
use Rattle.pl_nodes.proofs.Keyed.{put-alike, within}
use Rattle.pl_nodes.proofs.Named.{still-plain}

module _ {A : Type 0} where
  same-pipe : (m : Map) (x : Content A) → pipe_in m (Some (with_named false x)) ≡ pipe_in m (Some x)
  same-pipe m (Pipe p) = refl
  same-pipe m (File f) = refl

  same-file : (m : Map) (x : Content A) → file_in m (Some (with_named false x)) ≡ file_in m (Some x)
  same-file m (Pipe p) = refl
  same-file m (File f) = refl

  same-slots : (x : Content A) → slots_in (Some (with_named false x)) ≡ slots_in (Some x)
  same-slots (Pipe p) = refl
  same-slots (File f) = refl

  not-named : (x : Content A) → named_packet (Some (with_named false x)) ≡ false
  not-named (Pipe p) = refl
  not-named (File f) = refl

module _ {A : Type 0} (k : Inside A) (sound : IsSound k) (key : ℕ) (x new : Content A) (there : at k.contents.slots key ≡ Some x) (is : new ≡ with_named false x) (names : BTreeMap (Vec ℕ A) Node) where
  abbrev pub without_name : Inside A
  without_name = record k { names = names; contents = record k.contents { slots = slice_set k.contents.slots key (Some new) } }

  kept : {W : Type 0} (f : Option (Content A) → W) → f (Some (with_named false x)) ≡ f (Some x) → map f (slice_set k.contents.slots key (Some new)) ≡ map f k.contents.slots
  kept f e = put-alike f k.contents.slots key (Some new) (ap (λ y. f (Some y)) is ∙ e ∙ ap f (sym there))

  pub unnamed-sound : AreNamed names.entries (slice_set k.contents.slots key (Some (with_named false x))) → IsSound without_name
  unnamed-sound named = record {
    shared = subst (AreShared (segment_at k.store)) (sym (kept slots_in (same-slots x))) sound.shared;
    short = subst (λ ls. (q : ℕ) → length (slots_at ls q) ≤ most_file_bytes) (sym (kept slots_in (same-slots x))) sound.short;
    named = subst (λ y. AreNamed names.entries (slice_set k.contents.slots key (Some y))) (sym is) named;
    plain = still-plain k.contents.slots (slice_set k.contents.slots key (Some new)) key (λ q d. get_or-set_other k.contents.slots key q (Some new) None d)
        (Some new) (get_or-set_same k.contents.slots key (Some new) None (within k.contents.slots key x there)) (ap (λ y. named_packet (Some y)) is ∙ not-named x) sound.plain;
    most = sound.most;
    spare = sound.spare;
  }

  pub unnamed-seen : view_of without_name ≡ record (view_of k) { names = names_of names.entries }
  unnamed-seen = (λ i. record {
    pipes = kept (pipe_in (segment_at k.store)) (same-pipe (segment_at k.store) x) i;
    files = kept (file_in (segment_at k.store)) (same-file (segment_at k.store) x) i;
    slots = kept slots_in (same-slots x) i;
    names = names_of names.entries;
    next = k.contents.vacant_key;
    segments = live_count k.store.held;
    limits = k.limits;
  })
