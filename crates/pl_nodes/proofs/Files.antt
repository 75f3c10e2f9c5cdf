-- A call on the file under a key.
use Rattle.std.proofs.Common.{◌≡◌, ℕ, List, [], Some, refl, sym, ◌∙◌, ap, subst, length}
use Rattle.std.specs.Prelude.{IfSome}
use Rattle.pl_model.specs.Map.{change_at}
use Rattle.pl_segments.specs.declared.slice.Slice.{Slice}
use Rattle.pl_segments.specs.Segments.{Map, Segments, segment_at, at}
use Rattle.pl_segments.specs.Slices.{all_read}
use Rattle.pl_segments.specs.Turns.{Turns}
use Rattle.pl_segments.specs.Slots.{total}
use Rattle.pl_segments.proofs.SlotLemmas.{total-read}
use Rattle.pl_nodes.specs.declared.content.FileNode.{FileNode}
use Rattle.pl_nodes.specs.declared.content.Content.TheVariants.{File}
use Rattle.pl_nodes.specs.declared.nodes.Nodes.TheInside.{Inside}
use Rattle.pl_nodes.specs.Nodes.{Nodes, SamePipes}
use Rattle.pl_nodes.specs.NodesView.{file_in, view_of, IsSound}
use Rattle.pl_nodes.proofs.OneChanged.{pipes_seen, files_seen, seen-at, changed-seen, kept-list}
use Rattle.pl_nodes.proofs.AtKey.{held, with_content, refused-seen}

module _ {A : Type 0} (k : Inside A) (key : ℕ) (f : FileNode A) (there : at k.contents.slots key ≡ Some (File f)) (sound : IsSound k) (flat : Nodes) (is : view_of k ≡ flat) where
  -- it has as many bytes as its slots
  pub file-total : total f.file ≡ length (all_read (segment_at k.store) f.file)
  file-total = sym (total-read (segment_at k.store) f.file (held k key (File f) there sound).lie)

  pub file-flat : at flat.files key ≡ Some (all_read (segment_at k.store) f.file)
  file-flat = ap (λ (v : Nodes). at v.files key) (sym is) ∙ seen-at files_seen (segment_at k.store) k.contents.slots key ∙ ap (file_in (segment_at k.store)) there

  -- what is said of it
  pub file-said : (P : List ℕ → Type 0) → P (all_read (segment_at k.store) f.file) → IfSome (at flat.files key) P
  file-said P h = subst (λ o. IfSome o P) (sym file-flat) h

  pub file-told : (P : List ℕ → Type 0) → IfSome (at flat.files key) P → P (all_read (segment_at k.store) f.file)
  file-told P h = subst (λ o. IfSome o P) file-flat h

  -- it changes, and with it the store
  module _ (store : Segments) (new : FileNode A) (turns : Turns (segment_at k.store) f.file (segment_at store) new.file) where
    pub file-done : (g : List ℕ → List ℕ) → all_read (segment_at store) new.file ≡ g (all_read (segment_at k.store) f.file)
        → at (view_of (with_content k key (File f) there sound store (File new))).files ≡ change_at key g (at flat.files)
    file-done g e =
        changed-seen (segment_at k.store) k.contents.slots key (File f) there sound.shared (segment_at store) new.file turns (File new) refl files_seen g (ap (λ x. Some x) e)
        ∙ ap (λ (v : Nodes). change_at key g (at v.files)) is

    pub file-pipes : SamePipes flat (view_of (with_content k key (File f) there sound store (File new)))
    file-pipes = record {
      pipes =
          kept-list (segment_at k.store) k.contents.slots key (File f) there sound.shared (segment_at store) new.file turns (File new) refl pipes_seen refl
          ∙ ap (λ (v : Nodes). v.pipes) is;
      names = ap (λ (v : Nodes). v.names) is;
      limits = ap (λ (v : Nodes). v.limits) is;
    }

  -- it was refused, and is as it was
  pub file-refused : (store : Segments) → store.held ≡ k.store.held → (new : FileNode A) → new ≡ f → SamePipes flat (view_of (with_content k key (File f) there sound store (File new)))
  file-refused store kept new same =
      let e : view_of (with_content k key (File f) there sound store (File new)) ≡ flat = refused-seen k key (File f) there sound store kept (File new) (λ i. File (same i)) ∙ is in
      record { pipes = ap (λ (v : Nodes). v.pipes) e; names = ap (λ (v : Nodes). v.names) e; limits = ap (λ (v : Nodes). v.limits) e }

-- slots that became none are none
pub became-none : (m : Map) (xs : List Slice) (n : Map) (ys : List Slice) → ys ≡ [] → Turns m xs n [] → Turns m xs n ys
became-none m xs n ys none = subst (Turns m xs n) (sym none)
