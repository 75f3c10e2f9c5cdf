-- A call on the pipe under a key.
use Rattle.std.proofs.Common.{◌≡◌, ℕ, true, false, Option, Some, None, refl, sym, ◌∙◌, ap, subst, length}
use Rattle.std.specs.Prelude.{IfSome, IsSome, is_some, option_and_then, ◌&&◌}
use Rattle.pl_model.specs.Map.{change_at}
use Rattle.pl_model.specs.State.{Pipe as PipeState}
use Rattle.pl_segments.specs.Segments.{Map, Segments, segment_at, at}
use Rattle.pl_segments.specs.Slices.{all_read}
use Rattle.pl_segments.specs.Turns.{Turns}
use Rattle.pl_segments.specs.Slots.{total}
use Rattle.pl_segments.proofs.SlotLemmas.{total-read}
use Rattle.pl_nodes.specs.declared.content.PipeNode.{PipeNode}
use Rattle.pl_nodes.specs.declared.content.Content.{Content}
use Rattle.pl_nodes.specs.declared.content.Content.TheVariants.{Pipe, File}
use Rattle.pl_nodes.specs.declared.nodes.Nodes.TheInside.{Inside}
use Rattle.pl_nodes.specs.Contents.{as_pipe}
use Rattle.pl_nodes.specs.Nodes.{Nodes, SameFiles}
use Rattle.pl_nodes.specs.NodesView.{pipe_of, pipe_in, pipe_named, named_packet, view_of, IsSound}
use Rattle.pl_nodes.specs.Queue.{slots_of, packets_of}
use Rattle.pl_nodes.proofs.OneChanged.{pipes_seen, files_seen, seen-at, changed-seen, kept-list}
use Rattle.pl_nodes.proofs.AtKey.{held, with_content, refused-seen}

module _ {A : Type 0} (k : Inside A) (key : ℕ) (p : PipeNode A) (there : at k.contents.slots key ≡ Some (Pipe p)) (sound : IsSound k) (flat : Nodes) (is : view_of k ≡ flat) where
  -- it has as many bytes as its slots
  pub pipe-total : total (slots_of p.queue) ≡ length (all_read (segment_at k.store) (slots_of p.queue))
  pipe-total = sym (total-read (segment_at k.store) (slots_of p.queue) (held k key (Pipe p) there sound).lie)

  pub pipe-flat : at flat.pipes key ≡ Some (pipe_of (segment_at k.store) p)
  pipe-flat = ap (λ (v : Nodes). at v.pipes key) (sym is) ∙ seen-at pipes_seen (segment_at k.store) k.contents.slots key ∙ ap (pipe_in (segment_at k.store)) there

  -- what is said of it
  pub pipe-said : (P : PipeState → Type 0) → P (pipe_of (segment_at k.store) p) → IfSome (at flat.pipes key) P
  pipe-said P h = subst (λ o. IfSome o P) (sym pipe-flat) h

  pub pipe-told : (P : PipeState → Type 0) → IfSome (at flat.pipes key) P → P (pipe_of (segment_at k.store) p)
  pipe-told P h = subst (λ o. IfSome o P) pipe-flat h

  -- what is said of it says something else
  pub pipe-told-as : (P Q : PipeState → Type 0) → (P (pipe_of (segment_at k.store) p) → Q (pipe_of (segment_at k.store) p)) → IfSome (at flat.pipes key) P → IfSome (at flat.pipes key) Q
  pipe-told-as P Q f h = pipe-said Q (f (pipe-told P h))

  -- it changes, and with it the store
  module _ (store : Segments) (new : PipeNode A) (turns : Turns (segment_at k.store) (slots_of p.queue) (segment_at store) (slots_of new.queue)) where
    pub pipe-done : (f : PipeState → PipeState) → pipe_of (segment_at store) new ≡ f (pipe_of (segment_at k.store) p)
        → at (view_of (with_content k key (Pipe p) there sound store (Pipe new))).pipes ≡ change_at key f (at flat.pipes)
    pipe-done f e =
        changed-seen (segment_at k.store) k.contents.slots key (Pipe p) there sound.shared (segment_at store) (slots_of new.queue) turns (Pipe new) refl pipes_seen f (ap (λ x. Some x) e)
        ∙ ap (λ (v : Nodes). change_at key f (at v.pipes)) is

    pub pipe-files : SameFiles flat (view_of (with_content k key (Pipe p) there sound store (Pipe new)))
    pipe-files = record {
      files =
          kept-list (segment_at k.store) k.contents.slots key (Pipe p) there sound.shared (segment_at store) (slots_of new.queue) turns (Pipe new) refl files_seen refl
          ∙ ap (λ (v : Nodes). v.files) is;
      names = ap (λ (v : Nodes). v.names) is;
      limits = ap (λ (v : Nodes). v.limits) is;
    }

  -- it was refused, and is as it was
  pub pipe-refused : (store : Segments) → store.held ≡ k.store.held → (new : PipeNode A) → new ≡ p → SameFiles flat (view_of (with_content k key (Pipe p) there sound store (Pipe new)))
  pipe-refused store kept new same =
      let e : view_of (with_content k key (Pipe p) there sound store (Pipe new)) ≡ flat = refused-seen k key (Pipe p) there sound store kept (Pipe new) (λ i. Pipe (same i)) ∙ is in
      record { files = ap (λ (v : Nodes). v.files) e; names = ap (λ (v : Nodes). v.names) e; limits = ap (λ (v : Nodes). v.limits) e }

-- a pipe with a name is no packet pipe
none-there : {V : Type 0} (o : Option V) → is_some o ≡ false → o ≡ None
none-there None none = refl
none-there (Some x) none = absurd (cc)

plain-in : {A : Type 0} (m : Map) (o : Option (Content A)) → pipe_named o ≡ true → named_packet o ≡ false → IfSome (pipe_in m o) (λ x. x.packets ≡ None)
plain-in m None named plain = tt
plain-in m (Some (Pipe p)) named plain = none-there (packets_of p.queue) (sym (ap (λ b. b && is_some (packets_of p.queue)) named) ∙ plain)
plain-in m (Some (File f)) named plain = tt

pub named-plain : {A : Type 0} (k : Inside A) → IsSound k → (flat : Nodes) → view_of k ≡ flat → (key : ℕ) → pipe_named (at k.contents.slots key) ≡ true → IfSome (at flat.pipes key) (λ x. x.packets ≡ None)
named-plain k sound flat is key named =
    subst (λ o. IfSome o (λ x. x.packets ≡ None)) (sym (ap (λ (v : Nodes). at v.pipes key) (sym is) ∙ seen-at pipes_seen (segment_at k.store) k.contents.slots key))
    (plain-in (segment_at k.store) (at k.contents.slots key) named (sound.plain key))

-- where contracts see a pipe, one is under the key
in-content : {A : Type 0} (m : Map) (o : Option (Content A)) → IsSome (pipe_in m o) → IsSome (option_and_then as_pipe o)
in-content m None some = absurd (let no : IsSome {T = PipeState} None = some in cc)
in-content m (Some (Pipe p)) some = refl
in-content m (Some (File f)) some = absurd (let no : IsSome {T = PipeState} None = some in cc)

pub seen-there : {A : Type 0} (k : Inside A) (flat : Nodes) → view_of k ≡ flat → (key : ℕ) → IsSome (at flat.pipes key) → IsSome (option_and_then as_pipe (at k.contents.slots key))
seen-there k flat is key some =
    in-content (segment_at k.store) (at k.contents.slots key)
    (subst (λ o. IsSome o) (ap (λ (v : Nodes). at v.pipes key) (sym is) ∙ seen-at pipes_seen (segment_at k.store) k.contents.slots key) some)
