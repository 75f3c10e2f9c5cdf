-- The slots of one pipe or file change, and with them the store.
use Rattle.std.proofs.Common.{◌≡◌, ◌≢◌, ℕ, ◌<◌, List, [], Option, Some, None, refl, sym, ◌∙◌, ap, subst, inl, inr, nat_eq, length, map, set, slice_set, arith}
use Rattle.std.proofs.Math.Path.{fun_ext}
use Rattle.std.proofs.Math.ListN.{get_or-map}
use Rattle.std.specs.Prelude.{option_map, slice_index_or}
use Rattle.std.proofs.lemmas.Bool.Decides.{eqb_tells}
use Rattle.std.proofs.lemmas.List.{get_or-set_same, get_or-set_other, length-map, length-set}
use Rattle.pl_model.specs.Map.{set_at, change_at}
use Rattle.pl_model.specs.State.{Pipe as PipeState}
use Rattle.pl_segments.specs.declared.slice.Slice.{Slice}
use Rattle.pl_segments.specs.Segments.{Map, at}
use Rattle.pl_segments.specs.Slices.{all_read}
use Rattle.pl_segments.specs.Turns.{Holds, Turns}
use Rattle.pl_segments.specs.Sharing.{slots_at, AreShared}
use Rattle.pl_segments.proofs.Shared.{one-held, shared-turned, others-same}
use Rattle.slab.specs.Slab.{Slab, Updates, SameValues}
use Rattle.pl_nodes.specs.declared.content.Content.{Content}
use Rattle.pl_nodes.specs.declared.content.Content.TheVariants.{Pipe, File}
use Rattle.pl_nodes.specs.NodesView.{pipe_in, file_in, slots_in, lists}
use Rattle.pl_nodes.specs.Queue.{capacity_of, packets_of}
use Rattle.pl_nodes.proofs.Keyed.{within, is_set_at, is_change_at, same-list}
use Rattle.pl_nodes.proofs.Lists.{lists-at, lists-length, lists-set, same-shared}

-- A sight of what is under a key: nothing of nothing, and the same where the slots read the same.
pub record Sight (A V : Type 0) : Type 0 where
  pub see : Map → Option (Content A) → Option V
  pub nothing : (m : Map) → see m None ≡ None
  pub same : (m n : Map) (o : Option (Content A)) → all_read n (slots_in o) ≡ all_read m (slots_in o) → see n o ≡ see m o

pub same-pipe : {A : Type 0} (m n : Map) (o : Option (Content A)) → all_read n (slots_in o) ≡ all_read m (slots_in o) → pipe_in n o ≡ pipe_in m o
same-pipe m n None e = refl
same-pipe m n (Some (Pipe p)) e = ap (λ bs. Some (record { bytes = bs; packets = packets_of p.queue; capacity = capacity_of p.queue; hung = p.hung })) e
same-pipe m n (Some (File f)) e = refl

pub same-file : {A : Type 0} (m n : Map) (o : Option (Content A)) → all_read n (slots_in o) ≡ all_read m (slots_in o) → file_in n o ≡ file_in m o
same-file m n None e = refl
same-file m n (Some (Pipe p)) e = refl
same-file m n (Some (File f)) e = ap (λ bs. Some bs) e

-- the pipes
abbrev pub pipes_seen : {A : Type 0} → Sight A PipeState
pipes_seen = record { see = pipe_in; nothing = λ m. refl; same = same-pipe }

-- the bytes of the files
abbrev pub files_seen : {A : Type 0} → Sight A (List ℕ)
files_seen = record { see = file_in; nothing = λ m. refl; same = same-file }

module _ {A V : Type 0} (s : Sight A V) where
  -- what is seen under each key
  abbrev pub seen : Map → List (Option (Content A)) → ℕ → Option V
  seen m contents = at (map (s.see m) contents)

  pub seen-at : (m : Map) (contents : List (Option (Content A))) (q : ℕ) → seen m contents q ≡ s.see m (at contents q)
  seen-at m contents q = ap (λ d. slice_index_or (map (s.see m) contents) q d) (sym (s.nothing m)) ∙ get_or-map (s.see m) contents q None

module _ {A : Type 0} (m : Map) (contents : List (Option (Content A))) (key : ℕ) (old : Content A) (there : at contents key ≡ Some old) (shared : AreShared m (lists contents)) where
  here : slots_at (lists contents) key ≡ slots_in (Some old)
  here = lists-at contents key ∙ ap slots_in there

  pub within-lists : key < length (lists contents)
  within-lists = let l = within contents key old there in let e = lists-length contents in omega (arith, l, e)

  -- its slots are held
  pub content-held : Holds m (slots_in (Some old))
  content-held = subst (Holds m) here (one-held m m (lists contents) key [] within-lists shared)

  module _ (n : Map) (slots : List Slice) (turned : Turns m (slots_in (Some old)) n slots) where
    t : Turns m (slots_at (lists contents) key) n slots
    t = subst (λ xs. Turns m xs n slots) (sym here) turned

    pub turned-shared : AreShared n (set (lists contents) key slots)
    turned-shared = shared-turned m n (lists contents) key slots within-lists shared t

    -- all others read what they read
    pub others : {V : Type 0} (s : Sight A V) (q : ℕ) → q ≢ key → s.see n (at contents q) ≡ s.see m (at contents q)
    others s q d =
        s.same m n (at contents q)
        (ap (all_read n) (sym (lists-at contents q) ∙ sym (get_or-set_other (lists contents) key q slots [] d)) ∙ others-same m n (lists contents) key slots within-lists shared t q d ∙ ap (all_read m) (lists-at contents q))

    -- it stays under its key
    module _ (new : Content A) (is : slots_in (Some new) ≡ slots) where
      pub changed-shared : AreShared n (lists (slice_set contents key (Some new)))
      changed-shared = subst (AreShared n) (ap (set (lists contents) key) (sym is) ∙ sym (lists-set contents key (Some new))) turned-shared

      module _ {V : Type 0} (s : Sight A V) where
        after-here : seen s n (slice_set contents key (Some new)) key ≡ s.see n (Some new)
        after-here = seen-at s n (slice_set contents key (Some new)) key ∙ ap (s.see n) (get_or-set_same contents key (Some new) None (within contents key old there))

        after-other : (q : ℕ) → q ≢ key → seen s n (slice_set contents key (Some new)) q ≡ seen s m contents q
        after-other q d = seen-at s n (slice_set contents key (Some new)) q ∙ ap (s.see n) (get_or-set_other contents key q (Some new) None d) ∙ others s q d ∙ sym (seen-at s m contents q)

        before-here : seen s m contents key ≡ s.see m (Some old)
        before-here = seen-at s m contents key ∙ ap (s.see m) there

        -- with another value
        pub changed-seen : (f : V → V) → s.see n (Some new) ≡ option_map f (s.see m (Some old)) → seen s n (slice_set contents key (Some new)) ≡ change_at key f (seen s m contents)
        changed-seen f e =
            is_change_at (seen s m contents) (seen s n (slice_set contents key (Some new))) key f
            (after-here ∙ e ∙ ap (option_map f) (sym before-here))
            after-other

        -- or with the same
        kept-seen : s.see n (Some new) ≡ s.see m (Some old) → seen s n (slice_set contents key (Some new)) ≡ seen s m contents
        kept-seen e = fun_ext (λ q. elim (eqb_tells q key) as (λ _. seen s n (slice_set contents key (Some new)) q ≡ seen s m contents q) [
          | inl d ↦ ap (seen s n (slice_set contents key (Some new))) d.1 ∙ after-here ∙ e ∙ sym before-here ∙ ap (seen s m contents) (sym d.1)
          | inr d ↦ after-other q d.1
        ])

        pub kept-list : s.see n (Some new) ≡ s.see m (Some old) → map (s.see n) (slice_set contents key (Some new)) ≡ map (s.see m) contents
        kept-list e =
            let now = length-map (slice_set contents key (Some new)) (s.see n) ∙ length-set contents key (Some new) in
            let was = length-map contents (s.see m) in
            same-list (map (s.see n) (slice_set contents key (Some new))) (map (s.see m) contents) (now ∙ sym was) (kept-seen e)

-- a table that is cut after its last value keeps what was changed
pub cut-updates : {T : Type 0} (before after cut : Slab T) (key : ℕ) (slot : Option T) → Updates before after key slot → SameValues after cut → Updates before cut key slot
cut-updates before after cut key slot u same = record { changed = same key ∙ u.changed; others = λ q d. same q ∙ u.others q d }

-- a content goes, with its slots
module _ {A : Type 0} (m n : Map) (before after : Slab (Content A)) (key : ℕ) (old : Content A) (there : at before.slots key ≡ Some old) (shared : AreShared m (lists before.slots))
    (turned : Turns m (slots_in (Some old)) n []) (u : Updates before after key None) where
  pub gone-lists : (q : ℕ) → slots_at (lists after.slots) q ≡ slots_at (set (lists before.slots) key []) q
  gone-lists q = elim (eqb_tells q key) as (λ _. slots_at (lists after.slots) q ≡ slots_at (set (lists before.slots) key []) q) [
    | inl e ↦
        lists-at after.slots q ∙ ap (λ k. slots_in (at after.slots k)) e.1 ∙ ap slots_in u.changed
        ∙ sym (ap (λ k. slots_at (set (lists before.slots) key []) k) e.1 ∙ get_or-set_same (lists before.slots) key [] [] (within-lists m before.slots key old there shared))
    | inr e ↦
        lists-at after.slots q ∙ ap slots_in (u.others q e.1) ∙ sym (lists-at before.slots q) ∙ sym (get_or-set_other (lists before.slots) key q [] [] e.1)
  ]

  pub gone-shared : AreShared n (lists after.slots)
  gone-shared = same-shared n (set (lists before.slots) key []) (lists after.slots) gone-lists (turned-shared m before.slots key old there shared n [] turned)

  module _ {V : Type 0} (s : Sight A V) where
    pub gone-seen : seen s n after.slots ≡ set_at nat_eq (seen s m before.slots) key None
    gone-seen = is_set_at (seen s m before.slots) (seen s n after.slots) key None
        (seen-at s n after.slots key ∙ ap (s.see n) u.changed ∙ s.nothing n)
        (λ q d. seen-at s n after.slots q ∙ ap (s.see n) (u.others q d) ∙ others m before.slots key old there shared n [] turned s q d ∙ sym (seen-at s m before.slots q))

    -- where it wasn't seen nothing is missed
    pub gone-unseen : s.see m (Some old) ≡ None → seen s n after.slots ≡ seen s m before.slots
    gone-unseen e = gone-seen ∙ sym (is_set_at (seen s m before.slots) (seen s m before.slots) key None (seen-at s m before.slots key ∙ ap (s.see m) there ∙ e) (λ q d. refl))

-- a content without slots comes under a key that was free
module _ {A : Type 0} (m : Map) (before after : Slab (Content A)) (key : ℕ) (new : Content A) (free : at before.slots key ≡ None) (shared : AreShared m (lists before.slots))
    (empty : slots_in (Some new) ≡ []) (u : Updates before after key (Some new)) where
  pub new-lists : (q : ℕ) → slots_at (lists after.slots) q ≡ slots_at (lists before.slots) q
  new-lists q = elim (eqb_tells q key) as (λ _. slots_at (lists after.slots) q ≡ slots_at (lists before.slots) q) [
    | inl e ↦
        lists-at after.slots q ∙ ap (λ k. slots_in (at after.slots k)) e.1 ∙ ap slots_in u.changed ∙ empty
        ∙ sym (lists-at before.slots q ∙ ap (λ k. slots_in (at before.slots k)) e.1 ∙ ap slots_in free)
    | inr e ↦ lists-at after.slots q ∙ ap slots_in (u.others q e.1) ∙ sym (lists-at before.slots q)
  ]

  pub new-shared : AreShared m (lists after.slots)
  new-shared = same-shared m (lists before.slots) (lists after.slots) new-lists shared

  module _ {V : Type 0} (s : Sight A V) where
    pub new-seen : seen s m after.slots ≡ set_at nat_eq (seen s m before.slots) key (s.see m (Some new))
    new-seen = is_set_at (seen s m before.slots) (seen s m after.slots) key (s.see m (Some new))
        (seen-at s m after.slots key ∙ ap (s.see m) u.changed)
        (λ q d. seen-at s m after.slots q ∙ ap (s.see m) (u.others q d) ∙ sym (seen-at s m before.slots q))

    -- where it isn't seen nothing is new
    pub new-unseen : s.see m (Some new) ≡ None → seen s m after.slots ≡ seen s m before.slots
    new-unseen e =
        new-seen ∙ ap (set_at nat_eq (seen s m before.slots) key) e
        ∙ sym (is_set_at (seen s m before.slots) (seen s m before.slots) key None (seen-at s m before.slots key ∙ ap (s.see m) free ∙ s.nothing m) (λ q d. refl))
