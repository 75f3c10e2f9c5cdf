-- What a read and a write of a regular file come to at the kernel's keys.
use Rattle.std.proofs.Common.{◌≡◌, ◌≤◌, ◌<◌, ◌^◌, arith, ℕ, ◌+◌, ◌-◌, Bool, true, false, cond, List, [], ◌∷◌, ◌++◌, replicate, inl, inr, Some, IfSome, refl, sym, ◌∙◌, ap, subst, length, take, drop}
use Rattle.std.specs.Prelude.{if◌then◌else◌, ◌==◌, nat_le, ℤ, option_map, unwrap_or, ◌&&◌}
use Rattle.std.proofs.lemmas.Bool.Decides.{nat_tests, leb_tells}
use Rattle.std.proofs.lemmas.List.{length-take, length-drop, append_assoc}
use Rattle.pl_model.specs.Numbers.{most_file_bytes}
use Rattle.pl_model.specs.declared.calls.Mode.{Mode}
use Rattle.pl_model.specs.declared.calls.Call.{Call}
use Rattle.pl_model.specs.declared.calls.Step.{Step}
use Rattle.pl_model.specs.declared.calls.Step.TheVariants.{Begin}
use Rattle.pl_model.specs.declared.node.Node.TheVariants as node
use Rattle.pl_model.specs.declared.replies.Reply.TheVariants.{Bytes, Count, Fault}
use Rattle.pl_model.specs.declared.replies.Errno.TheVariants.{EFBIG}
use Rattle.pl_model.specs.Modes.{reads, writes}
use Rattle.pl_model.specs.Keys.{Plain}
use Rattle.pl_model.specs.State.{Core, Description, Waiting, set_file, can_wait}
use Rattle.pl_model.specs.Map.{change_at}
use Rattle.pl_model.specs.Trial.{Trial, Done, answered, tried, still, flowed}
use Rattle.pl_model.specs.Transfer.{count, moved_to, put_bytes, file_at, read_file, read_node, write_file, write_node}
use Rattle.pl_model.specs.Begin.{may_block}
use Rattle.pl_model.specs.Step.{core_step, ended, first_tried, waiting, try, with_kept, kept_at}
use Rattle.pl_model.specs.Numbered.{numbers}
use Rattle.pl_desc.specs.Rows.{at}
use Rattle.pl_desc.specs.Descs.{Opened}
use Rattle.pl_file.specs.File.{written}
use Rattle.pl_state.specs.declared.access.OpenNode.{OpenNode}
use Rattle.pl_state.specs.Contents.{Contents, contents, node_of, description_of, core_of}
use Rattle.pl_state.specs.Opens.{OpenOn, Opens}
use Rattle.pl_transfers.specs.Files.{OfFile, ReadsFile, WritesFile, IsFull, place_of}
use Rattle.pl_state.specs.Makes.{MakesAtKeys, MayWantAtKeys}
use Rattle.pl_state.proofs.Known.{Caller}
use Rattle.pl_state.proofs.by_call.Begun.{does_plain, does_same, wants_plain, step-tried}
use Rattle.pl_transfers.proofs.by_call.Redescribing.{redescribed, rewritten}
use Rattle.pl_transfers.proofs.by_call.Reading.{at_node}
use Rattle.pl_transfers.proofs.by_call.Writing.{at_node as at_written}

le_tells : (a b : ℕ) → a ≤ b → nat_le a b ≡ true
le_tells a b l = grind (arith, l, nat_tests)

pub not_past : (a b : ℕ) → (a ≤ b → ⊥) → nat_le a b ≡ false
not_past a b n = elim (leb_tells a b) as (λ _. nat_le a b ≡ false) [
  | inl t ↦ absurd (n t.1)
  | inr t ↦ t.0
]

-- what is said of a description on a file that is there
pub of_file : {A : Type 0} (k : Contents A) (key f : ℕ) (o : Opened) (held : List ℕ) (P : Opened → List ℕ → Type 0) → at k.opened key ≡ Some o → at k.nodes.files f ≡ Some held → OfFile k key f P → P o held
of_file k key f o held P here there h = subst (λ z. IfSome z (λ b. P o b)) there (subst (λ z. IfSome z (λ o. IfSome (at k.nodes.files f) (λ b. P o b))) here h)

pub say_file : {A : Type 0} (k : Contents A) (key f : ℕ) (o : Opened) (held : List ℕ) (P : Opened → List ℕ → Type 0) → at k.opened key ≡ Some o → at k.nodes.files f ≡ Some held → P o held → OfFile k key f P
say_file k key f o held P here there h = subst (λ z. IfSome z (λ o. IfSome (at k.nodes.files f) (λ b. P o b))) (sym here) (subst (λ z. IfSome z (λ b. P o b)) (sym there) h)

-- bytes that are written, as the machine puts them
pub written-is : (place : ℕ) (bytes old : List ℕ) → 1 ≤ length bytes → written place bytes old ≡ put_bytes old place bytes
written-is place [] old some = absurd (omega (arith, some))
written-is place (b ∷ bytes) old some = sym (append_assoc (take place old) (replicate (place - length old) 0) ((b ∷ bytes) ++ drop (place + length (b ∷ bytes)) old))

-- what a read answers isn't longer than the file, and doesn't pass its end
pub read-fits : (place n : ℕ) (held items : List ℕ) → items ≡ take n (drop place held) → length held ≤ most_file_bytes → place < 2 ^ 64 → (length items ≤ most_file_bytes) × (place + length items < 2 ^ 64)
read-fits place n held items is short fits =
    let all = ap length is in
    let taken = length-take n (drop place held) in
    let left = length-drop place held in
    (omega (arith, all, taken, left, short), omega (arith, all, taken, left, short, fits))

-- a call that keeps one description, whose file is there
module _ {A : Type 0} (k : Contents A) (d f : ℕ) (on : OpenOn k d (node.File f)) (held : List ℕ) (there : at k.nodes.files f ≡ Some held) (w : Waiting A numbers) (kept : w.kept ≡ d ∷ []) where
  abbrev c : Core A numbers
  c = core_of k

  abbrev x : Description numbers
  x = description_of on.opened

  is_held : file_at c f ≡ held
  unfolding core_of
  is_held = ap (λ z. unwrap_or z []) there

  read-file-tries : (fd : ℤ) (n : ℕ) (may_wait : Bool) → try c w (Call.Read fd n) may_wait ≡ read_file c d x held n
  unfolding try core_of
  read-file-tries fd n may_wait =
      ap (λ ks. with_kept c (kept_at c ks 0) (λ o. read_node c o.key o.description o.description.node n)) kept
      ∙ ap (λ z. with_kept c (option_map (λ y. record { key = d; description = y }) (option_map description_of z)) (λ o. read_node c o.key o.description o.description.node n)) on.here
      ∙ ap (λ z. read_node c d x (node_of z) n) on.node
      ∙ ap (λ z. read_file c d x z n) is_held

  write-file-tries : (fd : ℤ) (bytes : List ℕ) (may_wait : Bool) → try c w (Call.Write fd bytes) may_wait ≡ write_file c d x f bytes
  unfolding try core_of
  write-file-tries fd bytes may_wait =
      ap (λ ks. with_kept c (kept_at c ks 0) (λ o. write_node c o.key o.description o.description.node bytes w.taken may_wait)) kept
      ∙ ap (λ z. with_kept c (option_map (λ y. record { key = d; description = y }) (option_map description_of z)) (λ o. write_node c o.key o.description o.description.node bytes w.taken may_wait)) on.here
      ∙ ap (λ z. write_node c d x (node_of z) bytes w.taken may_wait) on.node

module _ {A : Type 0} (m : Caller A) (fd : ℤ) (e : OpenNode) (f : ℕ) (is_file : e.node ≡ node.File f) where
  open m use {sound, pid, process}

  abbrev k : Contents A
  k = contents m.descs m.nodes m.calls m.limits

  abbrev core : Core A numbers
  core = core_of k

  abbrev on_file : {test : Mode → Bool} → Opens k test pid fd e → OpenOn k e.key (node.File f)
  on_file opens = record { opened = opens.on.opened; here = opens.on.here; node = opens.on.node ∙ is_file }

  -- a read
  module _ (n : ℕ) (opens : Opens k reads pid fd e) (some : (n == 0) ≡ false) (held : List ℕ) (there : at k.nodes.files f ≡ Some held) where
    abbrev step : Step A
    step = Begin pid (Call.Read fd n)

    abbrev o : Opened
    o = opens.on.opened

    abbrev got : List ℕ
    got = take n (drop o.offset held)

    came : core_step core step ≡ Plain (ended core (record { state = flowed (moved_to core e.key (description_of o) (o.offset + length got)) still; reply = Bytes got; flow = still }))
    unfolding read_file
    came =
        step-tried k pid (Call.Read fd n) process (e.key ∷ []) false (may_block (description_of o)) (read_file core e.key (description_of o) held n)
        (at_node m fd n e opens ∙ ap (λ b. cond b (answered core (Bytes [])) (tried core (e.key ∷ []) false (may_block (description_of o)))) some)
        (read-file-tries k e.key f (on_file opens) held there (waiting pid (Call.Read fd n) (e.key ∷ []) false) refl fd n (may_block (description_of o)))

    pub read-file-wants : MayWantAtKeys k step
    read-file-wants = wants_plain k k step _ came refl

    pub read-file-made : (bytes : List ℕ) (new : Contents A) → ReadsFile k e.key f n bytes new → MakesAtKeys k step (Bytes bytes) new
    unfolding flowed
    read-file-made bytes new reads =
        let is : bytes ≡ got = of_file k e.key f o held (λ o held. bytes ≡ take n (drop o.offset held)) opens.on.here there reads.read in
        let opened : at new.opened ≡ change_at e.key (λ x. record x { offset = o.offset + length bytes }) (at k.opened) =
        of_file k e.key f o held (λ o held. at new.opened ≡ change_at e.key (λ x. record x { offset = o.offset + length bytes }) (at k.opened)) opens.on.here there reads.opened in
        does_plain k new step _ (Bytes bytes) came (ap (λ z. Bytes z) is)
        (redescribed k sound e.key o opens.on.here (λ x. record x { offset = o.offset + length got }) (λ x. refl) refl new
        (opened ∙ ap (λ z. change_at e.key (λ (x : Opened). record x { offset = o.offset + length z }) (at k.opened)) is) reads.rest)

  -- a write
  module _ (bytes : List ℕ) (opens : Opens k writes pid fd e) (some : (length bytes == 0) ≡ false) (held : List ℕ) (there : at k.nodes.files f ≡ Some held) where
    abbrev write_step : Step A
    write_step = Begin pid (Call.Write fd bytes)

    abbrev p : Opened
    p = opens.on.opened

    abbrev start : ℕ
    start = place_of p held

    abbrev fits : List ℕ
    fits = take (m.limits.file_max - start) bytes

    abbrev wrote : Core A numbers
    wrote = moved_to (set_file core f (put_bytes held start fits)) e.key (description_of p) (start + length fits)

    abbrev row : Bool → Trial A numbers
    row full = if full then Done core still (Fault EFBIG) else Done wrote still (count (length fits))

    -- the same of any bytes that the file may hold
    abbrev row_of : List ℕ → Trial A numbers
    row_of z =
        let w = take (m.limits.file_max - place_of p z) bytes in
        if nat_le m.limits.file_max (place_of p z) then Done core still (Fault EFBIG)
        else Done (moved_to (set_file core f (put_bytes z (place_of p z) w)) e.key (description_of p) (place_of p z + length w)) still (count (length w))

    tries : try core (waiting pid (Call.Write fd bytes) (e.key ∷ []) false) (Call.Write fd bytes) (may_block (description_of p)) ≡ row (nat_le m.limits.file_max start)
    unfolding write_file core_of
    tries =
        write-file-tries k e.key f (on_file opens) held there (waiting pid (Call.Write fd bytes) (e.key ∷ []) false) refl fd bytes (may_block (description_of p))
        ∙ ap row_of (is_held k e.key f (on_file opens) held there (waiting pid (Call.Write fd bytes) (e.key ∷ []) false) refl)

    came_to : (full : Bool) → nat_le m.limits.file_max start ≡ full → core_step core write_step ≡ Plain (ended core (first_tried core (waiting pid (Call.Write fd bytes) (e.key ∷ []) false) (may_block (description_of p) && can_wait core pid) (row full)))
    came_to full is =
        step-tried k pid (Call.Write fd bytes) process (e.key ∷ []) false (may_block (description_of p)) (row full)
        (at_written m fd bytes e opens ∙ ap (λ b. cond b (answered core (count 0)) (tried core (e.key ∷ []) false (may_block (description_of p)))) some)
        (tries ∙ ap row is)

    pub write-file-full : IsFull k e.key f → MakesAtKeys k write_step (Fault EFBIG) k
    unfolding flowed
    write-file-full full =
        let past : m.limits.file_max ≤ start = of_file k e.key f p held (λ o held. m.limits.file_max ≤ place_of o held) opens.on.here there full in
        does_same k sound write_step _ (Fault EFBIG) (came_to true (le_tells m.limits.file_max start past)) refl refl

    module _ (below : nat_le m.limits.file_max start ≡ false) where
      pub write-file-wants : MayWantAtKeys k write_step
      write-file-wants = wants_plain k k write_step _ (came_to false below) refl

      pub write-file-made : (n : ℕ) (new : Contents A) → WritesFile k e.key f bytes n new → MakesAtKeys k write_step (Count n false) new
      unfolding flowed
      write-file-made n new writes =
          let is : n ≡ length fits = of_file k e.key f p held (λ o held. n ≡ length (take (m.limits.file_max - place_of o held) bytes)) opens.on.here there writes.wrote in
          let files = of_file k e.key f p held (λ o held. at new.nodes.files ≡ change_at f (λ b. put_bytes b (place_of o held) (take (m.limits.file_max - place_of o held) bytes)) (at k.nodes.files)) opens.on.here there writes.files in
          let opened : at new.opened ≡ change_at e.key (λ x. record x { offset = start + n }) (at k.opened) =
          of_file k e.key f p held (λ o held. at new.opened ≡ change_at e.key (λ x. record x { offset = place_of o held + n }) (at k.opened)) opens.on.here there writes.opened in
          does_plain k new write_step _ (Count n false) (came_to false below) (ap (λ z. Count z false) is)
          (rewritten k sound e.key p opens.on.here (λ x. record x { offset = start + length fits }) (λ x. refl) refl new
          (opened ∙ ap (λ z. change_at e.key (λ (x : Opened). record x { offset = start + z }) (at k.opened)) is)
          f held there (λ b. put_bytes b start fits) files writes.rest)
