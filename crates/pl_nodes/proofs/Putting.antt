-- The first slices of a pipe that are put in a file.
use Rattle.std.proofs.Common.{◌≡◌, ℕ, ◌+◌, ◌-◌, ◌≤◌, List, Some, sym, ◌∙◌, ap, subst, length, take, slice_set, arith}
use Rattle.std.specs.Prelude.{IfSome}
use Rattle.std.proofs.lemmas.List.{length-take, take_all}
use Rattle.pl_model.specs.Numbers.{most_file_bytes}
use Rattle.pl_model.specs.Map.{change_at}
use Rattle.pl_segments.specs.declared.slice.Slice.{Slice}
use Rattle.pl_segments.specs.Segments.{Segments, segment_at, at}
use Rattle.pl_segments.specs.Slices.{all_read, naming}
use Rattle.pl_segments.specs.Turns.{Turns}
use Rattle.pl_segments.specs.Slots.{total, solid_of, drop_bytes, front_of}
use Rattle.pl_segments.specs.Sharing.{named, AreShared}
use Rattle.pl_file.specs.File.{written, fitting}
use Rattle.pl_file.specs.Joined.{between}
use Rattle.pl_file.proofs.Joining.{naming-between}
use Rattle.pl_nodes.specs.declared.content.PipeNode.{PipeNode}
use Rattle.pl_nodes.specs.declared.content.FileNode.{FileNode}
use Rattle.pl_nodes.specs.declared.content.Content.TheVariants.{Pipe, File}
use Rattle.pl_nodes.specs.declared.nodes.Nodes.TheInside.{Inside}
use Rattle.pl_nodes.specs.Nodes.{Nodes, bytes_of}
use Rattle.pl_nodes.specs.NodesView.{lists, view_of, IsSound}
use Rattle.pl_nodes.specs.Queue.{slots_of}
use Rattle.pl_nodes.proofs.Slices.{naming-front, naming-solid, naming-drop}
use Rattle.pl_nodes.proofs.AtKey.{held, with_content}
use Rattle.pl_nodes.proofs.Files.{file-total, file-told, file-done}
use Rattle.pl_nodes.proofs.Lending.{front-exact, front-bytes, front-few}

-- what a file names once slices stand in it
naming-put : (file slices : List Slice) (place moved : ℕ) (key : ℕ)
    → naming (between (front_of place file) (solid_of (front_of moved slices)) (drop_bytes (place + moved) file)) key ≤ naming file key + naming slices key + naming file key
naming-put file slices place moved key =
    let a = naming-between (front_of place file) (solid_of (front_of moved slices)) (drop_bytes (place + moved) file) key in
    let c = naming-front place file key in
    let d = naming-solid (front_of moved slices) key in
    let e = naming-front moved slices key in
    let f = naming-drop (place + moved) file key in
    omega (arith, a, c, d, e, f)

module _ {A : Type 0} (k : Inside A) (sound : IsSound k) (flat : Nodes) (is : view_of k ≡ flat)
    (from : ℕ) (s : PipeNode A) (source : at k.contents.slots from ≡ Some (Pipe s)) (count : ℕ) (slices : List Slice) (front : slices ≡ front_of count (slots_of s.queue))
    (to : ℕ) (f : FileNode A) (there : at k.contents.slots to ≡ Some (File f)) (place : ℕ) (fits : place + count ≤ flat.limits.file_max) where
  -- they fit the file
  most-is : k.limits.file_max ≡ flat.limits.file_max
  most-is = ap (λ (v : Nodes). v.limits.file_max) is

  pub put-long : total slices ≤ most_file_bytes
  put-long =
      let few = front-few k sound flat is from s source count slices front in
      let e = most-is in
      let most = sound.most in
      omega (arith, few, e, most, fits)

  pub put-some : IfSome (at flat.pipes from) (λ x. count ≤ length x.bytes) → 1 ≤ count → (moved : ℕ) → moved ≡ fitting (total slices) place k.limits.file_max → 1 ≤ moved
  put-some asked some moved e =
      let all = front-exact k sound flat is from s source count slices front asked in
      let m = most-is in
      omega (arith, all, m, e, some, fits)

  -- the place isn't past the file's end
  pub put-within : IfSome (at flat.files to) (λ bytes. place ≤ length bytes) → place ≤ total f.file
  put-within asked =
      let told = file-told k to f there sound flat is (λ bytes. place ≤ length bytes) asked in
      let sum = file-total k to f there sound flat is in
      omega (arith, told, sum)

  module _ (store : Segments) (file : List Slice) (turns : Turns (segment_at k.store) f.file (segment_at store) file) where
    pub put-ok : all_read (segment_at store) file ≡ written place (take (k.limits.file_max - place) (all_read (segment_at k.store) slices)) (all_read (segment_at k.store) f.file)
        → at (view_of (with_content k to (File f) there sound store (File (record f { file = file })))).files ≡ change_at to (written place (take count (bytes_of (at flat.pipes from)))) (at flat.files)
    put-ok read =
        let bytes = take count (bytes_of (at flat.pipes from)) in
        let reads : all_read (segment_at k.store) slices ≡ bytes = front-bytes k sound flat is from s source count slices front in
        let long = length-take count (bytes_of (at flat.pipes from)) in
        let m = most-is in
        let all : take (k.limits.file_max - place) bytes ≡ bytes = take_all (k.limits.file_max - place) bytes (omega (arith, long, m, fits)) in
        file-done k to f there sound flat is store (record f { file = file }) turns (written place bytes)
        (read ∙ ap (λ bs. written place bs (all_read (segment_at k.store) f.file)) (ap (take (k.limits.file_max - place)) reads ∙ all))

    -- each segment that is named was named
    pub put-named : AreShared (segment_at store) (lists (slice_set k.contents.slots to (Some (File (record f { file = file })))))
        → (moved : ℕ) → file ≡ between (front_of place f.file) (solid_of (front_of moved slices)) (drop_bytes (place + moved) f.file)
        → (key : ℕ) → 1 ≤ named (lists (slice_set k.contents.slots to (Some (File (record f { file = file }))))) key → 1 ≤ named flat.slots key
    put-named shared moved e key one =
        let now = shared.counted key in
        let was = sound.shared.counted key in
        let t = turns.counted key in
        let a = (held k to (File f) there sound).few key in
        let b = (held k from (Pipe s) source sound).few key in
        let n : naming file key ≤ naming f.file key + naming slices key + naming f.file key = subst (λ ys. naming ys key ≤ naming f.file key + naming slices key + naming f.file key) (sym e) (naming-put f.file slices place moved key) in
        let l : naming slices key ≤ naming (slots_of s.queue) key = subst (λ ys. naming ys key ≤ naming (slots_of s.queue) key) (sym front) (naming-front count (slots_of s.queue) key) in
        let seen : named (lists k.contents.slots) key ≡ named flat.slots key = ap (λ (v : Nodes). named v.slots key) is in
        omega (arith, one, now, was, t, a, b, n, l, seen)
