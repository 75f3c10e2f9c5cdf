use Rattle.std.proofs.Common.{◌≡◌, ◌∙◌, ◌++◌, ◌∷◌, [], ◌+◌, ◌-◌, List, ap, sym, subst, length, take, arith}
use Rattle.std.specs.Prelude.{is_ok, IfOk}
use Rattle.std.proofs.lemmas.Result.{IfOk-at_ok}
use Rattle.pl_segments.specs.declared.slice.Slice.{Slice}
use Rattle.pl_segments.specs.Segments.{segment_at}
use Rattle.pl_segments.specs.Slices.{reads, all_read}
use Rattle.pl_segments.specs.Slots.{total, AllSolid}
use Rattle.pl_segments.specs.Turns.{Turns}
use Rattle.pl_segments.proofs.SlotLemmas.{total-append}
use Rattle.pl_segments.proofs.Pushing.{tail-lies, tail-fits, tail-turns, tail-read, tail-solid}
use Rattle.pl_file.specs.Rows.{AllWithin}
use Rattle.pl_file.proofs.Editing.{lie-within}
use Rattle.pl_file.proofs.edit.grow_tail.Given.{Over}
use Rattle.pl_file.proofs.edit.grow_tail.Goals.{After-unwrap-longer}
use Rattle.pl_file.proofs.edit.grow_tail.Goals as goal

-- all but the last
abbrev front : List Slice → List Slice
front xs = take (length xs - 1) xs

pub try_append-requires : goal.try_append-requires
try_append-requires g c =
    let m = segment_at c.args.store.now in
    let x = c.last-last.result in
    tail-lies m m c.args.chunks.now.slots (front c.args.chunks.now.slots) x x c.args.bytes.now c.last-last.ensures.shape c.requires.held

pub unwrap-longer-requires : goal.unwrap-longer-requires
unwrap-longer-requires g c =
    let m = segment_at c.args.store.now in
    let x = c.last-last.result in
    ap is_ok (c.try_append.ensures.value ∙ tail-fits m m c.args.chunks.now.slots (front c.args.chunks.now.slots) x x c.args.bytes.now c.last-last.ensures.shape c.requires.held c.requires.some c.requires.fits)

-- the longer slice
module _ (g : Over) (c : After-unwrap-longer g) where
  turns : Turns (segment_at c.args.store.now) (c.last-last.result ∷ []) (segment_at c.try_append.new.self) (c.unwrap-longer.result ∷ [])
  turns = IfOk-at_ok (λ more. Turns (segment_at c.args.store.now) (c.last-last.result ∷ []) (segment_at c.try_append.new.self) (more ∷ [])) c.unwrap-longer.ensures c.try_append.ensures.turns

  read : reads (segment_at c.try_append.new.self) c.unwrap-longer.result ≡ reads (segment_at c.args.store.now) c.last-last.result ++ c.args.bytes.now
  read = IfOk-at_ok (λ more. reads (segment_at c.try_append.new.self) more ≡ reads (segment_at c.args.store.now) c.last-last.result ++ c.args.bytes.now) c.unwrap-longer.ensures c.try_append.ensures.reads

  len : c.last-last.result.len + length c.args.bytes.now ≡ c.unwrap-longer.result.len
  len =
      let m = segment_at c.args.store.now in
      let x = c.last-last.result in
      let fits = tail-fits m m c.args.chunks.now.slots (front c.args.chunks.now.slots) x x c.args.bytes.now c.last-last.ensures.shape c.requires.held c.requires.some c.requires.fits in
      IfOk-at_ok (λ (s : Slice). x.len + length c.args.bytes.now ≡ s.len) c.unwrap-longer.ensures (subst (λ r. IfOk r (λ (s : Slice). x.len + length c.args.bytes.now ≡ s.len)) (sym (c.try_append.ensures.value ∙ fits)) (omega arith))

  sum : total (front c.args.chunks.now.slots) + c.unwrap-longer.result.len ≡ total c.args.chunks.now.slots + length c.args.bytes.now
  sum =
      let l = len in
      let a = ap total c.last-last.ensures.shape in
      let b = total-append (front c.args.chunks.now.slots) (c.last-last.result ∷ []) in
      omega (arith, l, a, b)

pub set_last-requires-clause-fits : goal.set_last-requires-clause-fits
set_last-requires-clause-fits g c = let s = sum g (goal.at.set_last-requires-clause-fits g c).After-unwrap-longer in omega (arith, s, c.requires.most)

pub returns-clause-added : goal.returns-clause-added
returns-clause-added g c =
    let m = segment_at c.args.store.now in
    let n = segment_at c.try_append.new.self in
    let xs = c.args.chunks.now.slots in
    let k = (goal.at.returns-clause-added g c).After-unwrap-longer in
    let last = c.last-last.result in
    let longer = c.unwrap-longer.result in
    let shape = c.last-last.ensures.shape in
    let set = c.set_last.ensures in
    let turned = tail-turns m n xs (front xs) last longer c.args.bytes.now shape c.requires.held (turns g k) in
    record {
      turns = subst (Turns m xs n) (sym set) turned;
      read = ap (all_read n) set ∙ tail-read m n xs (front xs) last longer c.args.bytes.now shape c.requires.held (turns g k) (read g k);
      solid =
          let l = len g k in
          subst AllSolid (sym set) (tail-solid m m xs (front xs) last longer c.args.bytes.now shape c.requires.held c.requires.solid (omega (arith, l, c.requires.some)));
      within = subst AllWithin (sym set) (lie-within c.try_append.new.self.held ((front xs) ++ longer ∷ []) c.in_use-segments.ensures.good turned.lie);
      total =
          let s = sum g k in
          let a = ap total set in
          let b = total-append (front xs) (longer ∷ []) in
          omega (arith, s, a, b);
    }
