use Rattle.std.proofs.Common.{◌≡◌, ◌∙◌, ap, sym, subst, take, drop}
use Rattle.std.specs.Prelude.{IfOk}
use Rattle.pl_segments.specs.Segments.{segment_at}
use Rattle.pl_segments.specs.Slices.{AllLie, all_read}
use Rattle.pl_segments.specs.Slots.{drop_bytes, front_of}
use Rattle.pl_segments.proofs.Fronting.{front-lie, front-read}
use Rattle.pl_file.proofs.Editing.{lie-drop, drop-read}
use Rattle.pl_file.proofs.file.File.read_at.Given.{Over}
use Rattle.pl_file.proofs.file.File.read_at.Goals.{After-as_slice}
use Rattle.pl_file.proofs.file.File.read_at.Goals as goal

-- the slices that are read
module _ (g : Over) (c : After-as_slice g) where
  listed : c.as_slice.result.now ≡ front_of c.args.count (drop_bytes c.args.place c.args.self.now)
  listed = c.as_slice.ensures ∙ c.in_ok-list.ensures

pub read_all-requires : goal.read_all-requires
read_all-requires g c =
    let m = segment_at c.args.store.now in
    let xs = c.args.self.now in
    subst (AllLie m) (sym (listed g (goal.at.read_all-requires g c).After-as_slice)) (front-lie m (drop_bytes c.args.place xs) c.args.count (lie-drop m xs c.args.place c.requires))

pub returns : goal.returns
returns g c =
    let m = segment_at c.args.store.now in
    let xs = c.args.self.now in
    let l = listed g (goal.at.returns g c).After-as_slice in
    let all : all_read m c.as_slice.result.now ≡ take c.args.count (drop c.args.place (all_read m xs)) =
    ap (all_read m) l ∙ front-read m (drop_bytes c.args.place xs) c.args.count (lie-drop m xs c.args.place c.requires) ∙ ap (take c.args.count) (drop-read m xs c.args.place c.requires) in
    subst (λ bytes. IfOk c.read_all.result (λ r. r.items ≡ bytes)) all c.read_all.ensures
