use Rattle.std.proofs.Common.{◌≡◌, ◌∙◌, ap, sym, subst, length}
use Rattle.pl_file.specs.Rows.{Chunks, IsAt, index_of, lens_of}
use Rattle.pl_file.proofs.Chunking.{spot-behind, index-end}
use Rattle.pl_file.proofs.chunks.Chunks.behind.Given.{Over}
use Rattle.pl_file.proofs.chunks.Chunks.behind.Goals.{After-len}
use Rattle.pl_file.proofs.chunks.Chunks.behind.Goals as goal

len : (g : Over) (c : After-len g) → length c.self.inside.rows.items ≡ c.len.result
len g c = sym (c.len.ensures ∙ c.self.inside.rows.ok.0)

pub returns-clause-spot : goal.returns-clause-spot
returns-clause-spot g c =
    let k = (goal.at.returns-clause-spot g c).After-len in
    subst (λ (v : Chunks). IsAt v.lens c.len.result 0) c.self.view_is (subst (λ n. IsAt (lens_of c.self.inside.rows.items) n 0) (len g k) (spot-behind c.self.inside.rows.items))

pub returns-clause-index : goal.returns-clause-index
returns-clause-index g c =
    let k = (goal.at.returns-clause-index g c).After-len in
    subst (λ (v : Chunks). index_of v.lens c.len.result 0 ≡ length v.slots) c.self.view_is
    (ap (λ n. index_of (lens_of c.self.inside.rows.items) n 0) (sym (len g k)) ∙ index-end c.self.inside.rows.items)
