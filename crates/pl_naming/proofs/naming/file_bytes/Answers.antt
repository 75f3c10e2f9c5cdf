use Rattle.std.proofs.Common.{◌≡◌, ℕ, List, Some, None, sym, ap, subst, ◌∙◌, nat_eq}
use Rattle.std.specs.Prelude.{IsSome, IfSome}
use Rattle.std.specs.Cmp.Lexicographic.{pointwise}
use Rattle.pl_model.specs.declared.node.Node.TheVariants as node
use Rattle.pl_model.specs.Map.{get}
use Rattle.pl_desc.specs.Rows.{at}
use Rattle.pl_nodes.proofs.Keyed.{on_err}
use Rattle.pl_state.specs.Contents.{Contents, IsThere}
use Rattle.pl_state.specs.KernelView.{view_of}
use Rattle.pl_state.specs.Makes.{Tells, HasFile}
use Rattle.pl_naming.proofs.by_call.Unlinking.{named_has}
use Rattle.pl_naming.proofs.by_call.Telling.{tells_none, tells_none_of_pipe, tells_some, has_file, whole, fits}
use Rattle.pl_naming.proofs.naming.file_bytes.Given.{Over}
use Rattle.pl_naming.proofs.naming.file_bytes.Goals.{In-File}
use Rattle.pl_naming.proofs.naming.file_bytes.Goals as goal

-- the name stands for a file
module _ (g : Over) (c : In-File g) where
  abbrev k : Contents g.row.A.Denot
  k = view_of c.kernel.inside

  abbrev name : List ℕ
  name = c.as_slice.result.now

  stood : get (pointwise nat_eq) k.nodes.names name ≡ Some (node.File c.in-File.file)
  stood = sym c.look_up.ensures ∙ c.in-Some.is ∙ ap (λ n. Some n) c.in-File.is

  there : IsSome (at k.nodes.files c.in-File.file)
  there = named_has (IsThere k.nodes) k.nodes.names name (node.File c.in-File.file) c.kernel.invariant.0.there.named stood

pub returns-in_default-clause-told : goal.returns-in_default-clause-told
returns-in_default-clause-told g c =
    rw (← c.kernel.view_is) (subst (λ n. Tells (view_of c.kernel.inside) n None) c.as_slice.ensures (tells_none (view_of c.kernel.inside) c.as_slice.result.now (sym c.look_up.ensures ∙ c.in_default.is)))

pub returns-in_default-node-clause-told : goal.returns-in_default-node-clause-told
returns-in_default-node-clause-told g c =
    rw (← c.kernel.view_is) (subst (λ n. Tells (view_of c.kernel.inside) n None) c.as_slice.ensures
    (tells_none_of_pipe (view_of c.kernel.inside) c.as_slice.result.now c.in_default-node.field-0 (sym c.look_up.ensures ∙ c.in-Some.is ∙ ap (λ n. Some n) c.in_default-node.is)))

pub file_len-requires : goal.file_len-requires
file_len-requires g c = there g (goal.at.file_len-requires g c).In-File

pub read_file-requires : goal.read_file-requires
read_file-requires g c = there g (goal.at.read_file-requires g c).In-File

pub returns-in_err-bytes-clause-wanted : goal.returns-in_err-bytes-clause-wanted
returns-in_err-bytes-clause-wanted g c =
    let w = (goal.at.returns-in_err-bytes-clause-wanted g c).In-File in
    on_err c.from_residual.result _
    (rw (← c.kernel.view_is) (subst (λ n. HasFile (view_of c.kernel.inside) n) c.as_slice.ensures (has_file (view_of c.kernel.inside) c.as_slice.result.now c.in-File.file (stood g w) (there g w))))

pub unwrap-requires : goal.unwrap-requires
unwrap-requires g c =
    let w = (goal.at.unwrap-requires g c).In-File in
    c.from_vec.ensures.fits.1 (fits c.file_len.result c.in_ok-bytes.bytes.items (at (k g w).nodes.files c.in-File.file) (there g w) c.in_ok-bytes.ensures c.file_len.ensures.value c.file_len.ensures.few)

pub returns-clause-told : goal.returns-clause-told
returns-clause-told g c =
    let w = (goal.at.returns-clause-told g c).In-File in
    let bytes : at (k g w).nodes.files c.in-File.file ≡ Some c.in_ok-bytes.bytes.items = whole c.file_len.result c.in_ok-bytes.bytes.items (at (k g w).nodes.files c.in-File.file) (there g w) c.in_ok-bytes.ensures c.file_len.ensures.value in
    let made : c.unwrap.result ≡ c.in_ok-bytes.bytes.items = subst (λ o. IfSome o (λ b. b ≡ c.in_ok-bytes.bytes.items)) c.unwrap.ensures c.from_vec.ensures.list in
    rw (← c.kernel.view_is) (subst (λ n. Tells (view_of c.kernel.inside) n (Some c.unwrap.result)) c.as_slice.ensures
    (tells_some (view_of c.kernel.inside) c.as_slice.result.now c.in-File.file (stood g w) c.unwrap.result (bytes ∙ ap (λ b. Some b) (sym made))))
