use Rattle.std.proofs.Common.{List, Some, sym, ap, subst, ◌∙◌, ℕ}
use Rattle.std.specs.Prelude.{All}
use Rattle.pl_model.specs.declared.node.Node.{Node}
use Rattle.pl_model.specs.declared.node.Node.TheVariants as node
use Rattle.pl_state.specs.Contents.{Contents, IsThere}
use Rattle.pl_naming.specs.Openings.{IsRefused, MayOpen}
use Rattle.pl_naming.proofs.by_call.Opening.{refused-makes}
use Rattle.pl_naming.proofs.by_call.Unlinking.{named_has}
use Rattle.pl_state.proofs.Known.{caller}
use Rattle.pl_naming.proofs.naming.open_name.Goals as goal

pub returns-in-Err-clause-done : goal.returns-in-Err-clause-done
returns-in-Err-clause-done g c =
    let m = caller c.kernel.inside c.kernel.invariant c.args.kernel.now c.kernel.view_is c.args.pid c.requires in
    let refused = subst (λ (k : Contents g.row.A.Denot). IsRefused k c.args.pid c.as_slice-bytes.result.now c.args.mode c.args.flags c.in-Err.errno) (sym c.kernel.view_is) (c.in-Err.ensures c.args.mode) in
    rw (← c.as_slice-bytes.ensures, ← c.kernel.view_is) (refused-makes m c.as_slice-bytes.result.now c.args.mode c.args.flags c.in-Err.errno refused)

pub open_file-requires-clause-lowest : goal.open_file-requires-clause-lowest
open_file-requires-clause-lowest g c = (c.in-Ok.ensures c.args.mode).lowest

pub open_file-requires-clause-few : goal.open_file-requires-clause-few
open_file-requires-clause-few g c = (c.in-Ok.ensures c.args.mode).few

pub open_file-requires-clause-there : goal.open_file-requires-clause-there
open_file-requires-clause-there g c =
    let all = subst (λ (k : Contents g.row.A.Denot). All (λ (e : List ℕ × Node). IsThere k.nodes e.1) k.nodes.names) c.kernel.view_is c.kernel.invariant.0.there.named in
    named_has (IsThere c.args.kernel.now.nodes) c.args.kernel.now.nodes.names c.as_slice-bytes.result.now (node.File c.in-File.file) all
    ((c.in-Ok.ensures c.args.mode).named ∙ c.in-Some.is ∙ ap (λ z. Some z) c.in-File.is)

pub create_file-requires-clause-may : goal.create_file-requires-clause-may
create_file-requires-clause-may g c =
    subst (MayOpen c.args.kernel.now c.args.pid c.as_slice-bytes.result.now c.args.mode c.args.flags c.in-Ok.checked.0) c.in_default.is (c.in-Ok.ensures c.args.mode)

pub open_fifo-requires-clause-may : goal.open_fifo-requires-clause-may
open_fifo-requires-clause-may g c =
    let found = c.in-Some.is ∙ ap (λ z. Some z) c.in-Pipe.is in
    subst (λ name. MayOpen c.args.kernel.now c.args.pid name c.args.mode c.args.flags c.in-Ok.checked.0 (Some (node.Pipe c.in-Pipe.pipe))) c.as_slice-bytes.ensures
    (subst (MayOpen c.args.kernel.now c.args.pid c.as_slice-bytes.result.now c.args.mode c.args.flags c.in-Ok.checked.0) found (c.in-Ok.ensures c.args.mode))

pub open_fifo-requires-clause-there : goal.open_fifo-requires-clause-there
open_fifo-requires-clause-there g c =
    let all = subst (λ (k : Contents g.row.A.Denot). All (λ (e : List ℕ × Node). IsThere k.nodes e.1) k.nodes.names) c.kernel.view_is c.kernel.invariant.0.there.named in
    named_has (IsThere c.args.kernel.now.nodes) c.args.kernel.now.nodes.names c.as_slice-bytes.result.now (node.Pipe c.in-Pipe.pipe) all
    ((c.in-Ok.ensures c.args.mode).named ∙ c.in-Some.is ∙ ap (λ z. Some z) c.in-Pipe.is)
