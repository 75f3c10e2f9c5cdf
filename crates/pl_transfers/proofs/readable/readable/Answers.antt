use Rattle.std.proofs.Common.{◌≡◌, ◌-◌, Some, IsSome, sym, ap, subst, ◌∙◌}
use Rattle.std.specs.Prelude.{option_map}
use Rattle.pl_desc.specs.Rows.{at}
use Rattle.pl_desc.specs.Descs.{Opened}
use Rattle.pl_state.specs.Contents.{Contents}
use Rattle.pl_state.specs.KernelView.{view_of}
use Rattle.pl_state.proofs.by_call.Begun.{there}
use Rattle.pl_transfers.proofs.by_call.Measuring.{AreReadable, readable-front, readable-file}
use Rattle.pl_transfers.proofs.readable.readable.Given.{Over}
use Rattle.pl_transfers.proofs.readable.readable.Goals.{After-node}
use Rattle.pl_transfers.proofs.readable.readable.Goals as goal

-- the description, and what it is on
module _ (g : Over) (c : After-node g) where
  abbrev k : Contents g.row.A.Denot
  k = view_of c.kernel.inside

  here : (o : Opened) × (at k.opened c.args.key ≡ Some o)
  here = there (at k.opened c.args.key) (subst (λ (z : Contents g.row.A.Denot). IsSome (at z.opened c.args.key)) (sym c.kernel.view_is) c.requires)

  on : here.0.node ≡ c.node.result
  on = let told : Some here.0.node ≡ Some c.node.result = sym (ap (option_map (λ (x : Opened). x.node)) here.1) ∙ c.node.ensures in cc

pub returns-in-Pipe : goal.returns-in-Pipe
returns-in-Pipe g c =
    let v = (goal.at.returns-in-Pipe g c).After-node in
    rw (← c.kernel.view_is) (readable-front (k g v) c.kernel.invariant.0.whole c.args.key (here g v).0 (here g v).1 c.in-Pipe.pipe (on g v ∙ c.in-Pipe.is) c.front.result c.front.ensures.value c.front.ensures.within)

pub returns-in-File : goal.returns-in-File
returns-in-File g c =
    let v = (goal.at.returns-in-File g c).After-node in
    let told : Some (here g v).0.offset ≡ Some c.offset.result = sym (ap (option_map (λ (x : Opened). x.offset)) (here g v).1) ∙ c.offset.ensures in
    let offset : (here g v).0.offset ≡ c.offset.result = cc in
    let place : (here g v).0.offset ≡ c.place_in_file-place.result = offset ∙ sym c.place_in_file-place.ensures in
    let found = readable-file (k g v) c.kernel.invariant.0.whole c.args.key (here g v).0 (here g v).1 c.in-File.file (on g v ∙ c.in-File.is) c.file_len.result c.file_len.ensures.value in
    rw (← c.kernel.view_is) (subst (AreReadable (k g v) c.args.key) (ap (λ n. c.file_len.result - n) place ∙ sym c.saturating_sub.ensures) found)
