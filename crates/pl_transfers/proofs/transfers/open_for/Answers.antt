use Rattle.std.proofs.Common.{◌≡◌, ℕ, Some, None, sym, ap, ◌∙◌}
use Rattle.std.specs.Prelude.{option_map}
use Rattle.pl_model.specs.Begin.{open_for}
use Rattle.pl_model.specs.Flags.{has, nonblock}
use Rattle.pl_desc.specs.Rows.{at, row_of}
use Rattle.pl_desc.specs.Descs.{Opened}
use Rattle.pl_state.specs.Contents.{allows, core_of}
use Rattle.pl_state.specs.KernelView.{view_of}
use Rattle.pl_state.specs.Opens.{OpenOn, Opens}
use Rattle.pl_state.proofs.by_call.Begun.{unopened-for, barred-for}
use Rattle.pl_state.proofs.by_call.Closing.{row_found, open_here}
use Rattle.pl_state.proofs.Known.{known}
use Rattle.pl_transfers.proofs.transfers.open_for.Given.{Over}
use Rattle.pl_transfers.proofs.transfers.open_for.Goals.{After-find, After-mode}
use Rattle.pl_transfers.proofs.transfers.open_for.Goals as goal

-- what the descriptor names
named : (g : Over) (c : After-find g) → row_of c.kernel.inside.descs.tables c.args.pid c.args.fd ≡ c.find.result
named g c = row_found c.kernel.inside.descs.tables c.args.pid c.args.fd c.ranges.fd c.find.result c.find.ensures

-- the description that it names
module _ (g : Over) (c : After-mode g) where
  abbrev key : ℕ
  key = c.in_ok-key.key

  row : row_of c.kernel.inside.descs.tables c.args.pid c.args.fd ≡ Some key
  row = named g c.before.before.before ∙ c.in_ok-key.was

  here : (o : Opened) × (at c.kernel.inside.descs.opened key ≡ Some o)
  here = open_here (known c.kernel.inside c.kernel.invariant) c.args.pid c.args.fd key row

  mode : here.0.mode ≡ c.mode.result
  mode = let said : Some here.0.mode ≡ Some c.mode.result = sym (ap (option_map (λ (x : Opened). x.mode)) here.1) ∙ c.mode.ensures in cc

pub returns-in_err-key-clause-none : goal.returns-in_err-key-clause-none
returns-in_err-key-clause-none g c =
    let w = (goal.at.returns-in_err-key-clause-none g c).After-find in
    let none : open_for (allows c.args.access) (core_of (view_of c.kernel.inside)) c.args.pid c.args.fd ≡ None = unopened-for (view_of c.kernel.inside) (allows c.args.access) c.args.pid c.args.fd (named g w ∙ c.in_err-key.was) in
    rw (c.from_residual.ensures, ← c.kernel.view_is) none

pub returns-then-not-is_allowed_by-clause-none : goal.returns-then-not-is_allowed_by-clause-none
returns-then-not-is_allowed_by-clause-none g c =
    let w = (goal.at.returns-then-not-is_allowed_by-clause-none g c).After-mode in
    let o = here g w in
    rw (← c.kernel.view_is) (barred-for (view_of c.kernel.inside) (allows c.args.access) c.args.pid c.args.fd (key g w) o.0 (row g w) o.1 (ap (allows c.args.access) (mode g w) ∙ sym c.is_allowed_by.ensures ∙ c.if-not-is_allowed_by.true))

pub returns-clause-some : goal.returns-clause-some
returns-clause-some g c =
    let w = (goal.at.returns-clause-some g c).After-mode in
    let k = view_of c.kernel.inside in
    let key = key g w in
    let o = here g w in
    let told : Some o.0.node ≡ Some c.node.result = sym (ap (option_map (λ (x : Opened). x.node)) o.1) ∙ c.node.ensures in
    let on : OpenOn k key c.node.result = record { opened = o.0; here = o.1; node = cc } in
    let same : Some on.opened ≡ Some o.0 = sym on.here ∙ o.1 in
    let is : on.opened ≡ o.0 = cc in
    let flags_said : Some on.opened.flags ≡ Some c.flags.result = sym (ap (option_map (λ (x : Opened). x.flags)) on.here) ∙ c.flags.ensures in
    let flags : on.opened.flags ≡ c.flags.result = cc in
    let opens : Opens k (allows c.args.access) c.args.pid c.args.fd (record { key = key; node = c.node.result; nonblock = c.contains.result }) =
    record {
      row = row g w;
      on = on;
      mode = ap (λ (x : Opened). allows c.args.access x.mode) is ∙ ap (allows c.args.access) (mode g w) ∙ sym c.is_allowed_by.ensures ∙ c.if-not-is_allowed_by.false;
      waits = c.contains.ensures tt ∙ ap (λ f. has f.0 nonblock) (sym flags);
    } in
    rw (← c.kernel.view_is) opens
