use Rattle.std.proofs.Common.{◌≡◌, ℕ, List, true, false, ⊎_elim, refl, sym, ◌∙◌, subst, rules, w32, SFits}
use Rattle.pl_model.specs.declared.calls.Call.{Call}
use Rattle.pl_model.specs.Keys.{Node}
use Rattle.pl_model.specs.Numbered.{numbers}
use Rattle.pl_model.specs.Touching.{touches_by}
use Rattle.pl_model.proofs.settling.Members.{or_elim, or_left, or_right}
use Rattle.pl_state.specs.Contents.{core_of}
use Rattle.pl_kernel.specs.Index.{TouchesAll}
use Rattle.pl_kernel.proofs.index.Finding.{as-bits}
use Rattle.pl_kernel.proofs.touch.touch_begin.Goals as goal

pub returns-in-OpenName-clause-touched : goal.returns-in-OpenName-clause-touched
unfolding touches_by
returns-in-OpenName-clause-touched g c =
    subst (λ call. TouchesAll c.args.waiters.now c.touch_name.new.waiters (λ node. touches_by (core_of c.args.state.now) node c.args.pid call)) (sym c.in-OpenName.is)
    (subst (λ (name : List ℕ). TouchesAll c.args.waiters.now c.touch_name.new.waiters (λ node. touches_by (core_of c.args.state.now) node c.args.pid (Call.OpenName name c.in-OpenName.mode c.in-OpenName.flags))) c.as_slice.ensures
    c.touch_name.ensures.touched)

pub returns-in-Read-clause-touched : goal.returns-in-Read-clause-touched
unfolding touches_by
returns-in-Read-clause-touched g c =
    let core = core_of c.args.state.now in
    let fits : SFits w32 c.in-Read.fd = search rules in
    subst (λ call. TouchesAll c.args.waiters.now c.touch_fd.new.waiters (λ node. touches_by core node c.args.pid call)) (sym c.in-Read.is)
    (λ node t. c.touch_fd.ensures.touched node (as-bits core node c.args.pid c.in-Read.fd fits t))

pub returns-in-Write-clause-touched : goal.returns-in-Write-clause-touched
unfolding touches_by
returns-in-Write-clause-touched g c =
    let core = core_of c.args.state.now in
    let fits : SFits w32 c.in-Write.fd = search rules in
    subst (λ call. TouchesAll c.args.waiters.now c.touch_fd-in-Write.new.waiters (λ node. touches_by core node c.args.pid call)) (sym c.in-Write.is)
    (λ node t. c.touch_fd-in-Write.ensures.touched node (as-bits core node c.args.pid c.in-Write.fd fits t))

pub returns-in-Dup2-clause-touched : goal.returns-in-Dup2-clause-touched
unfolding touches_by
returns-in-Dup2-clause-touched g c =
    let core = core_of c.args.state.now in
    let fits : SFits w32 c.in-Dup2.target = search rules in
    subst (λ call. TouchesAll c.args.waiters.now c.touch_fd-in-Dup2.new.waiters (λ node. touches_by core node c.args.pid call)) (sym c.in-Dup2.is)
    (λ node t. c.touch_fd-in-Dup2.ensures.touched node (as-bits core node c.args.pid c.in-Dup2.target fits t))

pub returns-in-Close-clause-touched : goal.returns-in-Close-clause-touched
unfolding touches_by
returns-in-Close-clause-touched g c =
    let core = core_of c.args.state.now in
    let fits : SFits w32 c.in-Close.fd = search rules in
    subst (λ call. TouchesAll c.args.waiters.now c.touch_fd-in-Close.new.waiters (λ node. touches_by core node c.args.pid call)) (sym c.in-Close.is)
    (λ node t. c.touch_fd-in-Close.ensures.touched node (as-bits core node c.args.pid c.in-Close.fd fits t))

pub returns-in-Lseek-clause-touched : goal.returns-in-Lseek-clause-touched
unfolding touches_by
returns-in-Lseek-clause-touched g c =
    let core = core_of c.args.state.now in
    let fits : SFits w32 c.in-Lseek.fd = search rules in
    subst (λ call. TouchesAll c.args.waiters.now c.touch_fd-in-Lseek.new.waiters (λ node. touches_by core node c.args.pid call)) (sym c.in-Lseek.is)
    (λ node t. c.touch_fd-in-Lseek.ensures.touched node (as-bits core node c.args.pid c.in-Lseek.fd fits t))

pub returns-in-SetFl-clause-touched : goal.returns-in-SetFl-clause-touched
unfolding touches_by
returns-in-SetFl-clause-touched g c =
    let core = core_of c.args.state.now in
    let fits : SFits w32 c.in-SetFl.fd = search rules in
    subst (λ call. TouchesAll c.args.waiters.now c.touch_fd-in-SetFl.new.waiters (λ node. touches_by core node c.args.pid call)) (sym c.in-SetFl.is)
    (λ node t. c.touch_fd-in-SetFl.ensures.touched node (as-bits core node c.args.pid c.in-SetFl.fd fits t))

pub returns-in-SetPipeSz-clause-touched : goal.returns-in-SetPipeSz-clause-touched
unfolding touches_by
returns-in-SetPipeSz-clause-touched g c =
    let core = core_of c.args.state.now in
    let fits : SFits w32 c.in-SetPipeSz.fd = search rules in
    subst (λ call. TouchesAll c.args.waiters.now c.touch_fd-in-SetPipeSz.new.waiters (λ node. touches_by core node c.args.pid call)) (sym c.in-SetPipeSz.is)
    (λ node t. c.touch_fd-in-SetPipeSz.ensures.touched node (as-bits core node c.args.pid c.in-SetPipeSz.fd fits t))

pub returns-in-Splice-clause-touched : goal.returns-in-Splice-clause-touched
unfolding touches_by
returns-in-Splice-clause-touched g c =
    let core = core_of c.args.state.now in
    let from_fits : SFits w32 c.in-Splice.from = search rules in
    let to_fits : SFits w32 c.in-Splice.to = search rules in
    subst (λ call. TouchesAll c.args.waiters.now c.touch_fds.new.waiters (λ node. touches_by core node c.args.pid call)) (sym c.in-Splice.is)
    (λ node t. c.touch_fds.ensures.touched node
    (or_elim _ _ (λ h. or_left _ _ (as-bits core node c.args.pid c.in-Splice.from from_fits h)) (λ h. or_right _ _ (as-bits core node c.args.pid c.in-Splice.to to_fits h)) t))

pub returns-in-Tee-clause-touched : goal.returns-in-Tee-clause-touched
unfolding touches_by
returns-in-Tee-clause-touched g c =
    let core = core_of c.args.state.now in
    let from_fits : SFits w32 c.in-Tee.from = search rules in
    let to_fits : SFits w32 c.in-Tee.to = search rules in
    subst (λ call. TouchesAll c.args.waiters.now c.touch_fds-in-Tee.new.waiters (λ node. touches_by core node c.args.pid call)) (sym c.in-Tee.is)
    (λ node t. c.touch_fds-in-Tee.ensures.touched node
    (or_elim _ _ (λ h. or_left _ _ (as-bits core node c.args.pid c.in-Tee.from from_fits h)) (λ h. or_right _ _ (as-bits core node c.args.pid c.in-Tee.to to_fits h)) t))

pub returns-in-Exit-clause-touched : goal.returns-in-Exit-clause-touched
unfolding touches_by
returns-in-Exit-clause-touched g c = subst (λ call. TouchesAll c.args.waiters.now c.touch_process.new.waiters (λ node. touches_by (core_of c.args.state.now) node c.args.pid call)) (sym c.in-Exit.is) c.touch_process.ensures.touched

-- the others touch nothing
pub returns-in-Pipe-clause-touched : goal.returns-in-Pipe-clause-touched
unfolding touches_by
returns-in-Pipe-clause-touched g c =
    let core = core_of c.args.state.now in
    let still : (call : Call g.row.A.Denot) → c.args.call.now ≡ call → ((node : Node numbers) → touches_by core node c.args.pid call ≡ false) → TouchesAll c.args.waiters.now c.touch_key.new.waiters (λ node. touches_by core node c.args.pid c.args.call.now) =
    λ call is off. subst (λ call. TouchesAll c.args.waiters.now c.touch_key.new.waiters (λ node. touches_by core node c.args.pid call)) (sym is) (λ node t. absurd (let no : false ≡ true = sym (off node) ∙ t in cc)) in
    (⊎_elim (λ s. still (Call.Pipe s.0 s.1) s.2 (λ node. refl))
    (⊎_elim (λ s. still (Call.Mkfifo s.0) s.1 (λ node. refl))
    (⊎_elim (λ s. still (Call.Poll s.0 s.1) s.2 (λ node. refl))
    (⊎_elim (λ s. still (Call.Dup s.0) s.1 (λ node. refl))
    (⊎_elim (λ s. still (Call.DupFd s.0 s.1) s.2 (λ node. refl))
    (⊎_elim (λ s. still (Call.GetFl s.0) s.1 (λ node. refl))
    (⊎_elim (λ s. still (Call.GetPipeSz s.0) s.1 (λ node. refl))
    (⊎_elim (λ s. still (Call.Unlink s.0) s.1 (λ node. refl))
    (λ s. still Call.Fork s (λ node. refl)))))))))) c.in-Pipe.is
