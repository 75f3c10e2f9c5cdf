use Rattle.std.proofs.lemmas.List.{length-take}
use Rattle.std.specs.Prelude.{Result, Ok, Err}
use Rattle.pl_file.specs.declared.fault.WriteFault.{WriteFault}
use Rattle.std.proofs.Common.{◌≤◌, ◌-◌, take, true, arith, ◌≡◌, ℕ, None, false, sym, ap, subst, ◌∙◌, w32, length}
use Rattle.std.specs.Prelude.{◌==◌}
use Rattle.std.proofs.lemmas.Int.{to_z-of_z}
use Rattle.pl_model.specs.declared.node.Node.TheVariants as node
use Rattle.pl_model.specs.declared.calls.Call.{Call}
use Rattle.pl_model.specs.declared.calls.Step.TheVariants.{Begin}
use Rattle.pl_model.specs.declared.replies.Reply.TheVariants.{Fault}
use Rattle.pl_model.specs.declared.replies.Errno.TheVariants.{EFBIG}
use Rattle.pl_file.specs.declared.fault.WriteFault.TheVariants.{TooBig, NoMemory}
use Rattle.pl_model.specs.Modes.{writes}
use Rattle.pl_model.specs.Begin.{open_for}
use Rattle.pl_state.specs.KernelView.{view_of}
use Rattle.pl_state.specs.Contents.{core_of}
use Rattle.pl_state.specs.Opens.{OpenOn, Opens}
use Rattle.pl_transfers.specs.Files.{WritesFile, IsFull, place_of}
use Rattle.pl_state.specs.Makes.{MakesAtKeys, MayWantAtKeys}
use Rattle.pl_state.proofs.by_call.Begun.{file_there}
use Rattle.pl_transfers.proofs.by_call.Writing.{write-closed, write-none}
use Rattle.pl_transfers.proofs.by_call.Filing.{of_file, say_file, not_past, write-file-made, write-file-wants, write-file-full}
use Rattle.pl_state.proofs.Known.{Caller, caller}
use Rattle.pl_transfers.proofs.transfers.try_write.Given.{Over}
use Rattle.pl_transfers.proofs.transfers.try_write.Goals.{In-Some}
use Rattle.pl_transfers.proofs.transfers.try_write.Goals as goal

-- the process that calls, and what its descriptor names
module _ (g : Over) (c : In-Some g) where
  abbrev calls : Caller g.row.A.Denot
  calls = caller c.kernel.inside c.kernel.invariant c.args.kernel.now c.kernel.view_is c.args.pid c.requires.process

  opens : Opens (view_of c.kernel.inside) writes c.args.pid c.args.fd c.in-Some.open
  opens = subst (λ z. Opens z writes c.args.pid c.args.fd c.in-Some.open) (sym c.kernel.view_is) (subst (λ z. Opens c.args.kernel.now writes c.args.pid z c.in-Some.open) (to_z-of_z w32 c.args.fd c.ranges.fd) c.in-Some.ensures.some)

pub returns-in_default-clause-done : goal.returns-in_default-clause-done
returns-in_default-clause-done g c =
    let m = caller c.kernel.inside c.kernel.invariant c.args.kernel.now c.kernel.view_is c.args.pid c.requires.process in
    rw (← c.kernel.view_is) (write-closed m c.args.fd c.args.bytes.now (subst (λ z. open_for writes (core_of z) c.args.pid c.args.fd ≡ None) (sym c.kernel.view_is) (subst (λ z. open_for writes (core_of c.args.kernel.now) c.args.pid z ≡ None) (to_z-of_z w32 c.args.fd c.ranges.fd) c.in_default.ensures.none)))

pub returns-then-is_empty-clause-done : goal.returns-then-is_empty-clause-done
returns-then-is_empty-clause-done g c =
    let v = (goal.at.returns-then-is_empty-clause-done g c).In-Some in
    let none : (length c.args.bytes.now == 0) ≡ true = sym c.is_empty.ensures ∙ c.if-is_empty.true in
    rw (← c.kernel.view_is) (write-none (calls g v) c.args.fd c.args.bytes.now c.in-Some.open (opens g v) none)

pub try_write_pipe-requires-clause-opens : goal.try_write_pipe-requires-clause-opens
try_write_pipe-requires-clause-opens g c =
    subst (λ z. Opens c.args.kernel.now writes c.args.pid z (record { key = c.in-Some.open.key; node = node.Pipe c.in-Pipe.pipe; nonblock = c.in-Some.open.nonblock })) (sym (to_z-of_z w32 c.args.fd c.ranges.fd))
    (subst (λ z. Opens z writes c.args.pid c.args.fd (record { key = c.in-Some.open.key; node = node.Pipe c.in-Pipe.pipe; nonblock = c.in-Some.open.nonblock })) c.kernel.view_is
    (subst (λ n. Opens (view_of c.kernel.inside) writes c.args.pid c.args.fd (record { key = c.in-Some.open.key; node = n; nonblock = c.in-Some.open.nonblock })) c.in-Pipe.is (opens g (goal.at.try_write_pipe-requires-clause-opens g c).In-Some)))

pub overflow_cast-result : goal.overflow_cast-result
overflow_cast-result g c =
    let v = (goal.at.overflow_cast-result g c).In-Some in
    let opens = opens g v in
    let on : OpenOn (view_of c.kernel.inside) c.in-Some.open.key (node.File c.in-File.file) = record { opened = opens.on.opened; here = opens.on.here; node = opens.on.node ∙ c.in-File.is } in
    let held = file_there (view_of c.kernel.inside) c.kernel.invariant.0.whole c.in-Some.open.key c.in-File.file on in
    let some : (length c.args.bytes.now == 0) ≡ false = sym c.is_empty.ensures ∙ c.if-is_empty.false in
    let writes = subst (λ z. WritesFile z c.in-Some.open.key c.in-File.file c.args.bytes.now c.in-Ok.count c.write_file.new.kernel) (sym c.kernel.view_is) c.in-Ok.ensures.done in
    let many : c.in-Ok.count ≡ length (take ((view_of c.kernel.inside).limits.file_max - place_of opens.on.opened held.0) c.args.bytes.now) =
    of_file (view_of c.kernel.inside) c.in-Some.open.key c.in-File.file opens.on.opened held.0 (λ o h. c.in-Ok.count ≡ length (take ((view_of c.kernel.inside).limits.file_max - place_of o h) c.args.bytes.now)) opens.on.here held.1 writes.wrote in
    let long = length-take ((view_of c.kernel.inside).limits.file_max - place_of opens.on.opened held.0) c.args.bytes.now in
    omega (arith, many, long, c.requires.few)

pub returns-in-Ok-clause-done : goal.returns-in-Ok-clause-done
returns-in-Ok-clause-done g c =
    let v = (goal.at.returns-in-Ok-clause-done g c).In-Some in
    let opens = opens g v in
    let on : OpenOn (view_of c.kernel.inside) c.in-Some.open.key (node.File c.in-File.file) = record { opened = opens.on.opened; here = opens.on.here; node = opens.on.node ∙ c.in-File.is } in
    let held = file_there (view_of c.kernel.inside) c.kernel.invariant.0.whole c.in-Some.open.key c.in-File.file on in
    let some : (length c.args.bytes.now == 0) ≡ false = sym c.is_empty.ensures ∙ c.if-is_empty.false in
    let writes = subst (λ z. WritesFile z c.in-Some.open.key c.in-File.file c.args.bytes.now c.in-Ok.count c.write_file.new.kernel) (sym c.kernel.view_is) c.in-Ok.ensures.done in
    let below = not_past (view_of c.kernel.inside).limits.file_max (place_of opens.on.opened held.0)
    (λ past. let big : Ok c.in-Ok.count ≡ Err TooBig = c.in-Ok.ensures.big.1 (subst (λ z. IsFull z c.in-Some.open.key c.in-File.file) c.kernel.view_is (say_file (view_of c.kernel.inside) c.in-Some.open.key c.in-File.file opens.on.opened held.0 (λ o h. (view_of c.kernel.inside).limits.file_max ≤ place_of o h) opens.on.here held.1 past)) in absurd (cc)) in
    rw (← c.kernel.view_is) (write-file-made (calls g v) c.args.fd c.in-Some.open c.in-File.file c.in-File.is c.args.bytes.now opens some held.0 held.1 below c.in-Ok.count c.write_file.new.kernel writes)

pub returns-in-Err-TooBig-clause-done : goal.returns-in-Err-TooBig-clause-done
returns-in-Err-TooBig-clause-done g c =
    let v = (goal.at.returns-in-Err-TooBig-clause-done g c).In-Some in
    let opens = opens g v in
    let on : OpenOn (view_of c.kernel.inside) c.in-Some.open.key (node.File c.in-File.file) = record { opened = opens.on.opened; here = opens.on.here; node = opens.on.node ∙ c.in-File.is } in
    let held = file_there (view_of c.kernel.inside) c.kernel.invariant.0.whole c.in-Some.open.key c.in-File.file on in
    let some : (length c.args.bytes.now == 0) ≡ false = sym c.is_empty.ensures ∙ c.if-is_empty.false in
    let full = subst (λ z. IsFull z c.in-Some.open.key c.in-File.file) (sym c.kernel.view_is) (c.in-Err-TooBig.ensures.big.0 (ap (λ z. Err z) c.in-Err-TooBig.field-0-is)) in
    subst (MakesAtKeys c.args.kernel.now (Begin c.args.pid (Call.Write c.args.fd c.args.bytes.now)) (Fault EFBIG)) (sym c.in-Err-TooBig.ensures.undone)
    (rw (← c.kernel.view_is) (write-file-full (calls g v) c.args.fd c.in-Some.open c.in-File.file c.in-File.is c.args.bytes.now opens some held.0 held.1 full))

pub returns-in-Err-NoMemory-clause-wanted : goal.returns-in-Err-NoMemory-clause-wanted
returns-in-Err-NoMemory-clause-wanted g c =
    let v = (goal.at.returns-in-Err-NoMemory-clause-wanted g c).In-Some in
    let opens = opens g v in
    let on : OpenOn (view_of c.kernel.inside) c.in-Some.open.key (node.File c.in-File.file) = record { opened = opens.on.opened; here = opens.on.here; node = opens.on.node ∙ c.in-File.is } in
    let held = file_there (view_of c.kernel.inside) c.kernel.invariant.0.whole c.in-Some.open.key c.in-File.file on in
    let some : (length c.args.bytes.now == 0) ≡ false = sym c.is_empty.ensures ∙ c.if-is_empty.false in
    let below = not_past (view_of c.kernel.inside).limits.file_max (place_of opens.on.opened held.0)
    (λ past. let big : ◌≡◌ {A = Result ℕ WriteFault} (Err NoMemory) (Err TooBig) = ap (λ z. Err z) (sym c.in-Err-NoMemory.field-0-is) ∙ c.in-Err-NoMemory.ensures.big.1 (subst (λ z. IsFull z c.in-Some.open.key c.in-File.file) c.kernel.view_is (say_file (view_of c.kernel.inside) c.in-Some.open.key c.in-File.file opens.on.opened held.0 (λ o h. (view_of c.kernel.inside).limits.file_max ≤ place_of o h) opens.on.here held.1 past)) in absurd (cc)) in
    subst (λ z. MayWantAtKeys {A = g.row.A.Denot} z (Begin c.args.pid (Call.Write c.args.fd c.args.bytes.now))) c.kernel.view_is (write-file-wants (calls g v) c.args.fd c.in-Some.open c.in-File.file c.in-File.is c.args.bytes.now opens some held.0 held.1 below)
