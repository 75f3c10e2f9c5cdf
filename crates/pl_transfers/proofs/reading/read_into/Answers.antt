use Rattle.std.proofs.Common.{◌≡◌, ◌≤◌, ◌++◌, ℕ, List, false, refl, sym, ap, subst, ◌∙◌, take, drop, length, w32, IfSome, Some}
use Rattle.std.specs.Prelude.{◌==◌}
use Rattle.std.proofs.lemmas.Int.{to_z-of_z}
use Rattle.std.proofs.lemmas.Bool.{ne_eqb}
use Rattle.std.proofs.lemmas.List.{length-take-le, take_at}
use Rattle.pl_model.specs.Packets.{front, spent, lose}
use Rattle.pl_model.specs.declared.node.Node.TheVariants as node
use Rattle.pl_model.specs.declared.calls.Call.{Call}
use Rattle.pl_model.specs.declared.calls.Step.TheVariants.{Begin}
use Rattle.pl_model.specs.declared.cases.ReadCase.TheVariants.{Gives}
use Rattle.pl_model.specs.declared.replies.Reply.TheVariants.{Bytes}
use Rattle.pl_model.specs.Map.{change_at}
use Rattle.pl_model.specs.State.{Pipe}
use Rattle.pl_model.specs.Transfer.{read_case}
use Rattle.pl_desc.specs.Rows.{at}
use Rattle.pl_state.specs.declared.access.OpenEnd.{OpenEnd}
use Rattle.pl_state.specs.KernelView.{view_of}
use Rattle.pl_state.specs.Contents.{Contents, nodes_of}
use Rattle.pl_state.specs.LastHold.{has_writer}
use Rattle.pl_state.specs.Makes.{MakesAtKeys}
use Rattle.pl_state.specs.Opens.{OpenOn}
use Rattle.pl_state.specs.Sound.{IsSound}
use Rattle.pl_transfers.specs.Files.{ReadsFile}
use Rattle.pl_transfers.specs.ReadInto.{ReadTried, TakesFrom, ReadsFrom}
use Rattle.pl_state.proofs.by_call.Begun.{pipe_there, file_there}
use Rattle.pl_state.proofs.by_call.Moving.{changed_sound}
use Rattle.pl_state.proofs.Known.{Caller, caller, moved_view}
use Rattle.pl_transfers.proofs.by_call.Giving.{gives-few, gives-held}
use Rattle.pl_transfers.proofs.by_call.Reading.{read-gives}
use Rattle.pl_transfers.proofs.by_call.Filing.{read-file-made}
use Rattle.pl_transfers.proofs.reading.read_into.Given.{Over}
use Rattle.pl_transfers.proofs.reading.read_into.Goals.{In-Takes, In-Reads}
use Rattle.pl_transfers.proofs.reading.read_into.Goals as goal

-- the pipe that it takes bytes of
module _ (g : Over) (c : In-Takes g) where
  abbrev k : Contents g.row.A.Denot
  k = view_of c.kernel.inside

  abbrev e : OpenEnd
  e = c.in-Takes.end

  comes : (c.try_read.new.kernel ≡ c.args.kernel.now) × TakesFrom c.args.kernel.now c.args.pid c.args.fd (length c.args.into.now) c.in-Takes.end c.in-Takes.count
  comes =
      subst (λ t. ReadTried c.args.kernel.now c.args.pid c.args.fd (length c.args.into.now) t c.try_read.new.kernel) c.in-Takes.is
      (subst (λ z. ReadTried c.args.kernel.now c.args.pid z (length c.args.into.now) c.in_ok-tried.tried c.try_read.new.kernel) (to_z-of_z w32 c.args.fd c.ranges.fd) c.in_ok-tried.ensures.done)

  same : k ≡ c.args.kernel.now
  same = c.kernel.view_is ∙ comes.0

  abbrev calls_on : Caller g.row.A.Denot
  calls_on = caller c.kernel.inside c.kernel.invariant c.args.kernel.now same c.args.pid c.requires.process

  takes : TakesFrom k c.args.pid c.args.fd (length c.args.into.now) e c.in-Takes.count
  takes = subst (λ z. TakesFrom z c.args.pid c.args.fd (length c.args.into.now) e c.in-Takes.count) (sym same) comes.1

  some : ((length c.args.into.now) == 0) ≡ false
  some = ne_eqb (length c.args.into.now) 0 takes.some

  on_pipe : (p : Pipe) × (at k.nodes.pipes e.pipe ≡ Some p)
  on_pipe = pipe_there k c.kernel.invariant.0.whole e.key e.pipe takes.opens.on

  gives : read_case (length c.args.into.now) (front on_pipe.0) (has_writer k.opened e.pipe) ≡ Gives c.in-Takes.count
  gives = sym (subst (λ z. IfSome z (λ x. Gives c.in-Takes.count ≡ read_case (length c.args.into.now) (front x) (has_writer k.opened e.pipe))) on_pipe.1 takes.gives)

  held_enough : c.in-Takes.count ≤ front on_pipe.0
  held_enough = gives-held (length c.args.into.now) (front on_pipe.0) (has_writer k.opened e.pipe) c.in-Takes.count gives

  -- it fits, and is what the pipe held first
  fits : c.in-Takes.count ≤ length c.args.into.now
  fits = gives-few (length c.args.into.now) (front on_pipe.0) (has_writer k.opened e.pipe) c.in-Takes.count gives

  size : length (take c.in-Takes.count c.args.into.now) ≡ c.in-Takes.count
  size = length-take-le c.in-Takes.count c.args.into.now fits

-- the file that it reads
module _ (g : Over) (c : In-Reads g) where
  abbrev of_file : Contents g.row.A.Denot
  of_file = view_of c.kernel.inside

  comes_file : (c.try_read.new.kernel ≡ c.args.kernel.now) × ReadsFrom c.args.kernel.now c.args.pid c.args.fd (length c.args.into.now) c.in-Reads.open c.in-Reads.file
  comes_file =
      subst (λ t. ReadTried c.args.kernel.now c.args.pid c.args.fd (length c.args.into.now) t c.try_read.new.kernel) c.in-Reads.is
      (subst (λ z. ReadTried c.args.kernel.now c.args.pid z (length c.args.into.now) c.in_ok-tried.tried c.try_read.new.kernel) (to_z-of_z w32 c.args.fd c.ranges.fd) c.in_ok-tried.ensures.done)

  same_file : of_file ≡ c.args.kernel.now
  same_file = c.kernel.view_is ∙ comes_file.0

  abbrev file_calls : Caller g.row.A.Denot
  file_calls = caller c.kernel.inside c.kernel.invariant c.args.kernel.now same_file c.args.pid c.requires.process

  reads_file : ReadsFrom of_file c.args.pid c.args.fd (length c.args.into.now) c.in-Reads.open c.in-Reads.file
  reads_file = subst (λ z. ReadsFrom z c.args.pid c.args.fd (length c.args.into.now) c.in-Reads.open c.in-Reads.file) (sym same_file) comes_file.1

  some_file : ((length c.args.into.now) == 0) ≡ false
  some_file = ne_eqb (length c.args.into.now) 0 reads_file.some

  on_file : OpenOn of_file c.in-Reads.open.key (node.File c.in-Reads.file)
  on_file = record { opened = reads_file.opens.on.opened; here = reads_file.opens.on.here; node = reads_file.opens.on.node ∙ reads_file.node }

  file_held : (bytes : List ℕ) × (at of_file.nodes.files c.in-Reads.file ≡ Some bytes)
  file_held = file_there of_file c.kernel.invariant.0.whole c.in-Reads.open.key c.in-Reads.file on_file

pub invariant_of-kernel : goal.invariant_of-kernel
invariant_of-kernel g c =
    let v = (goal.at.invariant_of-kernel g c).In-Takes in
    let p = on_pipe g v in
    let m = c.in-Takes.count in
    let changed = subst (λ z. at c.read_pipe_into.new.self.pipes ≡ change_at (e g v).pipe (λ x. lose (spent x z) x) (at c.kernel.inside.nodes.pipes)) (size g v) c.read_pipe_into.ensures.ok in
    (subst (IsSound g.row.A.Denot) (moved_view c.kernel.inside c.read_pipe_into.new.self c.read_pipe_into.ensures.files) (changed_sound (k g v) c.kernel.invariant.0 (e g v).key (e g v).pipe (takes g v).opens.on p.0 p.1 (nodes_of c.read_pipe_into.new.self) (λ x. lose (spent x m) x) refl changed), c.kernel.invariant.1)

pub returns-in-Takes-clause-done : goal.returns-in-Takes-clause-done
returns-in-Takes-clause-done g c =
    let v = (goal.at.returns-in-Takes-clause-done g c).In-Takes in
    let p = on_pipe g v in
    let n = length c.args.into.now in
    let m = c.in-Takes.count in
    let read = c.read_pipe_into.new.into in
    let changed = subst (λ z. at c.read_pipe_into.new.self.pipes ≡ change_at (e g v).pipe (λ x. lose (spent x z) x) (at c.kernel.inside.nodes.pipes)) (size g v) c.read_pipe_into.ensures.ok in
    let came : read ≡ take m p.0.bytes = subst (λ z. read ≡ take z p.0.bytes) (size g v) (subst (λ o. IfSome o (λ x. read ≡ take (length (take m c.args.into.now)) x.bytes)) p.1 c.read_pipe_into.ensures.bytes) in
    let enough : m ≤ length p.0.bytes = subst (λ z. z ≤ length p.0.bytes) (size g v) (subst (λ o. IfSome o (λ x. length (take m c.args.into.now) ≤ length x.bytes)) p.1 c.read_pipe_into.ensures.within) in
    let long : length read ≡ m = ap length came ∙ length-take-le m p.0.bytes enough in
    let front : take m (read ++ drop m c.args.into.now) ≡ take m p.0.bytes = take_at read (drop m c.args.into.now) m long ∙ came in
    rw (← same g v) (subst (MakesAtKeys (k g v) (Begin c.args.pid (Call.Read c.args.fd n)) (Bytes (take m (read ++ drop m c.args.into.now)))) (moved_view c.kernel.inside c.read_pipe_into.new.self c.read_pipe_into.ensures.files) (read-gives (calls_on g v) c.args.fd n (e g v) (takes g v).opens (some g v) p.0 p.1 m (gives g v) (take m (read ++ drop m c.args.into.now)) front (nodes_of c.read_pipe_into.new.self) changed))

pub returns-in-Reads-clause-done : goal.returns-in-Reads-clause-done
returns-in-Reads-clause-done g c =
    let v = (goal.at.returns-in-Reads-clause-done g c).In-Reads in
    let n = length c.args.into.now in
    let bytes = take c.read_file_into.result c.read_file_into.new.into in
    let reads = subst (λ z. ReadsFile z c.in-Reads.open.key c.in-Reads.file n bytes c.read_file_into.new.kernel) (sym c.kernel.view_is) c.read_file_into.ensures.done in
    rw (← same_file g v) (read-file-made (file_calls g v) c.args.fd c.in-Reads.open c.in-Reads.file (reads_file g v).node n (reads_file g v).opens (some_file g v) (file_held g v).0 (file_held g v).1 bytes c.read_file_into.new.kernel reads)
