use Rattle.std.proofs.Common.{◌≡◌, ◌≤◌, ℕ, List, false, refl, sym, subst, ◌∙◌, take, w32, IfSome, Some}
use Rattle.std.specs.Prelude.{◌==◌}
use Rattle.std.proofs.lemmas.Int.{to_z-of_z}
use Rattle.std.proofs.lemmas.Bool.{ne_eqb}
use Rattle.pl_model.specs.Packets.{front, spent, lose}
use Rattle.pl_model.specs.declared.node.Node.TheVariants as node
use Rattle.pl_model.specs.declared.calls.Call.{Call}
use Rattle.pl_model.specs.declared.calls.Step.TheVariants.{Begin}
use Rattle.pl_model.specs.declared.cases.ReadCase.TheVariants.{Gives}
use Rattle.pl_model.specs.declared.replies.Reply.TheVariants.{Bytes}
use Rattle.pl_model.specs.State.{Pipe}
use Rattle.pl_model.specs.Transfer.{read_case}
use Rattle.pl_desc.specs.Rows.{at}
use Rattle.pl_state.specs.declared.access.OpenEnd.{OpenEnd}
use Rattle.pl_state.specs.KernelView.{view_of}
use Rattle.pl_state.specs.Contents.{Contents, nodes_of}
use Rattle.pl_state.specs.LastHold.{has_writer}
use Rattle.pl_state.specs.Makes.{MakesAtKeys}
use Rattle.pl_state.specs.Opens.{OpenOn}
use Rattle.pl_state.specs.Sound.{IsSound}
use Rattle.pl_transfers.specs.Files.{ReadsFile}
use Rattle.pl_transfers.specs.ReadInto.{ReadTried, TakesFrom, ReadsFrom}
use Rattle.pl_nodes.proofs.Keyed.{on_err}
use Rattle.pl_state.proofs.by_call.Begun.{pipe_there, file_there}
use Rattle.pl_state.proofs.by_call.Moving.{changed_sound}
use Rattle.pl_state.proofs.Known.{Caller, caller, moved_view}
use Rattle.pl_transfers.proofs.by_call.Giving.{gives-held}
use Rattle.pl_transfers.proofs.by_call.Reading.{read-gives, read-wants}
use Rattle.pl_transfers.proofs.by_call.Filing.{read-file-made, read-file-wants}
use Rattle.pl_transfers.proofs.reading.read.Given.{Over}
use Rattle.pl_transfers.proofs.reading.read.Goals.{In-Takes, In-Reads}
use Rattle.pl_transfers.proofs.reading.read.Goals as goal

-- the pipe that it takes bytes of
module _ (g : Over) (c : In-Takes g) where
  abbrev k : Contents g.row.A.Denot
  k = view_of c.kernel.inside

  abbrev e : OpenEnd
  e = c.in-Takes.end

  comes : (c.try_read.new.kernel ≡ c.args.kernel.now) × TakesFrom c.args.kernel.now c.args.pid c.args.fd c.args.n c.in-Takes.end c.in-Takes.count
  comes =
      subst (λ t. ReadTried c.args.kernel.now c.args.pid c.args.fd c.args.n t c.try_read.new.kernel) c.in-Takes.is
      (subst (λ z. ReadTried c.args.kernel.now c.args.pid z c.args.n c.in_ok-tried.tried c.try_read.new.kernel) (to_z-of_z w32 c.args.fd c.ranges.fd) c.in_ok-tried.ensures.done)

  same : k ≡ c.args.kernel.now
  same = c.kernel.view_is ∙ comes.0

  abbrev calls_on : Caller g.row.A.Denot
  calls_on = caller c.kernel.inside c.kernel.invariant c.args.kernel.now same c.args.pid c.requires

  takes : TakesFrom k c.args.pid c.args.fd c.args.n e c.in-Takes.count
  takes = subst (λ z. TakesFrom z c.args.pid c.args.fd c.args.n e c.in-Takes.count) (sym same) comes.1

  some : (c.args.n == 0) ≡ false
  some = ne_eqb c.args.n 0 takes.some

  on_pipe : (p : Pipe) × (at k.nodes.pipes e.pipe ≡ Some p)
  on_pipe = pipe_there k c.kernel.invariant.0.whole e.key e.pipe takes.opens.on

  gives : read_case c.args.n (front on_pipe.0) (has_writer k.opened e.pipe) ≡ Gives c.in-Takes.count
  gives = sym (subst (λ z. IfSome z (λ x. Gives c.in-Takes.count ≡ read_case c.args.n (front x) (has_writer k.opened e.pipe))) on_pipe.1 takes.gives)

  held_enough : c.in-Takes.count ≤ front on_pipe.0
  held_enough = gives-held c.args.n (front on_pipe.0) (has_writer k.opened e.pipe) c.in-Takes.count gives

-- the file that it reads
module _ (g : Over) (c : In-Reads g) where
  abbrev of_file : Contents g.row.A.Denot
  of_file = view_of c.kernel.inside

  comes_file : (c.try_read.new.kernel ≡ c.args.kernel.now) × ReadsFrom c.args.kernel.now c.args.pid c.args.fd c.args.n c.in-Reads.open c.in-Reads.file
  comes_file =
      subst (λ t. ReadTried c.args.kernel.now c.args.pid c.args.fd c.args.n t c.try_read.new.kernel) c.in-Reads.is
      (subst (λ z. ReadTried c.args.kernel.now c.args.pid z c.args.n c.in_ok-tried.tried c.try_read.new.kernel) (to_z-of_z w32 c.args.fd c.ranges.fd) c.in_ok-tried.ensures.done)

  same_file : of_file ≡ c.args.kernel.now
  same_file = c.kernel.view_is ∙ comes_file.0

  abbrev file_calls : Caller g.row.A.Denot
  file_calls = caller c.kernel.inside c.kernel.invariant c.args.kernel.now same_file c.args.pid c.requires

  reads_file : ReadsFrom of_file c.args.pid c.args.fd c.args.n c.in-Reads.open c.in-Reads.file
  reads_file = subst (λ z. ReadsFrom z c.args.pid c.args.fd c.args.n c.in-Reads.open c.in-Reads.file) (sym same_file) comes_file.1

  some_file : (c.args.n == 0) ≡ false
  some_file = ne_eqb c.args.n 0 reads_file.some

  on_file : OpenOn of_file c.in-Reads.open.key (node.File c.in-Reads.file)
  on_file = record { opened = reads_file.opens.on.opened; here = reads_file.opens.on.here; node = reads_file.opens.on.node ∙ reads_file.node }

  file_held : (bytes : List ℕ) × (at of_file.nodes.files c.in-Reads.file ≡ Some bytes)
  file_held = file_there of_file c.kernel.invariant.0.whole c.in-Reads.open.key c.in-Reads.file on_file

pub returns-in_err-bytes-in-Takes-clause-wanted : goal.returns-in_err-bytes-in-Takes-clause-wanted
returns-in_err-bytes-in-Takes-clause-wanted g c =
    let v = (goal.at.returns-in_err-bytes-in-Takes-clause-wanted g c).In-Takes in
    let p = on_pipe g v in
    on_err c.from_residual-in_err-bytes-in-Takes.result _ (rw (← same g v) (read-wants (calls_on g v) c.args.fd c.args.n (e g v) (takes g v).opens (some g v) p.0 p.1 c.in-Takes.count (gives g v)))

pub invariant_of-kernel-in-Takes : goal.invariant_of-kernel-in-Takes
invariant_of-kernel-in-Takes g c =
    let v = (goal.at.invariant_of-kernel-in-Takes g c).In-Takes in
    let p = on_pipe g v in
    (subst (IsSound g.row.A.Denot) (moved_view c.kernel.inside c.read_pipe.new.self c.in_ok-bytes-in-Takes.ensures.files) (changed_sound (k g v) c.kernel.invariant.0 (e g v).key (e g v).pipe (takes g v).opens.on p.0 p.1 (nodes_of c.read_pipe.new.self) (λ x. lose (spent x c.in-Takes.count) x) refl c.in_ok-bytes-in-Takes.ensures.ok), c.kernel.invariant.1)

pub returns-in_ok-bytes-in-Takes-clause-done : goal.returns-in_ok-bytes-in-Takes-clause-done
returns-in_ok-bytes-in-Takes-clause-done g c =
    let v = (goal.at.returns-in_ok-bytes-in-Takes-clause-done g c).In-Takes in
    let p = on_pipe g v in
    let given : c.unwrap.result ≡ c.in_ok-bytes-in-Takes.bytes.items = subst (λ o. IfSome o (λ made. made ≡ c.in_ok-bytes-in-Takes.bytes.items)) c.unwrap.ensures c.from_vec.ensures.list in
    let taken : c.in_ok-bytes-in-Takes.bytes.items ≡ take c.in-Takes.count p.0.bytes = subst (λ o. IfSome o (λ x. c.in_ok-bytes-in-Takes.bytes.items ≡ take c.in-Takes.count x.bytes)) p.1 c.in_ok-bytes-in-Takes.ensures.bytes in
    rw (← same g v) (subst (MakesAtKeys (k g v) (Begin c.args.pid (Call.Read c.args.fd c.args.n)) (Bytes c.unwrap.result)) (moved_view c.kernel.inside c.read_pipe.new.self c.in_ok-bytes-in-Takes.ensures.files) (read-gives (calls_on g v) c.args.fd c.args.n (e g v) (takes g v).opens (some g v) p.0 p.1 c.in-Takes.count (gives g v) c.unwrap.result (given ∙ taken) (nodes_of c.read_pipe.new.self) c.in_ok-bytes-in-Takes.ensures.ok))

pub returns-in_err-read_file-in-Reads-clause-wanted : goal.returns-in_err-read_file-in-Reads-clause-wanted
returns-in_err-read_file-in-Reads-clause-wanted g c =
    let v = (goal.at.returns-in_err-read_file-in-Reads-clause-wanted g c).In-Reads in
    on_err c.from_residual-in_err-read_file-in-Reads.result _ (rw (← same_file g v) (read-file-wants (file_calls g v) c.args.fd c.in-Reads.open c.in-Reads.file (reads_file g v).node c.args.n (reads_file g v).opens (some_file g v) (file_held g v).0 (file_held g v).1))

pub returns-in_ok-read_file-in-Reads-clause-done : goal.returns-in_ok-read_file-in-Reads-clause-done
returns-in_ok-read_file-in-Reads-clause-done g c =
    let v = (goal.at.returns-in_ok-read_file-in-Reads-clause-done g c).In-Reads in
    let bytes = c.in_ok-read_file-in-Reads.field-0 in
    let reads = subst (λ z. ReadsFile z c.in-Reads.open.key c.in-Reads.file c.args.n bytes c.read_file.new.kernel) (sym c.kernel.view_is) c.in_ok-read_file-in-Reads.ensures.done in
    rw (← same_file g v) (read-file-made (file_calls g v) c.args.fd c.in-Reads.open c.in-Reads.file (reads_file g v).node c.args.n (reads_file g v).opens (some_file g v) (file_held g v).0 (file_held g v).1 bytes c.read_file.new.kernel reads)
