use Rattle.pl_run.proofs.Told.{told_line}
use Rattle.pl_run.proofs.terminal.TerminalPeer.refuse.Goals as goal

pub returns-clause-line : goal.returns-clause-line
returns-clause-line g c = λ fresh.
    told_line c.args.self.now.explain c.args.number c.args.why c.if_asked-why.result c.write_fault-told.result _ _ _ c.if_asked-why.ensures (c.write_fault-told.ensures.stops fresh) c.write_fault-told.ensures.line
