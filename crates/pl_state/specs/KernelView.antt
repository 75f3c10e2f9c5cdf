-- The fields of a kernel, as what it holds.
use Rattle.pl_state.specs.declared.state.KernelState.TheInside.{Inside}
use Rattle.pl_state.specs.Contents.{Contents, contents, nodes_of}

abbrev pub view_of : {A : Type 0} → Inside A → Contents A
view_of k = contents k.descs (nodes_of k.nodes) k.parked k.limits
