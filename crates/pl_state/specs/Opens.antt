-- What a descriptor of a kernel's process is open on.
use Rattle.std.specs.Prelude.{◌≡◌, ℕ, ℤ, Bool, true, Some}
use Rattle.pl_model.specs.declared.calls.Mode.{Mode}
use Rattle.pl_model.specs.declared.node.Node.{Node}
use Rattle.pl_model.specs.declared.node.Node.TheVariants.{Pipe}
use Rattle.pl_model.specs.Flags.{has, nonblock}
use Rattle.pl_desc.specs.Rows.{at, row_of}
use Rattle.pl_desc.specs.Descs.{Opened}
use Rattle.pl_state.specs.declared.access.OpenNode.{OpenNode}
use Rattle.pl_state.specs.declared.access.OpenEnd.{OpenEnd}
use Rattle.pl_state.specs.Contents.{Contents}

-- the description of a key is open on the node
pub record OpenOn {A : Type 0} (k : Contents A) (key : ℕ) (n : Node) : Type 0 where
  pub opened : Opened
  pub here : at k.opened key ≡ Some opened
  pub node : opened.node ≡ n

-- the descriptor names this description, whose mode passes the test
pub record Opens {A : Type 0} (k : Contents A) (test : Mode → Bool) (pid : ℕ) (fd : ℤ) (o : OpenNode) : Type 0 where
  pub row : row_of k.tables pid fd ≡ Some o.key
  pub on : OpenOn k o.key o.node
  pub mode : test on.opened.mode ≡ true
  pub waits : o.nonblock ≡ has on.opened.flags.0 nonblock

-- the end of a pipe, as what is open
abbrev pub of_end : OpenEnd → OpenNode
of_end e = record { key = e.key; node = Pipe e.pipe; nonblock = e.nonblock }
