-- What the next try of a read that waits finds.
use Rattle.std.specs.Prelude.{◌≡◌, ◌≤◌, ℕ, IfSome, length, min}
use Rattle.pl_model.specs.Numbers.{most_capacity}
use Rattle.pl_model.specs.Packets.{front}
use Rattle.pl_model.specs.declared.node.Node.TheVariants.{Pipe}
use Rattle.pl_desc.specs.Rows.{at}
use Rattle.pl_state.specs.Contents.{Contents}
use Rattle.pl_state.specs.Opens.{OpenOn}
use Rattle.pl_state.specs.Parking.{ReadWaits}
use Rattle.pl_transfers.specs.Readable.{gives_again}
use Rattle.pl_transfers.specs.declared.readable.ReadAgain.{ReadAgain}

-- The call of the number is this read. It waits on this pipe, and gives so many bytes of its front.
pub record FindsAgain {A : Type 0} (k : Contents A) (number : ℕ) (read : ReadAgain) : Type 0 where
  pub waits : ReadWaits k number read.key read.n
  pub on : OpenOn k read.key (Pipe read.pipe)
  pub held : IfSome (at k.nodes.pipes read.pipe) (λ x. (read.count ≡ min read.n (front x)) × (front x ≤ length x.bytes))
  pub count : read.count ≡ gives_again k number
  pub few : read.count ≤ most_capacity
