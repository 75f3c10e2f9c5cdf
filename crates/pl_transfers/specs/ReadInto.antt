-- What a read comes to, and what one into the caller's bytes answers.
use Rattle.std.specs.Prelude.{◌≡◌, ◌≢◌, ℕ, ℤ, List, [], take, IfSome}
use Rattle.pl_model.specs.declared.node.Node.TheVariants as node
use Rattle.pl_model.specs.declared.calls.Call.{Call}
use Rattle.pl_model.specs.declared.calls.Step.TheVariants.{Begin}
use Rattle.pl_model.specs.declared.cases.ReadCase.TheVariants.{Gives}
use Rattle.pl_model.specs.declared.replies.Reply.{Reply}
use Rattle.pl_model.specs.declared.replies.Reply.TheVariants as reply
use Rattle.pl_model.specs.Modes.{reads}
use Rattle.pl_model.specs.Packets.{front}
use Rattle.pl_model.specs.Transfer.{read_case}
use Rattle.pl_desc.specs.Rows.{at}
use Rattle.pl_state.specs.declared.access.OpenEnd.{OpenEnd}
use Rattle.pl_state.specs.declared.access.OpenNode.{OpenNode}
use Rattle.pl_state.specs.Contents.{Contents}
use Rattle.pl_state.specs.LastHold.{has_writer}
use Rattle.pl_state.specs.Makes.{MakesAtKeys}
use Rattle.pl_state.specs.Opens.{Opens, of_end}
use Rattle.pl_state.specs.declared.answered.Answered.{Answered as AnsweredBy}
use Rattle.pl_state.specs.declared.answered.Answered.TheVariants.{Done}
use Rattle.pl_state.specs.Answered.{told as told_by}
use Rattle.pl_transfers.specs.declared.reading.ReadTry.{ReadTry}
use Rattle.pl_transfers.specs.declared.reading.ReadTry.TheVariants.{Answered, Takes, Reads}

-- how many bytes came
abbrev pub read_count : AnsweredBy ℕ → ℕ
read_count (Done n) = n
read_count other = 0

-- the reply, from the caller's bytes as they are left
abbrev pub told : {A : Type 0} → AnsweredBy ℕ → List ℕ → Reply A
told answered bytes = told_by (λ n. reply.Bytes (take n bytes)) answered

module _ {A : Type 0} (k : Contents A) (pid : ℕ) (fd : ℤ) (n : ℕ) where
  -- a read of so many bytes takes these of a pipe
  pub record TakesFrom (end : OpenEnd) (count : ℕ) : Type 0 where
    pub opens : Opens k reads pid fd (of_end end)
    pub some : n ≢ 0
    pub gives : IfSome (at k.nodes.pipes end.pipe) (λ x. Gives count ≡ read_case n (front x) (has_writer k.opened end.pipe))

  -- a read of so many bytes is of a file
  pub record ReadsFrom (o : OpenNode) (file : ℕ) : Type 0 where
    pub opens : Opens k reads pid fd o
    pub some : n ≢ 0
    pub node : o.node ≡ node.File file

  -- what a read comes to before it moves any byte
  abbrev pub ReadTried : ReadTry → Contents A → Type 0
  ReadTried (Answered reply) new = MakesAtKeys k (Begin pid (Call.Read fd n)) (told reply []) new × (read_count reply ≡ 0)
  ReadTried (Takes end count) new = (new ≡ k) × TakesFrom end count
  ReadTried (Reads o file) new = (new ≡ k) × ReadsFrom o file
