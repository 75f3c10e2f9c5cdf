-- What C is told of processes, pipes, files and parked calls.
use Rattle.std.specs.Prelude.{◌≡◌, ℕ, ℤ, Bool, List, Option, is_some, if◌then◌else◌}
use Rattle.std.specs.declared.option.Option.TheVariants.{None, Some}
use Rattle.pl_model.specs.declared.replies.Errno.TheVariants.{EBADF, ENOENT}
use Rattle.pl_model.specs.Numbered.{State}
use Rattle.pl_numbers.specs.declared.answer.Answer.{Answer}
use Rattle.pl_numbers.specs.Answers.{plain, faulty}
use Rattle.pl_state.specs.Contents.{Contents}
use Rattle.pl_state.specs.Makes.{Stands}
use Rattle.pl_kernel.specs.declared.told_calls.CallFacts.{CallFacts}
use Rattle.pl_kernel.specs.declared.told_calls.CallKind.{CallKind}
use Rattle.pl_kernel.specs.declared.told_calls.CallKind.TheVariants as call
use Rattle.pl_kernel.specs.declared.told_nodes.NodeFacts.{NodeFacts}
use Rattle.pl_kernel.specs.declared.told_nodes.NodeKind.{NodeKind}
use Rattle.pl_kernel.specs.declared.told_nodes.NodeKind.TheVariants as node
use Rattle.pl_kernel.specs.declared.told_processes.ProcessFacts.{ProcessFacts}
use Rattle.pl_kernel.specs.ToldCalls.{call_facts_by}
use Rattle.pl_kernel.specs.ToldNodes.{OfFd, OfName, node_at, held_by}
use Rattle.pl_kernel.specs.ToldProcesses.{process_facts_by}
use Rattle.bindingclay.specs.declared.layer.facts.ToldCall.{ToldCall}
use Rattle.bindingclay.specs.declared.layer.facts.ToldNode.{ToldNode}
use Rattle.bindingclay.specs.declared.layer.facts.ToldProcess.{ToldProcess}
use Rattle.bindingclay.specs.Heap.{InBudget}

-- the numbers of kinds
abbrev pub number_of_node : NodeKind → ℕ
number_of_node node.Pipe = 1
number_of_node node.PacketPipe = 2
number_of_node node.File = 3

abbrev pub number_of_call : CallKind → ℕ
number_of_call call.Read = 1
number_of_call call.Write = 2
number_of_call call.Open = 3
number_of_call call.Splice = 4
number_of_call call.Tee = 5
number_of_call call.Poll = 6

-- what is told is written, and where nothing is told all stays
abbrev pub node_after : ToldNode → Option NodeFacts → ToldNode
node_after old None = old
node_after old (Some facts) = record { key = facts.key; size = facts.size; kind = number_of_node facts.kind }

abbrev pub call_after : ToldCall → Option CallFacts → ToldCall
call_after old None = old
call_after old (Some facts) = record { kind = number_of_call facts.kind; pid = facts.pid; first = facts.first; second = facts.second }

abbrev pub process_after : ToldProcess → Option ProcessFacts → ToldProcess
process_after old None = old
process_after old (Some facts) = record { descriptors = facts.descriptors; waiting_calls = facts.waiting_calls }

-- whether there is a process
abbrev pub process_answer : Bool → Answer
process_answer is_process = if is_process then plain 0 0 else plain 0 3

-- how many bytes a pipe holds, if it is one
abbrev pub bytes_answer : Option ℕ → Answer
bytes_answer None = faulty EBADF
bytes_answer (Some n) = plain n 0

abbrev pub held_answer : (is_process : Bool) → Option ℕ → Answer
held_answer is_process told = if is_process then bytes_answer told else plain 0 3

-- whether a descriptor is open, a name stands for something, a call waits
abbrev pub fd_answer : (is_process is_open : Bool) → Answer
fd_answer is_process is_open = if is_process then (if is_open then plain 0 0 else faulty EBADF) else plain 0 3

abbrev pub name_answer : Bool → Answer
name_answer stands = if stands then plain 0 0 else faulty ENOENT

abbrev pub call_answer : Bool → Answer
call_answer waits = if waits then plain 0 0 else plain 0 4

-- The same of the flat machine, for each state for which the kernel stands.
abbrev pub IsFound : Contents InBudget → ℕ → Answer → Type 0
IsFound k pid a = (s : State InBudget) → Stands k s → a ≡ process_answer (s.core.processes pid)

abbrev pub Holds : Contents InBudget → ℕ → ℤ → Answer → Type 0
Holds k pid fd a = (s : State InBudget) → Stands k s → a ≡ held_answer (s.core.processes pid) (held_by s.core (node_at s.core (OfFd pid fd)))

abbrev pub Finds : Contents InBudget → ℕ → ℤ → Answer → Type 0
Finds k pid fd a = (s : State InBudget) → Stands k s → a ≡ fd_answer (s.core.processes pid) (is_some (node_at s.core (OfFd pid fd)))

abbrev pub Names : Contents InBudget → List ℕ → Answer → Type 0
Names k name a = (s : State InBudget) → Stands k s → a ≡ name_answer (is_some (node_at s.core (OfName name)))

abbrev pub Waits : Contents InBudget → ℕ → Answer → Type 0
Waits k number a = (s : State InBudget) → Stands k s → a ≡ call_answer (is_some (call_facts_by s number))

-- what is told of a parked call
abbrev pub Tells : Contents InBudget → ℕ → (old new : ToldCall) → Type 0
Tells k number old new = (s : State InBudget) → Stands k s → new ≡ call_after old (call_facts_by s number)

-- what is told of a process
abbrev pub TellsOf : Contents InBudget → ℕ → (old new : ToldProcess) → Type 0
TellsOf k pid old new = (s : State InBudget) → Stands k s → new ≡ process_after old (process_facts_by s.core pid)
