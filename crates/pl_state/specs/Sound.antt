-- What holds of all that a kernel holds.
use Rattle.std.specs.Prelude.{◌≡◌, ◌≢◌, ◌≤◌, ◌<◌, ℕ, Bool, IsTrue, List, [], ◌∷◌, length, nat_eq, Option, Some, IfSome, All, ⊤, count_by}
use Rattle.std.specs.List.{sum_by}
use Rattle.std.specs.Cmp.Lexicographic.{pointwise}
use Rattle.pl_model.specs.declared.calls.Call.{Call}
use Rattle.pl_model.specs.declared.calls.Limits.{Limits}
use Rattle.pl_model.specs.declared.calls.Call.TheVariants as call
use Rattle.pl_model.specs.declared.node.Node.{Node}
use Rattle.pl_model.specs.declared.node.Node.TheVariants as node
use Rattle.pl_model.specs.Numbers.{last_call, most_descriptors, pipe_buf}
use Rattle.pl_model.specs.Map.{Map, get, EachOnce}
use Rattle.pl_model.specs.Laws.{IsSettled}
use Rattle.pl_parked.specs.declared.call.ParkedCall.{ParkedCall}
use Rattle.pl_numbered.specs.Rising.{Rise}
use Rattle.pl_desc.specs.Rows.{at, is_pid, count_at}
use Rattle.pl_desc.specs.Descs.{Opened, Descs, IsTidy}
use Rattle.pl_state.specs.Contents.{Contents, Nodes, IsThere, node_limits, desc_limits, core_of}

-- What may wait, with so many bytes taken: a read, an open, a splice, a tee and a poll take none, a write less than it has, and none
-- where it is to go in whole. A poll has no more entries than any process may have descriptors.
abbrev pub MayWait : {A : Type 0} → Call A → ℕ → Type 0
MayWait (call.Read fd n) taken = taken ≡ 0
MayWait (call.Write fd bytes) taken = (taken < length bytes) × (length bytes ≤ pipe_buf → taken ≡ 0)
MayWait (call.OpenName name mode flags) taken = taken ≡ 0
MayWait (call.Splice from from_offset to to_offset len flags) taken = (taken ≡ 0) × (0 < len)
MayWait (call.Tee from to len flags) taken = (taken ≡ 0) × (0 < len)
MayWait (call.Poll entries wait) taken = (taken ≡ 0) × (length entries ≤ most_descriptors)
MayWait other taken = ⊥

-- Our own: the descriptions that one call keeps.
abbrev pub most_kept : ℕ
most_kept = most_descriptors

-- the only key of a list
abbrev pub IsOnly : ℕ → List ℕ → Type 0
IsOnly key kept = kept ≡ key ∷ []

-- the two keys of a list
abbrev pub AreBoth : (from to : ℕ) → List ℕ → Type 0
AreBoth from to kept = kept ≡ from ∷ to ∷ []

-- a call that keeps one description as it waits
abbrev pub KeepsOne : {A : Type 0} → Call A → Type 0
KeepsOne (call.Read fd n) = ⊤
KeepsOne (call.Write fd bytes) = ⊤
KeepsOne (call.OpenName name mode flags) = ⊤
KeepsOne other = ⊥

-- a poll
abbrev pub IsPoll : {A : Type 0} → Call A → Type 0
IsPoll (call.Poll entries wait) = ⊤
IsPoll other = ⊥

-- What a call keeps as it waits: a read and a write the one description that they try, an open the one that it opens, a splice and
-- a tee the one that they take from and the one that they give to, a poll all that it found open.
abbrev pub Keeps : {A : Type 0} → Call A → List ℕ → Type 0
Keeps (call.Read fd n) kept = (key : ℕ) × IsOnly key kept
Keeps (call.Write fd bytes) kept = (key : ℕ) × IsOnly key kept
Keeps (call.OpenName name mode flags) kept = (key : ℕ) × IsOnly key kept
Keeps (call.Splice from from_offset to to_offset len flags) kept = (a : ℕ) × (b : ℕ) × AreBoth a b kept
Keeps (call.Tee from to len flags) kept = (a : ℕ) × (b : ℕ) × AreBoth a b kept
Keeps (call.Poll entries wait) kept = ⊤
Keeps other kept = ⊥

-- A parked call, which keeps no more descriptions than one call may name.
pub record IsWaiting (A : Type 0) (c : ParkedCall A) : Type 0 where
  pub few : length c.kept ≤ most_kept
  pub keeps : Keeps c.call c.kept
  pub may : MayWait c.call c.taken

-- No description dangles, and no name: what it is on, or stands for, is there.
pub record AreThere (opened : ℕ → Option Opened) (nodes : Nodes) : Type 0 where
  pub described : (d : ℕ) → IfSome (opened d) (λ o. IsThere nodes o.node)
  pub named : All (λ e. IsThere nodes e.1) nodes.names

-- What holds of all that a kernel holds, whatever its calls wait for.
pub record IsWhole (A : Type 0) (k : Contents A) : Type 0 where
  -- each number stands once, so one call ends at a time
  pub rise : Rise 0 k.calls.next k.calls.calls
  pub numbered : k.calls.next ≤ last_call
  -- so a call on a description finds its node
  pub there : AreThere (at k.opened) k.nodes
  -- so a file ends where the machine's does, and no more memory is kept than the host let be
  pub limit : k.nodes.limits ≡ node_limits k.limits
  -- so a name that is taken away stood for one node alone
  pub once : EachOnce (pointwise nat_eq) k.nodes.names
  -- the end of a step has nothing more to tidy, so what is described is live, and a refused call changes nothing
  pub settled : IsSettled (core_of {A = A} k)

-- Each call that waits is that of a process that is there.
abbrev pub Belong : {A : Type 0} → Map ℕ (ParkedCall A) → (ℕ → Bool) → Type 0
Belong calls processes = (number : ℕ) → IfSome (get nat_eq calls number) (λ w. IsTrue (processes w.pid))

abbrev pub IsPipe : Node → Type 0
IsPipe (node.Pipe p) = ⊤
IsPipe (node.File f) = ⊥

-- an open is said to wait at the pipe of its FIFO
abbrev pub IsAt : {A : Type 0} → Call A → Option ℕ → ℕ → Type 0
IsAt (call.OpenName name mode flags) fifo p = fifo ≡ Some p
IsAt other fifo p = ⊤

-- splice(2); POSIX.1-2017, poll: a splice and a poll may keep a regular file. No other call waits with one.
abbrev pub MayKeepFile : {A : Type 0} → Call A → Type 0
MayKeepFile (call.Splice from from_offset to to_offset len flags) = ⊤
MayKeepFile (call.Poll entries wait) = ⊤
MayKeepFile other = ⊥

-- what a call that waits may keep a description of
abbrev pub MayKeep : {A : Type 0} → ParkedCall A → Node → Type 0
MayKeep w (node.Pipe p) = IsAt w.call w.fifo p
MayKeep w (node.File f) = MayKeepFile w.call

-- the description of a key, where there is one, is on a node that the call may wait on
abbrev pub OnNode : {A : Type 0} → (ℕ → Option Opened) → ParkedCall A → ℕ → Type 0
OnNode opened w key = IfSome (opened key) (λ o. MayKeep w o.node)

-- splice(2), EINVAL: two pipes that aren't the same, or a pipe and a file
abbrev pub AreApart : Node → Node → Type 0
AreApart (node.Pipe p) (node.Pipe q) = p ≢ q
AreApart (node.Pipe p) (node.File f) = ⊤
AreApart (node.File f) (node.Pipe q) = ⊤
AreApart (node.File f) (node.File g) = ⊥

-- bytes may go from one node to the other, where the call moves any
abbrev pub MayGo : {A : Type 0} → Call A → (from to : Node) → Type 0
MayGo (call.Splice from from_offset to to_offset len flags) a b = AreApart a b
MayGo (call.Tee from to len flags) a b = AreApart a b
MayGo other a b = ⊤

-- the same of the two descriptions that it keeps, where they are there
abbrev pub GoApart : {A : Type 0} → (ℕ → Option Opened) → Call A → List ℕ → Type 0
GoApart opened x (from ∷ to ∷ []) = IfSome (opened from) (λ a. IfSome (opened to) (λ b. MayGo x a.node b.node))
GoApart opened x kept = ⊤

-- What a call that waits keeps is on nodes that it may wait on.
pub record KeepsNodes {A : Type 0} (opened : ℕ → Option Opened) (w : ParkedCall A) : Type 0 where
  pub on : All (OnNode opened w) w.kept
  pub apart : GoApart opened w.call w.kept

-- Each of the calls does.
abbrev pub WaitOnNodes : {A : Type 0} → Map ℕ (ParkedCall A) → (ℕ → Option Opened) → Type 0
WaitOnNodes calls opened = (number : ℕ) → IfSome (get nat_eq calls number) (KeepsNodes opened)

-- The kernel's invariant, of what it holds.
pub record IsSound (A : Type 0) (k : Contents A) : Type 0 where
  pub whole : IsWhole A k
  pub open whole use *
  pub waiting : (number : ℕ) → IfSome (get nat_eq k.calls.calls number) (IsWaiting A)
  pub belong : Belong k.calls.calls (is_pid k.tables)
  pub on_nodes : WaitOnNodes k.calls.calls (at k.opened)

-- how many times a key stands in a list, and in the lists that parked calls keep
abbrev pub times : List ℕ → ℕ → ℕ
times kept key = count_by (λ k. nat_eq k key) kept

abbrev pub keeping : {A : Type 0} → Map ℕ (ParkedCall A) → ℕ → ℕ
keeping calls key = sum_by (λ e. times e.1.kept key) calls

-- Its invariant, of who holds what: a loose hold of a description is that of a parked call that keeps it.
pub record AreCounted (A : Type 0) (limits : Limits) (descs : Descs) (calls : Map ℕ (ParkedCall A)) : Type 0 where
  pub tidy : IsTidy descs
  -- so a process has as many descriptors as the machine's may, and there may be as many descriptions and processes
  pub bounds : descs.limits ≡ desc_limits limits
  pub counted : (key : ℕ) → count_at descs.loose key ≡ keeping calls key
