-- What an open of a name comes to at the kernel's keys.
use Rattle.std.proofs.Common.{◌≡◌, ℕ, ◌<◌, ◌≤◌, Bool, true, false, List, Option, Some, None, refl, ◌∙◌, ap, nat_eq, arith}
use Rattle.std.specs.Prelude.{pos, ◌&&◌, not, is_none, is_some, nat_le, option_map}
use Rattle.std.specs.Cmp.Lexicographic.{pointwise}
use Rattle.pl_model.specs.declared.calls.Call.{Call}
use Rattle.pl_model.specs.declared.calls.Mode.{Mode}
use Rattle.pl_model.specs.declared.calls.Step.TheVariants.{Begin}
use Rattle.pl_model.specs.declared.flags.OpenFlags.{OpenFlags}
use Rattle.pl_model.specs.declared.node.Node.{Node}
use Rattle.pl_model.specs.declared.node.Node.TheVariants as node
use Rattle.pl_model.specs.declared.replies.Reply.TheVariants.{Fd, Fault}
use Rattle.pl_model.specs.declared.replies.Errno.{Errno}
use Rattle.pl_model.specs.declared.replies.Errno.TheVariants.{EEXIST, EMFILE, ENFILE, ENOENT, ENOSPC}
use Rattle.pl_model.specs.Flags.{has, creat, excl, status_flags}
use Rattle.pl_model.specs.Map.{get}
use Rattle.pl_model.specs.Keys.{NewKeys, Drawing, Draws, FileNode, drawn}
use Rattle.pl_model.specs.Keys.{Node as KeyNode}
use Rattle.pl_model.specs.Memory.{is_refusal}
use Rattle.pl_model.specs.State.{Core, named}
use Rattle.pl_model.specs.Live.{live_count}
use Rattle.pl_model.specs.Trial.{Begins, Answered, found, refuse_if}
use Rattle.pl_model.specs.Tables.{lowest, install, describe, create_file, descriptor_limit, description_limit}
use Rattle.pl_model.specs.Begin.{begin_open_name, open_named, truncated}
use Rattle.pl_model.specs.Step.{Stepped, begin, stepped}
use Rattle.pl_model.specs.Numbered.{numbers}
use Rattle.pl_desc.specs.Rows.{lowest_of}
use Rattle.pl_desc.specs.Descs.{live_count as opened_count}
use Rattle.pl_decisions.specs.Names.{fault_of_name, fault_of_open, unless_fault}
use Rattle.pl_decisions.proofs.Deciding.{check_name-is, check_open-is}
use Rattle.pl_state.specs.Contents.{Contents, contents, node_of, core_of, lets_name}
use Rattle.pl_state.specs.Makes.{MakesAtKeys, MayWantAtKeys}
use Rattle.pl_naming.specs.Openings.{IsRefused, MayOpen}
use Rattle.pl_state.proofs.Known.{Caller}
use Rattle.pl_state.proofs.by_call.Begun.{does_same, step-refused, step-draws, can_name-is}
use Rattle.pl_naming.proofs.by_call.Unlinking.{get-keyed}

pub some-is : (o : Option Node) → is_some (option_map node_of o) ≡ is_some o
some-is None = refl
some-is (Some n) = refl

-- the checks of an open, in order
module _ {A : Type 0} (k : Contents A) (pid : ℕ) (name : List ℕ) (mode : Mode) (flags : OpenFlags) where
  abbrev c : Core A numbers
  c = core_of k

  abbrev call : Call A
  call = Call.OpenName name mode flags

  abbrev creates : Bool
  creates = has flags.0 creat

  abbrev is_exclusive : Bool
  is_exclusive = has flags.0 excl

  abbrev in_room : Option (KeyNode numbers) → ℕ → Bool → Begins A numbers
  in_room n fd full = refuse_if full ENFILE (open_named c pid fd name n mode flags)

  abbrev at_place : Option (KeyNode numbers) → Option ℕ → Begins A numbers
  at_place n place = found place EMFILE (λ fd. in_room n fd (nat_le (description_limit c.limits) (live_count c)))

  abbrev checks : Option (KeyNode numbers) → Begins A numbers
  checks n = refuse_if (is_some n && (creates && is_exclusive)) EEXIST (refuse_if (is_none n && not creates) ENOENT (at_place n (lowest c pid 0)))

  begun : begin c pid call ≡ unless_fault (fault_of_name name) (checks (named c name))
  unfolding begin begin_open_name
  begun = check_name-is name (checks (named c name))

  pub open-misnamed : (errno : Errno) → fault_of_name name ≡ Some errno → IsRefused k pid name mode flags errno
  open-misnamed errno is = begun ∙ ap (λ f. unless_fault f (checks (named c name))) is

  module _ (good : fault_of_name name ≡ None) (o : Option Node) (stands : get (pointwise nat_eq) k.nodes.names name ≡ o) where
    checked : begin c pid call ≡ unless_fault (fault_of_open (is_some o) creates is_exclusive) (at_place (option_map node_of o) (lowest c pid 0))
    unfolding core_of
    checked =
        begun ∙ ap (λ f. unless_fault f (checks (named c name))) good ∙ ap checks (get-keyed k.nodes.names name ∙ ap (option_map node_of) stands)
        ∙ check_open-is (option_map node_of o) creates is_exclusive (at_place (option_map node_of o) (lowest c pid 0))
        ∙ ap (λ b. unless_fault (fault_of_open b creates is_exclusive) (at_place (option_map node_of o) (lowest c pid 0))) (some-is o)

    pub open-fault : (errno : Errno) → fault_of_open (is_some o) creates is_exclusive ≡ Some errno → IsRefused k pid name mode flags errno
    open-fault errno is = checked ∙ ap (λ f. unless_fault f (at_place (option_map node_of o) (lowest c pid 0))) is

    module _ (fine : fault_of_open (is_some o) creates is_exclusive ≡ None) where
      lowest-is : lowest c pid 0 ≡ lowest_of k.tables (descriptor_limit k.limits) pid 0
      unfolding lowest core_of
      lowest-is = refl

      placed : (place : Option ℕ) → lowest_of k.tables (descriptor_limit k.limits) pid 0 ≡ place → begin c pid call ≡ at_place (option_map node_of o) place
      placed place is = checked ∙ ap (λ f. unless_fault f (at_place (option_map node_of o) (lowest c pid 0))) fine ∙ ap (at_place (option_map node_of o)) (lowest-is ∙ is)

      pub open-many : lowest_of k.tables (descriptor_limit k.limits) pid 0 ≡ None → IsRefused k pid name mode flags EMFILE
      open-many none = placed None none

      pub open-full : (fd : ℕ) → live_count c ≡ opened_count k.opened → lowest_of k.tables (descriptor_limit k.limits) pid 0 ≡ Some fd → description_limit k.limits ≤ opened_count k.opened → IsRefused k pid name mode flags ENFILE
      unfolding core_of
      open-full fd count is full =
          placed (Some fd) is ∙ ap (in_room (option_map node_of o) fd) (let many : description_limit k.limits ≤ live_count c = omega (arith, count, full) in over (description_limit k.limits) (live_count c) many)
        where
          over : (m n : ℕ) → m ≤ n → nat_le m n ≡ true
          over m n h = grind arith

      pub open-may : (fd : ℕ) → live_count c ≡ opened_count k.opened → lowest_of k.tables (descriptor_limit k.limits) pid 0 ≡ Some fd → opened_count k.opened < description_limit k.limits → MayOpen k pid name mode flags fd o
      unfolding core_of
      open-may fd count is few = record {
        begun = placed (Some fd) is ∙ ap (in_room (option_map node_of o) fd) (let fewer : live_count c < description_limit k.limits = omega (arith, count, few) in under (description_limit k.limits) (live_count c) fewer);
        named = stands;
        lowest = is;
        few = few;
      }
        where
          under : (m n : ℕ) → n < m → nat_le m n ≡ false
          under m n h = grind arith

module _ {A : Type 0} (m : Caller A) (name : List ℕ) (mode : Mode) (flags : OpenFlags) where
  open m use {descs, nodes, calls, limits, sound, pid, process}

  abbrev now : Contents A
  now = contents descs nodes calls limits

  -- one that is refused changes nothing
  pub refused-makes : (errno : Errno) → IsRefused now pid name mode flags errno → MakesAtKeys now (Begin pid (Call.OpenName name mode flags)) (Fault errno) now
  refused-makes errno is =
      does_same now sound (Begin pid (Call.OpenName name mode flags)) (stepped (core_of now) (Fault errno)) (Fault errno) (step-refused now pid (Call.OpenName name mode flags) process errno is) refl refl

  abbrev core : Core A numbers
  core = core_of now

  -- what is left where the name stood for a file, and where it stood for nothing
  abbrev pub reopened : (fd f : ℕ) → NewKeys numbers → Core A numbers
  reopened fd f new = install (describe (truncated core f mode flags) new.description (FileNode f) mode (status_flags flags)) pid fd new.description

  abbrev pub made : (fd : ℕ) → NewKeys numbers → Core A numbers
  made fd new = install (describe (create_file core name new.file) new.description (FileNode new.file) mode (status_flags flags)) pid fd new.description

  pub drawn-wants : (fd : ℕ) (left : NewKeys numbers → Core A numbers) → begin core pid (Call.OpenName name mode flags) ≡ Draws (λ new. Answered (left new) (Fd (pos fd))) → MayWantAtKeys now (Begin pid (Call.OpenName name mode flags))
  drawn-wants fd left draws =
      λ new. ap (λ (a : Drawing numbers (Stepped A numbers)). is_refusal (drawn {X = Stepped A numbers} new a).reply) (step-draws now pid (Call.OpenName name mode flags) process (λ new. Answered (left new) (Fd (pos fd))) draws)

  pub file-wants : (fd f : ℕ) → MayOpen now pid name mode flags fd (Some (node.File f)) → MayWantAtKeys now (Begin pid (Call.OpenName name mode flags))
  file-wants fd f may = drawn-wants fd (reopened fd f) may.begun

  -- a file that is made, where there may be one name more
  abbrev makes_if : ℕ → Bool → Begins A numbers
  makes_if fd can = refuse_if (not can) ENOSPC (Draws (λ new. Answered (made fd new) (Fd (pos fd))))

  pub new-begun : (fd : ℕ) → MayOpen now pid name mode flags fd None → (can : Bool) → lets_name now ≡ can → begin core pid (Call.OpenName name mode flags) ≡ makes_if fd can
  new-begun fd may can is = may.begun ∙ ap (makes_if fd) (can_name-is now ∙ is)

  pub new-refused : (fd : ℕ) → MayOpen now pid name mode flags fd None → lets_name now ≡ false → MakesAtKeys now (Begin pid (Call.OpenName name mode flags)) (Fault ENOSPC) now
  new-refused fd may full = refused-makes ENOSPC (new-begun fd may false full)

  pub new-wants : (fd : ℕ) → MayOpen now pid name mode flags fd None → lets_name now ≡ true → MayWantAtKeys now (Begin pid (Call.OpenName name mode flags))
  new-wants fd may can = drawn-wants fd (made fd) (new-begun fd may true can)
