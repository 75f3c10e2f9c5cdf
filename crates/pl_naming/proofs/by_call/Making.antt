-- What a FIFO that is made leaves at the kernel's keys.
use Rattle.std.proofs.Common.{◌≡◌, ℕ, Bool, true, false, List, length, Option, Some, None, IfSome, IsSome, refl, sym, ◌∙◌, ap, subst, nat_eq, slice_index_or}
use Rattle.std.specs.Prelude.{All, option_map, is_some, not}
use Rattle.std.specs.Cmp.Lexicographic.{pointwise}
use Rattle.pl_model.specs.declared.calls.Call.{Call}
use Rattle.pl_model.specs.declared.calls.Step.{Step}
use Rattle.pl_model.specs.declared.calls.Step.TheVariants.{Begin}
use Rattle.pl_model.specs.declared.node.Node.{Node}
use Rattle.pl_model.specs.declared.node.Node.TheVariants as node
use Rattle.pl_model.specs.declared.replies.Reply.TheVariants as reply
use Rattle.pl_model.specs.declared.replies.Reply.TheVariants.{Fault}
use Rattle.pl_model.specs.declared.replies.Errno.{Errno}
use Rattle.pl_model.specs.declared.replies.Errno.TheVariants.{EEXIST, ENOSPC}
use Rattle.pl_model.specs.Map.{EachOnce, get, set_at}
use Rattle.pl_model.specs.Keys.{NewKeys, Drawing, Draws, drawn}
use Rattle.pl_model.specs.State.{Core, Pipe, empty_pipe, named, can_name}
use Rattle.pl_model.specs.Settle.{settle}
use Rattle.pl_model.specs.Trial.{Begins, Answered, refuse_if}
use Rattle.pl_model.specs.Fifo.{create_fifo}
use Rattle.pl_model.specs.Begin.{begin_mkfifo}
use Rattle.pl_model.specs.Memory.{is_refusal}
use Rattle.pl_model.specs.Step.{Stepped, begin, stepped}
use Rattle.pl_model.specs.Numbered.{numbers}
use Rattle.pl_model.specs.StandsFor.{AreUnused, Comes}
use Rattle.pl_model.proofs.settling.Fifos.{mkfifo-settled}
use Rattle.pl_model.proofs.settling.Names.{put-once}
use Rattle.pl_model.proofs.settling.FromSettled.{at_key}
use Rattle.pl_desc.specs.Rows.{at}
use Rattle.pl_desc.specs.Descs.{Opened}
use Rattle.pl_decisions.specs.Names.{fault_of_name, unless_fault}
use Rattle.pl_decisions.proofs.Deciding.{check_name-is}
use Rattle.pl_state.specs.Contents.{Contents, Nodes, IsThere, contents, node_of, core_of, lets_name}
use Rattle.pl_state.specs.Sound.{IsSound, AreThere}
use Rattle.pl_state.specs.Makes.{MakesAtKeys, MayWantAtKeys}
use Rattle.pl_state.proofs.Known.{Caller}
use Rattle.pl_state.proofs.holders.There.{settled_after, set_some}
use Rattle.pl_state.proofs.by_call.Begun.{does_same, step-refused, step-draws, can_name-is}
use Rattle.pl_state.proofs.by_call.Piping.{past_end}
use Rattle.pl_naming.proofs.by_call.Unused.{keys, are_unused}
use Rattle.pl_naming.proofs.by_call.Unlinking.{keyed, get-keyed}
use Rattle.pl_naming.proofs.by_call.Opening.{some-is}
use Rattle.pl_naming.proofs.by_call.Creating.{put, put-keyed, put-all}

module _ {A : Type 0} (m : Caller A) (name : List ℕ) where
  open m use {descs, nodes, calls, limits, sound, pid, process}

  abbrev k : Contents A
  k = contents descs nodes calls limits

  abbrev c : Core A numbers
  c = core_of k

  abbrev call : Call A
  call = Call.Mkfifo name

  abbrev x : Step A
  x = Begin pid call

  abbrev made : NewKeys numbers → Core A numbers
  made new = create_fifo c name new.pipe

  abbrev makes : Bool → Bool → Begins A numbers
  makes can there = refuse_if there EEXIST (refuse_if (not can) ENOSPC (Draws (λ new. Answered (made new) reply.Unit)))

  begun : begin c pid call ≡ unless_fault (fault_of_name name) (makes (can_name c) (is_some (named c name)))
  unfolding begin begin_mkfifo
  begun = check_name-is name (makes (can_name c) (is_some (named c name)))

  -- one that is refused changes nothing
  refused : (errno : Errno) → begin c pid call ≡ unless_fault (Some errno) (makes true false) → MakesAtKeys k x (Fault errno) k
  refused errno is = does_same k sound x (stepped c (Fault errno)) (Fault errno) (step-refused k pid call process errno is) refl refl

  pub mkfifo-fault : (errno : Errno) → fault_of_name name ≡ Some errno → MakesAtKeys k x (Fault errno) k
  mkfifo-fault errno is = refused errno (begun ∙ ap (λ f. unless_fault f (makes (can_name c) (is_some (named c name)))) is)

  module _ (good : fault_of_name name ≡ None) where
    checked : (o : Option Node) → get (pointwise nat_eq) nodes.names name ≡ o → begin c pid call ≡ makes (lets_name k) (is_some o)
    unfolding core_of
    checked o stands =
        begun ∙ ap (λ f. unless_fault f (makes (can_name c) (is_some (named c name)))) good
        ∙ ap (λ b. makes b (is_some (named c name))) (can_name-is k)
        ∙ ap (λ z. makes (lets_name k) (is_some z)) (get-keyed nodes.names name ∙ ap (option_map node_of) stands) ∙ ap (makes (lets_name k)) (some-is o)

    pub mkfifo-there : (o : Option Node) → get (pointwise nat_eq) nodes.names name ≡ o → is_some o ≡ true → MakesAtKeys k x (Fault EEXIST) k
    mkfifo-there o stands there = refused EEXIST (checked o stands ∙ ap (makes (lets_name k)) there)

    pub mkfifo-full : get (pointwise nat_eq) nodes.names name ≡ None → lets_name k ≡ false → MakesAtKeys k x (Fault ENOSPC) k
    mkfifo-full none full = refused ENOSPC (checked None none ∙ ap (λ b. makes b false) full)

    module _ (none : get (pointwise nat_eq) nodes.names name ≡ None) (can : lets_name k ≡ true) where
      draws : begin c pid call ≡ Draws (λ new. Answered (made new) reply.Unit)
      draws = checked None none ∙ ap (λ b. makes b false) can

      pub mkfifo-wants : MayWantAtKeys k x
      mkfifo-wants =
          λ new. ap (λ (a : Drawing numbers (Stepped A numbers)). is_refusal (drawn {X = Stepped A numbers} new a).reply) (step-draws k pid call process (λ new. Answered (made new) reply.Unit) draws)

      module _ (p : ℕ) (vacant : at nodes.pipes p ≡ None) (nodes' : Nodes) (pipes_are : at nodes'.pipes ≡ set_at nat_eq (at nodes.pipes) p (Some empty_pipe)) (files_are : at nodes'.files ≡ at nodes.files)
          (names_are : nodes'.names ≡ put nodes.names name (node.Pipe p)) (limits_are : nodes'.limits ≡ nodes.limits) where
        abbrev new : Contents A
        new = contents descs nodes' calls limits

        abbrev d : ℕ
        d = length descs.opened

        abbrev drawn_keys : NewKeys numbers
        drawn_keys = keys m.kernel d p (length nodes.files)

        new_is : core_of new ≡ made drawn_keys
        unfolding core_of
        new_is = λ i. record c { pipes = pipes_are i; files = files_are i; names = (ap keyed names_are ∙ put-keyed nodes.names name (node.Pipe p)) i }

        unnamed : named c name ≡ None
        unfolding core_of
        unnamed = get-keyed nodes.names name ∙ ap (option_map node_of) none

        unused : AreUnused c drawn_keys
        unused = are_unused m.kernel d p (length nodes.files) (past_end descs.opened) vacant (past_end nodes.files)

        made_core : core_of new ≡ settle c (made drawn_keys)
        made_core = new_is ∙ sym (mkfifo-settled c sound.settled name p unnamed unused.pipe)

        still : (n : Node) → IsThere nodes n → IsThere nodes' n
        still (node.Pipe q) h = subst (λ (z : ℕ → Option Pipe). IsSome (z q)) (sym pipes_are) (set_some (at nodes.pipes) p q (Some empty_pipe) (λ e. refl) h)
        still (node.File f) h = subst (λ (z : ℕ → Option (List ℕ)). IsSome (z f)) (sym files_are) h

        here : IsSome (at nodes'.pipes p)
        here = subst (λ (z : ℕ → Option Pipe). IsSome (z p)) (sym pipes_are) (subst (λ o. IsSome o) (sym (at_key (at nodes.pipes) p (Some empty_pipe))) refl)

        there : AreThere (at descs.opened) nodes'
        there = record {
          described = λ q. by (at descs.opened q) (sound.there.described q);
          named = subst (All (λ (e : List ℕ × Node). IsThere nodes' e.1)) (sym names_are) (put-all (IsThere nodes') nodes.names name (node.Pipe p) here (λ i e l. still (slice_index_or nodes.names i e).1 (sound.there.named i e l)));
        }
          where
            by : (o : Option Opened) → IfSome o (λ o. IsThere nodes o.node) → IfSome o (λ o. IsThere nodes' o.node)
            by None h = tt
            by (Some o) h = still o.node h

        pub mkfifo_sound : IsSound A new
        mkfifo_sound = record {
          whole = record {
            rise = sound.rise;
            numbered = sound.numbered;
            there = there;
            limit = limits_are ∙ sound.limit;
            once = subst (EachOnce (pointwise nat_eq)) (sym names_are) (put-once nodes.names name (node.Pipe p) sound.once none);
            settled = settled_after (core_of new) c (made drawn_keys) made_core;
          };
          waiting = sound.waiting;
          belong = sound.belong;
          on_nodes = sound.on_nodes;
        }

        pub mkfifo_makes : MakesAtKeys k x reply.Unit new
        mkfifo_makes =
            subst (λ a. Comes c a reply.Unit (core_of new)) (sym (step-draws k pid call process (λ new. Answered (made new) reply.Unit) draws))
            (drawn_keys, unused, refl, made_core)
