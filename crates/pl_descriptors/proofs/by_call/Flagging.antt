-- What calls on the flags of a description come to at the kernel's keys.
use Rattle.std.proofs.Common.{◌≡◌, ℕ, Option, Some, None, IfSome, refl, sym, ◌∙◌, ap, subst, nat_eq}
use Rattle.std.specs.Prelude.{ℤ, option_map}
use Rattle.pl_model.specs.declared.calls.Call.{Call}
use Rattle.pl_model.specs.declared.calls.Step.TheVariants.{Begin}
use Rattle.pl_model.specs.declared.flags.OpenFlags.{OpenFlags}
use Rattle.pl_model.specs.declared.replies.Reply.TheVariants.{Flags, Fault}
use Rattle.pl_model.specs.declared.replies.Reply.TheVariants as reply
use Rattle.pl_model.specs.declared.replies.Errno.TheVariants.{EBADF}
use Rattle.pl_model.specs.Flags.{flags_set}
use Rattle.pl_model.specs.Map.{set_at, change_at}
use Rattle.pl_model.specs.State.{Core, Open, set_description}
use Rattle.pl_model.specs.Settle.{settle}
use Rattle.pl_model.specs.Trial.{Begins, found, answered}
use Rattle.pl_model.specs.Begin.{begin_get_fl, begin_set_fl}
use Rattle.pl_model.specs.Step.{begin, ended, stepped}
use Rattle.pl_model.specs.Numbered.{numbers}
use Rattle.pl_model.proofs.settling.Changes.{replace-settled}
use Rattle.pl_desc.specs.Rows.{at, is_pid, row_of, count_at}
use Rattle.pl_desc.specs.Descs.{Opened, Descs, IsTidy}
use Rattle.pl_state.specs.Contents.{Contents, IsThere, contents, description_of, core_of}
use Rattle.pl_state.specs.Sound.{IsSound, AreThere, AreCounted}
use Rattle.pl_state.proofs.holders.Belonging.{belong-same}
use Rattle.pl_state.specs.Makes.{MakesAtKeys}
use Rattle.pl_state.proofs.Known.{Caller}
use Rattle.pl_nodes.proofs.Keyed.{change_at-is}
use Rattle.pl_state.proofs.by_call.Begun.{open-none, open-is, does_plain, does_same, step-refused, step-answered}
use Rattle.pl_state.proofs.holders.There.{settled_after, there-added, map-set_at}
use Rattle.pl_state.proofs.holders.OnNodes.{wait-changed}

module _ {A : Type 0} (m : Caller A) (fd : ℤ) where
  open m use {descs, nodes, calls, limits, sound, are, pid, process}

  abbrev k : Contents A
  k = contents descs nodes calls limits

  abbrev c : Core A numbers
  c = core_of k

  abbrev tells : Option (Open numbers) → Begins A numbers
  tells o = found o EBADF (λ o. answered c (Flags o.description.mode o.description.flags))

  pub get-closed : row_of descs.tables pid fd ≡ None → MakesAtKeys k (Begin pid (Call.GetFl fd)) (Fault EBADF) k
  unfolding begin begin_get_fl
  get-closed none = does_same k sound (Begin pid (Call.GetFl fd)) (stepped c (Fault EBADF)) (Fault EBADF) (step-refused k pid (Call.GetFl fd) process EBADF (ap tells (open-none k pid fd none))) refl refl

  module _ (d : ℕ) (row : row_of descs.tables pid fd ≡ Some d) (o : Opened) (here : at descs.opened d ≡ Some o) where
    pub get-tells : MakesAtKeys k (Begin pid (Call.GetFl fd)) (Flags o.mode o.flags) k
    unfolding begin begin_get_fl
    get-tells = does_same k sound (Begin pid (Call.GetFl fd)) (stepped c (Flags o.mode o.flags)) (Flags o.mode o.flags) (step-answered k pid (Call.GetFl fd) process c (Flags o.mode o.flags) (ap tells (open-is k pid fd d o row here))) refl refl

  module _ (flags : OpenFlags) where
    abbrev call : Call A
    call = Call.SetFl fd flags

    abbrev sets : Option (Open numbers) → Begins A numbers
    sets o = found o EBADF (λ o. answered (set_description c o.key (record o.description { flags = flags_set o.description.flags flags })) reply.Unit)

    pub set-closed : row_of descs.tables pid fd ≡ None → MakesAtKeys k (Begin pid call) (Fault EBADF) k
    unfolding begin begin_set_fl
    set-closed none = does_same k sound (Begin pid call) (stepped c (Fault EBADF)) (Fault EBADF) (step-refused k pid call process EBADF (ap sets (open-none k pid fd none))) refl refl

    module _ (d : ℕ) (row : row_of descs.tables pid fd ≡ Some d) (o : Opened) (here : at descs.opened d ≡ Some o)
        (f : OpenFlags) (is_set : f ≡ flags_set o.flags flags) (descs' : Descs) (opened : at descs'.opened ≡ change_at d (λ o. record o { flags = f }) (at descs.opened)) (rest : descs' ≡ record descs { opened = descs'.opened }) where
      abbrev new : Contents A
      new = contents descs' nodes calls limits

      abbrev now : Opened
      now = record o { flags = f }

      abbrev u : Core A numbers
      u = set_description c d (description_of now)

      opened_is : at descs'.opened ≡ set_at nat_eq (at descs.opened) d (Some now)
      opened_is = opened ∙ change_at-is d (λ o. record o { flags = f }) (at descs.opened) o here

      is : core_of new ≡ u
      unfolding core_of
      is = λ i. record (core_of (contents (rest i) nodes calls limits)) {
        descriptions = (ap (λ (m : ℕ → Option Opened). λ q. option_map description_of (m q)) opened_is ∙ map-set_at description_of (at descs.opened) d (Some now)) i;
      }

      described : c.descriptions d ≡ Some (description_of o)
      unfolding core_of
      described = ap (option_map description_of) here

      settles : core_of new ≡ settle c u
      settles = is ∙ sym (replace-settled c sound.settled d (description_of o) (description_of now) described refl refl)

      pub set-sets : MakesAtKeys k (Begin pid call) reply.Unit new
      unfolding begin begin_set_fl
      set-sets = does_plain k new (Begin pid call) (ended c (stepped u reply.Unit)) reply.Unit (step-answered k pid call process u reply.Unit (ap sets (open-is k pid fd d o row here) ∙ ap (λ z. answered (set_description c d (record (description_of o) { flags = z })) reply.Unit) (sym is_set))) refl settles

      pub set-sound : IsSound A new
      set-sound = record {
        whole = record {
          rise = sound.rise;
          numbered = sound.numbered;
          there = subst (λ m. AreThere m nodes) (sym opened_is) (there-added (at descs.opened) nodes sound.there d now (subst (λ z. IfSome z (λ o. IsThere nodes o.node)) here (sound.there.described d)));
          limit = sound.limit;
          once = sound.once;
          settled = settled_after (core_of new) c u settles;
        };
        waiting = sound.waiting;
        belong = belong-same calls.calls (is_pid descs.tables) (is_pid descs'.tables) sound.belong (ap (λ (z : Descs). is_pid z.tables) rest);
        on_nodes = wait-changed calls.calls (at descs.opened) (at descs'.opened) d (λ o. record o { flags = f }) (λ o. refl) opened sound.on_nodes;
      }

      pub set-held : IsTidy descs' → AreCounted A limits descs' calls.calls
      set-held tidy = record { tidy = tidy; bounds = ap (λ z. z.limits) rest ∙ are.bounds; counted = λ q. ap (λ z. count_at z.loose q) rest ∙ are.counted q }
