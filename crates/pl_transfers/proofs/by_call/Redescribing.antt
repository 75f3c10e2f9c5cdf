-- A description changes, and is on what it was on; its file may have other bytes.
use Rattle.std.proofs.Common.{◌≡◌, ℕ, List, Option, Some, IfSome, IsSome, refl, sym, ◌∙◌, ap, subst, nat_eq}
use Rattle.std.specs.Prelude.{option_map}
use Rattle.pl_model.specs.declared.node.Node.{Node}
use Rattle.pl_model.specs.declared.node.Node.TheVariants as node
use Rattle.pl_model.specs.Map.{set_at, change_at}
use Rattle.pl_model.specs.State.{Core, set_file, set_description}
use Rattle.pl_model.specs.Settle.{settle}
use Rattle.pl_model.specs.Numbered.{numbers}
use Rattle.pl_model.proofs.settling.Changes.{replace-settled}
use Rattle.pl_model.proofs.settling.Files.{write-settled}
use Rattle.pl_desc.specs.Rows.{at}
use Rattle.pl_desc.specs.Descs.{Opened}
use Rattle.pl_state.specs.Contents.{Contents, IsThere, node_of, description_of, core_of}
use Rattle.pl_state.specs.Sound.{IsSound, AreThere}
use Rattle.pl_nodes.proofs.Keyed.{change_at-is}
use Rattle.pl_state.proofs.holders.OnNodes.{wait-changed}
use Rattle.pl_state.proofs.holders.There.{settled_after, there-still, there-added, map-set_at, set_some}

-- the description of a key changes
module _ {A : Type 0} (k : Contents A) (sound : IsSound A k) (d : ℕ) (o : Opened) (here : at k.opened d ≡ Some o) (f : Opened → Opened) (place : (x : Opened) → (f x).node ≡ x.node) (mode : (f o).mode ≡ o.mode)
    (new : Contents A) (opened : at new.opened ≡ change_at d f (at k.opened)) where
  abbrev c : Core A numbers
  c = core_of k

  pub opened_is : at new.opened ≡ set_at nat_eq (at k.opened) d (Some (f o))
  opened_is = opened ∙ change_at-is d f (at k.opened) o here

  described_are : (λ q. option_map description_of (at new.opened q)) ≡ set_at nat_eq (λ q. option_map description_of (at k.opened q)) d (Some (description_of (f o)))
  described_are = ap (λ (m : ℕ → Option Opened). λ q. option_map description_of (m q)) opened_is ∙ map-set_at description_of (at k.opened) d (Some (f o))

  described : c.descriptions d ≡ Some (description_of o)
  unfolding core_of
  described = ap (option_map description_of) here

  same_place : (description_of (f o)).node ≡ (description_of o).node
  same_place = ap node_of (place o)

  is_there : IsThere k.nodes (f o).node
  is_there = subst (IsThere k.nodes) (sym (place o)) (subst (λ z. IfSome z (λ o. IsThere k.nodes o.node)) here (sound.there.described d))

  there_still : AreThere (at new.opened) k.nodes
  there_still = subst (λ m. AreThere m k.nodes) (sym opened_is) (there-added (at k.opened) k.nodes sound.there d (f o) is_there)

  module _ (rest : new ≡ record k { opened = new.opened }) where
    abbrev pub redescribed_core : Core A numbers
    redescribed_core = set_description (core_of k) d (description_of (f o))

    pub redescribed_is : core_of new ≡ redescribed_core
    unfolding core_of
    redescribed_is = ap core_of rest ∙ (λ i. record (core_of k) { descriptions = described_are i })

    pub redescribed : core_of new ≡ settle (core_of k) redescribed_core
    redescribed = redescribed_is ∙ sym (replace-settled c sound.settled d (description_of o) (description_of (f o)) described same_place mode)

    pub redescribed_sound : IsSound A new
    redescribed_sound = subst (IsSound A) (sym rest) (record {
      whole = record {
        rise = sound.rise;
        numbered = sound.numbered;
        there = there_still;
        limit = sound.limit;
        once = sound.once;
        settled = settled_after (core_of (record k { opened = new.opened })) c redescribed_core (sym (ap core_of rest) ∙ redescribed);
      };
      waiting = sound.waiting;
      belong = sound.belong;
      on_nodes = wait-changed k.calls.calls (at k.opened) (at new.opened) d f place opened sound.on_nodes;
    })

  -- and its file has other bytes
  module _ (g : ℕ) (held : List ℕ) (there : at k.nodes.files g ≡ Some held) (h : List ℕ → List ℕ) (files : at new.nodes.files ≡ change_at g h (at k.nodes.files))
      (rest : new ≡ record k { opened = new.opened; nodes = record k.nodes { files = new.nodes.files; memory = new.nodes.memory } }) where
    abbrev pub rewritten_core : Core A numbers
    rewritten_core = set_description (set_file (core_of k) g (h held)) d (description_of (f o))

    files_are : at new.nodes.files ≡ set_at nat_eq (at k.nodes.files) g (Some (h held))
    files_are = files ∙ change_at-is g h (at k.nodes.files) held there

    pub rewritten_is : core_of new ≡ rewritten_core
    unfolding core_of
    rewritten_is = ap core_of rest ∙ (λ i. record (core_of k) { descriptions = described_are i; files = files_are i })

    file_there : c.files g ≡ Some held
    unfolding core_of
    file_there = there

    pub rewritten : core_of new ≡ settle (core_of k) rewritten_core
    rewritten = rewritten_is ∙ sym (write-settled c sound.settled d (description_of o) (description_of (f o)) described same_place mode g held file_there (h held))

    nodes_still : AreThere (at new.opened) (record k.nodes { files = new.nodes.files; memory = new.nodes.memory })
    nodes_still = there-still (at new.opened) k.nodes (record k.nodes { files = new.nodes.files; memory = new.nodes.memory }) refl still there_still
      where
        still : (n : Node) → IsThere k.nodes n → IsThere (record k.nodes { files = new.nodes.files; memory = new.nodes.memory }) n
        still (node.Pipe p) i = i
        still (node.File q) i = subst (λ (m : ℕ → Option (List ℕ)). IsSome (m q)) (sym files_are) (set_some (at k.nodes.files) g q (Some (h held)) (λ e. refl) i)

    pub rewritten_sound : IsSound A new
    rewritten_sound = subst (IsSound A) (sym rest) (record {
      whole = record {
        rise = sound.rise;
        numbered = sound.numbered;
        there = nodes_still;
        limit = sound.limit;
        once = sound.once;
        settled = settled_after (core_of (record k { opened = new.opened; nodes = record k.nodes { files = new.nodes.files; memory = new.nodes.memory } })) c rewritten_core (sym (ap core_of rest) ∙ rewritten);
      };
      waiting = sound.waiting;
      belong = sound.belong;
      on_nodes = wait-changed k.calls.calls (at k.opened) (at new.opened) d f place opened sound.on_nodes;
    })
