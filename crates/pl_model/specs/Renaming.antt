-- The state under other numbers.
use Rattle.std.specs.Prelude.{◌≡◌, ℕ, map, option_map}
use Rattle.pl_model.specs.Keys.{Node, NewKeys, Drawing, PipeNode, FileNode, Plain, Draws}
use Rattle.pl_model.specs.State.{Core, Description, Waiting}
use Rattle.pl_model.specs.Trial.{Flow}
use Rattle.pl_model.specs.Step.{Stepped}
use Rattle.pl_model.specs.Numbered.{numbers}

-- a one-to-one map of the whole numbers onto themselves, with its inverse
pub record Renaming : Type 0 where
  pub to : ℕ → ℕ
  pub back : ℕ → ℕ
  pub to-back : (b : ℕ) → to (back b) ≡ b
  pub back-to : (a : ℕ) → back (to a) ≡ a

-- one for each kind of key
pub record Renamings : Type 0 where
  pub description : Renaming
  pub pipe : Renaming
  pub file : Renaming

module _ (r : Renamings) where
  abbrev pub rename_node : Node numbers → Node numbers
  rename_node (PipeNode p) = PipeNode (r.pipe.to p)
  rename_node (FileNode f) = FileNode (r.file.to f)

  abbrev pub rename_description : Description numbers → Description numbers
  rename_description d = record { node = rename_node d.node; mode = d.mode; flags = d.flags; offset = d.offset }

  abbrev pub rename_keys : NewKeys numbers → NewKeys numbers
  rename_keys new =
      record {
        description = r.description.to new.description;
        other_description = r.description.to new.other_description;
        pipe = r.pipe.to new.pipe;
        file = r.file.to new.file;
      }

  -- the keys that become these
  abbrev pub rename_back : NewKeys numbers → NewKeys numbers
  rename_back new =
      record {
        description = r.description.back new.description;
        other_description = r.description.back new.other_description;
        pipe = r.pipe.back new.pipe;
        file = r.file.back new.file;
      }

  abbrev pub rename_flow : Flow numbers → Flow numbers
  rename_flow f = record { out = option_map (λ o. (r.pipe.to o.0, o.1)) f.out; into = option_map (λ i. (r.pipe.to i.0, i.1)) f.into }

  module _ {A : Type 0} where
    abbrev pub rename_waiting : Waiting A numbers → Waiting A numbers
    rename_waiting w = record { pid = w.pid; call = w.call; kept = map r.description.to w.kept; taken = w.taken; met = w.met }

    -- all that is held, under other keys
    abbrev pub rename : Core A numbers → Core A numbers
    rename c =
        record {
          processes = c.processes;
          rows = λ pid fd. option_map r.description.to (c.rows pid fd);
          descriptions = λ d. option_map rename_description (c.descriptions (r.description.back d));
          pipes = λ p. c.pipes (r.pipe.back p);
          files = λ f. c.files (r.file.back f);
          names = map (λ e. (e.0, rename_node e.1)) c.names;
          parked = map (λ e. (e.0, rename_waiting e.1)) c.parked;
          next_call = c.next_call;
          limits = c.limits;
        }

    abbrev pub rename_stepped : Stepped A numbers → Stepped A numbers
    rename_stepped x = record { state = rename x.state; reply = x.reply; flow = rename_flow x.flow }

    -- a step under other keys, which takes other new keys
    abbrev pub rename_drawing : Drawing numbers (Stepped A numbers) → Drawing numbers (Stepped A numbers)
    rename_drawing (Plain x) = Plain (rename_stepped x)
    rename_drawing (Draws f) = Draws (λ new. rename_stepped (f (rename_back new)))
