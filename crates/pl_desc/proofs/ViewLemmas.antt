-- What contracts see of the fields, before and after a change.
use Rattle.std.proofs.Common.{◌≡◌, ◌-◌, List, Option, sym, ◌∙◌, ap, length}
use Rattle.std.specs.Prelude.{is_some, count_by}
use Rattle.pl_desc.specs.declared.description.Description.{Description}
use Rattle.pl_desc.specs.declared.descs.Descs.TheInside.{Inside}
use Rattle.pl_desc.specs.Descs.{live_count}
use Rattle.pl_desc.specs.Slots.{opened_in, loose_from}
use Rattle.pl_desc.specs.DescsView.{view_of}
use Rattle.pl_desc.proofs.Sound.{live-is}

-- as many slots have a value, where as many descriptions are open
pub len-same : (slots after : List (Option Description)) → live_count (opened_in after) ≡ live_count (opened_in slots) → count_by is_some after ≡ count_by is_some slots
len-same slots after e = sym (live-is after) ∙ e ∙ live-is slots

module _ {A : Type 0} (k : Inside A) (after : List (Option Description)) where
  abbrev changed : Inside A
  changed = record k { descriptions = record k.descriptions { slots = after } }

  -- holders change
  pub view-held : opened_in after ≡ opened_in k.descriptions.slots → view_of changed ≡ record (view_of k) { loose = loose_from 0 k.tables.tables after }
  view-held same = λ i. record {
    tables = k.tables.tables;
    opened = same i;
    loose = loose_from 0 k.tables.tables after;
    room = record {
      descriptions = k.descriptions.capacity - len-same k.descriptions.slots after (ap live_count same) i;
      pipes = length k.counts.pipes.items;
      files = length k.counts.files.items;
      rows = k.tables.rows;
    };
    limits = k.limits;
  }

  -- what descriptions say changes
  pub view-said : live_count (opened_in after) ≡ live_count (opened_in k.descriptions.slots) → loose_from 0 k.tables.tables after ≡ loose_from 0 k.tables.tables k.descriptions.slots → view_of changed ≡ record (view_of k) { opened = opened_in after }
  view-said live loose = λ i. record {
    tables = k.tables.tables;
    opened = opened_in after;
    loose = loose i;
    room = record {
      descriptions = k.descriptions.capacity - len-same k.descriptions.slots after live i;
      pipes = length k.counts.pipes.items;
      files = length k.counts.files.items;
      rows = k.tables.rows;
    };
    limits = k.limits;
  }
