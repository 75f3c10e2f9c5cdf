-- The fields of the descriptions, as what they hold.
use Rattle.std.specs.Prelude.{◌-◌, length}
use Rattle.slab.specs.Slab.{slab_len}
use Rattle.pl_desc.specs.declared.descs.Descs.TheInside.{Inside}
use Rattle.pl_desc.specs.Descs.{Descs}
use Rattle.pl_desc.specs.Slots.{opened_in, loose_from}

-- the tables, what is open, what is held loosely, the room for more, and the limits
abbrev pub view_of : {A : Type 0} → Inside A → Descs
view_of k =
    record {
      tables = k.tables.tables;
      opened = opened_in k.descriptions.slots;
      loose = loose_from 0 k.tables.tables k.descriptions.slots;
      room =
          record {
            descriptions = k.descriptions.capacity - slab_len k.descriptions;
            pipes = length k.counts.pipes.items;
            files = length k.counts.files.items;
            rows = k.tables.rows;
          };
      limits = k.limits;
    }
