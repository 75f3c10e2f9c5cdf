use Rattle.std.proofs.Common.{◌≡◌, ◌-◌, ◌∙◌, ap, sym, subst, arith, length, List, Option, []}
use Rattle.std.specs.Prelude.{is_some, count_by}
use Rattle.pl_desc.specs.declared.description.Description.{Description}
use Rattle.pl_desc.specs.Rows.{Tables}
use Rattle.pl_desc.specs.Ends.{ends_at}
use Rattle.pl_desc.specs.Slots.{opened_in, loose_from, IsSound}
use Rattle.pl_desc.proofs.EndLemmas.{ends-none}
use Rattle.pl_desc.proofs.Sound.{sound-none, tidy}
use Rattle.pl_desc.proofs.SlotLemmas.{loose-none}
use Rattle.pl_desc.proofs.descs.Descs.new.Goals as goal

pub invariant_of-result : goal.invariant_of-result
invariant_of-result g c =
    subst (λ (ts : Tables). IsSound c.args.limits ts c.new-2.result.slots (ends_at c.new-3.result)) (sym (ap (λ t. t.tables) c.new.ensures))
    (subst (λ (ss : List (Option Description)). IsSound c.args.limits [] ss (ends_at c.new-3.result)) (sym c.new-2.ensures.empty)
    (sound-none c.requires (ends_at c.new-3.result) (ends-none c.new-3.result c.new-3.ensures.pipes c.new-3.ensures.files)))

pub returns-clause-value : goal.returns-clause-value
returns-clause-value g c =
    let len : c.new-2.result.capacity - count_by is_some c.new-2.result.slots ≡ 0 = omega (arith, c.new-2.ensures.capacity) in
    (λ i. record {
      tables = (c.new.ensures i).tables;
      opened = opened_in (c.new-2.ensures.empty i);
      loose = loose_from 0 (c.new.ensures i).tables (c.new-2.ensures.empty i);
      room = record {
        descriptions = len i;
        pipes = length (c.new-3.ensures.pipes i);
        files = length (c.new-3.ensures.files i);
        rows = (c.new.ensures i).rows;
      };
      limits = c.args.limits;
    })
    ∙ (λ i. record { tables = []; opened = []; loose = loose-none i; room = record { descriptions = 0; pipes = 0; files = 0; rows = [] }; limits = c.args.limits })

pub returns-clause-tidy : goal.returns-clause-tidy
returns-clause-tidy g c = tidy _ _ _ (invariant_of-result g c) _
