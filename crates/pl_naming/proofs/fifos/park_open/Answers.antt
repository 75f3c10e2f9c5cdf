use Rattle.std.proofs.Common.{◌≡◌, ◌+◌, ◌++◌, [], ◌∷◌, Some, IfSome, IsSome, false, refl, ap, sym, subst, ◌∙◌, nat_eq}
use Rattle.pl_model.specs.declared.node.Node.TheVariants as node
use Rattle.pl_model.specs.Map.{get, put, set_at}
use Rattle.pl_parked.specs.declared.call.ParkedCall.{ParkedCall}
use Rattle.pl_parked.specs.Calls.{Calls}
use Rattle.pl_desc.specs.Rows.{at, count_at, change_count, one_more}
use Rattle.pl_desc.specs.Descs.{Descs, fresh}
use Rattle.pl_state.proofs.waiting.InOrder.{get_last, put_last}
use Rattle.pl_naming.specs.Waits.{open_on}
use Rattle.pl_naming.proofs.fifos.park_open.Given.{Over}
use Rattle.pl_naming.proofs.fifos.park_open.Goals.{In-Ok}
use Rattle.pl_naming.proofs.fifos.park_open.Goals as goal

-- the call as it is parked, without a description
module _ (g : Over) (c : In-Ok g) where
  abbrev was : Calls g.row.A.Denot
  was = c.args.parked.now

  abbrev first : ParkedCall g.row.A.Denot
  first = record { pid = c.args.pid; call = c.args.call; kept = c.from_vec.result; fifo = Some c.args.end.pipe; taken = 0; met = false }

  here : get nat_eq c.park.new.self.calls c.in-Ok.number ≡ Some first
  here = (λ i. get nat_eq (c.in-Ok.ensures.ok i).calls (c.in-Ok.ensures.number i)) ∙ get_last 0 was.next was.calls c.requires.rise first

pub set_kept-requires : goal.set_kept-requires
set_kept-requires g c = subst (λ o. IsSome o) (sym (here g (goal.at.set_kept-requires g c).In-Ok)) refl

pub returns-clause-ok : goal.returns-clause-ok
returns-clause-ok g c =
    let w = (goal.at.returns-clause-ok g c).In-Ok in
    let key = c.open_reserved-key.result in
    let opened = c.open_reserved-key.ensures in
    let kept_room = c.in_ok-reserve.ensures.kept in
    let keys : c.from_vec-2.result ≡ key ∷ [] = c.from_vec-2.ensures ∙ c.push_reserved.ensures.items ∙ ap (λ ks. ks ++ key ∷ []) c.in_ok-kept.ensures.items in
    let was = c.args.parked.now in
    let first = first g w in
    let set : c.set_kept.new.self ≡ record c.park.new.self { calls = put nat_eq c.park.new.self.calls c.in-Ok.number (record first { kept = c.from_vec-2.result }) } =
    subst (λ o. IfSome o (λ call. c.set_kept.new.self ≡ record c.park.new.self { calls = put nat_eq c.park.new.self.calls c.in-Ok.number (record call { kept = c.from_vec-2.result }) })) (here g w) c.set_kept.ensures in
    record {
      vacant = ap (λ (z : Descs). at z.opened key) (sym kept_room) ∙ opened.vacant;
      opened = opened.opened ∙ (λ i. set_at nat_eq (at (kept_room i).opened) key (Some (fresh (node.Pipe c.args.end.pipe) c.args.end.mode (c.status_of.ensures i))));
      loose = opened.loose ∙ ap (λ (z : Descs). change_count key one_more (count_at z.loose)) kept_room;
      tables = ap (λ (z : Descs). z.tables) opened.rest ∙ ap (λ (z : Descs). z.tables) kept_room;
      limits = ap (λ (z : Descs). z.limits) opened.rest ∙ ap (λ (z : Descs). z.limits) kept_room;
      tidy = opened.tidy;
      parked = set
          ∙ (λ i. record (c.in-Ok.ensures.ok i) { calls = put nat_eq (c.in-Ok.ensures.ok i).calls (c.in-Ok.ensures.number i) (record first { kept = keys i }) })
          ∙ ap (λ es. record { calls = es; next = was.next + 1 }) (put_last 0 was.next was.calls c.requires.rise first (open_on key c.args.pid c.args.end.pipe c.args.call));
    }
