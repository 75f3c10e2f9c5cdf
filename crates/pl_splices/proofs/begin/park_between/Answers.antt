use Rattle.std.proofs.Common.{◌≡◌, ℕ, [], ◌∷◌, ◌++◌, true, IsSome, OnOk, sym, ap, subst, ◌∙◌, nat_eq}
use Rattle.std.specs.Set.{is_member}
use Rattle.pl_desc.specs.Rows.{at}
use Rattle.pl_state.specs.Parking.{with_call}
use Rattle.pl_state.specs.Sound.{IsWaiting, KeepsNodes}
use Rattle.pl_splices.specs.Moves.{call_between}
use Rattle.pl_splices.proofs.by_call.Parking.{either_one}
use Rattle.pl_splices.proofs.begin.park_between.Given.{Over}
use Rattle.pl_splices.proofs.begin.park_between.Goals.{After-from_vec}
use Rattle.pl_splices.proofs.begin.park_between.Goals as goal

-- it keeps both
kept_is : (g : Over) (c : After-from_vec g) → c.from_vec.result ≡ c.args.from ∷ c.args.to ∷ []
kept_is g c = c.from_vec.ensures ∙ c.push_reserved-2.ensures.items ∙ ap (λ xs. xs ++ c.args.to ∷ []) (c.push_reserved.ensures.items ∙ ap (λ xs. xs ++ c.args.from ∷ []) c.in_ok-kept.ensures.items)

pub park-requires-clause-here : goal.park-requires-clause-here
park-requires-clause-here g c =
    subst (λ ks. (key : ℕ) → is_member nat_eq ks key ≡ true → IsSome (at c.args.kernel.now.opened key)) (sym (kept_is g c))
    (λ key member. either_one c.args.from c.args.to key (λ q. IsSome (at c.args.kernel.now.opened q)) c.requires.source c.requires.target member)

pub park-requires-clause-nodes : goal.park-requires-clause-nodes
park-requires-clause-nodes g c = subst (λ ks. KeepsNodes (at c.args.kernel.now.opened) (record (call_between c.args.from c.args.to c.args.pid c.args.call) { kept = ks })) (sym (kept_is g c)) c.requires.nodes

pub park-requires-clause-waits : goal.park-requires-clause-waits
park-requires-clause-waits g c = subst (λ ks. IsWaiting g.row.A.Denot (record (call_between c.args.from c.args.to c.args.pid c.args.call) { kept = ks })) (sym (kept_is g c)) c.requires.waits

pub returns-clause-ok : goal.returns-clause-ok
returns-clause-ok g c =
    subst (λ ks. OnOk c.park.result (c.park.new.kernel ≡ with_call c.args.kernel.now (record (call_between c.args.from c.args.to c.args.pid c.args.call) { kept = ks }))) (kept_is g (goal.at.returns-clause-ok g c).After-from_vec) c.park.ensures.ok
