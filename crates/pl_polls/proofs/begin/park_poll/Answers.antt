use Rattle.std.proofs.Common.{◌≡◌, ℕ, true, IsSome, OnOk, sym, ap, subst, ◌∙◌, nat_eq}
use Rattle.std.specs.Set.{is_member}
use Rattle.pl_desc.specs.Rows.{at}
use Rattle.pl_state.specs.Contents.{Contents}
use Rattle.pl_state.specs.Parking.{with_call}
use Rattle.pl_state.specs.Sound.{IsWaiting}
use Rattle.pl_state.proofs.Known.{caller, known}
use Rattle.pl_polls.specs.Waiting.{keys_named, poll_of}
use Rattle.pl_polls.proofs.by_call.Naming.{keys-open}
use Rattle.pl_polls.proofs.by_call.Begins.{poll_may_wait}
use Rattle.pl_polls.proofs.begin.park_poll.Given.{Over}
use Rattle.pl_polls.proofs.begin.park_poll.Goals.{After-from_vec}
use Rattle.pl_polls.proofs.begin.park_poll.Goals as goal

-- it keeps what its entries name
kept_is : (g : Over) (c : After-from_vec g) → c.from_vec.result ≡ keys_named c.args.kernel.now.tables c.args.pid c.args.entries
kept_is g c = c.from_vec.ensures ∙ c.in_ok-kept.ensures ∙ ap (keys_named c.kernel.inside.descs.tables c.args.pid) c.as_slice.ensures ∙ ap (λ (z : Contents g.row.A.Denot). keys_named z.tables c.args.pid c.args.entries) c.kernel.view_is

pub park-requires-clause-here : goal.park-requires-clause-here
park-requires-clause-here g c =
    subst (λ ks. (key : ℕ) → is_member nat_eq ks key ≡ true → IsSome (at c.args.kernel.now.opened key)) (sym (kept_is g c))
    (subst (λ (z : Contents g.row.A.Denot). (key : ℕ) → is_member nat_eq (keys_named z.tables c.args.pid c.args.entries) key ≡ true → IsSome (at z.opened key)) c.kernel.view_is
    (keys-open (known c.kernel.inside c.kernel.invariant) c.args.pid c.args.entries))

pub park-requires-clause-waits : goal.park-requires-clause-waits
park-requires-clause-waits g c =
    let A = g.row.A.Denot in
    subst (λ ks. IsWaiting A (record (poll_of {A = A} c.args.kernel.now.tables c.args.pid c.args.entries) { kept = ks })) (sym (kept_is g c))
    (subst (λ (z : Contents A). IsWaiting A (poll_of z.tables c.args.pid c.args.entries)) c.kernel.view_is
    (poll_may_wait (caller c.kernel.inside c.kernel.invariant c.args.kernel.now c.kernel.view_is c.args.pid c.requires.process) c.args.entries c.requires.few))

pub returns-clause-ok : goal.returns-clause-ok
returns-clause-ok g c =
    let A = g.row.A.Denot in
    let k = c.args.kernel.now in
    subst (λ ks. OnOk c.park.result (c.park.new.kernel ≡ with_call k (record (poll_of {A = A} k.tables c.args.pid c.args.entries) { kept = ks }))) (kept_is g (goal.at.returns-clause-ok g c).After-from_vec) c.park.ensures.ok
