use Rattle.std.proofs.Common.{◌≡◌, ℕ, true, false, inl, inr, ⊎_elim, sym, ◌∙◌, ap, nat_eq, []}
use Rattle.std.specs.Prelude.{◌||◌, ◌&&◌}
use Rattle.std.proofs.lemmas.Bool.{eq-eqb, eqb-true}
use Rattle.pl_model.proofs.settling.Members.{and_left, and_right, or_left, or_right, or_elim}
use Rattle.pl_least.specs.Numbers.{number_at}
use Rattle.pl_waiters.specs.declared.waiter.Waiter.{Waiter}
use Rattle.pl_waiters.specs.Marks.{is_marked}
use Rattle.pl_waiters.specs.Queue.{waiter, is_waiter}
use Rattle.pl_waiters.specs.Seen.{stands, SameQueues}
use Rattle.pl_parked.proofs.Waiting.{OnOk_by, OnErr_by}
use Rattle.pl_state.specs.Contents.{node_of}
use Rattle.pl_kernel.specs.ToldNodes.{key_of}
use Rattle.pl_kernel.proofs.index.Places.{first-or-rest}
use Rattle.pl_kernel.proofs.placing.place_node.Goals as goal

-- the call of this number in this queue of this node
same : (node queue number : ℕ) (key : Waiter) → node ≡ key.node → queue ≡ key.queue → number ≡ key.number → is_waiter (waiter node queue number) key ≡ true
same node queue number key n q m = λ i. eq-eqb node key.node n i && (eq-eqb queue key.queue q i && eq-eqb number key.number m i)

-- there was no memory
pub returns-then-is_err : goal.returns-then-is_err
returns-then-is_err g c =
    let p = c.drop_one.ensures in
    let a = c.add.ensures in
    let same : SameQueues c.drop_one.new.waiters c.add.new.self = OnErr_by _ c.add.result c.if-is_err.ensures.value a.err in
    record {
      looked = a.looked ∙ p.known;
      least_ones = λ n. a.least n ∙ ap (λ l. number_at l n) p.least_ones;
      more = λ n h. a.touched n ∙ ap (λ m. is_marked m n) p.touched ∙ h;
      kept = λ key some there. same key ∙ p.kept key some there;
      only = λ key there. inl (p.fewer key (sym (same key) ∙ there));
      added = λ d key is h. absurd (let no : false ≡ true = d in cc);
    }

pub returns : goal.returns
returns g c =
    let p = c.drop_one.ensures in
    let a = c.add.ensures in
    let t = c.touch.ensures in
    let node = c.key_of_node-node.result in
    let place = key_of (node_of c.args.node) in
    let queue = c.args.queue in
    let number = c.args.number in
    let at : node ≡ place = c.key_of_node-node.ensures in
    let put : (key : Waiter) → stands c.add.new.self key ≡ (is_waiter (waiter node queue number) key || stands c.drop_one.new.waiters key) = OnOk_by _ c.add.result c.if-is_err.ensures.value a.added in
    record {
      looked = t.known ∙ a.looked ∙ p.known;
      least_ones = λ n. ap (λ l. number_at l n) t.least ∙ a.least n ∙ ap (λ l. number_at l n) p.least_ones;
      more = λ n h. t.more n (a.touched n ∙ ap (λ m. is_marked m n) p.touched ∙ h);
      kept = λ key some there. t.queues key ∙ put key ∙ or_right (is_waiter (waiter node queue number) key) (stands c.drop_one.new.waiters key) (p.kept key some there);
      only = λ key there. or_elim (is_waiter (waiter node queue number) key) (stands c.drop_one.new.waiters key)
          (λ is. (let rest : (nat_eq queue key.queue && nat_eq number key.number) ≡ true = and_right (nat_eq node key.node) (nat_eq queue key.queue && nat_eq number key.number) is in
          let home : node ≡ key.node = eqb-true node key.node (and_left (nat_eq node key.node) (nat_eq queue key.queue && nat_eq number key.number) is) in
          inr (
            sym (eqb-true number key.number (and_right (nat_eq queue key.queue) (nat_eq number key.number) rest)),
            λ i. (eq-eqb place key.node (sym at ∙ home) i && and_left (nat_eq queue key.queue) (nat_eq number key.number) rest i) || false,
            ap (is_marked c.touch.new.self.touched) (sym home) ∙ t.here key (sym home) (sym (t.queues key) ∙ there),
          )))
          (λ was. inl (p.fewer key was))
          (sym (put key) ∙ sym (t.queues key) ∙ there);
      added = λ d key is h. ⊎_elim
          (λ f. (let there : stands c.add.new.self key ≡ true = put key ∙ or_left (is_waiter (waiter node queue number) key) (stands c.drop_one.new.waiters key) (same node queue number key (at ∙ f.0) f.1 (sym is)) in
          (t.queues key ∙ there, ap (is_marked c.touch.new.self.touched) (sym (at ∙ f.0)) ∙ t.here key (sym (at ∙ f.0)) there)))
          (λ none. absurd (cc))
          (first-or-rest place queue [] key.node key.queue h);
    }
