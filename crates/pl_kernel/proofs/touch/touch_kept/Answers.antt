use Rattle.std.proofs.Common.{◌≡◌, true, false, slice_index_or, Some, inl, inr, ⊎_elim, sym, ◌∙◌, ap, subst, arith}
use Rattle.std.specs.Prelude.{IsSome, option_map}
use Rattle.pl_model.specs.Modes.{any_mode}
use Rattle.pl_model.specs.Live.{is_end}
use Rattle.pl_desc.specs.Rows.{at}
use Rattle.pl_desc.specs.Descs.{Opened}
use Rattle.pl_state.specs.Contents.{Contents, core_of}
use Rattle.pl_kernel.specs.ToldNodes.{key_of}
use Rattle.pl_kernel.proofs.index.Touching.{member-at, any-next, any-past, key-on, less_then, touched_before, touched_now}
use Rattle.pl_kernel.proofs.touch.touch_kept.Goals as goal

pub node-requires : goal.node-requires
node-requires g c =
    subst (λ (z : Contents g.row.A.Denot). IsSome (at z.opened (slice_index_or c.args.kept.now c.loop-key.key-index 0))) (sym c.state.view_is)
    (c.requires (slice_index_or c.args.kept.now c.loop-key.key-index 0) (member-at c.args.kept.now c.loop-key.key-index (omega (arith, c.loop-key-test.true))))

pub loop-key-preserved : goal.loop-key-preserved
loop-key-preserved g c =
    let k = c.args.state.now in
    let keys = c.args.kept.now in
    let i = c.loop-key.key-index in
    let d = slice_index_or keys i 0 in
    let told : option_map (λ (o : Opened). o.node) (at k.opened d) ≡ Some c.node.result = ap (λ (z : Contents g.row.A.Denot). option_map (λ (o : Opened). o.node) (at z.opened d)) (sym c.state.view_is) ∙ c.node.ensures in
    record {
      less = less_then c.args.waiters.now c.loop-key.waiters c.touch_node.new.waiters c.loop-key.invariant.less c.touch_node.ensures.no_less;
      touched = λ node h. ⊎_elim
          (λ later. ⊎_elim
          (λ here. inr (touched_now c.args.waiters.now c.loop-key.waiters c.touch_node.new.waiters _ (key_of node) (key-on k d c.node.result told node here) c.loop-key.invariant.less c.touch_node.ensures.touched))
          (λ behind. inl behind)
          (any-next (λ d. is_end any_mode node ((core_of k).descriptions d)) keys i (omega (arith, c.loop-key-test.true)) later))
          (λ done. inr (touched_before c.args.waiters.now c.loop-key.waiters c.touch_node.new.waiters (key_of node) done c.touch_node.ensures.no_less))
          (c.loop-key.invariant.touched node h);
    }

pub returns-clause-touched : goal.returns-clause-touched
returns-clause-touched g c = λ node h.
    let k = c.args.state.now in
    let keys = c.args.kept.now in
    ⊎_elim (λ later. absurd (let no : true ≡ false = sym later ∙ any-past (λ d. is_end any_mode node ((core_of k).descriptions d)) keys c.loop-key.key-index (omega (arith, c.loop-key-test.false)) in cc)) (λ done. done) (c.loop-key.invariant.touched node h)
