use Rattle.std.proofs.Common.{◌≡◌, ℕ, Bool, true, false, Some, refl, sym, ◌∙◌, ap, subst}
use Rattle.std.specs.Prelude.{option_map, ◌||◌}
use Rattle.std.specs.List.{list_any}
use Rattle.pl_model.specs.declared.node.Node.TheVariants.{Pipe}
use Rattle.pl_model.specs.declared.calls.Step.TheVariants.{Resume}
use Rattle.pl_model.specs.Modes.{any_mode}
use Rattle.pl_model.specs.Live.{is_end}
use Rattle.pl_model.specs.Touching.{touches}
use Rattle.pl_desc.specs.Rows.{at}
use Rattle.pl_desc.specs.Descs.{Opened}
use Rattle.pl_state.specs.Contents.{core_of}
use Rattle.pl_kernel.specs.Index.{IsTouched}
use Rattle.pl_kernel.proofs.index.Touching.{waits-where, key-on, touches-all}
use Rattle.pl_kernel.proofs.touch.touch_read_again.Goals as goal

-- the key of the read's description is the only one that it keeps
alone : (b : Bool) → (b || false) ≡ true → b ≡ true
alone true h = refl
alone false h = absurd (cc)

pub returns : goal.returns
unfolding touches
returns g c =
    let k = c.args.state.now in
    let read = c.args.read in
    let found = c.requires in
    let r = found.waits in
    let told : option_map (λ (o : Opened). o.node) (at k.opened read.key) ≡ Some (Pipe read.pipe) = ap (λ z. option_map (λ (o : Opened). o.node) z) found.on.here ∙ ap (λ n. Some n) found.on.node in
    touches-all (core_of k) (Resume c.args.number) c.args.waiters.now c.touch_node.new.waiters c.touch_node.ensures.no_less
    (λ node waits.
    let f : ℕ → Bool = λ d. is_end any_mode node ((core_of k).descriptions d) in
    let on = alone (f read.key) (ap (list_any f) (sym r.kept) ∙ waits-where k node c.args.number r.call r.here waits) in
    subst (IsTouched c.args.waiters.now c.touch_node.new.waiters) (key-on k read.key (Pipe read.pipe) told node on) c.touch_node.ensures.touched)
