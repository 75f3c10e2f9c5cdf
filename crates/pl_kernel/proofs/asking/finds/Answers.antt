use Rattle.std.proofs.Common.{◌≡◌, ℕ, ◌-◌, ◌≤◌, Bool, true, false, cond, IsSome, refl, sym, ◌∙◌, ap, nat_eq, nat_lt, arith}
use Rattle.std.specs.declared.option.Option.{Option}
use Rattle.std.specs.declared.option.Option.TheVariants.{None, Some}
use Rattle.std.proofs.lemmas.Bool.Decides.{nat_tests}
use Rattle.pl_desc.specs.Rows.{at}
use Rattle.pl_state.specs.Contents.{Contents, core_of}
use Rattle.pl_kernel.specs.Queues.{found_of_file, mode_of, rest_of, asks_in, asks_out, is_end_ready}
use Rattle.pl_kernel.proofs.index.Places.{ready-by-end}
use Rattle.pl_kernel.proofs.asking.finds.Goals as goal

-- a pipe of the machine is there where the kernel's is
pipe-there : {A : Type 0} (k : Contents A) (p : ℕ) → IsSome ((core_of k).pipes p) → IsSome (at k.nodes.pipes p)
unfolding core_of
pipe-there k p some = some

-- the kinds of files are the first four
of-pipe : (kind : ℕ) → found_of_file kind ≡ None → nat_lt kind 4 ≡ false
of-pipe kind = by (nat_lt kind 4)
  where
    by : (t : Bool) → ◌≡◌ {A = Option Bool} (cond t (Some (nat_eq kind 1)) None) None → t ≡ false
    by false h = refl
    by true h = absurd (cc)

of-file : (kind : ℕ) (b rest : Bool) → found_of_file kind ≡ Some b → b ≡ cond (nat_lt kind 4) (nat_eq kind 1) rest
of-file kind b rest = by (nat_lt kind 4)
  where
    by : (t : Bool) → cond t (Some (nat_eq kind 1)) None ≡ Some b → b ≡ cond t (nat_eq kind 1) rest
    by true h = (let same : nat_eq kind 1 ≡ b = cc in sym same)
    by false h = absurd (cc)

at-least : (kind : ℕ) → nat_lt kind 4 ≡ false → 4 ≤ kind
at-least kind h = grind (arith, nat_tests, h)

pub returns-in-Some : goal.returns-in-Some
returns-in-Some g c =
    let kind = c.args.queue - 16 in
    of-file kind c.in-Some.found (is_end_ready (core_of c.args.state.now) c.args.key (mode_of kind) (asks_in (rest_of kind)) (asks_out (rest_of kind))) (sym c.found_of_file.ensures ∙ c.in-Some.is)

pub asked_by-requires : goal.asked_by-requires
asked_by-requires g c = at-least (c.args.queue - 16) (of-pipe (c.args.queue - 16) (sym c.found_of_file.ensures ∙ c.in_default.is))

pub end_is_ready-requires : goal.end_is_ready-requires
end_is_ready-requires g c =
    let high = at-least (c.args.queue - 16) (of-pipe (c.args.queue - 16) (sym c.found_of_file.ensures ∙ c.in_default.is)) in
    pipe-there c.args.state.now c.args.key (c.requires.there (omega (arith, high)))

pub returns : goal.returns
returns g c =
    let core = core_of c.args.state.now in
    let key = c.args.key in
    let kind = c.args.queue - 16 in
    c.end_is_ready.ensures ∙ ready-by-end core key c.mode_of.result c.asked_by.result
    ∙ (λ i. is_end_ready core key (c.mode_of.ensures i) (c.asked_by.ensures.read i) (c.asked_by.ensures.write i))
    ∙ sym (ap (λ b. cond b (nat_eq kind 1) (is_end_ready core key (mode_of kind) (asks_in (rest_of kind)) (asks_out (rest_of kind)))) (of-pipe kind (sym c.found_of_file.ensures ∙ c.in_default.is)))
