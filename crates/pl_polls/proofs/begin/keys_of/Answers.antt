use Rattle.std.proofs.Common.{◌≡◌, ℕ, zero, suc, ◌+◌, ◌<◌, List, [], ◌∷◌, ◌++◌, Option, Some, None, length, get_or, take, add-one, refl, sym, ap, ◌∙◌, arith, rules, w32, SFits, to_z, of_z}
use Rattle.std.specs.Prelude.{ℤ}
use Rattle.std.specs.List.{filter_map, cons_option}
use Rattle.std.proofs.lemmas.Int.{to_z-of_z}
use Rattle.std.proofs.lemmas.List.{append-nil, length-append}
use Rattle.pl_model.specs.declared.flags.PollMask.{PollMask}
use Rattle.pl_desc.specs.Rows.{Tables, row_of}
use Rattle.pl_polls.specs.Waiting.{keys_named}
use Rattle.pl_polls.proofs.begin.keys_of.Goals as goal
use Rattle.pl_polls.proofs.begin.keys_of.Goals.{in-Some, in_default}

behind : {X : Type 0} (x : Option X) (xs ys : List X) → cons_option x (xs ++ ys) ≡ cons_option x xs ++ ys
behind (Some x) xs ys = refl
behind None xs ys = refl

one_more : {X Y : Type 0} (h : X → Option Y) (xs : List X) (i : ℕ) (d : X) → i < length xs → filter_map h (take (suc i) xs) ≡ filter_map h (take i xs) ++ cons_option (h (get_or xs i d)) []
one_more h [] i d within = absurd (omega (arith, within))
one_more h (x ∷ xs) zero d within = refl
one_more h (x ∷ xs) (suc i) d within = ap (cons_option (h x)) (one_more h xs i d (omega (arith, within))) ∙ behind (h x) (filter_map h (take i xs)) (cons_option (h (get_or xs i d)) [])

-- one entry more, of which this was found
module _ (tables : Tables) (pid : ℕ) (entries : List (ℤ × PollMask)) (place : ℕ) (within : place < length entries) where
  found_more : (d : ℤ × PollMask) (found : Option ℕ) → found ≡ row_of tables pid (to_z w32 (of_z w32 (get_or entries place d).0)) → SFits w32 (get_or entries place d).0
      → keys_named tables pid (take (place + 1) entries) ≡ keys_named tables pid (take place entries) ++ cons_option found []
  found_more d found is fits =
      let named : found ≡ row_of tables pid (get_or entries place d).0 = rw (to_z-of_z w32 (get_or entries place d).0 fits) at is in
      rw (add-one, named) (one_more (λ e. row_of tables pid e.0) entries place d within)

pub loop-fd-preserved : goal.loop-fd-preserved
loop-fd-preserved g c =
    let more = found_more c.args.descs.now.tables c.args.pid c.args.entries.now c.loop-fd.fd-index c.loop-fd-test.true _ c.find.result c.find.ensures (search rules) in
    let so_far = c.loop-fd.invariant in
    elim c.match-find.branch [
      | in-Some w ↦ record {
        found = rw w.keys-is (w.push_reserved.ensures.items ∙ ap (λ keys. keys ++ w.in-Some.key ∷ []) so_far.found ∙ sym (rw w.in-Some.is at more));
        few = rw (w.keys-is, w.push_reserved.ensures.items, length-append) (omega (arith, so_far.few));
        room = rw w.keys-is (omega (arith, w.push_reserved.ensures.capacity, so_far.room));
      }
      | in_default w ↦ record {
        found = rw w.keys-is (so_far.found ∙ sym (rw w.in_default.is at more ∙ append-nil (keys_named c.args.descs.now.tables c.args.pid (take c.loop-fd.fd-index c.args.entries.now))));
        few = rw w.keys-is (omega (arith, so_far.few));
        room = rw w.keys-is so_far.room;
      }
    ]
