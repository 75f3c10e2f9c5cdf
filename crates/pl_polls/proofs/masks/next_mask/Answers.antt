use Rattle.std.proofs.Common.{◌≡◌, ◌∷◌, ◌+◌, ℕ, ℤ, Option, Bor, pos, false, true, sym, ap, subst, ◌∙◌, w32, to_z, of_z, nat_eq, IfSome, IsSome}
use Rattle.std.specs.Prelude.{FitsSigned, option_map}
use Rattle.std.specs.Option.{option_copied}
use Rattle.std.specs.Int.Signed.{lt_z}
use Rattle.std.proofs.lemmas.Int.{to_z-of_z}
use Rattle.std.specs.Set.{is_member}
use Rattle.pl_desc.specs.Rows.{at, row_in, row_of, rows_in, Tabled}
use Rattle.pl_state.specs.Contents.{Contents}
use Rattle.pl_state.proofs.Known.{known}
use Rattle.pl_state.proofs.by_call.Closing.{row_found}
use Rattle.pl_polls.specs.declared.masks.Descriptions.TheVariants.{Named, Kept}
use Rattle.pl_polls.specs.Masks.{AreCurrent, masks_from}
use Rattle.pl_polls.proofs.by_call.Entries.{key_at, key_open, key_named, mask_of_key, named_first, kept_first}
use Rattle.pl_polls.proofs.masks.next_mask.Goals.{in-Named, in-Kept}
use Rattle.pl_polls.proofs.masks.next_mask.Goals as goal

-- what the table of the process has for the descriptor
row_is : {A : Type 0} (k : Contents A) (pid : ℕ) (table : Option (Bor Tabled)) → AreCurrent k (Named pid table) → (fd : ℤ) → FitsSigned w32 fd → (key : Option ℕ) → key ≡ row_in (rows_in (option_map (λ (t : Tabled). t.names) (option_copied table))) (to_z w32 (of_z w32 fd)) → row_of k.tables pid fd ≡ key
row_is k pid table current fd fits key is = row_found k.tables pid fd fits key (is ∙ ap (λ t. row_in (rows_in t) (to_z w32 (of_z w32 fd))) current)

pub mask_at-requires : goal.mask_at-requires
mask_at-requires g c =
    let k = c.args.kernel.now in
    elim c.match-descriptions.branch [
      | in-Named w ↦
          let row = row_is k w.in-Named.pid w.in-Named.table (subst (AreCurrent k) w.in-Named.is c.requires.current) c.args.fd c.ranges.fd c.match-descriptions.key (w.key-is ∙ w.key_in-key.ensures) in
          let inside = subst (λ (z : Contents g.row.A.Denot). row_of z.tables w.in-Named.pid c.args.fd ≡ c.match-descriptions.key) (sym c.kernel.view_is) row in
          subst (λ (z : Contents g.row.A.Denot). IfSome c.match-descriptions.key (λ d. IsSome (at z.opened d))) c.kernel.view_is (key_named (known c.kernel.inside c.kernel.invariant) w.in-Named.pid c.args.fd c.match-descriptions.key inside)
      | in-Kept w ↦
          let kept : (d : ℕ) → is_member nat_eq w.in-Kept.keys.now d ≡ true → IsSome (at k.opened d) = subst (AreCurrent k) w.in-Kept.is c.requires.current in
          let key = key_at w.in-Kept.keys.now c.args.before.now w.get.result w.get.ensures.lookup.1 _ w.get.ensures.lookup.3 in
          subst (λ o. IfSome o (λ d. IsSome (at k.opened d))) (sym (w.key-is ∙ w.copied-key.ensures)) (key_open (λ d. IsSome (at k.opened d)) w.in-Kept.keys.now c.args.before.now _ kept key)
    ]

pub returns-clause-mask : goal.returns-clause-mask
returns-clause-mask g c = λ entries.
    let k = c.args.kernel.now in
    let place = c.args.before.now in
    let above : lt_z c.args.fd (pos 0) ≡ false = ap (λ z. lt_z z (pos 0)) (sym (to_z-of_z w32 c.args.fd c.ranges.fd)) ∙ c.if-fd-lt0.false in
    elim c.match-descriptions.branch [
      | in-Named w ↦
          let row = row_is k w.in-Named.pid w.in-Named.table (subst (AreCurrent k) w.in-Named.is c.requires.current) c.args.fd c.ranges.fd c.match-descriptions.key (w.key-is ∙ w.key_in-key.ensures) in
          subst (λ d. masks_from k d place ((c.args.fd, c.args.asked) ∷ entries) ≡ c.mask_at.result ∷ masks_from k d (place + 1) entries) (sym w.in-Named.is)
          (named_first k w.in-Named.pid w.in-Named.table c.args.fd above c.args.asked c.match-descriptions.key row place (place + 1) entries ∙ ap (λ m. m ∷ masks_from k (Named w.in-Named.pid w.in-Named.table) (place + 1) entries) (sym c.mask_at.ensures))
      | in-Kept w ↦
          let key = key_at w.in-Kept.keys.now place w.get.result w.get.ensures.lookup.1 _ w.get.ensures.lookup.3 in
          subst (λ d. masks_from k d place ((c.args.fd, c.args.asked) ∷ entries) ≡ c.mask_at.result ∷ masks_from k d (place + 1) entries) (sym w.in-Kept.is)
          (kept_first k w.in-Kept.keys place c.args.fd above c.args.asked _ key entries
          ∙ ap (λ m. m ∷ masks_from k (Kept w.in-Kept.keys) (place + 1) entries) (ap (λ o. mask_of_key k o c.args.asked) (sym (w.key-is ∙ w.copied-key.ensures)) ∙ sym c.mask_at.ensures))
    ]
