-- The mask of an entry, and those of the entries behind it, at the kernel's keys.
use Rattle.std.proofs.Common.{◌≡◌, ◌≤◌, ◌<◌, ℕ, ℤ, pos, negsuc, ◌+◌, true, false, List, [], ◌∷◌, map, drop, length, Option, Some, None, IfSome, IsSome, refl, suc, sym, ◌∙◌, ap, nat_eq, slice_index_or, Bor, arith}
use Rattle.std.specs.Prelude.{MatchOption, option_and_then}
use Rattle.std.specs.Option.{option_copied}
use Rattle.std.specs.Set.{is_member}
use Rattle.std.specs.Int.Signed.{lt_z}
use Rattle.std.proofs.lemmas.Bool.{eq-eqb}
use Rattle.std.proofs.lemmas.List.{drop_more, drop_all}
use Rattle.std.proofs.lemmas.List.Folds.{list_any_at}
use Rattle.pl_model.specs.declared.flags.PollMask.{PollMask}
use Rattle.pl_model.specs.Keys.{Keys}
use Rattle.pl_model.specs.State.{Core, Open, described}
use Rattle.pl_model.specs.Begin.{named_by}
use Rattle.pl_model.specs.Poll.{masks, mask_at}
use Rattle.pl_desc.specs.Rows.{at, row_of, Tabled}
use Rattle.pl_state.specs.Contents.{Contents, core_of}
use Rattle.pl_state.proofs.Known.{Known}
use Rattle.pl_state.proofs.by_call.Begun.{row-is}
use Rattle.pl_state.proofs.by_call.Closing.{named_there}
use Rattle.pl_polls.specs.declared.masks.Descriptions.TheVariants.{Named, Kept}
use Rattle.pl_polls.specs.Masks.{masks_from}

-- what a list has at a place, if it is that long
abbrev pub KeyAt : List ℕ → ℕ → Option ℕ → Type 0
KeyAt keys place key = MatchOption key (length keys ≤ place) (λ d. (place < length keys) × (d ≡ slice_index_or keys place d))

pub key_at : (keys : List ℕ) (place : ℕ) (found : Option (Bor ℕ)) → IfSome found (λ x. x.now ≡ slice_index_or keys place x.now) → (P : Bor ℕ → Type 0) → MatchOption found (length keys ≤ place) (λ x. (place < length keys) × P x) → KeyAt keys place (option_copied found)
key_at keys place None is P within = within
key_at keys place (Some x) is P within = (within.0, is)

pub key_open : (open_one : ℕ → Type 0) (keys : List ℕ) (place : ℕ) (key : Option ℕ) → ((d : ℕ) → is_member nat_eq keys d ≡ true → open_one d) → KeyAt keys place key → IfSome key open_one
key_open open_one keys place None all is = tt
key_open open_one keys place (Some d) all is = all d (list_any_at (nat_eq d) keys place d is.0 (eq-eqb d (slice_index_or keys place d) is.1))

pub key_named : {A : Type 0} (m : Known A) (pid : ℕ) (fd : ℤ) (key : Option ℕ) → row_of m.descs.tables pid fd ≡ key → IfSome key (λ d. IsSome (at m.descs.opened d))
key_named m pid fd None is = tt
key_named m pid fd (Some d) is = named_there m pid fd d is

-- a poll has a mask for each entry
pub masks-each : {A : Type 0} {K : Keys} (s : Core A K) (entries : List (ℤ × PollMask)) (named : List (Option (Open K))) → length (masks s entries named) ≡ length entries
masks-each s [] named = refl
masks-each s ((negsuc n, asked) ∷ entries) named = ap (λ m. suc m) (masks-each s entries named)
masks-each s ((pos fd, asked) ∷ entries) [] = ap (λ m. suc m) (masks-each s entries [])
masks-each s ((pos fd, asked) ∷ entries) (o ∷ named) = ap (λ m. suc m) (masks-each s entries named)

module _ {A : Type 0} (k : Contents A) where
  -- the mask of a key, of which this is asked
  abbrev pub mask_of_key : Option ℕ → PollMask → PollMask
  mask_of_key key asked = mask_at (core_of k) (option_and_then (described (core_of k)) key) asked

  pub named_first : (pid : ℕ) (table : Option (Bor Tabled)) (fd : ℤ) → lt_z fd (pos 0) ≡ false → (asked : PollMask) (key : Option ℕ) → row_of k.tables pid fd ≡ key → (before next : ℕ) (entries : List (ℤ × PollMask))
      → masks_from k (Named pid table) before ((fd, asked) ∷ entries) ≡ mask_of_key key asked ∷ masks_from k (Named pid table) next entries
  named_first pid table (negsuc n) above asked key is before next entries = absurd (cc)
  named_first pid table (pos n) above asked key is before next entries = ap (λ d. mask_of_key d asked ∷ masks (core_of k) entries (named_by (core_of k) pid entries)) (row-is k pid (pos n) ∙ is)

  pub kept_first : (keys : Bor (List ℕ)) (place : ℕ) (fd : ℤ) → lt_z fd (pos 0) ≡ false → (asked : PollMask) (key : Option ℕ) → KeyAt keys.now place key → (entries : List (ℤ × PollMask))
      → masks_from k (Kept keys) place ((fd, asked) ∷ entries) ≡ mask_of_key key asked ∷ masks_from k (Kept keys) (place + 1) entries
  kept_first keys place (negsuc n) above asked key is entries = absurd (cc)
  kept_first keys place (pos n) above asked None is entries =
      ap (λ ds. masks (core_of k) ((pos n, asked) ∷ entries) (map (described (core_of k)) ds)) (drop_all place keys.now is)
      ∙ ap (λ ds. mask_of_key None asked ∷ masks (core_of k) entries (map (described (core_of k)) ds)) (sym (drop_all (place + 1) keys.now (omega (arith, is))))
  kept_first keys place (pos n) above asked (Some d) is entries =
      ap (λ ds. masks (core_of k) ((pos n, asked) ∷ entries) (map (described (core_of k)) ds)) (drop_more keys.now place d is.0)
      ∙ ap (λ z. mask_of_key (Some z) asked ∷ masks (core_of k) entries (map (described (core_of k)) (drop (place + 1) keys.now))) (sym is.1)
