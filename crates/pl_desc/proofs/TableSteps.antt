-- What a change of a table's rows does to what its descriptors name.
use Rattle.std.proofs.Common.{◌≡◌, ℕ, ◌<◌, ◌≤◌, List, Option, Some, None, true, false, refl, sym, ◌∙◌, ap, subst, length, arith}
use Rattle.std.specs.Prelude.{if◌then◌else◌, nat_eq, is_none, is_some, IsSome, slice_set}
use Rattle.std.proofs.lemmas.List.{map-set, length-set, length-map}
use Rattle.std.proofs.lemmas.Bool.{false≢true}
use Rattle.pl_masks.specs.declared.masks.Masks.{Masks}
use Rattle.pl_masks.specs.Masks.{has, has_place}
use Rattle.pl_desc.specs.Rows.{at, open_in}
use Rattle.pl_desc.specs.TableView.{named, named_all, padded, IsTable}
use Rattle.pl_desc.specs.Vacant.{AreVacant}
use Rattle.pl_desc.proofs.Padding.{at-padded, length-padded, set-padded, padded-same}
use Rattle.pl_desc.proofs.OpenCounts.{renamed}
use Rattle.pl_desc.proofs.RowLemmas.{within}
use Rattle.pl_desc.proofs.Vacant.{vacant-put, vacant-kept}

pub length-named : (keys : List ℕ) → length (named_all keys) ≡ length keys
length-named keys = length-map keys named

module _ {A : Type 0} (keys : List ℕ) (most : ℕ) {in_use : ℕ} (set : Masks A) (table : IsTable keys most in_use set) where
  -- an open descriptor has a row
  pub has-row : (fd : ℕ) → IsSome (at (padded most (named_all keys)) fd) → fd < length keys
  has-row fd is-open = omega (arith, within (named_all keys) fd (is-some (at (named_all keys) fd) (subst (λ o. IsSome o) (at-padded most (named_all keys) fd) is-open)), length-named keys)
    where
      is-some : (o : Option ℕ) → IsSome o → is_some o ≡ true
      is-some None h = absurd (false≢true h)
      is-some (Some key) h = refl

  -- a row is changed
  module _ (fd key : ℕ) (d : Option ℕ) (is : named key ≡ d) (row : fd < length keys) where
    named_is : named_all (slice_set keys fd key) ≡ slice_set (named_all keys) fd d
    named_is = map-set named keys fd key ∙ ap (slice_set (named_all keys) fd) is

    pub names-put : padded most (named_all (slice_set keys fd key)) ≡ slice_set (padded most (named_all keys)) fd d
    names-put = ap (padded most) named_is ∙ sym (set-padded most (named_all keys) fd d (omega (arith, row, length-named keys)))

    -- it stands among those of all descriptors
    pub place : fd < length (padded most (named_all keys))
    place = omega (arith, row, table.few, length-padded most (named_all keys) (omega (arith, table.few, length-named keys)))

    pub table-put : (now : ℕ) → now ≡ open_in (slice_set (padded most (named_all keys)) fd d) → (new : Masks A) → ((n : ℕ) → has new n ≡ (if nat_eq n fd then is_none d else has set n)) → ((n : ℕ) → has_place set n → has_place new n) → IsTable (slice_set keys fd key) most now new
    table-put now count new value places = record {
      free = subst (λ names. AreVacant names new) (sym named_is) (vacant-put (named_all keys) set table.free fd d new (omega (arith, row, length-named keys)) value places);
      counted = count ∙ ap open_in (sym names-put);
      few = omega (arith, table.few, length-set keys fd key);
      within = table.within;
    }

    -- of an open descriptor
    pub table-replaced : (d ≡ None → ⊥) → IsSome (at (padded most (named_all keys)) fd) → IsTable (slice_set keys fd key) most in_use set
    table-replaced some is-open = record {
      free = subst (λ names. AreVacant names set) (sym named_is) (vacant-kept (named_all keys) set table.free fd d (omega (arith, row, length-named keys)) (isnt-none (at (named_all keys) fd) (subst (λ o. IsSome o) (at-padded most (named_all keys) fd) is-open)) (other d some));
      counted = table.counted ∙ sym (stays d some) ∙ ap open_in (sym names-put);
      few = omega (arith, table.few, length-set keys fd key);
      within = table.within;
    }
      where
        isnt-none : (o : Option ℕ) → IsSome o → is_none o ≡ false
        isnt-none None h = absurd (false≢true h)
        isnt-none (Some key) h = refl

        stays : (o : Option ℕ) → (o ≡ None → ⊥) → open_in (slice_set (padded most (named_all keys)) fd o) ≡ open_in (padded most (named_all keys))
        stays None h = absurd (h refl)
        stays (Some key) h = renamed (padded most (named_all keys)) fd place is-open key

        other : (o : Option ℕ) → (o ≡ None → ⊥) → is_none o ≡ false
        other None h = absurd (h refl)
        other (Some key) h = refl

  -- rows come or go, of descriptors that are free
  pub names-same : (after : List ℕ) → length after ≤ most → ((k : ℕ) → at (named_all after) k ≡ at (named_all keys) k) → padded most (named_all after) ≡ padded most (named_all keys)
  names-same after few same = padded-same most (named_all after) (named_all keys) (omega (arith, few, length-named after)) (omega (arith, table.few, length-named keys)) same

  -- and so many are open as before
  pub table-same : (after : List ℕ) (new : Masks A) → length after ≤ most → ((k : ℕ) → at (named_all after) k ≡ at (named_all keys) k) → AreVacant (named_all after) new → IsTable after most in_use new
  table-same after new few same vacant = record { free = vacant; counted = table.counted ∙ ap open_in (sym (names-same after few same)); few = few; within = table.within }
