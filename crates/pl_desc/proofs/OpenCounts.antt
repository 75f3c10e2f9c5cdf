-- How many descriptors of a table are open, as its rows change.
use Rattle.std.proofs.Common.{◌≡◌, ℕ, ◌+◌, ◌*◌, ◌<◌, false, cond, List, Option, Some, None, refl, ap, length, replicate, arith}
use Rattle.std.specs.Prelude.{is_some, IsSome, slice_set}
use Rattle.std.proofs.lemmas.Bool.{false≢true}
use Rattle.std.proofs.lemmas.List.Sums.{sum_by-set}
use Rattle.std.proofs.lemmas.List.Folds.{sum_by-replicate}
use Rattle.pl_desc.specs.Rows.{at, open_in}

-- what a row adds
abbrev one : Option ℕ → ℕ
one o = cond (is_some o) 1 0

module _ (names : List (Option ℕ)) (fd : ℕ) (place : fd < length names) where
  changed : (d : Option ℕ) → open_in (slice_set names fd d) + one (at names fd) ≡ open_in names + one d
  changed d = sum_by-set one names fd d None place

  -- a free descriptor is opened
  pub opened : (key : ℕ) → at names fd ≡ None → open_in (slice_set names fd (Some key)) ≡ open_in names + 1
  opened key free = let e = changed (Some key) in let o : one (at names fd) ≡ 0 = ap one free in omega (arith, e, o)

  module _ (is-open : IsSome (at names fd)) where
    was-one : one (at names fd) ≡ 1
    was-one = by (at names fd) is-open
      where
        by : (o : Option ℕ) → IsSome o → one o ≡ 1
        by None h = absurd (false≢true h)
        by (Some key) h = refl

    -- an open one is closed
    pub closed : open_in (slice_set names fd None) + 1 ≡ open_in names
    closed = let e = changed None in omega (arith, e, was-one)

    -- an open one names another key
    pub renamed : (key : ℕ) → open_in (slice_set names fd (Some key)) ≡ open_in names
    renamed key = let e = changed (Some key) in omega (arith, e, was-one)

-- none is open where no row names anything
pub none-open : (n : ℕ) → open_in (replicate n None) ≡ 0
none-open n = let e = sum_by-replicate one n None in let r : open_in (replicate n None) ≡ n * 0 = e in omega (arith, r)
