-- What a poll looks at, at the kernel's keys.
use Rattle.std.specs.Prelude.{◌≡◌, ℕ, ℤ, true, nat_eq, List, map, drop, Option, IsSome, option_map}
use Rattle.std.specs.Option.{option_copied}
use Rattle.std.specs.Set.{is_member}
use Rattle.pl_model.specs.declared.flags.PollMask.{PollMask}
use Rattle.pl_model.specs.State.{Open, described}
use Rattle.pl_model.specs.Begin.{named_by}
use Rattle.pl_model.specs.Poll.{masks}
use Rattle.pl_model.specs.Numbered.{numbers}
use Rattle.pl_desc.specs.Rows.{at, table_of}
use Rattle.pl_state.specs.Contents.{Contents, core_of}
use Rattle.pl_polls.specs.declared.masks.Descriptions.{Descriptions}
use Rattle.pl_polls.specs.declared.masks.Descriptions.TheVariants.{Named, Kept}

module _ {A : Type 0} (k : Contents A) where
  -- the table is that of the process, and what a poll keeps is open
  abbrev pub AreCurrent : Descriptions A → Type 0
  AreCurrent (Named pid table) = option_map (λ t. t.names) (option_copied table) ≡ table_of k.tables pid
  AreCurrent (Kept keys) = (key : ℕ) → is_member nat_eq keys.now key ≡ true → IsSome (at k.opened key)

  -- what the entries name, where so many before them had descriptors that aren't negative
  abbrev pub named_from : Descriptions A → (before : ℕ) → List (ℤ × PollMask) → List (Option (Open numbers))
  named_from (Named pid table) before entries = named_by (core_of k) pid entries
  named_from (Kept keys) before entries = map (described (core_of k)) (drop before keys.now)

  -- their masks
  abbrev pub masks_from : Descriptions A → (before : ℕ) → List (ℤ × PollMask) → List PollMask
  masks_from descriptions before entries = masks (core_of k) entries (named_from descriptions before entries)

  -- POSIX.1-2017, poll: the masks of all entries
  abbrev pub masks_of : Descriptions A → List (ℤ × PollMask) → List PollMask
  masks_of descriptions entries = masks_from descriptions 0 entries
