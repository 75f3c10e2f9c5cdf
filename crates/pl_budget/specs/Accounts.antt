-- What an account comes to.
use Rattle.std.specs.Prelude.{ℕ, ◌+◌, ◌-◌, ◌*◌, max, min, nat_le, if◌then◌else◌, Option}
use Rattle.std.specs.declared.option.Option.TheVariants.{None, Some}
use Rattle.pl_budget.specs.declared.account.Account.{Account}

abbrev pub opened : ℕ → Account
opened most = record { held = 0; peak = 0; most = most }

-- with so many bytes more, if they are within the most
abbrev pub taken : Account → ℕ → Option Account
taken account size = if nat_le (account.held + size) account.most then Some (record { held = account.held + size; peak = max account.peak (account.held + size); most = account.most }) else None

-- with so many bytes fewer
abbrev pub given_back : Account → ℕ → Account
given_back account size = record { held = account.held - size; peak = account.peak; most = account.most }

-- the bytes by which a block of so many items is larger than one of fewer, or as many as 64 bits can tell
abbrev pub between : (fewer more each : ℕ) → ℕ
between fewer more each = min ((more - fewer) * each) 18446744073709551615
