-- Error counts that never fall and stop at 2 ^ 64 - 1, and the numbers of calls that fail.
use Rattle.std.specs.Prelude.{ℕ, ◌+◌, ◌≤◌, ◌<◌, min, List, Bool, nat_eq, nat_lt, if◌then◌else◌}
use Rattle.std.specs.List.{list_any}

-- the end of a count, 2 ^ 64 - 1
abbrev pub last_count : ℕ
last_count = 18446744073709551615

-- one more, but for the end, which stays
abbrev pub next_count : ℕ → ℕ
next_count n = if nat_lt n last_count then n + 1 else n

-- the count grew, or stands at its end
abbrev pub Rose : ℕ → ℕ → Type 0
Rose old new = min (old + 1) last_count ≤ new

-- the count did not rise
abbrev pub Stood : ℕ → ℕ → Type 0
Stood old new = new < min (old + 1) last_count

-- whether a call's number is in the list
abbrev pub is_listed : ℕ → List ℕ → Bool
is_listed call calls = list_any (λ n. nat_eq n call) calls
