-- Lists that are used as sets: one has all members of another.
use Rattle.std.specs.Prelude.{ℕ, List, Contains}

-- each member of one stands in the other
abbrev pub Within : List ℕ → List ℕ → Type 0
Within xs ys = (x : ℕ) → Contains xs x → Contains ys x
