-- What all passes of the shared bound know together: the least cost that was published, and the sum of their shares.
use Rattle.std.specs.Prelude.{◌≡◌, ℕ, ◌+◌, min, List, [], ◌∷◌}
use mathlib.Core.Option.{some}
use lib.ListN.{get_elem?}
use Rattle.opgen_bound.specs.declared.view.View.{View}

-- all shares of a bound together: 2^32
abbrev pub whole : ℕ
whole = 4294967296

-- the greatest number of 64 bits; as what was published it stands for nothing
abbrev pub most : ℕ
most = 18446744073709551615

-- what is left of a pass that went into another: nothing
abbrev pub spent : View
spent = record { published = most; seen = most; share = 0; start = 0 }

-- the least of the start and of all that was published
abbrev pub least_of : ℕ → List View → ℕ
least_of start [] = start
least_of start (v ∷ vs) = min v.published (least_of start vs)

-- all shares, added up
abbrev pub shares_of : List View → ℕ
shares_of [] = 0
shares_of (v ∷ vs) = v.share + shares_of vs

-- P holds of each view
abbrev pub Each : (View → Type 0) → List View → Type 0
Each P vs = (by : ℕ) (v : View) → get_elem? vs by ≡ some v → P v
