-- How many bits a sum may have in a period.
use Rattle.std.specs.Prelude.{ℕ, zero, suc, ◌+◌, ◌≤◌, ◌<◌, Bool, true, ◌&&◌, max, nat_le, if◌then◌else◌}
use Rattle.opgen_num.specs.declared.format.TheConstants.{MAX_WIDTH}
use Rattle.opgen_net.specs.declared.cell.Class.TheVariants.{Add}
use Rattle.opgen_target.specs.Delays.{Delays, setup}

-- sums of each width up to one fit: their delay and the setup do not exceed the period
abbrev pub SumsFit : Delays → (period most : ℕ) → Type 0
SumsFit table period most = (width : ℕ) → 1 ≤ width → width ≤ most → table Add width + setup table ≤ period

-- the greatest width, from 4 to that of a signal, at which they do, or 4 where there is none
pub record IsSumWidth (table : Delays) (period most : ℕ) : Type 0 where
  pub least : 4 ≤ most
  pub few : most ≤ MAX_WIDTH
  pub fits : 4 < most → SumsFit table period most
  pub greatest : (other : ℕ) → other ≤ MAX_WIDTH → SumsFit table period other → other ≤ most

-- the same, computed

abbrev pub sums_fit : Delays → (period most : ℕ) → Bool
sums_fit table period zero = true
sums_fit table period (suc width) = sums_fit table period width && nat_le (table Add (suc width) + setup table) period

-- the greatest such width up to one, or 4
abbrev pub widest : Delays → (period most : ℕ) → ℕ
widest table period zero = 4
widest table period (suc width) =
    if sums_fit table period (suc width) then max 4 (suc width) else widest table period width

unfoldable pub sum_width : Delays → (period : ℕ) → ℕ
sum_width table period = widest table period MAX_WIDTH
