-- The net that is made of another for a table of delays and a period.
use Rattle.std.specs.Prelude.{ℕ, nat_le, if◌then◌else◌}
use Rattle.opgen_num.specs.declared.format.TheConstants.{MAX_WIDTH}
use Rattle.opgen_cuts.specs.Recipe.{cut_net}
use Rattle.opgen_cuts.specs.Same.{IsSameCircuit}
use Rattle.opgen_net.specs.declared.net.Net.{Net}
use Rattle.opgen_net.specs.Valid.{IsValid}
use Rattle.opgen_pipe.specs.Cells.{need}
use Rattle.opgen_target.specs.Delays.{Delays}
use Rattle.opgen_timing.specs.Widths.{sum_width}

-- Sums are as wide as what they add. Where that net does not fit the period, they are cut to the greatest width at which sums do.
abbrev pub net_for : Delays → (period : ℕ) → Net → Net
net_for table period net =
    if nat_le (need table (cut_net MAX_WIDTH net)) period then cut_net MAX_WIDTH net else cut_net (sum_width table period) net

-- it is valid, and the same circuit
abbrev pub CutNetsAreSame : Type 0
CutNetsAreSame = (table : Delays) (period : ℕ) (net : Net) → IsValid net
    → IsValid (net_for table period net) × IsSameCircuit net (net_for table period net)
