use Rattle.std.proofs.Common.{ℕ, ◌<◌, get_or}
use Rattle.std.specs.Prelude.{ℤ}
use Rattle.opgen_ports.specs.Ranges.{IsWithin}
use Rattle.opgen_ports.proofs.ranges.are_within.Given as goal

abbrev pub invariant-numbers : goal.invariant-numbers
invariant-numbers l = (k : ℕ) (d : ℤ) → k < l.number-index → IsWithin l.limit (get_or l.numbers k d)
