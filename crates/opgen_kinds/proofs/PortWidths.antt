-- How wide ports are in each version.
use Rattle.std.proofs.Common.{ℕ, ◌≤◌, ◌+◌, ◌==◌, Bool, true, false, List, if◌then◌else◌, arith}
use Rattle.std.specs.Prelude.{All}
use Rattle.opgen_ports.specs.declared.ports.PortFormat.{PortFormat}
use Rattle.opgen_ports.specs.Limits.{most_input, most_signal}
use Rattle.opgen_ports.specs.Ports.{HasWidth}

-- ports of 64 bits are as wide as the ports of each version
pub wider : (most : ℕ) (ports : List PortFormat) → 64 ≤ most → All (HasWidth 64) ports → All (HasWidth most) ports
wider most ports far each k d below = let (some, few) = each k d below in (some, omega (arith, few, far))

-- an input of the version and 29 bits have room in a signal
pub input_room : (version : ℕ) → most_input version + 29 ≤ most_signal version
input_room version = go (version == 1)
  where
    go : (b : Bool) → (if b then 32 else 48) + 29 ≤ (if b then 64 else 96)
    go true = omega arith
    go false = omega arith
