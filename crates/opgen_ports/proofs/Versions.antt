-- The limits of the versions.
use Rattle.std.proofs.Common.{ℕ, ◌≤◌, ◌==◌, Bool, true, false, arith, if◌then◌else◌, ◌+◌}
use Rattle.opgen_num.specs.declared.format.TheConstants.{MAX_INPUT, MAX_WIDTH}
use Rattle.opgen_ports.specs.Limits.{most_input, most_signal}

pub input_limit : (version : ℕ) → most_input version ≤ MAX_INPUT
input_limit version = go (version == 1)
  where
    go : (b : Bool) → (if b then 32 else 48) ≤ MAX_INPUT
    go true = omega arith
    go false = omega arith

pub signal_limit : (version : ℕ) → (64 ≤ most_signal version) × (most_signal version ≤ MAX_WIDTH)
signal_limit version = go (version == 1)
  where
    go : (b : Bool) → (64 ≤ (if b then 64 else 96)) × ((if b then 64 else 96) ≤ MAX_WIDTH)
    go true = (omega arith, omega arith)
    go false = (omega arith, omega arith)

-- an input of the version and 17 bits have room in a signal
pub input_room : (version : ℕ) → most_input version + 17 ≤ most_signal version
input_room version = go (version == 1)
  where
    go : (b : Bool) → (if b then 32 else 48) + 17 ≤ (if b then 64 else 96)
    go true = omega arith
    go false = omega arith
