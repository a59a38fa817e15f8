-- What holds of accepted operators of a kind, by whichever version.
use Rattle.std.proofs.Common.{◌≤◌, ℕ, ◌≡◌, Some, arith}
use Rattle.std.proofs.lemmas.List.Elements.{All-weaker}
use Rattle.std.specs.Prelude.{◌≤ℤ◌, All}
use Rattle.opgen_ports.specs.Acceptance.{Acceptance}
use Rattle.opgen_ports.specs.Accepted.{IsAcceptedIn, IsAcceptable}
use Rattle.opgen_ports.specs.Meaning.{Meaning}
use Rattle.opgen_num.specs.declared.format.TheConstants.{MAX_WIDTH}
use Rattle.opgen_ports.specs.declared.TheConstants.{MAX_SHIFT}
use Rattle.opgen_ports.specs.declared.ports.PortFormat.{PortFormat}
use Rattle.opgen_ports.specs.Limits.{most_signal}
use Rattle.opgen_ports.specs.Ports.{HasWidth}
use Rattle.opgen_ports.proofs.Lawful.{IsLawful}
use Rattle.opgen_ports.proofs.Versions.{signal_limit}

pub by_version : {P : Type 0} (m : Meaning) (a : Acceptance) → ((version : ℕ) → IsAcceptedIn version m a → P) → IsAcceptable m a → P
by_version m a f (version, by) = f version by

pub accepted_ranges : (m : Meaning) (a : Acceptance) → IsAcceptable m a → a.IsRanged
accepted_ranges m a is = by_version m a (λ version by. by.ranges) is

pub accepted_shift : (m : Meaning) (a : Acceptance) → IsLawful m a → IsAcceptable m a → (a.least_shift ≤ℤ a.shift) × (a.shift ≤ℤ MAX_SHIFT)
accepted_shift m a law is = by_version m a (λ version by. (by.fine.0, law.limit version by.fine.1)) is

pub accepted_room : (m : Meaning) (a : Acceptance) → IsLawful m a → IsAcceptable m a → a.HasRoom
accepted_room m a law is = by_version m a (λ version by. law.room version by.inputs by.fine.1) is

pub accepted_width : (m : Meaning) (a : Acceptance) (bits : ℕ) → IsAcceptable m a → a.need ≡ Some bits → bits ≤ MAX_WIDTH
accepted_width m a bits is e = by_version m a (λ version by. omega (arith, by.narrow bits e, (signal_limit version).1)) is

-- its output ports have so many bits at most
pub accepted_wide : (m : Meaning) (a : Acceptance) → IsLawful m a → IsAcceptable m a → All (HasWidth MAX_WIDTH) m.outputs
accepted_wide m a law is =
    by_version m a (
    λ version by. All-weaker (HasWidth (most_signal version)) (HasWidth MAX_WIDTH)
    (λ (p : PortFormat) (h : HasWidth (most_signal version) p). (h.0, omega (arith, h.1, (signal_limit version).1)))
    m.outputs (law.wide version by)) is
