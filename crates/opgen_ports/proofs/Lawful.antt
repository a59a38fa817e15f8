-- What holds of the meaning of each kind and of what it accepts: a kind proves it once.
use Rattle.std.proofs.Common.{ℕ, ◌≡◌, ◌≤◌, ◌<◌, length}
use Rattle.std.specs.Prelude.{ℤ, neg_ℤ, ◌≤ℤ◌, All}
use Rattle.opgen_num.specs.declared.mode.Mode.{Mode}
use Rattle.opgen_ports.specs.declared.TheConstants.{MAX_SHIFT}
use Rattle.opgen_ports.specs.Acceptance.{Acceptance}
use Rattle.opgen_ports.specs.Accepted.{IsAcceptedIn}
use Rattle.opgen_ports.specs.Ports.{HasWidth, format_at, Recent, AreWithin}
use Rattle.opgen_ports.specs.Limits.{most_input, most_signal}
use Rattle.opgen_ports.specs.Meaning.{Meaning}
use Rattle.opgen_ports.specs.Spans.{IsOf}
use Rattle.opgen_ports.proofs.InputPorts.{HasBit}

pub record IsLawful (m : Meaning) (a : Acceptance) : Type 0 where
  pub some_input : a.IsRanged → 1 ≤ length m.inputs
  pub input_bits : a.IsRanged → All HasBit m.inputs
  pub wide : (version : ℕ) → IsAcceptedIn version m a → All (HasWidth (most_signal version)) m.outputs
  pub limit : (version : ℕ) → a.shift ≤ℤ a.most_shift version → a.shift ≤ℤ MAX_SHIFT
  pub least : a.least_shift ≤ℤ a.shift → neg_ℤ MAX_SHIFT ≤ℤ a.shift
  pub room : (version : ℕ) → AreWithin (most_input version) m.inputs → a.shift ≤ℤ a.most_shift version → a.HasRoom
  pub held : a.FormatsHold
  pub in128 : (version : ℕ) → IsAcceptedIn version m a → (inputs : (port : ℕ) → Recent)
      → ((port ago : ℕ) → port < length m.inputs → IsOf (format_at m.inputs port) (inputs port ago)) → a.IsExactIn128 inputs
  pub recalls : (mode : Mode) (inputs others : (port : ℕ) → Recent) (outputs : (port : ℕ) → ℤ)
      → ((port ago : ℕ) → ago ≤ m.memory → inputs port ago ≡ others port ago)
      → m.IsGood mode inputs outputs → m.IsGood mode others outputs
