-- What a rule of sound designs asks of the parts of a design.
use Rattle.std.proofs.Common.{◌≡◌, ℕ, Some, None, refl}
use Rattle.std.specs.Prelude.{Option, IfSome, slice_get}
use Rattle.opgen_design.specs.declared.design.Design.{Design}
use Rattle.opgen_design.specs.declared.design.Driver.{Driver}
use Rattle.opgen_design.specs.declared.design.Port.{Port}
use Rattle.opgen_design.specs.declared.design.Signal.{Signal}
use Rattle.opgen_design.specs.declared.sound.Rule.{Rule}
use Rattle.opgen_design.specs.Sound.{at_design, at_port, at_signal, at_driver, DesignPasses, PortPasses, SignalPasses, DriverPasses, Holds}

if_there : {X : Type 0} (o : Option X) (P : X → Type 0) → ((x : X) → o ≡ Some x → P x) → IfSome o P
if_there None P h = tt
if_there (Some x) P h = h x refl

-- a rule holds where it passes at the design, and at each port, signal and driver
pub holds : (d : Design) (rule : Rule) → DesignPasses d rule → ((i : ℕ) (p : Port) → slice_get d.ports i ≡ Some p → PortPasses d rule i p)
    → ((i : ℕ) (s : Signal) → slice_get d.signals i ≡ Some s → SignalPasses d rule i s)
    → ((i : ℕ) (k : Driver) → slice_get d.drivers i ≡ Some k → DriverPasses d rule i k) → Holds d rule
holds d rule w p s k at_design = w
holds d rule w p s k (at_port i) = if_there (slice_get d.ports i) (PortPasses d rule i) (p i)
holds d rule w p s k (at_signal i) = if_there (slice_get d.signals i) (SignalPasses d rule i) (s i)
holds d rule w p s k (at_driver i) = if_there (slice_get d.drivers i) (DriverPasses d rule i) (k i)
