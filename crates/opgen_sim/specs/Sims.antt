-- Simulators of designs, and the registers' words that they hold.
use Rattle.std.specs.Prelude.{◌≡◌, Bool, List}
use Rattle.opgen_design.specs.declared.design.Design.{Design}
use Rattle.opgen_design.specs.Run.{initial_words}
use Rattle.opgen_runs.specs.Registers.{SameRegisters}

-- a simulator: the design that is run, and the words of the registers now, at the places of their signals
pub record Simulator : Type 0 where
  pub design : Design
  pub registers : List (List Bool)

-- a simulator before the first cycle of a design
pub record IsNew (d : Design) (s : Simulator) : Type 0 where
  pub design : s.design ≡ d
  pub registers : SameRegisters d s.registers (initial_words d.signals)
