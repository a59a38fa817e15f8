-- A sound design has exactly one run over each list of inputs.
use Rattle.std.specs.Prelude.{◌≡◌, Bool, List, All}
use Rattle.opgen_design.specs.declared.design.Design.{Design}
use Rattle.opgen_design.specs.Run.{Words, Run, AreWords, input_widths}
use Rattle.opgen_design.specs.Sound.{IsSound}

-- a run over these inputs, and each other one is the same
pub record IsOnlyRun (d : Design) (inputs : List (List (List Bool))) (vs : List Words) : Type 0 where
  pub run : Run d inputs vs
  pub no_other : (us : List Words) → Run d inputs us → us ≡ vs

-- a sound design has exactly one run over inputs whose words have the widths of its input ports
abbrev pub HasOneRun : Type 0
HasOneRun = (d : Design) → IsSound d → (inputs : List (List (List Bool))) → All (AreWords (input_widths d)) inputs
    → (vs : List Words) × IsOnlyRun d inputs vs
