-- What the steps of a simulator are, one after another.
use Rattle.std.specs.Prelude.{ℕ, ◌≡◌, List, map}
use Rattle.opgen_num.specs.Words.{nat, words_of}
use Rattle.opgen_design.specs.declared.design.Design.{Design}
use Rattle.opgen_design.specs.Run.{Words, Run, input_widths, words_at_outputs}
use Rattle.opgen_sim.specs.Sims.{Simulator, IsNew}
use Rattle.opgen_runs.specs.Step.{IsStep}
use Rattle.opgen_runs.specs.Steps.{StepsOn}

-- a run over these numbers at the input ports, with these at the output ports
abbrev pub HasRun : Design → (inputs outputs : List (List ℕ)) → Type 0
HasRun d inputs outputs = (vs : List Words) × Run d (map (words_of (input_widths d)) inputs) vs
    × (map (λ v. map nat (words_at_outputs d v)) vs ≡ outputs)

-- the steps of a new simulator are a run of its design
abbrev pub StepsAreRuns : Type 0
StepsAreRuns = (d : Design) (s : Simulator) (inputs outputs : List (List ℕ)) → IsNew d s → StepsOn (IsStep d) s.registers inputs outputs
    → HasRun d inputs outputs
