-- What the steps of streams are, one after another.
use Rattle.std.specs.Prelude.{ℕ, ◌≡◌, ◌<◌, List, map}
use Rattle.opgen_design.specs.declared.design.Design.{Design}
use Rattle.opgen_design.specs.Run.{Words, Run, input_widths, output_widths, words_at_outputs}
use Rattle.opgen_runs.specs.Steps.{StepsOn}
use Rattle.opgen_streams.specs.Streams.{streams, words_in}
use Rattle.opgen_lanes.specs.Steps.{Running, AreNew, IsStepIn}

-- a step of each stream
abbrev pub AreSteps : Design → (now inputs next outputs : List (List ℕ)) → Type 0
AreSteps d now inputs next outputs = (k : ℕ) → k < streams → IsStepIn k d now inputs next outputs

-- in a stream, a run over these bits at the input ports, with these at the output ports
abbrev pub HasRunIn : (k : ℕ) → Design → (inputs outputs : List (List (List ℕ))) → Type 0
HasRunIn k d inputs outputs = (vs : List Words) × Run d (map (λ v. words_in (input_widths d) v k) inputs) vs
    × (map (words_at_outputs d) vs ≡ map (λ v. words_in (output_widths d) v k) outputs)

-- the steps of new streams are, in each stream, a run of the design
abbrev pub StepsAreRuns : Type 0
StepsAreRuns = (d : Design) (l : Running) (inputs outputs : List (List (List ℕ))) → AreNew d l
    → StepsOn (AreSteps d) l.held inputs outputs
    → (k : ℕ) → k < streams → HasRunIn k d inputs outputs
