-- The steps of new streams are runs of the design.
use Rattle.std.proofs.Common.{sym}
use Rattle.opgen_design.specs.Run.{input_widths, output_widths, words_at_outputs}
use Rattle.opgen_design.specs.Sound.{signal_widths}
use Rattle.opgen_runs.proofs.Steps.{steps-run}
use Rattle.opgen_streams.specs.Streams.{words_in}
use Rattle.opgen_lanes.specs.Runs.{AreSteps, StepsAreRuns}

pub steps-are-runs : StepsAreRuns
steps-are-runs d l inputs outputs n h k m =
    steps-run d (AreSteps d) (λ now. words_in (signal_widths d) now k) (λ given. words_in (input_widths d) given k) (words_at_outputs d)
    (λ got. words_in (output_widths d) got k)
    (λ now given next got steps. let step = steps k m in (step.words, step.cycle, sym step.outputs_are)) l.held _ inputs outputs (n.registers k m) h
