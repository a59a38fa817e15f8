-- The steps of a new simulator are a run of its design.
use Rattle.std.proofs.Common.{map, map-id, sym, ◌∙◌}
use Rattle.opgen_num.specs.Words.{nat, words_of}
use Rattle.opgen_design.specs.Run.{input_widths, words_at_outputs}
use Rattle.opgen_runs.proofs.Steps.{steps-run}
use Rattle.opgen_runs.specs.Step.{IsStep}
use Rattle.opgen_sim.specs.Runs.{StepsAreRuns}

pub steps-are-runs : StepsAreRuns
steps-are-runs d s inputs outputs n h =
    let run = steps-run d (IsStep d) (λ now. now) (words_of (input_widths d)) (λ v. map nat (words_at_outputs d v)) (λ got. got)
    (λ now given next got step. (step.words, step.cycle, sym step.outputs_are)) s.registers _ inputs outputs n.registers h in
    (run.0, run.1, run.2 ∙ map-id outputs)
