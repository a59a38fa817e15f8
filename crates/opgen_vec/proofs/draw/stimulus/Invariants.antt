use Rattle.std.proofs.Common.{◌≡◌, ◌++◌}
use Rattle.opgen_operator.specs.Operator.{divisor}
use Rattle.opgen_operator.specs.Outputs.{inputs_of}
use Rattle.opgen_vec.specs.Stimulus.{cycles_from, stimulus_cells}
use Rattle.opgen_vec.proofs.draw.stimulus.Given as goal

abbrev pub invariant-cycles : goal.invariant-cycles
invariant-cycles l = stimulus_cells l.spec l.fn.seed l.fn.cycles
    ≡ l.cells.items ++ cycles_from (divisor l.spec.op) (inputs_of l.spec) l.left l.state

abbrev pub decreases-cycles : goal.decreases-cycles
decreases-cycles l = l.left
