use Rattle.std.proofs.Common.{take}
use Rattle.opgen_graph.specs.Graphs.{values}
use Rattle.opgen_shared.specs.Steps.{IsCandidate, IsLeastOf, HasOperand}
use Rattle.opgen_shared.proofs.Covering.{IsAmong}
use Rattle.opgen_shared.proofs.steps.best_step.Given as goal

abbrev pub invariant-adders : goal.invariant-adders
invariant-adders l = record {
  candidate : IsCandidate l.sums.adders l.number l.least;
  one : IsLeastOf l.sums.adders l.number (HasOperand 1) l.least;
  among : IsLeastOf l.sums.adders l.number (IsAmong (values (take l.adder-index l.sums.adders))) l.least;
}
