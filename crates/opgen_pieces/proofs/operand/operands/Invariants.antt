use Rattle.std.proofs.Common.{◌≡◌, take, map}
use Rattle.opgen_design.specs.Plain.{plain}
use Rattle.opgen_net.specs.Valid.{widths}
use Rattle.opgen_net.specs.WordRule.{run_tree}
use Rattle.opgen_pieces.specs.Run.{net_runs}
use Rattle.opgen_pieces.proofs.operand.operands.Given as goal

abbrev pub invariant-runs : goal.invariant-runs
invariant-runs l = map plain l.found.items ≡ map (run_tree (widths l.net.nodes)) (net_runs (take l.run-index l.runs))
