use Rattle.std.proofs.Common.{◌≡◌, take, map}
use Rattle.opgen_design.specs.Plain.{plain}
use Rattle.opgen_net.specs.Valid.{widths}
use Rattle.opgen_net.specs.WordRule.{run_tree}
use Rattle.opgen_net.proofs.net.Net.operands.Given as goal

abbrev pub invariant-loop-run : goal.invariant-loop-run
invariant-loop-run l = map plain l.found.items ≡ map (run_tree (widths l.self.nodes)) (take l.run-index l.runs)
