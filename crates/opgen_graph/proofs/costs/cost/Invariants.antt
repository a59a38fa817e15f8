use Rattle.std.proofs.Common.{◌≡◌, ◌≤◌, ◌*◌, ◌^◌, take}
use Rattle.opgen_graph.specs.SetCost.{set_cost}
use Rattle.opgen_graph.proofs.costs.cost.Given as goal

abbrev pub invariant-loop-n : goal.invariant-loop-n
invariant-loop-n l = record { total : l.total ≡ set_cost l.width (take l.n-index l.set); small : l.total ≤ 2 ^ 33 * l.n-index }
