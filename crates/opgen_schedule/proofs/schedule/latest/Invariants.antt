use Rattle.std.proofs.Common.{◌≡◌, drop}
use Rattle.opgen_schedule.specs.Stage.{start, latest}
use Rattle.opgen_schedule.proofs.schedule.latest.Given as goal

abbrev pub invariant-nodes : goal.invariant-nodes
invariant-nodes l = latest l.last l.slots (drop l.node-index l.nodes) ≡ latest start l.slots l.nodes
