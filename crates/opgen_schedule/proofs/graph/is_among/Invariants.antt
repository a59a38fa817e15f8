use Rattle.std.proofs.Common.{◌≡◌, drop}
use Rattle.std.specs.Prelude.{nat_eq}
use Rattle.std.specs.List.{list_any}
use Rattle.opgen_schedule.proofs.graph.is_among.Given as goal

abbrev pub invariant-nodes : goal.invariant-nodes
invariant-nodes l = list_any (nat_eq l.one) (drop l.node-index l.nodes) ≡ list_any (nat_eq l.one) l.nodes
