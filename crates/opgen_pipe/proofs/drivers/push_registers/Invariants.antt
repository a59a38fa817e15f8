use Rattle.std.proofs.Common.{◌≡◌, ◌++◌, drop, filter}
use Rattle.opgen_design.specs.Order.{is_register}
use Rattle.opgen_pipe.specs.Pipelined.{all_of, node_drivers}
use Rattle.opgen_pipe.proofs.drivers.push_registers.Given as goal

abbrev pub invariant-nodes : goal.invariant-nodes
invariant-nodes l =
    l.drivers ++ filter is_register (all_of (node_drivers l.first l.standings) l.number (drop l.number l.nodes))
    ≡ l.initial.drivers ++ filter is_register (all_of (node_drivers l.first l.standings) 0 l.nodes)
