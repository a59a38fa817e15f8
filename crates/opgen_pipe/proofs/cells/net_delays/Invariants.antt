use Rattle.std.proofs.Common.{◌≡◌, map, take}
use Rattle.opgen_pipe.specs.Cells.{node_delay}
use Rattle.opgen_pipe.proofs.cells.net_delays.Given as goal

abbrev pub invariant-nodes : goal.invariant-nodes
invariant-nodes g l = l.delays.items ≡ map (node_delay ((goal.Target-dyn g (l.target.vtable, l.target.value)).delays l.target.value)
    l.widths) (take l.node-index l.nodes)
