use Rattle.std.proofs.Common.{◌≡◌, ◌++◌, drop}
use Rattle.opgen_net.specs.Valid.{widths}
use Rattle.opgen_pipe.specs.Cells.{design_cells, node_cells}
use Rattle.opgen_pipe.specs.Copies.{copies}
use Rattle.opgen_pipe.specs.Layouts.{schedule_of}
use Rattle.opgen_pipe.specs.Pipelined.{all_of}
use Rattle.opgen_pipe.proofs.cells.design_cells.Given as goal

abbrev pub invariant-nodes : goal.invariant-nodes
invariant-nodes l =
    l.cells.items ++ all_of (node_cells (widths l.net.nodes) (copies l.net (schedule_of l.layout))) l.place (drop l.place l.nodes)
    ≡ design_cells l.net (schedule_of l.layout)
