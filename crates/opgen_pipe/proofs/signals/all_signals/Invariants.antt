use Rattle.std.proofs.Common.{◌≡◌, ◌++◌, drop}
use Rattle.opgen_pipe.specs.Pipelined.{all_of, node_signals}
use Rattle.opgen_pipe.proofs.signals.all_signals.Given as goal

abbrev pub invariant-nodes : goal.invariant-nodes
invariant-nodes l = l.signals ++ all_of (node_signals l.net l.standings) l.number (drop l.number l.nodes)
    ≡ all_of (node_signals l.net l.standings) 0 l.nodes
