use Rattle.std.proofs.Common.{◌≡◌, take, map}
use Rattle.opgen_pipe.proofs.counts.output_nodes.Given as goal

abbrev pub invariant-outputs : goal.invariant-outputs
invariant-outputs l = l.nodes.items ≡ map (λ o. o.from.node) (take l.output-index l.outputs)
