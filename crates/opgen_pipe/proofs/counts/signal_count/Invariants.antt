use Rattle.std.proofs.Common.{◌≡◌}
use Rattle.std.specs.Prelude.{min, slice_index}
use Rattle.opgen_pipe.specs.Copies.{signals_before}
use Rattle.opgen_pipe.proofs.counts.signal_count.Given as goal

abbrev pub invariant-nodes : goal.invariant-nodes
invariant-nodes l = l.count ≡ min (signals_before (slice_index l.copies) l.own-index) 18446744073709551615
