use Rattle.std.proofs.Common.{◌≡◌}
use Rattle.std.specs.Prelude.{min, slice_index}
use Rattle.opgen_pipe.specs.Placed.{bits_before}
use Rattle.opgen_pipe.proofs.fewest.register_bits.Given as goal

abbrev pub invariant-nodes : goal.invariant-nodes
invariant-nodes l = l.bits ≡ min (bits_before l.widths (slice_index l.copies) l.place) 18446744073709551615
