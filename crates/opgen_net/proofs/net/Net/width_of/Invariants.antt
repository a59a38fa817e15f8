use Rattle.std.proofs.Common.{◌≡◌, ◌<◌, length, slice_index}
use Rattle.opgen_net.specs.Valid.{widths}
use Rattle.opgen_net.proofs.net.Net.width_of.Given as goal

abbrev pub invariant-loop-of : goal.invariant-loop-of
invariant-loop-of l = (l.at < length l.self.nodes) × (slice_index (widths l.self.nodes) l.at ≡ slice_index (widths l.self.nodes) l.node)

abbrev pub decreases-loop-of : goal.decreases-loop-of
decreases-loop-of l = l.at
