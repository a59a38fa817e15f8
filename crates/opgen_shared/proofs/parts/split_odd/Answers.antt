use mir.Syntax.{w32}
use Rattle.std.proofs.lemmas.Nat.Bits.{bit_at-trailing_zeros}
use Rattle.opgen_graph.proofs.Powers.{shifted}
use Rattle.opgen_shared.proofs.parts.split_odd.Goals as goal

pub returns-clause-odd : goal.returns-clause-odd
returns-clause-odd c = (bit_at-trailing_zeros w32 c.args.n c.requires c.ranges.n.fits).1

pub returns-clause-product : goal.returns-clause-product
returns-clause-product c = shifted _ c.args.n (bit_at-trailing_zeros w32 c.args.n c.requires c.ranges.n.fits).2
