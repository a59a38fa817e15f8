use Rattle.std.proofs.Common.{◌≡◌, rules}
use Rattle.std.specs.Prelude.{pos, neg_ℤ}
use Rattle.opgen_num.specs.Formats.{range_width}
use Rattle.opgen_ports.proofs.Bounds.{width_bound}
use Rattle.opgen_ports.proofs.reach.width_of.Goals as goal

pub returns-clause-bound : goal.returns-clause-bound
returns-clause-bound c =
    let value : c.least_width.result ≡ range_width (neg_ℤ (pos c.args.reach.below)) (pos c.args.reach.above) = search rules in
    rw value (width_bound c.args.reach.below c.args.reach.above c.requires.below c.requires.above)
