use Rattle.opgen_kinds.specs.Poly.{poly_meaning, poly_acceptance}
use Rattle.opgen_ports.proofs.Accepted.{accepted_ranges}
use Rattle.opgen_kinds.proofs.poly.Poly.outputs.Goals as goal

pub output-requires : goal.output-requires
output-requires c = accepted_ranges (poly_meaning c.args.self.now) (poly_acceptance c.args.self.now) c.requires
