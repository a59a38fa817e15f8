use Rattle.std.proofs.Common.{refl, arith}
use Rattle.opgen_kinds.specs.Product.{product_need, product_meaning, product_acceptance}
use Rattle.opgen_ports.proofs.Accepted.{accepted_width}
use Rattle.opgen_kinds.proofs.product.Product.output.Goals as goal

pub returns-clause-few : goal.returns-clause-few
returns-clause-few c =
    rw c.product_format.ensures (omega (arith, accepted_width (product_meaning c.args.self.now) (product_acceptance c.args.self.now) (product_need c.args.self.now) c.requires refl))
