use Rattle.opgen_ports.proofs.Bounds.{products}
use Rattle.opgen_terms.proofs.terms.square_reach.Goals as goal

pub returns-clause-above : goal.returns-clause-above
returns-clause-above c =
    let w = c.args.format.width in
    products c.size_of-size.result c.size_of-size.result w w c.size_of-size.ensures.bound c.size_of-size.ensures.bound
