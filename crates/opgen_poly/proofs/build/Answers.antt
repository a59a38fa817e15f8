use Rattle.std.proofs.Common.{sym, subst}
use Rattle.opgen_operator.specs.declared.operator.Operator.TheVariants.{Poly}
use Rattle.opgen_operator.specs.Fits.{FitsInEachMode}
use Rattle.opgen_poly.specs.Near.{ArePartialsNear}
use Rattle.opgen_poly.proofs.Fits.{accepted, fits_modes}
use Rattle.opgen_poly.proofs.Runs.{partials-near}
use Rattle.opgen_poly.proofs.build.Goals as goal

pub polynomial_net-requires : goal.polynomial_net-requires
polynomial_net-requires c = accepted c.args.poly.now c.requires

pub returns-clause-near : goal.returns-clause-near
returns-clause-near c =
    let p = c.args.poly.now in
    subst (ArePartialsNear p) (sym c.in_ok-net.ensures.net) (partials-near p (accepted p c.requires))

pub returns-clause-fits : goal.returns-clause-fits
returns-clause-fits c =
    let p = c.args.poly.now in
    subst (FitsInEachMode (Poly p)) (sym c.in_ok-net.ensures.net) (fits_modes p c.requires)
