use Rattle.std.proofs.Common.{sym, subst}
use Rattle.opgen_operator.specs.declared.operator.Operator.TheVariants.{Constdiv}
use Rattle.opgen_operator.specs.Fits.{FitsInEachMode}
use Rattle.opgen_constdiv.proofs.Fits.{accepted, has_input, has_divisor, fits_modes}
use Rattle.opgen_constdiv.proofs.build.Goals as goal

pub division_net-requires-clause-input : goal.division_net-requires-clause-input
division_net-requires-clause-input c = let s = c.args.small.now in has_input s (accepted s c.requires)

pub division_net-requires-clause-small : goal.division_net-requires-clause-small
division_net-requires-clause-small c = let s = c.args.small.now in has_divisor s (accepted s c.requires)

pub returns-clause-fits : goal.returns-clause-fits
returns-clause-fits c =
    let s = c.args.small.now in
    subst (FitsInEachMode (Constdiv s)) (sym c.in_ok-net.ensures.net) (fits_modes s c.requires)
