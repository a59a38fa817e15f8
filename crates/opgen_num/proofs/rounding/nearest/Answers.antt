use Rattle.std.proofs.Common.{◌<◌, ◌^◌, unsigned_abs, subst, sym, arith}
use Rattle.std.proofs.lemmas.Int.{ints, to_z-of_z}
use Rattle.opgen_num.proofs.NearestNumbers.{nearest-small}
use Rattle.opgen_num.proofs.rounding.nearest.Goals as goal

pub returns-clause-value : goal.returns-clause-value
returns-clause-value c = grind (arith, to_z-of_z, ints)

pub returns-clause-small : goal.returns-clause-small
returns-clause-small c =
    subst (λ z. unsigned_abs z < 2 ^ 126) (sym (returns-clause-value c))
    (nearest-small c.args.n c.args.m (2 ^ 126) c.requires.positive c.requires.small)
