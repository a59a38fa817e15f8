use Rattle.std.proofs.Common.{length, sym, subst}
use Rattle.opgen_design.specs.Value.{IsWidth}
use Rattle.opgen_poly.proofs.FirstLaws.{word-width}
use Rattle.opgen_poly.proofs.steps.first.Goals as goal

pub constant-requires-clause-width : goal.constant-requires-clause-width
constant-requires-clause-width c =
    subst (λ w. IsWidth (length w)) (sym c.last_word.ensures) (word-width c.args.poly.now c.requires)
