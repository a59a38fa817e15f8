use Rattle.std.proofs.Common.{FitsSigned, rules}
use Rattle.std.specs.Int.{w128}
use Rattle.std.proofs.lemmas.Int.{to_z-of_z}
use Rattle.opgen_num.proofs.Values.{int_holds}
use Rattle.opgen_num.proofs.format.Format.value.Goals as goal

pub returns-then-self-clause-range : goal.returns-then-self-clause-range
returns-then-self-clause-range c =
    let fits : FitsSigned w128 c.signed_value.result = search rules in
    simp to_z-of_z (rw (c.if-self.true, c.signed_value.ensures) (int_holds c.args.word c.requires.least))
