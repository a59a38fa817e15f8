use Rattle.std.proofs.Common.{◌≡◌, ◌∙◌, FitsSigned, length, rules, arith, ap}
use Rattle.std.specs.Int.{w128}
use Rattle.std.proofs.lemmas.Int.{to_z-of_z}
use Rattle.opgen_num.specs.WordLaws.{length-word}
use Rattle.opgen_ports.proofs.Magnitudes.{holds_within}
use Rattle.opgen_ports.proofs.history.input.Goals as goal

pub value-requires-clause-most : goal.value-requires-clause-most
value-requires-clause-most c = omega (arith, ap length c.new.ensures, length-word c.args.format.width c.args.bits, c.requires.format.most)

pub returns-clause-bound : goal.returns-clause-bound
returns-clause-bound c =
    let fits : FitsSigned w128 c.value.result = search rules in
    let width : length c.new.result ≡ c.args.format.width = ap length c.new.ensures ∙ length-word c.args.format.width c.args.bits in
    simp to_z-of_z (holds_within c.args.format.signed c.args.format.width c.value.result (rw width at c.value.ensures.range))

pub returns-clause-of : goal.returns-clause-of
returns-clause-of c =
    let fits : FitsSigned w128 c.value.result = search rules in
    let width : length c.new.result ≡ c.args.format.width = ap length c.new.ensures ∙ length-word c.args.format.width c.args.bits in
    simp to_z-of_z (rw width at c.value.ensures.range)
