use Rattle.std.proofs.Common.{◌≡◌, pos, arith, sym, ◌∙◌, rules, FitsSigned}
use mir.Syntax.{w64}
use Rattle.std.proofs.lemmas.Int.{ints, to_z-of_z}
use Rattle.opgen_csd.proofs.Recoding.{above_one, above_three, above_even}
use Rattle.opgen_csd.proofs.digits.lowest_digit.Goals as goal

pub returns-then-low-eq1-clause-odd : goal.returns-then-low-eq1-clause-odd
returns-then-low-eq1-clause-odd c = λ _. let f : FitsSigned w64 c.args.n = search rules
    in let e = rw to_z-of_z at c.rem_euclid-low.ensures.value in let low : c.rem_euclid-low.result
    ≡ pos 1 = omega (arith, ints, c.if-low-eq1.true) in above_one c.args.n (sym e ∙ low)

pub returns-then-low-eq3-clause-odd : goal.returns-then-low-eq3-clause-odd
returns-then-low-eq3-clause-odd c = λ _. let f : FitsSigned w64 c.args.n = search rules
    in let e = rw to_z-of_z at c.rem_euclid-low.ensures.value in let low : c.rem_euclid-low.result
    ≡ pos 3 = omega (arith, ints, c.if-low-eq3.true) in above_three c.args.n (sym e ∙ low)

pub returns-clause-even : goal.returns-clause-even
returns-clause-even c = λ _. let f : FitsSigned w64 c.args.n = search rules in let e = rw to_z-of_z at c.rem_euclid-low.ensures.value
    in above_even c.args.n c.rem_euclid-low.result e (search rules) (search rules)
