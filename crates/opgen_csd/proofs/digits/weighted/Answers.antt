use Rattle.std.proofs.Common.{◌≡◌, arith}
use mir.Syntax.{w64}
use mir.Val.{to_z, of_z}
use Rattle.std.proofs.lemmas.Int.{ints, to_z-of_z}
use Rattle.opgen_csd.proofs.Recoding.{shifted, product_fits}
use Rattle.opgen_csd.proofs.digits.weighted.Goals as goal

pub overflow_mul-result : goal.overflow_mul-result
overflow_mul-result c =
    let d : to_z w64 (of_z w64 c.from.result) ≡ c.args.digit = omega (arith, ints) in
    rw (d, shifted c.args.place c.requires.place) (product_fits c.args.digit c.args.place c.requires.digit c.requires.place)

pub returns : goal.returns
returns c =
    let d : to_z w64 (of_z w64 c.from.result) ≡ c.args.digit = omega (arith, ints) in
    rw (d, shifted c.args.place c.requires.place)
    (to_z-of_z w64 _ (product_fits c.args.digit c.args.place c.requires.digit c.requires.place))
