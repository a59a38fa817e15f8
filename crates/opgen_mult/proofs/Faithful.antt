-- A product without its lowest columns, with a constant that is no less than what they weigh, rounded down.
use Rattle.std.proofs.Common.{ℕ, ◌<◌, ◌≤◌, arith}
use Rattle.std.specs.Prelude.{ℤ, pos, ◌+ℤ◌, ◌-ℤ◌}
use Rattle.std.proofs.lemmas.Int.{ints}
use Rattle.opgen_num.specs.Floors.{IsFloor}
use Rattle.opgen_num.specs.Rounding.{IsWithinOne}
use Rattle.opgen_num.proofs.Integers.{products}
use Rattle.opgen_num.proofs.Quotients.{within_one}

pub cut_is_near : (product : ℤ) (left_out constant unit : ℕ) (y : ℤ) → left_out ≤ constant → constant < unit
    → IsFloor ((product -ℤ pos left_out) +ℤ pos constant) (pos unit) y → IsWithinOne product (pos unit) y
cut_is_near product left_out constant unit y h l (under, over) =
    within_one product (pos unit) y (omega (arith, ints, under, h, l)) (omega (arith, products, over, h, l))
