use Rattle.opgen_digits.proofs.Digit.{has_digit}
use Rattle.opgen_part_laws.proofs.digits.digits_are_right.Goals as goal

pub returns : goal.returns
returns c = λ keep rest net a b digits valid are there inputs t words low_a low_b.
    has_digit rest net a b valid are inputs t words low_a low_b keep digits there
