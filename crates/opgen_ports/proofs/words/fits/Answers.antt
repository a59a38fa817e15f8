use Rattle.std.proofs.Common.{arith}
use Rattle.opgen_num.proofs.BitLength.{power_order}
use Rattle.opgen_ports.proofs.words.fits.Goals as goal

pub returns-then-format-ge128 : goal.returns-then-format-ge128
returns-then-format-ge128 c = (
  λ _. omega (arith, power_order 128 c.args.format.width c.if-format-ge128.true),
  λ _. grind (
    arith,
    c.if-format-ge128.true,
  ),
)
