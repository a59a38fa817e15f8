-- The text of a number's lowest bits.
use Rattle.std.proofs.Common.{◌≡◌, ℕ, zero, suc, ◌-◌, ◌<◌, ◌%◌, ◌/◌, ◌++◌, eqb, ap, arith}
use Rattle.opgen_num.specs.Words.{word}
use Rattle.opgen_vhdl.specs.ExpressionText.{bit_text, bits_text}

-- the lowest bit stands last
pub bits_step : (width n : ℕ) → 0 < width → bits_text (word width n) ≡ bits_text (word (width - 1) (n / 2)) ++ bit_text (eqb (n % 2) 1)
bits_step zero n h = absurd (omega (arith, h))
bits_step (suc width) n h =
    let e : width ≡ suc width - 1 = omega arith in
    ap (λ k. bits_text (word k (n / 2)) ++ bit_text (eqb (n % 2) 1)) e
