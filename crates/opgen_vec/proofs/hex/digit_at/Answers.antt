use Rattle.std.proofs.Common.{◌≡◌, ℕ, ◌+◌, ◌-◌, ◌*◌, ◌≤◌, ◌/◌, ◌%◌, ◌^◌, sym, ap, ◌∙◌, arith}
use Rattle.std.proofs.Math.Nat.{pow-le-pow_right, div-eq_of_lt}
use Rattle.std.proofs.Math.Pow.{mod-mod-pow}
use Rattle.std.proofs.lemmas.Nat.{field_of, shr-shr}
use Rattle.opgen_vec.proofs.RowTexts.{four_bits}
use Rattle.opgen_vec.proofs.hex.digit_at.Goals as goal

low : (n k : ℕ) → k ≤ 60 → n % 2 ^ 64 / 2 ^ k % 16 ≡ n / 2 ^ k % 16
low n k within =
    let total : 60 - k + 4 + k ≡ 64 = omega (arith, within) in
    ap (λ w. n % 2 ^ w / 2 ^ k % 16) (sym total) ∙ ap (λ m. m % 16) (field_of n (60 - k + 4) k) ∙ mod-mod-pow (n / 2 ^ k) (60 - k) 4

pub returns-then-place-lt16 : goal.returns-then-place-lt16
returns-then-place-lt16 c =
    low c.args.cell (4 * c.args.place) (omega arith) ∙ ap (λ n. c.args.cell / n % 16) (sym (four_bits c.args.place))

pub returns-then-place-lt32 : goal.returns-then-place-lt32
returns-then-place-lt32 c =
    let same : 64 + 4 * (c.args.place - 16) ≡ 4 * c.args.place = omega arith in
    ap (λ n. n % 16) (shr-shr c.args.cell 64 (4 * (c.args.place - 16)))
    ∙ ap (λ k. c.args.cell / 2 ^ k % 16) same
    ∙ ap (λ n. c.args.cell / n % 16) (sym (four_bits c.args.place))

pub returns-else-place-lt32 : goal.returns-else-place-lt32
returns-else-place-lt32 c =
    let wide : 16 ^ 32 ≤ 16 ^ c.args.place = pow-le-pow_right (omega arith) c.if-place-lt32.false in
    let none : c.args.cell / 16 ^ c.args.place ≡ 0 = div-eq_of_lt (omega (arith, wide, c.ranges.cell.fits)) in
    sym (ap (λ n. n % 16) none)
