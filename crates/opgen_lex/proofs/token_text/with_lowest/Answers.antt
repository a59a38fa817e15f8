use Rattle.std.proofs.Common.{◌≡◌, ◌+◌, ◌*◌, ◌^◌, ◌≤◌, ◌∷◌, Bool, true, false, length, refl, ap, ◌∙◌, arith}
use Rattle.std.proofs.Math.Nat.{pow-le-pow_right}
use Rattle.opgen_num.specs.Words.{digit, word, nat}
use Rattle.opgen_num.proofs.Words.{nat-below, word-nat}
use mir.Val.{bool_byte}
use Rattle.opgen_lex.proofs.token_text.with_lowest.Goals as goal

bit_number : (b : Bool) → bool_byte b ≡ digit b
bit_number false = refl
bit_number true = refl

pub overflow_mul-bits : goal.overflow_mul-bits
overflow_mul-bits c =
    let w = c.args.word in
    let most : 2 ^ length (c.args.bit ∷ w) ≤ 2 ^ 128 = pow-le-pow_right {n = 2} (omega arith) {i = length (c.args.bit ∷ w)} {j = 128}
    (omega (arith, c.requires)) in
    omega (arith, c.bits.ensures, nat-below (c.args.bit ∷ w), most)

pub overflow_add-bits : goal.overflow_add-bits
overflow_add-bits c =
    let w = c.args.word in
    let most : 2 ^ length (c.args.bit ∷ w) ≤ 2 ^ 128 = pow-le-pow_right {n = 2} (omega arith) {i = length (c.args.bit ∷ w)} {j = 128}
    (omega (arith, c.requires)) in
    omega (arith, c.bits.ensures, bit_number c.args.bit, nat-below (c.args.bit ∷ w), most)

pub returns : goal.returns
returns c =
    let w = c.args.word in
    let number : c.bits.result * 2 + bool_byte c.args.bit
    ≡ digit c.args.bit + 2 * nat w = omega (arith, c.bits.ensures, bit_number c.args.bit) in
    let width : c.width.result + 1 ≡ length (c.args.bit ∷ w) = omega (arith, c.width.ensures) in
    c.new.ensures
    ∙ ap (λ k. word k (c.bits.result * 2 + bool_byte c.args.bit)) width
    ∙ ap (word (length (c.args.bit ∷ w))) number
    ∙ word-nat (c.args.bit ∷ w)
