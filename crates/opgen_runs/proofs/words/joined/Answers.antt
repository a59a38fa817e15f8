use Rattle.std.proofs.Common.{◌≡◌, ℕ, Bool, List, ◌+◌, ◌*◌, ◌%◌, ◌^◌, ◌≤◌, ◌<◌, length, ap, ◌∙◌, arith, pow-add}
use Rattle.std.proofs.Math.Nat.{pow-le-pow_right}
use Rattle.std.proofs.lemmas.Nat.{shl_whole, mul-add-lt}
use Rattle.opgen_num.specs.Words.{nat, word}
use Rattle.opgen_num.proofs.Words.{nat-below}
use Rattle.opgen_runs.proofs.WordOps.{word-append}
use Rattle.opgen_runs.proofs.words.joined.Goals as goal

shifted : (a b : List Bool) (n low : ℕ) → n ≡ nat a → low ≡ length b → length a + length b < 128 → n * 2 ^ low % 2 ^ 128
    ≡ nat a * 2 ^ length b
shifted a b n low e f h = ap (λ x. x * 2 ^ low % 2 ^ 128) e ∙ ap (λ x. nat a * 2 ^ x % 2 ^ 128) f
    ∙ shl_whole (nat a) (length a) (length b) 128 (nat-below a) (omega (arith, h))

below : (a b : List Bool) → nat a * 2 ^ length b + nat b < 2 ^ (length a + length b)
below a b = omega (
  arith,
  mul-add-lt (nat a) (2 ^ length b) (nat b) (2 ^ length a) (nat-below a) (nat-below b),
  pow-add 2 (length a) (length b),
)

pub overflow_add-bits : goal.overflow_add-bits
overflow_add-bits c =
    let a = c.args.first in
    let b = c.args.second in
    let most : 2 ^ (length a + length b) ≤ 2 ^ 127 = pow-le-pow_right {n = 2} (omega arith) {i = length a + length b} {j = 127}
    (omega (arith, c.requires)) in
    omega (
      arith,
      shifted a b c.bits.result c.width-low.result c.bits.ensures c.width-low.ensures c.requires,
      below a b,
      most,
      c.bits-2.ensures,
    )

pub new-requires : goal.new-requires
new-requires c =
    let a = c.args.first in
    let b = c.args.second in
    let w : c.width.result + c.width-low.result ≡ length a + length b = omega (arith, c.width.ensures, c.width-low.ensures) in
    let p = ap (λ n. 2 ^ n) w in
    omega (
      arith,
      shifted a b c.bits.result c.width-low.result c.bits.ensures c.width-low.ensures c.requires,
      below a b,
      p,
      c.bits-2.ensures,
    )

pub returns : goal.returns
returns c =
    let a = c.args.first in
    let b = c.args.second in
    let w : c.width.result + c.width-low.result ≡ length b + length a = omega (arith, c.width.ensures, c.width-low.ensures) in
    let n : c.bits.result * 2 ^ c.width-low.result % 2 ^ 128 + c.bits-2.result
    ≡ nat a * 2 ^ length b + nat b = omega
    (arith, shifted a b c.bits.result c.width-low.result c.bits.ensures c.width-low.ensures c.requires, c.bits-2.ensures) in
    c.new.ensures ∙ ap (λ k. word k (c.bits.result * 2 ^ c.width-low.result % 2 ^ 128 + c.bits-2.result)) w
    ∙ ap (word (length b + length a)) n ∙ word-append b a
