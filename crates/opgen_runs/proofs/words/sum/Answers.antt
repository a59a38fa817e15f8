use Rattle.std.proofs.Common.{◌≡◌, ◌+◌, ◌%◌, ◌^◌, ◌≤◌, ◌<◌, length, ap, sym, ◌∙◌, subst, arith}
use Rattle.std.proofs.Math.Nat.{pow-le-pow_right}
use Rattle.opgen_num.specs.Words.{nat, word, digit}
use Rattle.opgen_num.proofs.Words.{nat-below, digit-below}
use Rattle.opgen_runs.proofs.WordOps.{word-sum, word-mod}
use Rattle.opgen_runs.proofs.words.sum.Goals as goal

pub overflow_add-total : goal.overflow_add-total
overflow_add-total c =
    let a = c.args.first in
    let b = c.args.second in
    let most : 2 ^ length a ≤ 2 ^ 126 = pow-le-pow_right {n = 2} (omega arith) {i = length a} {j = 126} (omega (arith, c.requires.width)) in
    let k : nat b < 2 ^ length a = subst (λ n. nat b < 2 ^ n) (sym c.requires.same) (nat-below b) in
    omega (arith, nat-below a, k, most, c.bits.ensures, c.bits-2.ensures)

pub overflow_add-total-2 : goal.overflow_add-total-2
overflow_add-total-2 c =
    let a = c.args.first in
    let b = c.args.second in
    let most : 2 ^ length a ≤ 2 ^ 126 = pow-le-pow_right {n = 2} (omega arith) {i = length a} {j = 126} (omega (arith, c.requires.width)) in
    let k : nat b < 2 ^ length a = subst (λ n. nat b < 2 ^ n) (sym c.requires.same) (nat-below b) in
    omega (arith, nat-below a, k, most, c.bits.ensures, c.bits-2.ensures, c.digit.ensures, digit-below c.args.carry)

pub returns : goal.returns
returns c =
    let a = c.args.first in
    let b = c.args.second in
    let total : c.bits.result + c.bits-2.result + c.digit.result
    ≡ nat a + nat b + digit c.args.carry = omega (arith, c.bits.ensures, c.bits-2.ensures, c.digit.ensures) in
    let w : c.width-width.result ≡ length a = c.width-width.ensures in
    let p : c.power.result ≡ 2 ^ length a = c.power.ensures.value ∙ ap (λ n. 2 ^ n) w in
    c.new.ensures ∙ ap (λ n. word n ((c.bits.result + c.bits-2.result + c.digit.result) % c.power.result)) w
    ∙ ap (λ n. word (length a) (n % c.power.result)) total ∙ ap (λ n. word (length a) ((nat a + nat b + digit c.args.carry) % n)) p
    ∙ word-mod (length a) (nat a + nat b + digit c.args.carry) ∙ word-sum c.args.carry a b c.requires.same
