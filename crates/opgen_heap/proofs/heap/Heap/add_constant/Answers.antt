use Rattle.std.proofs.Common.{◌≡◌, ◌+◌, ◌*◌, ◌%◌, ◌^◌, ◌≤◌, pos, ◌+ℤ◌, sym, ap, ◌∙◌, arith}
use Rattle.std.specs.Int.{w128}
use Rattle.std.proofs.lemmas.Int.{to_z-of_z}
use Rattle.std.proofs.Math.Nat.{pow-le-pow_right}
use Rattle.opgen_num.specs.declared.format.TheConstants.{MAX_WIDTH}
use Rattle.opgen_heap.specs.Contents.{Contents}
use Rattle.opgen_heap.specs.Sum.{heap_sum}
use Rattle.opgen_heap.specs.Adding.{residue, with_constant}
use Rattle.opgen_heap.proofs.Residues.{residue-sum}
use Rattle.opgen_heap.proofs.Sums.{with_constant-sum}
use Rattle.opgen_heap.proofs.heap.Heap.add_constant.Goals as goal

pub overflow_add-self : goal.overflow_add-self
overflow_add-self c =
    let w = c.self.inside.width in
    let most : 2 ^ w ≤ 2 ^ MAX_WIDTH = pow-le-pow_right {n = 2} (omega arith) {i = w} {j = MAX_WIDTH} c.self.invariant.0.1 in
    omega (arith, most, c.self.invariant.1, c.modulo.ensures.below)

pub returns-clause-value : goal.returns-clause-value
returns-clause-value c =
    let w = c.self.inside.width in
    let k = c.self.inside.constant in
    let z = c.args.value in
    let before : Contents = record { width = w; constant = k; columns = c.self.inside.columns.items } in
    let most : 2 ^ w ≤ 2 ^ MAX_WIDTH = pow-le-pow_right {n = 2} (omega arith) {i = w} {j = MAX_WIDTH} c.self.invariant.0.1 in
    let modulus : 1 * 2 ^ w % 340282366920938463463374607431768211456 ≡ 2 ^ w = omega (arith, most) in
    let sum : (k + c.modulo.result) % (1 * 2 ^ w % 340282366920938463463374607431768211456) ≡ residue (pos k +ℤ z) (2 ^ w) =
    ap (λ m. (k + c.modulo.result) % m) modulus
    ∙ ap (λ r. (k + r) % 2 ^ w) (c.modulo.ensures.value ∙ ap (λ y. residue y (2 ^ w)) (to_z-of_z w128 z c.ranges.value))
    ∙ sym (residue-sum k z (2 ^ w) (omega (arith, c.modulo.ensures.below))) in
    ap (λ x. record before { constant = x }) sum ∙ ap (λ h. with_constant h z) c.self.view_is

pub returns-clause-sum : goal.returns-clause-sum
returns-clause-sum c = λ words.
    let width : 2 ^ c.self.inside.width ≡ 2 ^ c.args.self.now.width = ap (λ h. 2 ^ h.width) c.self.view_is in
    ap (heap_sum words) (returns-clause-value c)
    ∙ with_constant-sum words c.args.self.now c.args.value (omega (arith, width, c.modulo.ensures.below))
