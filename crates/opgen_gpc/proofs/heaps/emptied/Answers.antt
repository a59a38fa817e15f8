use Rattle.std.proofs.Common.{◌≡◌, ℕ, ◌^◌, ◌<◌, [], to_z, ap, ◌∙◌, arith}
use Rattle.std.specs.Prelude.{pos, ◌+ℤ◌}
use Rattle.std.specs.Int.{w128}
use Rattle.std.proofs.Math.Nat.{mod-eq_of_lt}
use Rattle.std.proofs.lemmas.Int.{ints, to_z_pos}
use Rattle.std.proofs.lemmas.Nat.{pow_below, pow_pos}
use Rattle.opgen_heap.specs.Adding.{residue, with_constant}
use Rattle.opgen_heap.specs.Contents.{Contents}
use Rattle.opgen_heap.proofs.Residues.{residue-natural}
use Rattle.opgen_gpc.proofs.heaps.emptied.Goals as goal

small : (n w : ℕ) → n < 2 ^ w → w < 127 → n < 2 ^ 127
small n w h l = omega (arith, h, pow_below w 127 l)

pub overflow_cast-constant : goal.overflow_cast-constant
overflow_cast-constant c =
    let wide = c.width.ensures.is_width in
    omega (arith, ints, small c.constant.result c.args.heap.now.width c.constant.ensures.below (omega (arith, wide.1, c.width.ensures.value)))

pub returns : goal.returns
returns c =
    let heap = c.args.heap.now in
    let n = c.constant.result in
    let m = 2 ^ heap.width in
    let wide = c.width.ensures.is_width in
    let value : to_z w128 n ≡ pos n =
    to_z_pos w128 n (small n heap.width c.constant.ensures.below (omega (arith, wide.1, c.width.ensures.value))) in
    let plain : pos 0 +ℤ pos n ≡ pos n = omega (arith, ints) in
    let whole : residue (pos 0 +ℤ pos n) m ≡ heap.constant =
    ap (λ z. residue z m) plain
    ∙ residue-natural n m (pow_pos heap.width)
    ∙ mod-eq_of_lt c.constant.ensures.below
    ∙ c.constant.ensures.value in
    c.add_constant.ensures.value
    ∙ ap (with_constant c.new-empty.result) value
    ∙ ap (λ (e : Contents). with_constant e (pos n)) c.new-empty.ensures
    ∙ ap (λ w. with_constant (record { width = w; constant = 0; columns = [] }) (pos n)) c.width.ensures.value
    ∙ ap (λ k. record { width = heap.width; constant = k; columns = [] }) whole
