-- The net of an accepted product, by its recipe, fits the operator in each mode.
use Rattle.std.proofs.Common.{◌≡◌, ℕ, zero, suc, ◌+◌, ◌^◌, ◌<◌, length, refl, sym, ap, ◌∙◌, subst, arith}
use Rattle.std.specs.Prelude.{slice_index}
use Rattle.std.proofs.lemmas.Nat.{pow_pos}
use Rattle.opgen_num.specs.Words.{nat}
use Rattle.opgen_compress.specs.Kept.{IsSumOf}
use Rattle.opgen_compress.specs.Recipe.{compressed}
use Rattle.opgen_design.specs.Value.{IsWidth}
use Rattle.opgen_gpc.specs.Recipe.{Counting}
use Rattle.opgen_gpc.proofs.Counting.{IsCounted, counted_if-is, sum-before}
use Rattle.opgen_ports.specs.Recipes.{has_counters}
use Rattle.opgen_heap.specs.Adding.{with_constant}
use Rattle.opgen_heap.proofs.Sums.{with_constant-sum}
use Rattle.opgen_partial.specs.Law.{HasProducts}
use Rattle.opgen_mult.specs.Recipe.{IsLeftOut, IsNetOfProduct, above_zeros, bits_below, constant, counted_product, heap_width, inputs, net_without, pairs, products, zeros_below}
use Rattle.opgen_mult.specs.Shifted.{IsAboveZeros}
use Rattle.opgen_mult.proofs.AboveZeros.{given, given-above, given-count, given-there}
use Rattle.opgen_mult.proofs.NetFits.{net_fits, output_of, zeros-inputs, zeros-outputs, zeros-delays}
use Rattle.opgen_mult.proofs.InputWords.{products-are}
use Rattle.opgen_mult.proofs.HeapWidth.{Layout, layout}
use Rattle.opgen_net.specs.declared.net.Net.{Net}
use Rattle.opgen_net.specs.Flow.{flow}
use Rattle.opgen_net.specs.Placed.{Placed}
use Rattle.opgen_net.specs.Valid.{IsValid, widths}
use Rattle.opgen_net.specs.WordRule.{with_word}
use Rattle.opgen_net.proofs.Appending.{valid-output}
use Rattle.opgen_net.proofs.Grown.{grown-then}
use Rattle.opgen_net.proofs.Later.{bits-later}
use Rattle.opgen_net.proofs.WordLaws.{word-found_width, word-has_bits}
use Rattle.opgen_kinds.specs.declared.product.Product.{Product}
use Rattle.opgen_operator.specs.declared.operator.Operator.TheVariants.{Multiply}
use Rattle.opgen_operator.specs.Fits.{FitsInEachMode}
use Rattle.opgen_kinds.specs.Product.{IsAcceptedProduct, product_format}
use Rattle.opgen_kinds.proofs.of_kind.ProductWidths.{products_width}
use Rattle.opgen_operator.proofs.Operators.{outputs_held}
use Rattle.opgen_compress.proofs.Compressing.{IsCompressed, compressed-is}
use Rattle.opgen_heap.proofs.Heaps.{IsHeap, constant-heap}

-- ---- a word above zeros
record IsShifted (net : Net) (place width zeros : ℕ) (p : Placed) : Type 0 where
  valid : IsValid p.net
  above : IsAboveZeros net place zeros p.net.nodes p.place
  wide : slice_index (widths p.net.nodes) p.place ≡ width + zeros

shifted-up : (net : Net) (place width zeros : ℕ) → IsValid net → slice_index (widths net.nodes) place ≡ width → IsWidth (width + zeros)
    → IsShifted net place width zeros (above_zeros width zeros (record { net = net; place = place }))
shifted-up net place width zero valid at wide = record {
  valid = valid;
  above = λ ins t words. refl;
  wide = omega (arith, at);
}
shifted-up net place width (suc z) valid at wide =
    let bits = given place width (suc z) in
    let count = given-count place width (suc z) in
    let found = with_word net.nodes bits in
    let there = given-there (widths net.nodes) place width (suc z) at in
    let long : IsWidth (length bits) = (omega (arith, count, wide.0), omega (arith, count, wide.1)) in
    record {
      valid = (bits-later net valid bits long there).valid;
      above = given-above net place width (suc z) found.nodes found.place valid at (word-has_bits net valid bits there);
      wide = word-found_width net valid bits there ∙ count;
    }

module _ (p : Product) (accepted : IsAcceptedProduct p) (left : ℕ)
    (cut_is : IsLeftOut p.a.width p.b.width (bits_below p) left) where
  -- ---- the heap
  is_heap : HasProducts (pairs p left) (inputs p) (products p left) → IsHeap (products p left).heap
  is_heap has =
      let below : 2 ^ (products p left).heap.width ≡ 2 ^ heap_width p = ap (λ k. 2 ^ k) has.width in
      record { below = omega (arith, has.constant, below, pow_pos (heap_width p)); few = has.few (omega arith) }

  -- ---- the net
  without-fits : FitsInEachMode (Multiply p) (net_without p left)
  without-fits =
      let fit : Layout p = layout products_width p accepted in
      let w = products p left in
      let has : HasProducts (pairs p left) (inputs p) w = products-are p accepted left in
      let heap = with_constant w.heap (constant p) in
      let u : Counting = counted_product p left in
      let counted : IsCounted w.net heap u = counted_if-is (has_counters p.compressor) w.net heap has.valid has.there in
      let width : u.heap.width ≡ heap_width p = counted.width ∙ has.width in
      let is_width : IsWidth u.heap.width = (omega (arith, width, fit.some), omega (arith, width, fit.few)) in
      let before : IsHeap heap = constant-heap w.heap (constant p) (is_heap has) in
      let below : u.heap.constant < 2 ^ u.heap.width =
      omega (arith, before.below, counted.constant, ap (λ k. 2 ^ k) counted.width) in
      let two : Placed = compressed u.net u.heap in
      let c : IsCompressed u.net u.heap two =
      compressed-is u.net u.heap counted.later.valid is_width (record { below = below; few = counted.few before.few }) counted.there in
      let sum : IsSumOf w.net heap two.net.nodes two.place =
      sum-before w.net heap u.net u.heap counted.later.grown counted.sum (λ ins t. nat (flow two.net.nodes ins two.place t)) c.sum in
      let wide : slice_index (widths two.net.nodes) two.place ≡ heap_width p = c.wide ∙ width in
      let zeros = zeros_below p in
      let three : Placed = above_zeros (heap_width p) zeros two in
      let total : IsWidth (heap_width p + zeros) = (omega (arith, fit.some), omega (arith, fit.room, fit.total)) in
      let s : IsShifted two.net two.place (heap_width p) zeros three =
      shifted-up two.net two.place (heap_width p) zeros c.later.valid wide total in
      let y = output_of three.place (bits_below p) (product_format p).width in
      let valid = valid-output three.net y s.valid (omega (arith, fit.output), omega (arith, s.wide, fit.output, fit.room)) in
      net_fits p accepted fit outputs_held left cut_is w has heap
      (λ words. with_constant-sum words w.heap (constant p) (pow_pos w.heap.width))
      two.net two.place sum c.later.valid (grown-then w.net u.net two.net counted.later.grown c.later.grown) wide three.net three.place
      s.above (net_without p left) refl
      (zeros-inputs (heap_width p) zeros two) (zeros-outputs (heap_width p) zeros two) (zeros-delays (heap_width p) zeros two) valid

pub fits_modes : (p : Product) → IsAcceptedProduct p → (net : Net) → IsNetOfProduct p net → FitsInEachMode (Multiply p) net
fits_modes p accepted net is = subst (FitsInEachMode (Multiply p)) (sym is.made) (without-fits p accepted is.left_out is.greatest)
