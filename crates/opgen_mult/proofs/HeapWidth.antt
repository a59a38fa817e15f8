-- The width of a product's heap, and the places of its bits in the output.
use Rattle.std.proofs.Common.{◌≡◌, ℕ, ◌+◌, ◌-◌, ◌≤◌, refl, arith}
use Rattle.std.specs.Prelude.{ℤ, pos, negsuc, ◌≤ℤ◌}
use Rattle.std.proofs.lemmas.Int.{ints}
use Rattle.opgen_num.specs.declared.format.TheConstants.{MAX_WIDTH}
use Rattle.opgen_kinds.specs.declared.product.Product.{Product}
use Rattle.opgen_operator.specs.declared.operator.Operator.TheVariants.{Multiply}
use Rattle.opgen_kinds.specs.Product.{IsAcceptedProduct, ProductsHaveWidth, product_shift, product_reach, product_places, product_format}
use Rattle.opgen_ports.specs.Reaches.{width_of, places_up, places_down}
use Rattle.opgen_operator.proofs.Accepted.{accepted_ranges, accepted_width}
use Rattle.opgen_ports.proofs.Widths.{some_width}
use Rattle.opgen_mult.specs.Recipe.{bits_below}

-- a shift and the widths of the output and of its heap
pub record Fit (s : ℤ) (w : ℕ) : Type 0 where
  pub room : places_up s ≤ w + places_down s
  pub some : 1 ≤ w + places_down s - places_up s
  pub few : w + places_down s - places_up s ≤ MAX_WIDTH
  pub output : 1 ≤ w
  pub total : w + places_down s ≤ MAX_WIDTH

abbrev pub Layout : Product → Type 0
Layout p = Fit (product_shift p) (product_format p).width

pub layout : ProductsHaveWidth → (p : Product) → IsAcceptedProduct p → Layout p
layout widths p accepted =
    let plain = widths p (accepted_ranges (Multiply p) accepted) in
    let most = accepted_width (Multiply p) ((product_format p).width + bits_below p) accepted refl in
    by (product_shift p) (product_format p).width (width_of (product_reach p)) plain.shifted_up
    (some_width (product_reach p)) (some_width (product_places p)) most
  where
    by : (s : ℤ) (w v : ℕ) → (pos 0 ≤ℤ s → w ≡ v + places_up s) → 1 ≤ v → 1 ≤ w → w + places_down s ≤ MAX_WIDTH → Fit s w
    by (pos k) w v shifted some least most =
        let wide = shifted (omega (arith, ints)) in
        record { room = omega (arith, wide); some = omega (arith, wide, some); few = omega (arith, most); output = least; total = most }
    by (negsuc k) w v shifted some least most =
        record { room = omega arith; some = omega (arith, least); few = omega (arith, most); output = least; total = most }
