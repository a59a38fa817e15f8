-- The net of a product: a bit heap of the products of the bits of its factors, with a constant (de Dinechin and Kumm,
-- Application-Specific Arithmetic: multiplication, and truncated multipliers).
use Rattle.std.specs.Prelude.{ℕ, zero, suc, ◌≡◌, ◌+◌, ◌-◌, ◌^◌, [], ◌∷◌, ◌++◌, replicate, codes, ℤ, pos, ◌+ℤ◌}
use Rattle.opgen_budget.specs.Columns.{IsGreatestCut}
use Rattle.opgen_net.specs.declared.net.Net.{Net}
use Rattle.opgen_net.specs.declared.node.Node.TheVariants.{Input}
use Rattle.opgen_net.specs.declared.word_bits.WordBit.TheVariants.{Zero}
use Rattle.opgen_net.specs.Placed.{Placed, with_bits}
use Rattle.opgen_net.specs.WordRule.{bits_from}
use Rattle.opgen_heap.specs.Adding.{with_constant}
use Rattle.opgen_compress.specs.Recipe.{compressed}
use Rattle.opgen_gpc.specs.Recipe.{Counting, counted_if}
use Rattle.opgen_ports.specs.Recipes.{has_counters}
use Rattle.opgen_kinds.specs.declared.product.Product.{Product}
use Rattle.opgen_kinds.specs.Product.{product_shift, product_format}
use Rattle.opgen_ports.specs.Reaches.{places_up, places_down}
use Rattle.opgen_partial.specs.declared.pairs.Factor.{Factor}
use Rattle.opgen_partial.specs.declared.pairs.Products.{Products}
use Rattle.opgen_partial.specs.declared.pairs.Work.{Work}
use Rattle.opgen_partial.specs.Recipe.{sign_correction, with_products}

-- the product's bits below the output's lowest, and the zeros below the product's lowest
abbrev pub bits_below : Product → ℕ
bits_below p = places_down (product_shift p)

abbrev pub zeros_below : Product → ℕ
zeros_below p = places_up (product_shift p)

-- the heap has the output's bits but the zeros, and those below
abbrev pub heap_width : Product → ℕ
heap_width p = (product_format p).width + bits_below p - zeros_below p

-- How many of the lowest columns are left out: none where the output has every bit of the product, and otherwise as many as weigh at
-- most half a unit of the output's last place.
abbrev pub IsLeftOut : (m n below columns : ℕ) → Type 0
IsLeftOut m n zero columns = columns ≡ 0
IsLeftOut m n (suc below) columns = IsGreatestCut m n (suc below) columns

-- the factors: a is node 0, b node 1

abbrev pub first : Product → Factor
first p = record { node = 0; width = p.a.width; signed = p.a.signed }

abbrev pub second : Product → Factor
second p = record { node = 1; width = p.b.width; signed = p.b.signed }

abbrev pub pairs : Product → (left_out : ℕ) → Products
pairs p left_out = record { a = first p; b = second p; left_out = left_out }

abbrev pub inputs : Product → Work
inputs p = record {
  net = record {
    inputs = (codes "a", p.a.width) ∷ (codes "b", p.b.width) ∷ [];
    nodes = Input 0 p.a.width ∷ Input 1 p.b.width ∷ [];
    outputs = [];
  };
  heap = record { width = heap_width p; constant = 0; columns = [] };
}

abbrev pub products : Product → (left_out : ℕ) → Work
products p left_out = with_products (pairs p left_out) (inputs p)

-- half a unit of the output's last place, where the product has bits below it
abbrev pub rounding : (below : ℕ) → ℕ
rounding zero = 0
rounding (suc k) = 2 ^ k

abbrev pub constant : Product → ℤ
constant p = sign_correction p.a.signed p.b.signed p.a.width p.b.width +ℤ pos (rounding (bits_below p))

-- the partial products and the constant, after larger counters where they are asked for
abbrev pub counted_product : Product → (left_out : ℕ) → Counting
counted_product p left_out = let w = products p left_out in counted_if (has_counters p.compressor) w.net (with_constant w.heap (constant p))

abbrev pub summed : Product → (left_out : ℕ) → Placed
summed p left_out = let c = counted_product p left_out in compressed c.net c.heap

-- the word of a node's bits above zeros, where there are any
abbrev pub above_zeros : (width zeros : ℕ) → Placed → Placed
above_zeros width zero s = s
above_zeros width (suc z) s = with_bits s.net (bits_from s.place 0 width ++ replicate (suc z) Zero)

abbrev pub shifted : Product → (left_out : ℕ) → Placed
shifted p left_out = above_zeros (heap_width p) (zeros_below p) (summed p left_out)

-- the output has the bits from its lowest place up
abbrev pub net_without : Product → (left_out : ℕ) → Net
net_without p left_out =
    let s = shifted p left_out in
    record s.net {
      outputs = s.net.outputs ++ record {
        name = codes "y";
        from = record { node = s.place; high = bits_below p + (product_format p).width - 1; low = bits_below p };
      } ∷ [];
    }

pub record IsNetOfProduct (p : Product) (net : Net) : Type 0 where
  pub left_out : ℕ
  pub greatest : IsLeftOut p.a.width p.b.width (bits_below p) left_out
  pub made : net ≡ net_without p left_out
