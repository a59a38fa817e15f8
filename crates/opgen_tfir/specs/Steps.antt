-- What each step that builds a transposed filter needs: the last tap that is not 0, widths, and a node for the odd part of each
-- tap.
use Rattle.std.specs.Prelude.{◌≡◌, ℕ, ◌+◌, ◌<◌, ◌≤◌, ◌^◌, ℤ, List, length, drop, true, false, All}
use Rattle.opgen_num.specs.declared.limits.TheConstants.{MAX_CONSTANT, MAX_TAPS}
use Rattle.opgen_design.specs.Value.{IsWidth}
use Rattle.opgen_net.specs.declared.net.Net.{Net}
use Rattle.opgen_ports.specs.Ranges.{IsInput, IsWithin}
use Rattle.opgen_graph.specs.Placing.{IsNode, HasOddPart}
use Rattle.opgen_tfir.specs.declared.products.Products.{Products}
use Rattle.opgen_tfir.specs.Recipe.{all_zero}

-- the place of the last tap that is not 0, or the first place where all are 0
pub record IsLast (taps : List ℤ) (last : ℕ) : Type 0 where
  pub within : last < length taps
  pub zeros : all_zero (drop (last + 1) taps) ≡ true
  pub some : (k : ℕ) → k < last → all_zero (drop (k + 1) taps) ≡ false

-- a width that a signal may have, which holds the half unit
pub record HasWidths (p : Products) : Type 0 where
  pub input : IsInput p.input
  pub wide : IsWidth p.width
  pub half : p.half ≤ 2 ^ 47
  pub fits : p.half < 2 ^ p.width

-- and nodes of the net
pub record HasProducts (net : Net) (p : Products) : Type 0 where
  pub widths : HasWidths p
  pub nodes : All (IsNode net) p.parts

-- taps whose odd parts have nodes
pub record AreTaps (p : Products) (taps : List ℤ) : Type 0 where
  pub few : length taps ≤ MAX_TAPS
  pub small : All (IsWithin MAX_CONSTANT) taps
  pub odd : All (HasOddPart p.parts) taps
