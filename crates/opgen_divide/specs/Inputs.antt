-- When a net has the two inputs, which its signs are read from.
use Rattle.std.specs.Prelude.{◌≡◌, slice_index}
use Rattle.opgen_design.specs.Value.{IsWidth}
use Rattle.opgen_net.specs.declared.net.Net.{Net}
use Rattle.opgen_net.specs.Valid.{widths}
use Rattle.opgen_kinds.specs.declared.pair.Pair.{Pair}

-- nodes 0 and 1 have the widths of the dividend and the divisor
pub record HasInputs (p : Pair) (net : Net) : Type 0 where
  pub some_a : IsWidth p.a.width
  pub some_b : IsWidth p.b.width
  pub a : slice_index (widths net.nodes) 0 ≡ p.a.width
  pub b : slice_index (widths net.nodes) 1 ≡ p.b.width
