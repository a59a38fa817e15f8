-- The widths of the ports of a design, and what streams ask of it.
use Rattle.std.specs.Prelude.{ℕ, ◌≡◌, ◌<◌, Bool, length}
use Rattle.opgen_design.specs.declared.design.Design.{Design}
use Rattle.opgen_design.specs.declared.design.Dir.{Dir}
use Rattle.opgen_design.specs.declared.design.Dir.TheVariants.{In, Out}
use Rattle.opgen_design.specs.Run.{is_in, is_out, input_widths, output_widths}
use Rattle.opgen_design.specs.Depth.{HasDepth}
use Rattle.opgen_sim.specs.declared.widths.Widths.{Widths}

-- whether a port has a direction
abbrev pub is_of : Dir → Dir → Bool
is_of In = is_in
is_of Out = is_out

-- the widths of the ports of a design
pub record AreWidths (d : Design) (w : Widths) : Type 0 where
  pub inputs : w.inputs.items ≡ input_widths d
  pub outputs : w.outputs.items ≡ output_widths d

-- what streams ask of a design, its depth and the number of rows: some ports on both sides, and more rows than its depth
pub record IsForStreams (d : Design) (rows depth : ℕ) : Type 0 where
  pub has : HasDepth d depth
  pub fewer : depth < rows
  pub inputs : 0 < length (input_widths d)
  pub outputs : 0 < length (output_widths d)
