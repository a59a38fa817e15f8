-- A node of given bits, and an output that has them.
use Rattle.std.proofs.Common.{◌≡◌, ℕ, ◌+◌, ◌-◌, ◌≤◌, List, length, take, ap, ◌∙◌, arith}
use Rattle.std.specs.Prelude.{ℤ, All, slice_index}
use Rattle.std.proofs.Math.Seq.{take-length}
use Rattle.opgen_num.specs.Words.{nat}
use Rattle.opgen_design.specs.Run.{AreWords}
use Rattle.opgen_design.specs.Value.{IsWidth}
use Rattle.opgen_net.specs.declared.net.Net.{Net}
use Rattle.opgen_net.specs.declared.word_bits.WordBit.{WordBit}
use Rattle.opgen_net.specs.Delays.{delay_count}
use Rattle.opgen_net.specs.Flow.{Inputs, flow, slice_flow, KeepsFlow}
use Rattle.opgen_net.specs.Valid.{widths, input_widths, IsValid, LiesWithin}
use Rattle.opgen_net.specs.WordRule.{IsThere}
use Rattle.opgen_net.proofs.Appending.{valid-output}
use Rattle.opgen_net.proofs.FlowWidths.{flow-width}
use Rattle.opgen_net.proofs.Grown.{grown-flow, grown-count, grown-all_there}
use Rattle.opgen_net.proofs.WordLaws.{word-has_bits, word-found_width}
use Rattle.opgen_net.specs.Placed.{number_at, with_bits, whole, with_output}
use Rattle.opgen_net.proofs.Later.{Later, bits-later}

module _ (net : Net) (valid : IsValid net) (given : List WordBit) (wide : IsWidth (length given))
    (there : All (IsThere (widths net.nodes)) given) where
  abbrev made : Net
  made = (with_bits net given).net

  abbrev place : ℕ
  place = (with_bits net given).place

  pub made-later : Later net made
  made-later = bits-later net valid given wide there

  pub made-width : slice_index (widths made.nodes) place ≡ length given
  made-width = word-found_width net valid given there

  pub made-number : (inputs : Inputs) (t : ℤ) → All (AreWords (input_widths net)) inputs
      → nat (flow made.nodes inputs place t) ≡ number_at net.nodes inputs t given
  made-number inputs t words = ap nat (word-has_bits net valid given there inputs t words)

  pub made-lies : LiesWithin (widths made.nodes) (whole (length given) place)
  made-lies = (omega arith, omega (arith, made-width, wide.0))

  pub output-valid : (name : List ℕ) → IsValid (with_output name net given)
  output-valid name = valid-output made (record { name = name; from = whole (length given) place }) made-later.valid made-lies

  pub output-keeps : (name : List ℕ) → KeepsFlow net.nodes (with_output name net given).nodes
  output-keeps name = grown-flow net made made-later.grown

  pub output-delays : (name : List ℕ) → delay_count (with_output name net given).nodes ≡ delay_count net.nodes
  output-delays name = made-later.grown.delays

  pub output-count : (name : List ℕ) → length net.nodes ≤ length (with_output name net given).nodes
  output-count name = grown-count net made made-later.grown

  pub output-there : (name : List ℕ) (bits : List WordBit) → All (IsThere (widths net.nodes)) bits
      → All (IsThere (widths (with_output name net given).nodes)) bits
  output-there name bits h = grown-all_there net made made-later.grown bits h

  -- the output has the number of the bits
  pub output-number : (name : List ℕ) (inputs : Inputs) (t : ℤ) → All (AreWords (input_widths net)) inputs
      → nat (slice_flow (with_output name net given).nodes inputs (whole (length given) place) t) ≡ number_at net.nodes inputs t given
  output-number name inputs t words =
      let w = flow made.nodes inputs place t in
      let all : length w ≡ length given = flow-width made made-later.valid inputs words place t ∙ made-width in
      let e : length given - 1 + 1 - 0 ≡ length w = omega (arith, all, wide.0) in
      ap nat (ap (λ n. take n w) e ∙ take-length w) ∙ made-number inputs t words
