-- The test as nodes: the last has one bit, which is 1 where the number of a node lies outside.
use Rattle.std.proofs.Common.{◌≡◌, ℕ, suc, ◌+◌, ◌-◌, ◌≤◌, ◌<◌, Bool, false, [], ◌∷◌, length, ◌&&◌, refl, ap, ◌∙◌, arith}
use Rattle.std.specs.Prelude.{ℤ, All, slice_index}
use Rattle.opgen_num.specs.declared.format.Format.{Format}
use Rattle.opgen_design.specs.Run.{AreWords}
use Rattle.opgen_net.specs.declared.net.Net.{Net}
use Rattle.opgen_net.specs.Flow.{Inputs, flow}
use Rattle.opgen_net.specs.Valid.{IsValid, input_widths, widths}
use Rattle.opgen_net.proofs.FlowLaws.{length-widths}
use Rattle.opgen_net.proofs.Later.{Later, later-then, words-later}
use Rattle.opgen_saturate.specs.Recipe.{is_wider, first_dropped, followed, with_row, joins, with_test, last_place}
use Rattle.opgen_saturate.specs.Converts.{AreFormats, AreBits}
use Rattle.opgen_saturate.proofs.Bits.{any_at}
use Rattle.opgen_saturate.proofs.Decision.{dropped-within}
use Rattle.opgen_saturate.proofs.Joins.{IsJoined, joins-made}
use Rattle.opgen_saturate.proofs.Outside.{is_outside}
use Rattle.opgen_saturate.proofs.Rows.{IsRow, bit_at, row-made}

module _ (net : Net) (node : ℕ) (format to : Format) (valid : IsValid net) (are : AreFormats net node format to)
    (narrow : is_wider format to ≡ false) where
  abbrev low : ℕ
  low = first_dropped format to

  abbrev count : ℕ
  count = format.width - low

  abbrev both : Bool
  both = format.signed && to.signed

  abbrev n : ℕ
  n = length net.nodes

  abbrev pub row : Net
  row = with_row (followed both count) both node low count net

  within : low < format.width
  within = dropped-within format to are.from_width narrow

  pub dropped-some : 1 ≤ count
  dropped-some = omega (arith, within)

  pub dropped-there : low + count ≤ slice_index (widths net.nodes) node
  dropped-there = omega (arith, within, are.wide)

  is_row : IsRow net both node low count (followed both count) row
  is_row = row-made both node (followed both count) low count net valid dropped-some dropped-there refl

  pub row-there : n < length row.nodes
  row-there = omega (arith, is_row.long)

  pub row-bits : AreBits (widths row.nodes) n
  row-bits k h l = is_row.bits k h (omega (arith, l, length-widths row.nodes))

  abbrev tested : Net
  tested = with_test node format to net

  is_joined : IsJoined row n tested
  is_joined = joins-made (joins (length row.nodes - n)) n row is_row.later.valid row-there row-bits refl

  pub tested-later : Later net tested
  tested-later = later-then net row tested is_row.later is_joined.later

  pub tested-some : 1 ≤ length tested.nodes
  tested-some = is_joined.some

  pub test-wide : slice_index (widths tested.nodes) (last_place tested) ≡ 1
  test-wide = is_joined.wide

  pub test-tells : (inputs : Inputs) (t : ℤ) → All (AreWords (input_widths net)) inputs
      → flow tested.nodes inputs (last_place tested) t ≡ is_outside (flow net.nodes inputs node t) format to ∷ []
  test-tells inputs t words =
      let size : length row.nodes - n ≡ suc (followed both count) = omega (arith, is_row.long) in
      is_joined.tells inputs t (words-later net row is_row.later inputs words)
      ∙ ap (λ k. any_at (bit_at row.nodes inputs t) n k ∷ []) size
      ∙ ap (λ b. b ∷ []) (is_row.tells inputs t words)
