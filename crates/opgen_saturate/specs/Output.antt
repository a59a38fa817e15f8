-- A net whose only output is given another format.
use Rattle.std.specs.Prelude.{◌≡◌, ℕ, ℤ, Bool, All, List, [], ◌∷◌, ◌++◌, length, map}
use Rattle.opgen_num.specs.declared.format.Format.{Format}
use Rattle.opgen_num.specs.declared.mode.Overflow.{Overflow}
use Rattle.opgen_num.specs.Formats.{IsWidthOf}
use Rattle.opgen_num.specs.Words.{val}
use Rattle.opgen_design.specs.declared.expr.Slice.{Slice}
use Rattle.opgen_design.specs.Run.{AreWords}
use Rattle.opgen_design.specs.Value.{word_at}
use Rattle.opgen_net.specs.declared.net.Net.{Net}
use Rattle.opgen_net.specs.declared.net.Output.{Output}
use Rattle.opgen_net.specs.Flow.{Inputs, slice_flow}
use Rattle.opgen_net.specs.Placed.{Placed, with_bits, whole}
use Rattle.opgen_net.specs.Valid.{input_widths, slice_width}
use Rattle.opgen_net.specs.WordRule.{bits_from}
use Rattle.opgen_saturate.specs.Converts.{Becomes}
use Rattle.opgen_saturate.specs.Recipe.{with_converted}

-- a net has one output, which is read in one format, and is to have another
pub record AreOutputFormats (net : Net) (format to : Format) : Type 0 where
  pub one : length net.outputs ≡ 1
  pub wide : All (λ o. slice_width o.from ≡ format.width) net.outputs
  pub from_width : IsWidthOf format.signed format.width
  pub to_width : IsWidthOf to.signed to.width

-- a slice in the other format
abbrev pub with_slice : Overflow → Slice → (format to : Format) → Net → Placed
with_slice overflow from format to net =
    let bits = with_bits net (bits_from from.node from.low format.width) in
    with_converted overflow bits.place format to bits.net

abbrev pub converted_output : Overflow → Output → (format to : Format) → Net → Net
converted_output overflow o format to net =
    let made = with_slice overflow o.from format to net in
    record made.net { outputs = made.net.outputs ++ record { name = o.name; from = whole to.width made.place } ∷ [] }

-- the output, if there is one alone
abbrev pub converted_outputs : Overflow → List Output → (format to : Format) → Net → Net
converted_outputs overflow (o ∷ []) format to net = converted_output overflow o format to (record net { outputs = [] })
converted_outputs overflow _ format to net = net

abbrev pub converted_net : Overflow → (format to : Format) → Net → Net
converted_net overflow format to net = converted_outputs overflow net.outputs format to net

-- the word of the first output at a time
abbrev pub first_word : Net → Inputs → ℤ → List Bool
first_word net inputs t = word_at (map (λ o. slice_flow net.nodes inputs o.from t) net.outputs) 0

-- an output by name and width
abbrev pub port_of : Output → List ℕ × ℕ
port_of o = (o.name, slice_width o.from)

abbrev pub port_in : Format → Output → List ℕ × ℕ
port_in to o = (o.name, to.width)

-- The inputs are the same, the output has its name and the width of the other format, and at every time and for all inputs its
-- number is what that of before becomes in it.
pub record ConvertsOutput (overflow : Overflow) (before : Net) (format to : Format) (after : Net) : Type 0 where
  pub inputs : after.inputs ≡ before.inputs
  pub outputs : map port_of after.outputs ≡ map (port_in to) before.outputs
  pub number :
      (inputs : Inputs) (t : ℤ) → All (AreWords (input_widths before)) inputs
      → Becomes overflow to (val (first_word before inputs t) format) (val (first_word after inputs t) to)
