-- What the outputs of the net of several constants have.
use Rattle.std.specs.Prelude.{◌≡◌, ℕ, ℤ, ◌*ℤ◌, Some, map, slice_get, All}
use Rattle.opgen_num.specs.Words.{val}
use Rattle.opgen_design.specs.Run.{AreWords}
use Rattle.opgen_net.specs.declared.net.Net.{Net}
use Rattle.opgen_net.specs.Flow.{Inputs, input_at, slice_flow}
use Rattle.opgen_net.specs.Valid.{input_widths}
use Rattle.opgen_kinds.specs.declared.several.Several.{Several}
use Rattle.opgen_kinds.specs.Several.{multiple_ports}
use Rattle.opgen_operator.specs.Outputs.{output_words}

-- At every whole time, before cycle 0 too, each output has the input of that time times its constant.
abbrev pub HasProducts : Several → Net → Type 0
HasProducts m net =
    (k : ℕ) (c : ℤ) → slice_get m.constants k ≡ Some c → (inputs : Inputs) (t : ℤ) → All (AreWords (input_widths net)) inputs
    → output_words (multiple_ports m) (map (λ o. slice_flow net.nodes inputs o.from t) net.outputs) k
    ≡ val (input_at inputs 0 m.input.width t) m.input *ℤ c
