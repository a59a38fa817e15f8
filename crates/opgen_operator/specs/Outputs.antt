-- The ports of a specification, the numbers at them, from words, and when its outputs are good: those of its operator, or one
-- whose width it chooses.
use Rattle.std.specs.Option.{unwrap_or}
use Rattle.std.specs.Prelude.{ℕ, Bool, Option, Some, None, ℤ, List, map, ◌++◌, pos, ◌-ℤ◌}
use Rattle.opgen_num.specs.declared.format.Format.{Format}
use Rattle.opgen_num.specs.declared.format.Ratio.{Ratio}
use Rattle.opgen_num.specs.declared.mode.Mode.{Mode}
use Rattle.opgen_num.specs.declared.mode.Overflow.{Overflow}
use Rattle.opgen_operator.specs.declared.spec.Spec.{Spec}
use Rattle.opgen_operator.specs.Operator.{operator_inputs, operator_outputs, IsInRangeOf, IsGoodOf, exact_value}
use Rattle.opgen_ports.specs.declared.ports.PortFormat.{PortFormat}
use Rattle.opgen_ports.specs.Ports.{format_at, Recent, port}
use Rattle.opgen_ports.specs.Good.{IsGoodChosen}
use Rattle.opgen_ports.specs.Modes.{mode_by}
use Rattle.opgen_design.specs.declared.design.Dir.{Dir}
use Rattle.opgen_design.specs.declared.design.Dir.TheVariants.{In, Out}
use Rattle.opgen_design.specs.declared.design.Port.{Port}
use Rattle.opgen_design.specs.Value.{word_at}
use Rattle.opgen_net.specs.Flow.{Inputs, input_at}
use Rattle.opgen_num.specs.Words.{val}

abbrev pub inputs_of : Spec → List PortFormat
inputs_of spec = operator_inputs spec.op

-- a format of so many bits, with a sign or that of the format before; its last place stays
abbrev pub chosen : (width : ℕ) (sign : Option Bool) → Format → Format
chosen width sign f = record { signed = unwrap_or sign f.signed; width = width; lsb = f.lsb }

abbrev pub chosen_ports : (width : Option ℕ) (sign : Option Bool) → List PortFormat → List PortFormat
chosen_ports None sign ports = ports
chosen_ports (Some width) sign ports = map (λ p. port p.name (chosen width sign p.format)) ports

abbrev pub outputs_of : Spec → List PortFormat
outputs_of spec = chosen_ports spec.out_width spec.out_signed (operator_outputs spec.op)

-- y, of a chosen format, is good for a value that an output of the operator's own format has
abbrev pub IsGoodCut : Overflow → (mode : Mode) → (own to : Format) → Option Ratio → (y : ℤ) → Type 0
IsGoodCut overflow mode own to (Some value) y = IsGoodChosen overflow mode own to value.num value.den y
IsGoodCut overflow mode own to None y = ⊥

-- the mode of the outputs
abbrev pub mode_of : Spec → Mode
mode_of spec = mode_by spec.rounding spec.exact

-- the outputs are good as those of the operator, or as one whose width is chosen
abbrev pub IsGoodBy : (width : Option ℕ) → Spec → (inputs : (port : ℕ) → Recent) (outputs : (port : ℕ) → ℤ) → Type 0
IsGoodBy None spec inputs outputs = IsGoodOf (mode_of spec) spec.op inputs outputs
IsGoodBy (Some width) spec inputs outputs =
    IsGoodCut spec.overflow (mode_of spec) (format_at (operator_outputs spec.op) 0) (format_at (outputs_of spec) 0)
    (exact_value spec.op inputs) (outputs 0)

abbrev pub IsGood : Spec → (inputs : (port : ℕ) → Recent) (outputs : (port : ℕ) → ℤ) → Type 0
IsGood spec inputs outputs = IsGoodBy spec.out_width spec inputs outputs

abbrev pub IsInRange : Spec → (inputs : (port : ℕ) → Recent) → Type 0
IsInRange spec inputs = IsInRangeOf spec.op inputs

-- a port of an operator as one of a design
abbrev pub port_of : Dir → PortFormat → Port
port_of dir p = record { name = p.name; dir = dir; width = p.format.width }

-- the inputs, and then the outputs
abbrev pub operator_ports : Spec → List Port
operator_ports spec = map (port_of In) (inputs_of spec) ++ map (port_of Out) (outputs_of spec)

-- A net or a design: its inputs, from cycle 0 on, up to a cycle t. An input before cycle 0 is zero.
abbrev pub recent_words : List PortFormat → Inputs → (t : ℕ) → (port : ℕ) → Recent
recent_words ports inputs t port ago =
    let format = format_at ports port in
    val (input_at inputs port format.width (pos t -ℤ pos ago)) format

-- and its outputs in one cycle
abbrev pub output_words : List PortFormat → List (List Bool) → (port : ℕ) → ℤ
output_words ports words port = val (word_at words port) (format_at ports port)
