-- The text of a report: the operator, its ports, its timing and its cells, one line for each fact.
use Rattle.std.specs.Prelude.{ℕ, Bool, true, false, List, [], ◌++◌, codes, length, slice_index, if◌then◌else◌}
use Rattle.std.specs.Fmt.{decimal, signed_decimal}
use Rattle.std.specs.List.{flat_map}
use Rattle.opgen_num.specs.declared.format.Format.{Format}
use Rattle.opgen_operator.specs.declared.operator.Operator.{Operator}
use Rattle.opgen_ports.specs.declared.ports.PortFormat.{PortFormat}
use Rattle.opgen_operator.specs.declared.spec.Spec.{Spec}
use Rattle.opgen_operator.specs.Operator.{has_graph, kind, kind_name}
use Rattle.opgen_operator.specs.Outputs.{inputs_of, outputs_of}
use Rattle.opgen_pipe.specs.declared.planning.Planned.{Planned}

abbrev pub mode_word : (exact : Bool) → List ℕ
mode_word true = codes "exact"
mode_word false = codes "faithful"

abbrev pub sign_word : (signed : Bool) → List ℕ
sign_word true = codes "signed"
sign_word false = codes "unsigned"

-- what was asked for
unfoldable pub request_text : Spec → List ℕ
request_text spec =
    codes "operator " ++ spec.name ++ codes "\n"
    ++ codes "kind " ++ kind_name (kind spec.op) ++ codes "\n"
    ++ codes "mode " ++ mode_word spec.exact ++ codes "\n"
    ++ codes "target " ++ spec.target ++ codes "\n"
    ++ codes "period " ++ decimal spec.period ++ codes "\n"

-- the latency in cycles, and the slack in picoseconds
unfoldable pub time_text : (latency slack : ℕ) → List ℕ
time_text latency slack = codes "latency " ++ decimal latency ++ codes "\nslack " ++ decimal slack ++ codes "\n"

-- a format: whether it is signed, its width, and the exponent of its last place
unfoldable pub format_text : Format → List ℕ
format_text format = sign_word format.signed ++ codes " " ++ decimal format.width ++ codes " " ++ signed_decimal format.lsb

-- a port after the word for its side
unfoldable pub port_line : (side : List ℕ) → PortFormat → List ℕ
port_line side port = side ++ codes " " ++ port.name ++ codes " " ++ format_text port.format ++ codes "\n"

-- how many bits of cells of each class there are, in the order of the classes
unfoldable pub cells_line : (cells : List ℕ) → List ℕ
cells_line cells =
    codes "cells wire " ++ decimal (slice_index cells 0) ++ codes " logic " ++ decimal (slice_index cells 1)
    ++ codes " add " ++ decimal (slice_index cells 2) ++ codes " choice " ++ decimal (slice_index cells 3)
    ++ codes " table " ++ decimal (slice_index cells 4) ++ codes " register " ++ decimal (slice_index cells 5) ++ codes "\n"

-- a number after a space
abbrev pub member_text : ℕ → List ℕ
member_text number = codes " " ++ decimal number

abbrev pub members_line : (set : List ℕ) → List ℕ
members_line set = codes "graph" ++ flat_map member_text set ++ codes "\n"

-- the members of the adder graph, of the operators that are made of one
abbrev pub graph_line : Operator → (set : List ℕ) → List ℕ
graph_line op set = if has_graph op then members_line set else []

unfoldable pub report : Spec → Planned → (set : List ℕ) → List ℕ
report spec planned set =
    request_text spec
    ++ time_text planned.latency planned.slack
    ++ flat_map (port_line (codes "input")) (inputs_of spec)
    ++ flat_map (port_line (codes "output")) (outputs_of spec)
    ++ cells_line planned.cells
    ++ codes "signals " ++ decimal (length planned.design.signals) ++ codes "\n"
    ++ graph_line spec.op set
