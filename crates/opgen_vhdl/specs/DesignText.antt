-- The text of a design in the VHDL subset, as bytes: an entity and its architecture `rtl` (IEEE 1076-1993, 1.1 and 1.2).
-- Two spaces of indent a level, and a line feed after each line. Most parts are unfoldable: a proof opens the ones that it needs.
use Rattle.std.specs.Prelude.{ℕ, ◌-◌, Bool, true, false, ◌&&◌, not, if◌then◌else◌, List, [], ◌++◌, filter, codes, Option, Some, None}
use Rattle.std.specs.List.{flat_map, list_any}
use Rattle.opgen_design.specs.declared.design.Design.{Design}
use Rattle.opgen_design.specs.declared.design.Dir.{Dir}
use Rattle.opgen_design.specs.declared.design.Dir.TheVariants.{In, Out}
use Rattle.opgen_design.specs.declared.design.Port.{Port}
use Rattle.opgen_design.specs.declared.design.Signal.{Signal}
use Rattle.opgen_design.specs.declared.design.Driver.{Driver}
use Rattle.opgen_design.specs.declared.design.Driver.TheVariants.{Assign, Choice, Table, Register, Output}
use Rattle.opgen_design.specs.Order.{is_register}
use Rattle.opgen_vhdl.specs.ExpressionText.{signal_name, port_name, word_text, range_text, expression_text}

abbrev pub direction_text : Dir → List ℕ
direction_text In = codes "in"
direction_text Out = codes "out"

-- a port, with the `;` that ends the port before it: the last port has none
unfoldable pub port_text : Port → List ℕ
port_text p = codes ";\n    " ++ p.name ++ codes " : " ++ direction_text p.dir ++ codes " std_logic_vector" ++ range_text (p.width - 1) 0

-- the clock is the first port
unfoldable pub entity_text : Design → List ℕ
entity_text d =
    codes "library ieee;\nuse ieee.std_logic_1164.all;\nuse ieee.numeric_std.all;\n\n"
    ++ codes "entity " ++ d.name ++ codes " is\n  port (\n    clk : in std_logic" ++ flat_map port_text d.ports ++ codes "\n  );\nend entity;\n\n"

abbrev pub initial_text : Option (List Bool) → List ℕ
initial_text None = []
initial_text (Some w) = codes " := " ++ word_text w

unfoldable pub signal_text : Signal → List ℕ
signal_text s = codes "  signal " ++ s.name ++ codes " : unsigned" ++ range_text (s.width - 1) 0 ++ initial_text s.initial ++ codes ";\n"

-- a row of a table, the address after the word
unfoldable pub row_text : List Bool × List Bool → List ℕ
row_text r = codes "    " ++ word_text r.1 ++ codes " when " ++ word_text r.0 ++ codes ",\n"

-- the row of every other address
unfoldable pub other_text : List Bool → List ℕ
other_text w = codes "    " ++ word_text w ++ codes " when others;\n"

-- the `if` round the registers of a design with an enable, and its end; the registers stand a level deeper there
abbrev pub enable_text : Design → Option ℕ → List ℕ
enable_text d None = []
enable_text d (Some p) = codes "      if " ++ port_name d p ++ codes " = \"1\" then\n"

abbrev pub end_enable_text : Option ℕ → List ℕ
end_enable_text None = []
end_enable_text (Some p) = codes "      end if;\n"

abbrev pub further_indent : Option ℕ → List ℕ
further_indent None = []
further_indent (Some p) = codes "  "

-- the statement of a driver: an assignment (9.5), a conditional one (9.5.1) or a selected one (9.5.2); that of a register stands in the process (9.2)
unfoldable pub driver_text : Design → Driver → List ℕ
driver_text d (Assign to e) = codes "  " ++ signal_name d to ++ codes " <= " ++ expression_text d e ++ codes ";\n"
driver_text d (Choice to on one other) =
    codes "  " ++ signal_name d to ++ codes " <= " ++ expression_text d one
    ++ codes " when " ++ expression_text d on ++ codes " = \"1\" else " ++ expression_text d other ++ codes ";\n"
driver_text d (Table to on rows other) =
    codes "  with " ++ expression_text d on ++ codes " select " ++ signal_name d to ++ codes " <=\n"
    ++ flat_map row_text rows ++ other_text other
driver_text d (Register to e) = further_indent d.enable ++ codes "      " ++ signal_name d to ++ codes " <= " ++ expression_text d e ++ codes ";\n"
driver_text d (Output place e) = codes "  " ++ port_name d place ++ codes " <= std_logic_vector(" ++ expression_text d e ++ codes ");\n"

abbrev pub is_output : Driver → Bool
is_output (Output place e) = true
is_output _ = false

abbrev pub is_neither : Driver → Bool
is_neither k = not (is_register k) && not (is_output k)

unfoldable pub drivers_text : Design → (Driver → Bool) → List ℕ
drivers_text d which = flat_map (driver_text d) (filter which d.drivers)

-- the process of the registers, where there is one
unfoldable pub process_text : Design → List ℕ
process_text d =
    if list_any is_register d.drivers
    then codes "  process (clk)\n  begin\n    if rising_edge(clk) then\n" ++ enable_text d d.enable ++ drivers_text d is_register
    ++ end_enable_text d.enable ++ codes "    end if;\n  end process;\n"
    else []

-- first the drivers of signals outside the process, then the process, then the outputs
unfoldable pub architecture_text : Design → List ℕ
architecture_text d =
    codes "architecture rtl of " ++ d.name ++ codes " is\n" ++ flat_map signal_text d.signals ++ codes "begin\n"
    ++ drivers_text d is_neither ++ process_text d ++ drivers_text d is_output ++ codes "end architecture;\n"

-- the whole text: two use lines and the entity, then the architecture
abbrev pub text_of : Design → List ℕ
text_of d = entity_text d ++ architecture_text d
