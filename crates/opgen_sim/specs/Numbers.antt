-- Numbers that are put at the ports of a design.
use Rattle.std.specs.Prelude.{ℕ, Bool, List, slice_set, if◌then◌else◌}
use Rattle.opgen_num.specs.Words.{word}
use Rattle.opgen_design.specs.declared.design.Port.{Port}
use Rattle.opgen_design.specs.Run.{is_in}

-- the words of the ports after a number was put at the port of a place, if it is an input port
abbrev pub with_input : Port → (place number : ℕ) → List (List Bool) → List (List Bool)
with_input port place number words = if is_in port.dir then slice_set words place (word port.width number) else words
