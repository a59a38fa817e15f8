-- In which part of an architecture the statement of each driver is written.
use Rattle.std.specs.Prelude.{Bool}
use Rattle.opgen_design.specs.declared.design.Driver.{Driver}
use Rattle.opgen_design.specs.Order.{is_register}
use Rattle.opgen_vhdl.specs.DesignText.{is_output, is_neither}
use Rattle.opgen_write.specs.declared.architecture.Place.{Place}
use Rattle.opgen_write.specs.declared.architecture.Place.TheVariants.{Statements, Process, Outputs}

abbrev pub stands_in : Place → Driver → Bool
stands_in Statements = is_neither
stands_in Process = is_register
stands_in Outputs = is_output
