-- The ports of a third of four bits.
use Rattle.std.specs.Prelude.{List, [], ◌∷◌, codes}
use Rattle.opgen_design.specs.declared.design.Dir.TheVariants.{In, Out}
use Rattle.opgen_design.specs.declared.design.Port.{Port}

-- an input of four bits and an output of three
abbrev pub third_ports : List Port
third_ports = (record { name = codes "x"; dir = In; width = 4 }) ∷ (record { name = codes "y"; dir = Out; width = 3 }) ∷ []
