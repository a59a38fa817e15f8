-- How a fault of a file of vectors prints: its name, and the number of the line.
use Rattle.std.specs.Prelude.{ℕ, List, ◌++◌, codes}
use Rattle.std.specs.Fmt.{decimal}
use Rattle.opgen_vec.specs.declared.fault.VecFault.{VecFault}
use Rattle.opgen_vec.specs.declared.fault.VecFault.TheVariants as faults

abbrev pub fault_text : VecFault → List ℕ
fault_text (faults.BadLine line) = codes "BadLine " ++ decimal line
fault_text faults.TooMany = codes "TooMany"
fault_text faults.Memory = codes "out of memory"
