-- The lines that the program prints: what each says, and the status that comes with it. Beside them the names of the files that
-- are stored, and the line of a report that says the latency.
use Rattle.std.specs.Prelude.{ℕ, ◌≡◌, List, ◌++◌, codes}
use Rattle.std.specs.Fmt.{decimal}
use Rattle.opgen_read.specs.Answer.{fault_text as vhdl_fault_text}
use Rattle.opgen_spec.specs.Texts.{fault_text}
use Rattle.opgen_vec.specs.Fault.{fault_text as vectors_fault_text}
use Rattle.opgen_top.specs.declared.line.Line.{Line}
use Rattle.opgen_top.specs.declared.line.Line.TheVariants as lines

-- the files of an operator of this name: its VHDL, its report and its vectors
abbrev pub vhdl_name : (name : List ℕ) → List ℕ
vhdl_name name = name ++ codes ".vhd"

abbrev pub report_name : (name : List ℕ) → List ℕ
report_name name = name ++ codes ".rpt"

abbrev pub vectors_name : (name : List ℕ) → List ℕ
vectors_name name = name ++ codes ".vec"

-- the line of `generate`
abbrev pub wrote_line : (name : List ℕ) (latency : ℕ) → List ℕ
wrote_line name latency = codes "wrote " ++ name ++ codes ".vhd and " ++ name ++ codes ".rpt, latency " ++ decimal latency

-- the line of `workload`
abbrev pub worked_line : (n signals latency good : ℕ) → List ℕ
worked_line n signals latency good =
    codes "workload " ++ decimal n ++ codes " signals " ++ decimal signals ++ codes " latency " ++ decimal latency ++ codes " good "
    ++ decimal good

-- what each line says
abbrev pub line_text : Line → List ℕ
line_text (lines.Wrote name latency) = wrote_line name latency
line_text (lines.WroteVectors name cycles) = codes "wrote " ++ name ++ codes ".vec, " ++ decimal cycles ++ codes " cycles"
line_text (lines.Simulated rows) = codes "simulated " ++ decimal rows ++ codes " cycles"
line_text (lines.Worked n signals latency good) = worked_line n signals latency good
line_text (lines.Good rows) = codes "good " ++ decimal rows
line_text (lines.Refused fault) = codes "specification: " ++ fault_text fault
line_text lines.UnknownTarget = codes "specification: UnknownTarget"
line_text lines.NotAdjustable = codes "specification: NotAdjustable"
line_text (lines.PeriodTooShort need) = codes "specification: PeriodTooShort " ++ decimal need
line_text lines.TooLarge = codes "specification: TooLarge"
line_text lines.Usage = codes "usage: opgen COMMAND (generate, vectors, simulate, workload, check)"
line_text lines.ReadFault = codes "read fault"
line_text (lines.VhdlRefused fault) = codes "vhdl: " ++ vhdl_fault_text fault
line_text lines.Ports = codes "vhdl: Ports"
line_text (lines.VectorsRefused fault) = codes "vectors: " ++ vectors_fault_text fault
line_text (lines.BadRow row) = codes "row " ++ decimal row ++ codes " not good"
line_text lines.TooLong = codes "too long"

-- the bytes that are printed
abbrev pub line_bytes : Line → List ℕ
line_bytes said = line_text said ++ codes "\n"

-- the status that comes with each line
abbrev pub line_status : Line → ℕ
line_status (lines.Wrote name latency) = 0
line_status (lines.WroteVectors name cycles) = 0
line_status (lines.Simulated rows) = 0
line_status (lines.Worked n signals latency good) = 0
line_status (lines.Good rows) = 0
line_status (lines.Refused fault) = 1
line_status lines.UnknownTarget = 1
line_status lines.NotAdjustable = 1
line_status (lines.PeriodTooShort need) = 1
line_status lines.TooLarge = 1
line_status lines.Usage = 2
line_status lines.ReadFault = 3
line_status (lines.VhdlRefused fault) = 6
line_status lines.Ports = 6
line_status (lines.VectorsRefused fault) = 7
line_status (lines.BadRow row) = 8
line_status lines.TooLong = 9

-- the line of a report that says the latency in cycles
abbrev pub latency_line : (latency : ℕ) → List ℕ
latency_line latency = codes "latency " ++ decimal latency

-- a text has a line: it stands between two line feeds
pub record HasLine (text line : List ℕ) : Type 0 where
  pub before : List ℕ
  pub after : List ℕ
  pub is : text ≡ before ++ codes "\n" ++ line ++ codes "\n" ++ after
