-- What status 0 of `generate` promises of what is stored and printed, with the clock enable and without it. It mentions no
-- net, plan or schedule, and of recipes only that the width of a polynomial's output is by Horner's rule.
use Rattle.std.specs.Prelude.{ℕ, ◌≡◌, Bool, List, ◌++◌, Option, Some, codes}
use Rattle.toml.specs.Data.{Members}
use Rattle.opgen_design.specs.declared.design.Design.{Design}
use Rattle.opgen_design.specs.Sound.{IsSound}
use Rattle.opgen_io.specs.Files.{Files, stored}
use Rattle.opgen_operator.specs.declared.spec.Spec.{Spec}
use Rattle.opgen_operator.specs.Valid.{IsValidSpec}
use Rattle.opgen_document.specs.Document.{tree}
use Rattle.opgen_spec.specs.Written.{IsAsWritten}
use Rattle.opgen_vhdl.specs.Spelled.{Spells}
use Rattle.opgen_operator.specs.Serves.{Recovers, Serves}
use Rattle.opgen_top.specs.Lines.{vhdl_name, report_name, wrote_line, latency_line, HasLine}

pub record Promise (file : List ℕ) (enable : Bool) (files : Files) (files_after : Option Files)
    (printed_before printed_after : Option (List ℕ)) : Type 0 where
  -- First: the file holds a document of TOML. The specification has in each field what the document writes there, and is valid.
  pub bytes : List ℕ
  pub stands : files file ≡ Some bytes
  pub document : Members
  pub parsed : tree bytes ≡ Some document
  pub spec : Spec
  pub written : IsAsWritten document spec
  pub valid : IsValidSpec spec
  -- Second: the folder has two files more, or anew, named after the specification: VHDL and a report.
  pub vhdl : List ℕ
  pub report : List ℕ
  pub stores : files_after ≡ Some (stored (report_name spec.name) report (stored (vhdl_name spec.name) vhdl files))
  -- Third: the VHDL spells a design of the specification's name, and no other, and the design is sound.
  pub design : Design
  pub called : design.name ≡ spec.name
  pub spelled : Spells vhdl design
  pub no_other : (other : Design) → Spells vhdl other → other ≡ design
  pub sound : IsSound design
  -- Fourth: a latency stands in the report, and in the line where the sink tells what it takes.
  pub latency : ℕ
  pub reported : HasLine report (latency_line latency)
  pub line : (held : List ℕ) → printed_before ≡ Some held
      → printed_after ≡ Some (held ++ (wrote_line spec.name latency ++ codes "\n"))
  -- Fifth: in every run the outputs are good, so many cycles after inputs in range. Cycles are those that count: with the
  -- clock enable, the ones in which it is 1.
  pub serves : Serves spec latency enable design
  -- Sixth: whatever words the registers hold at the start of a run, the outputs are good from so many cycles on as the latency has and
  -- the operator remembers.
  pub recovers : Recovers spec latency enable design
