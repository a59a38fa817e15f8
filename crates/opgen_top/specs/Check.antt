-- What `check` answers, by the bytes of its specification, of its VHDL and of its vectors, and by its latency.
use Rattle.std.specs.Prelude.{ℕ, ◌≡◌, ◌⊎◌, List, [], length, Ok}
use Rattle.std.specs.Str.Lines.{lines}
use Rattle.opgen_check.specs.declared.checked.Checked.{Checked}
use Rattle.opgen_check.specs.declared.checked.Checked.TheVariants.{Good, Bad}
use Rattle.opgen_check.specs.Ports.{PortsAgree}
use Rattle.opgen_check.specs.Verdict.{IsChecked}
use Rattle.opgen_design.specs.declared.design.Design.{Design}
use Rattle.opgen_design.specs.Run.{input_widths}
use Rattle.opgen_operator.specs.declared.spec.Spec.{Spec}
use Rattle.opgen_document.specs.Document.{tree}
use Rattle.opgen_spec.specs.Faults.{read}
use Rattle.opgen_vec.specs.Reading.{IsReading}
use Rattle.opgen_top.specs.declared.line.Line.TheVariants as line
use Rattle.opgen_top.specs.Answer.{Answer, refusal, success}
use Rattle.opgen_top.specs.Simulate.{GivesDesign, RefusesVhdl, RefusesVectors}
use Rattle.opgen_top.specs.Specified.{OnReading}

-- the VHDL spells a design, and the vectors are rows of its inputs, with these numbers
pub record GivesRows (text vectors : List ℕ) (design : Design) (cells : List ℕ) : Type 0 where
  pub gives : GivesDesign text design
  pub reads : IsReading (input_widths design) (lines vectors) (Ok cells)

-- the ports of the design are not those that the specification asks for
pub record RefusesPorts (spec : Spec) (text vectors : List ℕ) (a : Answer) : Type 0 where
  pub design : Design
  pub cells : List ℕ
  pub rows : GivesRows text vectors design cells
  pub differ : PortsAgree spec design → ⊥
  pub answer : a ≡ refusal line.Ports

-- they are, and this is the verdict on the design's run over the rows
pub record IsVerdictOnVhdl (spec : Spec) (latency : ℕ) (text vectors : List ℕ) (checked : Checked) : Type 0 where
  pub design : Design
  pub cells : List ℕ
  pub rows : GivesRows text vectors design cells
  pub agree : PortsAgree spec design
  pub verdict : IsChecked spec design latency (length (lines vectors)) cells checked

-- the first row that is judged and not good is this one
pub record FindsBad (spec : Spec) (latency : ℕ) (text vectors : List ℕ) (a : Answer) : Type 0 where
  pub row : ℕ
  pub verdict : IsVerdictOnVhdl spec latency text vectors (Bad row)
  pub answer : a ≡ refusal (line.BadRow row)

-- all rows that are judged are good, and they are so many
pub record FindsGood (spec : Spec) (latency : ℕ) (text vectors : List ℕ) (a : Answer) : Type 0 where
  pub judged : ℕ
  pub verdict : IsVerdictOnVhdl spec latency text vectors (Good judged)
  pub answer : a ≡ success (line.Good judged) []

-- the answer to a specification by the bytes of the VHDL and of the vectors
abbrev pub IsAnswerToVhdl : Spec → (latency : ℕ) (text vectors : List ℕ) → Answer → Type 0
IsAnswerToVhdl spec latency text vectors a =
    RefusesVhdl text a
    ⊎ (RefusesVectors text vectors a
    ⊎ (RefusesPorts spec text vectors a ⊎ (FindsBad spec latency text vectors a ⊎ FindsGood spec latency text vectors a)))

-- the answer by the bytes of all three files. Of the targets nothing is asked.
abbrev pub IsAnswerToCheck : (latency : ℕ) (bytes text vectors : List ℕ) → Answer → Type 0
IsAnswerToCheck latency bytes text vectors a = OnReading (read (tree bytes)) a (λ spec. IsAnswerToVhdl spec latency text vectors a)
