-- What `generate` and `vectors` answer, by the bytes of their specification and by the targets.
use Rattle.std.specs.Prelude.{ℕ, ◌≡◌, ◌⊎◌, ◌≤◌, ◌<◌, Bool, true, false, List, [], ◌∷◌, Option, Some, None, Result, Ok, Err}
use Rattle.opgen_design.specs.declared.design.TheConstants.{MAX_SIGNALS}
use Rattle.opgen_net.specs.declared.net.Net.{Net}
use Rattle.opgen_operator.specs.declared.spec.Spec.{Spec}
use Rattle.opgen_pipe.specs.declared.planning.Planned.{Planned}
use Rattle.opgen_pipe.specs.Cells.{need}
use Rattle.opgen_report.specs.Report.{report}
use Rattle.opgen_spec.specs.declared.fault.SpecFault.{SpecFault}
use Rattle.opgen_document.specs.Document.{tree}
use Rattle.opgen_spec.specs.Faults.{read}
use Rattle.opgen_target.specs.Delays.{Delays}
use Rattle.opgen_vhdl.specs.DesignText.{text_of}
use Rattle.opgen_vec.specs.Stimulus.{stimulus_cells}
use Rattle.opgen_top.specs.declared.line.Line.TheVariants as line
use Rattle.opgen_top.specs.Answer.{Answer, file, refusal, success}
use Rattle.opgen_top.specs.Circuit.{IsCircuit, IsNetFor, need_of, signals_of}
use Rattle.opgen_top.specs.Lines.{report_name, vectors_name, vhdl_name}
use Rattle.opgen_top.specs.Running.{IsRunText}
use Rattle.opgen_top.specs.Targets.{Device, first_of_name, takes_lines, tuned}

-- the answer of `generate`: the text of the design and then the report are stored, and the line tells the latency
abbrev pub wrote : Spec → Planned → (adders : List ℕ) → Answer
wrote spec planned adders =
    success (line.Wrote spec.name planned.latency)
    (file (vhdl_name spec.name) (text_of planned.design) ∷ file (report_name spec.name) (report spec planned adders) ∷ [])

-- `generate` stores the text of the circuit, which has the clock enable where that is asked for, and its report, and tells
-- its latency
pub record IsGenerated (enable : Bool) (spec : Spec) (table : Delays) (a : Answer) : Type 0 where
  pub planned : Planned
  pub adders : List ℕ
  pub circuit : IsCircuit spec table enable planned adders
  pub answer : a ≡ wrote spec planned adders

-- `vectors` stores the rows of the stimulus and of the outputs, in the run of the circuit without a clock enable
pub record IsVectors (seed cycles : ℕ) (spec : Spec) (table : Delays) (a : Answer) : Type 0 where
  pub planned : Planned
  pub adders : List ℕ
  pub circuit : IsCircuit spec table false planned adders
  pub rows : List ℕ
  pub run : IsRunText planned.design cycles (stimulus_cells spec seed cycles) rows
  pub answer : a ≡ success (line.WroteVectors spec.name cycles) (file (vectors_name spec.name) rows ∷ [])

-- the period is too short for the net; the answer tells the need of that of the specification
pub record IsTooShort (spec : Spec) (table : Delays) (a : Answer) : Type 0 where
  pub net : Net
  pub of_spec : IsNetFor spec table net
  pub short : spec.period < need table net
  pub answer : a ≡ refusal (line.PeriodTooShort (need_of spec table of_spec.own))

-- the period is long enough, and the design too large
pub record IsTooLarge (spec : Spec) (table : Delays) (a : Answer) : Type 0 where
  pub net : Net
  pub of_spec : IsNetFor spec table net
  pub long_enough : need table net ≤ spec.period
  pub many_signals : MAX_SIGNALS < signals_of spec table net
  pub answer : a ≡ refusal line.TooLarge

-- by the table of the target: one of these two refusals, or what is said
abbrev pub OnTable : Spec → Delays → Answer → (said : Type 0) → Type 0
OnTable spec table a said = IsTooShort spec table a ⊎ (IsTooLarge spec table a ⊎ said)

-- by whether the target takes the delay lines: what is said, or the refusal
abbrev pub OnLines : Bool → Answer → (said : Type 0) → Type 0
OnLines true a said = said
OnLines false a said = a ≡ refusal line.NotAdjustable

-- by the target that was found: what is said of its table after the delay lines, or the refusal
abbrev pub OnTarget : Option Device → Spec → Answer → (said : Delays → Type 0) → Type 0
OnTarget (Some device) spec a said = OnLines (takes_lines device.adjustable spec.delays) a (said (tuned device.delays spec.delays))
OnTarget None spec a said = a ≡ refusal line.UnknownTarget

-- the same by the first target of the name that the specification asks for
abbrev pub OnDevices : List Device → Spec → Answer → (said : Delays → Type 0) → Type 0
OnDevices devices spec a said = OnTarget (first_of_name spec.target devices) spec a said

-- by what reading a document gives: what is said of the specification, or the refusal of the first fault
abbrev pub OnReading : Result Spec SpecFault → Answer → (said : Spec → Type 0) → Type 0
OnReading (Ok spec) a said = said spec
OnReading (Err fault) a said = a ≡ refusal (line.Refused fault)

-- by the bytes and the targets, what is said of the specification and its target's table
abbrev pub OnSpec : (bytes : List ℕ) → List Device → Answer → (said : Spec → Delays → Type 0) → Type 0
OnSpec bytes devices a said =
    OnReading (read (tree bytes)) a (λ spec. OnDevices devices spec a (said spec))

-- the answer to a specification: a refusal, or what is said of it and of its target's table
abbrev pub IsAnswerToSpec : (bytes : List ℕ) → List Device → (said : Spec → Delays → Answer → Type 0) → Answer → Type 0
IsAnswerToSpec bytes devices said a = OnSpec bytes devices a (λ spec table. OnTable spec table a (said spec table a))
