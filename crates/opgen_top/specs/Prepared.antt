-- For the functions of this crate alone: an answer before its stores, or why there is none yet.
use Rattle.std.specs.Prelude.{ℕ, ◌≡◌, ◌⊎◌, ◌≤◌, ◌<◌, Bool, List, [], ◌∷◌, length, map, Option, Some, None, Result, Ok, Err, Vec, string_bytes}
use Rattle.std.specs.declared.alloc.Global.{Global}
use Rattle.std.specs.Str.Lines.{lines}
use Rattle.opgen_num.specs.Words.{AreRowsOfCells}
use Rattle.opgen_check.specs.declared.checked.Checked.{Checked}
use Rattle.opgen_check.specs.declared.checked.Checked.TheVariants.{Good, Bad}
use Rattle.opgen_check.specs.Ports.{PortsAgree}
use Rattle.opgen_check.specs.Verdict.{IsChecked}
use Rattle.opgen_io.specs.Fetched.{fetched}
use Rattle.opgen_io.specs.Counts.{Rose, Stood}
use Rattle.opgen_io.specs.Files.{Files}
use Rattle.opgen_io.specs.declared.folder.FetchFault.TheVariants as fetch
use Rattle.opgen_command.specs.declared.command.Command.{Command}
use Rattle.opgen_design.specs.declared.design.Design.{Design}
use Rattle.opgen_net.specs.declared.net.Net.{Net}
use Rattle.opgen_operator.specs.declared.spec.Spec.{Spec}
use Rattle.opgen_pipe.specs.declared.planning.Planned.{Planned}
use Rattle.opgen_pipe.specs.declared.planning.PlanFault.{PlanFault}
use Rattle.opgen_pipe.specs.declared.planning.PlanFault.TheVariants as plan
use Rattle.opgen_pipe.specs.Cells.{need}
use Rattle.opgen_pipe.specs.Planned.{IsOutcome}
use Rattle.opgen_target.specs.Delays.{Delays}
use Rattle.opgen_vec.specs.Reading.{IsReading}
use Rattle.opgen_vec.specs.Stimulus.{stimulus_cells}
use Rattle.opgen_top.specs.declared.answer.Answer.{Answer as Held}
use Rattle.opgen_top.specs.declared.answer.NewFile.{NewFile}
use Rattle.opgen_top.specs.declared.answer.Refusal.{Refusal}
use Rattle.opgen_top.specs.declared.answer.Refusal.TheVariants as refusals
use Rattle.opgen_top.specs.declared.line.Line.{Line}
use Rattle.opgen_top.specs.declared.line.Line.TheVariants as line
use Rattle.opgen_top.specs.declared.rows.Rows.{Rows}
use Rattle.opgen_top.specs.declared.circuit.Circuit.{Circuit}
use Rattle.opgen_top.specs.Answer.{Answer, file, refusal, status_of, success}
use Rattle.opgen_top.specs.Circuit.{IsCircuit, made_net, need_of, placing_of}
use Rattle.opgen_top.specs.Due.{IsAnswerOf}
use Rattle.opgen_top.specs.Lines.{vectors_name}
use Rattle.opgen_top.specs.Printed.{IsAllowedLine}
use Rattle.opgen_top.specs.Running.{IsRunText}
use Rattle.opgen_top.specs.Statuses.{Refuses}
use Rattle.opgen_top.specs.Stores.{Store}
use Rattle.opgen_top.specs.Targets.{Device, IsTableOf}
use Rattle.opgen_top.specs.Workload.{RunsGood}

-- an answer as the program holds it
abbrev pub store_of : NewFile → Store
store_of file = record { name = string_bytes file.name; bytes = file.bytes.items }

abbrev pub answer_of : Held → Answer
answer_of a = record { line = a.line; stores = map store_of a.stores.items }

-- what is said of the answer of a refusal, unless memory ran out
abbrev pub OnRefusal : Refusal → (Answer → Type 0) → Type 0
OnRefusal (refusals.Line line) said = said (refusal line)
OnRefusal refusals.Memory said = Unit {0}

-- the same of an answer or a refusal
abbrev pub OnAnswer : Result Held Refusal → (Answer → Type 0) → Type 0
OnAnswer (Ok a) said = said (answer_of a)
OnAnswer (Err refusal) said = OnRefusal refusal said

-- and of a refusal alone
abbrev pub IfRefused : {X : Type 0} → Result X Refusal → (Answer → Type 0) → Type 0
IfRefused (Ok x) said = Unit {0}
IfRefused (Err refusal) said = OnRefusal refusal said

-- the answer, or that of the refusal; running out of memory has none
abbrev pub IsAnswerOrLine : Result Held Refusal → Answer → Type 0
IsAnswerOrLine (Ok held) a = a ≡ answer_of held
IsAnswerOrLine (Err (refusals.Line line)) a = a ≡ refusal line
IsAnswerOrLine (Err refusals.Memory) a = ⊥

-- the circuit of a specification, for the target that it names
pub record IsCircuitFor (spec : Spec) (enable : Bool) (devices : List Device) (circuit : Circuit) : Type 0 where
  pub table : Delays
  pub of_target : IsTableOf spec devices table
  pub of_table : IsCircuit spec table enable circuit.planned circuit.adders.items

-- the answer tells why a net has no plan; running out of memory has no answer
abbrev pub TellsPlanFault : PlanFault → Answer → Type 0
TellsPlanFault (plan.PeriodTooShort need) a = a ≡ refusal (line.PeriodTooShort need)
TellsPlanFault plan.TooLarge a = a ≡ refusal line.TooLarge
TellsPlanFault plan.Memory a = ⊥

-- what planning a specification's net for a table returns: a plan of the net for the table, or why there is none
abbrev pub IsOutcomeFor : Spec → (enable : Bool) → Net → Delays → Result Planned PlanFault → Type 0
IsOutcomeFor spec enable net table (Err (plan.PeriodTooShort n)) =
    (n ≡ need_of spec table net) × (spec.period < need table (made_net spec table net))
IsOutcomeFor spec enable net table r = IsOutcome spec.name enable (made_net spec table net) (placing_of spec) table spec.period r

-- an answer that stores the rows of a design over the stimulus of a specification
pub record HasRows (spec : Spec) (design : Design) (seed cycles : ℕ) (a : Answer) : Type 0 where
  pub rows : List ℕ
  pub run : IsRunText design cycles (stimulus_cells spec seed cycles) rows
  pub answer : a ≡ success (line.WroteVectors spec.name cycles) (file (vectors_name spec.name) rows ∷ [])

-- an answer that stores the rows of a design's run over rows of its inputs
pub record HasSimulated (out : List ℕ) (design : Design) (count : ℕ) (cells : List ℕ) (a : Answer) : Type 0 where
  pub rows : List ℕ
  pub run : IsRunText design count cells rows
  pub answer : a ≡ success (line.Simulated count) (file out rows ∷ [])

-- an answer that tells of a run of the filter, and stores none
pub record HasWorked (n : ℕ) (planned : Planned) (a : Answer) : Type 0 where
  pub good : ℕ
  pub judged : RunsGood n planned.design planned.latency good
  pub answer : a ≡ success (line.Worked n (length planned.design.signals) planned.latency good) []

-- the answer of a verdict
abbrev pub verdict_answer : Checked → Answer
verdict_answer (Good judged) = success (line.Good judged) []
verdict_answer (Bad row) = refusal (line.BadRow row)

-- the ports of a design are the specification's, and this is the answer of the verdict on its run over rows
pub record HasJudged (spec : Spec) (design : Design) (latency rows : ℕ) (cells : List ℕ) (a : Answer) : Type 0 where
  pub agree : PortsAgree spec design
  pub checked : Checked
  pub verdict : IsChecked spec design latency rows cells checked
  pub answer : a ≡ verdict_answer checked

-- the ports are not those of the specification, or the rows were judged
abbrev pub IsAnswerToDesign : Spec → Design → (latency rows : ℕ) (cells : List ℕ) → Answer → Type 0
IsAnswerToDesign spec design latency rows cells a =
    ((PortsAgree spec design → ⊥) × (a ≡ refusal line.Ports)) ⊎ HasJudged spec design latency rows cells a

-- an answer has a line that may be printed, and none that refuses has a store
pub record IsListed (a : Answer) : Type 0 where
  pub line : IsAllowedLine a.line
  pub no_store : Refuses (status_of a) → a.stores ≡ []

-- a folder's counts of failing reads
pub record Reads : Type 0 where
  pub faults : ℕ
  pub lacks : ℕ
  pub longs : ℕ

-- the counts of a folder, by what it counts
abbrev pub reads_of : {Folder : Type 0} → (faults lacks longs : Folder → ℕ) → Folder → Reads
reads_of faults lacks longs folder = record { faults = faults folder; lacks = lacks folder; longs = longs folder }

-- the counts did not fall
pub record Kept (before now : Reads) : Type 0 where
  pub faults : before.faults ≤ now.faults
  pub lacks : before.lacks ≤ now.lacks
  pub longs : before.longs ≤ now.longs

-- the answer of a command: that which is due, or `read fault` where a fault of reading was counted
pub record IsPrepared (command : Option Command) (devices : List Device) (told : Option Files) (before now : Reads)
    (a : Answer) : Type 0 where
  pub listed : IsListed a
  pub usage : status_of a ≡ 2 → command ≡ None
  pub read_counted : status_of a ≡ 3 → Rose before.faults now.faults ⊎ Rose before.lacks now.lacks
  pub long_counted : status_of a ≡ 9 → Rose before.longs now.longs
  pub due : (files : Files) → told ≡ Some files
      → ((a ≡ refusal line.ReadFault) × Rose before.faults now.faults) ⊎ IsAnswerOf command devices files a

-- the line for a file that was not fetched, and its cause
pub record IsUnfetched (name : List ℕ) (most : ℕ) (told : Option Files) (before now : Reads) (l : Line) : Type 0 where
  pub either : (l ≡ line.ReadFault) ⊎ (l ≡ line.TooLong)
  pub read_counted : l ≡ line.ReadFault → Rose before.faults now.faults ⊎ Rose before.lacks now.lacks
  pub long_counted : l ≡ line.TooLong → Rose before.longs now.longs
  pub missing : (files : Files) → told ≡ Some files → Stood before.faults now.faults → l ≡ line.ReadFault → files name ≡ None
  pub longer : (files : Files) → told ≡ Some files → l ≡ line.TooLong → fetched (files name) most ≡ Err fetch.TooLong

-- the bytes of a file, or why there are none
abbrev pub Fetches : (name : List ℕ) (most : ℕ) (told : Option Files) (before now : Reads) → Result (Vec ℕ Global) Refusal → Type 0
Fetches name most told before now (Ok bytes) = (length bytes.items ≤ most)
    × ((files : Files) → told ≡ Some files → files name ≡ Some bytes.items)
Fetches name most told before now (Err (refusals.Line line)) = IsUnfetched name most told before now line
Fetches name most told before now (Err refusals.Memory) = Unit {0}

-- the rows that the vectors hold
pub record HoldsRows (widths vectors : List ℕ) (rows : Rows) : Type 0 where
  pub reading : IsReading widths (lines vectors) (Ok rows.inputs.cells.items)
  pub columns : rows.inputs.columns ≡ length widths
  pub count : rows.count ≡ length (lines vectors)
  pub fit : AreRowsOfCells widths rows.count rows.inputs.cells.items
