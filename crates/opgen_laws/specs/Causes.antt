-- What each status of a due answer says of the words, the targets and the files.
use Rattle.std.specs.Prelude.{ℕ, ◌≡◌, ◌≢◌, ◌⊎◌, false, List, [], Option, Some, None, Ok, Err}
use Rattle.opgen_command.specs.declared.command.Command.{Command}
use Rattle.opgen_command.specs.declared.command.Command.TheVariants.{Generate, Vectors, Simulate, Workload, Check}
use Rattle.opgen_io.specs.Fetched.{fetched}
use Rattle.opgen_io.specs.Files.{Files}
use Rattle.opgen_io.specs.declared.folder.FetchFault.TheVariants as fetch
use Rattle.opgen_operator.specs.declared.spec.Spec.{Spec}
use Rattle.opgen_spec.specs.declared.fault.SpecFault.{SpecFault}
use Rattle.opgen_document.specs.Document.{tree}
use Rattle.opgen_spec.specs.Faults.{read}
use Rattle.opgen_target.specs.Delays.{Delays}
use Rattle.opgen_workload.specs.Filter.{workload_spec}
use Rattle.opgen_top.specs.declared.line.Line.TheVariants as line
use Rattle.opgen_top.specs.Answer.{Answer, refusal, status_of}
use Rattle.opgen_top.specs.Check.{FindsBad, FindsGood, RefusesPorts}
use Rattle.opgen_top.specs.Due.{IsAnswerOf, most_bytes, most_simulated_bytes}
use Rattle.opgen_top.specs.Simulate.{RefusesVhdl, RefusesVectors, Runs}
use Rattle.opgen_top.specs.Specified.{IsGenerated, IsVectors, IsTooShort, IsTooLarge}
use Rattle.opgen_top.specs.Targets.{Device, IsTableOf, first_of_name}
use Rattle.opgen_top.specs.Workload.{IsWorked}

-- a file holds a specification without a fault
pub record HasSpec (file : List ℕ) (files : Files) (spec : Spec) : Type 0 where
  pub bytes : List ℕ
  pub stands : files file ≡ Some bytes
  pub reads : read (tree bytes) ≡ Ok spec

-- and there is a target for it, of whose table something is said
pub record HasTable (file : List ℕ) (devices : List Device) (files : Files) (said : Spec → Delays → Type 0) : Type 0 where
  pub spec : Spec
  pub has_spec : HasSpec file files spec
  pub table : Delays
  pub of_target : IsTableOf spec devices table
  pub says : said spec table

-- both files of `simulate` hold bytes, of which something is said
pub record HasBoth (vhdl vectors : List ℕ) (files : Files) (said : (text rows : List ℕ) → Type 0) : Type 0 where
  pub text : List ℕ
  pub stands : files vhdl ≡ Some text
  pub rows : List ℕ
  pub also_stands : files vectors ≡ Some rows
  pub says : said text rows

-- the first file of `check` holds a specification without a fault, and the others hold bytes, of which something is said
pub record HasAll (file vhdl vectors : List ℕ) (files : Files) (said : Spec → (text rows : List ℕ) → Type 0) : Type 0 where
  pub spec : Spec
  pub has_spec : HasSpec file files spec
  pub both : HasBoth vhdl vectors files (said spec)

-- there is a target for the filter of a number, of whose table something is said
pub record HasFilter (n : ℕ) (devices : List Device) (said : Delays → Type 0) : Type 0 where
  pub table : Delays
  pub of_target : IsTableOf (workload_spec n) devices table
  pub says : said table

-- after 0: the command's files were there, and made what it stores
abbrev pub IsMade : Option Command → List Device → Files → Answer → Type 0
IsMade None devices files a = ⊥
IsMade (Some (Generate spec workers enable)) devices files a = HasTable spec devices files (λ s table. IsGenerated enable s table a)
IsMade (Some (Vectors spec seed cycles)) devices files a = HasTable spec devices files (λ s table. IsVectors seed cycles s table a)
IsMade (Some (Simulate vhdl vectors out)) devices files a = HasBoth vhdl vectors files (λ text rows. Runs out text rows a)
IsMade (Some (Workload n)) devices files a = HasFilter n devices (λ table. IsWorked n table a)
IsMade (Some (Check spec vhdl vectors latency)) devices files a =
    HasAll spec vhdl vectors files (λ s text rows. FindsGood s latency text rows a)

-- the bytes of a specification have a fault
pub record HasFault (file : List ℕ) (files : Files) (a : Answer) : Type 0 where
  pub bytes : List ℕ
  pub stands : files file ≡ Some bytes
  pub fault : SpecFault
  pub reads : read (tree bytes) ≡ Err fault
  pub answer : a ≡ refusal (line.Refused fault)

-- After 1: why a specification is refused. Its bytes have a fault; no target has the name that it
-- asks for, or the first of that name has a fixed table and there is a delay line; or its net needs a longer period, or would
-- have too many signals.
pub data IsRefusedSpec (file : List ℕ) (devices : List Device) (files : Files) (a : Answer) : Type 0 where
  faulty : HasFault file files a → IsRefusedSpec file devices files a
  no_target : (spec : Spec) → HasSpec file files spec → first_of_name spec.target devices ≡ None → a ≡ refusal line.UnknownTarget
      → IsRefusedSpec file devices files a
  fixed_table : (spec : Spec) (device : Device) → HasSpec file files spec → first_of_name spec.target devices ≡ Some device
      → device.adjustable ≡ false
      → spec.delays ≢ [] → a ≡ refusal line.NotAdjustable → IsRefusedSpec file devices files a
  short_period : HasTable file devices files (λ spec table. IsTooShort spec table a) → IsRefusedSpec file devices files a
  many_signals : HasTable file devices files (λ spec table. IsTooLarge spec table a) → IsRefusedSpec file devices files a

-- after 1, without a file: no target has the name that the filter asks for, or its net needs a longer period, or would have
-- too many signals
pub data IsRefusedFilter (n : ℕ) (devices : List Device) (a : Answer) : Type 0 where
  filter_without_target : first_of_name (workload_spec n).target devices ≡ None → a ≡ refusal line.UnknownTarget
      → IsRefusedFilter n devices a
  filter_of_long_need : HasFilter n devices (λ table. IsTooShort (workload_spec n) table a) → IsRefusedFilter n devices a
  filter_of_many_signals : HasFilter n devices (λ table. IsTooLarge (workload_spec n) table a) → IsRefusedFilter n devices a

abbrev pub IsRefused : Option Command → List Device → Files → Answer → Type 0
IsRefused None devices files a = ⊥
IsRefused (Some (Generate spec workers enable)) devices files a = IsRefusedSpec spec devices files a
IsRefused (Some (Vectors spec seed cycles)) devices files a = IsRefusedSpec spec devices files a
IsRefused (Some (Simulate vhdl vectors out)) devices files a = ⊥
IsRefused (Some (Workload n)) devices files a = IsRefusedFilter n devices a
IsRefused (Some (Check spec vhdl vectors latency)) devices files a = HasFault spec files a

-- after 3: a file that the command takes is not there
abbrev pub IsMissing : Option Command → Files → Type 0
IsMissing None files = ⊥
IsMissing (Some (Generate spec workers enable)) files = files spec ≡ None
IsMissing (Some (Vectors spec seed cycles)) files = files spec ≡ None
IsMissing (Some (Simulate vhdl vectors out)) files = (files vhdl ≡ None) ⊎ (files vectors ≡ None)
IsMissing (Some (Workload n)) files = ⊥
IsMissing (Some (Check spec vhdl vectors latency)) files =
    (files spec ≡ None) ⊎ ((files vhdl ≡ None) ⊎ (files vectors ≡ None))

-- after 6: the VHDL has a cause against it, or its ports are not those of the specification
pub record IsRefusedVhdl (vhdl : List ℕ) (files : Files) (a : Answer) : Type 0 where
  pub text : List ℕ
  pub stands : files vhdl ≡ Some text
  pub refused : RefusesVhdl text a

abbrev pub IsVhdlRefused : Option Command → Files → Answer → Type 0
IsVhdlRefused (Some (Simulate vhdl vectors out)) files a = IsRefusedVhdl vhdl files a
IsVhdlRefused (Some (Check spec vhdl vectors latency)) files a =
    HasAll spec vhdl vectors files (λ s text rows. RefusesVhdl text a ⊎ RefusesPorts s text rows a)
IsVhdlRefused _ files a = ⊥

-- after 7: the VHDL spells a design, and the vectors are no rows of its inputs
abbrev pub AreVectorsRefused : Option Command → Files → Answer → Type 0
AreVectorsRefused (Some (Simulate vhdl vectors out)) files a = HasBoth vhdl vectors files (λ text rows. RefusesVectors text rows a)
AreVectorsRefused (Some (Check spec vhdl vectors latency)) files a =
    HasAll spec vhdl vectors files (λ s text rows. RefusesVectors text rows a)
AreVectorsRefused _ files a = ⊥

-- after 8: a row is judged and not good, and all before it that are judged are good
abbrev pub IsRowBad : Option Command → Files → Answer → Type 0
IsRowBad (Some (Check spec vhdl vectors latency)) files a =
    HasAll spec vhdl vectors files (λ s text rows. FindsBad s latency text rows a)
IsRowBad _ files a = ⊥

-- after 9: a file has more bytes than it may have
abbrev pub IsTooLong : Option Command → Files → Type 0
IsTooLong None files = ⊥
IsTooLong (Some (Generate spec workers enable)) files = fetched (files spec) most_bytes ≡ Err fetch.TooLong
IsTooLong (Some (Vectors spec seed cycles)) files = fetched (files spec) most_bytes ≡ Err fetch.TooLong
IsTooLong (Some (Simulate vhdl vectors out)) files =
    (fetched (files vhdl) most_simulated_bytes ≡ Err fetch.TooLong) ⊎ (fetched (files vectors) most_simulated_bytes ≡ Err fetch.TooLong)
IsTooLong (Some (Workload n)) files = ⊥
IsTooLong (Some (Check spec vhdl vectors latency)) files =
    (fetched (files spec) most_bytes ≡ Err fetch.TooLong)
    ⊎ ((fetched (files vhdl) most_simulated_bytes ≡ Err fetch.TooLong) ⊎ (fetched (files vectors) most_simulated_bytes ≡ Err fetch.TooLong))

-- each status has its cause
pub record HasCause (command : Option Command) (devices : List Device) (files : Files) (a : Answer) : Type 0 where
  pub made : status_of a ≡ 0 → IsMade command devices files a
  pub refused : status_of a ≡ 1 → IsRefused command devices files a
  pub usage : status_of a ≡ 2 → command ≡ None
  pub missing : status_of a ≡ 3 → IsMissing command files
  pub vhdl_refused : status_of a ≡ 6 → IsVhdlRefused command files a
  pub vectors_refused : status_of a ≡ 7 → AreVectorsRefused command files a
  pub bad_row : status_of a ≡ 8 → IsRowBad command files a
  pub longer : status_of a ≡ 9 → IsTooLong command files

abbrev pub AnswersHaveCauses : Type 0
AnswersHaveCauses = (command : Option Command) (devices : List Device) (files : Files) (a : Answer) → IsAnswerOf command devices files a
    → HasCause command devices files a

-- a command that builds a specification
abbrev pub IsOnSpec : Command → (file : List ℕ) → Type 0
IsOnSpec (Generate spec workers enable) file = spec ≡ file
IsOnSpec (Vectors spec seed cycles) file = spec ≡ file
IsOnSpec _ file = ⊥

-- and where the file is not too long, each cause makes its refusal the due answer
abbrev pub SpecsAreRefused : Type 0
SpecsAreRefused = (command : Command) (file : List ℕ) → IsOnSpec command file → (devices : List Device) (files : Files) (a : Answer)
    → (fetched (files file) most_bytes ≡ Err fetch.TooLong → ⊥) → IsRefusedSpec file devices files a
    → IsAnswerOf (Some command) devices files a

-- why `check` refuses, where all its files are there: the specification has a fault, or the VHDL, or the vectors, or the ports
-- are others, or a row is not good
pub data IsRefusedCheck (spec vhdl vectors : List ℕ) (latency : ℕ) (files : Files) (a : Answer) : Type 0 where
  faulty_spec : HasFault spec files a → HasBoth vhdl vectors files (λ text rows. Unit {0}) → IsRefusedCheck spec vhdl vectors latency files a
  faulty_vhdl : HasAll spec vhdl vectors files (λ s text rows. RefusesVhdl text a) → IsRefusedCheck spec vhdl vectors latency files a
  faulty_vectors : HasAll spec vhdl vectors files (λ s text rows. RefusesVectors text rows a)
      → IsRefusedCheck spec vhdl vectors latency files a
  other_ports : HasAll spec vhdl vectors files (λ s text rows. RefusesPorts s text rows a)
      → IsRefusedCheck spec vhdl vectors latency files a
  bad_row : HasAll spec vhdl vectors files (λ s text rows. FindsBad s latency text rows a)
      → IsRefusedCheck spec vhdl vectors latency files a

abbrev pub ChecksAreRefused : Type 0
ChecksAreRefused = (spec vhdl vectors : List ℕ) (latency : ℕ) (devices : List Device) (files : Files) (a : Answer)
    → (IsTooLong (Some (Check spec vhdl vectors latency)) files → ⊥) → IsRefusedCheck spec vhdl vectors latency files a
    → IsAnswerOf (Some (Check spec vhdl vectors latency)) devices files a

pub record RefusalsAreDue : Type 0 where
  pub of_specs : SpecsAreRefused
  pub of_checks : ChecksAreRefused
