-- What is printed, whether or not the folder tells its files.
use Rattle.std.specs.Prelude.{ℕ, ◌≡◌, ◌≢◌, ◌⊎◌, IsTrue, List, ◌++◌, Option, Some}
use Rattle.opgen_io.specs.Bytes.{TakesPrefix}
use Rattle.opgen_io.specs.Counts.{next_count, Stood}
use Rattle.opgen_ports.specs.SpecName.{is_spec_name}
use Rattle.opgen_read.specs.declared.fault.ReadFault.TheVariants as read_faults
use Rattle.opgen_spec.specs.declared.fault.SpecFault.TheVariants as spec_faults
use Rattle.opgen_vec.specs.declared.fault.VecFault.TheVariants as vector_faults
use Rattle.opgen_top.specs.declared.line.Line.{Line}
use Rattle.opgen_top.specs.declared.line.Line.TheVariants as line
use Rattle.opgen_top.specs.Lines.{line_bytes, line_status}
use Rattle.opgen_top.specs.Statuses.{ComesWithLine}

-- The name in a line is one that a specification may have, and a fault is one of a file, which running out of memory is not.
abbrev pub IsAllowedLine : Line → Type 0
IsAllowedLine (line.Wrote name latency) = IsTrue (is_spec_name name)
IsAllowedLine (line.WroteVectors name cycles) = IsTrue (is_spec_name name)
IsAllowedLine (line.Refused fault) = fault ≢ spec_faults.Memory
IsAllowedLine (line.VhdlRefused fault) = fault ≢ read_faults.Memory
IsAllowedLine (line.VectorsRefused fault) = fault ≢ vector_faults.Memory
IsAllowedLine _ = Unit {0}

-- a line of this status more
pub record TakesLine (status : ℕ) (held : List ℕ) (now : Option (List ℕ)) : Type 0 where
  pub line : Line
  pub allowed : IsAllowedLine line
  pub status_is : status ≡ line_status line
  pub taken : now ≡ Some (held ++ line_bytes line)

-- a first part of a line more
pub record TakesPart (held : List ℕ) (now : Option (List ℕ)) : Type 0 where
  pub line : Line
  pub allowed : IsAllowedLine line
  pub part : TakesPrefix (Some held) (line_bytes line) now

-- A sink that held these bytes has one line more, that of the status; after 4 a first part of a line, which is nothing where
-- it counted no fault; after 5 nothing.
pub record IsPrinted (status faults_before faults_now : ℕ) (held : List ℕ) (now : Option (List ℕ)) : Type 0 where
  pub line : ComesWithLine status → TakesLine status held now
  pub part : status ≡ 4 → TakesPart held now
  pub no_fault : status ≡ 4 → Stood faults_before faults_now → now ≡ Some held
  pub no_memory : status ≡ 5 → now ≡ Some held

-- At most one put was made: one with a status that comes with a line, and one after 4 where all was stored; none after 4 where
-- the sink counted no fault.
pub record IsOnePut (status : ℕ) (stored no_fault : Type 0) (before now : ℕ) : Type 0 where
  pub at_most : (now ≡ before) ⊎ (now ≡ next_count before)
  pub line : ComesWithLine status → now ≡ next_count before
  pub refused : status ≡ 4 → stored → now ≡ next_count before
  pub unstored : status ≡ 4 → no_fault → now ≡ before
