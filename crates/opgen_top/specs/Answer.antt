-- What the program answers: the line that it prints, which decides the status, and the files that it stores.
use Rattle.std.specs.Prelude.{ℕ, List, []}
use Rattle.opgen_top.specs.declared.line.Line.{Line}
use Rattle.opgen_top.specs.Lines.{line_status}
use Rattle.opgen_top.specs.Stores.{Store}

pub record Answer : Type 0 where
  pub line : Line
  pub stores : List Store

abbrev pub status_of : Answer → ℕ
status_of a = line_status a.line

-- a success stores files, in order
abbrev pub success : Line → List Store → Answer
success line stores = record { line = line; stores = stores }

abbrev pub file : (name bytes : List ℕ) → Store
file name bytes = record { name = name; bytes = bytes }

-- a refusal stores none
abbrev pub refusal : Line → Answer
refusal line = record { line = line; stores = [] }
