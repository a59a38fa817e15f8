-- The answer that is due: by the words of the command line, then by the command's files and what they hold, and by the
-- targets.
use Rattle.std.specs.Prelude.{ℕ, ◌≡◌, List, ◌++◌, Option, Some, None, Result, Ok, Err}
use Rattle.opgen_command.specs.declared.command.Command.{Command}
use Rattle.opgen_command.specs.declared.command.Command.TheVariants.{Generate, Vectors, Simulate, Workload, Check}
use Rattle.opgen_io.specs.Fetched.{fetched}
use Rattle.opgen_io.specs.Files.{Files}
use Rattle.opgen_io.specs.declared.folder.FetchFault.{FetchFault}
use Rattle.opgen_io.specs.declared.folder.FetchFault.TheVariants as fetch
use Rattle.opgen_top.specs.declared.line.Line.TheVariants as line
use Rattle.opgen_top.specs.Answer.{Answer, refusal, status_of}
use Rattle.opgen_top.specs.Check.{IsAnswerToCheck}
use Rattle.opgen_top.specs.Lines.{line_bytes}
use Rattle.opgen_top.specs.Simulate.{IsSimulated}
use Rattle.opgen_top.specs.Specified.{IsAnswerToSpec, IsGenerated, IsVectors}
use Rattle.opgen_top.specs.Stores.{stored_all}
use Rattle.opgen_top.specs.Targets.{Device}
use Rattle.opgen_top.specs.Workload.{IsAnswerToWorkload}

-- the most bytes that a specification has
abbrev pub most_bytes : ℕ
most_bytes = 1048576

-- and each of the files of VHDL and of vectors
abbrev pub most_simulated_bytes : ℕ
most_simulated_bytes = 67108864

-- by what fetching a file gives: what is said of its bytes, or the answer of the fault
abbrev pub OnFetch : Result (List ℕ) FetchFault → Answer → (List ℕ → Type 0) → Type 0
OnFetch (Ok bytes) a said = said bytes
OnFetch (Err fetch.TooLong) a said = a ≡ refusal line.TooLong
OnFetch (Err _) a said = a ≡ refusal line.ReadFault

-- The answer of a command. The first file that is not fetched decides, then what the files hold.
abbrev pub IsAnswerOfCommand : Command → List Device → Files → Answer → Type 0
IsAnswerOfCommand (Generate spec workers enable) devices files a =
    OnFetch (fetched (files spec) most_bytes) a (λ bytes. IsAnswerToSpec bytes devices (IsGenerated enable) a)
IsAnswerOfCommand (Vectors spec seed cycles) devices files a =
    OnFetch (fetched (files spec) most_bytes) a (λ bytes. IsAnswerToSpec bytes devices (IsVectors seed cycles) a)
IsAnswerOfCommand (Simulate vhdl vectors out) devices files a =
    OnFetch (fetched (files vhdl) most_simulated_bytes) a (λ text.
    OnFetch (fetched (files vectors) most_simulated_bytes) a (λ rows. IsSimulated out text rows a))
IsAnswerOfCommand (Workload n) devices files a = IsAnswerToWorkload n devices a
IsAnswerOfCommand (Check spec vhdl vectors latency) devices files a =
    OnFetch (fetched (files spec) most_bytes) a (λ bytes.
    OnFetch (fetched (files vhdl) most_simulated_bytes) a (λ text.
    OnFetch (fetched (files vectors) most_simulated_bytes) a (λ rows. IsAnswerToCheck latency bytes text rows a)))

abbrev pub IsAnswerOf : Option Command → List Device → Files → Answer → Type 0
IsAnswerOf None devices files a = a ≡ refusal line.Usage
IsAnswerOf (Some command) devices files a = IsAnswerOfCommand command devices files a

-- The answer that is due was given: the result is its status, the folder has its stores more or anew, and a sink that tells
-- what it takes has its line more.
pub record IsAnswered (command : Option Command) (devices : List Device) (files : Files) (result : ℕ) (after : Option Files)
    (before now : Option (List ℕ)) : Type 0 where
  pub answer : Answer
  pub due : IsAnswerOf command devices files answer
  pub status : result ≡ status_of answer
  pub stores : after ≡ Some (stored_all answer.stores files)
  pub line : (held : List ℕ) → before ≡ Some held → now ≡ Some (held ++ line_bytes answer.line)
