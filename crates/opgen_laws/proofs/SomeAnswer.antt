-- That the words, the targets and the files leave no answer is impossible.
use Rattle.std.proofs.Common.{ℕ, List, Option, Some, None, IfSome, Result, Ok, Err, refl}
use Rattle.opgen_command.specs.Command.{HasRanges, command_of}
use Rattle.opgen_laws.proofs.CommandRanges.{ranges}
use Rattle.opgen_command.specs.declared.command.Command.{Command}
use Rattle.opgen_command.specs.declared.command.Command.TheVariants.{Generate, Vectors, Simulate, Workload, Check}
use Rattle.opgen_io.specs.Fetched.{fetched}
use Rattle.opgen_io.specs.Files.{Files}
use Rattle.opgen_io.specs.declared.folder.FetchFault.{FetchFault}
use Rattle.opgen_io.specs.declared.folder.FetchFault.TheVariants as fetch
use Rattle.opgen_top.specs.declared.line.Line.TheVariants as printed
use Rattle.opgen_top.specs.Answer.{Answer, refusal}
use Rattle.opgen_top.specs.Check.{IsAnswerToCheck}
use Rattle.opgen_top.specs.Due.{IsAnswerOf, OnFetch, most_bytes, most_simulated_bytes}
use Rattle.opgen_top.specs.Simulate.{IsSimulated}
use Rattle.opgen_top.specs.Specified.{IsAnswerToSpec, IsGenerated, IsVectors}
use Rattle.opgen_top.specs.Targets.{Device}
use Rattle.opgen_laws.proofs.ByKind.{NetLaws}
use Rattle.opgen_laws.proofs.SomeCircuit.{some_generated, some_vectors, some_worked}
use Rattle.opgen_laws.proofs.SomeChecked.{some_checked}
use Rattle.opgen_laws.proofs.SomeSimulated.{some_simulated}
use Rattle.opgen_laws.specs.Answers.{HasSomeAnswer}

-- where what is said of the bytes leaves some answer, so does a fetch
some_on_fetch : (r : Result (List ℕ) FetchFault) (said : List ℕ → Answer → Type 0)
    → ((bytes : List ℕ) → ((a : Answer) → said bytes a → ⊥) → ⊥) → ((a : Answer) → OnFetch r a (λ bytes. said bytes a) → ⊥) → ⊥
some_on_fetch (Ok bytes) said some none = some bytes none
some_on_fetch (Err fetch.Failed) said some none = none (refusal printed.ReadFault) refl
some_on_fetch (Err fetch.TooLong) said some none = none (refusal printed.TooLong) refl
some_on_fetch (Err fetch.Memory) said some none = none (refusal printed.ReadFault) refl

module _ (laws : NetLaws) (devices : List Device) (files : Files) where
  some_of : (o : Option Command) → IfSome o HasRanges → ((a : Answer) → IsAnswerOf o devices files a → ⊥) → ⊥
  some_of None h none = none (refusal printed.Usage) refl
  some_of (Some (Generate spec workers enable)) h none =
      some_on_fetch (fetched (files spec) most_bytes) (λ bytes a. IsAnswerToSpec bytes devices (IsGenerated enable) a)
      (λ bytes. some_generated laws bytes devices enable) none
  some_of (Some (Vectors spec seed cycles)) h none =
      some_on_fetch (fetched (files spec) most_bytes) (λ bytes a. IsAnswerToSpec bytes devices (IsVectors seed cycles) a)
      (λ bytes. some_vectors laws bytes devices seed cycles) none
  some_of (Some (Simulate vhdl vectors out)) h none =
      some_on_fetch (fetched (files vhdl) most_simulated_bytes)
      (λ text a. OnFetch (fetched (files vectors) most_simulated_bytes) a (λ rows. IsSimulated out text rows a))
      (λ text. some_on_fetch (fetched (files vectors) most_simulated_bytes) (λ rows a. IsSimulated out text rows a)
      (λ rows. some_simulated out text rows)) none
  some_of (Some (Workload n)) h none = some_worked laws n h.0 h.1 devices none
  some_of (Some (Check spec vhdl vectors latency)) h none =
      some_on_fetch (fetched (files spec) most_bytes)
      (λ bytes a. OnFetch (fetched (files vhdl) most_simulated_bytes) a (λ text.
      OnFetch (fetched (files vectors) most_simulated_bytes) a (λ rows. IsAnswerToCheck latency bytes text rows a)))
      (λ bytes. some_on_fetch (fetched (files vhdl) most_simulated_bytes)
      (λ text a. OnFetch (fetched (files vectors) most_simulated_bytes) a (λ rows. IsAnswerToCheck latency bytes text rows a))
      (λ text. some_on_fetch (fetched (files vectors) most_simulated_bytes) (λ rows a. IsAnswerToCheck latency bytes text rows a)
      (λ rows. some_checked latency bytes text rows))) none

pub some_answer : NetLaws → HasSomeAnswer
some_answer laws words devices files = some_of laws devices files (command_of words) (ranges words)
