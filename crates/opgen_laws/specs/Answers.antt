-- How many correct answers there are: at most one, not none, and the same for every number of workers.
use Rattle.std.specs.Prelude.{ℕ, ◌≡◌, Bool, List, Some}
use Rattle.opgen_command.specs.Command.{command_of}
use Rattle.opgen_command.specs.declared.command.Command.TheVariants.{Generate}
use Rattle.opgen_io.specs.Files.{Files}
use Rattle.opgen_top.specs.Answer.{Answer}
use Rattle.opgen_top.specs.Due.{IsAnswerOf}
use Rattle.opgen_top.specs.Targets.{Device}

-- the words, the targets and the files leave at most one answer
abbrev pub HasOneAnswer : Type 0
HasOneAnswer = (words : List (List ℕ)) (devices : List Device) (files : Files) (a b : Answer)
    → IsAnswerOf (command_of words) devices files a → IsAnswerOf (command_of words) devices files b → a ≡ b

-- the answer to `generate` with one number of workers is the answer with every other
abbrev pub IsForAllWorkers : Type 0
IsForAllWorkers = (file : List ℕ) (enable : Bool) (some others : ℕ) (devices : List Device) (files : Files) (a : Answer)
    → IsAnswerOf (Some (Generate file some enable)) devices files a → IsAnswerOf (Some (Generate file others enable)) devices files a

-- and that they leave none is impossible
abbrev pub HasSomeAnswer : Type 0
HasSomeAnswer = (words : List (List ℕ)) (devices : List Device) (files : Files)
    → ((a : Answer) → IsAnswerOf (command_of words) devices files a → ⊥) → ⊥
