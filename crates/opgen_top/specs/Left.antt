-- What is left after 4 and 5, in a folder that tells its files.
use Rattle.std.specs.Prelude.{ℕ, ◌≡◌, ◌⊎◌, List, Option, Some}
use Rattle.opgen_io.specs.Bytes.{TakesPrefix}
use Rattle.opgen_io.specs.Files.{Files}
use Rattle.opgen_top.specs.declared.line.Line.TheVariants as line
use Rattle.opgen_top.specs.Answer.{Answer}
use Rattle.opgen_command.specs.declared.command.Command.{Command}
use Rattle.opgen_top.specs.Due.{IsAnswerOf}
use Rattle.opgen_top.specs.Lines.{line_bytes}
use Rattle.opgen_top.specs.Stores.{stored_all, HasFirst, HasBroken}
use Rattle.opgen_top.specs.Targets.{Device}

-- A fault of reading was counted: nothing has changed, and the sink has at most a first part of `read fault` more.
pub record IsUnread (counted : Type 0) (files : Files) (after : Option Files) (before now : Option (List ℕ)) : Type 0 where
  pub why : counted
  pub same : after ≡ Some files
  pub part : TakesPrefix before (line_bytes line.ReadFault) now

-- A fault of writing was counted: a store broke, those before it stand, and nothing was printed.
pub record IsUnstored (counted : Type 0) (answer : Answer) (files : Files) (after : Option Files)
    (before now : Option (List ℕ)) : Type 0 where
  pub why : counted
  pub broken : HasBroken answer.stores files after
  pub unprinted : now ≡ before

-- The sink counted a fault: all stores stand, and it has at most a first part of the line more.
pub record IsUnprinted (counted : Type 0) (answer : Answer) (files : Files) (after : Option Files)
    (before now : Option (List ℕ)) : Type 0 where
  pub why : counted
  pub stores : after ≡ Some (stored_all answer.stores files)
  pub part : TakesPrefix before (line_bytes answer.line) now

-- After 4, by the counts that rose: a file was not read, or the answer that is due was not stored or not printed.
abbrev pub LeftByFault : Option Command → List Device → Files
    → (read write put : Type 0) (after : Option Files) (before now : Option (List ℕ)) → Type 0
LeftByFault command devices files read write put after before now =
    IsUnread read files after before now
    ⊎ ((a : Answer) × IsAnswerOf command devices files a × (IsUnstored write a files after before now
    ⊎ IsUnprinted put a files after before now))

-- After 5: nothing has changed, or a first part of the stores of the answer that is due stands.
abbrev pub LeftByMemory : Option Command → List Device → Files → (after : Option Files) → Type 0
LeftByMemory command devices files after = (after ≡ Some files)
    ⊎ ((a : Answer) × IsAnswerOf command devices files a × HasFirst a.stores files after)
