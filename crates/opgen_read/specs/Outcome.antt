-- Results inside the reader: errors of the text, a bound on the number of drivers, and the verdict on the design.
use Rattle.std.specs.Prelude.{◌≡◌, ℕ, ◌≤◌, Bool, true, List, length, Result, Ok, Err}
use Rattle.opgen_design.specs.declared.design.Design.{Design}
use Rattle.opgen_design.specs.Sound.{IsSound}
use Rattle.opgen_vhdl.specs.Tokens.{LexicalAt}
use Rattle.opgen_vhdl.specs.Spelled.{SyntaxAt}
use Rattle.opgen_read.specs.declared.fault.ReadFault.{ReadFault}
use Rattle.opgen_read.specs.declared.fault.ReadFault.TheVariants.{Lexical, Syntax, TooLarge, Unsound, Memory}
use Rattle.opgen_read.specs.declared.read.TheConstants.{MAX_TEXT_LEN}
use Rattle.opgen_read.specs.Answer.{FailsAt}

-- a fault of the tokens or the pieces of a text
abbrev pub IsTextFault : List ℕ → ReadFault → Type 0
IsTextFault bytes (Lexical offset) = LexicalAt bytes offset
IsTextFault bytes (Syntax piece) = SyntaxAt bytes piece
IsTextFault bytes TooLarge = ⊥
IsTextFault bytes (Unsound rule item) = ⊥
IsTextFault bytes Memory = Unit {0}

-- as many drivers as a text of that length can give
abbrev pub HasFew : Design → Type 0
HasFew d = length d.drivers ≤ MAX_TEXT_LEN

-- the names agree and the design is sound, or what fails first
abbrev pub IsOutcome : (agrees : Bool) → Design → Result (Unit {0}) ReadFault → Type 0
IsOutcome agrees d (Ok x) = (agrees ≡ true) × IsSound d
IsOutcome agrees d (Err (Unsound rule item)) = (name : List ℕ) → FailsAt (record { design = d; architecture = name; agrees = agrees }) rule item
IsOutcome agrees d (Err Memory) = Unit {0}
IsOutcome agrees d (Err (Lexical offset)) = ⊥
IsOutcome agrees d (Err (Syntax piece)) = ⊥
IsOutcome agrees d (Err TooLarge) = ⊥
