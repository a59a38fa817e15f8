-- What reading a text returns: the design that it spells, or the first error and how it prints.
use Rattle.std.specs.Prelude.{◌≡◌, ◌⊎◌, ℕ, ◌≤◌, true, false, List, ◌++◌, codes, length}
use Rattle.std.specs.Fmt.{decimal}
use Rattle.opgen_read.specs.declared.read.TheConstants.{MAX_PORTS}
use Rattle.opgen_design.specs.declared.design.Design.{Design}
use Rattle.opgen_design.specs.declared.design.TheConstants.{MAX_SIGNALS}
use Rattle.opgen_design.specs.declared.sound.Rule.{Rule}
use Rattle.opgen_design.specs.Sound.{rule_number, IsFirstUnsound}
use Rattle.opgen_vhdl.specs.Tokens.{LexicalAt}
use Rattle.opgen_vhdl.specs.Statements.{Reading}
use Rattle.opgen_vhdl.specs.Spelled.{Statements, SyntaxAt}
use Rattle.opgen_read.specs.declared.fault.ReadFault.{ReadFault}
use Rattle.opgen_read.specs.declared.fault.ReadFault.TheVariants.{Lexical, Syntax, TooLarge, Unsound, Memory}

-- no more signals and ports than a design that is read may have
pub record IsWithinLimits (d : Design) : Type 0 where
  pub signals : length d.signals ≤ MAX_SIGNALS
  pub ports : length d.ports ≤ MAX_PORTS

-- Names that do not agree are item 0 of rule 1, as is an enable that names no port; where they agree, it is the first rule that fails.
abbrev pub FailsAt : Reading → (rule item : ℕ) → Type 0
FailsAt r rule item =
    ((r.agrees ≡ false) × (rule ≡ 1) × (item ≡ 0))
    ⊎ ((r.agrees ≡ true) × (x : Rule) × (rule_number x ≡ rule) × IsFirstUnsound r.design x item)

-- the first cause for which a text gives no design; running out of memory says nothing of the text
abbrev pub IsReadFault : List ℕ → ReadFault → Type 0
IsReadFault bytes (Lexical offset) = LexicalAt bytes offset
IsReadFault bytes (Syntax piece) = SyntaxAt bytes piece
IsReadFault bytes TooLarge = (r : Reading) × Statements bytes r × (IsWithinLimits r.design → ⊥)
IsReadFault bytes (Unsound rule item) = (r : Reading) × Statements bytes r × IsWithinLimits r.design × FailsAt r rule item
IsReadFault bytes Memory = Unit {0}

-- a fault's name, and its numbers after it
abbrev pub fault_text : ReadFault → List ℕ
fault_text (Lexical offset) = codes "Lexical " ++ decimal offset
fault_text (Syntax piece) = codes "Syntax " ++ decimal piece
fault_text TooLarge = codes "TooLarge"
fault_text (Unsound rule item) = codes "Unsound " ++ decimal rule ++ codes " " ++ decimal item
fault_text Memory = codes "out of memory"
