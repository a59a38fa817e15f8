-- How far a text was read: the pieces that were taken, and the fault of the first one that is not.
use Rattle.std.specs.Prelude.{◌≡◌, ℕ, List, ◌++◌, length}
use Rattle.opgen_vhdl.specs.declared.place.Place.{Place}
use Rattle.opgen_vhdl.specs.declared.place.Place.TheVariants.{Library}
use Rattle.opgen_vhdl.specs.Symbols.{Symbol, pieces}
use Rattle.opgen_vhdl.specs.Statements.{Reading, nothing, Follows}
use Rattle.opgen_vhdl.specs.Spelled.{StopsAt}
use Rattle.opgen_read.specs.declared.fault.ReadFault.{ReadFault}
use Rattle.opgen_read.specs.declared.fault.ReadFault.TheVariants.{Lexical, Syntax, TooLarge, Unsound, Memory}

-- so many pieces of the whole were taken, which led to this place with this read of them, and these symbols are left
pub record Reached (whole rest : List Symbol) (place : Place) (r : Reading) (n : ℕ) : Type 0 where
  pub taken : List (List Symbol)
  pub split : pieces whole ≡ taken ++ pieces rest
  pub follow : Follows Library nothing taken place r
  pub count : n ≡ length taken

-- a fault of the pieces; running out of memory says nothing of them
abbrev pub IsPieceFault : List Symbol → ReadFault → Type 0
IsPieceFault whole (Lexical offset) = ⊥
IsPieceFault whole (Syntax k) = StopsAt (pieces whole) k
IsPieceFault whole TooLarge = ⊥
IsPieceFault whole (Unsound rule item) = ⊥
IsPieceFault whole Memory = Unit {0}
