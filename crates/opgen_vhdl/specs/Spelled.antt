-- Which design a text spells, and the first piece at which a text leaves the VHDL subset.
use Rattle.std.specs.Prelude.{◌≡◌, ℕ, ◌+◌, true, List, ◌++◌, length}
use Rattle.opgen_design.specs.declared.design.Design.{Design}
use Rattle.opgen_vhdl.specs.declared.kind.Token.{Token}
use Rattle.opgen_vhdl.specs.declared.place.Place.{Place}
use Rattle.opgen_vhdl.specs.declared.place.Place.TheVariants.{Library, End}
use Rattle.opgen_vhdl.specs.Tokens.{Tokens}
use Rattle.opgen_vhdl.specs.Symbols.{Symbol, symbols, pieces}
use Rattle.opgen_vhdl.specs.Statements.{Reading, nothing, Follows, Stops}

-- the pieces of the text follow the table of places to its end, and this is what they say
pub record Statements (bytes : List ℕ) (r : Reading) : Type 0 where
  pub tokens : List Token
  pub cut : Tokens bytes tokens
  pub follow : Follows Library nothing (pieces (symbols bytes tokens)) End r

-- The text spells the design: its statements give the design, and the names of the entity and of the architecture agree.
pub record Spells (bytes : List ℕ) (d : Design) : Type 0 where
  pub read : Reading
  pub statements : Statements bytes read
  pub names_agree : read.agrees ≡ true
  pub design : read.design ≡ d

-- Piece k, from 1, is the first that its place does not take; it is one past the last where the pieces end too early.
pub record StopsAt (ps : List (List Symbol)) (k : ℕ) : Type 0 where
  pub taken : List (List Symbol)
  pub left : List (List Symbol)
  pub split : ps ≡ taken ++ left
  pub place : Place
  pub read : Reading
  pub follow : Follows Library nothing taken place read
  pub stops : Stops place read left
  pub piece : k ≡ length taken + 1

-- Reading the text stops at its piece k.
pub record SyntaxAt (bytes : List ℕ) (k : ℕ) : Type 0 where
  pub tokens : List Token
  pub cut : Tokens bytes tokens
  pub stop : StopsAt (pieces (symbols bytes tokens)) k
