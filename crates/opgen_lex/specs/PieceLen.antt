-- Where the first piece of a text ends.
use Rattle.std.specs.Prelude.{◌≡◌, ℕ, ◌≤◌, List, ◌∷◌, length, take, drop}
use Rattle.opgen_vhdl.specs.Symbols.{Symbol, pieces}
use Rattle.opgen_lex.specs.First.{IsPassed}
use Rattle.opgen_lex.specs.Left.{symbols_in}

-- behind a symbol, so many bytes are the rest of its piece, and the bytes behind them have the other pieces; a place at which nothing
-- starts is not passed
pub record IsRestLen (first : Symbol) (bytes : List ℕ) (n : ℕ) : Type 0 where
  pub within : n ≤ length bytes
  pub passed : IsPassed bytes (drop n bytes)
  pub cut : pieces (first ∷ symbols_in bytes) ≡ (first ∷ symbols_in (take n bytes)) ∷ pieces (symbols_in (drop n bytes))
