-- The first token of a text, and how far a text was cut into tokens.
use Rattle.std.specs.Prelude.{◌≡◌, ℕ, List, [], ◌∷◌, ◌++◌}
use Rattle.opgen_vhdl.specs.Tokens.{Element, token, Cut, Tokens, NothingStarts}
use Rattle.opgen_vhdl.specs.Symbols.{spellings_of}
use Rattle.opgen_vhdl.specs.declared.kind.Token.{Token}
use Rattle.opgen_vhdl.specs.declared.kind.TokenKind.{TokenKind}

-- the bytes before the rest are tokens, white space and comments
pub record IsPassed (bytes rest : List ℕ) : Type 0 where
  pub elements : List Element
  pub cut : Cut elements bytes rest

-- the bytes are tokens, white space and comments up to the end
pub record HasTokens (bytes : List ℕ) : Type 0 where
  pub tokens : List Token
  pub cut : Tokens bytes tokens

-- the bytes are white space and comments, then this token, and right behind it the rest
pub record IsFirstToken (bytes : List ℕ) (kind : TokenKind) (text rest : List ℕ) : Type 0 where
  pub before : List Element
  pub gaps : spellings_of before ≡ []
  pub cut : Cut (before ++ token kind text ∷ []) bytes rest

-- the bytes are white space and comments up to where nothing starts, as at the end
pub record HasNoToken (bytes : List ℕ) : Type 0 where
  pub elements : List Element
  pub rest : List ℕ
  pub cut : Cut elements bytes rest
  pub gaps : spellings_of elements ≡ []
  pub nothing : NothingStarts rest
