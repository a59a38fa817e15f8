-- Symbols: what the grammar sees of the tokens of a text.
use Rattle.std.specs.Prelude.{ℕ, ◌==◌, Bool, true, false, List, [], ◌∷◌, map, filter, reverse, if◌then◌else◌, ◌-◌, ◌≤◌, ◌<◌, take, drop}
use Rattle.std.specs.Char.{to_ascii_lowercase}
use Rattle.opgen_vhdl.specs.declared.kind.TokenKind.{TokenKind}
use Rattle.opgen_vhdl.specs.declared.kind.TokenKind.TheVariants as kind
use Rattle.opgen_vhdl.specs.declared.kind.Token.{Token}
use Rattle.opgen_vhdl.specs.Tokens.{is_bit, Element, gap, token, IsToken}

-- The tokens stand in order between two offsets: none is empty, and each starts where the one before it ends or later.
abbrev pub InOrder : ℕ → ℕ → List Token → Type 0
InOrder low high [] = low ≤ high
InOrder low high (t ∷ ts) = (low ≤ t.start) × (t.start < t.end) × InOrder t.end high ts

-- the span has one byte at least, and ends at that offset or before
abbrev pub IsWithin : ℕ → Token → Type 0
IsWithin high t = (t.start < t.end) × (t.end ≤ high)

-- the bytes of the text that the token takes up
abbrev pub spelling_of : List ℕ → Token → List ℕ
spelling_of bytes t = take (t.end - t.start) (drop t.start bytes)

-- these bytes are a token of its kind, where the bytes behind them follow it
abbrev pub IsSpelledIn : List ℕ → Token → Type 0
IsSpelledIn bytes t = IsToken t.kind (spelling_of bytes t) (drop t.end bytes)

-- the kind of a token, and its bytes in the text
abbrev pub spelled : List ℕ → Token → TokenKind × List ℕ
spelled bytes t = (t.kind, spelling_of bytes t)

-- the kinds and the bytes of the tokens among the elements
abbrev pub spellings_of : List Element → List (TokenKind × List ℕ)
spellings_of [] = []
spellings_of (gap _ ∷ es) = spellings_of es
spellings_of (token kind text ∷ es) = (kind, text) ∷ spellings_of es

-- A word in lower case, since words are compared without case (IEEE 1076-1993, 13.3.1); a number by its digits; the bits
-- of a bit string, the lowest first; any other token by its kind.
pub data Symbol : Type 0 where
  word : List ℕ → Symbol
  number : (digits : List ℕ) → Symbol
  string : List Bool → Symbol
  mark : TokenKind → Symbol

-- the bits of a bit string, whose last digit is the lowest
abbrev pub bits_in : List ℕ → List Bool
bits_in text = reverse (map (λ b. b == 49) (filter is_bit text))

-- the symbol of a token of a kind with its bytes
abbrev pub symbol_of : TokenKind × List ℕ → Symbol
symbol_of (kind.Word, text) = word (map to_ascii_lowercase text)
symbol_of (kind.Number, text) = number text
symbol_of (kind.Bits, text) = string (bits_in text)
symbol_of (k, text) = mark k

-- the symbols of the tokens of a text
abbrev pub symbols : (bytes : List ℕ) → List Token → List Symbol
symbols bytes ts = map symbol_of (map (spelled bytes) ts)

abbrev pub is_semicolon : Symbol → Bool
is_semicolon (mark kind.Semicolon) = true
is_semicolon _ = false

-- a symbol at the front of the first piece
abbrev pub onto : Symbol → List (List Symbol) → List (List Symbol)
onto s [] = (s ∷ []) ∷ []
onto s (piece ∷ more) = (s ∷ piece) ∷ more

-- the pieces of a text: it is cut after each semicolon, and what is left after the last is a piece too, where a symbol is left
abbrev pub pieces : List Symbol → List (List Symbol)
pieces [] = []
pieces (s ∷ ss) = if is_semicolon s then (s ∷ []) ∷ pieces ss else onto s (pieces ss)
