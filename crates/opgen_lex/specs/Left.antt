-- The symbols that are left to read, up to the end of a text or its first faulty byte.
use Rattle.std.specs.Prelude.{ℕ, List, [], ◌∷◌, map, option_map, ◌⊎◌, Option, Some, None}
use Rattle.std.specs.Borrow.{Bor}
use Rattle.std.proofs.Common.{inl, inr}
use Rattle.opgen_vhdl.specs.declared.kind.Token.{Token}
use Rattle.opgen_vhdl.specs.declared.kind.TokenKind.{TokenKind}
use Rattle.opgen_vhdl.specs.Symbols.{spellings_of, Symbol, symbol_of}
use Rattle.opgen_vhdl.specs.Tokens.{Element, Tokens, LexicalAt}
use Rattle.opgen_vhdl.proofs.CutLemmas.{has_reading}
use Rattle.opgen_lex.specs.declared.cursor.Cursor.{Cursor}
use Rattle.opgen_lex.specs.declared.phrase.Phrase.{Phrase}

-- the elements of a text up to its end, or up to where nothing starts
abbrev pub elements_of : {bytes : List ℕ} → ((ts : List Token) × Tokens bytes ts) ⊎ ((n : ℕ) × LexicalAt bytes n) → List Element
elements_of (inl t) = t.1.elements
elements_of (inr l) = l.1.elements

-- the symbols of a text up to its end, or up to where nothing starts
unfoldable pub symbols_in : List ℕ → List Symbol
symbols_in bytes = map symbol_of (spellings_of (elements_of (has_reading bytes)))

-- the symbols from the first token on, which is given by its kind, its text and the bytes behind it
unfoldable pub symbols_from : Option (TokenKind × Bor (List ℕ) × Bor (List ℕ)) → List Symbol
symbols_from None = []
symbols_from (Some t) = symbol_of (t.0, t.1.now) ∷ symbols_in t.2.now

-- the symbols that a cursor has before it
abbrev pub left : Cursor → List Symbol
left c = symbols_from c.first

-- the symbols that stand behind a phrase, where it was read
abbrev pub left_behind : Phrase → Option (List Symbol)
left_behind p = option_map left p.rest
