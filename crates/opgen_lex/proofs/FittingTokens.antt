-- What the tokens of a text are.
use Rattle.std.specs.Prelude.{codes}
use Rattle.std.specs.Char.{is_ascii_digit}
use Rattle.std.proofs.Common.{◌≡◌, ℕ, ◌+◌, ◌≤◌, true, List, length, refl, arith, length-append}
use Rattle.std.proofs.lemmas.List.Sums.{list_all-from_AllPass}
use Rattle.opgen_num.specs.declared.format.TheConstants.{MAX_WIDTH}
use Rattle.opgen_vhdl.specs.declared.kind.TokenKind.{TokenKind}
use Rattle.opgen_vhdl.specs.declared.kind.TokenKind.TheVariants.{Word, Number, Bits, ZeroChar, LeftParen, RightParen, Semicolon, Colon, Comma, Dot, Ampersand, Plus, Minus, Equal, LessEqual, Arrow, Becomes}
use Rattle.opgen_vhdl.specs.Tokens.{IsToken}
use Rattle.opgen_lex.specs.First.{IsFirstToken}
use Rattle.opgen_lex.specs.Fits.{has_digits_if_number}
use Rattle.opgen_lex.proofs.SymbolsIn.{first-stands}

short : (kind : TokenKind) (text rest : List ℕ) → IsToken kind text rest → length text ≤ MAX_WIDTH + 2
short Word text rest t = omega (arith, t.short)
short Number text rest t = omega (arith, t.short)
short Bits text rest t = rw t.quoted (omega (arith, length-append t.digits (codes "\""), t.short))
short ZeroChar text rest t = rw t (omega arith)
short LeftParen text rest t = rw t (omega arith)
short RightParen text rest t = rw t (omega arith)
short Semicolon text rest t = rw t (omega arith)
short Colon text rest t = rw t.0 (omega arith)
short Comma text rest t = rw t (omega arith)
short Dot text rest t = rw t (omega arith)
short Ampersand text rest t = rw t (omega arith)
short Plus text rest t = rw t (omega arith)
short Minus text rest t = rw t.0 (omega arith)
short Equal text rest t = rw t.0 (omega arith)
short LessEqual text rest t = rw t (omega arith)
short Arrow text rest t = rw t (omega arith)
short Becomes text rest t = rw t (omega arith)

numeral : (kind : TokenKind) (text rest : List ℕ) → IsToken kind text rest → has_digits_if_number kind text ≡ true
numeral Word text rest t = refl
numeral Number text rest t = list_all-from_AllPass is_ascii_digit text t.bytes
numeral Bits text rest t = refl
numeral ZeroChar text rest t = refl
numeral LeftParen text rest t = refl
numeral RightParen text rest t = refl
numeral Semicolon text rest t = refl
numeral Colon text rest t = refl
numeral Comma text rest t = refl
numeral Dot text rest t = refl
numeral Ampersand text rest t = refl
numeral Plus text rest t = refl
numeral Minus text rest t = refl
numeral Equal text rest t = refl
numeral LessEqual text rest t = refl
numeral Arrow text rest t = refl
numeral Becomes text rest t = refl

pub first-short : (bytes : List ℕ) (kind : TokenKind) (text rest : List ℕ) → IsFirstToken bytes kind text rest
    → length text ≤ MAX_WIDTH + 2
first-short bytes kind text rest f = let s = first-stands bytes kind text rest f in short kind text s.next s.stands

pub first-numeral : (bytes : List ℕ) (kind : TokenKind) (text rest : List ℕ) → IsFirstToken bytes kind text rest
    → has_digits_if_number kind text ≡ true
first-numeral bytes kind text rest f = let s = first-stands bytes kind text rest f in numeral kind text s.next s.stands
