-- What the reader relies on in a token: its length is bounded, and a number has only digits.
use Rattle.std.specs.Prelude.{ℕ, ◌+◌, ◌&&◌, ◌||◌, Bool, true, not, List, length, nat_le, Option, Some, None}
use Rattle.std.specs.Borrow.{Bor}
use Rattle.std.specs.Char.{is_ascii_digit}
use Rattle.std.specs.List.{list_all}
use Rattle.opgen_num.specs.declared.format.TheConstants.{MAX_WIDTH}
use Rattle.opgen_vhdl.specs.declared.kind.TokenKind.{TokenKind}
use Rattle.opgen_vhdl.specs.declared.kind.TokenKind.TheVariants.{Number}
use Rattle.opgen_vhdl.specs.Reader.{same_kind}

-- a number has digits alone
abbrev pub has_digits_if_number : TokenKind → List ℕ → Bool
has_digits_if_number kind text = not (same_kind kind Number) || list_all is_ascii_digit text

-- where there is a first token, by its kind, its text and the bytes behind it, it is no longer than the longest bit string, and
-- a number has digits alone
abbrev pub fits : Option (TokenKind × Bor (List ℕ) × Bor (List ℕ)) → Bool
fits None = true
fits (Some t) = nat_le (length t.1.now) (MAX_WIDTH + 2) && has_digits_if_number t.0 t.1.now
