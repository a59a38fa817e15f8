-- What is at the front of a text (white space, a comment or a token), as a function of its bytes.
use Rattle.std.specs.Prelude.{ℕ, ◌+◌, ◌==◌, ◌&&◌, ◌≤◌, ◌<◌, not, List, [], ◌∷◌, Option, Some, None, length, take, drop, nat_le, if◌then◌else◌}
use Rattle.std.specs.Char.{is_ascii_alphabetic, is_ascii_digit}
use Rattle.std.specs.List.{prefix_len}
use Rattle.opgen_names.specs.declared.TheConstants.{MAX_NAME_LEN}
use Rattle.opgen_num.specs.declared.format.TheConstants.{MAX_WIDTH}
use Rattle.opgen_vhdl.specs.Tokens.{is_white, is_word_byte, is_in_line, is_bit, is_hyphen, is_equals, is_greater, is_quote, has_single_underscores, begins, Element, gap, token, Stands, NothingStarts}
use Rattle.opgen_vhdl.specs.declared.kind.TokenKind.TheVariants.{Word, Number, Bits, ZeroChar, LeftParen, RightParen, Semicolon, Colon, Comma, Dot, Ampersand, Plus, Minus, Equal, LessEqual, Arrow, Becomes}
use Rattle.opgen_vhdl.specs.declared.kind.Front.{Front}
use Rattle.opgen_vhdl.specs.declared.kind.Front.TheVariants.{Gap, Token}

-- the word that these bytes begin with, where their first is a letter
abbrev pub word_front : List ℕ → Option Front
word_front bytes =
    let n = prefix_len is_word_byte bytes in
    if nat_le n MAX_NAME_LEN && has_single_underscores (take n bytes) then Some (Token Word n) else None

-- the number that these bytes begin with, where their first is a digit
abbrev pub number_front : List ℕ → Option Front
number_front bytes =
    let n = prefix_len is_ascii_digit bytes in
    if nat_le n 9 && not (begins is_word_byte (drop n bytes)) then Some (Token Number n) else None

-- the bit string that a double quote and these bytes begin with
abbrev pub bits_front : List ℕ → Option Front
bits_front bytes =
    let n = prefix_len is_bit bytes in
    if nat_le 1 n && nat_le n MAX_WIDTH && begins is_quote (drop n bytes) then Some (Token Bits (n + 2)) else None

-- the character literal that a single quote and these bytes begin with
abbrev pub char_front : List ℕ → Option Front
char_front (b ∷ c ∷ _) = if b == 48 && c == 39 then Some (Token ZeroChar 3) else None
char_front _ = None

-- the comment or the minus that a hyphen and these bytes begin with
abbrev pub hyphen_front : List ℕ → Option Front
hyphen_front bytes = if begins is_hyphen bytes then Some (Gap (2 + prefix_len is_in_line (drop 1 bytes))) else Some (Token Minus 1)

-- the mark that a byte and the bytes behind it begin with: ( ) ; , . & + := : => = <=
abbrev pub mark_front : ℕ → List ℕ → Option Front
mark_front b bs =
    if b == 40 then Some (Token LeftParen 1)
    else (if b == 41 then Some (Token RightParen 1)
    else (if b == 59 then Some (Token Semicolon 1)
    else (if b == 44 then Some (Token Comma 1)
    else (if b == 46 then Some (Token Dot 1)
    else (if b == 38 then Some (Token Ampersand 1)
    else (if b == 43 then Some (Token Plus 1)
    else (if b == 58 then (if begins is_equals bs then Some (Token Becomes 2) else Some (Token Colon 1))
    else (if b == 61 then (if begins is_greater bs then Some (Token Arrow 2) else Some (Token Equal 1))
    else (if b == 60 then (if begins is_equals bs then Some (Token LessEqual 2) else None)
    else None)))))))))

abbrev pub front_of : List ℕ → Option Front
front_of [] = None
front_of (b ∷ bs) =
    if is_white b then Some (Gap 1)
    else (if is_ascii_alphabetic b then word_front (b ∷ bs)
    else (if is_ascii_digit b then number_front (b ∷ bs)
    else (if is_quote b then bits_front bs
    else (if b == 39 then char_front bs
    else (if is_hyphen b then hyphen_front bs
    else mark_front b bs)))))

-- the first n bytes, one at least, are that element where the others follow it
abbrev pub StandsFor : List ℕ → ℕ → Element → Type 0
StandsFor bytes n e = (0 < n) × (n ≤ length bytes) × Stands e (drop n bytes)

-- what was found stands at the front of the bytes, and where nothing was found, nothing starts there
abbrev pub FrontStands : List ℕ → Option Front → Type 0
FrontStands bytes None = NothingStarts bytes
FrontStands bytes (Some (Gap n)) = StandsFor bytes n (gap (take n bytes))
FrontStands bytes (Some (Token kind n)) = StandsFor bytes n (token kind (take n bytes))
