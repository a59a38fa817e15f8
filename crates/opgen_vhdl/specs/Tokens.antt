-- The tokens of a text, as a relation between the whole text and the list (IEEE 1076-1993, clause 13, in part).
use Rattle.std.specs.Prelude.{◌≡◌, ◌⊎◌, ℕ, ◌+◌, ◌≤◌, ◌<◌, true, false, List, [], ◌∷◌, ◌++◌, length, codes, ◌==◌, ◌||◌, Bool, not}
use Rattle.std.specs.Char.{is_ascii_alphabetic, is_ascii_digit}
use Rattle.std.specs.List.{AllPass}
use Rattle.opgen_names.specs.declared.TheConstants.{MAX_NAME_LEN}
use Rattle.opgen_num.specs.declared.format.TheConstants.{MAX_WIDTH}
use Rattle.opgen_vhdl.specs.declared.kind.TokenKind.{TokenKind}
use Rattle.opgen_vhdl.specs.declared.kind.TokenKind.TheVariants.{Word, Number, Bits, ZeroChar, LeftParen, RightParen, Semicolon, Colon, Comma, Dot, Ampersand, Plus, Minus, Equal, LessEqual, Arrow, Becomes}
use Rattle.opgen_vhdl.specs.declared.kind.Token.{Token}
pub use Rattle.opgen_names.specs.Names.{is_underscore, ends_with_underscore, has_double_underscore, has_single_underscores}

-- space, tab, carriage return, line feed
abbrev pub is_white : ℕ → Bool
is_white b = b == 32 || b == 9 || b == 13 || b == 10

-- a letter of either case, a digit or an underscore
abbrev pub is_word_byte : ℕ → Bool
is_word_byte b = is_ascii_alphabetic b || is_ascii_digit b || is_underscore b

-- `0` or `1`
abbrev pub is_bit : ℕ → Bool
is_bit b = b == 48 || b == 49

-- not a line feed
abbrev pub is_in_line : ℕ → Bool
is_in_line b = not (b == 10)

abbrev pub is_hyphen : ℕ → Bool
is_hyphen b = b == 45

abbrev pub is_equals : ℕ → Bool
is_equals b = b == 61

abbrev pub is_greater : ℕ → Bool
is_greater b = b == 62

-- a double quote
abbrev pub is_quote : ℕ → Bool
is_quote b = b == 34

-- whether there is a first byte, and it passes the test
abbrev pub begins : (ℕ → Bool) → List ℕ → Bool
begins p [] = false
begins p (b ∷ _) = p b

-- A word, where the rest follows it: a letter and all the letters, digits and underscores behind it. They are
-- no more bytes than a name may have, no underscore is the last of them, and no two stand side by side.
pub record IsWord (text rest : List ℕ) : Type 0 where
  pub letter : begins is_ascii_alphabetic text ≡ true
  pub bytes : AllPass is_word_byte text
  pub single : has_single_underscores text ≡ true
  pub short : length text ≤ MAX_NAME_LEN
  pub stops : begins is_word_byte rest ≡ false

-- A number, where the rest follows it: one to nine digits, with no digit, letter or underscore behind them.
pub record IsNumber (text rest : List ℕ) : Type 0 where
  pub some : 0 < length text
  pub short : length text ≤ 9
  pub bytes : AllPass is_ascii_digit text
  pub stops : begins is_word_byte rest ≡ false

-- A bit string: one or more of `0` and `1` between double quotes, at most as many as a signal may have bits.
pub record IsBits (text : List ℕ) : Type 0 where
  pub digits : List ℕ
  pub quoted : text ≡ codes "\"" ++ (digits ++ codes "\"")
  pub some : 0 < length digits
  pub short : length digits ≤ MAX_WIDTH
  pub bytes : AllPass is_bit digits

-- The text is a token of the kind, where the rest follows it. A mark that begins a longer mark stands only where
-- the longer one does not, and a hyphen only where no other hyphen follows, since two begin a comment.
abbrev pub IsToken : TokenKind → List ℕ → List ℕ → Type 0
IsToken Word text rest = IsWord text rest
IsToken Number text rest = IsNumber text rest
IsToken Bits text rest = IsBits text
IsToken ZeroChar text rest = text ≡ codes "'0'"
IsToken LeftParen text rest = text ≡ codes "("
IsToken RightParen text rest = text ≡ codes ")"
IsToken Semicolon text rest = text ≡ codes ";"
IsToken Colon text rest = (text ≡ codes ":") × (begins is_equals rest ≡ false)
IsToken Comma text rest = text ≡ codes ","
IsToken Dot text rest = text ≡ codes "."
IsToken Ampersand text rest = text ≡ codes "&"
IsToken Plus text rest = text ≡ codes "+"
IsToken Minus text rest = (text ≡ codes "-") × (begins is_hyphen rest ≡ false)
IsToken Equal text rest = (text ≡ codes "=") × (begins is_greater rest ≡ false)
IsToken LessEqual text rest = text ≡ codes "<="
IsToken Arrow text rest = text ≡ codes "=>"
IsToken Becomes text rest = text ≡ codes ":="

-- one byte of white space
pub record IsSpace (text : List ℕ) : Type 0 where
  pub byte : ℕ
  pub alone : text ≡ byte ∷ []
  pub white : is_white byte ≡ true

-- A comment, where the rest follows it: two hyphens and all bytes behind them up to the next line feed or the end.
pub record IsComment (text rest : List ℕ) : Type 0 where
  pub body : List ℕ
  pub marked : text ≡ codes "--" ++ body
  pub bytes : AllPass is_in_line body
  pub stops : begins is_in_line rest ≡ false

-- A lexical element with its text: a gap, which is white space or a comment, or a token.
pub data Element : Type 0 where
  gap : List ℕ → Element
  token : TokenKind → List ℕ → Element

abbrev pub text_of : Element → List ℕ
text_of (gap text) = text
text_of (token _ text) = text

-- the element stands where the rest follows it
abbrev pub Stands : Element → List ℕ → Type 0
Stands (gap text) rest = IsSpace text ⊎ IsComment text rest
Stands (token kind text) rest = IsToken kind text rest

-- the bytes are these elements one after the other, and then the rest
abbrev pub Cut : List Element → List ℕ → List ℕ → Type 0
Cut [] bytes rest = bytes ≡ rest
Cut (e ∷ es) bytes rest = (next : List ℕ) × (bytes ≡ text_of e ++ next) × Stands e next × Cut es next rest

-- how many bytes the elements have
abbrev pub size_of : List Element → ℕ
size_of [] = 0
size_of (e ∷ es) = length (text_of e) + size_of es

-- the tokens among the elements, where the first element stands at that offset
abbrev pub tokens_from : ℕ → List Element → List Token
tokens_from at [] = []
tokens_from at (gap text ∷ es) = tokens_from (at + length text) es
tokens_from at (token kind text ∷ es) = record { kind = kind; start = at; end = at + length text } ∷ tokens_from (at + length text) es

-- The bytes are the spellings of these tokens in order, with white space and comments between, before and after them.
pub record Tokens (bytes : List ℕ) (tokens : List Token) : Type 0 where
  pub elements : List Element
  pub cut : Cut elements bytes []
  pub listed : tokens_from 0 elements ≡ tokens

-- no token, no white space and no comment starts the bytes
abbrev pub NothingStarts : List ℕ → Type 0
NothingStarts bytes = (e : Element) (rest : List ℕ) → bytes ≡ text_of e ++ rest → Stands e rest → ⊥

-- Everything before the offset is tokens, white space and comments, and there, before the end, none of these starts.
pub record LexicalAt (bytes : List ℕ) (offset : ℕ) : Type 0 where
  pub elements : List Element
  pub rest : List ℕ
  pub cut : Cut elements bytes rest
  pub place : size_of elements ≡ offset
  pub more : 0 < length rest
  pub nothing : NothingStarts rest
