-- What the first symbol is, by the kind and the text of its token.
use Rattle.std.specs.Prelude.{if◌then◌else◌, nat_lt}
use Rattle.std.specs.Char.{to_ascii_lowercase}
use Rattle.std.specs.Str.{bytes_eq}
use Rattle.std.proofs.Common.{◌≡◌, ℕ, true, false, ◌&&◌, List, ◌∷◌, map, Some, None, refl}
use Rattle.opgen_num.specs.declared.format.TheConstants.{MAX_WIDTH}
use Rattle.opgen_vhdl.specs.declared.kind.TokenKind.{TokenKind}
use Rattle.opgen_vhdl.specs.declared.kind.TokenKind.TheVariants.{Word, Number, Bits, ZeroChar, LeftParen, RightParen, Semicolon, Colon, Comma, Dot, Ampersand, Plus, Minus, Equal, LessEqual, Arrow, Becomes}
use Rattle.opgen_vhdl.specs.Symbols.{Symbol, symbol_of, bits_in, word, number, mark, is_semicolon}
use Rattle.opgen_vhdl.specs.Grammar.{value}
use Rattle.opgen_vhdl.specs.Reader.{eat, index_at, string_at, same_kind, is_mark}

pub eat_word : (w : List ℕ) (k : TokenKind) (text : List ℕ) (rest : List Symbol) → eat (word w) (symbol_of (k, text) ∷ rest)
    ≡ (if same_kind k Word && bytes_eq w (map to_ascii_lowercase text) then Some rest else None)
eat_word w Word text rest = refl
eat_word w Number text rest = refl
eat_word w Bits text rest = refl
eat_word w ZeroChar text rest = refl
eat_word w LeftParen text rest = refl
eat_word w RightParen text rest = refl
eat_word w Semicolon text rest = refl
eat_word w Colon text rest = refl
eat_word w Comma text rest = refl
eat_word w Dot text rest = refl
eat_word w Ampersand text rest = refl
eat_word w Plus text rest = refl
eat_word w Minus text rest = refl
eat_word w Equal text rest = refl
eat_word w LessEqual text rest = refl
eat_word w Arrow text rest = refl
eat_word w Becomes text rest = refl

pub eat_number : (w : List ℕ) (k : TokenKind) (text : List ℕ) (rest : List Symbol) → eat (number w) (symbol_of (k, text) ∷ rest)
    ≡ (if same_kind k Number && bytes_eq w text then Some rest else None)
eat_number w Word text rest = refl
eat_number w Number text rest = refl
eat_number w Bits text rest = refl
eat_number w ZeroChar text rest = refl
eat_number w LeftParen text rest = refl
eat_number w RightParen text rest = refl
eat_number w Semicolon text rest = refl
eat_number w Colon text rest = refl
eat_number w Comma text rest = refl
eat_number w Dot text rest = refl
eat_number w Ampersand text rest = refl
eat_number w Plus text rest = refl
eat_number w Minus text rest = refl
eat_number w Equal text rest = refl
eat_number w LessEqual text rest = refl
eat_number w Arrow text rest = refl
eat_number w Becomes text rest = refl

pub index_first : (k : TokenKind) (text : List ℕ) (rest : List Symbol) → index_at (symbol_of (k, text) ∷ rest)
    ≡ (if same_kind k Number then (if nat_lt (value text) MAX_WIDTH then Some (value text, rest) else None) else None)
index_first Word text rest = refl
index_first Number text rest = refl
index_first Bits text rest = refl
index_first ZeroChar text rest = refl
index_first LeftParen text rest = refl
index_first RightParen text rest = refl
index_first Semicolon text rest = refl
index_first Colon text rest = refl
index_first Comma text rest = refl
index_first Dot text rest = refl
index_first Ampersand text rest = refl
index_first Plus text rest = refl
index_first Minus text rest = refl
index_first Equal text rest = refl
index_first LessEqual text rest = refl
index_first Arrow text rest = refl
index_first Becomes text rest = refl

pub string_first : (k : TokenKind) (text : List ℕ) (rest : List Symbol) → string_at (symbol_of (k, text) ∷ rest)
    ≡ (if same_kind k Bits then Some (bits_in text, rest) else None)
string_first Word text rest = refl
string_first Number text rest = refl
string_first Bits text rest = refl
string_first ZeroChar text rest = refl
string_first LeftParen text rest = refl
string_first RightParen text rest = refl
string_first Semicolon text rest = refl
string_first Colon text rest = refl
string_first Comma text rest = refl
string_first Dot text rest = refl
string_first Ampersand text rest = refl
string_first Plus text rest = refl
string_first Minus text rest = refl
string_first Equal text rest = refl
string_first LessEqual text rest = refl
string_first Arrow text rest = refl
string_first Becomes text rest = refl

pub semicolon_first : (k : TokenKind) (text : List ℕ) → is_semicolon (symbol_of (k, text)) ≡ same_kind k Semicolon
semicolon_first Word text = refl
semicolon_first Number text = refl
semicolon_first Bits text = refl
semicolon_first ZeroChar text = refl
semicolon_first LeftParen text = refl
semicolon_first RightParen text = refl
semicolon_first Semicolon text = refl
semicolon_first Colon text = refl
semicolon_first Comma text = refl
semicolon_first Dot text = refl
semicolon_first Ampersand text = refl
semicolon_first Plus text = refl
semicolon_first Minus text = refl
semicolon_first Equal text = refl
semicolon_first LessEqual text = refl
semicolon_first Arrow text = refl
semicolon_first Becomes text = refl

no_others : (m : TokenKind) → is_mark m ≡ true → (same_kind m Word ≡ false) × (same_kind m Number ≡ false) × (same_kind m Bits ≡ false)
no_others Word h = cc
no_others Number h = cc
no_others Bits h = cc
no_others ZeroChar h = (refl, refl, refl)
no_others LeftParen h = (refl, refl, refl)
no_others RightParen h = (refl, refl, refl)
no_others Semicolon h = (refl, refl, refl)
no_others Colon h = (refl, refl, refl)
no_others Comma h = (refl, refl, refl)
no_others Dot h = (refl, refl, refl)
no_others Ampersand h = (refl, refl, refl)
no_others Plus h = (refl, refl, refl)
no_others Minus h = (refl, refl, refl)
no_others Equal h = (refl, refl, refl)
no_others LessEqual h = (refl, refl, refl)
no_others Arrow h = (refl, refl, refl)
no_others Becomes h = (refl, refl, refl)

pub eat_mark : (m k : TokenKind) (text : List ℕ) (rest : List Symbol) → is_mark m ≡ true → eat (mark m) (symbol_of (k, text) ∷ rest)
    ≡ (if same_kind m k then Some rest else None)
eat_mark m Word text rest h = let n = no_others m h in rw n.0 refl
eat_mark m Number text rest h = let n = no_others m h in rw n.1 refl
eat_mark m Bits text rest h = let n = no_others m h in rw n.2 refl
eat_mark m ZeroChar text rest h = refl
eat_mark m LeftParen text rest h = refl
eat_mark m RightParen text rest h = refl
eat_mark m Semicolon text rest h = refl
eat_mark m Colon text rest h = refl
eat_mark m Comma text rest h = refl
eat_mark m Dot text rest h = refl
eat_mark m Ampersand text rest h = refl
eat_mark m Plus text rest h = refl
eat_mark m Minus text rest h = refl
eat_mark m Equal text rest h = refl
eat_mark m LessEqual text rest h = refl
eat_mark m Arrow text rest h = refl
eat_mark m Becomes text rest h = refl
