-- Names, numbers and bit strings are cut into one token each.
use Rattle.std.proofs.Common.{◌≡◌, ℕ, ◌<◌, ◌==◌, ◌&&◌, Bool, true, false, not, nat_le, List, [], ◌∷◌, ◌++◌, length, map, reverse, filter, codes, decimal, IsTrue, refl, ap, sym, ◌∙◌, subst, arith, append_assoc, append-nil, length-append}
use Rattle.std.specs.Char.{is_ascii_alphabetic, is_ascii_lowercase, is_ascii_digit, to_ascii_lowercase, digit_value}
use Rattle.std.specs.List.{list_all}
use Rattle.std.specs.Str.Parse.{AllDigits}
use Rattle.std.proofs.lemmas.Bool.{and_parts, leb-true}
use Rattle.std.proofs.lemmas.Bool.Decides.{nat_tests}
use Rattle.std.proofs.lemmas.Fmt.{decimal_is_IsNumeral, length-decimal-le}
use Rattle.std.proofs.lemmas.List.{map-append, reverse-append, reverse-reverse}
use Rattle.std.proofs.lemmas.List.Elements.{filter-append}
use Rattle.std.proofs.lemmas.List.Folds.{list_all-append}
use Rattle.std.proofs.lemmas.List.Sums.{AllPass-from_list_all}
use Rattle.opgen_num.specs.declared.format.TheConstants.{MAX_WIDTH}
use Rattle.opgen_names.specs.Names.{is_allowed_name, is_name_byte, is_identifier, is_refused, starts_with_letter, has_single_underscores}
use Rattle.opgen_names.proofs.LowerCase.{lower-all}
use Rattle.opgen_design.specs.Value.{IsWidth}
use Rattle.opgen_vhdl.specs.Tokens.{is_word_byte, is_bit, begins, IsWord, IsBits}
use Rattle.opgen_vhdl.specs.Symbols.{Symbol, word, number, string, mark, bits_in}
use Rattle.opgen_vhdl.specs.ExpressionText.{bits_text, word_text, range_text}
use Rattle.opgen_vhdl.specs.Grammar.{value}
use Rattle.opgen_vhdl.specs.declared.kind.TokenKind.TheVariants.{Word, Number, Bits, LeftParen, RightParen}
use Rattle.opgen_write.proofs.Lexing.{Lexes, lexes_token, lexes_found}

-- names

letter : (c : ℕ) → is_ascii_lowercase c ≡ true → is_ascii_alphabetic c ≡ true
letter c h = grind (arith, nat_tests)

name_byte : (c : ℕ) → is_name_byte c ≡ true → is_word_byte c ≡ true
name_byte c h = grind (arith, nat_tests)

begins_letter : (n : List ℕ) → starts_with_letter n ≡ true → begins is_ascii_alphabetic n ≡ true
begins_letter [] h = h
begins_letter (c ∷ cs) h = letter c h

name_bytes : (n : List ℕ) → list_all is_name_byte n ≡ true → list_all is_word_byte n ≡ true
name_bytes [] h = refl
name_bytes (c ∷ cs) h =
    let (here, more) = and_parts (is_name_byte c) (list_all is_name_byte cs) h in
    rw (name_byte c here, name_bytes cs more) refl

module _ (n rest : List ℕ) (allowed : IsTrue (is_allowed_name n)) (stops : begins is_word_byte rest ≡ false) where
  short_and_identifier : (nat_le (length n) 64 && is_identifier n) ≡ true
  short_and_identifier = (and_parts (nat_le (length n) 64 && is_identifier n) (not (is_refused n)) allowed).0

  short : nat_le (length n) 64 ≡ true
  short = (and_parts (nat_le (length n) 64) (is_identifier n) short_and_identifier).0

  identifier : is_identifier n ≡ true
  identifier = (and_parts (nat_le (length n) 64) (is_identifier n) short_and_identifier).1

  first_and_bytes : (starts_with_letter n && list_all is_name_byte n) ≡ true
  first_and_bytes = (and_parts (starts_with_letter n && list_all is_name_byte n) (has_single_underscores n) identifier).0

  bytes : list_all is_name_byte n ≡ true
  bytes = (and_parts (starts_with_letter n) (list_all is_name_byte n) first_and_bytes).1

  name_is_word : IsWord n rest
  name_is_word = record {
    letter = begins_letter n (and_parts (starts_with_letter n) (list_all is_name_byte n) first_and_bytes).0;
    bytes = AllPass-from_list_all is_word_byte n (name_bytes n bytes);
    single = (and_parts (starts_with_letter n && list_all is_name_byte n) (has_single_underscores n) identifier).1;
    short = leb-true (length n) 64 short;
    stops = stops;
  }

  -- an allowed name is a word, and the same in lower case
  pub lexes_name : (ks : List Symbol) → Lexes rest ks → Lexes (n ++ rest) (word n ∷ ks)
  lexes_name ks l = subst (λ u. Lexes (n ++ rest) (word u ∷ ks)) (lower-all n bytes) (lexes_token Word n rest ks name_is_word l)

-- a word in lower case, before a rest that begins with no word byte
pub lexes_keyword : (n rest : List ℕ) (ks : List Symbol) → begins is_ascii_alphabetic n ≡ true → list_all is_word_byte n ≡ true
    → has_single_underscores n ≡ true → nat_le (length n) 64 ≡ true
    → map to_ascii_lowercase n ≡ n → begins is_word_byte rest ≡ false → Lexes rest ks → Lexes (n ++ rest) (word n ∷ ks)
lexes_keyword n rest ks letter bytes single short lowercase stops l =
    let is_word : IsWord n rest =
    record {
      letter = letter;
      bytes = AllPass-from_list_all is_word_byte n bytes;
      single = single;
      short = leb-true (length n) 64 short;
      stops = stops;
    } in
    subst (λ u. Lexes (n ++ rest) (word u ∷ ks)) lowercase (lexes_token Word n rest ks is_word l)

-- numbers

digit : (c : ℕ) → digit_value c < 10 → is_ascii_digit c ≡ true
digit c h = grind (arith, nat_tests)

digits : (ds : List ℕ) → AllDigits 10 ds → list_all is_ascii_digit ds ≡ true
digits [] h = refl
digits (c ∷ cs) h = rw (digit c h.0, digits cs h.1) refl

-- the digits of the number of a bit stand for it, and are a number where no word byte follows
pub value_of-decimal : (n : ℕ) → n < MAX_WIDTH → value (decimal n) ≡ n
value_of-decimal n h = (decimal_is_IsNumeral n (omega (arith, h))).1

pub lexes_number : (n : ℕ) (rest : List ℕ) (ks : List Symbol) → n < MAX_WIDTH → begins is_word_byte rest ≡ false → Lexes rest ks
    → Lexes (decimal n ++ rest) (number (decimal n) ∷ ks)
lexes_number n rest ks h stops l =
    let numeral = (decimal_is_IsNumeral n (omega (arith, h))).0 in
    let short = length-decimal-le 2 n (omega arith) (omega (arith, h)) (omega (arith, h)) in
    lexes_token Number (decimal n) rest ks (record {
      some = numeral.0;
      short = omega (arith, short);
      bytes = AllPass-from_list_all is_ascii_digit (decimal n) (digits (decimal n) numeral.1);
      stops = stops;
    }) l

-- the range of bits, whose texts end themselves
pub lexes_range : (high low : ℕ) (rest : List ℕ) (ks : List Symbol) → high < MAX_WIDTH → low < MAX_WIDTH → Lexes rest ks
    → Lexes (range_text high low ++ rest) (mark LeftParen ∷ number (decimal high) ∷ word (codes "downto") ∷ number
    (decimal low) ∷ mark RightParen ∷ ks)
unfolding range_text
lexes_range high low rest ks h k l =
    let closed = lexes_found 1 (codes ")" ++ rest) rest (mark RightParen ∷ []) ks refl l in
    let second = lexes_number low (codes ")" ++ rest) _ k refl closed in
    let middle = lexes_found 3 (codes " downto " ++ (decimal low ++ (codes ")" ++ rest))) (decimal low ++ (codes ")" ++ rest))
    (word (codes "downto") ∷ []) _ refl second in
    let first = lexes_number high (codes " downto " ++ (decimal low ++ (codes ")" ++ rest))) _ h refl middle in
    let whole = lexes_found 1 (codes "(" ++ (decimal high ++ (codes " downto " ++ (decimal low ++ (codes ")" ++ rest))))) _
    (mark LeftParen ∷ []) _ refl first in
    let text : range_text high low ++ rest ≡ codes "(" ++ (decimal high ++ (codes " downto " ++ (decimal low ++ (codes ")" ++ rest)))) =
    simp append_assoc in
    rw text whole

-- bit strings

length-bits_text : (w : List Bool) → length (bits_text w) ≡ length w
length-bits_text [] = refl
length-bits_text (true ∷ w) = omega (arith, length-append (bits_text w) (codes "1"), length-bits_text w)
length-bits_text (false ∷ w) = omega (arith, length-append (bits_text w) (codes "0"), length-bits_text w)

bits_are_bits : (w : List Bool) → list_all is_bit (bits_text w) ≡ true
bits_are_bits [] = refl
bits_are_bits (true ∷ w) = list_all-append is_bit (bits_text w) (codes "1") ∙ ap (λ b. b && true) (bits_are_bits w)
bits_are_bits (false ∷ w) = list_all-append is_bit (bits_text w) (codes "0") ∙ ap (λ b. b && true) (bits_are_bits w)

values : List ℕ → List Bool
values text = map (λ b. b == 49) (filter is_bit text)

values-append : (a b : List ℕ) → values (a ++ b) ≡ values a ++ values b
unfolding values
values-append a b = ap (map (λ b. b == 49)) (filter-append is_bit a b) ∙ map-append (λ b. b == 49) (filter is_bit a) (filter is_bit b)

values-bits_text : (w : List Bool) → values (bits_text w) ≡ reverse w
unfolding values
values-bits_text [] = refl
values-bits_text (true ∷ w) = values-append (bits_text w) (codes "1") ∙ ap (λ u. u ++ true ∷ []) (values-bits_text w)
    ∙ sym (reverse-append (true ∷ []) w)
values-bits_text (false ∷ w) = values-append (bits_text w) (codes "0") ∙ ap (λ u. u ++ false ∷ []) (values-bits_text w)
    ∙ sym (reverse-append (false ∷ []) w)

-- the bit string of a word has its bits
bits_in-word_text : (w : List Bool) → bits_in (word_text w) ≡ w
unfolding word_text values
bits_in-word_text w =
    let read : values (bits_text w ++ codes "\"") ≡ reverse w = values-append (bits_text w) (codes "\"")
    ∙ append-nil (values (bits_text w)) ∙ values-bits_text w in
    ap reverse read ∙ reverse-reverse w

word_text-is_bits : (w : List Bool) → IsWidth (length w) → IsBits (word_text w)
unfolding word_text
word_text-is_bits w width = record {
  digits = bits_text w;
  quoted = refl;
  some = omega (arith, width.0, length-bits_text w);
  short = omega (arith, width.1, length-bits_text w);
  bytes = AllPass-from_list_all is_bit (bits_text w) (bits_are_bits w);
}

pub lexes_word : (w : List Bool) (rest : List ℕ) (ks : List Symbol) → IsWidth (length w) → Lexes rest ks
    → Lexes (word_text w ++ rest) (string w ∷ ks)
lexes_word w rest ks width l =
    subst (λ u. Lexes (word_text w ++ rest) (string u ∷ ks)) (bits_in-word_text w)
    (lexes_token Bits (word_text w) rest ks (word_text-is_bits w width) l)
