-- What `front_of` finds stands at the front, and it finds each element that stands there.
use Rattle.std.proofs.Common.{◌≡◌, ℕ, suc, zero, ◌+◌, ◌≤◌, ◌<◌, ◌==◌, ◌&&◌, Bool, true, false, not, cond, nat_le, List, [], ◌∷◌, ◌++◌, length, take, drop, Option, Some, None, refl, ap, sym, ◌∙◌, arith, inl, inr, append_assoc, append-nil, get_or, length-append, length-take-le}
use Rattle.std.specs.Char.{is_ascii_alphabetic, is_ascii_digit}
use Rattle.std.specs.List.{list_all, prefix_len}
use Rattle.std.proofs.lemmas.Bool.{cases_Bool, cases_lt, and_parts, false≢true, not-true, leb-true}
use Rattle.std.proofs.lemmas.Bool.Decides.{nat_tests}
use Rattle.std.proofs.lemmas.List.Sums.{AllPass-from_list_all, list_all-from_AllPass, prefix_len-le-length}
use Rattle.std.proofs.Math.Seq.{take-append_seam, drop-append_seam}
use Rattle.opgen_num.specs.declared.format.TheConstants.{MAX_WIDTH}
use Rattle.opgen_vhdl.specs.Tokens.{is_white, is_word_byte, is_in_line, is_bit, is_hyphen, is_equals, is_greater, is_quote, has_single_underscores, begins, Element, gap, token, text_of, Stands, IsToken, IsWord, IsNumber, NothingStarts}
use Rattle.opgen_vhdl.specs.Fronts.{front_of, word_front, number_front, bits_front, char_front, mark_front, FrontStands}
use Rattle.opgen_vhdl.specs.declared.kind.Front.{Front}
use Rattle.opgen_vhdl.specs.declared.kind.Front.TheVariants.{Gap, Token}
use Rattle.opgen_vhdl.specs.declared.kind.TokenKind.{TokenKind}
use Rattle.opgen_vhdl.specs.declared.kind.TokenKind.TheVariants.{Word, Number, Bits, ZeroChar, LeftParen, RightParen, Semicolon, Colon, Comma, Dot, Ampersand, Plus, Minus, Equal, LessEqual, Arrow, Becomes}

-- the classes of bytes

letter-not_white : (b : ℕ) → is_ascii_alphabetic b ≡ true → is_white b ≡ false
letter-not_white b h = grind (arith, nat_tests)

digit-not_white : (b : ℕ) → is_ascii_digit b ≡ true → is_white b ≡ false
digit-not_white b h = grind (arith, nat_tests)

digit-not_letter : (b : ℕ) → is_ascii_digit b ≡ true → is_ascii_alphabetic b ≡ false
digit-not_letter b h = grind (arith, nat_tests)

not_word_byte-not_digit : (b : ℕ) → is_word_byte b ≡ false → is_ascii_digit b ≡ false
not_word_byte-not_digit b h = grind (arith, nat_tests)

letter-word_byte : (b : ℕ) → is_ascii_alphabetic b ≡ true → is_word_byte b ≡ true
letter-word_byte b h = rw h refl

same : (b c : ℕ) → (b == c) ≡ true → b ≡ c
same b c h = grind (arith, nat_tests)

-- the longest prefix whose bytes pass a test

prefix_len-append_stops : (p : ℕ → Bool) (text rest : List ℕ) → list_all p text ≡ true → begins p rest ≡ false → prefix_len p (text ++ rest)
    ≡ length text
prefix_len-append_stops p [] [] all stops = refl
prefix_len-append_stops p [] (b ∷ bs) all stops = rw stops refl
prefix_len-append_stops p (b ∷ bs) rest all stops =
    let (here, more) = and_parts (p b) (list_all p bs) all in
    rw (here, prefix_len-append_stops p bs rest more stops) (omega arith)

prefix_len-cons : (p : ℕ → Bool) (b : ℕ) (bs : List ℕ) → p b ≡ true → prefix_len p (b ∷ bs) ≡ suc (prefix_len p bs)
prefix_len-cons p b bs h = rw h (omega arith)

prefix_len-none : (p : ℕ → Bool) (b : ℕ) (bs : List ℕ) → p b ≡ false → prefix_len p (b ∷ bs) ≡ 0
prefix_len-none p b bs h = rw h refl

prefix_passes : (p : ℕ → Bool) (bs : List ℕ) → list_all p (take (prefix_len p bs) bs) ≡ true
prefix_passes p [] = refl
prefix_passes p (b ∷ bs) = elim (cases_Bool (p b)) [
  | inl passes ↦ rw (prefix_len-cons p b bs passes, passes) (prefix_passes p bs)
  | inr fails ↦ rw (prefix_len-none p b bs fails) refl
]

prefix_stops : (p : ℕ → Bool) (bs : List ℕ) → begins p (drop (prefix_len p bs) bs) ≡ false
prefix_stops p [] = refl
prefix_stops p (b ∷ bs) = elim (cases_Bool (p b)) [
  | inl passes ↦ rw (prefix_len-cons p b bs passes) (prefix_stops p bs)
  | inr fails ↦ rw (prefix_len-none p b bs fails) fails
]

prefix_some : (p : ℕ → Bool) (bs : List ℕ) → begins p bs ≡ true → 0 < prefix_len p bs
prefix_some p [] h = absurd (false≢true h)
prefix_some p (b ∷ bs) h = rw (prefix_len-cons p b bs h) (omega arith)

-- each element that stands is found

abbrev pub front_of_element : Element → Front
front_of_element (gap text) = Gap (length text)
front_of_element (token kind text) = Token kind (length text)

not_word_byte-no_digit : (rest : List ℕ) → begins is_word_byte rest ≡ false → begins is_ascii_digit rest ≡ false
not_word_byte-no_digit [] h = refl
not_word_byte-no_digit (b ∷ bs) h = not_word_byte-not_digit b h

front_of-letter : (b : ℕ) (bs : List ℕ) → is_ascii_alphabetic b ≡ true → front_of (b ∷ bs) ≡ word_front (b ∷ bs)
front_of-letter b bs h = rw (letter-not_white b h, h) refl

front_of-digit : (b : ℕ) (bs : List ℕ) → is_ascii_digit b ≡ true → front_of (b ∷ bs) ≡ number_front (b ∷ bs)
front_of-digit b bs h = rw (digit-not_white b h, digit-not_letter b h, h) refl

module _ (text rest : List ℕ) where
  front-of_word : IsWord text rest → word_front (text ++ rest) ≡ Some (Token Word (length text))
  front-of_word w =
      let n = prefix_len-append_stops is_word_byte text rest (list_all-from_AllPass is_word_byte text w.bytes) w.stops in
      let short = w.short in
      rw (n, take-append_seam text rest, w.single) (grind (arith, nat_tests))

  front-of_number : IsNumber text rest → number_front (text ++ rest) ≡ Some (Token Number (length text))
  front-of_number d =
      let n = prefix_len-append_stops is_ascii_digit text rest (list_all-from_AllPass is_ascii_digit text d.bytes)
      (not_word_byte-no_digit rest d.stops) in
      let short = d.short in
      rw (n, drop-append_seam text rest, d.stops) (grind (arith, nat_tests))

front-of_bits : (digits rest : List ℕ) → 0 < length digits → length digits ≤ MAX_WIDTH → list_all is_bit digits ≡ true
    → bits_front (digits ++ 34 ∷ rest) ≡ Some (Token Bits (length digits + 2))
front-of_bits digits rest some short all =
    let n = prefix_len-append_stops is_bit digits (34 ∷ rest) all refl in
    rw (n, drop-append_seam digits (34 ∷ rest)) (grind (arith, nat_tests))

quoted_length : (digits text : List ℕ) → text ≡ 34 ∷ (digits ++ 34 ∷ []) → length digits + 2 ≡ length text
quoted_length digits text e = omega (arith, ap length e, length-append digits (34 ∷ []))

front-of_token : (kind : TokenKind) (text rest : List ℕ) → IsToken kind text rest → front_of (text ++ rest)
    ≡ Some (Token kind (length text))
front-of_token Word [] rest s = absurd (false≢true s.letter)
front-of_token Word (b ∷ bs) rest s = front_of-letter b (bs ++ rest) s.letter ∙ front-of_word (b ∷ bs) rest s
front-of_token Number [] rest s = absurd (omega (arith, s.some))
front-of_token Number (b ∷ bs) rest s =
    let (here, more) = and_parts (is_ascii_digit b) (list_all is_ascii_digit bs) (list_all-from_AllPass is_ascii_digit (b ∷ bs) s.bytes) in
    front_of-digit b (bs ++ rest) here ∙ front-of_number (b ∷ bs) rest s
front-of_token Bits text rest s =
    let e : text ++ rest ≡ 34 ∷ (s.digits ++ 34 ∷ rest) = ap (λ u. u ++ rest) s.quoted
    ∙ ap (λ u. 34 ∷ u) (append_assoc s.digits (34 ∷ []) rest) in
    ap front_of e ∙ front-of_bits s.digits rest s.some s.short (list_all-from_AllPass is_bit s.digits s.bytes)
    ∙ ap (λ n. Some (Token Bits n)) (quoted_length s.digits text s.quoted)
front-of_token ZeroChar text rest s = rw s refl
front-of_token LeftParen text rest s = rw s refl
front-of_token RightParen text rest s = rw s refl
front-of_token Semicolon text rest s = rw s refl
front-of_token Colon text rest s = rw (s.0, s.1) refl
front-of_token Comma text rest s = rw s refl
front-of_token Dot text rest s = rw s refl
front-of_token Ampersand text rest s = rw s refl
front-of_token Plus text rest s = rw s refl
front-of_token Minus text rest s = rw (s.0, s.1) refl
front-of_token Equal text rest s = rw (s.0, s.1) refl
front-of_token LessEqual text rest s = rw s refl
front-of_token Arrow text rest s = rw s refl
front-of_token Becomes text rest s = rw s refl

pub front-of_element : (e : Element) (rest : List ℕ) → Stands e rest → front_of (text_of e ++ rest) ≡ Some (front_of_element e)
front-of_element (gap text) rest (inl s) = rw (s.alone, s.white) refl
front-of_element (gap text) rest (inr s) = rw (
  s.marked,
  prefix_len-append_stops is_in_line s.body rest (list_all-from_AllPass is_in_line
      s.body s.bytes) s.stops,
) (ap (λ n. Some (Gap n)) (omega arith))
front-of_element (token kind text) rest s = front-of_token kind text rest s

pub None-nothing : (bytes : List ℕ) → front_of bytes ≡ None → NothingStarts bytes
None-nothing bytes h e rest at s = let bad : None ≡ Some (front_of_element e) = sym h ∙ ap front_of at ∙ front-of_element e rest s in cc

-- what is found stands

abbrev Found : List ℕ → Option Front → Type 0
Found bytes None = Unit {0}
Found bytes (Some f) = FrontStands bytes (Some f)

choose : (bytes : List ℕ) (test : Bool) (x y : Option Front) → (test ≡ true → Found bytes x) → (test ≡ false → Found bytes y)
    → Found bytes (cond test x y)
choose bytes true x y p q = p refl
choose bytes false x y p q = q refl

begins-take : (p : ℕ → Bool) (n : ℕ) (bs : List ℕ) → 0 < n → begins p (take n bs) ≡ begins p bs
begins-take p zero bs h = absurd (omega arith)
begins-take p (suc n) [] h = refl
begins-take p (suc n) (b ∷ bs) h = refl

begins-letter : (bs : List ℕ) → begins is_ascii_alphabetic bs ≡ true → begins is_word_byte bs ≡ true
begins-letter [] h = absurd (false≢true h)
begins-letter (b ∷ bs) h = letter-word_byte b h

word-found : (bs : List ℕ) → begins is_ascii_alphabetic bs ≡ true → Found bs (word_front bs)
word-found bs h =
    let n = prefix_len is_word_byte bs in
    let some : 0 < n = prefix_some is_word_byte bs (begins-letter bs h) in
    let within : n ≤ length bs = prefix_len-le-length is_word_byte bs in
    choose bs (nat_le n 64 && has_single_underscores (take n bs)) (Some (Token Word n)) None
    (λ t. let (short, single) = and_parts (nat_le n 64) (has_single_underscores (take n bs)) t in (
      some,
      within,
      record {
        letter = begins-take is_ascii_alphabetic n bs some ∙ h;
        bytes = AllPass-from_list_all is_word_byte (take n bs) (prefix_passes is_word_byte bs);
        single = single;
        short = rw (length-take-le n bs within) (leb-true n 64 short);
        stops = prefix_stops is_word_byte bs;
      },
    ))
    (λ _. tt)

number-found : (bs : List ℕ) → begins is_ascii_digit bs ≡ true → Found bs (number_front bs)
number-found bs h =
    let n = prefix_len is_ascii_digit bs in
    let some : 0 < n = prefix_some is_ascii_digit bs h in
    let within : n ≤ length bs = prefix_len-le-length is_ascii_digit bs in
    choose bs (nat_le n 9 && not (begins is_word_byte (drop n bs))) (Some (Token Number n)) None
    (λ t. let (short, stops) = and_parts (nat_le n 9) (not (begins is_word_byte (drop n bs))) t in (
      some,
      within,
      record {
        some = rw (length-take-le n bs within) some;
        short = rw (length-take-le n bs within) (leb-true n 9 short);
        bytes = AllPass-from_list_all is_ascii_digit (take n bs) (prefix_passes is_ascii_digit bs);
        stops = not-true _ stops;
      },
    ))
    (λ _. tt)

first_two : (b c : ℕ) (bs : List ℕ) → begins (λ x. x == c) bs ≡ true → take 2 (b ∷ bs) ≡ b ∷ c ∷ []
first_two b c [] h = absurd (false≢true h)
first_two b c (x ∷ bs) h = rw (same x c h) refl

two_within : (b : ℕ) (p : ℕ → Bool) (bs : List ℕ) → begins p bs ≡ true → 2 ≤ length (b ∷ bs)
two_within b p [] h = absurd (false≢true h)
two_within b p (x ∷ bs) h = omega arith

comment_at : (n m : ℕ) (bs : List ℕ) → m ≡ suc (suc n) → n ≤ length bs → list_all is_in_line (take n bs) ≡ true
    → begins is_in_line (drop n bs) ≡ false → Found (45 ∷ 45 ∷ bs) (Some (Gap m))
comment_at n m bs e within all stops = rw e (
  omega arith,
  omega (arith, within),
  inr (record {
    body = take n bs;
    marked = refl;
    bytes = AllPass-from_list_all is_in_line (take n bs) all;
    stops = stops;
  }),
)

comment-found : (bs : List ℕ) → begins is_hyphen bs ≡ true → Found (45 ∷ bs) (Some (Gap (2 + prefix_len is_in_line (drop 1 bs))))
comment-found [] h = absurd (false≢true h)
comment-found (x ∷ bs) h = rw (same x 45 h) (comment_at (prefix_len is_in_line bs) (2 + prefix_len is_in_line bs) bs (omega arith)
    (prefix_len-le-length is_in_line bs) (prefix_passes is_in_line bs) (prefix_stops is_in_line bs))

begins-drop_nil : (p : ℕ → Bool) (n : ℕ) → begins p (drop n []) ≡ false
begins-drop_nil p zero = refl
begins-drop_nil p (suc n) = refl

quote_more : (n : ℕ) (bs : List ℕ) → begins is_quote (drop n bs) ≡ true → (take (suc n) bs ≡ take n bs ++ 34 ∷ []) × (suc n ≤ length bs)
quote_more n [] h = absurd (false≢true (sym (begins-drop_nil is_quote n) ∙ h))
quote_more zero (b ∷ bs) h = (ap (λ u. u ∷ []) (same b 34 h), omega arith)
quote_more (suc n) (b ∷ bs) h = let (p, q) = quote_more n bs h in (ap (λ u. b ∷ u) p, omega arith)

bits_at : (n m : ℕ) (bs : List ℕ) → m ≡ suc (suc n) → 1 ≤ n → n ≤ MAX_WIDTH → n ≤ length bs → list_all is_bit (take n bs) ≡ true
    → begins is_quote (drop n bs) ≡ true → Found (34 ∷ bs) (Some (Token Bits m))
bits_at n m bs e some short within all quote =
    let (p, q) = quote_more n bs quote in
    rw e (
      omega arith,
      omega (arith, q),
      record {
        digits = take n bs;
        quoted = ap (λ u. 34 ∷ u) p;
        some = rw (length-take-le n bs within) some;
        short = rw (length-take-le n bs within) short;
        bytes = AllPass-from_list_all is_bit (take n bs) all;
      },
    )

bits-found : (bs : List ℕ) → Found (34 ∷ bs) (bits_front bs)
bits-found bs =
    let n = prefix_len is_bit bs in
    choose (34 ∷ bs) (nat_le 1 n && nat_le n MAX_WIDTH && begins is_quote (drop n bs)) (Some (Token Bits (n + 2))) None
    (λ t. let (length_right, quote) = and_parts (nat_le 1 n && nat_le n MAX_WIDTH) (begins is_quote (drop n bs)) t in
    let (some, short) = and_parts (nat_le 1 n) (nat_le n MAX_WIDTH) length_right in
    bits_at n (n + 2) bs (omega arith) (leb-true 1 n some) (leb-true n MAX_WIDTH short) (prefix_len-le-length is_bit bs)
    (prefix_passes is_bit bs) quote)
    (λ _. tt)

char-found : (bs : List ℕ) → Found (39 ∷ bs) (char_front bs)
char-found [] = tt
char-found (b ∷ []) = tt
char-found (b ∷ c ∷ bs) =
    choose (39 ∷ b ∷ c ∷ bs) (b == 48 && c == 39) (Some (Token ZeroChar 3)) None
    (λ t. let (zero_byte, closing) = and_parts (b == 48) (c == 39) t in
    (omega arith, omega arith, rw (same b 48 zero_byte, same c 39 closing) refl))
    (λ _. tt)

one_mark : (b c : ℕ) (bs : List ℕ) → (b == c) ≡ true → (0 < 1) × (1 ≤ length (b ∷ bs)) × (b ∷ [] ≡ c ∷ [])
one_mark b c bs h = (omega arith, omega arith, ap (λ u. u ∷ []) (same b c h))

mark-found : (b : ℕ) (bs : List ℕ) → Found (b ∷ bs) (mark_front b bs)
mark-found b bs =
    choose (b ∷ bs) (b == 40) _ _ (λ h. one_mark b 40 bs h) (λ _.
    choose (b ∷ bs) (b == 41) _ _ (λ h. one_mark b 41 bs h) (λ _.
    choose (b ∷ bs) (b == 59) _ _ (λ h. one_mark b 59 bs h) (λ _.
    choose (b ∷ bs) (b == 44) _ _ (λ h. one_mark b 44 bs h) (λ _.
    choose (b ∷ bs) (b == 46) _ _ (λ h. one_mark b 46 bs h) (λ _.
    choose (b ∷ bs) (b == 38) _ _ (λ h. one_mark b 38 bs h) (λ _.
    choose (b ∷ bs) (b == 43) _ _ (λ h. one_mark b 43 bs h) (λ _.
    choose (b ∷ bs) (b == 58) _ _ (λ h. rw (same b 58 h)
    (choose (58 ∷ bs) (begins is_equals bs) _ _ (λ t. (omega arith, two_within 58 _ bs t, first_two 58 61 bs t))
    (λ t. (omega arith, omega arith, (refl, t))))) (λ _.
    choose (b ∷ bs) (b == 61) _ _ (λ h. rw (same b 61 h)
    (choose (61 ∷ bs) (begins is_greater bs) _ _ (λ t. (omega arith, two_within 61 _ bs t, first_two 61 62 bs t))
    (λ t. (omega arith, omega arith, (refl, t))))) (λ _.
    choose (b ∷ bs) (b == 60) _ _ (λ h. rw (same b 60 h)
    (choose (60 ∷ bs) (begins is_equals bs) _ _ (λ t. (omega arith, two_within 60 _ bs t, first_two 60 61 bs t)) (λ _. tt)))
    (λ _. tt))))))))))

found : (bytes : List ℕ) → Found bytes (front_of bytes)
found [] = tt
found (b ∷ bs) =
    choose (b ∷ bs) (is_white b) _ _ (λ h. (omega arith, omega arith, inl (record { byte = b; alone = refl; white = h }))) (λ _.
    choose (b ∷ bs) (is_ascii_alphabetic b) _ _ (λ h. word-found (b ∷ bs) h) (λ _.
    choose (b ∷ bs) (is_ascii_digit b) _ _ (λ h. number-found (b ∷ bs) h) (λ _.
    choose (b ∷ bs) (is_quote b) _ _ (λ h. rw (same b 34 h) (bits-found bs)) (λ _.
    choose (b ∷ bs) (b == 39) _ _ (λ h. rw (same b 39 h) (char-found bs)) (λ _.
    choose (b ∷ bs) (is_hyphen b) _ _ (λ h. rw (same b 45 h)
    (choose (45 ∷ bs) (begins is_hyphen bs) _ _ (λ t. comment-found bs t) (λ t. (omega arith, omega arith, (refl, t))))) (λ _.
    mark-found b bs))))))

with_nothing : (bytes : List ℕ) (f : Option Front) → front_of bytes ≡ f → Found bytes f → FrontStands bytes f
with_nothing bytes None e h = None-nothing bytes e
with_nothing bytes (Some f) e h = h

pub front_stands : (bytes : List ℕ) → FrontStands bytes (front_of bytes)
front_stands bytes = with_nothing bytes (front_of bytes) refl (found bytes)

-- what a token allows behind it goes by the first byte there

before-same_first : (kind : TokenKind) (text r s : List ℕ) → ((p : ℕ → Bool) → begins p s ≡ begins p r) → IsToken kind text r
    → IsToken kind text s
before-same_first Word text r s same_first t = record
    { letter = t.letter; bytes = t.bytes; single = t.single; short = t.short; stops = same_first is_word_byte ∙ t.stops }
before-same_first Number text r s same_first t = record
    { some = t.some; short = t.short; bytes = t.bytes; stops = same_first is_word_byte ∙ t.stops }
before-same_first Bits text r s same_first t = t
before-same_first ZeroChar text r s same_first t = t
before-same_first LeftParen text r s same_first t = t
before-same_first RightParen text r s same_first t = t
before-same_first Semicolon text r s same_first t = t
before-same_first Colon text r s same_first t = (t.0, same_first is_equals ∙ t.1)
before-same_first Comma text r s same_first t = t
before-same_first Dot text r s same_first t = t
before-same_first Ampersand text r s same_first t = t
before-same_first Plus text r s same_first t = t
before-same_first Minus text r s same_first t = (t.0, same_first is_hyphen ∙ t.1)
before-same_first Equal text r s same_first t = (t.0, same_first is_greater ∙ t.1)
before-same_first LessEqual text r s same_first t = t
before-same_first Arrow text r s same_first t = t
before-same_first Becomes text r s same_first t = t

-- of two lists with the same text, the longer goes on behind the shorter
goes_on : (a r b s : List ℕ) → a ++ r ≡ b ++ s → length a < length b → (c : ℕ) × (more : List ℕ) × (b ≡ a ++ c ∷ more)
    × (r ≡ c ∷ (more ++ s))
goes_on [] r [] s e h = absurd (omega (arith, h))
goes_on [] r (c ∷ more) s e h = (c, more, refl, e)
goes_on (x ∷ a) r [] s e h = absurd (omega (arith, h))
goes_on (x ∷ a) r (y ∷ b) s e h =
    let tails : a ++ r ≡ b ++ s = ap (drop 1) e in
    let heads : x ≡ y = ap (λ l. get_or l 0 0) e in
    let more = goes_on a r b s tails (omega (arith, h)) in
    (more.0, more.1, ap (λ u. u ∷ b) (sym heads) ∙ ap (λ l. x ∷ l) more.2, more.3)

same_length : (j k : TokenKind) (m n : ℕ) → Some (Token j m) ≡ Some (Token k n) → m ≡ n
same_length j k m n e = cc

pub longest : (kind other : TokenKind) (text longer rest beyond : List ℕ) → IsToken kind text rest → IsToken other longer [] → text ++ rest
    ≡ longer ++ beyond → length longer ≤ length text
longest kind other text longer rest beyond t u at = elim (cases_lt (length text) (length longer)) [
  | inl below ↦
      let more = goes_on text rest longer beyond at below in
      let follows : IsToken kind text (more.0 ∷ more.1) = before-same_first kind text rest (more.0 ∷ more.1)
      (λ p. sym (ap (begins p) more.3)) t in
      let both : longer ++ [] ≡ text ++ (more.0 ∷ more.1) = append-nil longer ∙ more.2 in
      let lengths = same_length other kind _ _
      (sym (front-of_token other longer [] u) ∙ ap front_of both ∙ front-of_token kind text (more.0 ∷ more.1) follows) in
      omega (arith, lengths)
  | inr above ↦ above
]
