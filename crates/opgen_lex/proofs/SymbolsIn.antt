-- The symbols of a text, by its elements.
use Rattle.std.proofs.Common.{◌≡◌, ◌⊎◌, inl, inr, ℕ, List, [], ◌∷◌, ◌++◌, length, map, take, drop, refl, ap, sym, ◌∙◌, subst, arith, length-append, append_assoc, ◌-◌, ◌≤◌, Bool, false, get_or}
use Rattle.std.proofs.lemmas.List.{map-append, length-map}
use Rattle.std.proofs.Math.Seq.{take-append_seam, drop-append_seam}
use Rattle.opgen_vhdl.specs.Tokens.{begins, Element, gap, token, text_of, size_of, Stands, IsToken, Cut, Tokens, LexicalAt, NothingStarts}
use Rattle.opgen_vhdl.specs.Symbols.{spellings_of, Symbol, symbols, symbol_of}
use Rattle.opgen_vhdl.specs.declared.kind.Token.{Token}
use Rattle.opgen_vhdl.specs.declared.kind.TokenKind.{TokenKind}
use Rattle.opgen_vhdl.specs.declared.kind.TokenKind.TheVariants.{Word, Number, Bits, ZeroChar, LeftParen, RightParen, Semicolon, Colon, Comma, Dot, Ampersand, Plus, Minus, Equal, LessEqual, Arrow, Becomes}
use Rattle.opgen_vhdl.proofs.CutLemmas.{one_cut, has_reading, nothing_starts_at_end}
use Rattle.opgen_vhdl.proofs.SpanLemmas.{tokens-spellings, length-cut, token_some}
use Rattle.opgen_lex.specs.First.{IsFirstToken, HasNoToken}
use Rattle.opgen_lex.proofs.Cuts.{cut-append, spellings-append, first_elements, first-alone}
use Rattle.opgen_lex.specs.Left.{elements_of, symbols_in}

abbrev symbols_of : List Element → List Symbol
symbols_of es = map symbol_of (spellings_of es)

-- a text has the elements of one cut alone, up to where nothing starts
module _ (es : List Element) (bytes rest : List ℕ) (c : Cut es bytes rest) (nothing : NothingStarts rest) where
  same_elements : (r : ((ts : List Token) × Tokens bytes ts) ⊎ ((n : ℕ) × LexicalAt bytes n)) → elements_of r ≡ es
  same_elements (inl t) = (one_cut t.1.elements es bytes [] rest t.1.cut c nothing_starts_at_end nothing).0
  same_elements (inr l) = (one_cut l.1.elements es bytes l.1.rest rest l.1.cut c l.1.nothing nothing).0

  pub symbols_in-cut : symbols_in bytes ≡ symbols_of es
  unfolding symbols_in
  symbols_in-cut = ap symbols_of (same_elements (has_reading bytes))

pub symbols_in-empty : symbols_in [] ≡ []
symbols_in-empty = symbols_in-cut [] [] [] refl nothing_starts_at_end

-- each text has a cut up to where nothing starts
record CutOf (bytes : List ℕ) : Type 0 where
  elements : List Element
  rest : List ℕ
  cut : Cut elements bytes rest
  nothing : NothingStarts rest

cut_of : (bytes : List ℕ) (r : ((ts : List Token) × Tokens bytes ts) ⊎ ((n : ℕ) × LexicalAt bytes n)) → CutOf bytes
cut_of bytes (inl t) = record { elements = t.1.elements; rest = []; cut = t.1.cut; nothing = nothing_starts_at_end }
cut_of bytes (inr l) = record { elements = l.1.elements; rest = l.1.rest; cut = l.1.cut; nothing = l.1.nothing }

-- a text has no more symbols than bytes

few_spellings : (es : List Element) (bytes rest : List ℕ) → Cut es bytes rest → length (spellings_of es) ≤ size_of es
few_spellings [] bytes rest c = omega arith
few_spellings (gap t ∷ es) bytes rest c = omega (arith, few_spellings es c.0 rest c.3)
few_spellings (token k t ∷ es) bytes rest c = omega (arith, few_spellings es c.0 rest c.3, token_some k t c.0 c.2)

pub few_symbols : (bytes : List ℕ) → length (symbols_in bytes) ≤ length bytes
few_symbols bytes =
    let d = cut_of bytes (has_reading bytes) in
    rw (symbols_in-cut d.elements bytes d.rest d.cut d.nothing) (omega (
      arith,
      length-map (spellings_of d.elements) symbol_of,
      few_spellings d.elements bytes d.rest d.cut,
      length-cut d.elements bytes d.rest d.cut,
    ))

pub symbols_in-tokens : (bytes : List ℕ) (ts : List Token) → Tokens bytes ts → symbols_in bytes ≡ symbols bytes ts
symbols_in-tokens bytes ts t = symbols_in-cut t.elements bytes [] t.cut nothing_starts_at_end
    ∙ ap (map symbol_of) (sym (tokens-spellings bytes ts t))

-- elements, and then the rest
pub symbols_in-behind : (es : List Element) (bytes rest : List ℕ) → Cut es bytes rest → symbols_in bytes ≡ symbols_of es ++ symbols_in rest
symbols_in-behind es bytes rest c =
    let d = cut_of rest (has_reading rest) in
    symbols_in-cut (es ++ d.elements) bytes d.rest (cut-append es d.elements bytes rest d.rest c d.cut) d.nothing
    ∙ ap (map symbol_of) (spellings-append es d.elements)
    ∙ map-append symbol_of (spellings_of es) (spellings_of d.elements)
    ∙ ap (λ ss. symbols_of es ++ ss) (sym (symbols_in-cut d.elements rest d.rest d.cut d.nothing))

pub symbols_in-first : (bytes : List ℕ) (kind : TokenKind) (text rest : List ℕ) → IsFirstToken bytes kind text rest
    → symbols_in bytes ≡ symbol_of (kind, text) ∷ symbols_in rest
symbols_in-first bytes kind text rest f = symbols_in-behind (first_elements bytes kind text rest f) bytes rest f.cut
    ∙ rw (first-alone bytes kind text rest f) refl

pub symbols_in-none : (bytes : List ℕ) → HasNoToken bytes → symbols_in bytes ≡ []
symbols_in-none bytes h = symbols_in-cut h.elements bytes h.rest h.cut h.nothing ∙ rw h.gaps refl

-- elements stand as well where less follows

begins-shorter : (p : ℕ → Bool) (text rest : List ℕ) → begins p (text ++ rest) ≡ false → begins p text ≡ false
begins-shorter p [] rest h = refl
begins-shorter p (b ∷ text) rest h = h

token-shorter : (kind : TokenKind) (text next rest : List ℕ) → IsToken kind text (next ++ rest) → IsToken kind text next
token-shorter Word text next rest t = record
    { letter = t.letter; bytes = t.bytes; single = t.single; short = t.short; stops = begins-shorter _ next rest t.stops }
token-shorter Number text next rest t = record
    { some = t.some; short = t.short; bytes = t.bytes; stops = begins-shorter _ next rest t.stops }
token-shorter Bits text next rest t = t
token-shorter ZeroChar text next rest t = t
token-shorter LeftParen text next rest t = t
token-shorter RightParen text next rest t = t
token-shorter Semicolon text next rest t = t
token-shorter Colon text next rest t = (t.0, begins-shorter _ next rest t.1)
token-shorter Comma text next rest t = t
token-shorter Dot text next rest t = t
token-shorter Ampersand text next rest t = t
token-shorter Plus text next rest t = t
token-shorter Minus text next rest t = (t.0, begins-shorter _ next rest t.1)
token-shorter Equal text next rest t = (t.0, begins-shorter _ next rest t.1)
token-shorter LessEqual text next rest t = t
token-shorter Arrow text next rest t = t
token-shorter Becomes text next rest t = t

stands-shorter : (e : Element) (next rest : List ℕ) → Stands e (next ++ rest) → Stands e next
stands-shorter (gap text) next rest (inl s) = inl s
stands-shorter (gap text) next rest (inr s) = inr (record
    { body = s.body; marked = s.marked; bytes = s.bytes; stops = begins-shorter _ next rest s.stops })
stands-shorter (token kind text) next rest t = token-shorter kind text next rest t

-- the bytes of some elements, and what those bytes are cut into by themselves
record Front (es : List Element) (bytes rest : List ℕ) : Type 0 where
  front : List ℕ
  split : bytes ≡ front ++ rest
  cut : Cut es front []

front_of : (es : List Element) (bytes rest : List ℕ) → Cut es bytes rest → Front es bytes rest
front_of [] bytes rest c = record { front = []; split = c; cut = refl }
front_of (e ∷ es) bytes rest c =
    let f = front_of es c.0 rest c.3 in
    record {
      front = text_of e ++ f.front;
      split = c.1 ∙ ap (λ u. text_of e ++ u) f.split ∙ sym (append_assoc (text_of e) f.front rest);
      cut = (f.front, refl, stands-shorter e f.front rest (subst (Stands e) f.split c.2), f.cut);
    }

-- a text is the bytes of some elements, and the rest
pub record Splits (es : List Element) (bytes rest : List ℕ) (n : ℕ) : Type 0 where
  pub within : n ≤ length bytes
  pub front : symbols_in (take n bytes) ≡ map symbol_of (spellings_of es)
  pub back : drop n bytes ≡ rest

pub cut-within : (es : List Element) (bytes rest : List ℕ) → Cut es bytes rest → length rest ≤ length bytes
cut-within es bytes rest c =
    let f = front_of es bytes rest c in
    omega (arith, ap length f.split, length-append f.front rest)

splits-front : (es : List Element) (front rest : List ℕ) → Cut es front []
    → Splits es (front ++ rest) rest (length (front ++ rest) - length rest)
splits-front es front rest c =
    let n : length (front ++ rest) - length rest ≡ length front = omega (arith, length-append front rest) in
    record {
      within = omega (arith, n, length-append front rest);
      front = rw (n, take-append_seam front rest) (symbols_in-cut es front [] c nothing_starts_at_end);
      back = rw n (drop-append_seam front rest);
    }

pub splits : (es : List Element) (bytes rest : List ℕ) → Cut es bytes rest → Splits es bytes rest (length bytes - length rest)
splits es bytes rest c =
    let f = front_of es bytes rest c in
    subst (λ b. Splits es b rest (length b - length rest)) (sym f.split) (splits-front es f.front rest f.cut)

-- the first token is one that stands somewhere

pub record StandsBefore (kind : TokenKind) (text : List ℕ) : Type 0 where
  pub next : List ℕ
  pub stands : IsToken kind text next

only : (es : List Element) (bytes rest : List ℕ) (kind : TokenKind) (text : List ℕ) → Cut es bytes rest
    → spellings_of es ≡ (kind, text) ∷ [] → StandsBefore kind text
only [] bytes rest kind text c h = absurd cc
only (gap t ∷ es) bytes rest kind text c h = only es c.0 rest kind text c.3 h
only (token k t ∷ es) bytes rest kind text c h =
    let same : (k, t) ≡ (kind, text) = ap (λ l. get_or l 0 (kind, text)) h in
    record { next = c.0; stands = subst (λ u. IsToken u.0 u.1 c.0) same c.2 }

pub first-stands : (bytes : List ℕ) (kind : TokenKind) (text rest : List ℕ) → IsFirstToken bytes kind text rest → StandsBefore kind text
first-stands bytes kind text rest f = only (first_elements bytes kind text rest f) bytes rest kind text f.cut
    (first-alone bytes kind text rest f)
