-- The first piece of what is left.
use Rattle.std.proofs.Common.{◌≡◌, subst, ℕ, ◌+◌, ◌-◌, ◌<◌, ◌≤◌, true, false, inl, inr, List, [], ◌∷◌, ◌++◌, length, map, take, drop, refl, ap, sym, ◌∙◌, arith, length-append}
use Rattle.std.proofs.lemmas.Bool.{cases_Bool}
use Rattle.std.proofs.lemmas.List.{length-map}
use Rattle.std.proofs.Math.Seq.{take-append_seam, drop-append_seam}
use Rattle.opgen_vhdl.specs.declared.kind.TokenKind.{TokenKind}
use Rattle.opgen_vhdl.specs.declared.kind.TokenKind.TheVariants.{Semicolon}
use Rattle.opgen_vhdl.specs.Reader.{same_kind}
use Rattle.opgen_vhdl.specs.Symbols.{spellings_of, Symbol, symbol_of, pieces, onto, is_semicolon}
use Rattle.opgen_vhdl.specs.Tokens.{Element, Cut}
use Rattle.opgen_vhdl.proofs.Walks.{first_len, pieces-first}
use Rattle.opgen_lex.specs.First.{IsFirstToken, HasNoToken}
use Rattle.opgen_lex.proofs.Cuts.{cut-append, spellings-append, passed_start, first_elements, first-alone}
use Rattle.opgen_lex.specs.Left.{symbols_in}
use Rattle.opgen_lex.specs.PieceLen.{IsRestLen}
use Rattle.opgen_lex.proofs.FirstSymbol.{semicolon_first}
use Rattle.opgen_lex.proofs.SymbolsIn.{symbols_in-empty, symbols_in-behind, symbols_in-first, symbols_in-none, splits, cut-within}

-- the tokens before the rest all belong to the first piece
pub record InFirst (bytes rest : List ℕ) : Type 0 where
  pub elements : List Element
  pub cut : Cut elements bytes rest
  pub count : first_len (symbols_in bytes) ≡ length (spellings_of elements) + first_len (symbols_in rest)

pub in_first-start : (bytes : List ℕ) → InFirst bytes bytes
in_first-start bytes = record { elements = []; cut = refl; count = omega arith }

onto-first : (s : Symbol) (ss : List Symbol) → onto s (pieces ss) ≡ (s ∷ take (first_len ss) ss) ∷ pieces (drop (first_len ss) ss)
onto-first s [] = refl
onto-first s (t ∷ ss) = rw (pieces-first t ss) refl

-- so many bytes are the rest of each piece that begins before them
abbrev IsPieceLen : List ℕ → ℕ → Type 0
IsPieceLen bytes n = (first : Symbol) → is_semicolon first ≡ false → IsRestLen first bytes n

-- where the tokens before the rest are those of the first piece, it ends there
ends_there : (es : List Element) (bytes rest : List ℕ) → Cut es bytes rest → first_len (symbols_in bytes) ≡ length (spellings_of es)
    → IsPieceLen bytes (length bytes - length rest)
ends_there es bytes rest c e = λ first h.
    let s = splits es bytes rest c in
    let ss = map symbol_of (spellings_of es) in
    let whole : symbols_in bytes ≡ ss ++ symbols_in rest = symbols_in-behind es bytes rest c in
    let n : first_len (symbols_in bytes) ≡ length ss = e ∙ sym (length-map (spellings_of es) symbol_of) in
    let piece : symbols_in (take (length bytes - length rest) bytes) ≡ take (first_len (symbols_in bytes)) (symbols_in bytes)
    = s.front ∙ sym (rw (n, whole) (take-append_seam ss (symbols_in rest))) in
    let others : symbols_in (drop (length bytes - length rest) bytes) ≡ drop (first_len (symbols_in bytes)) (symbols_in bytes)
    = ap symbols_in s.back ∙ sym (rw (n, whole) (drop-append_seam ss (symbols_in rest))) in
    record {
      within = s.within;
      passed = record { elements = es; cut = subst (Cut es bytes) (sym s.back) c };
      cut = rw (h, piece, others) (onto-first first (symbols_in bytes));
    }

module _ (bytes rest : List ℕ) (f : InFirst bytes rest) where
  pub in_first-none : HasNoToken rest → IsPieceLen bytes (length bytes - length rest)
  in_first-none h = ends_there f.elements bytes rest f.cut (f.count ∙ rw (symbols_in-none rest h) (omega arith))

  pub in_first-within : length rest ≤ length bytes
  in_first-within = cut-within f.elements bytes rest f.cut

  module _ (kind : TokenKind) (text behind : List ℕ) (t : IsFirstToken rest kind text behind) where
    abbrev es : List Element
    es = first_elements rest kind text behind t

    through : Cut (f.elements ++ es) bytes behind
    through = cut-append f.elements es bytes rest behind f.cut t.cut

    one_more : length (spellings_of (f.elements ++ es)) ≡ length (spellings_of f.elements) + 1
    one_more = rw (spellings-append f.elements es, first-alone rest kind text behind t)
        (length-append (spellings_of f.elements) ((kind, text) ∷ []))

    pub through-within : length behind ≤ length bytes
    through-within = cut-within (f.elements ++ es) bytes behind through

    pub in_first-semicolon : same_kind kind Semicolon ≡ true → IsPieceLen bytes (length bytes - length behind)
    in_first-semicolon s = ends_there (f.elements ++ es) bytes behind through
        (f.count ∙ rw (symbols_in-first rest kind text behind t, semicolon_first kind text, s) (sym one_more))

    pub in_first-more : same_kind kind Semicolon ≡ false → InFirst bytes behind
    in_first-more s = record {
      elements = f.elements ++ es;
      cut = through;
      count = f.count ∙ rw (symbols_in-first rest kind text behind t, semicolon_first kind text, s) (omega (arith, one_more));
    }

pub behind-shorter : (rest : List ℕ) (kind : TokenKind) (text behind : List ℕ) → IsFirstToken rest kind text behind
    → length (symbols_in behind) < length (symbols_in rest)
behind-shorter rest kind text behind t = rw (symbols_in-first rest kind text behind t) (omega arith)

-- a piece that is its semicolon alone
pub rest-none : (s : Symbol) (bytes : List ℕ) → is_semicolon s ≡ true → IsRestLen s bytes 0
rest-none s bytes h = record { within = omega arith; passed = passed_start bytes; cut = rw (h, symbols_in-empty) refl }

-- the symbols behind the first piece are fewer

abbrev total : List (List Symbol) → ℕ
total [] = 0
total (piece ∷ more) = length piece + total more

total-onto : (s : Symbol) (ps : List (List Symbol)) → total (onto s ps) ≡ total ps + 1
total-onto s [] = refl
total-onto s (p ∷ ps) = omega arith

total-pieces : (ss : List Symbol) → total (pieces ss) ≡ length ss
total-pieces [] = refl
total-pieces (s ∷ ss) = elim (cases_Bool (is_semicolon s)) [
  | inl y ↦ rw y (omega (arith, total-pieces ss))
  | inr n ↦ rw n (omega (arith, total-onto s (pieces ss), total-pieces ss))
]

pub others-shorter : (s : Symbol) (ss piece more : List Symbol) → pieces ss ≡ (s ∷ piece) ∷ pieces more → length more < length ss
others-shorter s ss piece more e = omega (arith, total-pieces ss, ap total e, total-pieces more)
