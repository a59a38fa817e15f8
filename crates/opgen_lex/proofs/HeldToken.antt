-- The first token of a text, as a cursor holds it.
use Rattle.std.specs.Prelude.{IfSome, IfNone, nat_le}
use Rattle.std.proofs.Common.{Bor, ◌≡◌, subst, ℕ, ◌+◌, ◌≤◌, ◌<◌, ◌&&◌, Bool, true, List, [], ◌∷◌, length, take, drop, Option, Some, None, refl, sym}
use Rattle.std.proofs.lemmas.Bool.{and_parts, leb-true, le-leb}
use Rattle.opgen_num.specs.declared.format.TheConstants.{MAX_WIDTH}
use Rattle.opgen_vhdl.specs.declared.kind.TokenKind.{TokenKind}
use Rattle.opgen_vhdl.specs.Symbols.{symbol_of, pieces}
use Rattle.opgen_lex.specs.First.{IsPassed, IsFirstToken, HasNoToken}
use Rattle.opgen_lex.proofs.Cuts.{passed-on, first-passed}
use Rattle.opgen_lex.specs.Fits.{has_digits_if_number, fits}
use Rattle.opgen_lex.specs.Left.{symbols_in, symbols_from}
use Rattle.opgen_lex.specs.PieceLen.{IsRestLen}
use Rattle.opgen_lex.proofs.FirstPiece.{others-shorter}
use Rattle.opgen_lex.proofs.FittingTokens.{first-short, first-numeral}
use Rattle.opgen_lex.proofs.SymbolsIn.{symbols_in-first, symbols_in-none}

abbrev Held : Type 0
Held = Option (TokenKind × Bor (List ℕ) × Bor (List ℕ))

both : (a b : Bool) → a ≡ true → b ≡ true → (a && b) ≡ true
both a b h k = rw (h, k) refl

pub token-fits : (kind : TokenKind) (text behind : Bor (List ℕ)) → length text.now ≤ MAX_WIDTH + 2 → has_digits_if_number kind text.now ≡ true
    → fits (Some (kind, text, behind)) ≡ true
token-fits kind text behind short numeral = both (nat_le (length text.now) (MAX_WIDTH + 2)) (has_digits_if_number kind text.now)
    (le-leb (length text.now) (MAX_WIDTH + 2) short) numeral

-- what was cut first is held
module _ (bytes : List ℕ) where
  pub cut-fits : (t : Held) → IfSome t (λ x. IsFirstToken bytes x.0 x.1.now x.2.now) → fits t ≡ true
  cut-fits None h = refl
  cut-fits (Some x) h = token-fits x.0 x.1 x.2 (first-short bytes x.0 x.1.now x.2.now h) (first-numeral bytes x.0 x.1.now x.2.now h)

  pub cut-left : (t : Held) → IfSome t (λ x. IsFirstToken bytes x.0 x.1.now x.2.now) → IfNone t (HasNoToken bytes)
      → symbols_from t ≡ symbols_in bytes
  unfolding symbols_from
  cut-left None h none = sym (symbols_in-none bytes none)
  cut-left (Some x) h none = sym (symbols_in-first bytes x.0 x.1.now x.2.now h)

-- what is held
pub held-some : (t : Held) → IfSome t (λ x. symbols_from t ≡ symbol_of (x.0, x.1.now) ∷ symbols_in x.2.now)
unfolding symbols_from
held-some None = tt
held-some (Some x) = refl

pub held-none : (t : Held) → IfNone t (symbols_from t ≡ [])
unfolding symbols_from
held-none None = refl
held-none (Some x) = tt

pub held-short : (t : Held) → fits t ≡ true → IfSome t (λ x. length x.1.now ≤ MAX_WIDTH + 2)
held-short None h = tt
held-short (Some x) h = leb-true (length x.1.now) (MAX_WIDTH + 2)
    (and_parts (nat_le (length x.1.now) (MAX_WIDTH + 2)) (has_digits_if_number x.0 x.1.now) h).0

pub held-numeral : (t : Held) → fits t ≡ true → IfSome t (λ x. has_digits_if_number x.0 x.1.now ≡ true)
held-numeral None h = tt
held-numeral (Some x) h = (and_parts (nat_le (length x.1.now) (MAX_WIDTH + 2)) (has_digits_if_number x.0 x.1.now) h).1

-- the first piece, which holds the same token
module _ (bytes : List ℕ) (kind : TokenKind) (text behind piece next : Bor (List ℕ)) (n : ℕ)
    (first : IsFirstToken bytes kind text.now behind.now) (r : IsRestLen (symbol_of (kind, text.now)) behind.now n)
    (front : piece.now ≡ take n behind.now) (back : next.now ≡ drop n behind.now) where
  pub piece-cut : pieces (symbols_in bytes) ≡ symbols_from (Some (kind, text, piece)) ∷ pieces (symbols_in next.now)
  unfolding symbols_from
  piece-cut = rw (symbols_in-first bytes kind text.now behind.now first, front, back) r.cut

  pub piece-shorter : length (symbols_in next.now) < length (symbols_in bytes)
  piece-shorter = others-shorter (symbol_of (kind, text.now)) (symbols_in bytes) (symbols_in (take n behind.now)) (symbols_in next.now)
      (rw (symbols_in-first bytes kind text.now behind.now first, back) r.cut)

  pub piece-passed : IsPassed bytes next.now
  piece-passed = passed-on bytes behind.now next.now (first-passed bytes kind text.now behind.now first)
      (subst (IsPassed behind.now) (sym back) r.passed)

  pub piece-fits : fits (Some (kind, text, piece)) ≡ true
  piece-fits = token-fits kind text piece (first-short bytes kind text.now behind.now first) (first-numeral bytes kind text.now behind.now first)
