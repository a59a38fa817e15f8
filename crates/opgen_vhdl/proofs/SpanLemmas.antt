-- The tokens of a text stand in it in order, and the bytes of each are its spelling.
use Rattle.std.proofs.Common.{◌≡◌, ℕ, ◌+◌, ◌-◌, ◌≤◌, ◌<◌, List, [], ◌∷◌, ◌++◌, length, drop, map, refl, ap, sym, subst, arith, append_assoc, add_assoc, length-append}
use Rattle.std.specs.Prelude.{All}
use Rattle.std.proofs.lemmas.List.Elements.{All-cons, All-nil}
use Rattle.std.proofs.Math.Seq.{take-append_seam, drop-append_seam}
use Rattle.opgen_vhdl.specs.Fronts.{FrontStands}
use Rattle.opgen_vhdl.specs.Tokens.{Element, gap, token, text_of, IsToken, Cut, size_of, tokens_from, Tokens}
use Rattle.opgen_vhdl.specs.Symbols.{InOrder, IsWithin, spelling_of, IsSpelledIn, spelled, spellings_of}
use Rattle.opgen_vhdl.specs.declared.kind.TokenKind.{TokenKind}
use Rattle.opgen_vhdl.specs.declared.kind.Token.{Token}
use Rattle.opgen_vhdl.proofs.FrontLemmas.{front-of_element, front_stands}
use Rattle.opgen_vhdl.proofs.CutLemmas.{spanned}

pub length-cut : (es : List Element) (bytes rest : List ℕ) → Cut es bytes rest → length bytes ≡ size_of es + length rest
length-cut [] bytes rest c = rw c (omega arith)
length-cut (e ∷ es) bytes rest c = omega (arith, ap length c.1, length-append (text_of e) c.0, length-cut es c.0 rest c.3)

pub token_some : (kind : TokenKind) (text rest : List ℕ) → IsToken kind text rest → 0 < length text
token_some kind [] rest s = let stands = subst (FrontStands rest) (front-of_element (token kind []) rest s) (front_stands rest) in stands.0
token_some kind (b ∷ bs) rest s = omega arith

pub in_order : (es : List Element) (bytes rest : List ℕ) (low at : ℕ) → low ≤ at → Cut es bytes rest
    → InOrder low (at + size_of es) (tokens_from at es)
in_order [] bytes rest low at h c = omega arith
in_order (gap t ∷ es) bytes rest low at h c = rw (sym (add_assoc at (length t) (size_of es)))
    (in_order es c.0 rest low (at + length t) (omega arith) c.3)
in_order (token k t ∷ es) bytes rest low at h c = (
  h,
  omega (arith, token_some k t c.0 c.2),
  rw (sym (add_assoc at (length t) (size_of es))) (in_order es c.0 rest (at + length t) (at + length t) (omega arith) c.3),
)

pub tokens-in_order : (bytes : List ℕ) (ts : List Token) → Tokens bytes ts → InOrder 0 (length bytes) ts
tokens-in_order bytes ts t =
    let whole : length bytes ≡ 0 + size_of t.elements = omega (arith, length-cut t.elements bytes [] t.cut) in
    rw (whole, sym t.listed) (in_order t.elements bytes [] 0 0 (omega arith) t.cut)

in_order-le : (low high : ℕ) (ts : List Token) → InOrder low high ts → low ≤ high
in_order-le low high [] h = h
in_order-le low high (t ∷ ts) h = omega (arith, h.0, h.1, in_order-le t.end high ts h.2)

pub in_order-within : (low high : ℕ) (ts : List Token) → InOrder low high ts → All (IsWithin high) ts
in_order-within low high [] h = All-nil (IsWithin high)
in_order-within low high (t ∷ ts) h = All-cons (IsWithin high) t ts (h.1, in_order-le t.end high ts h.2) (in_order-within t.end high ts h.2)

-- behind the bytes before it, the text of an element is what its span holds
module _ (before text rest : List ℕ) where
  pub drop-before : drop (length before) (before ++ (text ++ rest)) ≡ text ++ rest
  drop-before = drop-append_seam before (text ++ rest)

  drop-through : drop (length before + length text) (before ++ (text ++ rest)) ≡ rest
  drop-through = rw (sym (append_assoc before text rest), sym (length-append before text)) (drop-append_seam (before ++ text) rest)

  spelling : (kind : TokenKind) → spelling_of (before ++ (text ++ rest)) (spanned kind (length before) (length before + length text)) ≡ text
  spelling kind =
      let size : length before + length text - length before ≡ length text = omega arith in
      rw (size, drop-before) (take-append_seam text rest)

-- the tokens from an offset on, behind the bytes before it

spelled_from : (es : List Element) (before bytes rest : List ℕ) → Cut es bytes rest
    → All (IsSpelledIn (before ++ bytes)) (tokens_from (length before) es)
spelled_from [] before bytes rest c = All-nil (IsSpelledIn (before ++ bytes))
spelled_from (gap t ∷ es) before bytes rest c = rw (c.1, sym (append_assoc before t c.0), sym (length-append before t))
    (spelled_from es (before ++ t) c.0 rest c.3)
spelled_from (token k t ∷ es) before bytes rest c =
    let whole = before ++ (t ++ c.0) in
    let first = spanned k (length before) (length before + length t) in
    let others = tokens_from (length before + length t) es in
    let here : IsSpelledIn whole first = rw (spelling before t c.0 k, drop-through before t c.0) c.2 in
    let later : All (IsSpelledIn whole) others = rw (sym (append_assoc before t c.0), sym (length-append before t))
    (spelled_from es (before ++ t) c.0 rest c.3) in
    rw c.1 (All-cons (IsSpelledIn whole) first others here later)

spellings_from : (es : List Element) (before bytes rest : List ℕ) → Cut es bytes rest
    → map (spelled (before ++ bytes)) (tokens_from (length before) es) ≡ spellings_of es
spellings_from [] before bytes rest c = refl
spellings_from (gap t ∷ es) before bytes rest c = rw (c.1, sym (append_assoc before t c.0), sym (length-append before t))
    (spellings_from es (before ++ t) c.0 rest c.3)
spellings_from (token k t ∷ es) before bytes rest c =
    let whole = before ++ (t ++ c.0) in
    let later : map (spelled whole) (tokens_from (length before + length t) es)
    ≡ spellings_of es = rw (sym (append_assoc before t c.0), sym (length-append before t))
    (spellings_from es (before ++ t) c.0 rest c.3) in
    let both : map (spelled whole) (tokens_from (length before) (token k t ∷ es))
    ≡ spellings_of (token k t ∷ es) = rw (spelling before t c.0 k, later) refl in
    subst (λ u. map (spelled (before ++ u)) (tokens_from (length before) (token k t ∷ es)) ≡ spellings_of (token k t ∷ es)) (sym c.1) both

pub tokens-within : (bytes : List ℕ) (ts : List Token) → Tokens bytes ts → All (IsWithin (length bytes)) ts
tokens-within bytes ts t = in_order-within 0 (length bytes) ts (tokens-in_order bytes ts t)

pub tokens-spelled : (bytes : List ℕ) (ts : List Token) → Tokens bytes ts → All (IsSpelledIn bytes) ts
tokens-spelled bytes ts t = rw (sym t.listed) (spelled_from t.elements [] bytes [] t.cut)

pub tokens-spellings : (bytes : List ℕ) (ts : List Token) (t : Tokens bytes ts) → map (spelled bytes) ts ≡ spellings_of t.elements
tokens-spellings bytes ts t = rw (sym t.listed) (spellings_from t.elements [] bytes [] t.cut)
