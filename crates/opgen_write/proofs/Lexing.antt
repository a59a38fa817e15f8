-- Which symbols the bytes of a text are cut into, from the front of the text on.
use Rattle.std.proofs.Common.{◌≡◌, ℕ, zero, suc, List, [], ◌∷◌, ◌++◌, take, drop, map, Option, Some, None, option_map, unwrap_or, refl, ap, sym, ◌∙◌, subst, take-append-drop}
use Rattle.opgen_vhdl.specs.Fronts.{front_of, FrontStands}
use Rattle.opgen_vhdl.specs.Tokens.{Element, gap, token, Stands, IsToken, Cut, tokens_from, Tokens}
use Rattle.opgen_vhdl.specs.Symbols.{spellings_of, Symbol, symbol_of, symbols}
use Rattle.opgen_vhdl.specs.declared.kind.Front.{Front}
use Rattle.opgen_vhdl.specs.declared.kind.Front.TheVariants as front
use Rattle.opgen_vhdl.specs.declared.kind.Token.{Token}
use Rattle.opgen_vhdl.specs.declared.kind.TokenKind.{TokenKind}
use Rattle.opgen_vhdl.proofs.FrontLemmas.{front_stands}
use Rattle.opgen_vhdl.proofs.SpanLemmas.{tokens-spellings}

-- the bytes are cut into elements, whose tokens are these symbols
pub record Lexes (bytes : List ℕ) (ss : List Symbol) : Type 0 where
  pub elements : List Element
  pub cut : Cut elements bytes []
  pub given : map symbol_of (spellings_of elements) ≡ ss

pub lexes_end : Lexes [] []
lexes_end = record { elements = []; cut = refl; given = refl }

pub lexes_gap : (text rest : List ℕ) (ss : List Symbol) → Stands (gap text) rest → Lexes rest ss → Lexes (text ++ rest) ss
lexes_gap text rest ss stands l = record { elements = gap text ∷ l.elements; cut = (rest, refl, stands, l.cut); given = l.given }

pub lexes_token : (kind : TokenKind) (text rest : List ℕ) (ss : List Symbol) → IsToken kind text rest → Lexes rest ss
    → Lexes (text ++ rest) (symbol_of (kind, text) ∷ ss)
lexes_token kind text rest ss stands l = record {
  elements = token kind text ∷ l.elements;
  cut = (rest, refl, stands, l.cut);
  given = ap (λ u. symbol_of (kind, text) ∷ u) l.given;
}

-- what stands at the front of the bytes, and then what is found behind it
abbrev pub behind : (List ℕ → Option (List Symbol × List ℕ)) → List ℕ → Option Front → Option (List Symbol × List ℕ)
behind on bytes None = None
behind on bytes (Some (front.Gap m)) = on (drop m bytes)
behind on bytes (Some (front.Token k m)) = option_map (λ r. (symbol_of (k, take m bytes) ∷ r.0, r.1)) (on (drop m bytes))

-- the symbols of the first elements of a text, so many as are asked, and the bytes behind them
abbrev pub advance : ℕ → List ℕ → Option (List Symbol × List ℕ)
advance zero bytes = Some ([], bytes)
advance (suc n) bytes = behind (λ u. advance n u) bytes (front_of bytes)

some_pair : (o : Option (List Symbol × List ℕ)) (f : List Symbol × List ℕ → List Symbol × List ℕ) (r : List Symbol × List ℕ)
    → option_map f o ≡ Some r
    → (q : List Symbol × List ℕ) × (o ≡ Some q) × (f q ≡ r)
some_pair None f r e = absurd cc
some_pair (Some q) f r e = (q, refl, cc)

found : (on : List ℕ → Option (List Symbol × List ℕ)) (bytes rest : List ℕ) (ss ks : List Symbol) (f : Option Front)
    → FrontStands bytes f → behind on bytes f ≡ Some (ss, rest)
    → ((next : List ℕ) (ts : List Symbol) → on next ≡ Some (ts, rest) → Lexes next (ts ++ ks)) → Lexes bytes (ss ++ ks)
found on bytes rest ss ks None stands e go = absurd cc
found on bytes rest ss ks (Some (front.Gap m)) stands e go =
    subst (λ u. Lexes u (ss ++ ks)) (take-append-drop m bytes)
    (lexes_gap (take m bytes) (drop m bytes) (ss ++ ks) stands.2 (go (drop m bytes) ss e))
found on bytes rest ss ks (Some (front.Token k m)) stands e go =
    let q = some_pair (on (drop m bytes)) (λ r. (symbol_of (k, take m bytes) ∷ r.0, r.1)) (ss, rest) e in
    let same_symbols : symbol_of (k, take m bytes) ∷ q.0.0 ≡ ss = ap (λ r. r.0) q.2 in
    let same_rest : q.0.1 ≡ rest = ap (λ r. r.1) q.2 in
    let later = go (drop m bytes) q.0.0 (q.1 ∙ ap (λ u. Some (q.0.0, u)) same_rest) in
    subst (λ u. Lexes u (ss ++ ks)) (take-append-drop m bytes)
    (subst (λ u. Lexes (take m bytes ++ drop m bytes) (u ++ ks)) same_symbols
    (lexes_token k (take m bytes) (drop m bytes) (q.0.0 ++ ks) stands.2 later))

-- what was found in front of the rest is cut into its symbols, and then the rest into its own
pub lexes_found : (n : ℕ) (bytes rest : List ℕ) (ss ks : List Symbol) → advance n bytes ≡ Some (ss, rest) → Lexes rest ks
    → Lexes bytes (ss ++ ks)
lexes_found zero bytes rest ss ks e l =
    let same_bytes : bytes ≡ rest = ap (λ r. unwrap_or (option_map (λ q. q.1) r) bytes) e in
    let same_symbols : [] ≡ ss = ap (λ r. unwrap_or (option_map (λ q. q.0) r) []) e in
    subst (λ u. Lexes bytes (u ++ ks)) same_symbols (subst (λ u. Lexes u ks) (sym same_bytes) l)
lexes_found (suc n) bytes rest ss ks e l =
    found (λ u. advance n u) bytes rest ss ks (front_of bytes) (front_stands bytes) e (λ next ts at. lexes_found n next rest ts ks at l)

-- the symbols of a text that is cut whole are those of its tokens
pub lexes_tokens : (bytes : List ℕ) (ss : List Symbol) → Lexes bytes ss → (ts : List Token) × Tokens bytes ts × (symbols bytes ts ≡ ss)
lexes_tokens bytes ss l =
    let ts = tokens_from 0 l.elements in
    let cut : Tokens bytes ts = record { elements = l.elements; cut = l.cut; listed = refl } in
    (ts, cut, ap (map symbol_of) (tokens-spellings bytes ts cut) ∙ l.given)
