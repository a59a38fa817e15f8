-- Cuts one behind the other, and the first token of a text.
use Rattle.std.proofs.Common.{◌≡◌, ℕ, ◌+◌, ◌-◌, ◌≤◌, ◌<◌, List, [], ◌∷◌, ◌++◌, suc, inl, inr, length, take, drop, refl, ap, sym, ◌∙◌, arith, take-append-drop}
use Rattle.std.specs.List.{prefix_len}
use Rattle.std.proofs.lemmas.Bool.{cases_Bool}
use Rattle.opgen_vhdl.specs.Tokens.{is_white, Element, gap, token, text_of, Stands, Cut, size_of, tokens_from, NothingStarts, LexicalAt}
use Rattle.opgen_vhdl.specs.Fronts.{StandsFor}
use Rattle.opgen_vhdl.specs.Symbols.{spellings_of}
use Rattle.opgen_vhdl.specs.declared.kind.Token.{Token}
use Rattle.opgen_vhdl.specs.declared.kind.TokenKind.{TokenKind}
use Rattle.opgen_vhdl.proofs.CutLemmas.{CutTo, cut_to_start, cut_to_end, cut_to-gap, cut_to-token, spanned}
use Rattle.opgen_vhdl.proofs.SpanLemmas.{length-cut, token_some}
use Rattle.opgen_lex.specs.First.{IsPassed, HasTokens, IsFirstToken, HasNoToken}

pub cut-append : (es fs : List Element) (bytes rest end : List ℕ) → Cut es bytes rest → Cut fs rest end → Cut (es ++ fs) bytes end
cut-append [] fs bytes rest end c d = rw c d
cut-append (e ∷ es) fs bytes rest end c d = (c.0, c.1, c.2, cut-append es fs c.0 rest end c.3 d)

pub spellings-append : (es fs : List Element) → spellings_of (es ++ fs) ≡ spellings_of es ++ spellings_of fs
spellings-append [] fs = refl
spellings-append (gap t ∷ es) fs = spellings-append es fs
spellings-append (token k t ∷ es) fs = ap (λ u. (k, t) ∷ u) (spellings-append es fs)

-- no token stands before the rest
pub record Behind (bytes rest : List ℕ) : Type 0 where
  pub elements : List Element
  pub cut : Cut elements bytes rest
  pub gaps : spellings_of elements ≡ []

pub behind_start : (bytes : List ℕ) → Behind bytes bytes
behind_start bytes = record { elements = []; cut = refl; gaps = refl }

module _ (bytes rest : List ℕ) (b : Behind bytes rest) where
  with_more : (n : ℕ) (e : Element) → text_of e ≡ take n rest → Stands e (drop n rest) → Cut (b.elements ++ e ∷ []) bytes (drop n rest)
  with_more n e t s = cut-append b.elements (e ∷ []) bytes rest (drop n rest) b.cut
      (drop n rest, sym (take-append-drop n rest) ∙ ap (λ u. u ++ drop n rest) (sym t), s, refl)

  pub behind-gap : (n : ℕ) → StandsFor rest n (gap (take n rest)) → Behind bytes (drop n rest)
  behind-gap n s = record {
    elements = b.elements ++ gap (take n rest) ∷ [];
    cut = with_more n (gap (take n rest)) refl s.2;
    gaps = spellings-append b.elements (gap (take n rest) ∷ []) ∙ rw b.gaps refl;
  }

  pub behind-token : (kind : TokenKind) (n : ℕ) → StandsFor rest n (token kind (take n rest))
      → IsFirstToken bytes kind (take n rest) (drop n rest)
  behind-token kind n s = record {
    before = b.elements;
    gaps = b.gaps;
    cut = with_more n (token kind (take n rest)) refl s.2;
  }

  pub behind-nothing : NothingStarts rest → HasNoToken bytes
  behind-nothing h = record { elements = b.elements; rest = rest; cut = b.cut; gaps = b.gaps; nothing = h }

-- white space at the front of the rest
pub behind-white : (bytes rest : List ℕ) → Behind bytes rest → Behind bytes (drop (prefix_len is_white rest) rest)
behind-white bytes [] b = b
behind-white bytes (x ∷ rest) b = elim (cases_Bool (is_white x)) [
  | inl white ↦
      let n : prefix_len is_white (x ∷ rest) ≡ suc (prefix_len is_white rest) = rw white (omega arith) in
      let stands : StandsFor (x ∷ rest) 1 (gap (x ∷ [])) = (omega arith, omega arith, inl (record { byte = x; alone = refl; white = white })) in
      rw n (behind-white bytes rest (behind-gap bytes (x ∷ rest) b 1 stands))
  | inr other ↦ rw other b
]

-- the bytes before the offset are elements
pub record IsCutTo (bytes : List ℕ) (at : ℕ) : Type 0 where
  pub tokens : List Token
  pub cut : CutTo bytes at tokens

pub is_cut_to_start : (bytes : List ℕ) → IsCutTo bytes 0
is_cut_to_start bytes = record { tokens = []; cut = cut_to_start bytes }

pub is_cut_to-gap : (bytes : List ℕ) (at n : ℕ) → IsCutTo bytes at → StandsFor (drop at bytes) n (gap (take n (drop at bytes)))
    → IsCutTo bytes (at + n)
is_cut_to-gap bytes at n c s = record { tokens = c.tokens; cut = cut_to-gap bytes at n s.1 c.tokens c.cut s.2 }

pub is_cut_to-token : (bytes : List ℕ) (at n : ℕ) (kind : TokenKind) → IsCutTo bytes at
    → StandsFor (drop at bytes) n (token kind (take n (drop at bytes))) → IsCutTo bytes (at + n)
is_cut_to-token bytes at n kind c s = record {
  tokens = c.tokens ++ spanned kind at (at + n) ∷ [];
  cut = cut_to-token bytes at n s.1 kind c.tokens c.cut s.2;
}

pub has_tokens : (bytes : List ℕ) (at : ℕ) → length bytes ≤ at → IsCutTo bytes at → HasTokens bytes
has_tokens bytes at h c = record { tokens = c.tokens; cut = cut_to_end bytes at c.tokens h c.cut }

pub passed_start : (bytes : List ℕ) → IsPassed bytes bytes
passed_start bytes = record { elements = []; cut = refl }

pub passed-on : (bytes rest later : List ℕ) → IsPassed bytes rest → IsPassed rest later → IsPassed bytes later
passed-on bytes rest later p q = record {
  elements = p.elements ++ q.elements;
  cut = cut-append p.elements q.elements bytes rest later p.cut q.cut;
}

module _ (bytes : List ℕ) (kind : TokenKind) (text behind : List ℕ) (t : IsFirstToken bytes kind text behind) where
  -- the elements up to the first token, with it
  abbrev pub first_elements : List Element
  first_elements = t.before ++ token kind text ∷ []

  pub first-alone : spellings_of first_elements ≡ (kind, text) ∷ []
  first-alone = spellings-append t.before (token kind text ∷ []) ∙ rw t.gaps refl

  pub first-passed : IsPassed bytes behind
  first-passed = record { elements = first_elements; cut = t.cut }

size_of-append : (es fs : List Element) → size_of (es ++ fs) ≡ size_of es + size_of fs
size_of-append [] fs = omega arith
size_of-append (e ∷ es) fs = omega (arith, size_of-append es fs)

some_size : (es : List Element) (bytes rest : List ℕ) (kind : TokenKind) (text : List ℕ) → Cut es bytes rest
    → spellings_of es ≡ (kind, text) ∷ [] → 0 < size_of es
some_size [] bytes rest kind text c h = absurd cc
some_size (gap t ∷ es) bytes rest kind text c h = omega (arith, some_size es c.0 rest kind text c.3 h)
some_size (token k t ∷ es) bytes rest kind text c h = omega (arith, token_some k t c.0 c.2)

pub behind-shorter : (rest : List ℕ) (kind : TokenKind) (text behind : List ℕ) → IsFirstToken rest kind text behind
    → length behind < length rest
behind-shorter rest kind text behind t =
    let es = first_elements rest kind text behind t in
    omega (arith, length-cut es rest behind t.cut, some_size es rest behind kind text t.cut (first-alone rest kind text behind t))

pub fault-within : (bytes : List ℕ) (at : ℕ) → LexicalAt bytes at → at ≤ length bytes
fault-within bytes at l = omega (arith, l.place, length-cut l.elements bytes l.rest l.cut)

module _ (bytes rest : List ℕ) (p : IsPassed bytes rest) where
  pub passed-token : (kind : TokenKind) (text behind : List ℕ) → IsFirstToken rest kind text behind → IsPassed bytes behind
  passed-token kind text behind t = passed-on bytes rest behind p (first-passed rest kind text behind t)

  pub passed-within : length rest ≤ length bytes
  passed-within = omega (arith, length-cut p.elements bytes rest p.cut)

  pub passed-fault : (at : ℕ) → LexicalAt rest at → LexicalAt bytes (length bytes - length rest + at)
  passed-fault at l = record {
    elements = p.elements ++ l.elements;
    rest = l.rest;
    cut = cut-append p.elements l.elements bytes rest l.rest p.cut l.cut;
    place = omega (arith, size_of-append p.elements l.elements, length-cut p.elements bytes rest p.cut, l.place);
    more = l.more;
    nothing = l.nothing;
  }

  pub passed-whole : HasTokens rest → HasTokens bytes
  passed-whole h = record {
    tokens = tokens_from 0 (p.elements ++ h.cut.elements);
    cut = record {
      elements = p.elements ++ h.cut.elements;
      cut = cut-append p.elements h.cut.elements bytes rest [] p.cut h.cut.cut;
      listed = refl;
    };
  }
