-- A text is cut in one way, and a cut that reaches an offset goes on by the element that stands there.
use Rattle.std.proofs.Common.{◌≡◌, ℕ, zero, suc, ◌+◌, ◌≤◌, List, [], ◌∷◌, ◌++◌, length, take, drop, Some, None, Option, inl, inr, ◌⊎◌, refl, ap, sym, ◌∙◌, subst, arith, add_assoc, add-zero, zero-add, length-take-le, take-append-drop, drop-drop, length-drop}
use Rattle.std.proofs.lemmas.List.{drop_all}
use Rattle.std.proofs.Math.Seq.{take-append_seam, drop-append_seam}
use Rattle.opgen_vhdl.specs.Fronts.{front_of, FrontStands}
use Rattle.opgen_vhdl.specs.Tokens.{Element, gap, token, text_of, Stands, IsToken, Cut, size_of, tokens_from, Tokens, NothingStarts, LexicalAt}
use Rattle.opgen_vhdl.specs.declared.kind.Front.{Front}
use Rattle.opgen_vhdl.specs.declared.kind.Front.TheVariants as front
use Rattle.opgen_vhdl.specs.declared.kind.TokenKind.{TokenKind}
use Rattle.opgen_vhdl.specs.declared.kind.Token.{Token}
use Rattle.opgen_vhdl.proofs.FrontLemmas.{front_of_element, front-of_element, None-nothing, front_stands}

-- one way to cut

same_rest : (d e : Element) (r s : List ℕ) → text_of d ++ r ≡ text_of e ++ s → length (text_of d) ≡ length (text_of e)
    → (text_of d ≡ text_of e) × (r ≡ s)
same_rest d e r s at n = (
  sym (take-append_seam (text_of d) r) ∙ rw (at, n) (take-append_seam (text_of e) s),
  sym (drop-append_seam (text_of d) r) ∙ rw (at, n) (drop-append_seam (text_of e) s),
)

gap_length : (m n : ℕ) → Some (front.Gap m) ≡ Some (front.Gap n) → m ≡ n
gap_length m n e = cc

token_parts : (j k : TokenKind) (m n : ℕ) → Some (front.Token j m) ≡ Some (front.Token k n) → (j ≡ k) × (m ≡ n)
token_parts j k m n e = (cc, cc)

same_front : (d e : Element) (r s : List ℕ) → Stands d r → Stands e s → text_of d ++ r ≡ text_of e ++ s → Some (front_of_element d)
    ≡ Some (front_of_element e)
same_front d e r s a b at = sym (front-of_element d r a) ∙ ap front_of at ∙ front-of_element e s b

pub same_element : (d e : Element) (r s : List ℕ) → Stands d r → Stands e s → text_of d ++ r ≡ text_of e ++ s → (d ≡ e) × (r ≡ s)
same_element (gap t) (gap u) r s a b at =
    let n = gap_length _ _ (same_front (gap t) (gap u) r s a b at) in
    let (texts, rests) = same_rest (gap t) (gap u) r s at n in (ap gap texts, rests)
same_element (token j t) (token k u) r s a b at =
    let (kinds, n) = token_parts j k _ _ (same_front (token j t) (token k u) r s a b at) in
    let (texts, rests) = same_rest (token j t) (token k u) r s at n in (rw (kinds, texts) refl, rests)
same_element (gap t) (token k u) r s a b at = let bad : Some (front.Gap (length t))
    ≡ Some (front.Token k (length u)) = same_front (gap t) (token k u) r s a b at in cc
same_element (token k t) (gap u) r s a b at = let bad : Some (front.Token k (length t))
    ≡ Some (front.Gap (length u)) = same_front (token k t) (gap u) r s a b at in cc

pub one_cut : (ds es : List Element) (bytes r s : List ℕ) → Cut ds bytes r → Cut es bytes s → NothingStarts r → NothingStarts s → (ds ≡ es)
    × (r ≡ s)
one_cut [] [] bytes r s c d nr ns = (refl, sym c ∙ d)
one_cut [] (e ∷ es) bytes r s c d nr ns = absurd (nr e d.0 (sym c ∙ d.1) d.2)
one_cut (d ∷ ds) [] bytes r s b c nr ns = absurd (ns d b.0 (sym c ∙ b.1) b.2)
one_cut (d ∷ ds) (e ∷ es) bytes r s b c nr ns =
    let (elements, rests) = same_element d e b.0 c.0 b.2 c.2 (sym b.1 ∙ c.1) in
    let (more, last) = one_cut ds es c.0 r s (subst (λ x. Cut ds x r) rests b.3) c.3 nr ns in
    (rw (elements, more) refl, last)

pub nothing_starts_at_end : NothingStarts []
nothing_starts_at_end = None-nothing [] refl

-- one element more

cut-push : (es : List Element) (bytes rest next : List ℕ) (e : Element) → Cut es bytes rest → rest ≡ text_of e ++ next → Stands e next
    → Cut (es ++ e ∷ []) bytes next
cut-push [] bytes rest next e c at s = (next, c ∙ at, s, refl)
cut-push (d ∷ es) bytes rest next e c at s = (c.0, c.1, c.2, cut-push es c.0 rest next e c.3 at s)

size_of-push : (es : List Element) (e : Element) → size_of (es ++ e ∷ []) ≡ size_of es + length (text_of e)
size_of-push [] e = omega arith
size_of-push (d ∷ es) e = omega (arith, size_of-push es e)

abbrev pub spanned : TokenKind → ℕ → ℕ → Token
spanned kind start end = record { kind = kind; start = start; end = end }

tokens_from-push_gap : (es : List Element) (at : ℕ) (text : List ℕ) → tokens_from at (es ++ gap text ∷ []) ≡ tokens_from at es
tokens_from-push_gap [] at text = refl
tokens_from-push_gap (gap t ∷ es) at text = tokens_from-push_gap es (at + length t) text
tokens_from-push_gap (token k t ∷ es) at text = ap (λ ts. spanned k at (at + length t) ∷ ts) (tokens_from-push_gap es (at + length t) text)

tokens_from-push_token : (es : List Element) (at : ℕ) (k : TokenKind) (text : List ℕ) → tokens_from at (es ++ token k text ∷ [])
    ≡ tokens_from at es ++ spanned k (at + size_of es) (at + size_of es + length text) ∷ []
tokens_from-push_token [] at k text = rw (add-zero at) refl
tokens_from-push_token (gap t ∷ es) at k text = tokens_from-push_token es (at + length t) k text
    ∙ rw (add_assoc at (length t) (size_of es)) refl
tokens_from-push_token (token j t ∷ es) at k text = ap (λ ts. spanned j at (at + length t) ∷ ts)
    (tokens_from-push_token es (at + length t) k text ∙ rw (add_assoc at (length t) (size_of es)) refl)

-- the bytes before the offset are elements, whose tokens these are
pub record CutTo (bytes : List ℕ) (at : ℕ) (tokens : List Token) : Type 0 where
  pub elements : List Element
  pub cut : Cut elements bytes (drop at bytes)
  pub place : size_of elements ≡ at
  pub listed : tokens_from 0 elements ≡ tokens

pub cut_to_start : (bytes : List ℕ) → CutTo bytes 0 []
cut_to_start bytes = record { elements = []; cut = refl; place = refl; listed = refl }

drop_more : (m n : ℕ) (bs : List ℕ) → drop (m + n) bs ≡ drop n (drop m bs)
drop_more m n bs = sym (drop-drop n m bs)

module _ (bytes : List ℕ) (at n : ℕ) (within : n ≤ length (drop at bytes)) where
  pub cut_to-gap : (ts : List Token) → CutTo bytes at ts → Stands (gap (take n (drop at bytes))) (drop n (drop at bytes))
      → CutTo bytes (at + n) ts
  cut_to-gap ts c s = record {
    elements = c.elements ++ gap (take n (drop at bytes)) ∷ [];
    cut = rw (drop_more at n bytes) (cut-push c.elements bytes (drop at bytes) (drop n (drop at bytes)) _ c.cut (sym (take-append-drop n
        (drop at bytes))) s);
    place = size_of-push c.elements _ ∙ rw (c.place, length-take-le n (drop at bytes) within) refl;
    listed = tokens_from-push_gap c.elements 0 _ ∙ c.listed;
  }

  pub cut_to-token : (k : TokenKind) (ts : List Token) → CutTo bytes at ts → IsToken k (take n (drop at bytes)) (drop n (drop at bytes))
      → CutTo bytes (at + n) (ts ++ spanned k at (at + n) ∷ [])
  cut_to-token k ts c s = record {
    elements = c.elements ++ token k (take n (drop at bytes)) ∷ [];
    cut = rw (drop_more at n bytes) (cut-push c.elements bytes (drop at bytes) (drop n (drop at bytes)) _ c.cut (sym (take-append-drop n
        (drop at bytes))) s);
    place = size_of-push c.elements _ ∙ rw (c.place, length-take-le n (drop at bytes) within) refl;
    listed = tokens_from-push_token c.elements 0 k _ ∙ rw (c.place, c.listed, length-take-le n (drop at bytes) within, zero-add at) refl;
  }

pub cut_to_end : (bytes : List ℕ) (at : ℕ) (ts : List Token) → length bytes ≤ at → CutTo bytes at ts → Tokens bytes ts
cut_to_end bytes at ts h c = record {
  elements = c.elements;
  cut = subst (Cut c.elements bytes) (drop_all at bytes h) c.cut;
  listed = c.listed;
}

-- each text can be cut to its end, or to where nothing starts

abbrev HasReading : List ℕ → Type 0
HasReading bytes = ((ts : List Token) × Tokens bytes ts) ⊎ ((n : ℕ) × LexicalAt bytes n)

module _ (bytes : List ℕ) where
  stopped : (at : ℕ) (ts : List Token) (rest : List ℕ) → drop at bytes ≡ rest → CutTo bytes at ts → NothingStarts rest → HasReading bytes
  stopped at ts [] e c nothing = inl (ts, record { elements = c.elements; cut = subst (Cut c.elements bytes) e c.cut; listed = c.listed })
  stopped at ts (b ∷ bs) e c nothing = inr (
    at,
    record {
      elements = c.elements;
      rest = b ∷ bs;
      cut = subst (Cut c.elements bytes) e c.cut;
      place = c.place;
      more = omega arith;
      nothing = nothing;
    },
  )

  read_on : (fuel at : ℕ) (ts : List Token) (f : Option Front) → length (drop at bytes) ≤ fuel → CutTo bytes at ts
      → FrontStands (drop at bytes) f → HasReading bytes
  read_on fuel at ts None h c stands = stopped at ts (drop at bytes) refl c stands
  read_on zero at ts (Some (front.Gap n)) h c stands = absurd (omega (arith, stands.0, stands.1))
  read_on zero at ts (Some (front.Token k n)) h c stands = absurd (omega (arith, stands.0, stands.1))
  read_on (suc fuel) at ts (Some (front.Gap n)) h c stands =
      let shorter : length (drop (at + n) bytes) ≤ fuel = rw (drop_more at n bytes, length-drop n (drop at bytes))
      (omega (arith, stands.0, stands.1)) in
      read_on fuel (at + n) ts (front_of (drop (at + n) bytes)) shorter (cut_to-gap bytes at n stands.1 ts c stands.2)
      (front_stands (drop (at + n) bytes))
  read_on (suc fuel) at ts (Some (front.Token k n)) h c stands =
      let shorter : length (drop (at + n) bytes) ≤ fuel = rw (drop_more at n bytes, length-drop n (drop at bytes))
      (omega (arith, stands.0, stands.1)) in
      read_on fuel (at + n) (ts ++ spanned k at (at + n) ∷ []) (front_of (drop (at + n) bytes)) shorter
      (cut_to-token bytes at n stands.1 k ts c stands.2) (front_stands (drop (at + n) bytes))

pub has_reading : (bytes : List ℕ) → HasReading bytes
has_reading bytes = read_on bytes (length bytes) 0 [] (front_of bytes) (omega arith) (cut_to_start bytes) (front_stands bytes)
