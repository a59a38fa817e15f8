-- A word walked byte by byte.
use Rattle.std.specs.Prelude.{if◌then◌else◌, option_map}
use Rattle.std.proofs.Common.{◌≡◌, ℕ, suc, ◌+◌, ◌<◌, ◌≤◌, Bool, true, false, ◌&&◌, inl, inr, List, [], ◌∷◌, length, take, drop, get_or, nat_le, Option, Some, None, refl, ap, sym, ◌∙◌, arith, add-one, drop-cons}
use Rattle.std.specs.List.{prefix_len}
use Rattle.std.proofs.lemmas.Bool.{cases_Bool, eqb-true}
use Rattle.std.proofs.lemmas.List.{drop_all}
use Rattle.std.proofs.Math.Bool.{and-false, and-true}
use Rattle.opgen_vhdl.specs.Tokens.{is_word_byte, is_underscore, has_single_underscores}
use Rattle.opgen_vhdl.specs.Fronts.{word_front}
use Rattle.opgen_vhdl.specs.declared.kind.Front.{Front}
use Rattle.opgen_vhdl.specs.declared.kind.Front.TheVariants.{Token}
use Rattle.opgen_vhdl.specs.declared.kind.TokenKind.TheVariants.{Word}

-- no word ends behind an underscore
abbrev pub stop : (underscore : Bool) → Option ℕ
stop underscore = if underscore then None else Some 0

-- how far a word goes on, behind an underscore or not, where its underscores are single
abbrev pub word_end : (underscore : Bool) → List ℕ → Option ℕ
word_end underscore [] = stop underscore
word_end underscore (b ∷ bs) =
    if is_word_byte b
    then (if is_underscore b && underscore then None else option_map suc (word_end (is_underscore b) bs))
    else stop underscore

-- a word, where its underscores are single
abbrev pub single_word : (single : Bool) → ℕ → Option ℕ
single_word single n = if single then Some n else None

-- the underscores of a word are single, which goes on behind an underscore or not
abbrev single_behind : (underscore : Bool) → List ℕ → Bool
single_behind true w = has_single_underscores (95 ∷ w)
single_behind false w = has_single_underscores w

single-other : (b : ℕ) (w : List ℕ) (underscore : Bool) → is_underscore b ≡ false → single_behind underscore (b ∷ w) ≡ has_single_underscores w
single-other b [] true h = rw h refl
single-other b (d ∷ w) true h = rw h refl
single-other b [] false h = rw h refl
single-other b (d ∷ w) false h = rw h refl

single_word-suc : (single : Bool) (n : ℕ) → option_map suc (single_word single n) ≡ single_word single (suc n)
single_word-suc true n = refl
single_word-suc false n = refl

stopped : (underscore : Bool) → stop underscore ≡ single_word (single_behind underscore []) 0
stopped true = refl
stopped false = refl

abbrev Ends : List ℕ → Type 0
Ends bs = (underscore : Bool) → word_end underscore bs
    ≡ single_word (single_behind underscore (take (prefix_len is_word_byte bs) bs)) (prefix_len is_word_byte bs)

-- with one byte of the word more
goes_on : (underscore : Bool) (b : ℕ) (bs : List ℕ) (u : Bool) → is_underscore b ≡ u → Ends bs →
    (if u && underscore then None else option_map suc (word_end u bs))
    ≡ single_word (single_behind underscore (b ∷ take (prefix_len is_word_byte bs) bs)) (suc (prefix_len is_word_byte bs))
goes_on true b bs true h ends = rw (eqb-true b 95 h, and-false) refl
goes_on false b bs true h ends = rw (eqb-true b 95 h) (ap (option_map suc) (ends true)
    ∙ single_word-suc (single_behind true (take (prefix_len is_word_byte bs) bs)) (prefix_len is_word_byte bs))
goes_on underscore b bs false h ends = rw (single-other b (take (prefix_len is_word_byte bs) bs) underscore h)
    (ap (option_map suc) (ends false)
    ∙ single_word-suc (single_behind false (take (prefix_len is_word_byte bs) bs)) (prefix_len is_word_byte bs))

ends-at : (bs : List ℕ) → Ends bs
ends-at [] underscore = stopped underscore
ends-at (b ∷ bs) underscore = elim (cases_Bool (is_word_byte b)) [
  | inl w ↦
      let n : prefix_len is_word_byte (b ∷ bs) ≡ suc (prefix_len is_word_byte bs) = rw w (omega arith) in
      rw (n, w) (goes_on underscore b bs (is_underscore b) refl (ends-at bs))
  | inr o ↦ rw o (stopped underscore)
]

pub word_end-word : (bs : List ℕ) → word_end false bs
    ≡ (if has_single_underscores (take (prefix_len is_word_byte bs) bs) then Some (prefix_len is_word_byte bs) else None)
word_end-word bs = ends-at bs false

-- the walk, which has come so far

abbrev pub further : ℕ → Option ℕ → Option ℕ
further i o = option_map (λ n. i + n) o

further-suc : (i : ℕ) (o : Option ℕ) → further i (option_map suc o) ≡ further (i + 1) o
further-suc i None = refl
further-suc i (Some n) = let e : i + suc n ≡ (i + 1) + n = omega arith in ap Some e

pub walk-start : (bs : List ℕ) → further 0 (word_end false (drop 0 bs)) ≡ word_end false bs
walk-start bs = from_zero (word_end false bs)
  where
    from_zero : (o : Option ℕ) → further 0 o ≡ o
    from_zero None = refl
    from_zero (Some n) = let e : 0 + n ≡ n = omega arith in ap Some e

module _ (bs : List ℕ) (i : ℕ) (underscore : Bool) where
  module _ (lt : i < length bs) where
    here : drop i bs ≡ get_or bs i 0 ∷ drop (i + 1) bs
    here = rw add-one (drop-cons bs i 0 lt)

    module _ (word : is_word_byte (get_or bs i 0) ≡ true) where
      pub walk-more : (is_underscore (get_or bs i 0) && underscore) ≡ false → further (i + 1) (word_end (is_underscore (get_or bs i 0)) (drop (i + 1) bs))
          ≡ further i (word_end underscore (drop i bs))
      walk-more h = sym (ap (λ l. further i (word_end underscore l)) here ∙ rw (word, h) (further-suc i (word_end (is_underscore (get_or bs i 0)) (drop (i + 1) bs))))

      pub walk-twice : (is_underscore (get_or bs i 0) && underscore) ≡ true → further i (word_end underscore (drop i bs)) ≡ None
      walk-twice h = ap (λ l. further i (word_end underscore l)) here ∙ rw (word, h) refl

    pub walk-other : is_word_byte (get_or bs i 0) ≡ false → word_end underscore (drop i bs) ≡ stop underscore
    walk-other h = ap (word_end underscore) here ∙ rw h refl

  pub walk-end : length bs ≤ i → word_end underscore (drop i bs) ≡ stop underscore
  walk-end h = ap (word_end underscore) (drop_all i bs h)

pub ended-at : (i : ℕ) (underscore : Bool) → (if underscore then None else Some i) ≡ further i (stop underscore)
ended-at i true = refl
ended-at i false = let e : i ≡ i + 0 = omega arith in ap Some e

-- the word at the front, by its length

abbrev pub bounded : Option ℕ → Option Front
bounded None = None
bounded (Some n) = if nat_le n 64 then Some (Token Word n) else None

by_length : (single : Bool) (n : ℕ) → (if nat_le n 64 && single then Some (Token Word n) else None) ≡ bounded (single_word single n)
by_length true n = rw (and-true (nat_le n 64)) refl
by_length false n = rw (and-false (nat_le n 64)) refl

pub word_front-by_length : (bs : List ℕ) (o : Option ℕ) → o
    ≡ (if has_single_underscores (take (prefix_len is_word_byte bs) bs) then Some (prefix_len is_word_byte bs) else None)
    → word_front bs ≡ bounded o
word_front-by_length bs o e = by_length (has_single_underscores (take (prefix_len is_word_byte bs) bs)) (prefix_len is_word_byte bs)
    ∙ ap bounded (sym e)
