-- The canonical form of a number is the only one.
use Rattle.std.proofs.Common.{◌≡◌, ◌≢◌, ◌⊎◌, inl, inr, zero, suc, ℤ, pos, negsuc, ◌+ℤ◌, List, [], ◌∷◌, refl, sym, ap, ◌∙◌, arith}
use Rattle.std.proofs.lemmas.Int.{ints}
use Rattle.opgen_csd.specs.Digits.{IsDigit, value_of, IsCanonical}

pub digit_cases : (d : ℤ) → IsDigit d → (d ≡ negsuc 0) ⊎ ((d ≡ pos 0) ⊎ (d ≡ pos 1))
digit_cases (pos zero) h = inr (inl refl)
digit_cases (pos (suc zero)) h = inr (inr refl)
digit_cases (pos (suc (suc n))) h = absurd (omega (arith, ints))
digit_cases (negsuc zero) h = inl refl
digit_cases (negsuc (suc n)) h = absurd (omega (arith, ints))

-- a digit is zero, or an even number stands above it
pub half_above : (d : ℤ) (ds : List ℤ) → IsCanonical (d ∷ ds) → (x : ℤ) × ((d ≡ pos 0) ⊎ (value_of ds ≡ x +ℤ x))
half_above (pos zero) ds h = (pos 0, inl refl)
half_above (pos (suc n)) [] h = (pos 0, inr refl)
half_above (negsuc n) [] h = (pos 0, inr refl)
half_above (pos (suc n)) (e ∷ ds) h = (value_of ds, inr (let z : e ≡ pos 0 = h.1 (λ q. omega (arith, ints, q)) in omega (arith, ints, z)))
half_above (negsuc n) (e ∷ ds) h = (value_of ds, inr (let z : e ≡ pos 0 = h.1 (λ q. omega (arith, ints, q)) in omega (arith, ints, z)))

pub not_zero : (d : ℤ) (ds : List ℤ) → IsCanonical (d ∷ ds) → value_of (d ∷ ds) ≢ pos 0
not_zero d [] h e = h.1 (omega (arith, ints, e))
not_zero d (f ∷ ds) h e =
    let above = not_zero f ds h.2 in
    let lowest : d ≡ pos 0 = omega (arith, ints, e, h.0) in
    above (omega (arith, ints, e, lowest))

lowest : (d e v w x y : ℤ) → IsDigit d → IsDigit e → (d ≡ pos 0) ⊎ (v ≡ x +ℤ x) → (e ≡ pos 0) ⊎ (w ≡ y +ℤ y) → d +ℤ (v +ℤ v) ≡ e +ℤ (w +ℤ w)
    → d ≡ e
lowest d e v w x y hd he even odd same = omega (arith, ints)

pub unique : (ds es : List ℤ) → IsCanonical ds → IsCanonical es → value_of ds ≡ value_of es → ds ≡ es
unique [] [] h k same = refl
unique [] (e ∷ es) h k same = absurd (not_zero e es k (sym same))
unique (d ∷ ds) [] h k same = absurd (not_zero d ds h same)
unique (d ∷ ds) (e ∷ es) h k same =
    let x = half_above d ds h in
    let y = half_above e es k in
    let one = lowest d e (value_of ds) (value_of es) x.0 y.0 h.0 k.0 x.1 y.1 same in
    ap (λ z. z ∷ ds) one ∙ ap (λ zs. e ∷ zs) (unique ds es h.2 k.2 (omega (arith, ints, same, one)))
