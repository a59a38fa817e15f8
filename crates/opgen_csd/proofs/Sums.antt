-- Digits one by one from the lowest: their value, how many are not zero, and their cuts.
use Rattle.std.proofs.Common.{◌≡◌, ◌⊎◌, ⊎_elim, ℕ, zero, suc, ◌+◌, ◌*◌, ◌^◌, ◌≤◌, ◌<◌, length, take, get_or, map, ◌++◌, unsigned_abs, append_assoc, ℤ, pos, negsuc, ◌+ℤ◌, ◌*ℤ◌, FitsSigned, List, [], ◌∷◌, Bool, true, false, if◌then◌else◌, refl, ap, subst, ◌∙◌, arith}
use mir.Syntax.{w8, w64}
use mir.Val.{of_z}
use Rattle.std.proofs.Math.Nat.{pow-suc}
use Rattle.std.proofs.lemmas.Int.{ints, fits_signed_from_abs}
use Rattle.std.proofs.lemmas.List.{take_more}
use Rattle.opgen_csd.specs.Digits.{IsDigit, AllDigits, value_of, IsCanonical, is_zero, nonzeros, IsRecoded}
use Rattle.opgen_csd.specs.Partials.{cuts}
use Rattle.opgen_csd.proofs.Canonical.{digit_cases}
use Rattle.opgen_csd.proofs.Fewest.{weight, weighs}
use Rattle.opgen_csd.proofs.Recoding.{power_small}

-- a digit of twice the weight
twice : (d : ℤ) (n : ℕ) → IsDigit d → d *ℤ pos (n * 2) ≡ d *ℤ pos n +ℤ d *ℤ pos n
twice d n h =
    ⊎_elim (λ (p : d ≡ negsuc 0). rw p (omega (arith, ints)))
    (λ (o : (d ≡ pos 0) ⊎ (d ≡ pos 1)). ⊎_elim (λ (p : d ≡ pos 0). rw p (omega (arith, ints)))
    (λ (p : d ≡ pos 1). rw p (omega (arith, ints))) o)
    (digit_cases d h)

pub raised : (d : ℤ) (k : ℕ) → IsDigit d → d *ℤ pos (2 ^ suc k) ≡ d *ℤ pos (2 ^ k) +ℤ d *ℤ pos (2 ^ k)
raised d k h = rw (pow-suc 2 k) (twice d (2 ^ k) h)

alone : (d : ℤ) → IsDigit d → d ≡ d *ℤ pos 1
alone d h =
    ⊎_elim (λ (p : d ≡ negsuc 0). rw p refl)
    (λ (o : (d ≡ pos 0) ⊎ (d ≡ pos 1)). ⊎_elim (λ (p : d ≡ pos 0). rw p refl) (λ (p : d ≡ pos 1). rw p refl) o)
    (digit_cases d h)

pub value-snoc : (xs : List ℤ) (d : ℤ) → IsDigit d → value_of (xs ++ d ∷ []) ≡ value_of xs +ℤ d *ℤ pos (2 ^ length xs)
value-snoc [] d h = let e = alone d h in omega (arith, ints, e)
value-snoc (x ∷ xs) d h = let rest = value-snoc xs d h in let e = raised d (length xs) h in omega (arith, ints, rest, e)

pub nonzeros-snoc : (xs : List ℤ) (d : ℤ) → nonzeros (xs ++ d ∷ []) ≡ nonzeros xs + weight d
nonzeros-snoc [] d = omega arith
nonzeros-snoc (x ∷ xs) d = omega (arith, nonzeros-snoc xs d)

-- the cut that a digit above some digits adds
abbrev pub cut_at : List ℤ → ℤ → List (List ℤ)
cut_at xs d = if is_zero d then [] else (xs ++ d ∷ []) ∷ []

below_cut : (x d : ℤ) (xs : List ℤ) (b : Bool) → map (λ c. x ∷ c) (if b then [] else (xs ++ d ∷ []) ∷ [])
    ≡ (if b then [] else (x ∷ (xs ++ d ∷ [])) ∷ [])
below_cut x d xs true = refl
below_cut x d xs false = refl

single : (d : ℤ) (b : Bool) → (if b then [] else (d ∷ []) ∷ []) ++ [] ≡ (if b then [] else (d ∷ []) ∷ [])
single d true = refl
single d false = refl

map_append : (f : List ℤ → List ℤ) (xs ys : List (List ℤ)) → map f (xs ++ ys) ≡ map f xs ++ map f ys
map_append f [] ys = refl
map_append f (x ∷ xs) ys = ap (λ zs. f x ∷ zs) (map_append f xs ys)

pub cuts-snoc : (xs : List ℤ) (d : ℤ) → cuts (xs ++ d ∷ []) ≡ cuts xs ++ cut_at xs d
cuts-snoc [] d = single d (is_zero d)
cuts-snoc (x ∷ xs) d =
    rw (cuts-snoc xs d, map_append (λ c. x ∷ c) (cuts xs) (cut_at xs d), below_cut x d xs (is_zero d), append_assoc)

pub length-cuts : (xs : List ℤ) → length (cuts xs) ≡ nonzeros xs
length-cuts [] = refl
length-cuts (x ∷ xs) = both (is_zero x) (length-cuts xs)
  where
    mapped : (cs : List (List ℤ)) → length (map (λ c. x ∷ c) cs) ≡ length cs
    mapped [] = refl
    mapped (c ∷ cs) = ap suc (mapped cs)

    both : (b : Bool) → length (cuts xs) ≡ nonzeros xs → length ((if b then [] else (x ∷ []) ∷ []) ++ map (λ c. x ∷ c) (cuts xs))
        ≡ (if b then 0 else 1) + nonzeros xs
    both true e = omega (arith, mapped (cuts xs))
    both false e = omega (arith, mapped (cuts xs))

-- ---- tests of a digit in the code
pub weight_of_nonzero : (d : ℤ) → (of_z w8 d ≡ 0 → ⊥) → is_zero d ≡ false
weight_of_nonzero (pos zero) h = absurd (h refl)
weight_of_nonzero (pos (suc n)) h = refl
weight_of_nonzero (negsuc n) h = refl

pub weight_of_zero : (d : ℤ) → FitsSigned w8 d → of_z w8 d ≡ 0 → is_zero d ≡ true
weight_of_zero d f h = let z : d ≡ pos 0 = omega (arith, ints) in ap is_zero z

pub counted : (d : ℤ) → (of_z w8 d ≡ 0 → ⊥) → weight d ≡ 1
counted (pos zero) h = absurd (h refl)
counted (pos (suc n)) h = refl
counted (negsuc n) h = refl

pub not_counted : (d : ℤ) → FitsSigned w8 d → of_z w8 d ≡ 0 → weight d ≡ 0
not_counted d f h = let z : d ≡ pos 0 = omega (arith, ints) in ap weight z

-- ---- sizes
pub all_digits : (ds : List ℤ) → IsCanonical ds → AllDigits ds
all_digits [] h = tt
all_digits (d ∷ ds) h = (h.0, all_digits ds h.2)

pub small : (ds : List ℤ) → AllDigits ds → unsigned_abs (value_of ds) < 2 ^ length ds
small [] h = omega arith
small (d ∷ ds) h = omega (arith, ints, small ds h.1, pow-suc 2 (length ds), h.0)

-- of two neighbours one is zero, so at most half of the digits are not
pub few_below : (ds : List ℤ) (k : ℕ) → IsCanonical ds → 2 * nonzeros (take k ds) ≤ suc k
few_below ds zero h = omega arith
few_below [] (suc k) h = omega arith
few_below (d ∷ []) (suc zero) h = omega (arith, weighs d h.0)
few_below (d ∷ []) (suc (suc k)) h = omega (arith, weighs d h.0)
few_below (d ∷ e ∷ ds) (suc zero) h = omega (arith, weighs d h.0)
few_below (d ∷ e ∷ ds) (suc (suc k)) h =
    let rest = few_below ds k h.2.2 in
    let from = few_below (e ∷ ds) (suc k) h.2 in
    ⊎_elim (λ (z : (d ≡ pos 0) × (weight d ≡ 0)). omega (arith, from, z.1))
    (λ (z : ((d ≡ pos 1) ⊎ (d ≡ negsuc 0)) × (weight d ≡ 1)).
    let e_zero : e ≡ pos 0 = h.1 (λ q. ⊎_elim (λ (p : d ≡ pos 1). omega (arith, ints, p, q)) (λ (p : d ≡ negsuc 0). omega (
      arith,
      ints,
      p,
      q,
    )) z.0) in
    omega (arith, rest, z.1, ap weight e_zero))
    (weighs d h.0)

-- ---- one more digit of a recoded number
cut_twice : (xs : List ℤ) (k n : ℕ) → k ≤ n → take k (take n xs) ≡ take k xs
cut_twice xs zero n h = refl
cut_twice [] (suc k) (suc n) h = refl
cut_twice (x ∷ xs) (suc k) zero h = absurd (omega arith)
cut_twice [] (suc k) zero h = refl
cut_twice (x ∷ xs) (suc k) (suc n) h = ap (λ ys. x ∷ ys) (cut_twice xs k n (omega (arith, h)))

all_taken : (xs : List ℤ) (k : ℕ) → AllDigits xs → AllDigits (take k xs)
all_taken xs zero h = tt
all_taken [] (suc k) h = tt
all_taken (x ∷ xs) (suc k) h = (h.0, all_taken xs k h.1)

length_taken : (xs : List ℤ) (k : ℕ) → k ≤ length xs → length (take k xs) ≡ k
length_taken xs zero h = refl
length_taken [] (suc k) h = absurd (omega arith)
length_taken (x ∷ xs) (suc k) h = ap suc (length_taken xs k (omega (arith, h)))

last_digit : (xs : List ℤ) (d : ℤ) → AllDigits (xs ++ d ∷ []) → IsDigit d
last_digit [] d h = h.0
last_digit (x ∷ xs) d h = last_digit xs d h.1

pub digits_below : (digits : List ℤ) (len k : ℕ) → IsRecoded digits len → k ≤ len → AllDigits (take k digits)
digits_below digits len k r h = subst AllDigits (cut_twice digits k len h) (all_taken (take len digits) k (all_digits _ r.canonical))

pub few : (digits : List ℤ) (len k : ℕ) → IsRecoded digits len → k ≤ len → 2 * nonzeros (take k digits) ≤ suc k
few digits len k r h = subst (λ xs. 2 * nonzeros xs ≤ suc k) (cut_twice digits k len h) (few_below (take len digits) k r.canonical)

pub digit_at : (digits : List ℤ) (len k : ℕ) → IsRecoded digits len → length digits ≡ 64 → k < len → IsDigit (get_or digits k (pos 0))
digit_at digits len k r size h =
    let in_range : k < length digits = omega (arith, r.short) in
    last_digit (take k digits) (get_or digits k (pos 0))
    (subst AllDigits (take_more digits k (pos 0) in_range) (digits_below digits len (k + 1) r (omega arith)))

pub value_more : (digits : List ℤ) (len k : ℕ) → IsRecoded digits len → length digits ≡ 64 → k < len → value_of (take (k + 1) digits)
    ≡ value_of (take k digits) +ℤ get_or digits k (pos 0) *ℤ pos (2 ^ k)
value_more digits len k r size h =
    let in_range : k < length digits = omega (arith, r.short) in
    ap value_of (take_more digits k (pos 0) in_range)
    ∙ value-snoc (take k digits) (get_or digits k (pos 0)) (digit_at digits len k r size h)
    ∙ ap (λ n. value_of (take k digits) +ℤ get_or digits k (pos 0) *ℤ pos (2 ^ n)) (length_taken digits k (omega arith))

pub value_small : (digits : List ℤ) (len k : ℕ) → IsRecoded digits len → length digits ≡ 64 → k ≤ len
    → unsigned_abs (value_of (take k digits)) < 2 ^ 63
value_small digits len k r size h =
    let below = small (take k digits) (digits_below digits len k r h) in
    let e = length_taken digits k (omega (arith, r.short)) in
    let bound : 2 ^ k ≤ 2 ^ 63 = pow_le k (omega (arith, r.short)) in
    omega (arith, below, ap (λ n. 2 ^ n) e, bound)
  where
    pow_le : (j : ℕ) → j ≤ 63 → 2 ^ j ≤ 2 ^ 63
    pow_le zero h = omega arith
    pow_le (suc j) h = omega (arith, pow-suc 2 j, power_small j (omega (arith, h)))

pub value_fits : (digits : List ℤ) (len k : ℕ) → IsRecoded digits len → length digits ≡ 64 → k < len
    → FitsSigned w64 (value_of (take k digits) +ℤ get_or digits k (pos 0) *ℤ pos (2 ^ k))
value_fits digits len k r size h = fits_signed_from_abs w64 _
    (subst (λ z. unsigned_abs z < 2 ^ 63) (value_more digits len k r size h) (value_small digits len (k + 1) r size (omega arith)))

pub nonzeros_more : (digits : List ℤ) (k : ℕ) → k < length digits → nonzeros (take (k + 1) digits)
    ≡ nonzeros (take k digits) + weight (get_or digits k (pos 0))
nonzeros_more digits k h = ap nonzeros (take_more digits k (pos 0) h) ∙ nonzeros-snoc (take k digits) (get_or digits k (pos 0))
