-- The canonical digits of a number, of its odd part, and of what is left of an odd number without its lowest digit.
use Rattle.std.proofs.Common.{◌≡◌, ◌≢◌, ◌⊎◌, ⊎_elim, ℕ, zero, suc, ◌+◌, ◌-◌, ◌*◌, ◌/◌, ◌%◌, ◌^◌, ◌≤◌, ◌<◌, ℤ, pos, negsuc, ◌+ℤ◌, List, [], ◌∷◌, refl, sym, ap, ◌∙◌, subst, arith}
use Rattle.std.proofs.lemmas.Int.{ints}
use Rattle.opgen_csd.specs.Digits.{IsCanonical, value_of, nonzeros}
use Rattle.opgen_csd.proofs.Canonical.{half_above, unique}
use Rattle.opgen_csd.proofs.Fewest.{weight, weighs}
use Rattle.opgen_graph.proofs.Powers.{twice}
use Rattle.opgen_shared.specs.Digits.{HasDigits}

pub same_count : (n j k : ℕ) → HasDigits n j → HasDigits n k → j ≡ k
same_count n j k a b =
    sym a.nonzero ∙ ap nonzeros (unique a.form b.form a.canonical b.canonical (a.value ∙ sym b.value)) ∙ b.nonzero

some_nonzero : (ds : List ℤ) → IsCanonical ds → value_of ds ≢ pos 0 → 1 ≤ nonzeros ds
some_nonzero [] h ne = absurd (ne refl)
some_nonzero (d ∷ ds) h ne =
    ⊎_elim (λ (z : (d ≡ pos 0) × (weight d ≡ 0)). let more = some_nonzero ds h.2 (λ e. ne (omega (arith, ints, e, z.0))) in omega (arith, more))
    (λ (o : ((d ≡ pos 1) ⊎ (d ≡ negsuc 0)) × (weight d ≡ 1)). omega (arith, o.1)) (weighs d h.0)

pub some_digits : (n k : ℕ) → 0 < n → HasDigits n k → 1 ≤ k
some_digits n k some h = omega (arith, h.nonzero, some_nonzero h.form h.canonical (λ e. omega (arith, ints, h.value, e, some)))

halved_form : (ds : List ℤ) (m k : ℕ) → IsCanonical ds → value_of ds ≡ pos (2 * m) → nonzeros ds ≡ k → HasDigits m k
halved_form [] m k c e n = record { form = []; canonical = tt; value = omega (arith, ints, e); nonzero = n }
halved_form (d ∷ ds) m k c e n =
    ⊎_elim (λ (z : (d ≡ pos 0) × (weight d ≡ 0)).
    record { form = ds; canonical = c.2; value = omega (arith, ints, e, z.0); nonzero = omega (arith, n, z.1) })
    (λ (o : ((d ≡ pos 1) ⊎ (d ≡ negsuc 0)) × (weight d ≡ 1)).
    absurd (⊎_elim (λ (p : d ≡ pos 1). omega (arith, ints, e, p)) (λ (q : d ≡ negsuc 0). omega (arith, ints, e, q)) o.0))
    (weighs d c.0)

halved : (m k : ℕ) → HasDigits (2 * m) k → HasDigits m k
halved m k h = halved_form h.form m k h.canonical h.value h.nonzero

halved_by : (j m k : ℕ) → HasDigits (2 ^ j * m) k → HasDigits m k
halved_by zero m k h = let one : 2 ^ zero * m ≡ m = omega arith in subst (λ x. HasDigits x k) one h
halved_by (suc j) m k h = halved_by j m k (halved (2 ^ j * m) k (subst (λ x. HasDigits x k) (twice j m) h))

plus_form : (ds : List ℤ) (x k : ℕ) → IsCanonical ds → value_of ds ≡ pos (4 * x + 1) → nonzeros ds ≡ k → HasDigits (2 * x) (k - 1)
plus_form [] x k c e n = absurd (omega (arith, ints, e))
plus_form (d ∷ ds) x k c e n =
    let (y, half) = half_above d ds c in
    ⊎_elim (λ (z : (d ≡ pos 0) × (weight d ≡ 0)). absurd (omega (arith, ints, e, z.0)))
    (λ (o : ((d ≡ pos 1) ⊎ (d ≡ negsuc 0)) × (weight d ≡ 1)).
    ⊎_elim (λ (p : d ≡ pos 1). record { form = ds; canonical = c.2; value = omega (arith, ints, e, p); nonzero = omega (arith, n, o.1) })
    (λ (q : d ≡ negsuc 0). absurd (⊎_elim (λ (z : d ≡ pos 0). omega (arith, ints, z, q))
    (λ (h : value_of ds ≡ y +ℤ y). omega (arith, ints, e, q, h)) half))
    o.0)
    (weighs d c.0)

minus_form : (ds : List ℤ) (x k : ℕ) → IsCanonical ds → value_of ds ≡ pos (4 * x + 3) → nonzeros ds ≡ k → HasDigits (2 * (x + 1)) (k - 1)
minus_form [] x k c e n = absurd (omega (arith, ints, e))
minus_form (d ∷ ds) x k c e n =
    let (y, half) = half_above d ds c in
    ⊎_elim (λ (z : (d ≡ pos 0) × (weight d ≡ 0)). absurd (omega (arith, ints, e, z.0)))
    (λ (o : ((d ≡ pos 1) ⊎ (d ≡ negsuc 0)) × (weight d ≡ 1)).
    ⊎_elim (λ (p : d ≡ pos 1). absurd (⊎_elim (λ (z : d ≡ pos 0). omega (arith, ints, z, p))
    (λ (h : value_of ds ≡ y +ℤ y). omega (arith, ints, e, p, h)) half))
    (λ (q : d ≡ negsuc 0). record { form = ds; canonical = c.2; value = omega (arith, ints, e, q); nonzero = omega (arith, n, o.1) })
    o.0)
    (weighs d c.0)

-- the odd part of an even number above 0, whose half has so many digits less one
below : (j rest half k : ℕ) → rest % 2 ≡ 1 → 2 ^ j * rest ≡ 2 * half → HasDigits half (k - 1) → (1 < k) × HasDigits rest (k - 1)
below zero rest half k odd e h = absurd (omega arith)
below (suc j) rest half k odd e h =
    let same : half ≡ 2 ^ j * rest = omega (arith, e, twice j rest) in
    let r = halved_by j rest (k - 1) (subst (λ x. HasDigits x (k - 1)) same h) in
    (omega (arith, some_digits rest (k - 1) (omega (arith, odd)) r), r)

pub fewer_plus : (n j rest k : ℕ) → n % 4 ≡ 1 → rest % 2 ≡ 1 → 2 ^ j * rest ≡ n - 1 → HasDigits n k → (1 < k) × HasDigits rest (k - 1)
fewer_plus n j rest k four odd e h =
    let same : n ≡ 4 * (n / 4) + 1 = omega arith in
    below j rest (2 * (n / 4)) k odd (omega (arith, e, same))
    (plus_form h.form (n / 4) k h.canonical (h.value ∙ ap pos same) h.nonzero)

pub fewer_minus : (n j rest k : ℕ) → n % 4 ≡ 3 → rest % 2 ≡ 1 → 2 ^ j * rest ≡ n + 1 → HasDigits n k → (1 < k) × HasDigits rest (k - 1)
fewer_minus n j rest k four odd e h =
    let same : n ≡ 4 * (n / 4) + 3 = omega arith in
    below j rest (2 * (n / 4 + 1)) k odd (omega (arith, e, same))
    (minus_form h.form (n / 4) k h.canonical (h.value ∙ ap pos same) h.nonzero)
