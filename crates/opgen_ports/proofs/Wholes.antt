-- Whether coefficients are whole where the shift is beyond the limits of its kind: a shift above 30 does as 30 does, and one
-- below -31 as -31.
use Rattle.std.proofs.Common.{ℕ, zero, suc, ◌≡◌, ◌+◌, ◌*◌, ◌/◌, ◌%◌, ◌-◌, ◌^◌, ◌<◌, ◌≤◌, ◌==◌, refl, sym, ap, ◌∙◌, arith, div-add-mod', mod-lt, mod-eq_of_lt, ⊎_elim, ne_eqb}
use Rattle.std.proofs.lemmas.Bool.{cases_lt}
use Rattle.std.proofs.lemmas.Int.{ints, clamps}
use Rattle.std.proofs.lemmas.Nat.{pow-add}
use Rattle.std.proofs.Math.Nat.{two-pow-succ, mul-le-mul_left, mul-le-mul}
use Rattle.std.specs.Int.{int_min, int_max}
use Rattle.std.specs.Prelude.{ℤ, pos, negsuc, ◌≤ℤ◌, unsigned_abs}
use Rattle.opgen_num.proofs.BitLength.{power_order}
use Rattle.opgen_ports.specs.Reaches.{is_whole_at}
use Rattle.opgen_ports.proofs.Bounds.{some_units, few_units}

-- a multiple of a number leaves no remainder
multiple : (n d q : ℕ) → 0 < d → n ≡ d * q → n % d ≡ 0
multiple n d q some e =
    ⊎_elim
    (λ (less : n / d < q).
    let most : d * (n / d + 1) ≤ d * q = mul-le-mul_left d (omega (arith, less)) in
    absurd (omega (arith, most, e, div-add-mod' n d, mod-lt n some)))
    (λ (enough : q ≤ n / d).
    let least : d * q ≤ d * (n / d) = mul-le-mul_left d enough in
    omega (arith, least, e, div-add-mod' n d))
    (cases_lt (n / d) q)

-- A number of some bits that divides a multiple of a power of two that is greater than itself divides the half of it.
halved : (k d c q : ℕ) → 1 ≤ d → d ≤ 2 ^ k → c * 2 ^ suc k ≡ d * q → (r : ℕ) × (c * 2 ^ k ≡ d * r)
halved zero d c q some small e =
    let one : d ≡ 1 = omega (arith, some, small) in
    (c, rw one (omega arith))
halved (suc k) d c q some small e = go (halved k (d / 2) c q) (d % 2) refl
  where
    h : ℕ
    h = d / 2

    r : ℕ
    r = q / 2

    raised : c * 2 ^ suc (suc k) ≡ c * (2 ^ suc k + 2 ^ suc k)
    raised = ap (λ n. c * n) (two-pow-succ (suc k))

    go : (1 ≤ h → h ≤ 2 ^ k → c * 2 ^ suc k ≡ h * q → (r : ℕ) × (c * 2 ^ k ≡ h * r)) → (odd : ℕ) → d % 2 ≡ odd
        → (r : ℕ) × (c * 2 ^ suc k ≡ d * r)
    go by_half zero even =
        let twice : d ≡ 2 * h = omega (arith, even) in
        let half : c * 2 ^ suc k ≡ h * q = omega (arith, e, raised, ap (λ n. n * q) twice) in
        let (rest, is) = by_half (omega (arith, some, twice)) (omega (arith, small, twice, two-pow-succ k)) half in
        (rest, omega (arith, is, ap (λ n. c * n) (two-pow-succ k), ap (λ n. n * rest) twice))
    go by_half (suc b) odd =
        let more : d ≡ 2 * h + 1 = omega (arith, odd) in
        let even : q ≡ 2 * r = omega (arith, e, raised, ap (λ n. n * q) more) in
        (r, omega (arith, e, raised, ap (λ n. d * n) even))

-- and so down to the power of 30
lowered : (j d c q : ℕ) → 1 ≤ d → d ≤ 2 ^ 30 → c * 2 ^ (30 + j) ≡ d * q → (r : ℕ) × (c * 2 ^ 30 ≡ d * r)
lowered zero d c q some small e =
    let same : 30 + 0 ≡ 30 = omega arith in
    (q, ap (λ k. c * 2 ^ k) (sym same) ∙ e)
lowered (suc j) d c q some small e =
    let next : suc (30 + j) ≡ 30 + suc j = omega arith in
    let (r, is) = halved (30 + j) d c q some (omega (arith, small, power_order 30 (30 + j) (omega arith)))
    (ap (λ k. c * 2 ^ k) next ∙ e) in
    lowered j d c r some small is

same_zero : (a b : ℕ) → (a ≡ 0 → b ≡ 0) → (b ≡ 0 → a ≡ 0) → (a == 0) ≡ (b == 0)
same_zero zero zero there back = refl
same_zero zero (suc b) there back = absurd (omega (arith, there refl))
same_zero (suc a) zero there back = absurd (omega (arith, back refl))
same_zero (suc a) (suc b) there back = ne_eqb (suc a) 0 (λ e. omega (arith, e)) ∙ sym (ne_eqb (suc b) 0 (λ e. omega (arith, e)))

-- shifted up by 30 places or more
far_up : (c d j : ℕ) → 1 ≤ d → d ≤ 2 ^ 30 → ((c * 2 ^ 30) % (d * 1) == 0) ≡ ((c * 2 ^ (30 + j)) % (d * 1) == 0)
far_up c d j some small = same_zero ((c * 2 ^ 30) % (d * 1)) ((c * 2 ^ (30 + j)) % (d * 1)) there back
  where
    there : (c * 2 ^ 30) % (d * 1) ≡ 0 → (c * 2 ^ (30 + j)) % (d * 1) ≡ 0
    there e =
        let q = (c * 2 ^ 30) / (d * 1) in
        let whole : c * 2 ^ 30 ≡ d * q = omega (arith, div-add-mod' (c * 2 ^ 30) (d * 1), e) in
        let split : c * 2 ^ (30 + j) ≡ c * (2 ^ 30 * 2 ^ j) = ap (λ n. c * n) (pow-add 2 30 j) in
        let raised : c * 2 ^ 30 * 2 ^ j ≡ d * q * 2 ^ j = ap (λ n. n * 2 ^ j) whole in
        multiple (c * 2 ^ (30 + j)) (d * 1) (q * 2 ^ j) (omega (arith, some)) (omega (arith, split, raised))

    back : (c * 2 ^ (30 + j)) % (d * 1) ≡ 0 → (c * 2 ^ 30) % (d * 1) ≡ 0
    back e =
        let q = (c * 2 ^ (30 + j)) / (d * 1) in
        let whole : c * 2 ^ (30 + j) ≡ d * q = omega (arith, div-add-mod' (c * 2 ^ (30 + j)) (d * 1), e) in
        let (r, is) = lowered j d c q some small whole in
        multiple (c * 2 ^ 30) (d * 1) r (omega (arith, some)) (omega (arith, is))

-- shifted down by 31 places or more: only 0 is whole
far_down : (c d k : ℕ) → c ≤ 2 ^ 30 → 1 ≤ d → 31 ≤ k → (c * 1) % (d * 2 ^ k) ≡ c
far_down c d k small some far =
    let most : 1 * 2 ^ 31 ≤ d * 2 ^ k = mul-le-mul {n₁ = 1} {m₁ = 2 ^ 31} {n₂ = d} {m₂ = 2 ^ k} some (power_order 31 k far) in
    let less : c * 1 < d * 2 ^ k = omega (arith, most, small) in
    mod-eq_of_lt less ∙ omega arith

-- the shift that is taken in place of one
abbrev pub near : ℤ → ℤ
near s = int_min (int_max s (negsuc 30)) (pos 30)

pub near_range : (s : ℤ) → (negsuc 30 ≤ℤ near s) × (near s ≤ℤ pos 30)
near_range s = (omega (arith, ints, clamps), omega (arith, ints, clamps))

-- a coefficient is whole at the one where it is at the other
pub near_whole : (den s c : ℤ) → pos 1 ≤ℤ den → den ≤ℤ pos (2 ^ 30) → unsigned_abs c ≤ 2 ^ 30
    → is_whole_at den (near s) c ≡ is_whole_at den s c
near_whole den (pos n) c positive small few =
    ⊎_elim
    (λ (within : n < 31).
    let same : near (pos n) ≡ pos n = omega (arith, ints, clamps) in
    ap (λ t. is_whole_at den t c) same)
    (λ (far : 31 ≤ n).
    let most : near (pos n) ≡ pos 30 = omega (arith, ints, clamps) in
    let rest : 30 + (n - 30) ≡ n = omega (arith, far) in
    ap (λ t. is_whole_at den t c) most
    ∙ far_up (unsigned_abs c) (unsigned_abs den) (n - 30) (some_units den positive) (few_units (2 ^ 30) den positive small)
    ∙ ap (λ k. is_whole_at den (pos k) c) rest)
    (cases_lt n 31)
near_whole den (negsuc n) c positive small few =
    ⊎_elim
    (λ (within : n < 31).
    let same : near (negsuc n) ≡ negsuc n = omega (arith, ints, clamps) in
    ap (λ t. is_whole_at den t c) same)
    (λ (far : 31 ≤ n).
    let least : near (negsuc n) ≡ negsuc 30 = omega (arith, ints, clamps) in
    ap (λ t. is_whole_at den t c) least
    ∙ ap (λ r. r == 0) (far_down (unsigned_abs c) (unsigned_abs den) 31 few (some_units den positive) (omega arith)
    ∙ sym (far_down (unsigned_abs c) (unsigned_abs den) (n + 1) few (some_units den positive) (omega (arith, far)))))
    (cases_lt n 31)
