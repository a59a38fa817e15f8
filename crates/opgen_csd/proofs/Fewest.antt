-- The canonical form has the fewest digits that are not zero.
use Rattle.std.proofs.Common.{◌≡◌, ◌≢◌, ◌⊎◌, inl, inr, ⊎_elim, ℕ, zero, suc, ◌+◌, ◌≤◌, ℤ, pos, negsuc, ◌+ℤ◌, ◌-ℤ◌, List, [], ◌∷◌, if◌then◌else◌, refl, arith}
use Rattle.std.proofs.lemmas.Int.{ints}
use Rattle.opgen_csd.specs.Digits.{IsDigit, AllDigits, value_of, IsCanonical, is_zero, nonzeros}
use Rattle.opgen_csd.proofs.Canonical.{half_above}

-- 1 of a digit that is not zero
abbrev pub weight : ℤ → ℕ
weight d = if is_zero d then 0 else 1

pub weighs : (d : ℤ) → IsDigit d → ((d ≡ pos 0) × (weight d ≡ 0)) ⊎ (((d ≡ pos 1) ⊎ (d ≡ negsuc 0)) × (weight d ≡ 1))
weighs (pos zero) h = inl (refl, refl)
weighs (pos (suc zero)) h = inr (inl refl, refl)
weighs (pos (suc (suc n))) h = absurd (omega (arith, ints))
weighs (negsuc zero) h = inr (inr refl, refl)
weighs (negsuc (suc n)) h = absurd (omega (arith, ints))

-- c has no more digits that are not zero than n and the carried k together, and no more than n where its value v is even and k is odd
pub record IsNoLonger (c n : ℕ) (v k : ℤ) : Type 0 where
  pub all : c ≤ n + weight k
  pub even : (h : ℤ) → v ≡ h +ℤ h → k ≢ pos 0 → c ≤ n

carried : (a d k x y : ℤ) → IsDigit a → IsDigit d → IsDigit k → a +ℤ (x +ℤ x) ≡ (d +ℤ (y +ℤ y)) +ℤ k → IsDigit (x -ℤ y)
carried a d k x y ha hd hk e = (omega (arith, ints), omega (arith, ints))

one_lower : (a d k x y h : ℤ) (c n : ℕ) → IsDigit a → IsDigit d → IsDigit k → a +ℤ (x +ℤ x) ≡ (d +ℤ (y +ℤ y)) +ℤ k
    → (a ≡ pos 0) ⊎ (x ≡ h +ℤ h) → IsNoLonger c n x (x -ℤ y) → IsNoLonger (weight a + c) (weight d + n) (a +ℤ (x +ℤ x)) k
one_lower a d k x y h c n ha hd hk same above r =
    let wa = weighs a ha in
    let wd = weighs d hd in
    let wk = weighs k hk in
    let wq = weighs (x -ℤ y) (carried a d k x y ha hd hk same) in
    let all = r.all in
    record {
      all = ⊎_elim (λ (z : a ≡ pos 0). omega (arith, ints))
          (λ (e : x ≡ h +ℤ h). ⊎_elim (λ (z : (x -ℤ y ≡ pos 0) × (weight (x -ℤ y) ≡ 0)). omega (arith, ints))
          (λ (z : ((x -ℤ y ≡ pos 1) ⊎ (x -ℤ y ≡ negsuc 0)) × (weight (x -ℤ y) ≡ 1)). let few = r.even h e (λ q. omega (arith, ints, q))
          in omega (arith, ints)) wq)
          above;
      even = λ g e ne. omega (arith, ints, e, ne);
    }

pub no_longer : (cs ds : List ℤ) (k : ℤ) → IsCanonical cs → AllDigits ds → IsDigit k → value_of cs ≡ value_of ds +ℤ k
    → IsNoLonger (nonzeros cs) (nonzeros ds) (value_of cs) k
no_longer [] ds k hc hd hk e = record { all = omega arith; even = λ _ _ _. omega arith }
no_longer (a ∷ cs) [] k hc hd hk e =
    let zero_digit : IsDigit (pos 0) = (omega (arith, ints), omega (arith, ints)) in
    let x = half_above a cs hc in
    let same : a +ℤ (value_of cs +ℤ value_of cs) ≡ (pos 0 +ℤ (pos 0 +ℤ pos 0)) +ℤ k = omega (arith, ints) in
    one_lower a (pos 0) k (value_of cs) (pos 0) x.0 (nonzeros cs) 0 hc.0 zero_digit hk same x.1
    (no_longer cs [] (value_of cs -ℤ pos 0) hc.2 tt (carried a (pos 0) k (value_of cs) (pos 0) hc.0 zero_digit hk same)
    (omega (arith, ints)))
no_longer (a ∷ cs) (d ∷ ds) k hc hd hk e =
    let x = half_above a cs hc in
    one_lower a d k (value_of cs) (value_of ds) x.0 (nonzeros cs) (nonzeros ds) hc.0 hd.0 hk e x.1
    (no_longer cs ds (value_of cs -ℤ value_of ds) hc.2 hd.1 (carried a d k (value_of cs) (value_of ds) hc.0 hd.0 hk e)
    (omega (arith, ints)))

pub fewest : (cs ds : List ℤ) → IsCanonical cs → AllDigits ds → value_of cs ≡ value_of ds → nonzeros cs ≤ nonzeros ds
fewest cs ds hc hd e =
    let r = no_longer cs ds (pos 0) hc hd (omega (arith, ints), omega (arith, ints)) (omega (arith, ints)) in omega (arith, r.all)
