-- How many numbers below a bound have a property.
use Rattle.std.proofs.Common.{◌≡◌, ℕ, zero, suc, ◌<◌, ◌≤◌, ◌⊎◌, refl, sym, subst, inl, inr, arith}
use Rattle.std.proofs.lemmas.Bool.{cases_eq}
use Rattle.opgen_part_laws.proofs.Classical.{decided}

abbrev pub IsCount : (P : ℕ → Type 0) (bound count : ℕ) → Type 0
IsCount P zero count = count ≡ 0
IsCount P (suc n) count = (P n × (less : ℕ) × (count ≡ suc less) × IsCount P n less) ⊎ ((P n → ⊥) × IsCount P n count)

pub some_count : (P : ℕ → Type 0) (n : ℕ) → ((count : ℕ) → IsCount P n count → ⊥) → ⊥
some_count P zero none = none 0 refl
some_count P (suc n) none = some_count P n (λ count h. decided (λ (v : P n ⊎ (P n → ⊥)). elim v [
  | inl p ↦ none (suc count) (inl (p, count, refl, h))
  | inr f ↦ none count (inr (f, h))
]))

pub no_count : (n : ℕ) → IsCount (λ q. ⊥) n 0
no_count zero = refl
no_count (suc n) = inr ((λ p. p), no_count n)

-- a stronger property has no more numbers
module _ (P Q : ℕ → Type 0) (weaker : (q : ℕ) → P q → Q q) where
  no_more : (n a b : ℕ) → IsCount P n a → IsCount Q n b → a ≤ b
  no_more zero a b h g = omega (arith, h, g)
  no_more (suc n) a b (inl (p, c, e, h)) (inl (q, k, f, g)) = omega (arith, e, f, no_more n c k h g)
  no_more (suc n) a b (inl (p, c, e, h)) (inr (f, g)) = absurd (f (weaker n p))
  no_more (suc n) a b (inr (f, h)) (inl (q, k, e, g)) = omega (arith, e, no_more n a k h g)
  no_more (suc n) a b (inr (f, h)) (inr (q, g)) = no_more n a b h g

  -- and fewer, where one number has the weaker property alone
  module _ (s : ℕ) (has : Q s) (lacks : P s → ⊥) where
    pub fewer : (n a b : ℕ) → s < n → IsCount P n a → IsCount Q n b → a < b
    fewer zero a b l h g = absurd (omega (arith, l))
    fewer (suc n) a b l (inl (p, c, e, h)) (inl (q, k, f, g)) = elim (cases_eq s n) [
      | inl same ↦ absurd (lacks (subst P (sym same) p))
      | inr other ↦ let below : s < n = omega (arith, l, other) in omega (arith, e, f, fewer n c k below h g)
    ]
    fewer (suc n) a b l (inl (p, c, e, h)) (inr (f, g)) = absurd (f (weaker n p))
    fewer (suc n) a b l (inr (f, h)) (inl (q, k, e, g)) = omega (arith, e, no_more n a k h g)
    fewer (suc n) a b l (inr (f, h)) (inr (q, g)) = elim (cases_eq s n) [
      | inl same ↦ absurd (q (subst Q same has))
      | inr other ↦ let below : s < n = omega (arith, l, other) in fewer n a b below h g
    ]
