-- What is not before itself, and, where the goal is ⊥, a number that has a property as the least that has it.
use Rattle.std.proofs.Common.{◌≡◌, ℕ, zero, suc, ◌<◌, arith}
use Rattle.std.specs.declared.cmp.Ordering.{Ordering}
use Rattle.std.specs.declared.cmp.Ordering.TheVariants.{Less, Equal, Greater}
use Rattle.std.specs.Ordering.{ordering_reverse}

pub not_before : (r : Ordering) → r ≡ ordering_reverse r → r ≡ Less → ⊥
not_before Less e h = cc
not_before Equal e h = cc
not_before Greater e h = cc

-- the property has no number below another, if it has no least one
none_below : (P : ℕ → Type 0) → ((m : ℕ) → P m → ((k : ℕ) → k < m → P k → ⊥) → ⊥) → (n m : ℕ) → m < n → P m → ⊥
none_below P no_least zero m l p = omega (arith, l)
none_below P no_least (suc n) m l p = no_least m p (λ k below q. none_below P no_least n k (omega (arith, l, below)) q)

pub least : {P : ℕ → Type 0} (n : ℕ) → P n → ((m : ℕ) → P m → ((k : ℕ) → k < m → P k → ⊥) → ⊥) → ⊥
least {P = P} n p no_least = none_below P no_least (suc n) n (omega arith) p
