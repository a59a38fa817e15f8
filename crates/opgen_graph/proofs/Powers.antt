-- A number is one power of two times one odd number.
use Rattle.std.proofs.Common.{◌≡◌, ℕ, zero, suc, ◌*◌, ◌/◌, ◌%◌, ◌^◌, ◌≤◌, ◌<◌, refl, ap, sym, ◌∙◌, add-one, arith}
use Rattle.std.proofs.Math.Nat.{pow-suc}
use Rattle.std.specs.Int.{bit_at}
use Rattle.std.proofs.lemmas.Nat.{shr-shr}

pub twice : (k a : ℕ) → 2 ^ suc k * a ≡ 2 * (2 ^ k * a)
twice k a = rw (pow-suc 2 k) (omega arith)

pub one_split : (k j a b : ℕ) → a % 2 ≡ 1 → b % 2 ≡ 1 → 2 ^ k * a ≡ 2 ^ j * b → (k ≡ j) × (a ≡ b)
one_split zero zero a b oa ob e = (refl, omega arith)
one_split zero (suc j) a b oa ob e = absurd (omega (arith, twice j b))
one_split (suc k) zero a b oa ob e = absurd (omega (arith, twice k a))
one_split (suc k) (suc j) a b oa ob e =
    let rest = one_split k j a b oa ob (omega (arith, twice k a, twice j b)) in (ap suc rest.0, rest.1)

pub positive : (k a t : ℕ) → a % 2 ≡ 1 → t % 2 ≡ 0 → 2 ^ k * a ≡ t → 1 ≤ k
positive zero a t o h e = absurd (omega arith)
positive (suc k) a t o h e = omega arith

-- a number whose lowest bits are zero is a multiple of a power of two
pub shifted : (k n : ℕ) → ((i : ℕ) → i < k → bit_at n i ≡ 0) → 2 ^ k * (n / 2 ^ k) ≡ n
shifted zero n h = omega arith
shifted (suc k) n h =
    let below = shifted k n (λ i lt. h i (omega (arith, lt))) in
    let bit : (n / 2 ^ k) % 2 ≡ 0 = h k (omega arith) in
    let up : n / 2 ^ suc k ≡ n / 2 ^ k / 2 = sym (shr-shr n k 1 ∙ ap (λ j. n / 2 ^ j) (add-one k)) in
    rw up (twice k (n / 2 ^ k / 2) ∙ omega (arith, below, ap (λ x. 2 ^ k * x) (half (n / 2 ^ k) bit)))
  where
    half : (m : ℕ) → m % 2 ≡ 0 → m ≡ 2 * (m / 2)
    half m e = omega arith
