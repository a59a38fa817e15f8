-- The least width of a range of numbers, by the digits of the greatest of them.
use Rattle.std.proofs.Common.{◌≡◌, ℕ, ◌+◌, ◌-◌, ◌^◌, ◌<◌, ◌≤◌, max, true, false, arith}
use Rattle.std.specs.Prelude.{ℤ, pos, negsuc, ◌≤ℤ◌, ◌<ℤ◌, unsigned_abs}
use Rattle.std.proofs.lemmas.Int.{ints}
use Rattle.std.proofs.lemmas.Nat.{pow_pos}
use Rattle.opgen_num.specs.Formats.{HoldsBoth, IsLeastWidth, is_negative}
use Rattle.opgen_num.proofs.BitLength.{power_order}

unsigned_all : (a b length : ℕ) → a ≤ b → b < 2 ^ length → HoldsBoth false (pos a) (pos b) (max length 1)
unsigned_all a b length order holds =
    let p : 2 ^ length ≤ 2 ^ max length 1 = power_order length (max length 1) (omega arith) in
    (omega arith, (omega (arith, ints), omega (arith, ints)), (omega (arith, ints), omega (arith, ints)))

unsigned_least : (a b length : ℕ) → ((g : ℕ) → b < 2 ^ g → length ≤ g) → (other : ℕ) → HoldsBoth false (pos a) (pos b) other
    → max length 1 ≤ other
unsigned_least a b length least other all =
    let few = all.0 in
    let high = all.2.1 in
    let below : b < 2 ^ other = omega (arith, ints, pow_pos other) in
    let l = least other below in
    omega arith

pub unsigned_width : (lo hi : ℤ) (length : ℕ) → pos 0 ≤ℤ lo → lo ≤ℤ hi → unsigned_abs hi < 2 ^ length
    → ((g : ℕ) → unsigned_abs hi < 2 ^ g → length ≤ g) → IsLeastWidth lo hi (max length 1)
unsigned_width (pos a) (pos b) length low order holds least =
    let e : is_negative (pos a) ≡ false = grind (arith, ints) in
    rw e (unsigned_all a b length (omega (arith, ints)) holds, unsigned_least a b length least)
unsigned_width (pos a) (negsuc b) length low order holds least = absurd (omega (arith, ints))
unsigned_width (negsuc a) hi length low order holds least = absurd (omega (arith, ints))

module _ (lo hi : ℤ) (m length : ℕ) (order : lo ≤ℤ hi) where
  signed_all : negsuc m ≤ℤ lo → hi ≤ℤ pos m → m < 2 ^ length → HoldsBoth true lo hi (max (length + 1) 2)
  signed_all low high holds =
      let p : 2 ^ length ≤ 2 ^ (max (length + 1) 2 - 1) = power_order length (max (length + 1) 2 - 1) (omega arith) in
      (omega arith, (omega (arith, ints), omega (arith, ints)), (omega (arith, ints), omega (arith, ints)))

  signed_least : ((n : ℕ) → negsuc n ≤ℤ lo → hi ≤ℤ pos n → m ≤ n) → ((g : ℕ) → m < 2 ^ g → length ≤ g) → (other : ℕ)
      → HoldsBoth true lo hi other → max (length + 1) 2 ≤ other
  signed_least magnitude least other all =
      let few = all.0 in
      let low = all.1.0 in
      let high = all.2.1 in
      let p = pow_pos (other - 1) in
      let l = least (other - 1) (omega (arith, magnitude (2 ^ (other - 1) - 1) (omega (arith, ints)) (omega (arith, ints)))) in
      omega arith

  pub signed_width : lo <ℤ pos 0 → negsuc m ≤ℤ lo → hi ≤ℤ pos m → ((n : ℕ) → negsuc n ≤ℤ lo → hi ≤ℤ pos n → m ≤ n)
      → m < 2 ^ length → ((g : ℕ) → m < 2 ^ g → length ≤ g) → IsLeastWidth lo hi (max (length + 1) 2)
  signed_width below low high magnitude holds least =
      let e : is_negative lo ≡ true = grind (arith, ints) in
      rw e (signed_all low high holds, signed_least magnitude least)
