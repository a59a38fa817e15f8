-- The value of a word, from its residue and the range in which it lies.
use Rattle.std.proofs.Common.{◌≡◌, ℕ, zero, suc, ◌-◌, ◌*◌, ◌^◌, ◌≤◌, Bool, true, false, List, length, cond, refl, ap, ◌∙◌, arith}
use Rattle.std.specs.Prelude.{ℤ, pos, negsuc, ◌+ℤ◌, ◌-ℤ◌, ◌*ℤ◌, ◌<ℤ◌}
use Rattle.std.proofs.Math.Nat.{two-pow-succ, mul-le-mul_left}
use Rattle.std.proofs.lemmas.Int.{ints}
use Rattle.opgen_num.specs.declared.format.Format.{Format}
use Rattle.opgen_num.specs.Formats.{Holds}
use Rattle.opgen_num.specs.Words.{highest, val, nat}
use Rattle.opgen_num.proofs.Integers.{product-sum}
use Rattle.opgen_num.proofs.Values.{val_holds}

-- a multiple of p that lies strictly between -p and p is 0
multiple_between : (p : ℕ) (d : ℤ) → (pos 0 -ℤ pos p) <ℤ (pos p *ℤ d) → (pos p *ℤ d) <ℤ pos p → d ≡ pos 0
multiple_between p (pos zero) low high = refl
multiple_between p (pos (suc d)) low high = let most : p * 1 ≤ p * suc d = mul-le-mul_left p (omega arith) in absurd
    (omega (arith, ints, most))
multiple_between p (negsuc d) low high = let most : p * 1 ≤ p * suc d = mul-le-mul_left p (omega arith) in absurd
    (omega (arith, ints, most))

-- two numbers of one residue in the range of a width are the same
same : (signed : Bool) (n r : ℕ) (v y j k : ℤ) → 1 ≤ n → v +ℤ (pos (2 ^ n) *ℤ j) ≡ pos r → y +ℤ (pos (2 ^ n) *ℤ k) ≡ pos r
    → Holds signed n v → Holds signed n y → v ≡ y
same signed n r v y j k some a b here there =
    let d = k -ℤ j in
    let apart : pos (2 ^ n) *ℤ k ≡ (pos (2 ^ n) *ℤ j) +ℤ (pos (2 ^ n) *ℤ d) = ap (λ z. pos (2 ^ n) *ℤ z) (omega (arith, ints))
    ∙ product-sum (pos (2 ^ n)) j d in
    let near = within signed n v y some here there in
    let none : d ≡ pos 0 = multiple_between (2 ^ n) d (omega (arith, ints, near.0)) (omega (arith, ints, near.1)) in
    let zero : pos (2 ^ n) *ℤ d ≡ pos (2 ^ n) *ℤ pos 0 = ap (λ z. pos (2 ^ n) *ℤ z) none in
    omega (arith, ints)
  where
    within : (signed : Bool) (n : ℕ) (v y : ℤ) → 1 ≤ n → Holds signed n v → Holds signed n y → (v <ℤ (y +ℤ pos (2 ^ n)))
        × (y <ℤ (v +ℤ pos (2 ^ n)))
    within false n v y some here there = (omega (arith, ints), omega (arith, ints))
    within true (suc n) v y some here there =
        let half : suc n - 1 ≡ n = omega arith in
        let power = ap (λ i. 2 ^ i) half in
        (omega (arith, ints, two-pow-succ n, power), omega (arith, ints, two-pow-succ n, power))
    within true zero v y some here there = absurd (omega arith)

-- the value of a word is its number, less a multiple of 2 to its width
residue : (signed top : Bool) (n : ℕ) (power : ℕ) → (j : ℤ)
    × ((cond signed (pos n -ℤ pos (cond top power 0)) (pos n) +ℤ (pos power *ℤ j)) ≡ pos n)
residue false top n power = (pos 0, omega (arith, ints))
residue true false n power = (pos 0, omega (arith, ints))
residue true true n power = (pos 1, omega (arith, ints))

-- A word has the value y where its number is y modulo 2 to its width, and y is in the range of the width.
pub value_from_residue : (w : List Bool) (format : Format) (y k : ℤ) → 1 ≤ length w → y +ℤ (pos (2 ^ length w) *ℤ k) ≡ pos (nat w)
    → Holds format.signed (length w) y → val w format ≡ y
value_from_residue w format y k some number range =
    let j = residue format.signed (highest w) (nat w) (2 ^ length w) in
    same format.signed (length w) (nat w) (val w format) y j.0 k some j.1 number (val_holds w format some) range
