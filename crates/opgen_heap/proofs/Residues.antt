-- What is left of sums of whole numbers by a division that rounds down.
use Rattle.std.proofs.Common.{◌≡◌, ℕ, suc, ◌+◌, ◌*◌, ◌%◌, ◌-◌, ◌<◌, ◌≤◌, refl, sym, ap, ◌∙◌, arith}
use Rattle.std.specs.Prelude.{ℤ, pos, negsuc, ◌+ℤ◌}
use Rattle.std.specs.Int.RustNames.{unsigned_abs}
use Rattle.std.proofs.Math.Nat.{add-mod-mod, mod-add-mod, mul-le-mul_left}
use Rattle.std.proofs.lemmas.Int.{ints, int_rem_euclid_is}
use Rattle.opgen_heap.specs.Adding.{residue}

-- a multiple of the divisor that makes a whole number a natural
record Lifted (z : ℤ) (m : ℕ) : Type 0 where
  k : ℕ
  n : ℕ
  is : z +ℤ pos (k * m) ≡ pos n

lifted : (z : ℤ) (m : ℕ) → 0 < m → Lifted z m
lifted (pos a) m h = record { k = 0; n = a; is = ap pos (omega arith) }
lifted (negsuc a) m h =
    let le : suc a * 1 ≤ suc a * m = mul-le-mul_left (suc a) (omega (arith, h)) in
    record { k = suc a; n = suc a * m - suc a; is = omega (arith, ints, le) }

pub residue-is : (z : ℤ) (m k n : ℕ) → 0 < m → z +ℤ pos (k * m) ≡ pos n → residue z m ≡ n % m
residue-is z m k n h e = ap unsigned_abs (int_rem_euclid_is z (pos m) m k n h refl e)

pub residue-add : (z : ℤ) (o m : ℕ) → 0 < m → (residue z m + o) % m ≡ residue (z +ℤ pos o) m
residue-add z o m h =
    let l = lifted z m h in
    let e : (z +ℤ pos o) +ℤ pos (l.k * m) ≡ pos (l.n + o) = omega (arith, ints, l.is) in
    ap (λ r. (r + o) % m) (residue-is z m l.k l.n h l.is)
    ∙ mod-add-mod l.n m o
    ∙ sym (residue-is (z +ℤ pos o) m l.k (l.n + o) h e)

-- a number added to what was left of another
pub residue-then : (z e : ℤ) (m : ℕ) → 0 < m → residue (pos (residue z m) +ℤ e) m ≡ residue (z +ℤ e) m
residue-then z e m h =
    let l = lifted z m h in
    let k = lifted e m h in
    let both : (z +ℤ e) +ℤ pos ((l.k + k.k) * m) ≡ pos (l.n + k.n) = omega (arith, ints, l.is, k.is) in
    let left : (pos (l.n % m) +ℤ e) +ℤ pos (k.k * m) ≡ pos (l.n % m + k.n) = omega (arith, ints, k.is) in
    ap (λ r. residue (pos r +ℤ e) m) (residue-is z m l.k l.n h l.is)
    ∙ residue-is (pos (l.n % m) +ℤ e) m k.k (l.n % m + k.n) h left
    ∙ mod-add-mod l.n m k.n
    ∙ sym (residue-is (z +ℤ e) m (l.k + k.k) (l.n + k.n) h both)

pub residue-natural : (n m : ℕ) → 0 < m → residue (pos n) m ≡ n % m
residue-natural n m h = residue-is (pos n) m 0 n h (ap pos (omega arith))

pub residue-none : (n m : ℕ) → 0 < m → n % m ≡ residue (pos (n % m) +ℤ pos 0) m
residue-none n m h =
    let e : pos (n % m) +ℤ pos 0 ≡ pos (n % m + 0) = omega (arith, ints) in
    sym (ap (λ z. residue z m) e ∙ residue-natural (n % m + 0) m h ∙ mod-add-mod n m 0 ∙ ap (λ k. k % m) (omega arith))

-- what is left of a natural and a whole number
pub residue-sum : (x : ℕ) (z : ℤ) (m : ℕ) → 0 < m → residue (pos x +ℤ z) m ≡ (x + residue z m) % m
residue-sum x z m h =
    let l = lifted z m h in
    let e : (pos x +ℤ z) +ℤ pos (l.k * m) ≡ pos (x + l.n) = omega (arith, ints, l.is) in
    residue-is (pos x +ℤ z) m l.k (x + l.n) h e
    ∙ sym (ap (λ r. (x + r) % m) (residue-is z m l.k l.n h l.is) ∙ add-mod-mod x l.n m)

pub residue-below : (z : ℤ) (m : ℕ) → 0 < m → residue z m < m
residue-below z m some =
    let same : z +ℤ pos 0 ≡ z = omega (arith, ints) in
    omega (arith, residue-add z 0 m some, ap (λ y. residue y m) same)
