-- The entries of a word's chunks together are a multiple of its number, half a unit off for each at most.
use Rattle.std.proofs.Common.{◌≡◌, ℕ, zero, suc, ◌+◌, ◌*◌, ◌^◌, ◌≤◌, Bool, List, length, sym, ap, ◌∙◌, arith}
use Rattle.std.specs.Prelude.{ℤ, pos, negsuc, ◌+ℤ◌, ◌-ℤ◌, ◌*ℤ◌, ◌<ℤ◌, ◌≤ℤ◌, unsigned_abs}
use Rattle.std.proofs.lemmas.Int.{ints}
use Rattle.opgen_num.specs.declared.format.Ratio.{Ratio}
use Rattle.opgen_num.specs.Rounding.{nearest, distance}
use Rattle.opgen_num.proofs.Integers.{product-sum, product_assoc, commuted, sum-product}
use Rattle.opgen_num.proofs.NearestNumbers.{nearest-floor, nearest-whole}
use Rattle.opgen_kcm.specs.Chunks.{chunk_count, chunk_at, number, chunk_word, digit_of}
use Rattle.opgen_kcm.specs.Entries.{in_guard_units, entry}
use Rattle.opgen_kcm.specs.Multiple.{IsMultiple}
use Rattle.opgen_kcm.proofs.ChunkWords.{value_of, chunks-value}

-- twice the distance of m * e and n is at most so many m
abbrev pub IsWithinHalves : (halves : ℕ) (n m e : ℤ) → Type 0
IsWithinHalves halves n m e =
    ((pos 2 *ℤ (m *ℤ e)) ≤ℤ ((pos 2 *ℤ n) +ℤ (pos halves *ℤ m))) × (((pos 2 *ℤ n) -ℤ (pos halves *ℤ m)) ≤ℤ (pos 2 *ℤ (m *ℤ e)))

-- the entries of the chunks so far
abbrev pub total : Ratio → (width : ℕ) (signed : Bool) (count : ℕ) → List Bool → ℤ
total q width signed zero x = pos 0
total q width signed (suc k) x =
    let c = chunk_at width signed k in
    total q width signed k x +ℤ entry q c (digit_of c (chunk_word c x))

module _ (q : Ratio) (positive : pos 0 <ℤ q.den) (width : ℕ) (signed : Bool) (x : List Bool) where
  pub total-near : (count : ℕ) → IsWithinHalves count (value_of width signed count x *ℤ q.num) q.den (total q width signed count x)
  total-near zero = (omega (arith, ints), omega (arith, ints))
  total-near (suc k) =
      let c = chunk_at width signed k in
      let v = digit_of c (chunk_word c x) *ℤ pos (2 ^ c.low) in
      let before = total q width signed k x in
      let this = nearest (v *ℤ q.num) q.den in
      let (under, over) = total-near k in
      let (low, high) = nearest-floor (v *ℤ q.num) q.den positive in
      let num = sum-product (value_of width signed k x) v q.num in
      let sum = product-sum q.den before this in
      let next : pos (suc k) ≡ pos k +ℤ pos 1 = omega (arith, ints) in
      let one : pos 1 *ℤ q.den ≡ q.den = omega (arith, ints) in
      let halves : pos (suc k) *ℤ q.den ≡ (pos k *ℤ q.den) +ℤ q.den =
      ap (λ z. z *ℤ q.den) next ∙ sum-product (pos k) (pos 1) q.den ∙ ap (λ z. (pos k *ℤ q.den) +ℤ z) one in
      (omega (arith, ints, under, low, num, sum, halves), omega (arith, ints, over, high, num, sum, halves))

  pub total-whole : (factor : ℤ) → factor *ℤ q.den ≡ q.num → (count : ℕ)
      → total q width signed count x ≡ value_of width signed count x *ℤ factor
  total-whole factor e zero = omega (arith, ints)
  total-whole factor e (suc k) =
      let c = chunk_at width signed k in
      let v = digit_of c (chunk_word c x) *ℤ pos (2 ^ c.low) in
      let multiple : v *ℤ q.num ≡ q.den *ℤ (v *ℤ factor) =
      ap (λ z. v *ℤ z) (sym e) ∙ sym (product_assoc v factor q.den) ∙ commuted (v *ℤ factor) q.den in
      let this = nearest-whole (v *ℤ q.num) q.den (v *ℤ factor) positive multiple in
      omega (arith, ints, total-whole factor e k, this, sum-product (value_of width signed k x) v factor)

-- the entries of all chunks, in guard units
pub total-multiple : (q : Ratio) (guard width : ℕ) (signed : Bool) (x : List Bool) → pos 0 <ℤ q.den → length x ≡ width → 1 ≤ width
    → IsMultiple q guard (chunk_count width) (number signed width x) (total (in_guard_units q guard) width signed (chunk_count width) x)
total-multiple q guard width signed x positive long some =
    let units = in_guard_units q guard in
    let count = chunk_count width in
    let v = number signed width x in
    let e = total units width signed count x in
    let value = chunks-value width signed x long some in
    record {
      near =
          let (under, over) = total-near units positive width signed x count in
          let n : value_of width signed count x *ℤ units.num ≡ (v *ℤ q.num) *ℤ pos (2 ^ guard) =
          ap (λ z. z *ℤ units.num) value ∙ sym (product_assoc v q.num (pos (2 ^ guard))) in
          halves-distance count ((v *ℤ q.num) *ℤ pos (2 ^ guard)) q.den e positive (omega (arith, ints, under, n))
          (omega (arith, ints, over, n));
      whole = λ none factor is.
          let one : q.num *ℤ pos (2 ^ guard) ≡ q.num = ap (λ g. q.num *ℤ pos (2 ^ g)) none ∙ omega (arith, ints) in
          total-whole units positive width signed x factor (is ∙ sym one) count ∙ ap (λ z. z *ℤ factor) value;
    }
  where
    halves-distance : (count : ℕ) (n m e : ℤ) → pos 0 <ℤ m → (pos 2 *ℤ (m *ℤ e)) ≤ℤ ((pos 2 *ℤ n) +ℤ (pos count *ℤ m))
        → ((pos 2 *ℤ n) -ℤ (pos count *ℤ m)) ≤ℤ (pos 2 *ℤ (m *ℤ e))
        → 2 * distance (m *ℤ e) n ≤ count * unsigned_abs m
    halves-distance count n (pos m) e h under over = omega (arith, ints, under, over)
    halves-distance count n (negsuc m) e h under over = absurd (omega (arith, ints, h))
