-- The tables of the first coefficients together, in guard units.
use Rattle.std.proofs.Common.{◌≡◌, ℕ, suc, ◌+◌, ◌*◌, ◌^◌, ◌<◌, ◌≤◌, true, false, length, take, get_or, not, sym, ap, ◌∙◌, arith}
use Rattle.std.specs.Prelude.{ℤ, pos, ◌+ℤ◌, ◌*ℤ◌, unsigned_abs}
use Rattle.std.proofs.lemmas.Int.{ints}
use Rattle.std.proofs.lemmas.List.Sums.{count_by_more_no, count_by_more_yes}
use Rattle.opgen_num.specs.Rounding.{distance}
use Rattle.opgen_num.proofs.Integers.{product-sum, product_assoc, commuted, sum-product}
use Rattle.opgen_kinds.specs.declared.sum.Sum.{Sum}
use Rattle.opgen_kinds.specs.Sum.{sum_shift, terms, guard_bits, IsSum}
use Rattle.opgen_ports.specs.Ports.{Recent}
use Rattle.opgen_ports.specs.Reaches.{up}
use Rattle.opgen_kcm.specs.Chunks.{chunk_count}
use Rattle.opgen_kcm.specs.Multiple.{IsMultiple}
use Rattle.opgen_fir.specs.Recipe.{is_zero, factor}
use Rattle.opgen_fir.specs.Summed.{weighted_first, units, IsNear, tables_first, scaled_first, IsSummed}
use Rattle.opgen_fir.proofs.Factors.{den-units, all-whole}

near-from : (k m : ℕ) (n e d : ℤ) → d ≡ pos m → 2 * distance (d *ℤ e) n ≤ k * unsigned_abs d → IsNear k m n e
near-from k m n e d is h =
    let value : d *ℤ e ≡ pos m *ℤ e = ap (λ z. z *ℤ e) is in
    let size : unsigned_abs d ≡ m = ap unsigned_abs is in
    let halves : k * unsigned_abs d ≡ k * m = ap (λ n. k * n) size in
    (omega (arith, ints, h, value, halves), omega (arith, ints, h, value, halves))

near-sum : (j k m : ℕ) (a b n e f : ℤ) → n ≡ a +ℤ b → IsNear j m a e → IsNear k m b f → IsNear (j + k) m n (e +ℤ f)
near-sum j k m a b n e f is (over, under) (high, low) =
    let sum = product-sum (pos m) e f in
    (omega (arith, ints, is, sum, over, high), omega (arith, ints, is, sum, under, low))

pub none-summed : (s : Sum) (x : Recent) → IsSummed s x 0 (pos 0)
none-summed s x = record { near = (omega (arith, ints), omega (arith, ints)); whole = λ g none. omega (arith, ints) }

module _ (s : Sum) (x : Recent) (k : ℕ) (e : ℤ) (before : IsSummed s x k e) (within : k < length s.coefs) where
  -- a coefficient that is 0
  pub zero-summed : is_zero (get_or s.coefs k (pos 0)) ≡ true → get_or s.coefs k (pos 0) ≡ pos 0 → IsSummed s x (suc k) e
  zero-summed none is =
      let next : k + 1 ≡ suc k = omega arith in
      let c = get_or s.coefs k (pos 0) in
      let last : x k *ℤ c ≡ pos 0 = ap (λ z. x k *ℤ z) is ∙ omega (arith, ints) in
      let sum : weighted_first s.coefs x (suc k) ≡ weighted_first s.coefs x k = omega (arith, ints, last) in
      let count : terms (take (suc k) s.coefs) ≡ terms (take k s.coefs) =
      ap (λ i. terms (take i s.coefs)) (sym next) ∙ count_by_more_no (λ d. not (is_zero d)) s.coefs k (pos 0) within (ap not none) in
      record {
        near = rw (count, sum) before.near;
        whole = λ g exact. before.whole g exact ∙ ap (λ z. z *ℤ pos (up (sum_shift s))) (sym sum);
      }

  -- and one that has tables
  pub term-summed : IsSum 256 s → is_zero (get_or s.coefs k (pos 0)) ≡ false → (f : ℤ)
      → IsMultiple (factor s (get_or s.coefs k (pos 0))) (guard_bits s) (chunk_count s.input.width) (x k) f → IsSummed s x (suc k) (e +ℤ f)
  term-summed sum some f multiple =
      let next : k + 1 ≡ suc k = omega arith in
      let c = get_or s.coefs k (pos 0) in
      let u = pos (up (sum_shift s)) in
      let g = pos (2 ^ guard_bits s) in
      let m = units s in
      let count : terms (take (suc k) s.coefs) ≡ terms (take k s.coefs) + 1 =
      ap (λ i. terms (take i s.coefs)) (sym next) ∙ count_by_more_yes (λ d. not (is_zero d)) s.coefs k (pos 0) within (ap not some) in
      let tables : tables_first s (suc k) ≡ tables_first s k + chunk_count s.input.width =
      ap (λ n. n * chunk_count s.input.width) count ∙ omega arith in
      let split : weighted_first s.coefs x (suc k) *ℤ u ≡ (weighted_first s.coefs x k *ℤ u) +ℤ (x k *ℤ (c *ℤ u)) =
      sum-product (weighted_first s.coefs x k) (x k *ℤ c) u ∙ ap (λ z. (weighted_first s.coefs x k *ℤ u) +ℤ z) (product_assoc (x k) c u) in
      let scaled : scaled_first s x (suc k) ≡ scaled_first s x k +ℤ ((x k *ℤ (c *ℤ u)) *ℤ g) =
      ap (λ z. z *ℤ g) split ∙ sum-product (weighted_first s.coefs x k *ℤ u) (x k *ℤ (c *ℤ u)) g in
      let this = near-from (chunk_count s.input.width) m ((x k *ℤ (c *ℤ u)) *ℤ g) f (factor s c).den (den-units s c sum) multiple.near in
      let all = near-sum (tables_first s k) (chunk_count s.input.width) m (scaled_first s x k) ((x k *ℤ (c *ℤ u)) *ℤ g)
      (scaled_first s x (suc k)) e f scaled before.near this in
      record {
        near = rw tables all;
        whole = λ none exact.
            let w = all-whole s exact k within in
            let whole : f ≡ x k *ℤ w.times = multiple.whole none w.times (ap (λ z. w.times *ℤ z) (den-units s c sum) ∙ w.is) in
            let term : pos m *ℤ f ≡ x k *ℤ (c *ℤ u) =
            ap (λ z. pos m *ℤ z) whole ∙ commuted (pos m) (x k *ℤ w.times) ∙ product_assoc (x k) w.times (pos m)
            ∙ ap (λ z. x k *ℤ z) w.is in
            product-sum (pos m) e f ∙ ap (λ z. z +ℤ (pos m *ℤ f)) (before.whole none exact)
            ∙ ap (λ z. (weighted_first s.coefs x k *ℤ u) +ℤ z) term ∙ sym split;
      }
