-- A sum of tables, rounded to whole units, is a good output.
use Rattle.std.proofs.Common.{◌≡◌, ℕ, zero, suc, ◌*◌, ◌^◌, ◌<◌, Bool, true, false, List, length, refl, sym, ap, ◌∙◌, subst, arith}
use Rattle.std.specs.Prelude.{ℤ, pos, ◌+ℤ◌, ◌*ℤ◌, IsTrue, Option, Some, None}
use Rattle.std.specs.Int.{int_div_euclid, div_ceil}
use Rattle.std.proofs.Math.Nat.{two-pow-succ}
use Rattle.std.proofs.lemmas.Int.{ints}
use Rattle.std.proofs.lemmas.List.{take_all}
use Rattle.std.proofs.lemmas.Nat.{pow_pos}
use Rattle.opgen_num.specs.Floors.{IsFloor}
use Rattle.opgen_num.specs.Rounding.{IsWithinOne, IsGoodLinear}
use Rattle.opgen_num.proofs.Floors.{one_floor}
use Rattle.opgen_num.proofs.Quotients.{within_one}
use Rattle.opgen_num.proofs.RangeWidth.{count-holds}
use Rattle.opgen_num.proofs.Rounded.{floor_is}
use Rattle.opgen_kinds.specs.declared.sum.Sum.{Sum}
use Rattle.opgen_ports.specs.Good.{IsGoodRatio}
use Rattle.opgen_kinds.specs.Sum.{exact_sum, sum_shift, terms, tables, guard_for, guard_bits, first_inexact, IsSum}
use Rattle.opgen_ports.specs.Ports.{Recent, weighted}
use Rattle.opgen_ports.specs.Modes.{mode_of_exact}
use Rattle.opgen_num.specs.declared.mode.Mode.TheVariants.{Faithful}
use Rattle.opgen_ports.specs.Reaches.{up}
use Rattle.opgen_fir.specs.Summed.{weighted_first, units, IsNear, tables_first, IsSummed}
use Rattle.opgen_fir.proofs.Factors.{den-units, units-some}
use Rattle.opgen_fir.proofs.Rounds.{rounds}
use Rattle.opgen_fir.proofs.WeightedSums.{weighted-all}

-- half a unit of the output's last place, in guard units
abbrev pub half_of : (guard : ℕ) → ℤ
half_of zero = pos 0
half_of (suc k) = pos (2 ^ k)

abbrev pub rounded : (guard : ℕ) → ℤ → ℤ
rounded g e = int_div_euclid (e +ℤ half_of g) (pos (2 ^ g))

pub rounded-floor : (g : ℕ) (e : ℤ) → IsFloor (e +ℤ half_of g) (pos (2 ^ g)) (rounded g e)
rounded-floor g e = floor_is (e +ℤ half_of g) (pos (2 ^ g)) (omega (arith, ints, pow_pos g))

unrounded : (e : ℤ) → rounded 0 e ≡ e
unrounded e =
    one_floor (pos 1) (omega (arith, ints)) (e +ℤ pos 0) (rounded 0 e) e (rounded-floor 0 e) (omega (arith, ints), omega (arith, ints))

exact-good : (m : ℕ) (n y : ℤ) → 0 < m → pos m *ℤ y ≡ n → (exact : Bool) → IsGoodLinear n (pos m) y (mode_of_exact exact)
exact-good m n y some e true = e
exact-good m n y some e false = within_one n (pos m) y (omega (arith, ints, e, some)) (omega (arith, ints, e, some))

-- tables that round, with their guard bits
near-good : (m k g : ℕ) (e n : ℤ) → 0 < m → k < 2 ^ g → IsNear k m (n *ℤ pos (2 ^ g)) e → IsWithinOne n (pos m) (rounded g e)
near-good m k zero e n some few (over, under) =
    let none : k ≡ 0 = omega (arith, few) in
    let zero_halves : pos k *ℤ pos m ≡ pos 0 = ap (λ j. pos j *ℤ pos m) none ∙ omega (arith, ints) in
    let one : n *ℤ pos 1 ≡ n = omega (arith, ints) in
    let whole : pos m *ℤ e ≡ n = omega (arith, ints, over, under, zero_halves, one) in
    exact-good m n (rounded 0 e) some (ap (λ z. pos m *ℤ z) (unrounded e) ∙ whole) false
near-good m k (suc h) e n some few (over, under) =
    rounds m (2 ^ suc h) (2 ^ h) k e n (rounded (suc h) e) some few (two-pow-succ h) over under (rounded-floor (suc h) e)

module _ (s : Sum) (sum : IsSum 256 s) (x : Recent) (e : ℤ) (summed : IsSummed s x (length s.coefs) e) where
  numerator : weighted_first s.coefs x (length s.coefs) *ℤ pos (up (sum_shift s)) ≡ weighted s.coefs x *ℤ pos (up (sum_shift s))
  numerator = ap (λ z. z *ℤ pos (up (sum_shift s))) (weighted-all s.coefs x)

  all-tables : tables_first s (length s.coefs) ≡ tables s
  all-tables = ap (λ (l : List ℤ). terms l * div_ceil s.input.width 6) (take_all (length s.coefs) s.coefs (omega arith))

  over-units : (exact : Bool)
      → IsGoodLinear (weighted s.coefs x *ℤ pos (up (sum_shift s))) (pos (units s)) (rounded (guard_bits s) e) (mode_of_exact exact)
      → IsGoodRatio (mode_of_exact exact) (exact_sum s x) (rounded (guard_bits s) e)
  over-units exact h =
      subst (λ m. IsGoodLinear (weighted s.coefs x *ℤ pos (up (sum_shift s))) m (rounded (guard_bits s) e) (mode_of_exact exact))
      (sym (den-units s (pos 0) sum)) h

  whole-good : first_inexact s ≡ None → (exact : Bool) → IsGoodRatio (mode_of_exact exact) (exact_sum s x) (rounded (guard_bits s) e)
  whole-good none exact =
      let g : guard_bits s ≡ 0 = ap (λ i. guard_for i s) none in
      let value : rounded (guard_bits s) e ≡ e = ap (λ n. rounded n e) g ∙ unrounded e in
      over-units exact
      (exact-good (units s) (weighted s.coefs x *ℤ pos (up (sum_shift s))) (rounded (guard_bits s) e) (units-some s sum)
      (ap (λ z. pos (units s) *ℤ z) value ∙ summed.whole g none ∙ numerator) exact)

  some-good : (i : ℕ) → first_inexact s ≡ Some i → IsGoodRatio Faithful (exact_sum s x) (rounded (guard_bits s) e)
  some-good i found =
      let g = guard_bits s in
      let few : tables_first s (length s.coefs) < 2 ^ g =
      rw all-tables (subst (λ n. tables s < 2 ^ n) (sym (ap (λ j. guard_for j s) found)) (count-holds (tables s))) in
      let near : IsNear (tables_first s (length s.coefs)) (units s) ((weighted s.coefs x *ℤ pos (up (sum_shift s))) *ℤ pos (2 ^ g)) e =
      subst (λ z. IsNear (tables_first s (length s.coefs)) (units s) (z *ℤ pos (2 ^ g)) e) numerator summed.near in
      over-units false
      (near-good (units s) (tables_first s (length s.coefs)) g e (weighted s.coefs x *ℤ pos (up (sum_shift s))) (units-some s sum) few near)

  -- the rounded sum is good, exact where that is asked for
  pub sum-good : (exact : Bool) → (IsTrue exact → first_inexact s ≡ None) → IsGoodRatio (mode_of_exact exact) (exact_sum s x) (rounded (guard_bits s) e)
  sum-good exact asked = by (first_inexact s) refl exact asked
    where
      by : (i : Option ℕ) → first_inexact s ≡ i → (exact : Bool) → (IsTrue exact → first_inexact s ≡ None)
          → IsGoodRatio (mode_of_exact exact) (exact_sum s x) (rounded (guard_bits s) e)
      by None none exact asked = whole-good none exact
      by (Some i) found false asked = some-good i found
      by (Some i) found true asked = whole-good (asked refl) true
