-- The output of a product, by the sum of its heap.
use Rattle.std.proofs.Common.{◌≡◌, ℕ, suc, ◌+◌, ◌-◌, ◌*◌, ◌^◌, ◌≤◌, Bool, false, List, ◌++◌, length, length-append, drop, replicate, pow-add, sym, ap, ◌∙◌, subst, arith}
use Rattle.std.specs.Prelude.{ℤ, pos, ◌+ℤ◌, ◌-ℤ◌, ◌*ℤ◌}
use Rattle.std.specs.Int.{int_div_euclid}
use Rattle.std.proofs.Math.Nat.{two-pow-succ}
use Rattle.std.proofs.lemmas.Int.{ints}
use Rattle.std.proofs.lemmas.List.{take_all, length-replicate, length-drop}
use Rattle.std.proofs.lemmas.Nat.{pow_pos}
use Rattle.opgen_num.specs.declared.format.Format.{Format}
use Rattle.opgen_num.specs.Floors.{IsFloor}
use Rattle.opgen_num.specs.Formats.{Holds}
use Rattle.opgen_num.specs.Rounding.{IsWithinOne}
use Rattle.opgen_num.specs.Words.{val, nat}
use Rattle.opgen_num.proofs.Cuts.{nat-append}
use Rattle.opgen_num.proofs.Integers.{commuted, product-sum, product_assoc}
use Rattle.opgen_num.proofs.Residues.{value_from_residue}
use Rattle.opgen_num.proofs.Rounded.{floor_is, floor_dropped}
use Rattle.opgen_num.proofs.Words.{nat-zeros}
use Rattle.opgen_design.specs.Value.{cut}
use Rattle.opgen_mult.proofs.Faithful.{cut_is_near}

-- shifted down: the bits from a place up
module _ (product : ℤ) (sum : List Bool) (format : Format) (below left_out : ℕ) (k : ℤ)
    (wide : length sum ≡ suc below + format.width) (some : 1 ≤ format.width) (little : left_out ≤ 2 ^ below)
    (number : ((product -ℤ pos left_out) +ℤ pos (2 ^ below)) +ℤ (pos (2 ^ length sum) *ℤ k) ≡ pos (nat sum))
    (holds : (y : ℤ) → IsWithinOne product (pos (2 ^ suc below)) y → Holds format.signed format.width y) where
  pub cut_down : IsWithinOne product (pos (2 ^ suc below)) (val (cut (suc below + format.width - 1) (suc below) sum) format)
  cut_down = subst (IsWithinOne product (pos unit)) (sym value) near
    where
      unit : ℕ
      unit = 2 ^ suc below

      rounded : ℤ
      rounded = (product -ℤ pos left_out) +ℤ pos (2 ^ below)

      y : ℤ
      y = int_div_euclid rounded (pos unit)

      floor : IsFloor rounded (pos unit) y
      floor = floor_is rounded (pos unit) (omega (arith, ints, pow_pos (suc below)))

      near : IsWithinOne product (pos unit) y
      near = cut_is_near product left_out (2 ^ below) unit y little (omega (arith, two-pow-succ below, pow_pos below)) floor

      out : List Bool
      out = drop (suc below) sum

      long : length out ≡ format.width
      long = omega (arith, length-drop (suc below) sum, wide)

      same : cut (suc below + format.width - 1) (suc below) sum ≡ out
      same = take_all (suc below + format.width - 1 + 1 - suc below) out (omega (arith, long, some))

      is : y +ℤ (pos (2 ^ length out) *ℤ k) ≡ pos (nat out)
      is = ap (λ n. y +ℤ (pos (2 ^ n) *ℤ k)) long ∙ floor_dropped (suc below) format.width sum rounded k y wide number floor

      value : val (cut (suc below + format.width - 1) (suc below) sum) format ≡ y
      value =
          ap (λ w. val w format) same
          ∙ value_from_residue out format y k (omega (arith, long, some)) is
          (subst (λ n. Holds format.signed n y) (sym long) (holds y near))

-- shifted up, or not at all: the word above zeros
module _ (product : ℤ) (sum : List Bool) (format : Format) (zeros : ℕ) (k : ℤ)
    (wide : length sum + zeros ≡ format.width) (some : 1 ≤ format.width)
    (number : product +ℤ (pos (2 ^ length sum) *ℤ k) ≡ pos (nat sum))
    (holds : Holds format.signed format.width (product *ℤ pos (2 ^ zeros))) where
  pub above_zeros : val (cut (0 + format.width - 1) 0 (replicate zeros false ++ sum)) format ≡ product *ℤ pos (2 ^ zeros)
  above_zeros =
      ap (λ w. val w format) same
      ∙ value_from_residue out format (product *ℤ pos Z) k (omega (arith, long, some)) is
      (subst (λ n. Holds format.signed n (product *ℤ pos Z)) (sym long) holds)
    where
      out : List Bool
      out = replicate zeros false ++ sum

      long : length out ≡ format.width
      long = omega (arith, length-append (replicate zeros false) sum, length-replicate zeros false, wide)

      same : cut (0 + format.width - 1) 0 out ≡ out
      same = take_all (0 + format.width - 1 + 1 - 0) out (omega (arith, long, some))

      Z : ℕ
      Z = 2 ^ zeros

      raised : nat out ≡ Z * nat sum
      raised =
          let count = ap (λ n. 2 ^ n * nat sum) (length-replicate zeros false) in
          omega (arith, nat-append (replicate zeros false) sum, nat-zeros zeros, count)

      power : 2 ^ length out ≡ 2 ^ length sum * Z
      power =
          let count = length-append (replicate zeros false) sum ∙ omega (arith, length-replicate zeros false) in
          ap (λ n. 2 ^ n) count ∙ pow-add 2 (length sum) zeros

      scaled : (a b : ℤ) → (a +ℤ b) *ℤ pos Z ≡ (a *ℤ pos Z) +ℤ (b *ℤ pos Z)
      scaled a b = commuted (a +ℤ b) (pos Z) ∙ product-sum (pos Z) a b ∙ omega (arith, ints, commuted (pos Z) a, commuted (pos Z) b)

      moved : (pos (2 ^ length sum) *ℤ k) *ℤ pos Z ≡ pos (2 ^ length out) *ℤ k
      moved =
          let L = 2 ^ length sum in
          let natural : pos L *ℤ pos Z ≡ pos (L * Z) = omega (arith, ints) in
          product_assoc (pos L) k (pos Z)
          ∙ ap (λ z. pos L *ℤ z) (commuted k (pos Z))
          ∙ sym (product_assoc (pos L) (pos Z) k)
          ∙ ap (λ z. z *ℤ k) (natural ∙ ap pos (sym power))

      is : (product *ℤ pos Z) +ℤ (pos (2 ^ length out) *ℤ k) ≡ pos (nat out)
      is =
          ap (λ z. (product *ℤ pos Z) +ℤ z) (sym moved)
          ∙ sym (scaled product (pos (2 ^ length sum) *ℤ k))
          ∙ ap (λ z. z *ℤ pos Z) number
          ∙ omega (arith, ints, raised)
