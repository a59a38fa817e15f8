-- Words that have a whole number modulo a power of two, and what sums, differences and cuts of words do to it.
use Rattle.std.proofs.Common.{◌≡◌, ℕ, ◌+◌, ◌*◌, ◌^◌, ◌≤◌, Bool, true, false, List, length, map, drop, not, sym, ap, ◌∙◌, subst, arith}
use Rattle.std.specs.Prelude.{ℤ, pos, negsuc, ◌+ℤ◌, ◌-ℤ◌, ◌*ℤ◌}
use Rattle.std.proofs.lemmas.Int.{ints}
use Rattle.std.proofs.lemmas.List.{length-map, length-drop}
use Rattle.std.proofs.lemmas.Nat.{pow_pos}
use Rattle.opgen_num.specs.declared.format.Format.{Format}
use Rattle.opgen_num.specs.Floors.{IsFloor}
use Rattle.opgen_num.specs.Formats.{Holds}
use Rattle.opgen_num.specs.Words.{sum_with, val, nat}
use Rattle.opgen_num.proofs.Carries.{sum-carry, nat-not}
use Rattle.opgen_num.proofs.Integers.{commuted, product-difference, product-sum, product_assoc}
use Rattle.opgen_num.proofs.Residues.{value_from_residue}
use Rattle.opgen_num.proofs.Rounded.{floor_dropped}
use Rattle.opgen_design.proofs.WidthLaws.{length-sum_with}
use Rattle.opgen_graph.specs.Residues.{IsResidue}

-- so many bits, whose number is z up to a multiple of 2 to them
pub record Has (bits : ℕ) (z : ℤ) (w : List Bool) : Type 0 where
  pub width : length w ≡ bits
  pub residue : IsResidue bits z (nat w)

pub residue_of : (bits : ℕ) (y z : ℤ) (n : ℕ) → y ≡ z → IsResidue bits y n → IsResidue bits z n
residue_of bits y z n e h = subst (λ x. IsResidue bits x n) e h

pub has : (bits : ℕ) (y z : ℤ) (w : List Bool) → y ≡ z → Has bits y w → Has bits z w
has bits y z w e h = record { width = h.width; residue = residue_of bits y z (nat w) e h.residue }

-- the same, with one whole number of turns
turned : (bits : ℕ) (z : ℤ) (n : ℕ) → (h : IsResidue bits z n) → z +ℤ (pos (2 ^ bits) *ℤ (pos h.more -ℤ pos h.less)) ≡ pos n
turned bits z n h = omega (arith, ints, h.same, product-difference (pos (2 ^ bits)) (pos h.more) (pos h.less))

from_turns : (bits : ℕ) (z : ℤ) (n : ℕ) (k : ℤ) → z +ℤ (pos (2 ^ bits) *ℤ k) ≡ pos n → IsResidue bits z n
from_turns bits z n (pos k) h = record { more = k; less = 0; same = omega (arith, ints, h) }
from_turns bits z n (negsuc k) h = record { more = 0; less = k + 1; same = omega (arith, ints, h) }

module _ (bits : ℕ) (x y : ℤ) (a b : List Bool) (of_a : Has bits x a) (of_b : Has bits y b) where
  -- the last carry is dropped
  pub sum-has : Has bits (x +ℤ y) (sum_with false a b)
  sum-has =
      let long : length a ≡ length b = of_a.width ∙ sym of_b.width in
      let c = sum-carry false a b long in
      let h = of_a.residue in
      let g = of_b.residue in
      record {
        width = length-sum_with false a b long ∙ of_a.width;
        residue = record {
          more = h.more + g.more;
          less = h.less + g.less + c.0;
          same = omega (arith, ints, h.same, g.same, c.1, ap (λ k. 2 ^ k * c.0) of_a.width);
        };
      }

  pub difference-has : Has bits (x -ℤ y) (sum_with true a (map not b))
  difference-has =
      let long : length a ≡ length (map not b) = of_a.width ∙ sym of_b.width ∙ sym (length-map b not) in
      let c = sum-carry true a (map not b) long in
      let h = of_a.residue in
      let g = of_b.residue in
      record {
        width = length-sum_with true a (map not b) long ∙ of_a.width;
        residue = record {
          more = h.more + g.less + 1;
          less = h.less + g.more + c.0;
          same = omega (arith, ints, h.same, g.same, c.1, ap (λ k. 2 ^ k * c.0) of_a.width, nat-not b, ap (λ k. 2 ^ k) of_b.width);
        };
      }

whole_floor : (m : ℕ) (y : ℤ) → 1 ≤ m → IsFloor (pos m *ℤ y) (pos m) y
whole_floor m y some = (omega (arith, ints), omega (arith, ints, some, product-sum (pos m) y (pos 1)))

-- without its lowest bits, the word of a number has the number over their power of two, rounded down
pub floor-has : (low bits : ℕ) (w : List Bool) (z q : ℤ) → IsFloor z (pos (2 ^ low)) q → Has (bits + low) z w → Has bits q (drop low w)
floor-has low bits w z q floor h =
    let all : length w ≡ low + bits = h.width ∙ omega arith in
    let turns = pos h.residue.more -ℤ pos h.residue.less in
    let same : z +ℤ (pos (2 ^ length w) *ℤ turns) ≡ pos (nat w) =
    subst (λ n. z +ℤ (pos (2 ^ n) *ℤ turns) ≡ pos (nat w)) (sym h.width) (turned (bits + low) z (nat w) h.residue) in
    record {
      width = length-drop low w ∙ omega (arith, all);
      residue = from_turns bits q (nat (drop low w)) turns (floor_dropped low bits w z turns q all same floor);
    }

pub dropped-has : (low bits : ℕ) (w : List Bool) (z : ℤ) → Has (bits + low) (pos (2 ^ low) *ℤ z) w → Has bits z (drop low w)
dropped-has low bits w z h = floor-has low bits w (pos (2 ^ low) *ℤ z) z (whole_floor (2 ^ low) z (pow_pos low)) h

-- A word of a width that holds the number has it as its value.
pub settled : (format : Format) (bits : ℕ) (w : List Bool) (z : ℤ) → 1 ≤ bits → Has bits z w → Holds format.signed bits z → val w format ≡ z
settled format bits w z some h range =
    let turns = pos h.residue.more -ℤ pos h.residue.less in
    let same : z +ℤ (pos (2 ^ length w) *ℤ turns) ≡ pos (nat w) =
    subst (λ n. z +ℤ (pos (2 ^ n) *ℤ turns) ≡ pos (nat w)) (sym h.width) (turned bits z (nat w) h.residue) in
    value_from_residue w format z turns (omega (arith, h.width, some)) same (subst (λ n. Holds format.signed n z) (sym h.width) range)

-- products

pub scaled : (m : ℕ) (x : ℤ) (u : ℕ) → pos m *ℤ (x *ℤ pos u) ≡ x *ℤ pos (m * u)
scaled m x u =
    let product : pos u *ℤ pos m ≡ pos (m * u) = omega (arith, ints) in
    commuted (pos m) (x *ℤ pos u) ∙ product_assoc x (pos u) (pos m) ∙ ap (λ k. x *ℤ k) product

pub factor_sum : (x : ℤ) (u v : ℕ) → (x *ℤ pos u) +ℤ (x *ℤ pos v) ≡ x *ℤ pos (u + v)
factor_sum x u v = omega (arith, ints)
