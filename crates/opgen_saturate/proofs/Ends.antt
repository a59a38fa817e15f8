-- The words of the least and the greatest number of a format.
use Rattle.std.proofs.Common.{◌≡◌, ℕ, suc, ◌+◌, ◌-◌, ◌^◌, ◌≤◌, Bool, true, false, List, length, sym, ap, ◌∙◌, subst, arith}
use Rattle.std.specs.Prelude.{ℤ, pos, ◌+ℤ◌, ◌-ℤ◌, ◌*ℤ◌}
use Rattle.std.proofs.Math.Nat.{two-pow-succ}
use Rattle.std.proofs.lemmas.Int.{ints}
use Rattle.std.proofs.lemmas.Nat.{pow_pos}
use Rattle.opgen_num.specs.declared.format.Format.{Format}
use Rattle.opgen_num.specs.Formats.{Holds, least, greatest, IsWidthOf, fewest_bits}
use Rattle.opgen_num.specs.Words.{val, nat, word}
use Rattle.opgen_num.specs.WordLaws.{nat-word, length-word}
use Rattle.opgen_num.proofs.Residues.{value_from_residue}
use Rattle.opgen_design.specs.Value.{IsWidth}
use Rattle.opgen_ports.specs.Good.{least_of, greatest_of}
use Rattle.opgen_saturate.specs.Recipe.{least_word, greatest_word}

-- the number of a word of a format's width
pub value_is : (v : List Bool) (to : Format) (y k : ℤ) → length v ≡ to.width → IsWidthOf to.signed to.width
    → y +ℤ (pos (2 ^ to.width) *ℤ k) ≡ pos (nat v) → Holds to.signed to.width y → val v to ≡ y
value_is v to y k long some number range =
    let e = sym long in
    value_from_residue v to y k (few to.signed some.0)
    (subst (λ n. y +ℤ (pos (2 ^ n) *ℤ k) ≡ pos (nat v)) e number)
    (subst (λ n. Holds to.signed n y) e range)
  where
    few : (signed : Bool) → fewest_bits signed ≤ to.width → 1 ≤ length v
    few false h = omega (arith, h, long)
    few true h = omega (arith, h, long)

module _ (m : ℕ) (l : ℤ) where
  abbrev target : Bool → Format
  target signed = record { signed = signed; width = m; lsb = l }

  least_value : (signed : Bool) → IsWidthOf signed m → val (least_word (target signed)) (target signed) ≡ least signed m
  least_value false some =
      let n : nat (word m 0) ≡ 0 = nat-word m 0 (omega (arith, pow_pos m)) in
      value_is (word m 0) (target false) (pos 0) (pos 0) (length-word m 0) some (omega (arith, ints, n))
      (omega (arith, ints), omega (arith, ints, pow_pos m))
  least_value true some =
      let half = 2 ^ (m - 1) in
      let e : m ≡ suc (m - 1) = omega (arith, some.0) in
      let two : 2 ^ m ≡ half + half = ap (λ n. 2 ^ n) e ∙ two-pow-succ (m - 1) in
      let n : nat (word m half) ≡ half = nat-word m half (omega (arith, two, pow_pos (m - 1))) in
      value_is (word m half) (target true) (pos 0 -ℤ pos half) (pos 1) (length-word m half) some (omega (arith, ints, n, two))
      (omega (arith, ints), omega (arith, ints, pow_pos (m - 1)))

  greatest_value : (signed : Bool) → IsWidthOf signed m → val (greatest_word (target signed)) (target signed) ≡ greatest signed m
  greatest_value false some =
      let last = 2 ^ m - 1 in
      let n : nat (word m last) ≡ last = nat-word m last (omega (arith, pow_pos m)) in
      value_is (word m last) (target false) (pos (2 ^ m) -ℤ pos 1) (pos 0) (length-word m last) some (omega (arith, ints, n, pow_pos m))
      (omega (arith, ints, pow_pos m), omega (arith, ints))
  greatest_value true some =
      let half = 2 ^ (m - 1) in
      let e : m ≡ suc (m - 1) = omega (arith, some.0) in
      let two : 2 ^ m ≡ half + half = ap (λ n. 2 ^ n) e ∙ two-pow-succ (m - 1) in
      let n : nat (word m (half - 1)) ≡ half - 1 = nat-word m (half - 1) (omega (arith, two, pow_pos (m - 1))) in
      value_is (word m (half - 1)) (target true) (pos half -ℤ pos 1) (pos 0) (length-word m (half - 1)) some
      (omega (arith, ints, n, pow_pos (m - 1)))
      (omega (arith, ints, pow_pos (m - 1)), omega (arith, ints))

pub least_is : (to : Format) → IsWidthOf to.signed to.width → val (least_word to) to ≡ least_of to
least_is to = least_value to.width to.lsb to.signed

pub greatest_is : (to : Format) → IsWidthOf to.signed to.width → val (greatest_word to) to ≡ greatest_of to
greatest_is to = greatest_value to.width to.lsb to.signed

-- a word of a format's width
pub word-wide : (to : Format) (n : ℕ) → IsWidthOf to.signed to.width → IsWidth (length (word to.width n))
word-wide to n some = subst IsWidth (sym (length-word to.width n)) (few to.signed some.0, some.1)
  where
    few : (signed : Bool) → fewest_bits signed ≤ to.width → 1 ≤ to.width
    few false h = h
    few true h = omega (arith, h)
