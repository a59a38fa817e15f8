-- What holds of roots: their words, formats, port names and widths.
use Rattle.std.proofs.Common.{◌^◌, ◌≤◌, FitsSigned, arith, ℕ, ◌<◌, Bool, List, length, ◌≡◌, true, ◌+◌, ◌*◌, ⊎_elim, false, subst}
use Rattle.std.proofs.lemmas.Bool.{cases_lt}
use Rattle.std.proofs.lemmas.Int.{ints}
use Rattle.std.proofs.lemmas.Nat.{pow-add, pow_pos}
use Rattle.std.proofs.Math.Nat.{mul-le-mul, mul-le-mul_right}
use Rattle.std.specs.Int.{w128}
use Rattle.std.specs.Prelude.{ℤ, unsigned_abs, codes, slice_index, ◌≤ℤ◌, pos, All}
use Rattle.opgen_num.proofs.BitLength.{power_order}
use Rattle.opgen_num.specs.Rounding.{IsRoot}
use Rattle.opgen_kinds.specs.declared.single.Single.{Single}
use Rattle.opgen_ports.specs.declared.TheConstants.{MAX_SHIFT}
use Rattle.opgen_ports.specs.Ports.{HasWidth, IsCycle, port}
use Rattle.opgen_kinds.specs.Single.{IsSingle, root_ports, root_format, rest_format, root_shift, root_width, square, IsGoodSquareRoot, RootsAreNarrow, single_meaning, single_acceptance}
use Rattle.opgen_ports.specs.Modes.{is_exact, IsExactOrFaithful}
use Rattle.opgen_ports.specs.Limits.{most_signal}
use Rattle.opgen_ports.specs.Reaches.{places_up}
use Rattle.opgen_ports.specs.Spans.{IsOf}
use Rattle.opgen_ports.proofs.Bounds.{few_up}
use Rattle.opgen_ports.proofs.Covered.{unsigned_of}
use Rattle.opgen_ports.proofs.Cycles.{main_word, rest_word}
use Rattle.opgen_ports.proofs.In128.{whole_in128}
use Rattle.opgen_ports.proofs.InputPorts.{all_one, all_two, input_bit, HasBit}
use Rattle.opgen_ports.proofs.Lawful.{IsLawful}
use Rattle.opgen_ports.proofs.Magnitudes.{fits_small, number_small}
use Rattle.opgen_kinds.proofs.PortWidths.{wider}
use Rattle.opgen_ports.proofs.Versions.{signal_limit}

pub root_input_fits : (r : Single) (n : ℤ) → IsSingle r → unsigned_abs n ≤ 2 ^ r.input.width → FitsSigned w128 n
root_input_fits r n fits small = fits_small n (omega (arith, small, power_order r.input.width 48 fits.input.most))

pub root_word : (exact : Bool) (r : Single) (words : List ℕ) → IsCycle (root_ports exact r) words
    → (0 < length words) × (slice_index words 0 < 2 ^ (root_format r).width)
root_word exact r words cycle = main_word exact (port (codes "y") (root_format r)) (port (codes "r") (rest_format r)) words cycle

pub square_rest_word : (exact : Bool) (r : Single) (words : List ℕ) → exact ≡ true → IsCycle (root_ports exact r) words
    → (1 < length words) × (slice_index words 1 < 2 ^ (rest_format r).width)
square_rest_word exact r words e cycle = rest_word exact (port (codes "y") (root_format r)) (port (codes "r") (rest_format r)) words e cycle

-- a root
pub root_bits : (r : Single) → IsSingle r → root_shift r ≤ℤ MAX_SHIFT → (1 ≤ root_width r) × (root_width r ≤ 48)
root_bits r fits high =
    let few = few_up 48 (root_shift r) high in
    let some : 1 ≤ r.input.width = grind (arith, fits.input.fewest, fits.unsigned) in
    (omega (arith, few, some), omega (arith, few, fits.input.most))

-- a root has half the bits of its square
pub roots_held : (r : Single) → IsSingle r → (x : ℤ) → IsOf r.input x → (y rest : ℕ) → IsRoot (square r x) y rest → IsOf (root_format r) (pos y)
    × IsOf (rest_format r) (pos rest)
roots_held r fits x of y rest (whole, few) =
    let s = places_up (root_shift r) in
    let w = r.input.width in
    let k = root_width r in
    let (low, high) = unsigned_of r.input.signed w x fits.unsigned of in
    let small : unsigned_abs x < 2 ^ w = omega (arith, ints, low, high) in
    let less : (unsigned_abs x + 1) * 2 ^ s ≤ 2 ^ w * 2 ^ s = mul-le-mul_right (2 ^ s) (omega (arith, small)) in
    let bits : w + s ≤ k + k = omega arith in
    let top : 2 ^ w * 2 ^ s ≤ 2 ^ k * 2 ^ k = omega (arith, power_order (w + s) (k + k) bits, pow-add 2 w s, pow-add 2 k k) in
    let below : y < 2 ^ k =
    ⊎_elim
    (λ (lt : y < 2 ^ k). lt)
    (λ (ge : 2 ^ k ≤ y).
    let far : 2 ^ k * 2 ^ k ≤ y * y = mul-le-mul {n₁ = 2 ^ k} {m₁ = 2 ^ k} {n₂ = y} {m₂ = y} ge ge in
    absurd (omega (arith, whole, less, top, far, pow_pos s)))
    (cases_lt y (2 ^ k)) in
    let twice : 2 ^ (k + 1) ≡ 2 ^ k * 2 ^ 1 = pow-add 2 k 1 in
    ((omega (arith, ints), omega (arith, ints, below)), (omega (arith, ints), omega (arith, ints, below, few, twice)))

roots_wide : (exact : Bool) (r : Single) → IsSingle r → root_shift r ≤ℤ MAX_SHIFT → All (HasWidth 64) (root_ports exact r)
roots_wide true r fits high =
    let (some, few) = root_bits r fits high in
    all_two (HasWidth 64) _ _ (some, omega (arith, few)) (omega arith, omega (arith, few))
roots_wide false r fits high =
    let (some, few) = root_bits r fits high in
    all_one (HasWidth 64) _ (some, omega (arith, few))

pub roots_narrow : RootsAreNarrow
roots_narrow version r is =
    let (_, few) = root_bits r is.ranges is.fine.1 in
    omega (arith, few, (signal_limit version).0)

-- what holds of its meaning
pub single_lawful : (r : Single) → IsLawful (single_meaning r) (single_acceptance r)
single_lawful r = record {
  some_input = λ is. omega arith;
  input_bits = λ is. all_one HasBit _ (input_bit r.input is.input);
  wide = λ version is. wider (most_signal version) (root_ports r.exact r) (signal_limit version).0
      (roots_wide r.exact r is.ranges is.fine.1);
  limit = λ version h. h;
  least = λ h. omega (arith, ints, h);
  room = λ version within high. tt;
  held = roots_held r;
  in128 = λ version is inputs of.
      let x = number_small r.input (inputs 0 0) is.ranges.input (of 0 0 (omega arith)) in
      whole_in128 (unsigned_abs (inputs 0 0)) (root_shift r) x is.fine.1;
  recalls = λ mode inputs others outputs same good.
      subst (λ x. IsExactOrFaithful mode × IsGoodSquareRoot (is_exact mode) r x (outputs 0) (outputs 1)) (same 0 0 (omega arith)) good;
}
