-- Square roots of an unsigned input, with their remainders where they are exact.
use Rattle.std.specs.Int.{div_ceil}
use Rattle.std.specs.Prelude.{ℕ, ◌≡◌, ◌≤◌, Bool, false, Some, None, ◌+◌, ◌*◌, ℤ, pos, unsigned_abs, List, ◌*ℤ◌, true, codes, ◌-ℤ◌, []}
use Rattle.opgen_ports.specs.declared.TheConstants.{MAX_SHIFT}
use Rattle.opgen_num.specs.declared.format.Format.{Format}
use Rattle.opgen_num.specs.Rounding.{IsGoodRoot, IsRoot}
use Rattle.opgen_kinds.specs.declared.single.Single.{Single}
use Rattle.opgen_ports.specs.declared.ports.PortFormat.{PortFormat}
use Rattle.opgen_ports.specs.Acceptance.{Acceptance}
use Rattle.opgen_ports.specs.Accepted.{IsAcceptedIn, IsAcceptable}
use Rattle.opgen_ports.specs.In128.{IsIn128}
use Rattle.opgen_ports.specs.Limits.{most_signal}
use Rattle.opgen_ports.specs.Modes.{is_exact, mode_of_exact, IsExactOrFaithful}
use Rattle.opgen_ports.specs.Meaning.{Meaning}
use Rattle.opgen_ports.specs.Ports.{port, unsigned, with_rest, one_input}
use Rattle.opgen_ports.specs.Ranges.{IsNear, IsInput}
use Rattle.opgen_ports.specs.Reaches.{places_up, up}
use Rattle.opgen_ports.specs.Spans.{IsOf}

pub record IsSingle (r : Single) : Type 0 where
  pub input : IsInput r.input
  pub unsigned : r.input.signed ≡ false
  pub lsb : IsNear r.input.lsb
  pub out_lsb : IsNear r.out_lsb

-- the power of two that brings the square into units of the square of the output's last place
abbrev pub root_shift : Single → ℤ
root_shift r = r.input.lsb -ℤ (pos 2 *ℤ r.out_lsb)

-- half as many bits as the shifted input has, rounded up
abbrev pub root_width : Single → ℕ
root_width r = div_ceil (r.input.width + places_up (root_shift r)) 2

abbrev pub root_format : Single → Format
root_format r = unsigned (root_width r) r.out_lsb

abbrev pub rest_format : Single → Format
rest_format r = unsigned (root_width r + 1) (pos 2 *ℤ r.out_lsb)

abbrev pub root_ports : (exact : Bool) → Single → List PortFormat
root_ports exact r = with_rest exact (port (codes "y") (root_format r)) (port (codes "r") (rest_format r))

-- the square of the root; the input is unsigned
abbrev pub square : Single → ℤ → ℕ
square r x = unsigned_abs x * up (root_shift r)

-- the root of x, with its remainder where it is exact
abbrev pub IsGoodSquareRoot : (exact : Bool) → Single → (x y r : ℤ) → Type 0
IsGoodSquareRoot true s x y r = IsRoot (square s x) (unsigned_abs y) (unsigned_abs r)
IsGoodSquareRoot false s x y r = IsGoodRoot (square s x) (unsigned_abs y)

-- The formats hold every root rounded down, and its remainder. Rounded up it can be 2 ^ k where the output has k bits, as that of
-- 255 in 8 bits.
abbrev pub RootsHold : Single → Type 0
RootsHold r = IsSingle r → (x : ℤ) → IsOf r.input x
    → (y rest : ℕ) → IsRoot (square r x) y rest → IsOf (root_format r) (pos y) × IsOf (rest_format r) (pos rest)

-- what a root means
abbrev pub single_meaning : Single → Meaning
single_meaning r = record {
  inputs = one_input r.input;
  outputs = root_ports r.exact r;
  divisor = None;
  memory = 0;
  value = None;
  IsGood = λ mode inputs outputs. IsExactOrFaithful mode × IsGoodSquareRoot (is_exact mode) r (inputs 0 0) (outputs 0) (outputs 1);
}

-- which roots are accepted
abbrev pub single_acceptance : Single → Acceptance
single_acceptance r = record {
  IsIn = λ version. Unit {0};
  IsRanged = IsSingle r;
  given_names = [];
  shift = root_shift r;
  least_shift = pos 0;
  most_shift = λ version. MAX_SHIFT;
  inexact = None;
  need = None;
  HasRoom = Unit {0};
  own_mark = Some (mode_of_exact r.exact);
  IsExactIn128 = λ inputs. IsIn128 (pos (square r (inputs 0 0)));
  FormatsHold = RootsHold r;
  has_graph = false;
}

abbrev pub IsAcceptedSingle : Single → Type 0
IsAcceptedSingle r = IsAcceptable (single_meaning r) (single_acceptance r)

-- The differences that a root takes of its remainders have three bits more than the root, and stay within each version's limit.
abbrev pub RootsAreNarrow : Type 0
RootsAreNarrow = (version : ℕ) (r : Single) → IsAcceptedIn version (single_meaning r) (single_acceptance r) → root_width r + 3 ≤ most_signal version
