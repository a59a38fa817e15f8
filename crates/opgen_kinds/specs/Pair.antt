-- Quotients of two inputs, both signed or none, with their remainders where they are exact.
use Rattle.std.proofs.Common.{arith}
use Rattle.std.proofs.lemmas.Int.{ints}
use Rattle.std.specs.Prelude.{ℕ, ◌≡◌, refl, ◌≤ℤ◌, ◌<◌, Bool, IsTrue, false, Some, None, ◌+◌, ℤ, pos, negsuc, neg_ℤ, unsigned_abs, List, ◌+ℤ◌, ◌*ℤ◌, ◌≢◌, true, codes, ◌-ℤ◌, [], Option}
use Rattle.opgen_ports.specs.declared.TheConstants.{MAX_SHIFT}
use Rattle.opgen_num.specs.declared.format.Format.{Format}
use Rattle.opgen_num.specs.declared.format.Ratio.{Ratio}
use Rattle.opgen_num.specs.declared.mode.Mode.TheVariants.{Faithful}
use Rattle.opgen_kinds.specs.declared.pair.Pair.{Pair}
use Rattle.opgen_ports.specs.declared.ports.PortFormat.{PortFormat}
use Rattle.opgen_ports.specs.Acceptance.{Acceptance}
use Rattle.opgen_ports.specs.Accepted.{IsAcceptable}
use Rattle.opgen_ports.specs.Good.{IsGoodRatio}
use Rattle.opgen_ports.specs.In128.{IsIn128, IsRatioIn128}
use Rattle.opgen_ports.specs.Modes.{is_exact, mode_of_exact, IsExactOrFaithful}
use Rattle.opgen_ports.specs.Meaning.{Meaning}
use Rattle.opgen_ports.specs.Ports.{port, with_rest, two_inputs, Recent}
use Rattle.opgen_ports.specs.Ranges.{IsNear, IsInput}
use Rattle.opgen_ports.specs.Recipes.{is_restoring}
use Rattle.opgen_ports.specs.Reaches.{places_up, up}
use Rattle.opgen_ports.specs.Spans.{IsOf}

pub record IsPair (p : Pair) : Type 0 where
  pub a : IsInput p.a
  pub b : IsInput p.b
  pub alike : p.a.signed ≡ p.b.signed
  pub a_lsb : IsNear p.a.lsb
  pub b_lsb : IsNear p.b.lsb
  pub out_lsb : IsNear p.out_lsb

-- the power of two that brings the exact value into units of the quotient's last place
abbrev pub pair_shift : Pair → ℤ
pair_shift p = (p.a.lsb -ℤ p.b.lsb) -ℤ p.out_lsb

-- the bit of a sign
abbrev pub sign_bit : (signed : Bool) → ℕ
sign_bit true = 1
sign_bit false = 0

-- The quotient has as many bits as the dividend that is shifted up, and a signed one has one more: the least dividend by -1 is
-- above all.
abbrev pub quotient_format : Pair → Format
quotient_format p = record {
  signed = p.a.signed;
  width = p.a.width + places_up (pair_shift p) + sign_bit p.a.signed;
  lsb = p.out_lsb;
}

abbrev pub remainder_format : Pair → Format
remainder_format p = record { signed = p.b.signed; width = p.b.width; lsb = p.b.lsb +ℤ p.out_lsb }

abbrev pub quotient_ports : (exact : Bool) → Pair → List PortFormat
quotient_ports exact p = with_rest exact (port (codes "q") (quotient_format p)) (port (codes "r") (remainder_format p))

-- n / b as a fraction whose denominator is above 0, where b is not 0
abbrev pub over : (n b : ℤ) → Ratio
over n (pos d) = record { num = n; den = pos d }
over n (negsuc d) = record { num = neg_ℤ n; den = pos (d + 1) }

-- the dividend in units of the quotient's last place, times b
abbrev pub dividend : Pair → ℤ → ℤ
dividend p a = a *ℤ pos (up (pair_shift p))

abbrev pub exact_quotient : Pair → (a b : ℤ) → Ratio
exact_quotient p a b = over (dividend p a) b

-- the exact value of the only output of a faithful quotient; an exact one has its remainder besides
abbrev pub quotient_value : (exact : Bool) → Pair → Option ((inputs : (port : ℕ) → Recent) → Ratio)
quotient_value true p = None
quotient_value false p = Some (λ inputs. exact_quotient p (inputs 0 0) (inputs 1 0))

-- q is n / b rounded towards 0, and r is the remainder: the equation holds, the remainder is smaller than the divisor, and it is
-- 0 or has the sign of the dividend (ISO/IEC 9899:2018, 6.5.5)
pub record IsTruncated (n b q r : ℤ) : Type 0 where
  pub whole : n ≡ (q *ℤ b) +ℤ r
  pub smaller : unsigned_abs r < unsigned_abs b
  pub alike : pos 0 ≤ℤ (n *ℤ r)

-- the quotient of a and b, with its remainder where it is exact
abbrev pub IsGoodQuotient : (exact : Bool) → Pair → (a b q r : ℤ) → Type 0
IsGoodQuotient true p a b q r = IsTruncated (dividend p a) b q r
IsGoodQuotient false p a b q r = IsGoodRatio Faithful (exact_quotient p a b) q

-- the format of the quotient holds every exact value, rounded down or up
abbrev pub QuotientsHold : Pair → Type 0
QuotientsHold p = IsPair p → pos 0 ≤ℤ pair_shift p → (a b : ℤ) → IsOf p.a a → IsOf p.b b → b ≢ pos 0
    → (y : ℤ) → IsGoodRatio Faithful (exact_quotient p a b) y → IsOf (quotient_format p) y

-- the format of the remainder holds every remainder
abbrev pub RemaindersHold : Pair → Type 0
RemaindersHold p = IsPair p → (a b : ℤ) → IsOf p.a a → IsOf p.b b
    → (q r : ℤ) → IsTruncated (dividend p a) b q r → IsOf (remainder_format p) r

-- what a quotient means: its divisor is not 0
abbrev pub pair_meaning : Pair → Meaning
pair_meaning p = record {
  inputs = two_inputs p.a p.b;
  outputs = quotient_ports p.exact p;
  divisor = Some 1;
  memory = 0;
  value = quotient_value p.exact p;
  IsGood = λ mode inputs outputs. IsExactOrFaithful mode × IsGoodQuotient (is_exact mode) p (inputs 0 0) (inputs 1 0) (outputs 0) (outputs 1);
}

-- versions 1 and 2 have no signed quotients, and versions 1 to 3 none without restoring
pub record IsPairIn (version : ℕ) (p : Pair) : Type 0 where
  pub unsigned : version < 3 → p.a.signed ≡ false
  pub restoring : version < 4 → IsTrue (is_restoring p.recurrence)

-- which quotients are accepted
abbrev pub pair_acceptance : Pair → Acceptance
pair_acceptance p = record {
  IsIn = λ version. IsPairIn version p;
  IsRanged = IsPair p;
  given_names = [];
  shift = pair_shift p;
  least_shift = pos 0;
  most_shift = λ version. MAX_SHIFT;
  inexact = None;
  need = Some (quotient_format p).width;
  HasRoom = Unit {0};
  own_mark = Some (mode_of_exact p.exact);
  IsExactIn128 = λ inputs. IsRatioIn128 (exact_quotient p (inputs 0 0) (inputs 1 0)) × IsIn128 (dividend p (inputs 0 0));
  FormatsHold = QuotientsHold p × RemaindersHold p;
  has_graph = false;
}

abbrev pub IsAcceptedPair : Pair → Type 0
IsAcceptedPair p = IsAcceptable (pair_meaning p) (pair_acceptance p)

-- -7 by 2 is -3 and leaves -1; -8 by 3 is -2 and leaves -2; 5 by -4 is -1 and leaves 1; -8 by -1 is 8
minus_seven : IsTruncated (negsuc 6) (pos 2) (negsuc 2) (negsuc 0)
minus_seven = record { whole = refl; smaller = omega arith; alike = omega (arith, ints) }

minus_eight : IsTruncated (negsuc 7) (pos 3) (negsuc 1) (negsuc 1)
minus_eight = record { whole = refl; smaller = omega arith; alike = omega (arith, ints) }

by_minus_four : IsTruncated (pos 5) (negsuc 3) (negsuc 0) (pos 1)
by_minus_four = record { whole = refl; smaller = omega arith; alike = omega (arith, ints) }

by_minus_one : IsTruncated (negsuc 7) (negsuc 0) (pos 8) (pos 0)
by_minus_one = record { whole = refl; smaller = omega arith; alike = omega (arith, ints) }
