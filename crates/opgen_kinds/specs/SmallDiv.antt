-- Quotients of an unsigned input by a small constant, with their remainders where they are exact.
use Rattle.std.specs.Prelude.{ℕ, ◌≡◌, ◌≢◌, ◌≤◌, [], ◌∷◌, Bool, false, Some, None, ℤ, pos, unsigned_abs, ◌-◌, List, true, codes}
use Rattle.opgen_num.specs.declared.limits.TheConstants.{MAX_DIVISOR}
use Rattle.opgen_num.specs.declared.format.Format.{Format}
use Rattle.opgen_num.specs.declared.format.Ratio.{Ratio}
use Rattle.opgen_num.specs.declared.mode.Mode.TheVariants.{Faithful}
use Rattle.opgen_num.specs.Formats.{digit_count}
use Rattle.opgen_num.specs.Rounding.{IsQuotient}
use Rattle.opgen_kinds.specs.declared.small_div.SmallDiv.{SmallDiv}
use Rattle.opgen_ports.specs.declared.ports.PortFormat.{PortFormat}
use Rattle.opgen_ports.specs.Acceptance.{Acceptance}
use Rattle.opgen_ports.specs.Accepted.{IsAcceptable}
use Rattle.opgen_ports.specs.Good.{IsGoodRatio}
use Rattle.opgen_ports.specs.In128.{IsRatioIn128}
use Rattle.opgen_ports.specs.Modes.{is_exact, mode_of_exact, IsExactOrFaithful}
use Rattle.opgen_ports.specs.Meaning.{Meaning}
use Rattle.opgen_ports.specs.Ranges.{AreNear, IsInput}
use Rattle.opgen_ports.specs.Ports.{port, unsigned, with_rest, one_input}
use Rattle.opgen_ports.specs.Spans.{IsOf}

pub record IsSmallDiv (c : SmallDiv) : Type 0 where
  pub input : IsInput c.input
  pub unsigned : c.input.signed ≡ false
  pub least : 2 ≤ c.divisor
  pub most : c.divisor ≤ MAX_DIVISOR

-- a quotient by a small divisor has the format of the input, and the remainder holds the greatest one
abbrev pub small_quotient_format : SmallDiv → Format
small_quotient_format c = unsigned c.input.width c.input.lsb

-- the remainder has the bits of the greatest one
abbrev pub small_rest_format : SmallDiv → Format
small_rest_format c = unsigned (digit_count (c.divisor - 1)) c.input.lsb

abbrev pub small_ports : (exact : Bool) → SmallDiv → List PortFormat
small_ports exact c = with_rest exact (port (codes "q") (small_quotient_format c)) (port (codes "r") (small_rest_format c))

-- the exact value of an input by a small constant
abbrev pub exact_small : SmallDiv → (x : ℤ) → Ratio
exact_small c x = record { num = x; den = pos c.divisor }

-- the quotient of x by a small constant, with its remainder where it is exact
abbrev pub IsGoodSmallQuotient : (exact : Bool) → SmallDiv → (x q r : ℤ) → Type 0
IsGoodSmallQuotient true c x q r = IsQuotient (unsigned_abs x) c.divisor (unsigned_abs q) (unsigned_abs r)
IsGoodSmallQuotient false c x q r = IsGoodRatio Faithful (exact_small c x) q

-- the formats hold every quotient rounded down, and its remainder
abbrev pub SmallQuotientsHold : SmallDiv → Type 0
SmallQuotientsHold c = IsSmallDiv c → (x : ℤ) → IsOf c.input x → (q r : ℕ) → IsQuotient (unsigned_abs x) c.divisor q r
    → IsOf (small_quotient_format c) (pos q) × IsOf (small_rest_format c) (pos r)

-- what a quotient by a small constant means
abbrev pub small_meaning : SmallDiv → Meaning
small_meaning c = record {
  inputs = one_input c.input;
  outputs = small_ports c.exact c;
  divisor = None;
  memory = 0;
  value = None;
  IsGood = λ mode inputs outputs. IsExactOrFaithful mode × IsGoodSmallQuotient (is_exact mode) c (inputs 0 0) (outputs 0) (outputs 1);
}

-- which quotients by a small constant are accepted
abbrev pub small_acceptance : SmallDiv → Acceptance
small_acceptance c = record {
  IsIn = λ version. (version ≢ 1) × AreNear version (c.input.lsb ∷ []);
  IsRanged = IsSmallDiv c;
  given_names = [];
  shift = pos 0;
  least_shift = pos 0;
  most_shift = λ version. pos 0;
  inexact = None;
  need = None;
  HasRoom = Unit {0};
  own_mark = Some (mode_of_exact c.exact);
  IsExactIn128 = λ inputs. IsRatioIn128 (exact_small c (inputs 0 0));
  FormatsHold = SmallQuotientsHold c;
  has_graph = false;
}

abbrev pub IsAcceptedSmallDiv : SmallDiv → Type 0
IsAcceptedSmallDiv c = IsAcceptable (small_meaning c) (small_acceptance c)
