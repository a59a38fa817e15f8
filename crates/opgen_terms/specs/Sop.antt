-- Sums of products: constants times inputs, products of two inputs, and an offset, over one denominator, each at its power of two.
use Rattle.std.specs.List.{position_from}
use Rattle.std.specs.Option.{unwrap_or}
use Rattle.std.specs.Prelude.{ℕ, ◌≡◌, ◌≤◌, ◌≤ℤ◌, ◌<◌, Bool, IsTrue, false, All, Option, Some, None, ◌+◌, ◌*◌, ◌^◌, ℤ, pos, neg_ℤ, unsigned_abs, length, List, [], ◌∷◌, ◌++◌, map, ◌*ℤ◌, ◌+ℤ◌, ◌-ℤ◌, codes, ◌&&◌, if◌then◌else◌, not, nat_eq, nat_lt, max, find, is_none, int_le, get_or}
use Rattle.opgen_num.specs.declared.limits.TheConstants.{MAX_DENOMINATOR, MAX_NUMERATOR, MAX_SCALED}
use Rattle.opgen_ports.specs.declared.TheConstants.{MAX_SHIFT}
use Rattle.opgen_num.specs.declared.format.Format.{Format}
use Rattle.opgen_num.specs.declared.format.Ratio.{Ratio}
use Rattle.opgen_num.specs.declared.mode.Mode.TheVariants.{Faithful}
use Rattle.opgen_num.specs.Formats.{digit_count}
use Rattle.opgen_terms.specs.declared.sop.TheConstants.{MAX_TOTAL_BITS, COUNTED_BITS}
use Rattle.opgen_terms.specs.declared.sop.Sop.{Sop}
use Rattle.opgen_terms.specs.declared.sop.Scaled.{Scaled}
use Rattle.opgen_terms.specs.declared.sop.Times.{Times}
use Rattle.opgen_terms.specs.declared.terms.Term.{Term as PlainTerm}
use Rattle.opgen_ports.specs.Acceptance.{Acceptance}
use Rattle.opgen_ports.specs.Accepted.{IsAcceptable}
use Rattle.opgen_ports.specs.Meaning.{Meaning}
use Rattle.opgen_ports.specs.Modes.{IsExactOrFaithful}
use Rattle.opgen_ports.specs.Recipes.{is_of_bits}
use Rattle.opgen_ports.specs.Reaches.{is_whole_at, places_up, places_down, reach_of, reach_over, reach_of_product, above_zero, below_zero, in_places, width_of}
use Rattle.opgen_ports.specs.declared.ports.PortFormat.{PortFormat}
use Rattle.opgen_ports.specs.declared.reach.Reach.{Reach}
use Rattle.opgen_ports.specs.Good.{IsGoodRatio}
use Rattle.opgen_ports.specs.In128.{IsRatioIn128}
use Rattle.opgen_ports.specs.Ports.{format_at, recent_numbers, port, covering}
use Rattle.opgen_ports.specs.Ranges.{IsPower, IsInput, IsWithin}
use Rattle.opgen_ports.specs.Spans.{IsOf}

pub record IsScaled (inputs : ℕ) (t : Scaled) : Type 0 where
  pub input : t.input < inputs
  pub coefficient : IsWithin MAX_NUMERATOR t.coefficient

pub record IsTimes (inputs : ℕ) (t : Times) : Type 0 where
  pub a : t.a < inputs
  pub b : t.b < inputs

pub record HasInputs (s : Sop) : Type 0 where
  pub some : 1 ≤ length s.inputs
  pub few : length s.inputs ≤ 16
  pub formats : All (λ (p : PortFormat). IsInput p.format) s.inputs

pub record HasTerms (s : Sop) : Type 0 where
  pub few_scaled : length s.scaled ≤ MAX_SCALED
  pub few_products : length s.products ≤ 16
  pub any : 1 ≤ length s.scaled + length s.products
  pub scaled : All (IsScaled (length s.inputs)) s.scaled
  pub products : All (IsTimes (length s.inputs)) s.products

pub record HasNumbers (s : Sop) : Type 0 where
  pub offset : IsWithin MAX_NUMERATOR s.offset
  pub out_lsb : IsPower s.out_lsb
  pub positive : pos 1 ≤ℤ s.den
  pub small : s.den ≤ℤ MAX_DENOMINATOR

-- no net is built yet of sums that are rounded down or to the nearest, of rows, or for tables of other than six inputs
abbrev pub IsBuiltSop : Sop → Type 0
IsBuiltSop s = IsExactOrFaithful s.mode × IsTrue (is_of_bits s.compressor) × (s.lut ≡ 6)

pub record IsSop (s : Sop) : Type 0 where
  pub inputs : HasInputs s
  pub terms : HasTerms s
  pub numbers : HasNumbers s
  pub built : IsBuiltSop s

-- A term of the sum: `number x` units of 2 ^ shift over the denominator, for the numbers x of the inputs.
pub record Term : Type 0 where
  pub shift : ℤ
  pub number : (x : (input : ℕ) → ℤ) → ℤ
  pub least : ℤ
  pub most : ℤ
  -- what the numbers are without their sign at most
  pub size : ℕ
  -- what stands before the inputs, and is whole in units of the output's last place or not
  pub factor : ℤ

abbrev pub format_of : Sop → (input : ℕ) → Format
format_of s input = format_at s.inputs input

-- the greatest number of a format without its sign
abbrev pub size_of : Format → ℕ
size_of f = max (reach_of f).below (reach_of f).above

-- a constant times an input
abbrev pub scaled_term : Sop → Scaled → Term
scaled_term s t =
    let f = format_of s t.input in
    let r = reach_over f (t.coefficient ∷ []) in
    record {
      shift = f.lsb -ℤ s.out_lsb;
      number = λ x. x t.input *ℤ t.coefficient;
      least = neg_ℤ (pos r.below);
      most = pos r.above;
      size = unsigned_abs t.coefficient * size_of f;
      factor = t.coefficient;
    }

-- how far the product of an input with itself goes, and those of two inputs
abbrev pub square_reach : Format → Reach
square_reach f = record { below = 0; above = size_of f * size_of f }

abbrev pub times_reach : Sop → Times → Reach
times_reach s t =
    if nat_eq t.a t.b then square_reach (format_of s t.a)
    else reach_of_product (format_of s t.a) (format_of s t.b)

-- the same below 0 as above it, and the other way round
abbrev pub turned : Reach → Reach
turned r = record { below = r.above; above = r.below }

abbrev pub turned_if : Bool → Reach → Reach
turned_if negative r = if negative then turned r else r

abbrev pub signed_if : (negative : Bool) → ℤ → ℤ
signed_if negative n = if negative then neg_ℤ n else n

-- a product of two inputs, or of one with itself, added or subtracted
abbrev pub times_term : Sop → Times → Term
times_term s t =
    let r = turned_if t.negative (times_reach s t) in
    record {
      shift = ((format_of s t.a).lsb +ℤ (format_of s t.b).lsb) -ℤ s.out_lsb;
      number = λ x. s.den *ℤ signed_if t.negative (x t.a *ℤ x t.b);
      least = s.den *ℤ neg_ℤ (pos r.below);
      most = s.den *ℤ pos r.above;
      size = unsigned_abs s.den * (size_of (format_of s t.a) * size_of (format_of s t.b));
      factor = s.den;
    }

abbrev pub offset_term : Sop → Term
offset_term s = record {
  shift = neg_ℤ s.out_lsb;
  number = λ x. s.offset;
  least = s.offset;
  most = s.offset;
  size = unsigned_abs s.offset;
  factor = s.offset;
}

-- an offset of 0 is no term
abbrev pub offset_terms : Sop → List Term
offset_terms s = if nat_eq (unsigned_abs s.offset) 0 then [] else offset_term s ∷ []

abbrev pub terms_of : Sop → List Term
terms_of s = map (scaled_term s) s.scaled ++ (map (times_term s) s.products ++ offset_terms s)

-- the term at a place
abbrev pub term_at : Sop → (place : ℕ) → Term
term_at s place = get_or (terms_of s) place (offset_term s)

-- what a term is apart from the numbers of the inputs
abbrev pub plain : Term → PlainTerm
plain t = record { shift = t.shift; least = t.least; most = t.most; size = t.size; factor = t.factor }

-- the sum of something of each term
abbrev pub total : (Term → ℤ) → List Term → ℤ
total f [] = pos 0
total f (t ∷ ts) = f t +ℤ total f ts

-- the greatest of something of each term
abbrev pub greatest : (Term → ℕ) → List Term → ℕ
greatest f [] = 0
greatest f (t ∷ ts) = max (f t) (greatest f ts)

-- the most places that a shift goes below 0
abbrev pub depth : Sop → ℕ
depth s = greatest (λ t. places_down t.shift) (terms_of s)

-- how many places a term stands above the lowest place of all terms
abbrev pub height : Sop → Term → ℕ
height s t = places_up (t.shift +ℤ pos (depth s))

-- a number of a term in units of that place
abbrev pub raised : Sop → (Term → ℤ) → ℤ
raised s f = total (λ t. f t *ℤ pos (2 ^ height s t)) (terms_of s)

-- The exact value in units of the output's last place: the sum of the terms, each at its power of two, over the denominator.
abbrev pub exact_sop : Sop → (x : (input : ℕ) → ℤ) → Ratio
exact_sop s x = record { num = raised s (λ t. t.number x); den = s.den *ℤ pos (2 ^ depth s) }

-- how far the exact values go in units of the lowest place, and of the output's last place
abbrev pub sop_reach : Sop → Reach
sop_reach s = record { below = below_zero (raised s (λ t. t.least)); above = above_zero (raised s (λ t. t.most)) }

abbrev pub sop_places : Sop → Reach
sop_places s = in_places (sop_reach s) (neg_ℤ (pos (depth s))) s.den

abbrev pub sop_format : Sop → Format
sop_format s = covering (sop_places s) s.out_lsb

-- the first term whose factor is not whole in units of the output's last place
abbrev pub sop_inexact : Sop → Option ℕ
sop_inexact s = position_from (λ t. not (is_whole_at s.den t.shift t.factor)) 0 (terms_of s)

-- the first shift of a term that is not from -48 to 48
abbrev pub is_small_shift : ℤ → Bool
is_small_shift shift = int_le (neg_ℤ MAX_SHIFT) shift && int_le shift MAX_SHIFT

abbrev pub sop_shift : Sop → ℤ
sop_shift s = unwrap_or (find (λ shift. not (is_small_shift shift)) (map (λ t. t.shift) (terms_of s))) (pos 0)

-- the bits of the sum of all terms in units of the lowest place, at most
abbrev pub total_bits : Sop → ℕ
total_bits s = greatest (λ t. digit_count t.size + height s t) (terms_of s) + digit_count (length (terms_of s))

-- The bits below the output's last place that the limit of signals counts where a term is rounded. It is no number of guard bits:
-- the recipe has up to 11 of them, and that the width of the output and they are at most 96 together is a law of opgen_sop.
abbrev pub rounding_bits : Sop → ℕ
rounding_bits s = if is_none (sop_inexact s) then 0 else COUNTED_BITS

-- What the limit of signals counts: the width of the output and those bits, or the bits of the sum of all terms, where they are
-- more than 128 bits have room to compute.
abbrev pub sop_need : Sop → ℕ
sop_need s = if nat_lt MAX_TOTAL_BITS (total_bits s) then total_bits s else width_of (sop_places s) + rounding_bits s

-- each shift is from -48 to 48
abbrev pub HasSmallShift : Sop → Type 0
HasSmallShift s = (neg_ℤ MAX_SHIFT ≤ℤ sop_shift s) × (sop_shift s ≤ℤ MAX_SHIFT)

-- the numbers of the inputs in the last cycle
abbrev pub last_numbers : Sop → (history : List ℕ) → (input : ℕ) → ℤ
last_numbers s history input = recent_numbers s.inputs history input 0

-- the numbers of the inputs are those of their formats
abbrev pub AreOf : Sop → (x : (input : ℕ) → ℤ) → Type 0
AreOf s x = (input : ℕ) → input < length s.inputs → IsOf (format_of s input) (x input)

-- the format of the output holds every exact value, rounded down or up
abbrev pub SopsHold : Sop → Type 0
SopsHold s = IsSop s → (x : (input : ℕ) → ℤ) → AreOf s x
    → (y : ℤ) → IsGoodRatio Faithful (exact_sop s x) y → IsOf (sop_format s) y

-- what a sum of products means
abbrev pub sop_meaning : Sop → Meaning
sop_meaning s = record {
  inputs = s.inputs;
  outputs = port (codes "y") (sop_format s) ∷ [];
  divisor = None;
  memory = 0;
  value = Some (λ inputs. exact_sop s (λ input. inputs input 0));
  IsGood = λ mode inputs outputs. IsGoodRatio mode (exact_sop s (λ input. inputs input 0)) (outputs 0);
}

-- which sums of products are accepted
abbrev pub sop_acceptance : Sop → Acceptance
sop_acceptance s = record {
  IsIn = λ version. 3 ≤ version;
  IsRanged = IsSop s;
  given_names = map (λ (p : PortFormat). p.name) s.inputs;
  shift = sop_shift s;
  least_shift = neg_ℤ MAX_SHIFT;
  most_shift = λ version. MAX_SHIFT;
  inexact = sop_inexact s;
  need = Some (sop_need s);
  HasRoom = Unit {0};
  own_mark = Some s.mode;
  IsExactIn128 = λ inputs. IsRatioIn128 (exact_sop s (λ input. inputs input 0));
  FormatsHold = SopsHold s;
  has_graph = false;
}

abbrev pub IsAcceptedSop : Sop → Type 0
IsAcceptedSop s = IsAcceptable (sop_meaning s) (sop_acceptance s)
