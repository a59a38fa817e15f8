-- Products of two inputs.
use Rattle.std.specs.Prelude.{ℕ, ◌≡◌, ◌≤◌, ◌≤ℤ◌, IsTrue, false, Some, None, ◌+◌, ◌^◌, ℤ, pos, neg_ℤ, [], ◌∷◌, ◌+ℤ◌, ◌*ℤ◌, codes, if◌then◌else◌, ◌-ℤ◌, int_lt}
use Rattle.opgen_ports.specs.declared.TheConstants.{MAX_SHIFT}
use Rattle.opgen_num.specs.declared.format.Format.{Format}
use Rattle.opgen_num.specs.declared.format.Ratio.{Ratio}
use Rattle.opgen_num.specs.declared.mode.Mode.TheVariants.{Faithful}
use Rattle.opgen_kinds.specs.declared.product.Product.{Product}
use Rattle.opgen_ports.specs.declared.reach.Reach.{Reach}
use Rattle.opgen_ports.specs.Acceptance.{Acceptance}
use Rattle.opgen_ports.specs.Accepted.{IsAcceptable}
use Rattle.opgen_ports.specs.Good.{IsGoodRatio}
use Rattle.opgen_ports.specs.In128.{IsRatioIn128}
use Rattle.opgen_ports.specs.Meaning.{Meaning}
use Rattle.opgen_ports.specs.Modes.{is_faithful}
use Rattle.opgen_ports.specs.Recipes.{has_counters, is_of_bits, is_third}
use Rattle.opgen_ports.specs.Ranges.{AreNear, IsPower, IsInput}
use Rattle.opgen_ports.specs.Ports.{port, covering, two_inputs}
use Rattle.opgen_ports.specs.Reaches.{reach_of_product, in_places, width_of, places_up, places_down, up, down}
use Rattle.opgen_ports.specs.Spans.{IsOf, Spans}

-- no net is built yet of products that depends on the mode, of rows, or as in version 4
abbrev pub IsBuiltProduct : Product → Type 0
IsBuiltProduct p = IsTrue (is_faithful p.mode) × IsTrue (is_of_bits p.compressor) × IsTrue (is_third p.recipe)

pub record IsProduct (p : Product) : Type 0 where
  pub a : IsInput p.a
  pub b : IsInput p.b
  pub alike : p.a.signed ≡ p.b.signed
  pub out_lsb : IsPower p.out_lsb
  pub built : IsBuiltProduct p

-- the power of two that brings the exact value into units of the output's last place
abbrev pub product_shift : Product → ℤ
product_shift p = (p.a.lsb +ℤ p.b.lsb) -ℤ p.out_lsb

-- how far a product goes
abbrev pub product_reach : Product → Reach
product_reach p = reach_of_product p.a p.b

abbrev pub product_places : Product → Reach
product_places p = in_places (product_reach p) (product_shift p) (pos 1)

-- the width of the widest signal
abbrev pub product_need : Product → ℕ
product_need p = width_of (product_places p) + places_down (product_shift p)

abbrev pub product_format : Product → Format
product_format p = covering (product_places p) p.out_lsb

abbrev pub exact_product : Product → (a b : ℤ) → Ratio
exact_product p a b = record { num = (a *ℤ b) *ℤ pos (up (product_shift p)); den = pos (down (product_shift p)) }

-- the format of the output holds every exact value, rounded down or up
abbrev pub ProductsHold : Product → Type 0
ProductsHold p = IsProduct p → (a b : ℤ) → IsOf p.a a → IsOf p.b b
    → (y : ℤ) → IsGoodRatio Faithful (exact_product p a b) y → IsOf (product_format p) y

-- what a product means
abbrev pub product_meaning : Product → Meaning
product_meaning p = record {
  inputs = two_inputs p.a p.b;
  outputs = port (codes "y") (product_format p) ∷ [];
  divisor = None;
  memory = 0;
  value = Some (λ inputs. exact_product p (inputs 0 0) (inputs 1 0));
  IsGood = λ mode inputs outputs. IsGoodRatio mode (exact_product p (inputs 0 0) (inputs 1 0)) (outputs 0);
}

-- which products are accepted
abbrev pub product_acceptance : Product → Acceptance
product_acceptance p = record {
  IsIn = λ version. (version ≡ 1 → has_counters p.compressor ≡ false) × AreNear version (p.a.lsb ∷ p.b.lsb ∷ p.out_lsb ∷ []);
  IsRanged = IsProduct p;
  given_names = [];
  shift = product_shift p;
  least_shift = neg_ℤ MAX_SHIFT;
  most_shift = λ version. MAX_SHIFT;
  inexact = if int_lt (product_shift p) (pos 0) then Some 0 else None;
  need = Some (product_need p);
  HasRoom = Unit {0};
  own_mark = None;
  IsExactIn128 = λ inputs. IsRatioIn128 (exact_product p (inputs 0 0) (inputs 1 0));
  FormatsHold = ProductsHold p;
  has_graph = false;
}

abbrev pub IsAcceptedProduct : Product → Type 0
IsAcceptedProduct p = IsAcceptable (product_meaning p) (product_acceptance p)

-- the exact values of a product, over all numbers of its inputs
abbrev pub ProductsReach : Type 0
ProductsReach = (p : Product) → IsProduct p → Spans (ℤ × ℤ) (λ x. IsOf p.a x.0 × IsOf p.b x.1) (λ x. exact_product p x.0 x.1) (product_places p)

-- The range of a product in units of the output's last place passes 128 bits only where it is shifted up. The output has then
-- so many bits more than the plain product.
pub record IsProductWidth (p : Product) : Type 0 where
  pub plain : width_of (product_reach p) ≤ p.a.width + p.b.width
  pub not_up : product_shift p ≤ℤ pos 0 → ((product_places p).below ≤ 2 ^ 96) × ((product_places p).above ≤ 2 ^ 96)
  pub shifted_up : pos 0 ≤ℤ product_shift p → (product_format p).width ≡ width_of (product_reach p) + places_up (product_shift p)

abbrev pub ProductsHaveWidth : Type 0
ProductsHaveWidth = (p : Product) → IsProduct p → IsProductWidth p
