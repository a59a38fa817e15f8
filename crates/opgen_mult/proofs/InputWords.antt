-- The factors of a product as nodes of its net, and their words.
use Rattle.std.proofs.Common.{◌≡◌, ℕ, Bool, List, [], ◌∷◌, length, refl, arith}
use Rattle.std.specs.Prelude.{ℤ, All}
use Rattle.std.proofs.lemmas.List.Elements.{All-nil}
use Rattle.opgen_num.specs.declared.format.Format.{Format}
use Rattle.opgen_design.specs.Run.{AreWords}
use Rattle.opgen_design.specs.Value.{IsWidth}
use Rattle.opgen_net.specs.Flow.{Inputs, input_at}
use Rattle.opgen_net.specs.Valid.{IsValid}
use Rattle.opgen_net.proofs.FlowWidths.{flow-width}
use Rattle.opgen_kinds.specs.declared.product.Product.{Product}
use Rattle.opgen_operator.specs.declared.operator.Operator.TheVariants.{Multiply}
use Rattle.opgen_kinds.specs.Product.{IsAcceptedProduct}
use Rattle.opgen_ports.specs.Ranges.{IsInput}
use Rattle.opgen_operator.proofs.Accepted.{accepted_ranges}
use Rattle.opgen_ports.proofs.InputPorts.{input_bit}
use Rattle.opgen_partial.specs.Law.{AreFactors, HasProducts}
use Rattle.opgen_partial.proofs.Laws.{products-law}
use Rattle.opgen_mult.specs.Recipe.{inputs, pairs, products}

pub input-width : (f : Format) → IsInput f → IsWidth f.width
input-width f h = (input_bit f h, omega (arith, h.most))

module _ (p : Product) where
  abbrev pub AreInputs : Inputs → Type 0
  AreInputs ins = All (AreWords (p.a.width ∷ p.b.width ∷ [])) ins

  -- the words of the factors
  abbrev pub first_word : Inputs → ℤ → List Bool
  first_word ins t = input_at ins 0 p.a.width t

  abbrev pub second_word : Inputs → ℤ → List Bool
  second_word ins t = input_at ins 1 p.b.width t

  module _ (accepted : IsAcceptedProduct p) where
    first-is_width : IsWidth p.a.width
    first-is_width = input-width p.a (accepted_ranges (Multiply p) accepted).a

    second-is_width : IsWidth p.b.width
    second-is_width = input-width p.b (accepted_ranges (Multiply p) accepted).b

    inputs-valid : IsValid (inputs p).net
    inputs-valid = record { nodes = (first-is_width, (second-is_width, tt)); inputs = refl; outputs = All-nil _ }

    pub are_factors : (left : ℕ) → AreFactors (pairs p left) (inputs p).net
    are_factors left = record {
      first = record { width = refl; is_width = first-is_width };
      second = record { width = refl; is_width = second-is_width };
    }

    pub first-length : (ins : Inputs) (t : ℤ) → AreInputs ins → length (first_word ins t) ≡ p.a.width
    first-length ins t h = flow-width (inputs p).net inputs-valid ins h 0 t

    pub second-length : (ins : Inputs) (t : ℤ) → AreInputs ins → length (second_word ins t) ≡ p.b.width
    second-length ins t h = flow-width (inputs p).net inputs-valid ins h 1 t

    -- all products of bits
    pub products-are : (left : ℕ) → HasProducts (pairs p left) (inputs p) (products p left)
    products-are left = products-law (pairs p left) (inputs p) inputs-valid (are_factors left) (All-nil _)
