-- The digits, and what is left, as outputs.
use Rattle.std.proofs.Common.{◌≡◌, ℕ, ◌-◌, ◌≤◌, Bool, true, false, List, [], ◌∷◌, ◌++◌, length, map, ap, ◌∙◌, refl, codes}
use Rattle.std.specs.Prelude.{ℤ, All}
use Rattle.opgen_num.specs.Words.{nat}
use Rattle.opgen_design.specs.Run.{AreWords}
use Rattle.opgen_design.specs.Value.{word_at, cut, IsWidth}
use Rattle.opgen_net.specs.declared.net.Net.{Net}
use Rattle.opgen_net.specs.declared.net.Output.{Output}
use Rattle.opgen_net.specs.Delays.{delay_count}
use Rattle.opgen_net.specs.Flow.{Inputs, slice_flow, KeepsFlow}
use Rattle.opgen_net.specs.Valid.{widths, input_widths, slice_width, IsValid}
use Rattle.opgen_net.specs.WordRule.{IsThere}
use Rattle.opgen_net.proofs.Grown.{flow-then}
use Rattle.opgen_net.specs.Placed.{number_at, with_bits, whole, with_output}
use Rattle.opgen_digits.specs.Digit.{Known}
use Rattle.opgen_digits.specs.Results.{AreResults, with_results}
use Rattle.opgen_net.proofs.Numbers.{number-kept}
use Rattle.opgen_net.proofs.Later.{node_there}
use Rattle.opgen_net.proofs.Standing.{whole-width}
use Rattle.opgen_digits.proofs.Outputs.{made-width, output-valid, output-keeps, output-count, output-there, output-number, output-delays}

abbrev pub shown : Output → List ℕ × ℕ
shown o = (o.name, slice_width o.from)

-- the outputs by name and width
abbrev pub result_ports : (exact : Bool) → (name : List ℕ) → (width rest : ℕ) → List (List ℕ × ℕ)
result_ports true name width rest = (name, width) ∷ (codes "r", rest) ∷ []
result_ports false name width rest = (name, width) ∷ []

-- their words at a time
abbrev pub result_words : Net → Inputs → ℤ → List (List Bool)
result_words net inputs t = map (λ o. slice_flow net.nodes inputs o.from t) net.outputs

pub results-inputs : (exact : Bool) (name : List ℕ) (known : Known) → (with_results exact name known).inputs ≡ known.net.inputs
results-inputs true name known = refl
results-inputs false name known = refl

module _ (name : List ℕ) (known : Known) (valid : IsValid known.net) where
  abbrev digit_output : Output
  digit_output = record { name = name; from = whole (length known.digits) (with_bits known.net known.digits).place }

  abbrev rest_output : Output
  rest_output =
      record { name = codes "r"; from = whole (length known.rest) (with_bits (with_output name known.net known.digits) known.rest).place }

  module _ (wide : IsWidth (length known.digits)) (there : All (IsThere (widths known.net.nodes)) known.digits) where
    abbrev one : Net
    one = with_output name known.net known.digits

    one-valid : IsValid one
    one-valid = output-valid known.net valid known.digits wide there name

    one-keeps : KeepsFlow known.net.nodes one.nodes
    one-keeps = output-keeps known.net valid known.digits wide there name

    module _ (rest_wide : IsWidth (length known.rest)) (rest_there : All (IsThere (widths known.net.nodes)) known.rest) where
      abbrev two : Net
      two = with_output (codes "r") one known.rest

      pub still_there : All (IsThere (widths one.nodes)) known.rest
      still_there = output-there known.net valid known.digits wide there name known.rest rest_there

      two-valid : IsValid two
      two-valid = output-valid one one-valid known.rest rest_wide still_there (codes "r")

      two-keeps : KeepsFlow one.nodes two.nodes
      two-keeps = output-keeps one one-valid known.rest rest_wide still_there (codes "r")

      both-keep : KeepsFlow known.net.nodes two.nodes
      both-keep =
          flow-then known.net.nodes one.nodes two.nodes (output-count known.net valid known.digits wide there name) one-keeps two-keeps

  -- the results are outputs of a valid net, whose nodes keep their words
  pub results-valid : (exact : Bool) → AreResults exact known → IsValid (with_results exact name known)
  results-valid true are = two-valid are.width are.digits (are.rest_width refl) are.rest
  results-valid false are = one-valid are.width are.digits

  pub results-keep : (exact : Bool) → AreResults exact known → KeepsFlow known.net.nodes (with_results exact name known).nodes
  results-keep true are = both-keep are.width are.digits (are.rest_width refl) are.rest
  results-keep false are = one-keeps are.width are.digits

  -- and no node more is a delay
  pub results-delays : (exact : Bool) → AreResults exact known
      → delay_count (with_results exact name known).nodes ≡ delay_count known.net.nodes
  results-delays true are =
      let there = still_there are.width are.digits (are.rest_width refl) are.rest in
      output-delays (one are.width are.digits) (one-valid are.width are.digits) known.rest (are.rest_width refl) there (codes "r")
      ∙ output-delays known.net valid known.digits are.width are.digits name
  results-delays false are = output-delays known.net valid known.digits are.width are.digits name

  -- they are the only outputs
  module _ (no_output : known.net.outputs ≡ []) where
    one-outputs : (with_results false name known).outputs ≡ digit_output ∷ []
    one-outputs = ap (λ os. os ++ digit_output ∷ []) no_output

    two-outputs : (with_results true name known).outputs ≡ digit_output ∷ rest_output ∷ []
    two-outputs = ap (λ os. os ++ rest_output ∷ []) one-outputs

    pub results-shown : (exact : Bool) → AreResults exact known
        → map shown (with_results exact name known).outputs ≡ result_ports exact name (length known.digits) (length known.rest)
    results-shown true are =
        ap (map shown) two-outputs
        ∙ ap (λ m. (name, m) ∷ shown rest_output ∷ []) (whole-width (length known.digits) digit_output.from.node are.width.0)
        ∙ ap (λ m. (name, length known.digits) ∷ (codes "r", m) ∷ [])
        (whole-width (length known.rest) rest_output.from.node (are.rest_width refl).0)
    results-shown false are =
        ap (map shown) one-outputs ∙ ap (λ m. (name, m) ∷ []) (whole-width (length known.digits) digit_output.from.node are.width.0)

    module _ (inputs : Inputs) (t : ℤ) (words : All (AreWords (input_widths known.net)) inputs) where
      abbrev in_net : Net → Output → List Bool
      in_net net o = slice_flow net.nodes inputs o.from t

      digits-number : (wide : IsWidth (length known.digits)) (there : All (IsThere (widths known.net.nodes)) known.digits)
          → nat (in_net (with_results false name known) digit_output) ≡ number_at known.net.nodes inputs t known.digits
      digits-number wide there = output-number known.net valid known.digits wide there name inputs t words

      -- the number of each
      pub results-digits : (exact : Bool) → AreResults exact known
          → nat (word_at (result_words (with_results exact name known) inputs t) 0) ≡ number_at known.net.nodes inputs t known.digits
      results-digits true are =
          let place = digit_output.from.node in
          let wide : 1 ≤ length known.digits = are.width.0 in
          let there =
          node_there (with_bits known.net known.digits).net place (length known.digits) wide
          (made-width known.net valid known.digits are.width are.digits) in
          let still = two-keeps are.width are.digits (are.rest_width refl) are.rest inputs place t there in
          ap (λ os. nat (word_at (map (in_net (with_results true name known)) os) 0)) two-outputs
          ∙ ap (λ v. nat (cut (length known.digits - 1) 0 v)) still
          ∙ digits-number are.width are.digits
      results-digits false are =
          ap (λ os. nat (word_at (map (in_net (with_results false name known)) os) 0)) one-outputs ∙ digits-number are.width are.digits

      pub results-rest : AreResults true known
          → nat (word_at (result_words (with_results true name known) inputs t) 1) ≡ number_at known.net.nodes inputs t known.rest
      results-rest are =
          let first = one are.width are.digits in
          let there = still_there are.width are.digits (are.rest_width refl) are.rest in
          ap (λ os. nat (word_at (map (in_net (with_results true name known)) os) 1)) two-outputs
          ∙ output-number first (one-valid are.width are.digits) known.rest (are.rest_width refl) there (codes "r") inputs t words
          ∙ number-kept known.net.nodes first.nodes (one-keeps are.width are.digits) inputs t known.rest are.rest
