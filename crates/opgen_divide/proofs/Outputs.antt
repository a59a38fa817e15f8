-- The words of the outputs of a valid net have the widths of its outputs, and a word is settled by its width and its number.
use Rattle.std.proofs.Common.{◌≡◌, ℕ, List, [], ◌∷◌, length, map, refl, sym, ap, ◌∙◌, arith}
use Rattle.std.specs.Prelude.{ℤ, All, slice_index}
use Rattle.std.proofs.lemmas.List.Elements.{All-head, All-tail}
use Rattle.opgen_design.specs.Run.{AreWords}
use Rattle.opgen_design.specs.Value.{word_at}
use Rattle.opgen_design.proofs.WidthLaws.{length-cut}
use Rattle.opgen_net.specs.declared.net.Net.{Net}
use Rattle.opgen_net.specs.declared.net.Output.{Output}
use Rattle.opgen_net.specs.Flow.{Inputs, flow, slice_flow}
use Rattle.opgen_net.specs.Valid.{IsValid, LiesWithin, input_widths, slice_width, widths}
use Rattle.opgen_net.proofs.FlowWidths.{flow-width}
use Rattle.opgen_net.proofs.InputLaws.{width-at}
use Rattle.opgen_digits.proofs.Results.{shown, result_words}

module _ (net : Net) (valid : IsValid net) (inputs : Inputs) (t : ℤ) (words : All (AreWords (input_widths net)) inputs) where
  slices-wide : (os : List Output) → All (λ o. LiesWithin (widths net.nodes) o.from) os
      → map length (map (λ o. slice_flow net.nodes inputs o.from t) os) ≡ map (λ (i : List ℕ × ℕ). i.1) (map shown os)
  slices-wide [] lie = refl
  slices-wide (o ∷ os) lie =
      let lies = All-head (λ (p : Output). LiesWithin (widths net.nodes) p.from) o os lie in
      let long = flow-width net valid inputs words o.from.node t in
      let first : length (slice_flow net.nodes inputs o.from t) ≡ slice_width o.from =
      length-cut o.from.high o.from.low (flow net.nodes inputs o.from.node t) lies.0 (omega (arith, long, lies.1)) in
      ap (λ n. n ∷ map length (map (λ o. slice_flow net.nodes inputs o.from t) os)) first
      ∙ ap (λ ns. slice_width o.from ∷ ns) (slices-wide os (All-tail (λ (p : Output). LiesWithin (widths net.nodes) p.from) o os lie))

  pub output-wide : (ports : List (List ℕ × ℕ)) → map shown net.outputs ≡ ports → (k : ℕ)
      → length (word_at (result_words net inputs t) k) ≡ slice_index (map (λ (i : List ℕ × ℕ). i.1) ports) k
  output-wide ports e k =
      sym (width-at (result_words net inputs t) k)
      ∙ ap (λ ns. slice_index ns k) (slices-wide net.outputs valid.outputs)
      ∙ ap (λ is. slice_index (map (λ (i : List ℕ × ℕ). i.1) is) k) e
