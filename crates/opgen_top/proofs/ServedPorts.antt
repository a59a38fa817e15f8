-- The ports of a design that has those of a specification.
use Rattle.std.proofs.Common.{◌≡◌, ℕ, ◌<◌, false, List, [], ◌∷◌, ◌++◌, length, map, refl, ap, ◌∙◌, arith, length-append}
use Rattle.std.proofs.lemmas.List.{length-map}
use Rattle.opgen_design.specs.declared.design.Design.{Design}
use Rattle.opgen_design.specs.declared.design.Dir.TheVariants.{In, Out}
use Rattle.opgen_design.specs.declared.design.Port.{Port}
use Rattle.opgen_design.specs.Run.{at_ports, is_in, input_widths}
use Rattle.opgen_ports.specs.declared.ports.PortFormat.{PortFormat}
use Rattle.opgen_operator.specs.declared.spec.Spec.{Spec}
use Rattle.opgen_operator.specs.Operator.{IsOperator}
use Rattle.opgen_operator.specs.Outputs.{inputs_of, outputs_of, port_of}
use Rattle.opgen_operator.proofs.Operators.{some_input}
use Rattle.opgen_operator.specs.Serves.{ports_for}

abbrev side : List Port → List ℕ
side ps = at_ports is_in ps (map (λ p. p.width) ps)

inputs_first : (is os : List PortFormat) → side (map (port_of In) is ++ map (port_of Out) os) ≡ map (λ p. p.format.width) is
inputs_first [] [] = refl
inputs_first [] (o ∷ os) = inputs_first [] os
inputs_first (i ∷ is) os = ap (λ ws. i.format.width ∷ ws) (inputs_first is os)

module _ (spec : Spec) (d : Design) (ports : d.ports ≡ ports_for spec false) where
  pub served_widths : input_widths d ≡ map (λ p. p.format.width) (inputs_of spec)
  served_widths = ap side ports ∙ inputs_first (inputs_of spec) (outputs_of spec)

  pub served_columns : length (input_widths d) ≡ length (inputs_of spec)
  served_columns = ap length served_widths ∙ length-map (inputs_of spec) (λ p. p.format.width)

  pub served_port : IsOperator spec.op → 0 < length d.ports
  served_port ranged =
      let is = map (port_of In) (inputs_of spec) in
      let os = map (port_of Out) (outputs_of spec) in
      omega (arith, ap length ports, length-append is os, length-map (inputs_of spec) (port_of In), some_input spec.op ranged)
