-- The ports of a net that fits a specification can stand in a design: x, or a and b, or names that the document gives; then y,
-- or q or y and r, or y0 to y7.
use Rattle.std.proofs.Common.{◌≡◌, ℕ, Bool, Option, Some, None, List, ◌++◌, length, map, refl, sym, ap, subst, ◌∙◌, arith}
use Rattle.std.proofs.lemmas.List.{length-map}
use Rattle.std.proofs.lemmas.Simd.{map-map}
use Rattle.opgen_net.specs.declared.net.Output.{Output}
use Rattle.opgen_net.specs.Named.{port_names}
use Rattle.opgen_net.specs.Valid.{slice_width}
use Rattle.opgen_operator.specs.Fits.{name_and_width}
use Rattle.opgen_operator.specs.Operator.{operator_outputs}
use Rattle.opgen_operator.specs.Outputs.{inputs_of, outputs_of, chosen, chosen_ports}
use Rattle.opgen_operator.specs.PortNames.{FittingNetsAreNamed}
use Rattle.opgen_ports.specs.declared.ports.PortFormat.{PortFormat}
use Rattle.opgen_ports.specs.Ports.{port}
use Rattle.opgen_operator.proofs.Named.{AreNamed, names}
use Rattle.opgen_operator.proofs.Operators.{names_fine, some_input}

-- an output of a chosen width has the name of the operator's own
chosen_names : (width : Option ℕ) (sign : Option Bool) (ports : List PortFormat) → names (chosen_ports width sign ports) ≡ names ports
chosen_names None sign ports = refl
chosen_names (Some width) sign ports =
    map-map (λ (p : PortFormat). p.name) (λ (p : PortFormat). port p.name (chosen width sign p.format)) ports

pub fitting_named : FittingNetsAreNamed
fitting_named spec net ranges given fits name is =
    let inputs : map (λ i. i.0) net.inputs ≡ names (inputs_of spec) =
    ap (map (λ i. i.0)) fits.inputs ∙ map-map (λ (i : List ℕ × ℕ). i.0) name_and_width (inputs_of spec) in
    let outputs : map (λ o. o.name) net.outputs ≡ names (outputs_of spec) =
    sym (map-map (λ (i : List ℕ × ℕ). i.0) (λ (o : Output). (o.name, slice_width o.from)) net.outputs) ∙ ap (map (λ i. i.0)) fits.outputs
    ∙ map-map (λ (i : List ℕ × ℕ). i.0) name_and_width (outputs_of spec) in
    let plain : names (outputs_of spec) ≡ names (operator_outputs spec.op) =
    chosen_names spec.out_width spec.out_signed (operator_outputs spec.op) in
    let same : port_names net ≡ names (inputs_of spec) ++ names (operator_outputs spec.op) =
    ap (λ ns. ns ++ map (λ o. o.name) net.outputs) inputs ∙ ap (λ ns. names (inputs_of spec) ++ ns) (outputs ∙ plain) in
    let named : AreNamed (port_names net) = subst AreNamed (sym same) (names_fine spec.op spec.name ranges given) in
    let long = length-map net.inputs (λ i. i.0) in record {
      has_port = omega (arith, long, ap length inputs, length-map (inputs_of spec) (λ p. p.name), some_input spec.op ranges);
      name_allowed = is;
      allowed = named.allowed;
      differ = named.differ;
      free = named.free;
    }
