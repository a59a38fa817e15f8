-- Good outputs of a specification depend on the inputs of the last cycle and of the operator's memory before it.
use Rattle.std.proofs.Common.{◌≡◌, ℕ, ◌-◌, ◌≤◌, Bool, true, false, length, Option, None, Some, refl, ap, ap₂, subst, arith}
use Rattle.std.specs.Prelude.{ℤ, pos, ◌*ℤ◌}
use Rattle.std.specs.Option.{option_map}
use Rattle.std.proofs.Math.Path.{fun_ext}
use Rattle.opgen_num.specs.declared.format.Ratio.{Ratio}
use Rattle.opgen_kinds.specs.declared.pair.Pair.{Pair}
use Rattle.opgen_kinds.specs.declared.sum.Sum.{Sum}
use Rattle.opgen_kinds.specs.Pair.{exact_quotient, quotient_value}
use Rattle.opgen_kinds.specs.Poly.{exact_poly}
use Rattle.opgen_kinds.specs.Product.{exact_product}
use Rattle.opgen_kinds.specs.Sum.{exact_sum, sum_shift}
use Rattle.opgen_kinds.specs.Taps.{direct}
use Rattle.opgen_operator.specs.declared.operator.Operator.{Operator}
use Rattle.opgen_operator.specs.declared.operator.Operator.TheVariants.{Scale, Fir, Multiply, Divide, Root, Mcm, Constdiv, Poly, Tfir, Sop}
use Rattle.opgen_operator.specs.declared.spec.Spec.{Spec}
use Rattle.opgen_operator.specs.Operator.{exact_value, memory, operator_outputs}
use Rattle.opgen_operator.specs.Outputs.{IsGoodBy, IsGoodCut, mode_of, outputs_of}
use Rattle.opgen_operator.proofs.Operators.{outputs_recall}
use Rattle.opgen_ports.specs.Ports.{Recent, format_at}
use Rattle.opgen_ports.specs.Reaches.{down, up}
use Rattle.opgen_ports.proofs.WeightedSums.{weighted-same}
use Rattle.opgen_terms.specs.Sop.{exact_sop}
use Rattle.opgen_laws.specs.Certificates.{GoodOutputsRecall}

sum_recalls : (s : Sum) (x y : Recent) → ((ago : ℕ) → ago ≤ length s.coefs - 1 → x ago ≡ y ago) → exact_sum s x ≡ exact_sum s y
sum_recalls s x y same =
    ap (λ (total : ℤ). record { num = total *ℤ pos (up (sum_shift s)); den = s.den *ℤ pos (down (sum_shift s)) })
    (weighted-same 0 s.coefs x y (λ ago below. same ago (omega (arith, below))))

quotient_same : (exact : Bool) (p : Pair) (inputs others : (port : ℕ) → Recent) → ((port : ℕ) → inputs port 0 ≡ others port 0)
    → option_map (λ value. value inputs) (quotient_value exact p) ≡ option_map (λ value. value others) (quotient_value exact p)
quotient_same true p inputs others same = refl
quotient_same false p inputs others same = ap₂ (λ a b. Some (exact_quotient p a b)) (same 0) (same 1)

-- the exact value is said by the inputs of the last cycle and of the operator's memory before it
value_recalls : (op : Operator) (inputs others : (port : ℕ) → Recent)
    → ((port ago : ℕ) → ago ≤ memory op → inputs port ago ≡ others port ago) → exact_value op inputs ≡ exact_value op others
value_recalls (Scale s) inputs others same = ap Some (sum_recalls s (inputs 0) (others 0) (same 0))
value_recalls (Fir s) inputs others same = ap Some (sum_recalls s (inputs 0) (others 0) (same 0))
value_recalls (Multiply p) inputs others same = ap₂ (λ a b. Some (exact_product p a b)) (same 0 0 (omega arith)) (same 1 0 (omega arith))
value_recalls (Divide p) inputs others same = quotient_same p.exact p inputs others (λ port. same port 0 (omega arith))
value_recalls (Root r) inputs others same = refl
value_recalls (Mcm m) inputs others same = refl
value_recalls (Constdiv c) inputs others same = refl
value_recalls (Poly p) inputs others same = ap (λ x. Some (exact_poly p x)) (same 0 0 (omega arith))
value_recalls (Tfir f) inputs others same = ap Some (sum_recalls (direct f) (inputs 0) (others 0) (same 0))
value_recalls (Sop s) inputs others same =
    ap (λ (x : ℕ → ℤ). Some (exact_sop s x)) (fun_ext (λ input. same input 0 (omega arith)))

-- and so are good outputs, also those of a chosen width
good_recalls : (spec : Spec) (width : Option ℕ) (inputs others : (port : ℕ) → Recent) (outputs : (port : ℕ) → ℤ)
    → ((port ago : ℕ) → ago ≤ memory spec.op → inputs port ago ≡ others port ago)
    → IsGoodBy width spec inputs outputs → IsGoodBy width spec others outputs
good_recalls spec None inputs others outputs same good = outputs_recall spec.op (mode_of spec) inputs others outputs same good
good_recalls spec (Some width) inputs others outputs same good =
    subst (λ (value : Option Ratio). IsGoodCut spec.overflow (mode_of spec) (format_at (operator_outputs spec.op) 0)
    (format_at (outputs_of spec) 0) value (outputs 0)) (value_recalls spec.op inputs others same) good

pub good_outputs_recall : GoodOutputsRecall
good_outputs_recall spec inputs others outputs same good = good_recalls spec spec.out_width inputs others outputs same good
