-- The kinds with one output whose width may be chosen: its port, its exact value, and when it is good.
use Rattle.std.proofs.Common.{◌≡◌, ◌↔◌, ◌≤◌, ◌==◌, if◌then◌else◌, Bool, true, false, Some, [], ◌∷◌, sym, ap, subst, ◌∙◌, arith}
use Rattle.std.proofs.lemmas.Bool.{eqb-true, false_from_ne_true}
use Rattle.std.specs.Prelude.{ℕ, ℤ, codes, All, IsTrue, Option}
use Rattle.opgen_num.specs.declared.format.Format.{Format}
use Rattle.opgen_num.specs.declared.format.Ratio.{Ratio}
use Rattle.opgen_num.specs.declared.format.TheConstants.{MAX_WIDTH}
use Rattle.opgen_num.specs.declared.mode.Mode.{Mode}
use Rattle.opgen_num.specs.declared.mode.Overflow.{Overflow}
use Rattle.opgen_num.specs.Formats.{IsWidthOf}
use Rattle.opgen_operator.specs.declared.operator.Operator.{Operator}
use Rattle.opgen_operator.specs.Operator.{operator_outputs, IsAccepted, may_be_cut}
use Rattle.std.specs.Option.{unwrap_or}
use Rattle.opgen_operator.specs.declared.spec.Spec.{Spec}
use Rattle.opgen_operator.specs.Outputs.{outputs_of, chosen, chosen_ports, IsGoodCut}
use Rattle.opgen_operator.specs.Valid.{IsChoice, IsValidSpec}
use Rattle.opgen_ports.specs.Good.{IsGoodChosen}
use Rattle.opgen_ports.specs.Limits.{most_signal}
use Rattle.opgen_ports.proofs.InputPorts.{all_one}
use Rattle.opgen_operator.proofs.Accepted.{accepted_ranges, accepted_wide}
use Rattle.opgen_ports.specs.Ports.{format_at, port, HasWidth}
use Rattle.opgen_operator.proofs.Operators.{only_output, fewest}

-- the output has the width of a signal
pub plain_width : (op : Operator) → IsAccepted op → may_be_cut op ≡ true
    → IsWidthOf (format_at (operator_outputs op) 0).signed (format_at (operator_outputs op) 0).width
plain_width op is h =
    let wide : All (HasWidth MAX_WIDTH) (port (codes "y") (format_at (operator_outputs op) 0) ∷ []) =
    subst (All (HasWidth MAX_WIDTH)) (only_output op h) (accepted_wide op is) in
    (fewest op (accepted_ranges op is) h, (wide 0 (port (codes "y") (format_at (operator_outputs op) 0)) (omega arith)).1)

-- since version 3 signals have 96 bits at most
late_limit : (version : ℕ) → 3 ≤ version → most_signal version ≡ 96
late_limit version late =
    let other : (version == 1) ≡ false = false_from_ne_true (version == 1) (λ e. omega (arith, late, eqb-true version 1 e)) in
    ap (λ (b : Bool). if b then 64 else 96) other

-- the output of the width that is chosen
module _ (spec : Spec) (valid : IsValidSpec spec) (width : ℕ) (is : spec.out_width ≡ Some width) where
  pub choice : IsChoice spec.version spec.op (Some width) spec.out_signed
  choice = subst (λ w. IsChoice spec.version spec.op w spec.out_signed) is valid.output

  by_choice : outputs_of spec ≡ port (codes "y") (chosen width spec.out_signed (format_at (operator_outputs spec.op) 0)) ∷ []
  by_choice = ap (λ w. chosen_ports w spec.out_signed (operator_outputs spec.op)) is
      ∙ ap (chosen_ports (Some width) spec.out_signed) (only_output spec.op choice.1)

  pub to_is : format_at (outputs_of spec) 0 ≡ chosen width spec.out_signed (format_at (operator_outputs spec.op) 0)
  to_is = ap (λ ports. format_at ports 0) by_choice

  pub outputs_are : outputs_of spec ≡ port (codes "y") (format_at (outputs_of spec) 0) ∷ []
  outputs_are = by_choice ∙ ap (λ f. port (codes "y") f ∷ []) (sym to_is)

  pub chosen_width : (signed : Bool) → IsWidthOf signed width
  chosen_width true = (choice.2, choice.3)
  chosen_width false = (omega (arith, choice.2), choice.3)

  pub to_width : IsWidthOf (format_at (outputs_of spec) 0).signed (format_at (outputs_of spec) 0).width
  to_width = subst (λ f. IsWidthOf f.signed f.width) (sym to_is)
      (chosen_width (unwrap_or spec.out_signed (format_at (operator_outputs spec.op) 0).signed))

  pub chosen_wide : All (HasWidth (most_signal spec.version)) (outputs_of spec)
  chosen_wide =
      let far : most_signal spec.version ≡ 96 = late_limit spec.version choice.0 in
      subst (All (HasWidth (most_signal spec.version))) (sym by_choice)
      (all_one (HasWidth (most_signal spec.version)) _ (omega (arith, choice.2), omega (arith, choice.3, far)))

-- what is judged of a value is judged of the same value
pub cut-along : (b : Bool) (over over' : Overflow) (mode : Mode) (own to : Format) (value : Ratio) (exact : Option Ratio) (y y' : ℤ)
    → over ≡ over' → Some value ≡ exact → y ≡ y' → (IsTrue b ↔ IsGoodChosen over mode own to value.num value.den y)
    → IsTrue b ↔ IsGoodCut over' mode own to exact y'
cut-along b over over' mode own to value exact y y' same is out good =
    let cut : IsTrue b ↔ IsGoodCut over mode own to (Some value) y' =
    subst (λ out. IsTrue b ↔ IsGoodCut over mode own to (Some value) out) out good in
    let chosen : IsTrue b ↔ IsGoodCut over' mode own to (Some value) y' =
    subst (λ over. IsTrue b ↔ IsGoodCut over mode own to (Some value) y') same cut in
    subst (λ exact. IsTrue b ↔ IsGoodCut over' mode own to exact y') is chosen
