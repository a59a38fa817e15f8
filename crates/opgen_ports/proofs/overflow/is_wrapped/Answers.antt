use Rattle.std.proofs.Common.{◌≡◌, ◌∙◌, FitsSigned, rules, sym}
use Rattle.std.specs.Int.{w128}
use Rattle.std.specs.Prelude.{◌↔◌, IsTrue}
use Rattle.std.proofs.lemmas.Bool.{true≢false}
use Rattle.std.proofs.lemmas.Int.{to_z-of_z}
use Rattle.opgen_num.specs.Rounding.{IsGoodLinear}
use Rattle.opgen_ports.specs.Good.{saturated, IsTurned}
use Rattle.opgen_ports.proofs.overflow.is_wrapped.Goals.{then-good_linear, else-good_linear}
use Rattle.opgen_ports.proofs.overflow.is_wrapped.Goals as goal

pub returns-then-is_held : goal.returns-then-is_held
returns-then-is_held c =
    let fits_num : FitsSigned w128 c.args.value.num = search rules in
    let fits_den : FitsSigned w128 c.args.value.den = search rules in
    let fits_whole : FitsSigned w128 c.args.whole = search rules in
    let fits_y : FitsSigned w128 c.args.y = search rules in
    let judged : IsTrue c.good_linear.result ↔ IsGoodLinear c.args.value.num c.args.value.den c.args.whole c.args.mode =
    simp to_z-of_z at c.good_linear.ensures in
    let turned : IsTrue c.is_turned.result ↔ IsTurned c.args.to.width c.args.whole c.args.y = simp to_z-of_z at c.is_turned.ensures in
    let (good, held) : IsGoodLinear c.args.value.num c.args.value.den c.args.whole c.args.mode × saturated c.args.own c.args.whole ≡ c.args.whole =
    elim c.if-good_linear.branch [
      | then-good_linear w ↦
          let held : IsTrue w.is_held.result ↔ saturated c.args.own c.args.whole ≡ c.args.whole = simp to_z-of_z at w.is_held.ensures in
          (judged.0 w.if-good_linear.true, held.0 (sym w.value-is ∙ c.if-is_held.true))
      | else-good_linear w ↦ absurd (true≢false (sym c.if-is_held.true ∙ w.value-is ∙ w.if-good_linear.false))
    ] in
    (λ t. (good, held, turned.0 t), λ g. turned.1 (g.2))

pub returns-else-is_held : goal.returns-else-is_held
returns-else-is_held c =
    let fits_num : FitsSigned w128 c.args.value.num = search rules in
    let fits_den : FitsSigned w128 c.args.value.den = search rules in
    let fits_whole : FitsSigned w128 c.args.whole = search rules in
    let judged : IsTrue c.good_linear.result ↔ IsGoodLinear c.args.value.num c.args.value.den c.args.whole c.args.mode =
    simp to_z-of_z at c.good_linear.ensures in (
      λ t. absurd (true≢false (sym t ∙ c.if-is_held.false)),
      λ g. elim c.if-good_linear.branch [
        | then-good_linear w ↦
            let held : IsTrue w.is_held.result ↔ saturated c.args.own c.args.whole ≡ c.args.whole = simp to_z-of_z at w.is_held.ensures in
            w.value-is ∙ held.1 (g.1)
        | else-good_linear w ↦ absurd (true≢false (sym (judged.1 (g.0)) ∙ w.if-good_linear.false))
      ],
    )
