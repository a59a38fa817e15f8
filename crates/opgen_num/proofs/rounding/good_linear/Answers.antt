use Rattle.std.proofs.Common.{subst, sym}
use Rattle.std.specs.Prelude.{IsTrue, ◌↔◌}
use Rattle.std.proofs.lemmas.Int.{to_z-of_z}
use Rattle.opgen_num.specs.Rounding.{IsGoodLinear}
use Rattle.opgen_num.proofs.rounding.good_linear.Goals as goal

pub returns-in-Nearest : goal.returns-in-Nearest
returns-in-Nearest c =
    let n = c.ranges.n in
    let m = c.ranges.m in
    let y = c.ranges.y in
    let near = simp to_z-of_z at c.is_nearest.ensures in
    subst (λ mode. IsTrue c.is_nearest.result ↔ IsGoodLinear c.args.n c.args.m c.args.y mode) (sym c.in-Nearest.is) near
