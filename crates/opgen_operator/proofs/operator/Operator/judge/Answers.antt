use Rattle.std.proofs.Common.{◌≡◌, subst}
use Rattle.opgen_ports.specs.Meaning.{IsCycleJudged}
use Rattle.opgen_ports.specs.Modes.{mode_of_exact}
use Rattle.opgen_kinds.specs.Pair.{pair_meaning}
use Rattle.opgen_kinds.specs.Single.{single_meaning}
use Rattle.opgen_kinds.specs.SmallDiv.{small_meaning}
use Rattle.opgen_kinds.proofs.of_kind.Sum.{multiple_accepted}
use Rattle.opgen_operator.proofs.operator.Operator.judge.Goals as goal

pub judge-requires-clause-accepted : goal.judge-requires-clause-accepted
judge-requires-clause-accepted c = multiple_accepted c.in-Scale.sum (rw c.in-Scale.is at c.requires.accepted)

pub returns-in-Scale : goal.returns-in-Scale
returns-in-Scale c =
    let good = c.judge.ensures in
    rw c.in-Scale.is (record { in_range = good.in_range; out_of_range = good.out_of_range })

pub returns-in-Fir : goal.returns-in-Fir
returns-in-Fir c = rw c.in-Fir.is c.judge-in-Fir.ensures

pub returns-in-Multiply : goal.returns-in-Multiply
returns-in-Multiply c = rw c.in-Multiply.is c.judge-in-Multiply.ensures

pub returns-in-Divide : goal.returns-in-Divide
returns-in-Divide c =
    let mark : mode_of_exact c.in-Divide.pair.exact ≡ c.args.mode = rw c.in-Divide.is at c.requires.mode.agrees in
    rw c.in-Divide.is (subst (λ mode. IsCycleJudged (pair_meaning c.in-Divide.pair) mode c.args.history.now c.args.outputs.now c.judge-in-Divide.result) mark c.judge-in-Divide.ensures)

pub returns-in-Root : goal.returns-in-Root
returns-in-Root c =
    let mark : mode_of_exact c.in-Root.single.exact ≡ c.args.mode = rw c.in-Root.is at c.requires.mode.agrees in
    rw c.in-Root.is (subst (λ mode. IsCycleJudged (single_meaning c.in-Root.single) mode c.args.history.now c.args.outputs.now c.judge-in-Root.result) mark c.judge-in-Root.ensures)

pub returns-in-Mcm : goal.returns-in-Mcm
returns-in-Mcm c = rw c.in-Mcm.is c.judge-in-Mcm.ensures

pub returns-in-Constdiv : goal.returns-in-Constdiv
returns-in-Constdiv c =
    let mark : mode_of_exact c.in-Constdiv.small.exact ≡ c.args.mode = rw c.in-Constdiv.is at c.requires.mode.agrees in
    rw c.in-Constdiv.is (subst (λ mode. IsCycleJudged (small_meaning c.in-Constdiv.small) mode c.args.history.now c.args.outputs.now c.judge-in-Constdiv.result) mark c.judge-in-Constdiv.ensures)

pub returns-in-Poly : goal.returns-in-Poly
returns-in-Poly c = rw c.in-Poly.is c.judge-in-Poly.ensures

pub returns-in-Tfir : goal.returns-in-Tfir
returns-in-Tfir c = rw c.in-Tfir.is c.judge-in-Tfir.ensures
