use Rattle.std.proofs.Common.{◌≡◌, ap, subst, length, map, arith}
use Rattle.opgen_operator.specs.Operator.{divisor}
use Rattle.opgen_operator.specs.Outputs.{inputs_of}
use Rattle.opgen_operator.proofs.Operators.{some_input}
use Rattle.opgen_num.specs.Words.{AreRowsOfCells}
use Rattle.opgen_vec.proofs.Draws.{cycle_more, all_drawn, whole, rows_fit, rows_counted}
use Rattle.opgen_vec.proofs.draw.stimulus.Goals as goal

pub cycles-preserved : goal.cycles-preserved
cycles-preserved c =
    let cells = rw (c.deref.ensures.value, c.in_ok-ports.ensures, c.divisor-divisor.ensures) at c.in_ok-state.ensures.cells in
    let state = rw (c.deref.ensures.value, c.in_ok-ports.ensures) at c.in_ok-state.ensures.state in
    cycle_more (divisor c.args.spec.now.op) (inputs_of c.args.spec.now) _ _ _ _ _ _ c.cycles.invariant c.cycles-test.true cells state

pub invariant_of-result : goal.invariant_of-result
invariant_of-result c =
    let all = all_drawn (divisor c.args.spec.now.op) (inputs_of c.args.spec.now) c.cycles.cells.items c.args.cycles c.args.seed c.cycles.left
    c.cycles.state c.cycles.invariant c.cycles-test.false in
    let columns : c.len.result ≡ length (inputs_of c.args.spec.now) = omega (
      arith,
      c.len.ensures,
      c.in_ok-ports.ports.ok.0,
      ap length c.in_ok-ports.ensures,
    ) in
    record {
      whole = whole (divisor c.args.spec.now.op) (inputs_of c.args.spec.now) c.args.cycles c.args.seed c.len.result c.cycles.cells.items
          columns all;
    }

pub returns-clause-fit : goal.returns-clause-fit
returns-clause-fit c =
    let op = c.args.spec.now.op in
    let all = all_drawn (divisor op) (inputs_of c.args.spec.now) c.cycles.cells.items c.args.cycles c.args.seed c.cycles.left c.cycles.state
    c.cycles.invariant c.cycles-test.false in
    subst (AreRowsOfCells (map (λ port. port.format.width) (inputs_of c.args.spec.now)) c.args.cycles) all
    (rows_fit (divisor op) (inputs_of c.args.spec.now) c.args.cycles c.args.seed
    (λ k d below. (c.inputs_are_wide.ensures c.args.spec.now c.requires k d below).0))

pub returns-clause-count : goal.returns-clause-count
returns-clause-count c =
    let op = c.args.spec.now.op in
    let all = all_drawn (divisor op) (inputs_of c.args.spec.now) c.cycles.cells.items c.args.cycles c.args.seed c.cycles.left c.cycles.state
    c.cycles.invariant c.cycles-test.false in
    let columns : c.len.result ≡ length (inputs_of c.args.spec.now) = omega (
      arith,
      c.len.ensures,
      c.in_ok-ports.ports.ok.0,
      ap length c.in_ok-ports.ensures,
    ) in
    rows_counted (divisor op) (inputs_of c.args.spec.now) c.args.cycles c.args.seed c.len.result c.cycles.cells.items columns
    (some_input op c.requires.op.ranges) all
