use Rattle.std.proofs.Common.{◌≡◌, [], ◌∷◌, ◌++◌, map, length, Some, ap, sym, ◌∙◌, arith}
use Rattle.std.proofs.lemmas.List.{map_push}
use Rattle.std.proofs.lemmas.Result.{err_from_is_err_and}
use Rattle.opgen_design.specs.Plain.{plain}
use Rattle.opgen_vhdl.specs.Grammar.{operator}
use Rattle.opgen_vhdl.specs.Reader.{eat, inside}
use Rattle.opgen_vhdl.proofs.Expressions.{factor-shorter, operator_eaten, enough}
use Rattle.opgen_lex.specs.Left.{left}
use Rattle.opgen_read.specs.Names.{names_in, joined}
use Rattle.opgen_read.proofs.Operands.{operands-stop, operands-step, operands-fail, fails_too}
use Rattle.opgen_read.proofs.expression.+expression.Goals as goal

pub further-operands-smaller : goal.further-operands-smaller
further-operands-smaller t c =
    let e : eat (operator c.args.op) (left c.operands.rest) ≡ Some (left c.in-Some.after) = sym c.in-Some.ensures in
    let short = factor-shorter (names_in c.args.scope) c.args.depth (left c.in-Some.after) (plain c.in_ok-operand.operand)
    (left c.in_ok-operand.more) c.in_ok-operand.ensures in
    omega (arith, short, operator_eaten c.args.op (left c.operands.rest) (left c.in-Some.after) e)

pub further-returns : goal.further-returns
further-returns t c =
    rw c.shrink_to_fit.ensures.items (
    sym c.operands.invariant.same ∙ operands-stop (names_in c.args.scope) (inside (names_in c.args.scope) c.args.depth) c.args.op
    (length (left c.operands.rest)) (map plain c.operands.operands.items) (left c.operands.rest) (sym c.in_default.ensures))

pub further-returns-in_err-operand : goal.further-returns-in_err-operand
further-returns-in_err-operand t c =
    let p = err_from_is_err_and c.from_residual.result c.from_residual.ensures.1 in
    let e : eat (operator c.args.op) (left c.operands.rest) ≡ Some (left c.in-Some.after) = sym c.in-Some.ensures in
    let d = operator_eaten c.args.op (left c.operands.rest) (left c.in-Some.after) e in
    rw (p.1, p.2) (fails_too _ _ _ c.in_err-operand.ensures
    (λ h. sym c.operands.invariant.same ∙ operands-fail (names_in c.args.scope) (inside (names_in c.args.scope) c.args.depth) c.args.op
    (length (left c.operands.rest)) (length (left c.in-Some.after)) (map plain c.operands.operands.items) (left c.operands.rest)
    (left c.in-Some.after) d e h))

pub further-operands-preserved : goal.further-operands-preserved
further-operands-preserved t c =
    let names = names_in c.args.scope in
    let e : eat (operator c.args.op) (left c.operands.rest) ≡ Some (left c.in-Some.after) = sym c.in-Some.ensures in
    let d = operator_eaten c.args.op (left c.operands.rest) (left c.in-Some.after) e in
    let short = factor-shorter names c.args.depth (left c.in-Some.after) (plain c.in_ok-operand.operand)
    (left c.in_ok-operand.more) c.in_ok-operand.ensures in
    let fewer = enough names c.args.depth c.args.op (length (left c.in_ok-operand.more)) (length (left c.in-Some.after))
    (left c.in_ok-operand.more) (omega arith) (omega (arith, short)) in
    let step = operands-step names (inside names c.args.depth) c.args.op (length (left c.operands.rest)) (length (left c.in-Some.after))
    (map plain c.operands.operands.items) (left c.operands.rest) (left c.in-Some.after) (plain c.in_ok-operand.operand)
    (left c.in_ok-operand.more) d e c.in_ok-operand.ensures in
    record {
      same = rw (c.in_ok-push.ensures.items, map_push plain c.operands.operands.items (c.in_ok-operand.operand))
          (ap (joined (map plain c.operands.operands.items ++ plain c.in_ok-operand.operand ∷ [])) fewer ∙ sym step
          ∙ c.operands.invariant.same);
    }
