use Rattle.std.proofs.Common.{◌≡◌, ◌++◌, drop}
use Rattle.opgen_design.specs.Plain.{plain_all}
use Rattle.opgen_cuts.specs.Wires.{operand_bits}
use Rattle.opgen_cuts.proofs.wires.+wire.Given as goal

-- the operands that are left come last
abbrev pub invariant-push_operands-loop-expr : goal.invariant-push_operands-loop-expr
invariant-push_operands-loop-expr l =
    l.bits ++ operand_bits l.given (plain_all (drop l.expr-index l.exprs)) ≡ l.initial.bits ++ operand_bits l.given (plain_all l.exprs)
