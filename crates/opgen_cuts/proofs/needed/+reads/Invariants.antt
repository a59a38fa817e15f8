use Rattle.std.proofs.Common.{◌≡◌, drop}
use Rattle.opgen_design.specs.Plain.{plain_all}
use Rattle.opgen_cuts.specs.Needed.{with_operands}
use Rattle.opgen_cuts.proofs.needed.+reads.Given as goal

-- the operands that are left lead to the same marks
abbrev pub invariant-mark_operands-loop-expr : goal.invariant-mark_operands-loop-expr
invariant-mark_operands-loop-expr l =
    with_operands (plain_all (drop l.expr-index l.exprs)) l.marks ≡ with_operands (plain_all l.exprs) l.initial.marks
