use Rattle.std.proofs.Common.{◌≡◌, ◌+◌, ◌*◌, map, length}
use Rattle.opgen_design.specs.Plain.{plain}
use Rattle.opgen_vhdl.specs.Reader.{operands_at, inside}
use Rattle.opgen_lex.specs.Left.{left}
use Rattle.opgen_read.specs.Names.{names_in, joined}
use Rattle.opgen_read.proofs.expression.+expression.Given as goal

abbrev pub decreases-expression : goal.decreases-expression
decreases-expression l = 5 * l.depth + 4

abbrev pub decreases-further : goal.decreases-further
decreases-further l = 5 * l.depth + 3

abbrev pub decreases-factor : goal.decreases-factor
decreases-factor l = 5 * l.depth + 2

abbrev pub decreases-primary : goal.decreases-primary
decreases-primary l = 5 * l.depth + 1

abbrev pub decreases-group : goal.decreases-group
decreases-group l = 5 * l.depth

abbrev pub invariant-further-operands : goal.invariant-further-operands
invariant-further-operands l = record {
  same : joined (map plain l.operands.items) (operands_at (names_in l.scope) (inside (names_in l.scope) l.depth) (length (left l.rest)) l.op
      (left l.rest)) ≡ joined (map plain l.fn.operands.items)
      (operands_at (names_in l.scope) (inside (names_in l.scope) l.depth) (length (left l.fn.rest)) l.op (left l.fn.rest));
}

abbrev pub decreases-further-operands : goal.decreases-further-operands
decreases-further-operands l = length (left l.rest)
