use Rattle.std.proofs.Common.{◌≡◌, take, map}
use Rattle.opgen_design.specs.Plain.{plain}
use Rattle.opgen_design.proofs.+copy.Given as goal

abbrev pub invariant-copy::copy_all-loop-expr : goal.invariant-copy::copy_all-loop-expr
invariant-copy::copy_all-loop-expr l = map plain l.copies.items ≡ map plain (take l.expr-index l.exprs)
