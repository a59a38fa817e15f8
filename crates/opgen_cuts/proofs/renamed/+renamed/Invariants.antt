use Rattle.std.proofs.Common.{◌≡◌, map, take}
use Rattle.opgen_design.specs.Plain.{plain}
use Rattle.opgen_cuts.specs.Renamed.{renamed}
use Rattle.opgen_cuts.proofs.renamed.+renamed.Given as goal

abbrev pub invariant-renamed_all-loop-expr : goal.invariant-renamed_all-loop-expr
invariant-renamed_all-loop-expr l = map plain l.found.items ≡ map (λ e. renamed l.places (plain e)) (take l.expr-index l.exprs)
