use Rattle.std.proofs.Common.{◌≡◌, ◌<◌, length, take, drop, map}
use Rattle.opgen_design.specs.Plain.{plain, plain_all}
use Rattle.opgen_design.specs.Sound.{AllOperandsRead}
use Rattle.opgen_pipe.specs.Counts.{IsAny}
use Rattle.opgen_pipe.specs.Reading.{tree_in}
use Rattle.opgen_pipe.proofs.reading.+tree.Given as goal

abbrev pub invariant-trees_in-loop-expr : goal.invariant-trees_in-loop-expr
invariant-trees_in-loop-expr l = record {
  made : map plain l.trees.items ≡ map (λ e. tree_in l.standings l.cycle (plain e)) (take l.expr-index l.exprs);
  there : AllOperandsRead (λ j. j < length l.standings) IsAny (plain_all (drop l.expr-index l.exprs));
}
