-- Sums of two nodes, as the nets of the tests have them.
use Rattle.std.specs.Prelude.{ℕ}
use Rattle.opgen_design.specs.declared.expr.Op.TheVariants.{Plus}
use Rattle.opgen_design.specs.Tree.{Tree, chain, more, name, none}

-- the sum of two nodes, as an expression
abbrev pub sum_of : (first second : ℕ) → Tree
sum_of first second = chain Plus (more (name first) (more (name second) none))
