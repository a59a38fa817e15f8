use Rattle.std.proofs.Common.{◌≡◌, length, ◌-◌, drop, Contains}
use Rattle.opgen_graph.specs.Placing.{factors}
use Rattle.opgen_graph.specs.Recipe.{multiple_of}
use Rattle.opgen_graph.proofs.multiples.multiple_of.Given as goal

abbrev pub invariant-known : goal.invariant-known
invariant-known l = record {
  left : Contains (factors (drop l.place l.known)) l.factor;
  same : multiple_of (drop l.place l.known) l.factor ≡ multiple_of l.known l.factor;
}

abbrev pub decreases-known : goal.decreases-known
decreases-known l = length l.known - l.place
