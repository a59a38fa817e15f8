use Rattle.std.proofs.Common.{◌≡◌, ◌<◌, ◌^◌, drop}
use Rattle.std.specs.Prelude.{max}
use Rattle.opgen_compress.specs.Recipe.{fullest}
use Rattle.opgen_compress.proofs.passes.fullest.Given as goal

abbrev pub invariant-loop-column : goal.invariant-loop-column
invariant-loop-column l = (l.most < 2 ^ 63) × (max l.most (fullest (drop l.column-index l.columns)) ≡ fullest l.columns)
