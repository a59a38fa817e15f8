use Rattle.std.proofs.Common.{◌≡◌, drop}
use Rattle.opgen_gpc.specs.Recipe.{with_column}
use Rattle.opgen_gpc.proofs.columns.keep.Given as goal

abbrev pub invariant-bits : goal.invariant-bits
invariant-bits l = with_column l.kept l.column (drop l.bit-index l.bits) ≡ with_column l.initial.kept l.column l.bits
