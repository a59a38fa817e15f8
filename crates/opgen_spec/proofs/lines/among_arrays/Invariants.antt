use Rattle.std.proofs.Common.{◌≡◌, drop}
use Rattle.toml.specs.View.{table_view}
use Rattle.opgen_document.specs.Keys.{arrays}
use Rattle.opgen_spec.specs.Faults.{among_arrays}
use Rattle.opgen_spec.proofs.lines.among_arrays.Given as goal

abbrev pub invariant-arrays : goal.invariant-arrays
invariant-arrays l =
    among_arrays l.check (table_view l.document) l.before (drop l.array-index l.all)
    ≡ among_arrays l.check (table_view l.document) 0 arrays
