use Rattle.std.proofs.Common.{◌≡◌, ◌+◌, drop}
use Rattle.toml.specs.View.{items_view, table_view}
use Rattle.opgen_spec.specs.Faults.{among_lines}
use Rattle.opgen_spec.proofs.lines.among_lines.Given as goal

abbrev pub invariant-lines : goal.invariant-lines
invariant-lines l =
    among_lines l.check l.keys (table_view l.document) (l.place + 1) (items_view (drop l.place l.items))
    ≡ among_lines l.check l.keys (table_view l.document) 1 (items_view l.items)
