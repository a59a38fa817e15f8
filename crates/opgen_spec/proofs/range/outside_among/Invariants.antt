use Rattle.std.proofs.Common.{◌≡◌, map, drop}
use Rattle.toml.specs.View.{table_view}
use Rattle.opgen_spec.specs.Faults.{first_of, out_of_range, found, outside_among}
use Rattle.opgen_spec.proofs.range.outside_among.Given as goal

abbrev pub invariant-keys : goal.invariant-keys
invariant-keys l =
    first_of (map (λ k. out_of_range l.line k (found (table_view l.document) l.line (table_view l.table) k)) (drop l.key-index l.keys))
    ≡ outside_among l.keys (table_view l.document) l.line (table_view l.table)
