use Rattle.std.proofs.Common.{◌≡◌, ◌+◌, map, length, not, string_bytes}
use Rattle.std.specs.BTreeMap.{btree_map_len}
use Rattle.std.specs.List.{position_from}
use Rattle.toml.specs.View.{table_view}
use Rattle.opgen_entries.specs.Stands.{is_known}
use Rattle.opgen_document.specs.Document.{names}
use Rattle.opgen_spec.proofs.form.first_unknown.Given as goal

abbrev pub invariant-names : goal.invariant-names
invariant-names l = record {
  same : position_from (λ name. not (is_known l.keys l.version l.kind name)) l.at (map string_bytes l.name-iterator)
      ≡ position_from (λ name. not (is_known l.keys l.version l.kind name)) 0 (names (table_view l.table));
  count : l.at + length l.name-iterator ≡ btree_map_len l.table;
}
