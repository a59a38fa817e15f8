use Rattle.std.proofs.Common.{◌≡◌, ◌++◌, drop, string_bytes}
use Rattle.std.specs.List.{flat_map}
use Rattle.opgen_vhdl.specs.DesignText.{row_text}
use Rattle.opgen_write.proofs.statement.put_rows.Given as goal

abbrev pub invariant-rows : goal.invariant-rows
invariant-rows l =
    string_bytes l.out ++ flat_map row_text (drop l.row-index l.rows)
    ≡ string_bytes l.initial.out ++ flat_map row_text l.rows
