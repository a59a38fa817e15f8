use Rattle.std.proofs.Common.{◌≡◌, ◌++◌, drop}
use Rattle.opgen_vec.specs.Rows.{spaced_text}
use Rattle.opgen_vec.proofs.write.put_spaced.Given as goal

abbrev pub invariant-loop-index : goal.invariant-loop-index
invariant-loop-index l = l.fn.out.items ++ spaced_text l.widths l.cells
    ≡ l.out.items ++ spaced_text (drop l.index l.widths) (drop l.index l.cells)
