use Rattle.std.proofs.Common.{◌≡◌, ◌-◌, ◌++◌, drop}
use Rattle.opgen_num.specs.Words.{word}
use Rattle.opgen_compress.specs.Recipe.{with_ones, all_columns}
use Rattle.opgen_compress.proofs.tree.columns_of.Given as goal

abbrev pub invariant-columns : goal.invariant-columns
invariant-columns l = l.all.items ++ with_ones (word (l.heap.width - l.place) l.left) (drop l.place l.heap.columns) ≡ all_columns l.heap
