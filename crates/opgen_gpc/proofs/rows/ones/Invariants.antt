use Rattle.std.proofs.Common.{◌≡◌, ◌+◌, ◌-◌, ◌≤◌}
use Rattle.opgen_num.specs.Words.{word}
use Rattle.opgen_gpc.specs.Recipe.{ones_of}
use Rattle.opgen_gpc.proofs.rows.ones.Given as goal

abbrev pub invariant-bits : goal.invariant-bits
invariant-bits l = (l.ones + ones_of (word (6 - l._bit) l.left) ≡ ones_of (word 6 l.address)) × (l.ones ≤ l._bit)
