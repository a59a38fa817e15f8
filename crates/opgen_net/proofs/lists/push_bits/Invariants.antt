use Rattle.std.proofs.Common.{◌≡◌, ◌++◌, ◌≤◌}
use Rattle.opgen_net.specs.WordRule.{bits_from}
use Rattle.opgen_net.proofs.lists.push_bits.Given as goal

-- the bits that are left come last
abbrev pub invariant-bits : goal.invariant-bits
invariant-bits l = record {
  bits : l.bits ++ bits_from l.node l.low l.left ≡ l.fn.bits ++ bits_from l.node l.low l.count;
  few : l.left ≤ l.count;
}

abbrev pub decreases-bits : goal.decreases-bits
decreases-bits l = l.left
