use Rattle.std.proofs.Common.{◌≡◌, ◌++◌, ◌≤◌, map}
use Rattle.opgen_design.specs.Plain.{plain}
use Rattle.opgen_saturate.specs.Recipe.{bit_list}
use Rattle.opgen_saturate.proofs.test.bits.Given as goal

-- the bits that are left come last
abbrev pub invariant-bits : goal.invariant-bits
invariant-bits l = record {
  bits : map plain l.found.items ++ bit_list l.node l.low l.left ≡ bit_list l.node l.low l.count;
  few : l.left ≤ l.count;
}

abbrev pub decreases-bits : goal.decreases-bits
decreases-bits l = l.left
