use Rattle.std.proofs.Common.{◌≡◌, ◌≤◌, length}
use Rattle.opgen_net.specs.Valid.{IsValid}
use Rattle.test_parts.proofs.long.thousand.Given as goal

abbrev pub invariant-loop : goal.invariant-loop
invariant-loop g l = IsValid l.net × l.net.inputs ≡ l.fn.net.inputs × l.net.outputs ≡ l.fn.net.outputs
    × (length l.fn.net.nodes ≤ length l.net.nodes)
