use Rattle.std.proofs.Common.{◌≤◌, length, drop, length-drop, arith}
use Rattle.opgen_net.proofs.WordRuns.{runs-short}
use Rattle.opgen_pieces.proofs.operand.runs_of.Goals as goal

pub put-requires : goal.put-requires
put-requires c =
    let rest = drop c.bits.rest c.args.bits.now in
    let short : length rest ≤ 127 = omega (arith, length-drop c.bits.rest c.args.bits.now, c.requires) in
    rw c.bits.invariant.1 (runs-short rest 127 short)
