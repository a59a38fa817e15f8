use Rattle.std.proofs.Common.{ap, ◌∙◌, eqb, ◌/◌, ◌^◌, ◌%◌}
use Rattle.opgen_lanes.proofs.Bits.{bit-is}
use Rattle.opgen_lanes.proofs.words.bit_at.Goals as goal

pub returns : goal.returns
returns c = ap (λ n. eqb (n / 2 ^ c.args.place % 2) 1) c.bits.ensures ∙ bit-is c.args.word c.args.place
