use Rattle.opgen_lanes.proofs.Bits.{laid}
use Rattle.opgen_lanes.proofs.words.join.Goals as goal

pub returns-clause-word : goal.returns-clause-word
returns-clause-word c = λ k h. laid c.args.first.now c.args.second.now c.copy_within.new.self c.copy_from_slice.new.self c.args.width
    c.requires.room c.copy_within.ensures.after c.copy_from_slice.ensures.after k
