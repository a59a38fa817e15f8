use Rattle.std.proofs.Common.{◌+◌, ◌-◌, take, drop, ap, ◌∙◌}
use Rattle.opgen_lanes.proofs.Bits.{cut-in}
use Rattle.opgen_lanes.proofs.evaluate.part.Goals as goal

pub returns-clause-value : goal.returns-clause-value
returns-clause-value c = λ k h.
    let s = c.args.slice in
    cut-in s.high s.low c.word-word.result.now k ∙ ap (λ w. take (s.high + 1 - s.low) (drop s.low w)) (c.word-word.ensures.word k h)
