use Rattle.std.proofs.Common.{sym, ap, ◌∙◌}
use Rattle.opgen_streams.specs.Streams.{bit_in}
use Rattle.opgen_streams.proofs.WordByWord.{ones-bit, zeros-bit}
use Rattle.opgen_streams.proofs.gates.splat.Goals as goal
use Rattle.opgen_streams.proofs.gates.splat.Goals.{then-bit, else-bit}

pub returns : goal.returns
returns c = elim c.if-bit.branch [
  | then-bit w ↦ λ k h. ap (λ v. bit_in v k) w.result-is ∙ ones-bit k h ∙ sym w.if-bit.true
  | else-bit w ↦ λ k h. ap (λ v. bit_in v k) w.result-is ∙ zeros-bit k h ∙ sym w.if-bit.false
]
