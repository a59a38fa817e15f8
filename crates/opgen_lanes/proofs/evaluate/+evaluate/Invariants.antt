use Rattle.std.proofs.Common.{ℕ, ◌≡◌, ◌<◌, take, drop}
use Rattle.std.specs.Prelude.{IsSome}
use Rattle.opgen_design.specs.Plain.{plain_all}
use Rattle.opgen_design.specs.Run.{scope}
use Rattle.opgen_design.specs.Value.{chain_value, value_on, IsWidth, chain_width, width_on}
use Rattle.opgen_streams.specs.Streams.{streams, word_in}
use Rattle.opgen_lanes.specs.Banks.{stream_words, widths_of}
use Rattle.opgen_lanes.proofs.evaluate.+evaluate.Given as goal

abbrev pub invariant-evaluate_chain-loop-operand : goal.invariant-evaluate_chain-loop-operand
invariant-evaluate_chain-loop-operand l = record {
  value : (k : ℕ) → k < streams
      → value_on (scope (stream_words l.signals l.ports k)) l.op (word_in (take l.width l.out) k) (plain_all (drop l.operand-index l.rest))
      ≡ chain_value (scope (stream_words l.signals l.ports k)) l.op (plain_all l.operands);
  fits : IsSome (width_on (widths_of l.signals) (widths_of l.ports) l.op l.width (plain_all (drop l.operand-index l.rest)));
  whole : width_on (widths_of l.signals) (widths_of l.ports) l.op l.width (plain_all (drop l.operand-index l.rest))
      ≡ chain_width (widths_of l.signals) (widths_of l.ports) l.op (plain_all l.operands);
  width : IsWidth l.width;
}
