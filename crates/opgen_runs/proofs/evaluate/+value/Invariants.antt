use Rattle.std.proofs.Common.{◌≡◌, length, drop}
use Rattle.std.specs.Prelude.{IsSome}
use Rattle.opgen_design.specs.Plain.{plain_all}
use Rattle.opgen_design.specs.Value.{value_on, IsWidth, width_on}
use Rattle.opgen_runs.specs.Fitting.{scope_of, widths_of}
use Rattle.opgen_runs.proofs.evaluate.+value.Given as goal

abbrev pub invariant-chain_value-loop-operand : goal.invariant-chain_value-loop-operand
invariant-chain_value-loop-operand l = record {
  value : value_on (scope_of l.names l.ports) l.op l.word (plain_all (drop l.operand-index l.rest))
      ≡ value_on (scope_of l.names l.ports) l.op l.initial.word (plain_all l.rest);
  fits : IsSome (width_on (widths_of l.names) (widths_of l.ports) l.op (length l.word) (plain_all (drop l.operand-index l.rest)));
  width : IsWidth (length l.word);
}
