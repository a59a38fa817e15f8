use Rattle.std.proofs.Common.{◌+◌, drop, length}
use Rattle.std.specs.Prelude.{All}
use Rattle.opgen_design.specs.Plain.{plain, plain_all}
use Rattle.opgen_design.specs.Value.{width}
use Rattle.opgen_machine.specs.Layout.{spots_of}
use Rattle.opgen_machine.specs.Programs.{AreSpots, widths_of}
use Rattle.opgen_machine.specs.Emit.{Chained, IsNarrow}
use Rattle.opgen_machine.proofs.expression.+emit.Given as goal

abbrev pub invariant-emit_chain-loop-operand : goal.invariant-emit_chain-loop-operand
invariant-emit_chain-loop-operand l =
    record {
      chained : Chained l.base (spots_of l.spots) l.op (plain_all l.operands) l.fn.steps.items
          l.steps.items l.spot (plain_all (drop l.operand-index l.rest));
      narrow : All (λ e. IsNarrow (width (widths_of l.spots.signals.items) (widths_of l.spots.ports.items) (plain e))) l.rest;
      are : AreSpots (l.base + length l.steps.items) (spots_of l.spots);
    }
