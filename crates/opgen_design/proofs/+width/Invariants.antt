use Rattle.std.proofs.Common.{◌≡◌, drop}
use Rattle.std.specs.Prelude.{option_and_then}
use Rattle.opgen_design.specs.Plain.{plain_all}
use Rattle.opgen_design.specs.Sound.{signal_widths, port_widths}
use Rattle.opgen_design.specs.Value.{width_on}
use Rattle.opgen_design.proofs.+width.Given as goal

abbrev pub invariant-width::chain_width-loop-operand : goal.invariant-width::chain_width-loop-operand
invariant-width::chain_width-loop-operand l =
    option_and_then (λ w. width_on (signal_widths l.design) (port_widths l.design) l.op w (plain_all (drop l.operand-index l.rest))) l.width
    ≡ option_and_then (λ w. width_on (signal_widths l.design) (port_widths l.design) l.op w (plain_all l.rest)) l.initial.width
