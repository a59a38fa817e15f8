use Rattle.std.proofs.Common.{sym}
use Rattle.opgen_design.specs.Sound.{signal_widths, port_widths}
use Rattle.opgen_design.proofs.UseLaws.{short-chain}
use Rattle.opgen_design.proofs.+width.Goals as goal

pub width::chain_width-returns-in-empty : goal.width::chain_width-returns-in-empty
width::chain_width-returns-in-empty t c =
    sym (short-chain (signal_widths c.args.design.now) (port_widths c.args.design.now) c.args.op c.args.operands.now c.in-empty.len_below)
