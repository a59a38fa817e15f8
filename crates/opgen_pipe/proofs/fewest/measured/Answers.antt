use Rattle.std.proofs.Common.{length, sym, ap, ◌∙◌}
use Rattle.std.specs.Prelude.{min}
use Rattle.opgen_net.proofs.FlowLaws.{length-widths}
use Rattle.opgen_pipe.proofs.Fitting.{count-is}
use Rattle.opgen_pipe.proofs.Placings.{bits-are}
use Rattle.opgen_pipe.proofs.fewest.measured.Goals as goal

pub register_bits-requires : goal.register_bits-requires
register_bits-requires c =
    ap length c.deref-2.ensures.value ∙ c.in_ok-copies.ensures.one_each
    ∙ sym (ap length c.requires.widths ∙ length-widths c.args.net.now.nodes)

pub returns-clause-signals : goal.returns-clause-signals
returns-clause-signals c =
    c.signal_count.ensures
    ∙ ap (λ k. min k 18446744073709551615) (count-is c.args.net.now c.args.slots.now c.in_ok-copies.copies.items c.deref.result.now
    c.in_ok-copies.ensures c.deref.ensures.value)

pub returns-clause-bits : goal.returns-clause-bits
returns-clause-bits c =
    let are = c.in_ok-copies.ensures in
    c.register_bits.ensures
    ∙ ap (λ k. min k 18446744073709551615) (bits-are c.args.net.now c.args.slots.now c.args.widths.now c.in_ok-copies.copies.items
    c.deref-2.result.now c.requires.widths are.one_each are.each c.deref-2.ensures.value)
