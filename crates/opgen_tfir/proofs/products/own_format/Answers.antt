use Rattle.std.proofs.Common.{◌≡◌, ◌+◌, FitsSigned, sym, subst, rules, arith}
use Rattle.std.specs.Int.{w32}
use Rattle.opgen_num.specs.declared.format.Format.{Format}
use Rattle.opgen_num.proofs.BitLength.{power_order}
use Rattle.opgen_design.specs.Value.{IsWidth}
use Rattle.opgen_tfir.specs.Recipe.{own_format as own_format_of}
use Rattle.opgen_tfir.proofs.Widths.{own-wide}
use Rattle.opgen_tfir.proofs.products.own_format.Goals as goal

pub overflow_add-own : goal.overflow_add-own
overflow_add-own c =
    let p = c.args.products.now in
    let most = power_order (p.input.width + 39) 90 (omega (arith, c.requires.widths.input.most)) in
    omega (arith, c.reach_over-reach.ensures.above, most, c.from.ensures, c.requires.widths.half)

pub covering-requires-clause-below : goal.covering-requires-clause-below
covering-requires-clause-below c =
    let p = c.args.products.now in
    let most = power_order (p.input.width + 39) 90 (omega (arith, c.requires.widths.input.most)) in
    omega (arith, c.reach_over-reach.ensures.below, most)

pub covering-requires-clause-above : goal.covering-requires-clause-above
covering-requires-clause-above c =
    let p = c.args.products.now in
    let most = power_order (p.input.width + 39) 90 (omega (arith, c.requires.widths.input.most)) in
    omega (arith, c.reach_over-reach.ensures.above, most, c.from.ensures, c.requires.widths.half)

pub returns-clause-wide : goal.returns-clause-wide
returns-clause-wide c =
    let p = c.args.products.now in
    let fits : FitsSigned w32 p.input.lsb = search rules in
    let same : c.covering.result ≡ own_format_of p c.args.taps.now = search rules in
    subst (λ (f : Format). IsWidth f.width) (sym same) (own-wide p c.requires.widths c.args.taps.now c.requires.few c.requires.small)
