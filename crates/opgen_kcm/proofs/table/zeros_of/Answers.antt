use Rattle.std.proofs.Common.{ap, ◌∙◌, sym, arith}
use Rattle.opgen_num.specs.Formats.{digit_count}
use Rattle.opgen_num.proofs.RangeWidth.{count-least}
use Rattle.opgen_kcm.specs.Entries.{zeros_within}
use Rattle.opgen_kcm.proofs.Shapes.{zeros-step}
use Rattle.opgen_kcm.proofs.table.zeros_of.Goals as goal

pub zeros-init : goal.zeros-init
zeros-init c = record {
  value = ap (λ n. zeros_within n c.args.numbers.now) (c.digit_count-zeros.ensures ∙ ap digit_count c.requires.greatest);
  few = omega (arith, c.digit_count-zeros.ensures, count-least c.args.greatest 127 c.requires.small);
}

pub zeros-preserved : goal.zeros-preserved
zeros-preserved c = record {
  value = zeros-step c.zeros.zeros c.args.numbers.now c.zeros-test.true (sym c.divides_all.ensures ∙ c.if-not-divides_all.true)
      ∙ c.zeros.invariant.value;
  few = omega (arith, c.zeros.invariant.few);
}
