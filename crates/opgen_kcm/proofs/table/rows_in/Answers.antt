use Rattle.std.proofs.Common.{◌/◌, ◌^◌, ◌<◌, get_or, sym, subst}
use Rattle.opgen_kcm.proofs.Shapes.{row-fits}
use Rattle.opgen_kcm.specs.declared.table.Shape.{Shape}
use Rattle.opgen_kcm.proofs.table.rows_in.Goals as goal

pub new-requires : goal.new-requires
new-requires c =
    let n = get_or c.args.offsets.now c.rows.offset-index 0 in
    rw c.power-unit.ensures.value
    (subst (λ (s : Shape). n / 2 ^ s.zeros < 2 ^ s.width) (sym c.requires.shape)
    (row-fits c.args.offsets.now c.rows.offset-index c.rows-test.true))
