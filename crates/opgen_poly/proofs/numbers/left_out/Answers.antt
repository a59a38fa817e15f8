use Rattle.opgen_poly.proofs.Cuts.{cut-is}
use Rattle.opgen_poly.proofs.numbers.left_out.Goals as goal

pub returns : goal.returns
returns c = cut-is c.args.m c.args.width c.drop_columns.result.columns c.drop_columns.ensures.columns
