use Rattle.opgen_vec.proofs.GoodRows.{good_row}
use Rattle.opgen_vec.proofs.good_row.is_good_row.Goals as goal

pub returns : goal.returns
returns c = good_row c.good.result c.good.ensures.in_range c.good.ensures.out_of_range
