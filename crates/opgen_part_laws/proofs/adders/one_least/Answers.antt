use Rattle.opgen_search.proofs.Order.{neither_before}
use Rattle.opgen_part_laws.proofs.adders.one_least.Goals as goal

pub returns : goal.returns
returns c = λ targets width extra set other first second. neither_before width set other (second.least set first.member)
    (first.least other second.member)
