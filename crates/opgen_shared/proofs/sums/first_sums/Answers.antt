use Rattle.std.proofs.Common.{refl, ap, subst, sym}
use Rattle.std.proofs.Math.ListN.{set}
use Rattle.opgen_shared.specs.Sums.{AreSums}
use Rattle.opgen_shared.proofs.Growing.{first_sums}
use Rattle.opgen_shared.proofs.sums.first_sums.Goals as goal

pub returns-clause-sums : goal.returns-clause-sums
returns-clause-sums c =
    subst (λ done. AreSums done (set c.in_ok-levels.levels.items 1 1)) (sym c.new.ensures)
    (first_sums 2097152 _ refl (ap (λ xs. set xs 1 1) (c.in_ok-levels.ensures.items_if_clones_equal (λ y e. e))))
