use Rattle.std.proofs.Common.{◌≡◌, ◌≤◌, length, reverse}
use Rattle.std.specs.Prelude.{All}
use Rattle.opgen_net.specs.Valid.{IsValid}
use Rattle.opgen_compress.specs.Recipe.{passes, lowered}
use Rattle.opgen_heap.specs.Standing.{AllThere}
use Rattle.opgen_compress.proofs.passes.lower.Given as goal

abbrev pub invariant-falling : goal.invariant-falling
invariant-falling l =
    (passes (reverse l.left.items) l.net l.columns.items ≡ lowered l.initial.net l.initial.columns.items)
    × All (λ h. 2 ≤ h) l.left.items
    × AllThere l.net l.columns.items
    × IsValid l.net

abbrev pub decreases-falling : goal.decreases-falling
decreases-falling l = length l.left.items
