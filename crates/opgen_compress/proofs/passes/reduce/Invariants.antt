use Rattle.std.proofs.Common.{◌≡◌, ◌-◌, length, []}
use Rattle.opgen_net.specs.Valid.{IsValid}
use Rattle.opgen_compress.specs.Adder.{Work}
use Rattle.opgen_compress.specs.Recipe.{reduced}
use Rattle.opgen_compress.specs.Kept.{WorkThere}
use Rattle.opgen_compress.proofs.passes.reduce.Given as goal

-- the adders that are left give what all adders give
abbrev pub invariant-adders : goal.invariant-adders
invariant-adders l =
    let now : Work = record { net = l.net; column = l.column; carries = l.carries } in
    let start : Work = record { net = l.initial.net; column = l.initial.column; carries = [] } in
    (l.excess ≡ length l.column - l.height) × (reduced l.excess l.top now ≡ reduced (length l.initial.column - l.height) l.top start)
    × WorkThere now × IsValid l.net

abbrev pub decreases-adders : goal.decreases-adders
decreases-adders l = l.excess
