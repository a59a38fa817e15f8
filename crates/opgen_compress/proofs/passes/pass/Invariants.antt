use Rattle.std.proofs.Common.{◌≡◌, length, [], ◌++◌}
use Rattle.std.specs.Prelude.{All}
use Rattle.opgen_net.specs.Valid.{IsValid, widths}
use Rattle.opgen_net.specs.WordRule.{IsThere}
use Rattle.opgen_compress.specs.Recipe.{pass}
use Rattle.opgen_heap.specs.Standing.{AllThere}
use Rattle.opgen_compress.proofs.passes.pass.Given as goal

abbrev pub invariant-columns : goal.invariant-columns
invariant-columns l =
    let rest = pass l.height l.net l.carries l.rest.items in
    (pass l.height l.initial.net [] l.initial.rest.items ≡ record { net = rest.net; columns = l.lower ++ rest.columns })
    × AllThere l.net l.rest.items
    × All (IsThere (widths l.net.nodes)) l.carries
    × IsValid l.net

abbrev pub decreases-columns : goal.decreases-columns
decreases-columns l = length l.rest.items
