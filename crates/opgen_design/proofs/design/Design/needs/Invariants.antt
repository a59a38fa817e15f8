use Rattle.std.proofs.Common.{◌≡◌, ℕ, ◌<◌, length, get_or, None, []}
use Rattle.opgen_components.specs.Graph.{graph_of}
use Rattle.opgen_design.specs.Rules.{needs_at}
use Rattle.opgen_design.proofs.design.Design.needs.Given as goal

abbrev pub invariant-loop-i : goal.invariant-loop-i
invariant-loop-i l = (length l.needs.items ≡ l.i)
    × ((s : ℕ) → s < l.i → get_or (graph_of l.needs.items) s [] ≡ needs_at l.self (get_or l.firsts s None))
