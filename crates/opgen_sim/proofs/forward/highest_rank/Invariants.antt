use Rattle.std.proofs.Common.{ℕ, ◌<◌, ◌≤◌, get_or}
use Rattle.opgen_sim.proofs.forward.highest_rank.Given as goal

abbrev pub invariant-loop-rank : goal.invariant-loop-rank
invariant-loop-rank l = (s : ℕ) → s < l.rank-index → get_or l.ranks s 0 ≤ l.highest
