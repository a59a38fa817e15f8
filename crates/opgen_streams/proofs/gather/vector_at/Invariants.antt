use Rattle.std.proofs.Common.{◌≡◌, ℕ, ◌+◌, ◌<◌, ◌≤◌, [], length, get_or}
use Rattle.std.specs.Int.{bit_at}
use Rattle.opgen_streams.proofs.gather.vector_at.Given as goal

abbrev pub invariant-rows : goal.invariant-rows
invariant-rows l = record {
  within : l.left ≤ length l.words;
  bits : (i j : ℕ) → i < 4 → j < 64 → bit_at (get_or l.vector i 0) j ≡ bit_at (get_or (get_or l.words (l.left + j) []) i 0) l.place;
}

abbrev pub decreases-rows : goal.decreases-rows
decreases-rows l = l.left
