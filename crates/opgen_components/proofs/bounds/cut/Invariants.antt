use Rattle.std.proofs.Common.{ℕ, ◌≤◌, ◌<◌, length, slice_index}
use Rattle.opgen_components.proofs.bounds.cut.Given as goal

abbrev pub invariant-places : goal.invariant-places
invariant-places l = (l.kept ≤ length l.places.items)
    × ((i : ℕ) → l.kept ≤ i → i < length l.places.items → l.place < slice_index l.places.items i)

abbrev pub decreases-places : goal.decreases-places
decreases-places l = l.kept
