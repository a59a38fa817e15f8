use Rattle.std.proofs.Common.{refl}
use Rattle.opgen_document.specs.Keys.{arrays}
use Rattle.opgen_document.proofs.array.arrays.Goals as goal

pub returns : goal.returns
unfolding arrays
returns c = refl
