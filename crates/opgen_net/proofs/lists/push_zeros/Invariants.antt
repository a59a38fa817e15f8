use Rattle.std.proofs.Common.{◌≡◌, ◌++◌, replicate}
use Rattle.opgen_net.specs.declared.word_bits.WordBit.TheVariants.{Zero}
use Rattle.opgen_net.proofs.lists.push_zeros.Given as goal

abbrev pub invariant-zeros : goal.invariant-zeros
invariant-zeros l = l.bits ≡ l.fn.bits ++ replicate l.k Zero
