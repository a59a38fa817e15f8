-- What a bit heap contains after bits and constants were added.
use Rattle.std.specs.Prelude.{ℕ, ◌≡◌, zero, suc, ◌+◌, ◌^◌, ℤ, pos, ◌+ℤ◌, List, [], ◌∷◌, ◌++◌, if◌then◌else◌, nat_lt}
use Rattle.std.specs.Int.{int_rem_euclid}
use Rattle.std.specs.Int.RustNames.{unsigned_abs}
use Rattle.opgen_net.specs.declared.word_bits.WordBit.{WordBit}
use Rattle.opgen_net.specs.declared.word_bits.WordBit.TheVariants.{Of}
use Rattle.opgen_heap.specs.Contents.{Contents}
use Rattle.opgen_heap.specs.Sum.{Words, heap_sum}

-- a bit more at the end of a column
abbrev pub with_bit_at : List (List WordBit) → (place : ℕ) → WordBit → List (List WordBit)
with_bit_at [] zero b = (b ∷ []) ∷ []
with_bit_at [] (suc k) b = [] ∷ with_bit_at [] k b
with_bit_at (c ∷ cs) zero b = (c ++ b ∷ []) ∷ cs
with_bit_at (c ∷ cs) (suc k) b = c ∷ with_bit_at cs k b

-- a bit more in column `weight`, unless the heap is not so wide
abbrev pub with_bit : Contents → WordBit → (weight : ℕ) → Contents
with_bit heap b weight = if nat_lt weight heap.width then record heap { columns = with_bit_at heap.columns weight b } else heap

-- the lowest bits of a node, so many, from column `weight` up
abbrev pub with_row : Contents → (node count weight : ℕ) → Contents
with_row heap node zero weight = heap
with_row heap node (suc k) weight = with_bit (with_row heap node k weight) (Of node k) (weight + k)

-- what is left of a whole number by a division that rounds down
abbrev pub residue : ℤ → ℕ → ℕ
residue z m = unsigned_abs (int_rem_euclid z (pos m))

abbrev pub with_constant : Contents → ℤ → Contents
with_constant heap z = record heap { constant = residue (pos heap.constant +ℤ z) (2 ^ heap.width) }

-- whatever words the nodes have, the heap's sum has grown by a whole number, modulo 2 to the width
abbrev pub GainsWhole : (old : Contents) → ℤ → (new : Contents) → Type 0
GainsWhole old z new = (words : Words) → heap_sum words new ≡ residue (pos (heap_sum words old) +ℤ z) (2 ^ old.width)
